use Rattle.std.proofs.Common.{reverse, subst}
use Rattle.std.specs.Prelude.{nat_lt}
use Rattle.std.proofs.lemmas.Bool.{ltb-true}
use Rattle.lb_groups.specs.Open.{HasRoom}
use Rattle.lb_groups.proofs.StackedLemmas.{has_room, not_false}
use Rattle.lb_groups.proofs.groups.Groups.is_full.Goals as goal

pub returns : goal.returns
returns c =
    let r = c.self.inside in
    λ h. subst HasRoom c.self.view_is (has_room r.inner (reverse r.around.items) (ltb-true r.inner.saves 18446744073709551615 (not_false (nat_lt r.inner.saves 18446744073709551615) h)))
