use Rattle.lb_base.specs.declared.node.Node.{Node}
use Rattle.lb_nest.proofs.EndingLemmas.{italic-at}
use Rattle.std.proofs.Common.{rules, ◌≡◌, ◌-◌, ◌<◌, suc, length, Some, arith, sym, subst}
use Rattle.std.proofs.lemmas.Option.{slice_get_within}
use Rattle.std.specs.List.{slice_get}
use Rattle.std.specs.Prelude.{IfOk, List}
use Rattle.lb_nest.proofs.corrections.italic_behind.Goals as goal

pub returns-in-Some : goal.returns-in-Some
returns-in-Some c =
    let l = c.args.list.now in
    let at : slice_get l (length l - 1) ≡ Some c.in-Some.last.now = search rules in
    let within : length l - 1 < length l = slice_get_within l (length l - 1) c.in-Some.last.now at in
    let size : suc (length l - 1) ≡ length l = omega (arith, within) in
    subst (λ (r : List Node). IfOk c.italic_in.result (λ nodes. nodes ≡ r)) (sym (italic-at l (length l - 1) c.in-Some.last.now size at)) c.italic_in.ensures
