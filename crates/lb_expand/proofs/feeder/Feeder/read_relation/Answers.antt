use Rattle.std.proofs.Common.{FitsSigned, rules, sym, w32}
use Rattle.std.proofs.lemmas.Int.{to_z-of_z}
use Rattle.lb_model.specs.declared.open.ReadingKind.TheVariants.{Relation}
use Rattle.lb_model_expansion.specs.Expansion.{opened_uncounted}
use Rattle.lb_expand.proofs.PassLemmas.{performs-as, works_performs}
use Rattle.lb_expand.proofs.feeder.Feeder.read_relation.Goals as goal

pub returns-clause-performs : goal.returns-clause-performs
returns-clause-performs g c =
    let fits : FitsSigned w32 c.args.left = search rules in
    performs-as (λ n. opened_uncounted (Relation c.args.compared n)) c.keep.result (sym (to_z-of_z w32 c.args.left fits)) (works_performs g.C.Cells c.args.self.now.cells.now c.keep.result c.keep.ensures.works)
