use Rattle.std.proofs.Common.{FitsSigned, rules, sym, w32}
use Rattle.std.proofs.lemmas.Int.{to_z-of_z}
use Rattle.lb_model_expansion.specs.Expansion.{index_closed, picks}
use Rattle.lb_expand.specs.Closings.{number_used}
use Rattle.lb_expand.proofs.CloseLemmas.{closes-as}
use Rattle.lb_expand.proofs.feeder.Feeder.use_number.Goals as goal

pub returns-in-Index-clause-closes : goal.returns-in-Index-clause-closes
returns-in-Index-clause-closes g c =
    let fits : FitsSigned w32 c.args.number = search rules in
    closes-as (λ u. number_used u c.args.number) c.pick.result c.in-Index.is
    (closes-as (λ n. index_closed c.in-Index.indexed (picks n)) c.pick.result (sym (to_z-of_z w32 c.args.number fits)) c.pick.ensures.closes)
