use Rattle.std.proofs.Common.{[], refl, subst, ◌∷◌}
use Rattle.lb_model_nest.specs.declared.turn.Went.TheVariants.{On}
use Rattle.lb_model_nest.specs.Wholes.{Executed, Whole, and_then, executed, put}
use Rattle.lb_engine.proofs.RowLemmas.{read-ends, read-fails, read-then}
use Rattle.lb_engine.specs.Reads.{behind_reading}
use Rattle.lb_engine.specs.Names.{IsName}
use Rattle.lb_model_engine.specs.Definitions.{futurelet_row, meaning_copied}
use Rattle.lb_model_engine.specs.Reads.{taking}
use Rattle.lb_values.specs.declared.cell.Cell.{Cell}
use Rattle.lb_engine.proofs.copied_meanings.futurelet.Goals as goal

pub take_first-requires : goal.take_first-requires
take_first-requires g c = record { name = subst IsName c.in-Of.is c.in_ok-name.ensures.name; holds = (c.in_ok-name.ensures.leads (λ n. executed On)).keeps }

pub returns-in-Of : goal.returns-in-Of
unfolding futurelet_row
returns-in-Of g c =
    let row : Cell → Whole → Executed = λ name v. taking (λ first u. taking (λ second x. and_then (put (first ∷ second ∷ []) x) (meaning_copied c.args.reach name second)) u) v in
    record { goes = read-then (behind_reading row) c.take_first.result c.in-Of.is (c.in_ok-name.ensures.leads row) c.take_first.ensures.goes }

pub returns-in-Stops : goal.returns-in-Stops
unfolding futurelet_row
returns-in-Stops g c =
    let row : Cell → Whole → Executed = λ name v. taking (λ first u. taking (λ second x. and_then (put (first ∷ second ∷ []) x) (meaning_copied c.args.reach name second)) u) v in
    record { goes = read-ends (behind_reading row) executed c.in-Stops.went c.in-Stops.is refl (c.in_ok-name.ensures.leads row) }

pub returns-in_err-name : goal.returns-in_err-name
unfolding futurelet_row
returns-in_err-name g c =
    let row : Cell → Whole → Executed = λ name v. taking (λ first u. taking (λ second x. and_then (put (first ∷ second ∷ []) x) (meaning_copied c.args.reach name second)) u) v in
    record { goes = read-fails c.from_residual.result c.from_residual.ensures.0 (c.in_err-name.ensures.leads row) }
