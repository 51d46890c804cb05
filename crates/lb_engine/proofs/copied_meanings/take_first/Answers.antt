use Rattle.std.proofs.Common.{[], refl, ◌∷◌}
use Rattle.lb_model_nest.specs.declared.turn.Went.TheVariants.{On}
use Rattle.lb_model_nest.specs.Wholes.{Executed, Whole, and_then, executed, put}
use Rattle.lb_engine.proofs.RowLemmas.{read-ends, read-fails, read-then}
use Rattle.lb_engine.specs.Reads.{behind_reading}
use Rattle.lb_model_engine.specs.Definitions.{meaning_copied}
use Rattle.lb_model_engine.specs.Reads.{taking}
use Rattle.lb_base.specs.declared.token.Tok.{Tok}
use Rattle.lb_engine.proofs.copied_meanings.take_first.Goals as goal

pub take_second-requires : goal.take_second-requires
take_second-requires g c = record { name = c.requires.name; holds = (c.in_ok-first.ensures.leads (λ n. executed On)).keeps }

pub returns-in-Of : goal.returns-in-Of
returns-in-Of g c =
    let row : Tok → Whole → Executed = λ first u. taking (λ second x. and_then (put (first ∷ second ∷ []) x) (meaning_copied c.args.reach c.args.name.now second)) u in
    record { goes = read-then (behind_reading row) c.take_second.result c.in-Of.is (c.in_ok-first.ensures.leads row) c.take_second.ensures.goes }

pub returns-in-Stops : goal.returns-in-Stops
returns-in-Stops g c =
    let row : Tok → Whole → Executed = λ first u. taking (λ second x. and_then (put (first ∷ second ∷ []) x) (meaning_copied c.args.reach c.args.name.now second)) u in
    record { goes = read-ends (behind_reading row) executed c.in-Stops.went c.in-Stops.is refl (c.in_ok-first.ensures.leads row) }

pub returns-in_err-first : goal.returns-in_err-first
returns-in_err-first g c =
    let row : Tok → Whole → Executed = λ first u. taking (λ second x. and_then (put (first ∷ second ∷ []) x) (meaning_copied c.args.reach c.args.name.now second)) u in
    record { goes = read-fails c.from_residual.result c.from_residual.ensures.0 (c.in_err-first.ensures.leads row) }
