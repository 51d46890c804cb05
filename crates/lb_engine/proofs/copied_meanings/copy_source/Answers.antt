use Rattle.std.proofs.Common.{refl}
use Rattle.lb_model_nest.specs.declared.turn.Went.TheVariants.{On}
use Rattle.lb_model_nest.specs.Wholes.{Executed, Whole, executed}
use Rattle.lb_engine.proofs.RowLemmas.{read-ends, read-fails, read-then}
use Rattle.lb_engine.specs.Reads.{behind_reading}
use Rattle.lb_model_engine.specs.Definitions.{meaning_copied}
use Rattle.lb_base.specs.declared.token.Tok.{Tok}
use Rattle.lb_engine.proofs.copied_meanings.copy_source.Goals as goal

pub copy_meaning-requires : goal.copy_meaning-requires
copy_meaning-requires g c = record { name = c.requires.name; holds = (c.in_ok-tok.ensures.leads (λ n. executed On)).keeps }

pub returns-in-Of : goal.returns-in-Of
returns-in-Of g c =
    let row : Tok → Whole → Executed = λ tok u. meaning_copied c.args.reach c.args.name.now tok u in
    record { goes = read-then (behind_reading row) c.copy_meaning.result c.in-Of.is (c.in_ok-tok.ensures.leads row) c.copy_meaning.ensures.goes }

pub returns-in-Stops : goal.returns-in-Stops
returns-in-Stops g c =
    let row : Tok → Whole → Executed = λ tok u. meaning_copied c.args.reach c.args.name.now tok u in
    record { goes = read-ends (behind_reading row) executed c.in-Stops.went c.in-Stops.is refl (c.in_ok-tok.ensures.leads row) }

pub returns-in_err-tok : goal.returns-in_err-tok
returns-in_err-tok g c =
    let row : Tok → Whole → Executed = λ tok u. meaning_copied c.args.reach c.args.name.now tok u in
    record { goes = read-fails c.from_residual.result c.from_residual.ensures.0 (c.in_err-tok.ensures.leads row) }
