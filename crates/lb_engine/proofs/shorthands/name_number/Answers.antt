use Rattle.std.proofs.Common.{◌∙◌, ap, refl}
use Rattle.lb_model.specs.Ranges.{is_meaning}
use Rattle.lb_values.specs.declared.value.Value.TheVariants as value
use Rattle.lb_model_engine.specs.Definitions.{register_meaning}
use Rattle.lb_model_nest.specs.declared.turn.Went.TheVariants.{On}
use Rattle.lb_model_nest.specs.Wholes.{Executed, Whole, change, executed}
use Rattle.lb_values.specs.declared.cell.Cell.{Cell}
use Rattle.lb_values.specs.declared.cell.RegisterKind.{RegisterKind}
use Rattle.lb_values.specs.declared.reach.Reach.{Reach}
use Rattle.std.specs.Prelude.{ℕ}
use Rattle.lb_engine.proofs.AssignLemmas.{name-fits, name-settable, register-meaning}
use Rattle.lb_engine.proofs.RowLemmas.{read-ends, read-fails, read-then, act-is}
use Rattle.lb_engine.specs.Reads.{behind_reading}
use Rattle.lb_engine.proofs.shorthands.name_number.Goals as goal

-- the name is set
abbrev set : RegisterKind → Reach → Cell → ℕ → Whole → Executed
set kind reach name n x = change reach name (value.Meaning (register_meaning kind n)) x

pub change-requires : goal.change-requires
change-requires g c =
    let m = c.register_meaning-meaning in
    record {
      settable = name-settable c.args.name.now m.result c.requires.name;
      fits = λ p h s. name-fits c.args.name.now m.result c.requires.name (ap is_meaning m.ensures ∙ register-meaning c.args.kind c.in-Of.number);
      holds = (c.in_ok-number.ensures.leads (λ n. executed On)).keeps;
    }

pub returns-in-Of : goal.returns-in-Of
returns-in-Of g c =
    let row = set c.args.kind c.args.reach c.args.name.now in
    record {
      goes = read-then (behind_reading row) c.change.result c.in-Of.is (c.in_ok-number.ensures.leads row)
          (act-is (λ m. change c.args.reach c.args.name.now (value.Meaning m)) c.change.result c.register_meaning-meaning.ensures c.change.ensures.goes);
    }

pub returns-in-Stops : goal.returns-in-Stops
returns-in-Stops g c =
    let row = set c.args.kind c.args.reach c.args.name.now in
    record { goes = read-ends (behind_reading row) executed c.in-Stops.went c.in-Stops.is refl (c.in_ok-number.ensures.leads row) }

pub returns-in_err-number : goal.returns-in_err-number
returns-in_err-number g c = record { goes = read-fails c.from_residual.result c.from_residual.ensures.0 (c.in_err-number.ensures.leads (set c.args.kind c.args.reach c.args.name.now)) }
