use Rattle.std.proofs.Common.{◌≡◌, refl}
use Rattle.lb_model_engine.specs.NewNames.{named_by}
use Rattle.lb_values.specs.declared.cell.Cell.{Cell}
use Rattle.lb_model.proofs.TakenLemmas.{if-ok}
use Rattle.lb_model_nest.specs.Wholes.{Executed, Whole}
use Rattle.lb_engine.proofs.LookLemmas.{if-fails}
use Rattle.lb_engine.proofs.RowLemmas.{read-ends, read-fails}
use Rattle.lb_engine.proofs.NewMacroLemmas.{reads-out}
use Rattle.lb_engine.specs.Names.{IsName}
use Rattle.lb_engine.specs.Reads.{behind_reading}
use Rattle.lb_engine.specs.declared.reading.Reading.TheVariants as reading
use Rattle.lb_engine.proofs.new_commands.name_argument.Goals as goal

pub returns-in-Of : goal.returns-in-Of
returns-in-Of g c = record {
  name = c.named_by.ensures.name;
  leads = λ row. reads-out (behind_reading (λ toks v. named_by toks row v)) (behind_reading row) c.named_by.result c.in-Of.is (if-ok (λ r. (row : Cell → Whole → Executed) (w : Whole) → named_by c.in-Of.toks row w ≡ behind_reading row r w) (λ r. (w : Whole) → named_by c.in-Of.toks row w ≡ behind_reading row r w) c.named_by.result (λ r h. h row) c.named_by.ensures.control) (c.in_ok-toks.ensures.leads (λ toks v. named_by toks row v));
}

pub returns-in-Stops : goal.returns-in-Stops
returns-in-Stops g c = record {
  name = tt;
  leads = λ row. read-ends (behind_reading (λ toks v. named_by toks row v)) (behind_reading row) (reading.Stops c.in-Stops.went) c.in-Stops.is refl (c.in_ok-toks.ensures.leads (λ toks v. named_by toks row v));
}

pub returns-in_err-toks : goal.returns-in_err-toks
returns-in_err-toks g c = record {
  name = if-fails IsName c.from_residual.result c.from_residual.ensures.0;
  leads = λ row. read-fails c.from_residual.result c.from_residual.ensures.0 (c.in_err-toks.ensures.leads (λ toks v. named_by toks row v));
}
