use Rattle.std.proofs.Common.{refl}
use Rattle.lb_model_nest.specs.declared.turn.Went.TheVariants.{On}
use Rattle.lb_model_nest.specs.Wholes.{Executed, Whole, executed}
use Rattle.lb_engine.proofs.RowLemmas.{read-ends, read-fails, read-then}
use Rattle.lb_engine.specs.Reads.{behind_reading}
use Rattle.lb_engine.specs.declared.reading.Reading.TheVariants as reading
use Rattle.lb_base.specs.declared.token.Tok.{Tok}
use Rattle.std.specs.Prelude.{List, Option}
use Rattle.lb_model_engine.specs.NewNames.{count_behind}
use Rattle.lb_engine.proofs.new_macros.parameters.Goals as goal

pub count_behind-requires : goal.count_behind-requires
count_behind-requires g c = record { holds = (c.in_ok-toks.ensures.leads (λ n. executed On)).keeps }

pub returns-in-Of : goal.returns-in-Of
returns-in-Of g c = record {
  leads = λ row.
      let of : Option (List Tok) → Whole → Executed = λ toks v. count_behind toks row v in
      read-then (behind_reading of) c.count_behind.result c.in-Of.is (c.in_ok-toks.ensures.leads of) (c.count_behind.ensures.leads row);
}

pub returns-in-Stops : goal.returns-in-Stops
returns-in-Stops g c = record {
  leads = λ row.
      let of : Option (List Tok) → Whole → Executed = λ toks v. count_behind toks row v in
      read-ends (behind_reading of) (behind_reading (λ t. row t.0 t.1)) (reading.Stops c.in-Stops.went) c.in-Stops.is refl (c.in_ok-toks.ensures.leads of);
}

pub returns-in_err-toks : goal.returns-in_err-toks
returns-in_err-toks g c = record {
  leads = λ row.
      let of : Option (List Tok) → Whole → Executed = λ toks v. count_behind toks row v in
      read-fails c.from_residual.result c.from_residual.ensures.0 (c.in_err-toks.ensures.leads of);
}
