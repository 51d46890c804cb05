use Rattle.std.proofs.Common.{refl, sym, w32}
use Rattle.std.proofs.lemmas.Int.{to_z-of_z}
use Rattle.lb_model_nest.specs.declared.turn.Went.TheVariants.{On}
use Rattle.lb_model_nest.specs.Wholes.{Executed, Whole, executed}
use Rattle.lb_engine.proofs.RowLemmas.{read-ends, read-fails, read-then}
use Rattle.lb_engine.specs.Reads.{behind_reading}
use Rattle.lb_engine.specs.declared.reading.Reading.TheVariants as reading
use Rattle.lb_base.specs.declared.token.Tok.{Tok}
use Rattle.std.specs.Prelude.{List, Option}
use Rattle.lb_engine.proofs.new_macros.default_behind.Goals as goal

pub returns-in-Of : goal.returns-in-Of
returns-in-Of g c = record {
  leads = λ row.
      let of : Option (List Tok) → Whole → Executed = λ default u. row c.args.count default u in
      read-ends (behind_reading of) (behind_reading (λ t. row t.0 t.1)) _ c.in-Of.is (λ i. row (sym (to_z-of_z w32 c.args.count c.ranges.count) i) c.in-Of.default) (c.in_ok-default.ensures.leads of);
}

pub returns-in-Stops : goal.returns-in-Stops
returns-in-Stops g c = record {
  leads = λ row.
      let of : Option (List Tok) → Whole → Executed = λ default u. row c.args.count default u in
      read-ends (behind_reading of) (behind_reading (λ t. row t.0 t.1)) (reading.Stops c.in-Stops.went) c.in-Stops.is refl (c.in_ok-default.ensures.leads of);
}

pub returns-in_err-default : goal.returns-in_err-default
returns-in_err-default g c = record {
  leads = λ row.
      let of : Option (List Tok) → Whole → Executed = λ default u. row c.args.count default u in
      read-fails c.from_residual.result c.from_residual.ensures.0 (c.in_err-default.ensures.leads of);
}
