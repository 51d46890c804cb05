use Rattle.std.proofs.Common.{FitsSigned, refl, rules, w32}
use Rattle.std.proofs.lemmas.Int.{to_z-of_z}
use Rattle.lb_model_nest.specs.declared.turn.Went.TheVariants.{On}
use Rattle.lb_model_nest.specs.Wholes.{Executed, Whole, executed}
use Rattle.lb_engine.proofs.RowLemmas.{act-is, read-ends, read-fails, read-then}
use Rattle.lb_engine.specs.Reads.{behind_reading}
use Rattle.lb_engine.specs.declared.reading.Reading.TheVariants as read
use Rattle.lb_base.specs.declared.token.Tok.{Tok}
use Rattle.std.specs.Prelude.{List, Option}
use Rattle.std.specs.Prelude.{ℤ}
use Rattle.lb_model_engine.specs.Reads.{bracket, reading}
use Rattle.lb_engine.proofs.new_macros.count_in.Goals as goal

pub default_behind-requires : goal.default_behind-requires
default_behind-requires g c = record { holds = (c.in_ok-count.ensures.leads (λ n. executed On)).keeps }

pub returns-in-Of : goal.returns-in-Of
returns-in-Of g c = record {
  leads = λ row.
      let of : ℤ → Whole → Executed = λ n v. reading bracket (λ default u. row n default u) v in
      read-then (behind_reading of) c.default_behind.result c.in-Of.is (c.in_ok-count.ensures.leads of) (act-is (λ k. reading bracket (λ default u. row k default u)) c.default_behind.result (let fits : FitsSigned w32 c.in-Of.count = search rules in to_z-of_z w32 c.in-Of.count fits) (c.default_behind.ensures.leads row));
}

pub returns-in-Stops : goal.returns-in-Stops
returns-in-Stops g c = record {
  leads = λ row.
      let of : ℤ → Whole → Executed = λ n v. reading bracket (λ default u. row n default u) v in
      read-ends (behind_reading of) (behind_reading (λ t. row t.0 t.1)) (read.Stops c.in-Stops.went) c.in-Stops.is refl (c.in_ok-count.ensures.leads of);
}

pub returns-in_err-count : goal.returns-in_err-count
returns-in_err-count g c = record {
  leads = λ row.
      let of : ℤ → Whole → Executed = λ n v. reading bracket (λ default u. row n default u) v in
      read-fails c.from_residual.result c.from_residual.ensures.0 (c.in_err-count.ensures.leads of);
}
