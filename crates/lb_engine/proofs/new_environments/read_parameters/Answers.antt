use Rattle.std.proofs.Common.{FitsSigned, refl, rules, w32}
use Rattle.std.proofs.lemmas.Int.{to_z-of_z}
use Rattle.lb_model_nest.specs.declared.turn.Went.TheVariants.{On}
use Rattle.lb_model_nest.specs.Wholes.{Executed, Whole, executed}
use Rattle.lb_engine.proofs.RowLemmas.{act-is, read-ends, read-fails, read-then}
use Rattle.lb_engine.specs.Reads.{behind_reading}
use Rattle.lb_base.specs.declared.token.Tok.{Tok}
use Rattle.std.specs.Prelude.{List, Option}
use Rattle.std.specs.Prelude.{ℤ}
use Rattle.lb_engine.specs.NewMacros.{begins_argument}
use Rattle.lb_engine.proofs.new_environments.read_parameters.Goals as goal

pub read_begins-requires : goal.read_begins-requires
read_begins-requires g c = record { holds = (c.in_ok-count.ensures.leads (λ n d. executed On)).keeps }

pub returns-in-Of : goal.returns-in-Of
returns-in-Of g c =
    let row : ℤ → Option (List Tok) → Whole → Executed = λ count default u. begins_argument c.args.kind c.args.name.now count default u in
    record { goes = read-then (behind_reading (λ t. row t.0 t.1)) c.read_begins.result c.in-Of.is (c.in_ok-count.ensures.leads row) (act-is (λ k. begins_argument c.args.kind c.args.name.now k c.in-Of.default) c.read_begins.result (let fits : FitsSigned w32 c.in-Of.count = search rules in to_z-of_z w32 c.in-Of.count fits) c.read_begins.ensures.goes) }

pub returns-in-Stops : goal.returns-in-Stops
returns-in-Stops g c =
    let row : ℤ → Option (List Tok) → Whole → Executed = λ count default u. begins_argument c.args.kind c.args.name.now count default u in
    record { goes = read-ends (behind_reading (λ t. row t.0 t.1)) executed c.in-Stops.went c.in-Stops.is refl (c.in_ok-count.ensures.leads row) }

pub returns-in_err-count : goal.returns-in_err-count
returns-in_err-count g c =
    let row : ℤ → Option (List Tok) → Whole → Executed = λ count default u. begins_argument c.args.kind c.args.name.now count default u in
    record { goes = read-fails c.from_residual.result c.from_residual.ensures.0 (c.in_err-count.ensures.leads row) }
