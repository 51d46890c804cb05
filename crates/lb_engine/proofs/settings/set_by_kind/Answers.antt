use Rattle.std.proofs.Common.{◌∙◌, ap, sym, true, false}
use Rattle.std.specs.Prelude.{Bool, if◌then◌else◌}
use Rattle.lb_base.specs.declared.fault.Kind.TheVariants.{BadCode}
use Rattle.lb_values.specs.declared.cell.Cell.{Cell}
use Rattle.lb_values.specs.declared.reach.Reach.{Reach}
use Rattle.lb_values.specs.declared.value.Value.{Value}
use Rattle.lb_values.specs.declared.value.Value.TheVariants as value
use Rattle.lb_model.specs.Assignments.{registered, takes_dimension, takes_glue, takes_tokens}
use Rattle.lb_model_engine.specs.Reads.{dimension, glue, number}
use Rattle.lb_model_engine.specs.Registers.{tokens}
use Rattle.lb_model_nest.specs.Wholes.{Executed, Whole, change_or}
use Rattle.lb_engine.proofs.RowLemmas.{act-is}
use Rattle.lb_engine.proofs.settings.set_by_kind.Goals as goal

-- the cell is set to it
abbrev to : Reach → Cell → Value → Whole → Executed
to reach cell x v = change_or BadCode reach cell (registered cell x) v

-- by what it takes
abbrev by : (Value → Whole → Executed) → Bool → Bool → Bool → Whole → Executed
by row n d s w =
    if n then number (λ x v. row (value.Number x) v) w
    else (if d then dimension (λ x v. row (value.Dimen x) v) w
    else (if s then glue (λ x v. row (value.Glue x) v) w
    else tokens (λ x v. row (value.Tokens x) v) w))

pub set_tokens-requires : goal.set_tokens-requires
set_tokens-requires g c =
    let cell = c.args.cell.now in
    let n = sym c.takes_number.ensures ∙ c.if-takes_number.false in
    let d = sym c.takes_dimension.ensures ∙ c.if-takes_dimension.false in
    let s = sym c.takes_glue.ensures ∙ c.if-takes_glue.false in
    record {
      takes = sym
          (
          ap (λ b. if b then true else (if takes_dimension cell then true else (if takes_glue cell then true else takes_tokens cell))) n
          ∙ ap (λ b. if b then true else (if takes_glue cell then true else takes_tokens cell)) d
          ∙ ap (λ b. if b then true else takes_tokens cell) s
          )
          ∙ c.requires.variable;
      holds = c.requires.holds;
    }

pub returns-then-takes_number : goal.returns-then-takes_number
returns-then-takes_number g c =
    let row = to c.args.reach c.args.cell.now in
    let n = sym (sym c.takes_number.ensures ∙ c.if-takes_number.true) in
    record { goes = act-is (λ b. by row b (takes_dimension c.args.cell.now) (takes_glue c.args.cell.now)) c.set_number.result n c.set_number.ensures.goes }

pub returns-then-takes_dimension : goal.returns-then-takes_dimension
returns-then-takes_dimension g c =
    let row = to c.args.reach c.args.cell.now in
    let n = sym (sym c.takes_number.ensures ∙ c.if-takes_number.false) in
    let d = sym (sym c.takes_dimension.ensures ∙ c.if-takes_dimension.true) in
    record { goes = act-is (λ b. by row b (takes_dimension c.args.cell.now) (takes_glue c.args.cell.now)) c.set_dimension.result n (act-is (λ b. by row false b (takes_glue c.args.cell.now)) c.set_dimension.result d c.set_dimension.ensures.goes) }

pub returns-then-takes_glue : goal.returns-then-takes_glue
returns-then-takes_glue g c =
    let row = to c.args.reach c.args.cell.now in
    let n = sym (sym c.takes_number.ensures ∙ c.if-takes_number.false) in
    let d = sym (sym c.takes_dimension.ensures ∙ c.if-takes_dimension.false) in
    let s = sym (sym c.takes_glue.ensures ∙ c.if-takes_glue.true) in
    record {
      goes = act-is (λ b. by row b (takes_dimension c.args.cell.now) (takes_glue c.args.cell.now)) c.set_glue.result n
          (act-is (λ b. by row false b (takes_glue c.args.cell.now)) c.set_glue.result d (act-is (λ b. by row false false b) c.set_glue.result s c.set_glue.ensures.goes));
    }

pub returns : goal.returns
returns g c =
    let row = to c.args.reach c.args.cell.now in
    let n = sym (sym c.takes_number.ensures ∙ c.if-takes_number.false) in
    let d = sym (sym c.takes_dimension.ensures ∙ c.if-takes_dimension.false) in
    let s = sym (sym c.takes_glue.ensures ∙ c.if-takes_glue.false) in
    record {
      goes = act-is (λ b. by row b (takes_dimension c.args.cell.now) (takes_glue c.args.cell.now)) c.set_tokens.result n
          (act-is (λ b. by row false b (takes_glue c.args.cell.now)) c.set_tokens.result d (act-is (λ b. by row false false b) c.set_tokens.result s c.set_tokens.ensures.goes));
    }
