use Rattle.std.proofs.Common.{◌∙◌, ◌++◌, ◌∷◌, [], sym, ap}
use Rattle.lb_model.specs.Lines.{lines_of}
use Rattle.lb_model_book.specs.PlainForm.{names_to_end}
use Rattle.lb_plain.proofs.Names.{behind, behind-none, ends_well, ends_badly, goes_on, no_name, no_lines, lines-some}
use Rattle.lb_plain.proofs.main_file.names_to_end.Goals as goal

pub loop-rest-init : goal.loop-rest-init
loop-rest-init c = ap (λ front. behind front (names_to_end (lines_of c.args.text.now))) c.new-names.ensures ∙ behind-none (names_to_end (lines_of c.args.text.now))

pub returns-then-not-is_own_line : goal.returns-then-not-is_own_line
returns-then-not-is_own_line c =
    ends_badly c.loop-rest.names (lines_of c.loop-rest.rest.now) c.split_line.result.0.now c.split_line.result.1.now c.split_line.ensures.lines (sym c.is_empty-in-loop-rest.ensures ∙ c.if-is_empty.true) (sym c.is_own_line.ensures ∙ c.if-not-is_own_line.true)
    ∙ c.loop-rest.invariant

pub returns-then-is_empty : goal.returns-then-is_empty
returns-then-is_empty c =
    ends_well c.loop-rest.names (lines_of c.loop-rest.rest.now) c.split_line.result.0.now c.split_line.result.1.now c.split_line.ensures.lines (sym c.is_empty-in-loop-rest.ensures ∙ c.if-is_empty.true) (sym c.is_own_line.ensures ∙ c.if-not-is_own_line.false)
    ∙ c.loop-rest.invariant

pub returns-in_default : goal.returns-in_default
returns-in_default c =
    no_name c.loop-rest.names (lines_of c.loop-rest.rest.now) c.split_line.result.0.now c.split_line.result.1.now c.split_line.ensures.lines (lines-some c.split_line.result.1.now (sym c.is_empty-in-loop-rest.ensures ∙ c.if-is_empty.false)) (sym c.in_default.ensures)
    ∙ c.loop-rest.invariant

pub loop-rest-preserved : goal.loop-rest-preserved
loop-rest-preserved c =
    ap (λ front. behind front (names_to_end (lines_of c.split_line.result.1.now))) (c.in_ok-push.ensures.ok ∙ ap (λ name. c.loop-rest.names ++ name ∷ []) c.in_ok-from_slice.ensures)
    ∙ goes_on c.loop-rest.names (lines_of c.loop-rest.rest.now) c.split_line.result.0.now c.split_line.result.1.now c.split_line.ensures.lines c.in-Some.name.now (lines-some c.split_line.result.1.now (sym c.is_empty-in-loop-rest.ensures ∙ c.if-is_empty.false)) (sym c.in-Some.ensures)
    ∙ c.loop-rest.invariant

pub returns : goal.returns
returns c = no_lines c.loop-rest.names c.loop-rest.rest.now (sym c.is_empty.ensures ∙ c.loop-rest-test.false) ∙ c.loop-rest.invariant
