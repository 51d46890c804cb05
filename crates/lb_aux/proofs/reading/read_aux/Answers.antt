use Rattle.std.proofs.Common.{◌∙◌, ◌++◌, ◌∷◌, [], ap, sym}
use Rattle.std.specs.Option.{option_map}
use Rattle.lb_model_aux.specs.declared.line.Line.TheVariants.{Checkpoint}
use Rattle.lb_model_aux.specs.Reading.{lines_of, said}
use Rattle.lb_aux.proofs.Sayings.{says-all, says-checkpoint, says-cut, says-line, says-no-more, says-nothing}
use Rattle.lb_aux.proofs.reading.read_aux.Goals as goal

pub loop-rest-init : goal.loop-rest-init
loop-rest-init c = ap (λ aux. aux ++ said 0 (lines_of c.args.bytes.now)) c.new-aux.ensures ∙ sym (says-all c.args.bytes.now)

pub returns-in_default-2 : goal.returns-in_default-2
returns-in_default-2 c =
    says-cut c.loop-rest.aux c.loop-rest.rest.now c.split_line.result.0.now (lines_of c.split_line.result.1.now) c.in-Some.chapter.now c.split_line.ensures.lines
    (sym c.in-Some.ensures) (sym c.in_ok-counters.ensures.counters ∙ ap (option_map (λ p. (p.0, lines_of p.1.now))) c.in_default-2.is)
    ∙ c.loop-rest.invariant

pub loop-rest-preserved-in-Some : goal.loop-rest-preserved-in-Some
loop-rest-preserved-in-Some c =
    let aux = c.loop-rest.aux in
    let counters = c.in-Some-2.counters in
    let behind = lines_of c.in-Some-2.behind.now in
    ap (λ l. l ++ said 0 behind) (c.in_ok-push.ensures.ok ∙ ap (λ n. aux ++ Checkpoint n counters ∷ []) c.in_ok-from_slice.ensures)
    ∙ says-checkpoint aux c.loop-rest.rest.now c.split_line.result.0.now (lines_of c.split_line.result.1.now) behind c.in-Some.chapter.now counters c.split_line.ensures.lines
    (sym c.in-Some.ensures) (sym c.in_ok-counters.ensures.counters ∙ ap (option_map (λ p. (p.0, lines_of p.1.now))) c.in-Some-2.is)
    ∙ c.loop-rest.invariant

pub loop-rest-preserved-in_ok-push-2 : goal.loop-rest-preserved-in_ok-push-2
loop-rest-preserved-in_ok-push-2 c =
    let next = lines_of c.split_line.result.1.now in
    ap (λ l. l ++ said 0 next) c.in_ok-push-2.ensures.ok
    ∙ says-line c.loop-rest.aux c.loop-rest.rest.now c.split_line.result.0.now next c.in-Some-3.said c.split_line.ensures.lines
    (sym c.in_default.ensures) (sym c.in_ok-said.ensures ∙ c.in-Some-3.is)
    ∙ c.loop-rest.invariant

pub loop-rest-preserved : goal.loop-rest-preserved
loop-rest-preserved c =
    says-nothing c.loop-rest.aux c.loop-rest.rest.now c.split_line.result.0.now (lines_of c.split_line.result.1.now) c.split_line.ensures.lines
    (sym c.in_default.ensures) (sym c.in_ok-said.ensures ∙ c.in_default-3.is)
    ∙ c.loop-rest.invariant

pub returns : goal.returns
returns c = sym (says-no-more c.loop-rest.aux c.loop-rest.rest.now (sym c.is_empty.ensures ∙ c.loop-rest-test.false)) ∙ c.loop-rest.invariant
