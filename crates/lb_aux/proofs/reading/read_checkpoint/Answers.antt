use Rattle.std.proofs.Common.{◌∙◌, arith, ap, sym}
use Rattle.lb_model_aux.specs.Reading.{counters_to_close, lines_of}
use Rattle.lb_aux.proofs.Sayings.{none-closes, passes-over, takes-counter, with_front}
use Rattle.lb_aux.proofs.reading.read_checkpoint.Goals as goal

pub loop-rest-preserved-in_ok-push : goal.loop-rest-preserved-in_ok-push
loop-rest-preserved-in_ok-push c =
    let counters = c.loop-rest.counters in
    let next = lines_of c.split_line.result.1.now in
    record {
      owed = ap (λ cs. with_front cs (counters_to_close next)) c.in_ok-push.ensures.ok
          ∙ takes-counter counters c.loop-rest.rest.now c.split_line.result.0.now next c.in-Some.counter c.split_line.ensures.lines
          (sym c.is_close.ensures ∙ c.if-is_close.false) (sym c.in_ok-counter.ensures ∙ c.in-Some.is)
          ∙ c.loop-rest.invariant.owed;
      shorter = omega (arith, c.split_line.ensures.shorter, c.loop-rest.invariant.shorter);
    }

pub loop-rest-preserved : goal.loop-rest-preserved
loop-rest-preserved c = record {
  owed = passes-over c.loop-rest.counters c.loop-rest.rest.now c.split_line.result.0.now (lines_of c.split_line.result.1.now) c.split_line.ensures.lines
      (sym c.is_close.ensures ∙ c.if-is_close.false) (sym c.in_ok-counter.ensures ∙ c.in_default.is)
      ∙ c.loop-rest.invariant.owed;
  shorter = omega (arith, c.split_line.ensures.shorter, c.loop-rest.invariant.shorter);
}

pub returns-clause-counters : goal.returns-clause-counters
returns-clause-counters c = sym (none-closes c.loop-rest.counters c.loop-rest.rest.now (sym c.is_empty.ensures ∙ c.loop-rest-test.false)) ∙ c.loop-rest.invariant.owed
