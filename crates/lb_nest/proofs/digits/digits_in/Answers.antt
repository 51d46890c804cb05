use Rattle.std.proofs.Common.{rules, ◌≡◌, ◌∙◌, ◌≤◌, [], Some, ap, arith, refl, sym}
use Rattle.std.specs.Prelude.{filter}
use Rattle.lb_model_nest.specs.Pages.{has_code}
use Rattle.lb_model_nest.specs.Wholes.{executed}
use Rattle.lb_model_paper.specs.Words.{set_word}
use Rattle.lb_text.specs.Stops.{IsWordStop}
use Rattle.lb_nest.specs.Stops.{IsStopOf}
use Rattle.lb_nest.specs.Views.{whole}
use Rattle.lb_nest.proofs.DigitLemmas.{digits-made, digits-stop, word-stop}
use Rattle.lb_nest.proofs.digits.digits_in.Goals as goal

pub returns-in-Ok-clause-works : goal.returns-in-Ok-clause-works
returns-in-Ok-clause-works c =
    let a = c.args in
    let n = a.nest.now in
    let word = filter (has_code a.font.now) a.text.now in
    let made : set_word a.font.now a.left.now [] word ≡ Some (c.finish_word.new.list, c.finish_word.new.steps) = search rules in
    let fewer : c.finish_word.new.steps ≤ a.left.now = search rules in
    λ row.
    record {
      works = λ w p k g. digits-made a.text.now a.font.now row n c.word_of.new.entries word c.finish_word.new.list [] a.left.now c.finish_word.new.steps w p k g c.in_ok-word.ensures.entries refl refl made;
      shelf = refl;
      left = fewer;
    }

pub returns-clause-works : goal.returns-clause-works
returns-clause-works c =
    let a = c.args in
    let n = a.nest.now in
    let word = filter (has_code a.font.now) a.text.now in
    let stops : IsWordStop a.font.now a.left.now [] word c.in-Err.stop = search rules in
    let is : IsStopOf c.in-Err.stop c.in_ok-stopped-in-Err.field-0 = c.in_ok-stopped-in-Err.ensures in
    let ends = word-stop a.font.now a.left.now [] word c.in-Err.stop c.in_ok-stopped-in-Err.field-0 is stops in
    λ row.
    record {
      works =
          λ w p k g.
          digits-stop a.text.now a.font.now row n c.word_of.new.entries word [] a.left.now w p k g c.in_ok-word.ensures.entries refl refl ends.1
          ∙ ap (λ x. executed x (whole w p k g 0 (record n { entries = c.word_of.new.entries }))) (sym ends.0);
      shelf = refl;
      left = omega arith;
    }
