use Rattle.std.proofs.Common.{◌≡◌, ℕ, List, [], length, ◌∙◌, sym, ap, subst, rules}
use Rattle.std.proofs.lemmas.Bool.{eqb-true}
use Rattle.std.proofs.lemmas.List.{nil_from_length}
use Rattle.lb_model_paper.specs.Words.{set_from, set_word, word_start}
use Rattle.lb_text.specs.Stops.{IsCursorStop}
use Rattle.lb_text.proofs.Cursors.{stop_of_word, word_is, word_of_none}
use Rattle.lb_text.proofs.WordLaws.{set_from-fewer}
use Rattle.lb_text.proofs.word.finish_word.Goals as goal

pub returns-then-is_empty-clause-ok : goal.returns-then-is_empty-clause-ok
returns-then-is_empty-clause-ok c =
    let e : c.as_slice-codes.result.now ≡ c.args.word.now = search rules in
    let none = eqb-true (length c.as_slice-codes.result.now) 0 (sym c.is_empty.ensures ∙ c.if-is_empty.true) in
    let z : c.args.word.now ≡ [] = sym e ∙ nil_from_length c.as_slice-codes.result.now none in
    ap (λ codes. set_word c.args.font.now c.args.steps.now c.args.list.now codes) z ∙ word_of_none c.args.font.now c.args.steps.now c.args.list.now

pub returns-in-Ok-clause-ok : goal.returns-in-Ok-clause-ok
returns-in-Ok-clause-ok c =
    let e : c.as_slice-codes.result.now ≡ c.args.word.now = search rules in
    let some : c.args.word.now ≡ [] → ⊥ = search rules in
    word_is c.args.font.now c.args.steps.now c.args.list.now c.args.word.now some
    ∙ ap (λ codes. set_from c.args.font.now c.args.steps.now (word_start c.args.list.now codes)) (sym e)
    ∙ c.in-Ok.ensures.ok

pub returns-in-Err-clause-stop : goal.returns-in-Err-clause-stop
returns-in-Err-clause-stop c =
    let e : c.as_slice-codes.result.now ≡ c.args.word.now = search rules in
    let some : c.args.word.now ≡ [] → ⊥ = search rules in
    let P : List ℕ → Type 0 = λ codes. IsCursorStop c.args.font.now c.args.steps.now (word_start c.args.list.now codes) c.in-Err.stop in
    stop_of_word c.args.font.now c.args.steps.now c.args.list.now c.args.word.now c.in-Err.stop some (subst P e c.in-Err.ensures.stop)

pub returns-in-Ok-clause-fewer : goal.returns-in-Ok-clause-fewer
returns-in-Ok-clause-fewer c = set_from-fewer c.args.font.now c.args.steps.now c.in-Ok.left _ _ c.in-Ok.ensures.ok
