use Rattle.std.proofs.Common.{◌∙◌, ◌+◌, ap, drop, sym}
use Rattle.std.proofs.lemmas.List.{at_drop_more}
use Rattle.lb_model_sections.specs.SimpleTexts.{read_all}
use Rattle.lb_model_sections.proofs.texts.simple.Goals as goal

pub loop-code-preserved : goal.loop-code-preserved
loop-code-preserved c =
    let text = c.args.text.now in
    let i = c.loop-code.code-index in
    ap (λ r. read_all r (drop (i + 1) text)) c.in_ok-reader.ensures
    ∙ sym (at_drop_more (read_all c.loop-code.reader) text i 0 c.loop-code-test.true)
    ∙ c.loop-code.invariant
