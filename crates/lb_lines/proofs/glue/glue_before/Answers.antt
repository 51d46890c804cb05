use Rattle.std.proofs.Common.{◌≡◌, true, false, ℤ, pos, neg_ℤ, int_le, int_lt, ◌-ℤ◌, to_z, of_z, w32, w64, FitsSigned, sym, subst, ap, ◌∙◌, rules}
use Rattle.std.proofs.lemmas.Int.{to_z-of_z}
use Rattle.lb_base.specs.declared.glue.Glue.{Glue as GlueSize}
use Rattle.lb_model_paper.specs.Lines.{glue_nodes}
use Rattle.lb_lines.specs.Glues.{IsGlueOf}
use Rattle.lb_lines.proofs.Gluing.{glue_between-high, glue_between-low, glue_for, interline-glue, interline-none}
use Rattle.lb_lines.proofs.glue.glue_before.Goals as goal

pub returns-then-prev-le-NO_GLUE : goal.returns-then-prev-le-NO_GLUE
returns-then-prev-le-NO_GLUE c =
    let prev : FitsSigned w32 c.args.prev = search rules in
    interline-none c.args.rules.now c.args.prev c.args.height (ap (λ (z : ℤ). int_le z (neg_ℤ (pos 65536000))) (sym (to_z-of_z w32 c.args.prev prev)) ∙ c.if-prev-le-NO_GLUE.true)

pub returns-then-width-from : goal.returns-then-width-from
returns-then-width-from c =
    let r = c.args.rules.now in
    let prev : FitsSigned w32 c.args.prev = search rules in
    let height : FitsSigned w32 c.args.height = search rules in
    let base : FitsSigned w32 r.baselineskip.width = search rules in
    let limit : FitsSigned w32 r.lineskiplimit = search rules in
    let line : FitsSigned w32 r.lineskip.width = search rules in
    let gap : FitsSigned w64 c.difference.result = search rules in
    let all : FitsSigned w64 c.less_height-width.result = search rules in
    let from : FitsSigned w64 c.from.result = search rules in
    let wide : FitsSigned w64 c.from-then-width-from.result = search rules in
    let high : int_le c.args.prev (neg_ℤ (pos 65536000)) ≡ false = ap (λ (z : ℤ). int_le z (neg_ℤ (pos 65536000))) (sym (to_z-of_z w32 c.args.prev prev)) ∙ c.if-prev-le-NO_GLUE.false in
    let width : c.less_height-width.result ≡ r.baselineskip.width -ℤ c.args.prev -ℤ c.args.height =
    c.less_height-width.ensures ∙ ap (λ (z : ℤ). z -ℤ to_z w32 (of_z w32 c.args.height)) (to_z-of_z w64 c.difference.result gap) ∙ ap (λ (z : ℤ). c.difference.result -ℤ z) (to_z-of_z w32 c.args.height height)
    ∙ ap (λ (z : ℤ). z -ℤ c.args.height) (c.difference.ensures.value ∙ ap (λ (z : ℤ). z -ℤ to_z w32 (of_z w32 c.args.prev)) (to_z-of_z w32 r.baselineskip.width base) ∙ ap (λ (z : ℤ). r.baselineskip.width -ℤ z) (to_z-of_z w32 c.args.prev prev)) in
    let least : c.from.result ≡ r.lineskiplimit = c.from.ensures ∙ to_z-of_z w32 r.lineskiplimit limit in
    let low : int_lt (r.baselineskip.width -ℤ c.args.prev -ℤ c.args.height) r.lineskiplimit ≡ true =
    ap (λ (z : ℤ). int_lt z r.lineskiplimit) (sym width ∙ sym (to_z-of_z w64 c.less_height-width.result all)) ∙ ap (λ (z : ℤ). int_lt (to_z w64 (of_z w64 c.less_height-width.result)) z) (sym least ∙ sym (to_z-of_z w64 c.from.result from)) ∙ c.if-width-from.true in
    let same : to_z w64 (of_z w64 c.from-then-width-from.result) ≡ r.lineskip.width = to_z-of_z w64 c.from-then-width-from.result wide ∙ c.from-then-width-from.ensures ∙ to_z-of_z w32 r.lineskip.width line in
    let G : ℤ → GlueSize = λ z. record r.lineskip { width = z } in
    glue_for r c.args.prev c.args.height r.lineskip c.small.result (interline-glue r c.args.prev c.args.height high ∙ ap glue_nodes (glue_between-low r c.args.prev c.args.height low)) (subst (λ (g : GlueSize). IsGlueOf g c.small.result) (ap G same) c.small.ensures)

pub returns : goal.returns
returns c =
    let r = c.args.rules.now in
    let prev : FitsSigned w32 c.args.prev = search rules in
    let height : FitsSigned w32 c.args.height = search rules in
    let base : FitsSigned w32 r.baselineskip.width = search rules in
    let limit : FitsSigned w32 r.lineskiplimit = search rules in
    let gap : FitsSigned w64 c.difference.result = search rules in
    let all : FitsSigned w64 c.less_height-width.result = search rules in
    let from : FitsSigned w64 c.from.result = search rules in
    let high : int_le c.args.prev (neg_ℤ (pos 65536000)) ≡ false = ap (λ (z : ℤ). int_le z (neg_ℤ (pos 65536000))) (sym (to_z-of_z w32 c.args.prev prev)) ∙ c.if-prev-le-NO_GLUE.false in
    let width : c.less_height-width.result ≡ r.baselineskip.width -ℤ c.args.prev -ℤ c.args.height =
    c.less_height-width.ensures ∙ ap (λ (z : ℤ). z -ℤ to_z w32 (of_z w32 c.args.height)) (to_z-of_z w64 c.difference.result gap) ∙ ap (λ (z : ℤ). c.difference.result -ℤ z) (to_z-of_z w32 c.args.height height)
    ∙ ap (λ (z : ℤ). z -ℤ c.args.height) (c.difference.ensures.value ∙ ap (λ (z : ℤ). z -ℤ to_z w32 (of_z w32 c.args.prev)) (to_z-of_z w32 r.baselineskip.width base) ∙ ap (λ (z : ℤ). r.baselineskip.width -ℤ z) (to_z-of_z w32 c.args.prev prev)) in
    let least : c.from.result ≡ r.lineskiplimit = c.from.ensures ∙ to_z-of_z w32 r.lineskiplimit limit in
    let enough : int_lt (r.baselineskip.width -ℤ c.args.prev -ℤ c.args.height) r.lineskiplimit ≡ false =
    ap (λ (z : ℤ). int_lt z r.lineskiplimit) (sym width ∙ sym (to_z-of_z w64 c.less_height-width.result all)) ∙ ap (λ (z : ℤ). int_lt (to_z w64 (of_z w64 c.less_height-width.result)) z) (sym least ∙ sym (to_z-of_z w64 c.from.result from)) ∙ c.if-width-from.false in
    let G : ℤ → GlueSize = λ z. record r.baselineskip { width = z } in
    glue_for r c.args.prev c.args.height (G (r.baselineskip.width -ℤ c.args.prev -ℤ c.args.height)) c.small-2.result (interline-glue r c.args.prev c.args.height high ∙ ap glue_nodes (glue_between-high r c.args.prev c.args.height enough))
    (subst (λ (g : GlueSize). IsGlueOf g c.small-2.result) (ap G (to_z-of_z w64 c.less_height-width.result all ∙ width)) c.small-2.ensures)
