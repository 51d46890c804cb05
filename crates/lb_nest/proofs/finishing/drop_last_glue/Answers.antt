use Rattle.lb_model_nest.specs.Paragraphs.{without_last_glue}
use Rattle.lb_nest.proofs.EndingLemmas.{last-glue}
use Rattle.std.proofs.Common.{rules, ◌≡◌, ◌∙◌, ◌++◌, ◌∷◌, [], ap, sym, true, false}
use Rattle.std.specs.Prelude.{if◌then◌else◌}
use Rattle.lb_nest.proofs.finishing.drop_last_glue.Goals as goal

pub returns-then-is_glue : goal.returns-then-is_glue
returns-then-is_glue c =
    sym (ap without_last_glue c.in-Some.ensures ∙ last-glue c.pop.new.self c.in-Some.last ∙ ap (λ b. if b then c.pop.new.self else c.pop.new.self ++ c.in-Some.last ∷ []) (sym c.is_glue.ensures ∙ c.if-is_glue.true))

pub returns : goal.returns
returns c =
    let pushed : c.push.new.self ≡ c.pop.new.self ++ c.in-Some.last ∷ [] = search rules in
    pushed ∙ sym (ap without_last_glue c.in-Some.ensures ∙ last-glue c.pop.new.self c.in-Some.last ∙ ap (λ b. if b then c.pop.new.self else c.pop.new.self ++ c.in-Some.last ∷ []) (sym c.is_glue.ensures ∙ c.if-is_glue.false))
