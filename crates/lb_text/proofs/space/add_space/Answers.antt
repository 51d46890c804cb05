use Rattle.std.proofs.Common.{◌≡◌, ◌∷◌, ◌++◌, [], List, subst, rules, ap, ◌∙◌, sym}
use Rattle.std.specs.Prelude.{Ok}
use Rattle.lb_base.specs.declared.glue.Glue.{Glue}
use Rattle.lb_base.specs.declared.node.Node.{Glue as GlueNode, Node}
use Rattle.lb_model_paper.specs.Words.{IsSmallGlue, space_glue}
use Rattle.lb_text.proofs.Glues.{spaced-large, spaced-small}
use Rattle.lb_text.proofs.space.add_space.Goals as goal

pub returns-in_default-clause-answer : goal.returns-in_default-clause-answer
returns-in_default-clause-answer c = spaced-large c.args.font.now.parameters c.args.factor c.args.list.now (search rules)

pub returns-clause-answer : goal.returns-clause-answer
returns-clause-answer c =
    let e : c.in-Some.glue ≡ space_glue c.args.font.now.parameters c.args.factor = search rules in
    let P : Glue → Type 0 = λ g. IsSmallGlue g in
    spaced-small c.args.font.now.parameters c.args.factor c.args.list.now (subst P e c.in-Some.ensures.1)
    ∙ ap (λ (g : Glue). Ok (c.args.list.now ++ GlueNode g ∷ [])) (sym e)
    ∙ ap (λ (ns : List Node). Ok ns) (sym c.in_ok-push.ensures.ok)
