use Rattle.std.proofs.Common.{◌∙◌, ◌∷◌, ap, sym}
use Rattle.lb_scan.specs.declared.stage.Stage.TheVariants.{Stretchable}
use Rattle.lb_scan.specs.Stages.{stage_after, turned}
use Rattle.lb_scan.proofs.StageLemmas.{stretchable-space}
use Rattle.lb_scan.proofs.glue.stretchable.Goals as goal

pub returns-then-is_space-clause-next : goal.returns-then-is_space-clause-next
returns-then-is_space-clause-next c =
    λ word all more.
    ap (λ s. turned word s c.turned.result all c.args.given.now more) c.turned.ensures.stage
    ∙ ap (λ k. turned word (Stretchable c.args.glue) k all c.args.given.now more) c.turned.ensures.keeps
    ∙ sym
    (
    ap (λ g. stage_after word (Stretchable c.args.glue) all (g ∷ more)) c.in-Tok.is
    ∙ stretchable-space word c.args.glue all c.in-Tok.tok more (sym c.is_space.ensures ∙ c.if-is_space.true)
    )
