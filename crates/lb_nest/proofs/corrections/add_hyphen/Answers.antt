use Rattle.lb_model_nest.specs.Items.{hyphen_parts}
use Rattle.lb_model_nest.specs.Wholes.{executed, on, with_node}
use Rattle.lb_model_nest.specs.declared.turn.Went.TheVariants.{On}
use Rattle.lb_model_paper.specs.Fonts.{metrics_of}
use Rattle.lb_nest.proofs.AppendLemmas.{entries-added}
use Rattle.lb_nest.proofs.LeadsLemmas.{same-left}
use Rattle.lb_nest.proofs.ParagraphLemmas.{hyphen-lacking}
use Rattle.lb_nest.specs.Appends.{missing_append}
use Rattle.lb_nest.specs.Views.{whole}
use Rattle.lb_nest.specs.declared.nest.Nest.{Nest}
use Rattle.std.proofs.Common.{rules, ◌≡◌, ◌∙◌, ◌∷◌, ◌++◌, [], None, ap, sym}
use Rattle.lb_nest.proofs.corrections.add_hyphen.Goals as goal

pub returns : goal.returns
returns c =
    let n = c.args.nest.now in
    let font = c.args.font.now in
    let lacks : metrics_of font 45 ≡ None = search rules in
    let logged : c.push.new.self ≡ n.entries ++ missing_append font 45 ∷ [] = search rules in
    let m : Nest = record n { entries = c.push.new.self } in
    let pushed : c.push-2.new.self ≡ record m { level = record m.level { nodes = m.level.nodes ++ hyphen_parts [] ∷ [] } } = search rules in
    record {
      works =
          λ left.
          record {
            works =
                λ w p k g.
                hyphen-lacking font (whole w p k g left n) lacks
                ∙ ap (λ v. on (with_node (hyphen_parts []) v)) (entries-added (missing_append font 45 ∷ []) n w p k g left)
                ∙ (λ i. on (with_node (hyphen_parts []) (whole w p k g left (record n { entries = sym logged i }))))
                ∙ ap (λ (v : Nest). executed On (whole w p k g left v)) (sym pushed);
            shelf = c.in_ok-push-2.ensures.shelf;
            left = same-left left;
          };
    }
