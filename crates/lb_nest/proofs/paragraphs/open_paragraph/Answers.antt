use Rattle.lb_model_nest.specs.Paragraphs.{indent_box, indented}
use Rattle.lb_model_nest.specs.Wholes.{Executed, entered, executed, on, with_node}
use Rattle.lb_model_nest.specs.declared.nest.ListKind.TheVariants.{Paragraph}
use Rattle.lb_model_nest.specs.declared.turn.Went.TheVariants.{On}
use Rattle.lb_nest.proofs.FailedLemmas.{works-failed}
use Rattle.lb_nest.proofs.LeadsLemmas.{same-left}
use Rattle.lb_nest.specs.Views.{whole}
use Rattle.lb_nest.specs.declared.nest.Nest.{Nest}
use Rattle.std.proofs.Common.{rules, ◌≡◌, ◌∙◌, ◌∷◌, ◌++◌, [], ap, false, sym, true}
use Rattle.std.specs.Prelude.{◌&&◌, not}
use Rattle.lb_nest.proofs.paragraphs.open_paragraph.Goals as goal

pub returns-in_err-enter : goal.returns-in_err-enter
returns-in_err-enter c = record { works = λ left. works-failed c.from_residual.result c.from_residual.ensures.0 (c.in_err-enter.ensures.works 0).shelf }

pub returns-in_err-node : goal.returns-in_err-node
returns-in_err-node c = record { works = λ left. works-failed c.from_residual-in_err-node.result c.from_residual-in_err-node.ensures.0 (c.in_ok-enter.ensures.works 0).shelf }

pub returns-in_err-push : goal.returns-in_err-push
returns-in_err-push c = record { works = λ left. works-failed c.from_residual-in_err-push.result c.from_residual-in_err-push.ensures.0 (c.in_err-push.ensures.shelf ∙ (c.in_ok-enter.ensures.works 0).shelf) }

pub returns-then-not-indents : goal.returns-then-not-indents
returns-then-not-indents c =
    let a = c.args in
    let n : Nest = record a.nest.now { plain_next = false } in
    let no : a.indent && not a.nest.now.plain_next ≡ false = search rules in
    record {
      works =
          λ left.
          let e = c.in_ok-enter.ensures.works left in
          record {
            works = λ w p k g. ap (λ b. on (indented b a.lengths.indent (entered Paragraph (whole w p k g left n)))) no ∙ ap (λ (q : Executed). on q.done.next) (e.works w p k g);
            shelf = e.shelf;
            left = same-left left;
          };
    }

pub returns : goal.returns
returns c =
    let a = c.args in
    let n : Nest = record a.nest.now { plain_next = false } in
    let yes : a.indent && not a.nest.now.plain_next ≡ true = search rules in
    let ne : Nest = c.enter.new.nest in
    let pushed : c.push.new.self ≡ record ne { level = record ne.level { nodes = ne.level.nodes ++ indent_box a.lengths.indent ∷ [] } } = search rules in
    record {
      works =
          λ left.
          let e = c.in_ok-enter.ensures.works left in
          record {
            works =
                λ w p k g.
                ap (λ b. on (indented b a.lengths.indent (entered Paragraph (whole w p k g left n)))) yes
                ∙ ap (λ (q : Executed). on (with_node (indent_box a.lengths.indent) q.done.next)) (e.works w p k g)
                ∙ ap (λ (m : Nest). executed On (whole w p k g left m)) (sym pushed);
            shelf = c.in_ok-push.ensures.shelf ∙ e.shelf;
            left = same-left left;
          };
    }
