use Rattle.std.proofs.Common.{◌≡◌, ◌++◌, ◌∷◌, [], List, Ok, Err, ℤ, to_z, of_z, w32, FitsSigned, sym, ap, ◌∙◌, rules}
use Rattle.std.proofs.lemmas.Int.{to_z-of_z}
use Rattle.std.proofs.lemmas.List.{append-nil, append_assoc}
use Rattle.lb_base.specs.declared.fault.Kind.TheVariants.{DimenTooLarge}
use Rattle.lb_base.specs.declared.node.Node as made
use Rattle.lb_base.specs.declared.node.HeadMark.TheOpen.{Boxed as InnerBox}
use Rattle.lb_base.specs.declared.node.Node.{Node, roll-Node}
use Rattle.lb_model_paper.specs.Breaks.{glue_node}
use Rattle.lb_model_paper.specs.Lines.{interline}
use Rattle.lb_lines.proofs.Gluing.{box-is, depth-is, glue-is, list-is}
use Rattle.lb_lines.proofs.glue.append_line.Goals as goal

pub returns-in-TooWide-clause-depth : goal.returns-in-TooWide-clause-depth
returns-in-TooWide-clause-depth c =
    let prev : FitsSigned w32 c.args.prev = search rules in
    let height : FitsSigned w32 c.args.line.height = search rules in
    let is : interline c.args.rules.now c.args.prev c.args.line.height ≡ Err DimenTooLarge = ap (λ (z : ℤ). interline c.args.rules.now z c.args.line.height) (sym (to_z-of_z w32 c.args.prev prev)) ∙ ap (λ (z : ℤ). interline c.args.rules.now (to_z w32 (of_z w32 c.args.prev)) z) (sym (to_z-of_z w32 c.args.line.height height)) ∙ c.in-TooWide.ensures in
    depth-is c.args.rules.now c.args.line c.args.prev (Err DimenTooLarge) is

pub returns-in_ok-push-in-Nothing : goal.returns-in_ok-push-in-Nothing
returns-in_ok-push-in-Nothing c =
    let prev : FitsSigned w32 c.args.prev = search rules in
    let height : FitsSigned w32 c.args.line.height = search rules in
    let depth : FitsSigned w32 c.args.line.depth = search rules in
    let is : interline c.args.rules.now c.args.prev c.args.line.height ≡ Ok [] = ap (λ (z : ℤ). interline c.args.rules.now z c.args.line.height) (sym (to_z-of_z w32 c.args.prev prev)) ∙ ap (λ (z : ℤ). interline c.args.rules.now (to_z w32 (of_z w32 c.args.prev)) z) (sym (to_z-of_z w32 c.args.line.height height)) ∙ c.in-Nothing.ensures in
    record {
      depth = depth-is c.args.rules.now c.args.line c.args.prev (Ok []) is ∙ ap (λ (z : ℤ). Ok z) (sym (to_z-of_z w32 c.args.line.depth depth));
      list = list-is c.args.rules.now c.args.list.now c.args.line c.args.prev [] c.push.new.self is (c.in_ok-push-in-Nothing.ensures.ok ∙ ap (λ (n : Node). c.args.list.now ++ n ∷ []) (box-is c.args.line c.in_ok-new.field-0 c.in_ok-new.ensures) ∙ ap (λ (ns : List Node). ns ++ roll-Node (InnerBox c.args.line) ∷ []) (sym (append-nil c.args.list.now)));
      err = tt;
    }

pub returns-in_ok-push_both-in-Glue : goal.returns-in_ok-push_both-in-Glue
returns-in_ok-push_both-in-Glue c =
    let prev : FitsSigned w32 c.args.prev = search rules in
    let height : FitsSigned w32 c.args.line.height = search rules in
    let depth : FitsSigned w32 c.args.line.depth = search rules in
    let is : interline c.args.rules.now c.args.prev c.args.line.height ≡ Ok (glue_node c.in-Glue.glue ∷ []) = ap (λ (z : ℤ). interline c.args.rules.now z c.args.line.height) (sym (to_z-of_z w32 c.args.prev prev)) ∙ ap (λ (z : ℤ). interline c.args.rules.now (to_z w32 (of_z w32 c.args.prev)) z) (sym (to_z-of_z w32 c.args.line.height height)) ∙ c.in-Glue.ensures in
    record {
      depth = depth-is c.args.rules.now c.args.line c.args.prev (Ok (glue_node c.in-Glue.glue ∷ [])) is ∙ ap (λ (z : ℤ). Ok z) (sym (to_z-of_z w32 c.args.line.depth depth));
      list = list-is c.args.rules.now c.args.list.now c.args.line c.args.prev (glue_node c.in-Glue.glue ∷ []) c.push_both.new.list is
          (c.in_ok-push_both-in-Glue.ensures.ok ∙ ap (λ (n : Node). c.args.list.now ++ n ∷ made.Boxed c.in_ok-new.field-0 ∷ []) (glue-is c.in-Glue.glue) ∙ ap (λ (n : Node). c.args.list.now ++ glue_node c.in-Glue.glue ∷ n ∷ []) (box-is c.args.line c.in_ok-new.field-0 c.in_ok-new.ensures)
          ∙ sym (append_assoc c.args.list.now (glue_node c.in-Glue.glue ∷ []) (roll-Node (InnerBox c.args.line) ∷ [])));
      err = tt;
    }
