use Rattle.std.proofs.Common.{◌≡◌, ◌∷◌, IfOk, List, Ok, Result, ℤ, to_z, of_z, w32, FitsSigned, sym, subst, ap, ◌∙◌, rules}
use Rattle.std.proofs.lemmas.Int.{to_z-of_z}
use Rattle.lb_base.specs.declared.fault.Kind.{Kind}
use Rattle.lb_base.specs.declared.glue.Target.TheVariants.{To}
use Rattle.lb_base.specs.declared.node.Axis.TheVariants.{Horizontal}
use Rattle.lb_base.specs.declared.node.Boxed.{Boxed}
use Rattle.lb_base.specs.declared.node.HeadMark.TheOpen.{Boxed as InnerBox}
use Rattle.lb_base.specs.declared.node.Node.{Node, roll-Node}
use Rattle.lb_base.specs.declared.node.Node.TheVariants.{rolls-Boxed}
use Rattle.lb_model_paper.specs.Boxes.{packs}
use Rattle.lb_model_paper.specs.Lines.{boxed_line, moving, set_items, staying}
use Rattle.lb_model_paper.specs.Nodes.{shown}
use Rattle.lb_lines.specs.Sets.{IsSet}
use Rattle.lb_lines.proofs.Refusals.{refusal, refused-line}
use Rattle.lb_lines.proofs.Stays.{shown-staying}
use Rattle.lb_lines.proofs.setting.set_items.Goals as goal

pub returns-in_ok-with_box-in-Ok-clause-set : goal.returns-in_ok-with_box-in-Ok-clause-set
returns-in_ok-with_box-in-Ok-clause-set c =
    let width : FitsSigned w32 c.args.width = search rules in
    let S : List Node = shown c.args.line in
    let stay : shown c.in_ok-stay.field-0.stay ≡ staying (shown c.args.line) = ap shown c.in_ok-stay.ensures.stay ∙ shown-staying c.args.line in
    ap (λ (w : ℤ). boxed_line (packs Horizontal (staying S) (To w)) (moving S)) (sym (to_z-of_z w32 c.args.width width))
    ∙ ap (λ (ns : List Node). boxed_line (packs Horizontal ns (To (to_z w32 (of_z w32 c.args.width)))) (moving S)) (sym stay)
    ∙ ap (λ (r : Result Boxed Kind). boxed_line r (moving S)) c.in-Ok.ensures
    ∙ ap (λ (ns : List Node). Ok (roll-Node (InnerBox c.in-Ok.boxed) ∷ ns)) (sym c.in_ok-stay.ensures.moved)
    ∙ ap (λ (n : Node). Ok (n ∷ c.in_ok-stay.field-0.moved)) (rolls-Boxed c.in-Ok.boxed)
    ∙ ap (λ (ns : List Node). Ok ns) (sym c.in_ok-with_box-in-Ok.ensures)

pub refused-requires : goal.refused-requires
refused-requires c = refusal Horizontal (shown c.in_ok-stay.field-0.stay) (To (to_z w32 (of_z w32 c.args.width))) c.in-Err.stop c.in-Err.ensures

pub returns-in-Err-clause-set : goal.returns-in-Err-clause-set
returns-in-Err-clause-set c =
    let width : FitsSigned w32 c.args.width = search rules in
    let S : List Node = shown c.args.line in
    let stay : shown c.in_ok-stay.field-0.stay ≡ staying (shown c.args.line) = ap shown c.in_ok-stay.ensures.stay ∙ shown-staying c.args.line in
    let same : boxed_line (packs Horizontal (shown c.in_ok-stay.field-0.stay) (To (to_z w32 (of_z w32 c.args.width)))) (moving (shown c.args.line)) ≡ set_items c.args.width (shown c.args.line) =
    ap (λ (ns : List Node). boxed_line (packs Horizontal ns (To (to_z w32 (of_z w32 c.args.width)))) (moving S)) stay
    ∙ ap (λ (w : ℤ). boxed_line (packs Horizontal (staying S) (To w)) (moving S)) (to_z-of_z w32 c.args.width width) in
    subst (λ (r : Result (List Node) Kind). IfOk c.refused.result (IsSet r)) same
    (c.refused.ensures.set (boxed_line (packs Horizontal (shown c.in_ok-stay.field-0.stay) (To (to_z w32 (of_z w32 c.args.width)))) (moving S))
    (refused-line (packs Horizontal (shown c.in_ok-stay.field-0.stay) (To (to_z w32 (of_z w32 c.args.width)))) (moving S) c.in-Err.stop c.in-Err.ensures))
