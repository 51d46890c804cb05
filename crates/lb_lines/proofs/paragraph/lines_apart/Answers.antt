use Rattle.std.proofs.Common.{◌≡◌, ◌+◌, ◌-◌, ◌==◌, ◌∷◌, ℕ, Bool, false, List, Result, length, drop, get_or, reverse, Err, ℤ, to_z, of_z, w32, FitsSigned, sym, subst, ap, ◌∙◌, rules, arith}
use Rattle.std.proofs.lemmas.Int.{to_z-of_z}
use Rattle.std.proofs.lemmas.Result.{err_from_is_err_and}
use Rattle.std.proofs.lemmas.List.{drop_more, length-drop, reverse-reverse}
use Rattle.lb_base.specs.Answers.{Answers}
use Rattle.lb_base.specs.declared.fault.Kind.{Kind}
use Rattle.lb_base.specs.declared.fault.Stop.{Stop}
use Rattle.lb_base.specs.declared.node.Node.{Node}
use Rattle.lb_model_paper.specs.Breaks.{line_items}
use Rattle.lb_model_paper.specs.Lines.{AreEnds, penalty_between, penalty_nodes, set_items}
use Rattle.lb_model_paper.specs.Nodes.{shown}
use Rattle.lb_model_paper.specs.declared.paragraph.BreakEnd.{BreakEnd}
use Rattle.lb_lines.specs.Apart.{lines_apart_of}
use Rattle.lb_lines.proofs.Joins.{answers-stop, lines-large, lines-more, lines-start}
use Rattle.lb_lines.proofs.paragraph.lines_apart.Goals as goal

pub loop-k-init : goal.loop-k-init
loop-k-init c = record {
  pending = ap reverse c.in_ok-pending.ensures ∙ reverse-reverse c.args.list;
  post = c.new-post.ensures;
  rises = subst (λ (es : List BreakEnd). AreEnds c.args.list 0 es) (sym c.as_slice-ends.ensures) c.requires;
  whole = lines-start c.args.shape.now c.args.list c.as_slice-ends.result.now c.nothing-added.result.too_deep c.nothing-added.result.lines c.nothing-added.ensures;
}

pub returns-in_err-add : goal.returns-in_err-add
returns-in_err-add c =
    let list : List Node = c.args.list in
    let ends : List BreakEnd = c.as_slice-ends.result.now in
    let E : BreakEnd = get_or c.as_slice-ends.result.now c.loop-k.k (record { item = 0; is_bad = false }) in
    let rest : List BreakEnd = drop (c.loop-k.k + 1) c.as_slice-ends.result.now in
    let next : drop c.loop-k.k c.as_slice-ends.result.now ≡ E ∷ rest = drop_more c.as_slice-ends.result.now c.loop-k.k (record { item = 0; is_bad = false }) c.loop-k-test.true in
    let rises : AreEnds c.args.list c.loop-k.taken (E ∷ rest) = subst (λ (es : List BreakEnd). AreEnds c.args.list c.loop-k.taken es) next c.loop-k.invariant.rises in
    let cut = c.in_ok-cut.ensures c.args.list c.loop-k.invariant.pending c.loop-k.invariant.post rises.1 in
    let width : FitsSigned w32 c.args.shape.now.width = search rules in
    let M : Result (List Node) Kind = set_items (to_z w32 (of_z w32 c.args.shape.now.width)) (shown c.in_ok-cut.cut.line) in
    let meant : M ≡ set_items c.args.shape.now.width (line_items c.args.shape.now c.args.list c.loop-k.taken (E.item + 1)) =
    ap (λ (w : ℤ). set_items w (shown c.in_ok-cut.cut.line)) (to_z-of_z w32 c.args.shape.now.width width) ∙ ap (λ (ns : List Node). set_items c.args.shape.now.width ns) cut.line in
    let stop = c.in_err-add.ensures.err M c.in_ok-set_items.ensures.set in
    let whole : Result (List (List Node)) Kind = lines_apart_of c.args.shape.now c.args.list c.as_slice-ends.result.now in
    let same = answers-stop whole M c.in_err-add.field-0.0 (λ large. lines-large c.args.shape.now c.args.list c.loop-k.taken E rest (drop c.loop-k.k c.as_slice-ends.result.now) whole M c.loop-k.added.too_deep c.loop-k.added.lines next c.loop-k.invariant.whole meant large) stop in
    let (y, is, gives) = err_from_is_err_and c.from_residual-in_err-add.result c.from_residual-in_err-add.ensures.1 in
    let from : y ≡ c.in_err-add.field-0.0 = gives in
    subst (λ (es : List BreakEnd). Answers (lines_apart_of c.args.shape.now c.args.list es) c.from_residual-in_err-add.result) c.as_slice-ends.ensures (subst (λ (r : Result (List (List Node)) Stop). Answers {T = List (List Node)} whole r) (sym is) (subst (λ (e : Stop). Answers {T = List (List Node)} whole (Err e)) (sym from) same))

pub loop-k-preserved : goal.loop-k-preserved
loop-k-preserved c =
    let E : BreakEnd = get_or c.as_slice-ends.result.now c.loop-k.k (record { item = 0; is_bad = false }) in
    let rest : List BreakEnd = drop (c.loop-k.k + 1) c.as_slice-ends.result.now in
    let next : drop c.loop-k.k c.as_slice-ends.result.now ≡ E ∷ rest = drop_more c.as_slice-ends.result.now c.loop-k.k (record { item = 0; is_bad = false }) c.loop-k-test.true in
    let rises : AreEnds c.args.list c.loop-k.taken (E ∷ rest) = subst (λ (es : List BreakEnd). AreEnds c.args.list c.loop-k.taken es) next c.loop-k.invariant.rises in
    let cut = c.in_ok-cut.ensures c.args.list c.loop-k.invariant.pending c.loop-k.invariant.post rises.1 in
    let width : FitsSigned w32 c.args.shape.now.width = search rules in
    let M : Result (List Node) Kind = set_items (to_z w32 (of_z w32 c.args.shape.now.width)) (shown c.in_ok-cut.cut.line) in
    let meant : M ≡ set_items c.args.shape.now.width (line_items c.args.shape.now c.args.list c.loop-k.taken (E.item + 1)) =
    ap (λ (w : ℤ). set_items w (shown c.in_ok-cut.cut.line)) (to_z-of_z w32 c.args.shape.now.width width) ∙ ap (λ (ns : List Node). set_items c.args.shape.now.width ns) cut.line in
    let penalty : FitsSigned w32 c.penalty_between-penalty.result = search rules in
    let left : length c.as_slice-ends.result.now - 1 - c.loop-k.k ≡ length rest = omega (arith, length-drop (c.loop-k.k + 1) c.as_slice-ends.result.now, c.loop-k-test.true) in
    let P : ℕ → Bool → List Node = λ n b. penalty_nodes (penalty_between c.args.shape.now.rules (c.loop-k.taken == 0) n b) in
    record {
      pending = cut.left;
      post = cut.post;
      rises = rises.2;
      whole = lines-more c.args.shape.now c.args.list c.loop-k.taken E rest (drop c.loop-k.k c.as_slice-ends.result.now) (lines_apart_of c.args.shape.now c.args.list c.as_slice-ends.result.now) _ _ M _ next c.loop-k.invariant.whole meant
          (ap penalty_nodes (to_z-of_z w32 c.penalty_between-penalty.result penalty ∙ c.penalty_between-penalty.ensures) ∙ ap (λ (n : ℕ). P n c.in_ok-cut.cut.is_broken) left ∙ ap (λ (b : Bool). P (length rest) b) cut.is_broken)
          (c.in_ok-add.ensures.ok M c.in_ok-set_items.ensures.set);
    }
