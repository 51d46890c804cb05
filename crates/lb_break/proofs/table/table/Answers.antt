use Rattle.std.proofs.Common.{◌≡◌, ◌+◌, ◌++◌, ◌∷◌, [], List, Bool, true, sym, subst, arith, ap, ◌∙◌}
use Rattle.lb_measure.specs.Measures.{paragraph_in}
use Rattle.lb_break.specs.Points.{AreSmall, HasChart, IsOpen, start}
use Rattle.lb_break.specs.declared.point.Breakpoint.{Breakpoint}
use Rattle.lb_break.proofs.Charts.{chart-start}
use Rattle.lb_break.proofs.Gathered.{small-start}
use Rattle.lb_break.proofs.Stops.{open-start}
use Rattle.lb_break.proofs.table.table.Goals as goal

pub overflow_add-j-end : goal.overflow_add-j-end
overflow_add-j-end c = omega (arith, c.count-j-end.ensures.items, c.requires.measured.few)

pub loop-j-init : goal.loop-j-init
loop-j-init c =
    let e : c.push.new.self.items ≡ start ∷ [] = c.in_ok-push.ensures.items ∙ ap (λ (xs : List Breakpoint). xs ++ c.start.result ∷ []) c.new-points.ensures.items ∙ ap (λ (b : Breakpoint). b ∷ []) c.start.ensures in
    let f : c.push-2.new.self.items ≡ true ∷ [] = c.in_ok-push-2.ensures.items ∙ ap (λ (xs : List Bool). xs ++ true ∷ []) c.new-live.ensures.items in
    let p = paragraph_in c.args.measured.now in
    record {
      chart = subst (λ xs. HasChart p xs 1) (sym e) ((λ _. []), chart-start p);
      small = subst (λ xs. AreSmall xs 1) (sym e) small-start;
      live = subst (λ xs. IsOpen p xs 1 0 c.push-2.new.self.items) (sym e) (subst (λ ys. IsOpen p (start ∷ []) 1 0 ys) (sym f) (open-start p));
      begin = omega arith;
    }

pub returns : goal.returns
returns c =
    let end : c.loop-j.j ≡ (paragraph_in c.args.measured.now).count + 1 = omega (arith, c.count-j-end.ensures.value) in
    record { chart = subst (λ n. HasChart (paragraph_in c.args.measured.now) c.loop-j.points.items n) end c.loop-j.invariant.chart }
