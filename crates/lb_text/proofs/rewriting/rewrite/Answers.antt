use Rattle.std.proofs.Common.{◌≡◌, ◌∷◌, ◌++◌, [], ◌∙◌, sym, ap, refl, rules, reverse, Some, None}
use Rattle.lb_model_paper.specs.Words.{set_from, side_of, stepped}
use Rattle.lb_model_paper.specs.Fonts.{step_of}
use Rattle.lb_text.specs.Stops.{cursor_of, steps_left}
use Rattle.lb_text.proofs.Cursors.{begins_on, ended, here, popped, set_with, turn}
use Rattle.lb_text.proofs.rewriting.rewrite.Goals as goal

pub returns-in_default-steps_left-clause-stop : goal.returns-in_default-steps_left-clause-stop
returns-in_default-steps_left-clause-stop c =
    let s : c.step-step.result ≡ step_of c.args.font.now (side_of c.loop-next.left) (side_of c.in-Some.next) = search rules in
    let e : steps_left c.loop-next.steps c.step-step.result ≡ None = search rules in
    let right = reverse c.pop.new.self.items in
    let p = popped c.loop-next.list c.loop-next.left c.in-Some.next c.loop-next.stack.items c.pop.new.self.items c.in-Some.ensures.items in (
      refl,
      sym c.loop-next.invariant.0
          ∙ ap (set_from c.args.font.now c.loop-next.steps) p
          ∙ turn c.args.font.now c.loop-next.steps c.step-step.result c.loop-next.list c.loop-next.left c.in-Some.next right s
          ∙ ap (λ left. set_with left c.args.font.now (stepped c.args.font.now c.step-step.result (here c.loop-next.list c.loop-next.left c.in-Some.next right) c.in-Some.next right)) e,
    )

pub loop-next-preserved : goal.loop-next-preserved
loop-next-preserved c =
    let s : c.step-step.result ≡ step_of c.args.font.now (side_of c.loop-next.left) (side_of c.in-Some.next) = search rules in
    let e : steps_left c.loop-next.steps c.step-step.result ≡ Some c.in-Some-steps_left.more = search rules in
    let right = reverse c.pop.new.self.items in
    let p = popped c.loop-next.list c.loop-next.left c.in-Some.next c.loop-next.stack.items c.pop.new.self.items c.in-Some.ensures.items in
    let q = popped c.loop-next.list c.loop-next.left c.in-Some.next (c.pop.new.self.items ++ c.in-Some.next ∷ []) c.pop.new.self.items refl in (
      ap (set_from c.args.font.now c.in-Some-steps_left.more)
          (c.in_ok-left.ensures.ok ∙ ap (λ cursor. stepped c.args.font.now c.step-step.result cursor c.in-Some.next right) q)
          ∙ sym (turn c.args.font.now c.loop-next.steps c.step-step.result c.loop-next.list c.loop-next.left c.in-Some.next right s
          ∙ ap (λ left. set_with left c.args.font.now (stepped c.args.font.now c.step-step.result (here c.loop-next.list c.loop-next.left c.in-Some.next right) c.in-Some.next right)) e)
          ∙ sym (ap (set_from c.args.font.now c.loop-next.steps) p)
          ∙ c.loop-next.invariant.0,
      begins_on _ _ _ c.loop-next.invariant.1 c.in_ok-left.ensures.begins,
    )

pub returns-clause-ok : goal.returns-clause-ok
returns-clause-ok c =
    let z : c.loop-next.stack.items ≡ [] = search rules in
    sym c.loop-next.invariant.0
    ∙ ap (λ stack. set_from c.args.font.now c.loop-next.steps (cursor_of c.loop-next.list c.loop-next.left stack)) z
    ∙ ended c.args.font.now c.loop-next.steps c.loop-next.list c.loop-next.left
    ∙ ap (λ nodes. Some (nodes, c.loop-next.steps)) (sym c.in_ok-push_part.ensures.ok)
