use Rattle.std.proofs.Common.{◌∙◌, ◌≤◌, ◌^◌, ℕ, arith, refl, subst}
use Rattle.std.specs.Prelude.{Ok}
use Rattle.std.specs.declared.alloc.AllocError.{AllocError}
use Rattle.lb_model_expansion.specs.Expansion.{most_turns, step}
use Rattle.lb_expand.specs.Performs.{Performs}
use Rattle.lb_expand.specs.Turns.{ran_from}
use Rattle.lb_expand.proofs.PassLemmas.{passes-as, passes-then, performs-after, same-passes}
use Rattle.lb_expand.proofs.TurnLemmas.{last-passes, one-more, ran-starts, turn-passes}
use Rattle.lb_expand.proofs.feeder.Feeder.run.Goals as goal

pub steps-init : goal.steps-init
steps-init g c = record { narrows = λ p h. h; turns = λ all a. (all, omega arith, same-passes g.C.Cells (λ d. refl)); made = refl; loan = refl; same_cells = refl; same_desk = refl }

pub returns-in_default : goal.returns-in_default
returns-in_default g c =
    let C = g.C.Cells in
    let l = c.steps.invariant in
    let first = c.in_ok-went.ensures in
    let ended : (all : ℕ) → 2 ^ 64 ≤ all → Performs {E = AllocError} C (ran_from all) (Ok c.in_ok-went.went) c.step.new.self.cells.now c.step.new.self.desk.now c.args.self.now.cells.now c.args.self.now.desk.now =
    λ all a.
    let t = l.turns all a in
    let more = one-more all c.steps._turn t.0 a t.1 c.steps-test.true in
    record {
      narrows = λ p h. l.narrows p (first.performs.narrows p h);
      passes = passes-then first.performs.narrows (passes-as ran_from more.1 t.2) (last-passes more.0 c.in_ok-went.went c.in_default.not-On first.performs.passes);
      made = first.performs.made ∙ l.made;
      loan = first.performs.loan ∙ l.loan;
    } in
    record {
      performs = performs-after (Ok c.in_ok-went.went) (λ p h. h) (same-passes C ran-starts) refl refl (ended most_turns (omega arith));
      turns = ended;
      same_cells = first.same_cells ∙ l.same_cells;
      same_desk = first.same_desk ∙ l.same_desk;
    }

pub steps-preserved : goal.steps-preserved
steps-preserved g c =
    let C = g.C.Cells in
    let l = c.steps.invariant in
    let went = c.in_ok-went.ensures in
    let first = subst (λ w. Performs {E = AllocError} C step (Ok w) c.step.new.self.cells.now c.step.new.self.desk.now c.steps.self.cells.now c.steps.self.desk.now) c.in-On.is went.performs in
    record {
      narrows = λ p h. l.narrows p (first.narrows p h);
      turns =
          λ all a.
          let t = l.turns all a in
          let more = one-more all c.steps._turn t.0 a t.1 c.steps-test.true in
          (more.0, more.2, passes-then first.narrows (passes-as ran_from more.1 t.2) (turn-passes more.0 first.passes));
      made = first.made ∙ l.made;
      loan = first.loan ∙ l.loan;
      same_cells = went.same_cells ∙ l.same_cells;
      same_desk = went.same_desk ∙ l.same_desk;
    }
