use Rattle.std.proofs.Common.{◌∙◌, ◌+◌, ◌-◌, suc, arith, refl, sym}
use Rattle.std.specs.Prelude.{Ok, Err}
use Rattle.lb_model_engine.specs.Reads.{past_spaces_in, past_spaces_or}
use Rattle.lb_model_nest.specs.declared.turn.Went.TheVariants.{On}
use Rattle.lb_model_nest.specs.Wholes.{executed}
use Rattle.lb_engine.specs.Reads.{behind_next}
use Rattle.lb_engine.specs.declared.reading.Next.TheVariants as next
use Rattle.lb_engine.proofs.LeadsLemmas.{leads-after, passes-then}
use Rattle.lb_engine.proofs.RowLemmas.{passes-of, read-ends, read-fails}
use Rattle.lb_engine.proofs.SpaceLemmas.{further, further-other, further-space, passes-start, passes-turn, token-takes}
use Rattle.lb_engine.proofs.spaces.past_spaces_or_end.Goals as goal

pub tokens-init : goal.tokens-init
tokens-init g c =
    record {
      narrows = λ p h. h;
      steps = λ p h. omega arith;
      passes = λ at_end row. passes-start g.C.Cells at_end row c.args.cells.now c.args.engine.now (suc c.args.engine.now.desk.left - 0) (omega arith);
      holds = c.requires.holds;
      made = refl;
      loan = refl;
    }

pub returns-in_err-tok : goal.returns-in_err-tok
returns-in_err-tok g c =
    let C = g.C.Cells in
    let l = c.tokens in
    let i = l.invariant in
    let left = c.args.engine.now.desk.left in
    let n = left - l._turn in
    record {
      leads = λ at_end row.
          read-fails c.from_residual.result c.from_residual.ensures.0
          (
          leads-after (Err _) i.narrows
          (passes-turn C (past_spaces_or at_end row) (λ k. past_spaces_in k at_end row) (suc left - l._turn) (suc n) (λ p h. let s = i.steps p h in omega (arith, s)) (i.passes at_end row))
          i.made i.loan (c.in_err-tok.ensures.leads at_end (further n at_end row))
          );
    }

pub returns-in-Tok : goal.returns-in-Tok
returns-in-Tok g c =
    let C = g.C.Cells in
    let l = c.tokens in
    let i = l.invariant in
    let left = c.args.engine.now.desk.left in
    let n = left - l._turn in
    let t = c.in-Tok in
    record {
      leads = λ at_end row.
          leads-after (Ok (next.Tok t.tok t.meaning)) i.narrows
          (passes-turn C (past_spaces_or at_end row) (λ k. past_spaces_in k at_end row) (suc left - l._turn) (suc n) (λ p h. let s = i.steps p h in omega (arith, s)) (i.passes at_end row))
          i.made i.loan
          (
          read-ends (behind_next at_end (further n at_end row)) (behind_next at_end row) (next.Tok t.tok t.meaning) t.is
          (further-other n at_end row t.tok t.meaning (sym c.is_space.ensures ∙ c.if-is_space.false)) (c.in_ok-tok.ensures.leads at_end (further n at_end row))
          );
    }

pub returns-in-End : goal.returns-in-End
returns-in-End g c =
    let C = g.C.Cells in
    let l = c.tokens in
    let i = l.invariant in
    let left = c.args.engine.now.desk.left in
    let n = left - l._turn in
    record {
      leads = λ at_end row.
          leads-after (Ok next.End) i.narrows
          (passes-turn C (past_spaces_or at_end row) (λ k. past_spaces_in k at_end row) (suc left - l._turn) (suc n) (λ p h. let s = i.steps p h in omega (arith, s)) (i.passes at_end row))
          i.made i.loan
          (read-ends (behind_next at_end (further n at_end row)) (behind_next at_end row) next.End c.in-End.is refl (c.in_ok-tok.ensures.leads at_end (further n at_end row)));
    }

pub returns-in-Stops : goal.returns-in-Stops
returns-in-Stops g c =
    let C = g.C.Cells in
    let l = c.tokens in
    let i = l.invariant in
    let left = c.args.engine.now.desk.left in
    let n = left - l._turn in
    record {
      leads = λ at_end row.
          leads-after (Ok (next.Stops c.in-Stops.went)) i.narrows
          (passes-turn C (past_spaces_or at_end row) (λ k. past_spaces_in k at_end row) (suc left - l._turn) (suc n) (λ p h. let s = i.steps p h in omega (arith, s)) (i.passes at_end row))
          i.made i.loan
          (read-ends (behind_next at_end (further n at_end row)) (behind_next at_end row) (next.Stops c.in-Stops.went) c.in-Stops.is refl (c.in_ok-tok.ensures.leads at_end (further n at_end row)));
    }

pub tokens-preserved : goal.tokens-preserved
tokens-preserved g c =
    let C = g.C.Cells in
    let l = c.tokens in
    let i = l.invariant in
    let left = c.args.engine.now.desk.left in
    let n = left - l._turn in
    let t = c.in-Tok in
    let any = c.in_ok-tok.ensures.leads (executed On) (λ tok m. executed On) in
    record {
      narrows = λ p h. i.narrows p (any.narrows p h);
      steps = λ p h.
          let s = i.steps p (any.narrows p h) in
          let less = token-takes C t.tok t.meaning p t.is c.in_ok-tok.ensures.leads h in
          omega (arith, s, less);
      passes = λ at_end row.
          passes-then any.narrows
          (passes-turn C (past_spaces_or at_end row) (λ k. past_spaces_in k at_end row) (suc left - l._turn) (suc n) (λ p h. let s = i.steps p h in omega (arith, s)) (i.passes at_end row))
          (
          passes-turn C (past_spaces_in (suc n) at_end row) (λ k. past_spaces_in k at_end row) n (suc left - (l._turn + 1)) (λ p h. omega arith)
          (
          passes-of (behind_next at_end (further n at_end row)) (past_spaces_in n at_end row) t.is
          (further-space n at_end row t.tok t.meaning (sym c.is_space.ensures ∙ c.if-is_space.true)) (c.in_ok-tok.ensures.leads at_end (further n at_end row)).passes
          )
          );
      holds = any.keeps;
      made = any.made ∙ i.made;
      loan = any.loan ∙ i.loan;
    }
