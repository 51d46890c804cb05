use Rattle.std.proofs.Common.{◌≡◌, ◌∙◌, ◌+◌, ◌-◌, ◌++◌, ◌≤◌, ◌<◌, ap, arith, length, refl, rules, suc, sym, Some, None, [], ◌∷◌}
use Rattle.std.proofs.lemmas.List.{length-append}
use Rattle.lb_base.specs.declared.fault.Kind.TheVariants.{DepthLimit}
use Rattle.lb_model_engine.specs.Texts.{text_rest, text_within}
use Rattle.lb_model_nest.specs.declared.turn.Went.TheVariants.{On, Stopped}
use Rattle.lb_model_nest.specs.Wholes.{executed}
use Rattle.lb_engine.specs.ExpandedTexts.{level_behind}
use Rattle.lb_engine.specs.Reads.{behind_reading}
use Rattle.lb_engine.specs.declared.reading.Reading.TheVariants as reading
use Rattle.lb_engine.proofs.JoinLemmas.{read-failed}
use Rattle.lb_engine.proofs.LeadsLemmas.{leads-after, passes-then}
use Rattle.lb_engine.proofs.RowLemmas.{passes-of, read-ends}
use Rattle.lb_engine.proofs.SpaceLemmas.{passes-turn}
use Rattle.lb_engine.proofs.TextLemmas.{further, goes-on, level-bound, next-takes, text-start, with-room, without-room}
use Rattle.lb_engine.proofs.expanded_texts.text_rest.Goals as goal

pub tokens-init : goal.tokens-init
tokens-init g c =
    let none : c.new-toks.result ≡ [] = search rules in
    let empty : length c.new-toks.result ≡ 0 = ap length none in
    record {
      level = omega (arith, empty);
      room = omega (arith, empty);
      narrows = λ p h. h;
      steps = λ p h. omega arith;
      passes = λ row. text-start g.C.Cells row c.new-toks.result c.args.cells.now c.args.engine.now (suc c.args.engine.now.desk.left - 0) none (omega arith);
      holds = c.requires.holds;
      made = refl;
      loan = refl;
    }

pub returns-in_err-tok : goal.returns-in_err-tok
returns-in_err-tok g c =
    let C = g.C.Cells in
    let l = c.tokens in
    let i = l.invariant in
    let left = c.args.engine.now.desk.left in
    let n = left - l._turn in
    record {
      leads =
          λ row.
          read-failed c.from_residual.result c.from_residual.ensures.0
          (
          leads-after _ i.narrows
          (passes-turn C (text_rest row) (λ k. text_within k l.level l.toks row) (suc left - l._turn) (suc n) (λ p h. let s = i.steps p h in omega (arith, s)) (i.passes row))
          i.made i.loan (c.in_err-tok.ensures.leads (further n l.level l.toks row))
          );
    }

pub returns-in-Stops : goal.returns-in-Stops
returns-in-Stops g c =
    let C = g.C.Cells in
    let l = c.tokens in
    let i = l.invariant in
    let left = c.args.engine.now.desk.left in
    let n = left - l._turn in
    record {
      leads =
          λ row.
          let f = further n l.level l.toks row in
          leads-after _ i.narrows
          (passes-turn C (text_rest row) (λ k. text_within k l.level l.toks row) (suc left - l._turn) (suc n) (λ p h. let s = i.steps p h in omega (arith, s)) (i.passes row))
          i.made i.loan (read-ends (behind_reading (λ t. f t.0 t.1)) (behind_reading row) (reading.Stops c.in-Stops.went) c.in-Stops.is refl (c.in_ok-tok.ensures.leads f));
    }

pub returns-in_default : goal.returns-in_default
returns-in_default g c =
    let C = g.C.Cells in
    let l = c.tokens in
    let i = l.invariant in
    let left = c.args.engine.now.desk.left in
    let n = left - l._turn in
    let t = c.in-Of in
    record {
      leads =
          λ row.
          let f = further n l.level l.toks row in
          leads-after _ i.narrows
          (passes-turn C (text_rest row) (λ k. text_within k l.level l.toks row) (suc left - l._turn) (suc n) (λ p h. let s = i.steps p h in omega (arith, s)) (i.passes row))
          i.made i.loan
          (
          read-ends (behind_reading (λ t. f t.0 t.1)) (behind_reading row) (reading.Of l.toks) t.is
          (goes-on l.level n l.toks row t.tok t._meaning None (sym c.level_behind.ensures ∙ c.in_default.is)) (c.in_ok-tok.ensures.leads f)
          );
    }

pub returns-then-len-ge-MOST_TOKENS : goal.returns-then-len-ge-MOST_TOKENS
returns-then-len-ge-MOST_TOKENS g c =
    let C = g.C.Cells in
    let l = c.tokens in
    let i = l.invariant in
    let left = c.args.engine.now.desk.left in
    let n = left - l._turn in
    let t = c.in-Of in
    let full : 1000000 ≤ length l.toks = search rules in
    record {
      leads =
          λ row.
          let f = further n l.level l.toks row in
          leads-after _ i.narrows
          (passes-turn C (text_rest row) (λ k. text_within k l.level l.toks row) (suc left - l._turn) (suc n) (λ p h. let s = i.steps p h in omega (arith, s)) (i.passes row))
          i.made i.loan
          (
          read-ends (behind_reading (λ t. f t.0 t.1)) (behind_reading row) (reading.Stops (Stopped DepthLimit)) t.is
          (goes-on l.level n l.toks row t.tok t._meaning (Some c.in-Some.behind) (sym c.level_behind.ensures ∙ c.in-Some.is) ∙ without-room c.in-Some.behind n l.toks row t.tok full) (c.in_ok-tok.ensures.leads f)
          );
    }

pub returns-in_err-push-in-Of : goal.returns-in_err-push-in-Of
returns-in_err-push-in-Of g c =
    let C = g.C.Cells in
    let l = c.tokens in
    let i = l.invariant in
    let left = c.args.engine.now.desk.left in
    let n = left - l._turn in
    record {
      leads =
          λ row.
          read-failed c.from_residual-in_err-push-in-Of.result c.from_residual-in_err-push-in-Of.ensures.0
          (
          leads-after _ i.narrows
          (passes-turn C (text_rest row) (λ k. text_within k l.level l.toks row) (suc left - l._turn) (suc n) (λ p h. let s = i.steps p h in omega (arith, s)) (i.passes row))
          i.made i.loan (c.in_ok-tok.ensures.leads (further n l.level l.toks row))
          );
    }

pub tokens-preserved : goal.tokens-preserved
tokens-preserved g c =
    let C = g.C.Cells in
    let l = c.tokens in
    let i = l.invariant in
    let left = c.args.engine.now.desk.left in
    let n = left - l._turn in
    let t = c.in-Of in
    let behind = c.in-Some.behind in
    let toks = c.push.new.self in
    let any = c.in_ok-tok.ensures.leads (λ tok m. executed On) in
    let room : length l.toks < 1000000 = search rules in
    let pushed : toks ≡ l.toks ++ t.tok ∷ [] = c.in_ok-push-in-Of.ensures.ok in
    let level : level_behind l.level t.tok ≡ Some behind = sym c.level_behind.ensures ∙ c.in-Some.is in
    let bound = level-bound l.level behind t.tok level in
    let long : length toks ≡ length l.toks + 1 = ap length pushed ∙ length-append l.toks (t.tok ∷ []) in
    let before = i.level in
    record {
      level = omega (arith, bound, long, before);
      room = omega (arith, room, long);
      narrows = λ p h. i.narrows p (any.narrows p h);
      steps =
          λ p h.
          let s = i.steps p (any.narrows p h) in
          let less = next-takes C t.tok t._meaning p t.is c.in_ok-tok.ensures.leads h in
          omega (arith, s, less);
      passes =
          λ row.
          let f = further n l.level l.toks row in
          passes-then any.narrows
          (passes-turn C (text_rest row) (λ k. text_within k l.level l.toks row) (suc left - l._turn) (suc n) (λ p h. let s = i.steps p h in omega (arith, s)) (i.passes row))
          (
          passes-turn C (text_within (suc n) l.level l.toks row) (λ k. text_within k behind toks row) n (suc left - (l._turn + 1)) (λ p h. omega arith)
          (
          passes-of (behind_reading (λ t. f t.0 t.1)) (text_within n behind toks row) t.is
          (
          goes-on l.level n l.toks row t.tok t._meaning (Some behind) level
          ∙ with-room behind n l.toks row t.tok room
          ∙ ap (λ ts. text_within n behind ts row) (sym pushed)
          ) (c.in_ok-tok.ensures.leads f).passes
          )
          );
      holds = any.keeps;
      made = any.made ∙ i.made;
      loan = any.loan ∙ i.loan;
    }
