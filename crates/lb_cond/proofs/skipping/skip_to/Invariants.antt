use Rattle.std.proofs.Common.{◌≡◌, ◌≤◌, ◌+◌, true}
use Rattle.lb_base.specs.declared.token.Tok.{Tok}
use Rattle.lb_model.specs.Configs.{meaning_now}
use Rattle.lb_model.specs.Expandables.{mark_of}
use Rattle.lb_model.specs.Readings.{looks_with_meaning}
use Rattle.lb_model.specs.Settings.{Setting}
use Rattle.lb_model.proofs.TakenLemmas.{reading}
use Rattle.lb_model_grammar.specs.Conditionals.{stop}
use Rattle.lb_cond.proofs.skipping.skip_to.Given as goal

abbrev pub invariant-tokens : goal.invariant-tokens
invariant-tokens g l =
    let F = g.F.Feed in
    record {
      narrows : (p : Setting) → F.agrees l.feed p → F.agrees l.fn.feed p;
      world : (p : Setting) → F.agrees l.feed p → (F.configuration l.feed p).world ≡ (F.configuration l.fn.feed p).world;
      cells : (p : Setting) → F.agrees l.feed p → (F.configuration l.feed p).cells ≡ (F.configuration l.fn.feed p).cells;
      rest : (p : Setting) → F.agrees l.feed p
          → reading true looks_with_meaning (stop (λ (tok : Tok). mark_of (meaning_now (F.configuration l.fn.feed p) tok)) l.level l.sought) (F.configuration l.feed p) (F.notes l.feed)
          ≡ reading true looks_with_meaning (stop (λ (tok : Tok). mark_of (meaning_now (F.configuration l.fn.feed p) tok)) l.inside l.fn.target) (F.configuration l.fn.feed p) (F.notes l.fn.feed);
      small : l.level ≤ l.inside + l._turn;
      stands : (p : Setting) → F.agrees l.feed p → F.stands l.fn.feed p → F.stands l.feed p;
      origin : F.origin l.feed ≡ F.origin l.fn.feed;
    }
