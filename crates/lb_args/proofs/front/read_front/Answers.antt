use Rattle.std.proofs.Common.{◌≡◌, ◌∙◌, ◌+◌, [], List, ap, sym, drop, length, refl, arith}
use Rattle.lb_base.specs.declared.fault.Kind.TheVariants.{UseMismatch}
use Rattle.lb_model_grammar.specs.Arguments.{front}
use Rattle.lb_model_grammar.specs.Same.{tok_eq}
use Rattle.lb_model_grammar.specs.Scans.Meant.{Ended, Wrong}
use Rattle.lb_model_grammar.specs.declared.given.Given.{Given}
use Rattle.lb_args.proofs.ReadingLemmas.{fed, owed-token, reads-done, reads-end, reads-fault, reads-wrong}
use Rattle.lb_args.proofs.WindowLemmas.{front-cut, front-done, front-next, front-not, front-open}
use Rattle.lb_args.proofs.front.read_front.Goals as goal

pub returns-in-Err : goal.returns-in-Err
returns-in-Err g c =
    let l = c.tokens in
    let toks = c.args.toks.now in
    record {
      reads = reads-fault g.F.Feed (front (drop l.index toks)) _ _ c.in-Err.stop c.in_file.new.self l.feed c.args.feed.now l.invariant.owed (front-open toks l.index c.tokens-test.true) c.in-Err.ensures.narrows
          c.in-Err.ensures.fault c.in-Err.ensures.notes_on_fault c.in-Err.ensures.stands c.in-Err.ensures.origin;
    }

pub returns-in-Ok-None : goal.returns-in-Ok-None
returns-in-Ok-None g c =
    let F = g.F.Feed in
    let l = c.tokens in
    let toks = c.args.toks.now in
    let s = c.in-Ok-None in
    record {
      reads = reads-end F (front (drop l.index toks)) UseMismatch c.in_file.new.self l.feed c.args.feed.now l.invariant.owed (front-open toks l.index c.tokens-test.true)
          (fed F _ _ c.in_file.new.self l.feed s.field-0-is s.ensures.narrows s.ensures.ok s.ensures.notes s.ensures.stands s.ensures.origin) (front-cut toks l.index c.tokens-test.true);
    }

pub tokens-preserved : goal.tokens-preserved
tokens-preserved g c =
    let F = g.F.Feed in
    let l = c.tokens in
    let toks = c.args.toks.now in
    let s = c.in-Ok-Some in
    let same = ap (λ t. tok_eq t s.tok) (sym c.index-toks-index.is) ∙ sym c.same_token.ensures ∙ c.if-same_token.true in
    record {
      owed = owed-token F (front (drop l.index toks)) (front (drop (l.index + 1) toks)) s.tok c.in_file.new.self l.feed c.args.feed.now l.invariant.owed (front-open toks l.index c.tokens-test.true)
          (fed F _ _ c.in_file.new.self l.feed s.field-0-is s.ensures.narrows s.ensures.ok s.ensures.notes s.ensures.stands s.ensures.origin) (λ given. front-next toks l.index _ s.tok given c.tokens-test.true same);
    }

pub returns-in-Ok-Some : goal.returns-in-Ok-Some
returns-in-Ok-Some g c =
    let F = g.F.Feed in
    let l = c.tokens in
    let toks = c.args.toks.now in
    let s = c.in-Ok-Some in
    let differ = ap (λ t. tok_eq t s.tok) (sym c.index-toks-index.is) ∙ sym c.same_token.ensures ∙ c.if-same_token.false in
    let r = λ (given : List Given). Wrong UseMismatch in
    let now = owed-token F (front (drop l.index toks)) r s.tok c.in_file.new.self l.feed c.args.feed.now l.invariant.owed (front-open toks l.index c.tokens-test.true)
    (fed F _ _ c.in_file.new.self l.feed s.field-0-is s.ensures.narrows s.ensures.ok s.ensures.notes s.ensures.stands s.ensures.origin) (λ given. front-not toks l.index _ s.tok given c.tokens-test.true differ) in
    record { reads = reads-wrong F r UseMismatch c.in_file.new.self c.args.feed.now now refl }

pub returns : goal.returns
returns g c =
    let F = g.F.Feed in
    let l = c.tokens in
    let toks = c.args.toks.now in
    let at : l.index ≡ length toks = omega (arith, l.auto.index-end, c.tokens-test.false) in
    record { reads = reads-done F (front (drop l.index toks)) c.new.result l.feed c.args.feed.now l.invariant.owed (front-done toks l.index at ∙ ap (λ b. Ended b []) (sym c.new.ensures)) }
