use Rattle.std.proofs.Common.{◌∙◌, ◌∷◌, List, refl, sym}
use Rattle.std.specs.Prelude.{Option, None}
use Rattle.lb_base.specs.declared.token.Tok.{Tok}
use Rattle.lb_model_engine.specs.Reads.{bracket}
use Rattle.lb_model_grammar.specs.Scans.{Meant}
use Rattle.lb_model_grammar.specs.Scans.Meant.{Ended}
use Rattle.lb_model_grammar.specs.declared.given.Given.{Given}
use Rattle.lb_model_grammar.specs.declared.given.Given.TheVariants.{Tok as AToken}
use Rattle.lb_args.proofs.ReadingLemmas.{fed, owed-token, reads-back, reads-fault, reads-full, reads-on, reads-whole-end}
use Rattle.lb_engine.specs.Brackets.{bracket_rest, some_of}
use Rattle.lb_engine.proofs.BracketLemmas.{bracket-opens, bracket-other, bracket-space}
use Rattle.lb_engine.proofs.brackets.read_bracket.Goals as goal

pub returns-in-Err : goal.returns-in-Err
returns-in-Err g c =
    let l = c.tokens in
    record {
      reads = reads-fault g.F.Feed bracket _ _ c.in-Err.stop c.in_file.new.self l.feed c.args.feed.now l.invariant.owed refl
          c.in-Err.ensures.narrows c.in-Err.ensures.fault c.in-Err.ensures.notes_on_fault c.in-Err.ensures.stands c.in-Err.ensures.origin;
    }

pub returns-in-Ok-None : goal.returns-in-Ok-None
returns-in-Ok-None g c =
    let F = g.F.Feed in
    let l = c.tokens in
    let s = c.in-Ok-None in
    record {
      reads = reads-whole-end F bracket None c.in_file.new.self l.feed c.args.feed.now l.invariant.owed refl
          (fed F _ _ c.in_file.new.self l.feed s.field-0-is s.ensures.narrows s.ensures.ok s.ensures.notes s.ensures.stands s.ensures.origin) refl;
    }

pub tokens-preserved : goal.tokens-preserved
tokens-preserved g c =
    let F = g.F.Feed in
    let l = c.tokens in
    let s = c.in-Ok-Some in
    let this = fed F _ _ c.in_file.new.self l.feed s.field-0-is s.ensures.narrows s.ensures.ok s.ensures.notes s.ensures.stands s.ensures.origin in
    record {
      owed = owed-token F bracket bracket s.tok c.in_file.new.self l.feed c.args.feed.now l.invariant.owed refl this
          (λ given. bracket-space s.tok given (sym c.is_space.ensures ∙ c.if-is_space.true));
    }

pub returns-then-is_other : goal.returns-then-is_other
returns-then-is_other g c =
    let F = g.F.Feed in
    let l = c.tokens in
    let s = c.in-Ok-Some in
    let this = fed F _ _ c.in_file.new.self l.feed s.field-0-is s.ensures.narrows s.ensures.ok s.ensures.notes s.ensures.stands s.ensures.origin in
    record {
      reads = reads-on F c.read_some.result c.read_some.new.feed c.in_file.new.self c.args.feed.now
          (
          owed-token F bracket (some_of bracket_rest) s.tok c.in_file.new.self l.feed c.args.feed.now l.invariant.owed refl this
          (λ given. bracket-opens s.tok given (sym c.is_space.ensures ∙ c.if-is_space.false) (sym c.is_other.ensures ∙ c.if-is_other.true))
          )
          c.read_some.ensures.reads;
    }

pub returns-in-Err-back : goal.returns-in-Err-back
returns-in-Err-back g c =
    let F = g.F.Feed in
    let l = c.tokens in
    let s = c.in-Ok-Some in
    let this = fed F _ _ c.in_file.new.self l.feed s.field-0-is s.ensures.narrows s.ensures.ok s.ensures.notes s.ensures.stands s.ensures.origin in
    let r : List Given → Meant (Option (List Tok)) = λ given. Ended None (AToken s.tok ∷ given) in
    let now =
    owed-token F bracket r s.tok c.in_file.new.self l.feed c.args.feed.now l.invariant.owed refl this
    (λ given. bracket-other s.tok given (sym c.is_space.ensures ∙ c.if-is_space.false) (sym c.is_other.ensures ∙ c.if-is_other.false))
    in
    let e = c.in-Err-back in
    record { reads = reads-full F r None s.tok e.stop c.back.new.self c.in_file.new.self c.args.feed.now now refl e.ensures.narrows e.ensures.fault e.ensures.notes e.ensures.stands e.ensures.origin }

pub returns-in-Ok : goal.returns-in-Ok
returns-in-Ok g c =
    let F = g.F.Feed in
    let l = c.tokens in
    let s = c.in-Ok-Some in
    let this = fed F _ _ c.in_file.new.self l.feed s.field-0-is s.ensures.narrows s.ensures.ok s.ensures.notes s.ensures.stands s.ensures.origin in
    let r : List Given → Meant (Option (List Tok)) = λ given. Ended None (AToken s.tok ∷ given) in
    let now =
    owed-token F bracket r s.tok c.in_file.new.self l.feed c.args.feed.now l.invariant.owed refl this
    (λ given. bracket-other s.tok given (sym c.is_space.ensures ∙ c.if-is_space.false) (sym c.is_other.ensures ∙ c.if-is_other.false))
    in
    let o = c.in-Ok in
    record { reads = reads-back F r None s.tok c.back.new.self c.in_file.new.self c.args.feed.now now refl o.ensures.narrows o.ensures.ok o.ensures.notes o.ensures.stands o.ensures.origin }
