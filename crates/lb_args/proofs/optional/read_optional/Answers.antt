use Rattle.std.proofs.Common.{◌∙◌, ◌∷◌, [], List, ap, sym, refl}
use Rattle.lb_base.specs.declared.token.Category.TheVariants as category
use Rattle.lb_base.specs.declared.token.Tok.TheVariants.{Char}
use Rattle.lb_model_grammar.specs.Arguments.{delimited, optional}
use Rattle.lb_model_grammar.specs.Scans.Meant.{Ended}
use Rattle.lb_model_grammar.specs.declared.given.Given.{Given}
use Rattle.lb_model_grammar.specs.declared.given.Given.TheVariants.{Tok as AToken, End as AnEnd}
use Rattle.lb_args.proofs.ReadingLemmas.{fed, owed-token, reads-back, reads-fault, reads-full, reads-on, reads-whole-end}
use Rattle.lb_args.proofs.WindowLemmas.{optional-bracket, optional-other, optional-space}
use Rattle.lb_args.proofs.optional.read_optional.Goals as goal

pub returns-in-Err : goal.returns-in-Err
returns-in-Err g c =
    let l = c.tokens in
    record {
      reads = reads-fault g.F.Feed (optional c.args.long c.args.default.now) _ _ c.in-Err.stop c.in_file.new.self l.feed c.args.feed.now l.invariant.owed refl
          c.in-Err.ensures.narrows c.in-Err.ensures.fault c.in-Err.ensures.notes_on_fault c.in-Err.ensures.stands c.in-Err.ensures.origin;
    }

pub returns-in-Ok-None : goal.returns-in-Ok-None
returns-in-Ok-None g c =
    let F = g.F.Feed in
    let l = c.tokens in
    let s = c.in-Ok-None in
    record {
      reads = reads-whole-end F (optional c.args.long c.args.default.now) _ c.in_file.new.self l.feed c.args.feed.now l.invariant.owed refl
          (fed F _ _ c.in_file.new.self l.feed s.field-0-is s.ensures.narrows s.ensures.ok s.ensures.notes s.ensures.stands s.ensures.origin)
          (ap (λ d. Ended d (AnEnd ∷ [])) (sym c.in_ok-copy_tokens-in-Ok-None.ensures));
    }

pub tokens-preserved : goal.tokens-preserved
tokens-preserved g c =
    let F = g.F.Feed in
    let l = c.tokens in
    let s = c.in-Ok-Some in
    let long = c.args.long in
    let default = c.args.default.now in
    let this =
    (fed F _ _ c.in_file.new.self l.feed s.field-0-is s.ensures.narrows s.ensures.ok s.ensures.notes s.ensures.stands s.ensures.origin) in
    record {
      owed = owed-token F (optional long default) (optional long default) s.tok c.in_file.new.self l.feed c.args.feed.now l.invariant.owed refl this
          (λ given. optional-space long default s.tok given (sym c.is_space.ensures ∙ c.if-is_space.true));
    }

pub returns-then-is_bracket : goal.returns-then-is_bracket
returns-then-is_bracket g c =
    let F = g.F.Feed in
    let l = c.tokens in
    let s = c.in-Ok-Some in
    let long = c.args.long in
    let default = c.args.default.now in
    let this =
    (fed F _ _ c.in_file.new.self l.feed s.field-0-is s.ensures.narrows s.ensures.ok s.ensures.notes s.ensures.stands s.ensures.origin) in
    record {
      reads = reads-on F c.read_delimited.result c.read_delimited.new.feed c.in_file.new.self c.args.feed.now
          (
          owed-token F (optional long default) (delimited long (Char category.Other 93 ∷ []) 0 []) s.tok c.in_file.new.self l.feed c.args.feed.now l.invariant.owed refl this
          (λ given. optional-bracket long default s.tok given (sym c.is_space.ensures ∙ c.if-is_space.false) (sym c.is_bracket.ensures ∙ c.if-is_bracket.true))
          )
          c.read_delimited.ensures.reads;
    }

pub returns-in-Err-back : goal.returns-in-Err-back
returns-in-Err-back g c =
    let F = g.F.Feed in
    let l = c.tokens in
    let s = c.in-Ok-Some in
    let long = c.args.long in
    let default = c.args.default.now in
    let this =
    (fed F _ _ c.in_file.new.self l.feed s.field-0-is s.ensures.narrows s.ensures.ok s.ensures.notes s.ensures.stands s.ensures.origin) in
    let r = λ (given : List Given). Ended default (AToken s.tok ∷ given) in
    let now =
    owed-token F (optional long default) r s.tok c.in_file.new.self l.feed c.args.feed.now l.invariant.owed refl this
    (λ given. optional-other long default s.tok given (sym c.is_space.ensures ∙ c.if-is_space.false) (sym c.is_bracket.ensures ∙ c.if-is_bracket.false))
    in
    let e = c.in-Err-back in
    record { reads = reads-full F r default s.tok e.stop c.back.new.self c.in_file.new.self c.args.feed.now now refl e.ensures.narrows e.ensures.fault e.ensures.notes e.ensures.stands e.ensures.origin }

pub returns-in-Ok : goal.returns-in-Ok
returns-in-Ok g c =
    let F = g.F.Feed in
    let l = c.tokens in
    let s = c.in-Ok-Some in
    let long = c.args.long in
    let default = c.args.default.now in
    let this =
    (fed F _ _ c.in_file.new.self l.feed s.field-0-is s.ensures.narrows s.ensures.ok s.ensures.notes s.ensures.stands s.ensures.origin) in
    let r = λ (given : List Given). Ended default (AToken s.tok ∷ given) in
    let now =
    owed-token F (optional long default) r s.tok c.in_file.new.self l.feed c.args.feed.now l.invariant.owed refl this
    (λ given. optional-other long default s.tok given (sym c.is_space.ensures ∙ c.if-is_space.false) (sym c.is_bracket.ensures ∙ c.if-is_bracket.false))
    in
    let o = c.in-Ok in
    record {
      reads = reads-back F r _ s.tok c.back.new.self c.in_file.new.self c.args.feed.now now (ap (λ d. Ended d (AToken s.tok ∷ [])) (sym c.in_ok-copy_tokens-in-Ok.ensures)) o.ensures.narrows o.ensures.ok
          o.ensures.notes o.ensures.stands o.ensures.origin;
    }
