use Rattle.std.proofs.Common.{◌≡◌, ◌∙◌, ◌∷◌, List, ap, sym, refl, true, false}
use Rattle.std.specs.Prelude.{if◌then◌else◌}
use Rattle.lb_model_engine.specs.Reads.{star}
use Rattle.lb_model_grammar.specs.Scans.{is_other, is_space}
use Rattle.lb_model_grammar.specs.Scans.Meant.{Ended}
use Rattle.lb_model_grammar.specs.declared.given.Given.{Given}
use Rattle.lb_model_grammar.specs.declared.given.Given.TheVariants.{Tok as AToken}
use Rattle.lb_base.specs.declared.token.Tok.{Tok}
use Rattle.lb_args.proofs.ReadingLemmas.{fed, owed-token, reads-back, reads-done, reads-fault, reads-full, reads-whole-end}
use Rattle.lb_engine.proofs.stars.read_star.Goals as goal

star-space : (t : Tok) (given : List Given) → is_space t ≡ true → star (AToken t ∷ given) ≡ star given
star-space t given e = ap (λ b. if b then star given else (if is_other 42 t then Ended true given else Ended false (AToken t ∷ given))) e

star-star : (t : Tok) (given : List Given) → is_space t ≡ false → is_other 42 t ≡ true → star (AToken t ∷ given) ≡ Ended true given
star-star t given e f =
    ap (λ b. if b then star given else (if is_other 42 t then Ended true given else Ended false (AToken t ∷ given))) e
    ∙ ap (λ b. if b then Ended true given else Ended false (AToken t ∷ given)) f

star-other : (t : Tok) (given : List Given) → is_space t ≡ false → is_other 42 t ≡ false → star (AToken t ∷ given) ≡ Ended false (AToken t ∷ given)
star-other t given e f =
    ap (λ b. if b then star given else (if is_other 42 t then Ended true given else Ended false (AToken t ∷ given))) e
    ∙ ap (λ b. if b then Ended true given else Ended false (AToken t ∷ given)) f

pub returns-in-Err : goal.returns-in-Err
returns-in-Err g c =
    let l = c.tokens in
    record {
      reads = reads-fault g.F.Feed star _ _ c.in-Err.stop c.in_file.new.self l.feed c.args.feed.now l.invariant.owed refl
          c.in-Err.ensures.narrows c.in-Err.ensures.fault c.in-Err.ensures.notes_on_fault c.in-Err.ensures.stands c.in-Err.ensures.origin;
    }

pub returns-in-Ok-None : goal.returns-in-Ok-None
returns-in-Ok-None g c =
    let F = g.F.Feed in
    let l = c.tokens in
    let s = c.in-Ok-None in
    record {
      reads = reads-whole-end F star false c.in_file.new.self l.feed c.args.feed.now l.invariant.owed refl
          (fed F _ _ c.in_file.new.self l.feed s.field-0-is s.ensures.narrows s.ensures.ok s.ensures.notes s.ensures.stands s.ensures.origin) refl;
    }

pub tokens-preserved : goal.tokens-preserved
tokens-preserved g c =
    let F = g.F.Feed in
    let l = c.tokens in
    let s = c.in-Ok-Some in
    let this = fed F _ _ c.in_file.new.self l.feed s.field-0-is s.ensures.narrows s.ensures.ok s.ensures.notes s.ensures.stands s.ensures.origin in
    record {
      owed = owed-token F star star s.tok c.in_file.new.self l.feed c.args.feed.now l.invariant.owed refl this
          (λ given. star-space s.tok given (sym c.is_space.ensures ∙ c.if-is_space.true));
    }

pub returns-then-is_other : goal.returns-then-is_other
returns-then-is_other g c =
    let F = g.F.Feed in
    let l = c.tokens in
    let s = c.in-Ok-Some in
    let this = fed F _ _ c.in_file.new.self l.feed s.field-0-is s.ensures.narrows s.ensures.ok s.ensures.notes s.ensures.stands s.ensures.origin in
    let r = λ (given : List Given). Ended true given in
    let now =
    owed-token F star r s.tok c.in_file.new.self l.feed c.args.feed.now l.invariant.owed refl this
    (λ given. star-star s.tok given (sym c.is_space.ensures ∙ c.if-is_space.false) (sym c.is_other.ensures ∙ c.if-is_other.true))
    in
    record { reads = reads-done F r true c.in_file.new.self c.args.feed.now now refl }

pub returns-in-Err-back : goal.returns-in-Err-back
returns-in-Err-back g c =
    let F = g.F.Feed in
    let l = c.tokens in
    let s = c.in-Ok-Some in
    let this = fed F _ _ c.in_file.new.self l.feed s.field-0-is s.ensures.narrows s.ensures.ok s.ensures.notes s.ensures.stands s.ensures.origin in
    let r = λ (given : List Given). Ended false (AToken s.tok ∷ given) in
    let now =
    owed-token F star r s.tok c.in_file.new.self l.feed c.args.feed.now l.invariant.owed refl this
    (λ given. star-other s.tok given (sym c.is_space.ensures ∙ c.if-is_space.false) (sym c.is_other.ensures ∙ c.if-is_other.false))
    in
    let e = c.in-Err-back in
    record { reads = reads-full F r false s.tok e.stop c.back.new.self c.in_file.new.self c.args.feed.now now refl e.ensures.narrows e.ensures.fault e.ensures.notes e.ensures.stands e.ensures.origin }

pub returns-in-Ok : goal.returns-in-Ok
returns-in-Ok g c =
    let F = g.F.Feed in
    let l = c.tokens in
    let s = c.in-Ok-Some in
    let this = fed F _ _ c.in_file.new.self l.feed s.field-0-is s.ensures.narrows s.ensures.ok s.ensures.notes s.ensures.stands s.ensures.origin in
    let r = λ (given : List Given). Ended false (AToken s.tok ∷ given) in
    let now =
    owed-token F star r s.tok c.in_file.new.self l.feed c.args.feed.now l.invariant.owed refl this
    (λ given. star-other s.tok given (sym c.is_space.ensures ∙ c.if-is_space.false) (sym c.is_other.ensures ∙ c.if-is_other.false))
    in
    let o = c.in-Ok in
    record { reads = reads-back F r false s.tok c.back.new.self c.in_file.new.self c.args.feed.now now refl o.ensures.narrows o.ensures.ok o.ensures.notes o.ensures.stands o.ensures.origin }
