use Rattle.std.proofs.Common.{◌∙◌, refl, sym, true, List}
use Rattle.lb_base.specs.declared.fault.Kind.TheVariants.{Runaway}
use Rattle.lb_args.proofs.ReadingLemmas.{reads-on}
use Rattle.lb_model_engine.specs.Definitions.{behind_equals, let_source}
use Rattle.lb_model_grammar.specs.declared.given.Given.{Given}
use Rattle.lb_model_grammar.specs.Scans.Meant.{Ended}
use Rattle.lb_expand.proofs.PlainLemmas.{fed, owed-token, reads-done, reads-end, reads-fault}
use Rattle.lb_engine.proofs.LetSourceLemmas.{let-equals, let-other, let-space}
use Rattle.lb_engine.proofs.let_sources.read_let_source.Goals as goal

pub returns-in-Err : goal.returns-in-Err
returns-in-Err g c =
    let l = c.tokens in
    let s = c.in-Err in
    record { reads = reads-fault g.F.Feed true let_source _ _ s.stop c.plain.new.self l.feed c.args.feed.now l.invariant.owed refl s.ensures.narrows s.ensures.fault s.ensures.notes_on_fault s.ensures.stands s.ensures.origin }

pub returns-in-Ok-None : goal.returns-in-Ok-None
returns-in-Ok-None g c =
    let F = g.F.Feed in
    let l = c.tokens in
    let s = c.in-Ok-None in
    let this = fed F true _ _ c.plain.new.self l.feed s.field-0-is s.ensures.narrows s.ensures.ok s.ensures.notes s.ensures.stands s.ensures.origin in
    record { reads = reads-end F true let_source Runaway c.plain.new.self l.feed c.args.feed.now l.invariant.owed refl this refl }

pub tokens-preserved : goal.tokens-preserved
tokens-preserved g c =
    let F = g.F.Feed in
    let l = c.tokens in
    let s = c.in-Ok-Some in
    let this = fed F true _ _ c.plain.new.self l.feed s.field-0-is s.ensures.narrows s.ensures.ok s.ensures.notes s.ensures.stands s.ensures.origin in
    record {
      owed = owed-token F true let_source let_source s.tok c.plain.new.self l.feed c.args.feed.now l.invariant.owed refl this
          (λ given. let-space s.tok given (sym c.is_space.ensures ∙ c.if-is_space.true));
    }

pub returns-then-is_other : goal.returns-then-is_other
returns-then-is_other g c =
    let F = g.F.Feed in
    let l = c.tokens in
    let s = c.in-Ok-Some in
    let this = fed F true _ _ c.plain.new.self l.feed s.field-0-is s.ensures.narrows s.ensures.ok s.ensures.notes s.ensures.stands s.ensures.origin in
    record {
      reads = reads-on F c.read_behind_equals.result c.read_behind_equals.new.feed c.plain.new.self c.args.feed.now
          (
          owed-token F true let_source behind_equals s.tok c.plain.new.self l.feed c.args.feed.now l.invariant.owed refl this
          (λ given. let-equals s.tok given (sym c.is_space.ensures ∙ c.if-is_space.false) (sym c.is_other.ensures ∙ c.if-is_other.true))
          )
          c.read_behind_equals.ensures.reads;
    }

pub returns-in-Ok-Some : goal.returns-in-Ok-Some
returns-in-Ok-Some g c =
    let F = g.F.Feed in
    let l = c.tokens in
    let s = c.in-Ok-Some in
    let this = fed F true _ _ c.plain.new.self l.feed s.field-0-is s.ensures.narrows s.ensures.ok s.ensures.notes s.ensures.stands s.ensures.origin in
    let r = λ (given : List Given). Ended s.tok given in
    record {
      reads = reads-done F true r s.tok c.plain.new.self c.args.feed.now
          (
          owed-token F true let_source r s.tok c.plain.new.self l.feed c.args.feed.now l.invariant.owed refl this
          (λ given. let-other s.tok given (sym c.is_space.ensures ∙ c.if-is_space.false) (sym c.is_other.ensures ∙ c.if-is_other.false))
          )
          refl;
    }
