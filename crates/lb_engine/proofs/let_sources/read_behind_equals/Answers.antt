use Rattle.std.proofs.Common.{◌∙◌, refl, sym, true, List}
use Rattle.lb_base.specs.declared.fault.Kind.TheVariants.{Runaway}
use Rattle.lb_args.proofs.ReadingLemmas.{owed-start, reads-on}
use Rattle.lb_model_engine.specs.Definitions.{behind_equals, first_given}
use Rattle.lb_model_grammar.specs.declared.given.Given.{Given}
use Rattle.lb_model_grammar.specs.Scans.Meant.{Ended}
use Rattle.lb_expand.proofs.PlainLemmas.{fed, owed-token, reads-done, reads-end, reads-fault}
use Rattle.lb_engine.proofs.LetSourceLemmas.{equals-other, equals-space}
use Rattle.lb_engine.proofs.let_sources.read_behind_equals.Goals as goal

pub returns-in-Err : goal.returns-in-Err
returns-in-Err g c =
    let F = g.F.Feed in
    let s = c.in-Err in
    record { reads = reads-fault F true behind_equals _ _ s.stop c.plain.new.self c.args.feed.now c.args.feed.now (owed-start F _ _ c.args.feed.now) refl s.ensures.narrows s.ensures.fault s.ensures.notes_on_fault s.ensures.stands s.ensures.origin }

pub returns-in-Ok-None : goal.returns-in-Ok-None
returns-in-Ok-None g c =
    let F = g.F.Feed in
    let s = c.in-Ok-None in
    let this = fed F true _ _ c.plain.new.self c.args.feed.now s.field-0-is s.ensures.narrows s.ensures.ok s.ensures.notes s.ensures.stands s.ensures.origin in
    record { reads = reads-end F true behind_equals Runaway c.plain.new.self c.args.feed.now c.args.feed.now (owed-start F _ _ c.args.feed.now) refl this refl }

pub returns-then-is_space : goal.returns-then-is_space
returns-then-is_space g c =
    let F = g.F.Feed in
    let s = c.in-Ok-Some in
    let this = fed F true _ _ c.plain.new.self c.args.feed.now s.field-0-is s.ensures.narrows s.ensures.ok s.ensures.notes s.ensures.stands s.ensures.origin in
    record {
      reads = reads-on F c.read_first.result c.read_first.new.feed c.plain.new.self c.args.feed.now
          (
          owed-token F true behind_equals first_given s.tok c.plain.new.self c.args.feed.now c.args.feed.now (owed-start F _ _ c.args.feed.now) refl this
          (λ given. equals-space s.tok given (sym c.is_space.ensures ∙ c.if-is_space.true))
          )
          c.read_first.ensures.reads;
    }

pub returns-else-is_space : goal.returns-else-is_space
returns-else-is_space g c =
    let F = g.F.Feed in
    let s = c.in-Ok-Some in
    let this = fed F true _ _ c.plain.new.self c.args.feed.now s.field-0-is s.ensures.narrows s.ensures.ok s.ensures.notes s.ensures.stands s.ensures.origin in
    let r = λ (given : List Given). Ended s.tok given in
    record {
      reads = reads-done F true r s.tok c.plain.new.self c.args.feed.now
          (
          owed-token F true behind_equals r s.tok c.plain.new.self c.args.feed.now c.args.feed.now (owed-start F _ _ c.args.feed.now) refl this
          (λ given. equals-other s.tok given (sym c.is_space.ensures ∙ c.if-is_space.false))
          )
          refl;
    }
