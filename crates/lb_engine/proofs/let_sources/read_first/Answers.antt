use Rattle.std.proofs.Common.{refl, true, List}
use Rattle.lb_base.specs.declared.fault.Kind.TheVariants.{Runaway}
use Rattle.lb_args.proofs.ReadingLemmas.{owed-start}
use Rattle.lb_model_engine.specs.Definitions.{first_given}
use Rattle.lb_model_grammar.specs.declared.given.Given.{Given}
use Rattle.lb_model_grammar.specs.Scans.Meant.{Ended}
use Rattle.lb_expand.proofs.PlainLemmas.{fed, owed-token, reads-done, reads-end, reads-fault}
use Rattle.lb_engine.proofs.let_sources.read_first.Goals as goal

pub returns-in-Err : goal.returns-in-Err
returns-in-Err g c =
    let F = g.F.Feed in
    let s = c.in-Err in
    record { reads = reads-fault F true first_given _ _ s.stop c.plain.new.self c.args.feed.now c.args.feed.now (owed-start F _ _ c.args.feed.now) refl s.ensures.narrows s.ensures.fault s.ensures.notes_on_fault s.ensures.stands s.ensures.origin }

pub returns-in-Ok-None : goal.returns-in-Ok-None
returns-in-Ok-None g c =
    let F = g.F.Feed in
    let s = c.in-Ok-None in
    let this = fed F true _ _ c.plain.new.self c.args.feed.now s.field-0-is s.ensures.narrows s.ensures.ok s.ensures.notes s.ensures.stands s.ensures.origin in
    record { reads = reads-end F true first_given Runaway c.plain.new.self c.args.feed.now c.args.feed.now (owed-start F _ _ c.args.feed.now) refl this refl }

pub returns-in-Ok-Some : goal.returns-in-Ok-Some
returns-in-Ok-Some g c =
    let F = g.F.Feed in
    let s = c.in-Ok-Some in
    let this = fed F true _ _ c.plain.new.self c.args.feed.now s.field-0-is s.ensures.narrows s.ensures.ok s.ensures.notes s.ensures.stands s.ensures.origin in
    let r = λ (given : List Given). Ended s.tok given in
    record { reads = reads-done F true r s.tok c.plain.new.self c.args.feed.now (owed-token F true first_given r s.tok c.plain.new.self c.args.feed.now c.args.feed.now (owed-start F _ _ c.args.feed.now) refl this (λ given. refl)) refl }
