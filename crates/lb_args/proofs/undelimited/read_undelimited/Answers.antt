use Rattle.std.proofs.Common.{◌∙◌, ◌++◌, ◌∷◌, [], ap, sym, refl}
use Rattle.lb_base.specs.declared.fault.Kind.TheVariants.{Runaway}
use Rattle.lb_model_grammar.specs.Arguments.{group, undelimited}
use Rattle.lb_model_grammar.specs.Scans.Meant.{Ended}
use Rattle.lb_args.specs.Turns.{begun}
use Rattle.lb_args.proofs.ReadingLemmas.{fed, owed-is, reads-done, reads-end, reads-fault, reads-on, reads-wrong}
use Rattle.lb_args.proofs.TurnLemmas.{undelimited-token}
use Rattle.lb_args.proofs.undelimited.read_undelimited.Goals as goal

pub returns-in-Err : goal.returns-in-Err
returns-in-Err g c =
    let l = c.tokens in
    record {
      reads = reads-fault g.F.Feed (undelimited c.args.long) _ _ c.in-Err.stop c.in_file.new.self l.feed c.args.feed.now l.invariant.owed refl c.in-Err.ensures.narrows c.in-Err.ensures.fault
          c.in-Err.ensures.notes_on_fault c.in-Err.ensures.stands c.in-Err.ensures.origin;
    }

pub returns-in-Ok-None : goal.returns-in-Ok-None
returns-in-Ok-None g c =
    let F = g.F.Feed in
    let l = c.tokens in
    let s = c.in-Ok-None in
    record {
      reads = reads-end F (undelimited c.args.long) Runaway c.in_file.new.self l.feed c.args.feed.now l.invariant.owed refl
          (fed F _ _ c.in_file.new.self l.feed s.field-0-is s.ensures.narrows s.ensures.ok s.ensures.notes s.ensures.stands s.ensures.origin) refl;
    }

pub returns-in-Fails : goal.returns-in-Fails
returns-in-Fails g c =
    let F = g.F.Feed in
    let l = c.tokens in
    let s = c.in-Ok-Some in
    let long = c.args.long in
    let now =
    undelimited-token F long s.tok c.brace_of-brace.result c.first_of-first.result c.in_file.new.self l.feed c.args.feed.now l.invariant.owed
    (fed F _ _ c.in_file.new.self l.feed s.field-0-is s.ensures.narrows s.ensures.ok s.ensures.notes s.ensures.stands s.ensures.origin) c.brace_of-brace.ensures c.first_of-first.ensures
    in
    record { reads = reads-wrong F (begun c.first_of-first.result long s.tok) c.in-Fails.kind c.in_file.new.self c.args.feed.now now (ap (λ f. begun f long s.tok []) c.in-Fails.is) }

pub returns-in-One : goal.returns-in-One
returns-in-One g c =
    let F = g.F.Feed in
    let l = c.tokens in
    let s = c.in-Ok-Some in
    let long = c.args.long in
    let now =
    undelimited-token F long s.tok c.brace_of-brace.result c.first_of-first.result c.in_file.new.self l.feed c.args.feed.now l.invariant.owed
    (fed F _ _ c.in_file.new.self l.feed s.field-0-is s.ensures.narrows s.ensures.ok s.ensures.notes s.ensures.stands s.ensures.origin) c.brace_of-brace.ensures c.first_of-first.ensures
    in
    let one = c.in_ok-push-in-One.ensures.ok ∙ ap (λ b. b ++ s.tok ∷ []) c.new-argument.ensures in
    record {
      reads = reads-done F (begun c.first_of-first.result long s.tok) c.push.new.self c.in_file.new.self c.args.feed.now now (ap (λ f. begun f long s.tok []) c.in-One.is ∙ ap (λ b. Ended b []) (sym one));
    }

pub returns-in-Group : goal.returns-in-Group
returns-in-Group g c =
    let F = g.F.Feed in
    let l = c.tokens in
    let s = c.in-Ok-Some in
    let long = c.args.long in
    let now =
    undelimited-token F long s.tok c.brace_of-brace.result c.first_of-first.result c.in_file.new.self l.feed c.args.feed.now l.invariant.owed
    (fed F _ _ c.in_file.new.self l.feed s.field-0-is s.ensures.narrows s.ensures.ok s.ensures.notes s.ensures.stands s.ensures.origin) c.brace_of-brace.ensures c.first_of-first.ensures
    in
    record {
      reads = reads-on F c.read_group.result c.read_group.new.feed c.in_file.new.self c.args.feed.now
          (owed-is F (begun c.first_of-first.result long s.tok) (group long 0 []) c.in_file.new.self c.args.feed.now (ap (λ f. begun f long s.tok) c.in-Group.is) now) c.read_group.ensures.reads;
    }

pub tokens-preserved : goal.tokens-preserved
tokens-preserved g c =
    let F = g.F.Feed in
    let l = c.tokens in
    let s = c.in-Ok-Some in
    let long = c.args.long in
    let now =
    undelimited-token F long s.tok c.brace_of-brace.result c.first_of-first.result c.in_file.new.self l.feed c.args.feed.now l.invariant.owed
    (fed F _ _ c.in_file.new.self l.feed s.field-0-is s.ensures.narrows s.ensures.ok s.ensures.notes s.ensures.stands s.ensures.origin) c.brace_of-brace.ensures c.first_of-first.ensures
    in
    record { owed = owed-is F (begun c.first_of-first.result long s.tok) (undelimited long) c.in_file.new.self c.args.feed.now (ap (λ f. begun f long s.tok) c.in-Space.is) now }
