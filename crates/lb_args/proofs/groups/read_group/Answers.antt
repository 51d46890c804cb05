use Rattle.std.proofs.Common.{◌∙◌, ◌≤◌, ◌+◌, [], ap, sym, refl, arith}
use Rattle.lb_base.specs.declared.fault.Kind.TheVariants.{Runaway}
use Rattle.lb_model_grammar.specs.Arguments.{group}
use Rattle.lb_args.specs.Turns.{level_of, stepped}
use Rattle.lb_args.proofs.ReadingLemmas.{fed, owed-is, reads-done, reads-end, reads-fault, reads-wrong}
use Rattle.lb_args.proofs.TurnLemmas.{group-token, group_behind}
use Rattle.lb_args.proofs.groups.read_group.Goals as goal

pub returns-in-Err : goal.returns-in-Err
returns-in-Err g c =
    let l = c.tokens in
    record {
      reads = reads-fault g.F.Feed (group c.args.long l.level l.body) _ _ c.in-Err.stop c.in_file.new.self l.feed c.args.feed.now l.invariant.owed refl c.in-Err.ensures.narrows c.in-Err.ensures.fault
          c.in-Err.ensures.notes_on_fault c.in-Err.ensures.stands c.in-Err.ensures.origin;
    }

pub returns-in-Ok-None : goal.returns-in-Ok-None
returns-in-Ok-None g c =
    let F = g.F.Feed in
    let l = c.tokens in
    let s = c.in-Ok-None in
    record {
      reads = reads-end F (group c.args.long l.level l.body) Runaway c.in_file.new.self l.feed c.args.feed.now l.invariant.owed refl
          (fed F _ _ c.in_file.new.self l.feed s.field-0-is s.ensures.narrows s.ensures.ok s.ensures.notes s.ensures.stands s.ensures.origin) refl;
    }

pub returns-in-None : goal.returns-in-None
returns-in-None g c =
    let F = g.F.Feed in
    let l = c.tokens in
    let s = c.in-Ok-Some in
    let long = c.args.long in
    let now =
    group-token F long l.level l.body s.tok c.brace_of-brace.result c.group_turn-turn.result c.len.result c.in_file.new.self l.feed c.args.feed.now l.invariant.owed
    (fed F _ _ c.in_file.new.self l.feed s.field-0-is s.ensures.narrows s.ensures.ok s.ensures.notes s.ensures.stands s.ensures.origin) c.brace_of-brace.ensures c.len.ensures c.group_turn-turn.ensures.turn
    in
    record {
      reads = reads-done F (group_behind long c.group_turn-turn.result l.body s.tok) l.body c.in_file.new.self c.args.feed.now now (ap (λ t. group_behind long t l.body s.tok []) c.in-None.is);
    }

pub returns-in-Fails : goal.returns-in-Fails
returns-in-Fails g c =
    let F = g.F.Feed in
    let l = c.tokens in
    let s = c.in-Ok-Some in
    let long = c.args.long in
    let now =
    group-token F long l.level l.body s.tok c.brace_of-brace.result c.group_turn-turn.result c.len.result c.in_file.new.self l.feed c.args.feed.now l.invariant.owed
    (fed F _ _ c.in_file.new.self l.feed s.field-0-is s.ensures.narrows s.ensures.ok s.ensures.notes s.ensures.stands s.ensures.origin) c.brace_of-brace.ensures c.len.ensures c.group_turn-turn.ensures.turn
    in
    record {
      reads = reads-wrong F (group_behind long c.group_turn-turn.result l.body s.tok) c.in-Fails.kind c.in_file.new.self c.args.feed.now now
          (ap (λ t. group_behind long t l.body s.tok []) c.in-Some.is ∙ ap (λ t. stepped t l.body s.tok (λ n b. group long n b [])) c.in-Fails.is);
    }

pub tokens-preserved : goal.tokens-preserved
tokens-preserved g c =
    let F = g.F.Feed in
    let l = c.tokens in
    let s = c.in-Ok-Some in
    let long = c.args.long in
    let now =
    group-token F long l.level l.body s.tok c.brace_of-brace.result c.group_turn-turn.result c.len.result c.in_file.new.self l.feed c.args.feed.now l.invariant.owed
    (fed F _ _ c.in_file.new.self l.feed s.field-0-is s.ensures.narrows s.ensures.ok s.ensures.notes s.ensures.stands s.ensures.origin) c.brace_of-brace.ensures c.len.ensures c.group_turn-turn.ensures.turn
    in
    let n = c.in-Goes.next in
    record {
      owed = owed-is F (group_behind long c.group_turn-turn.result l.body s.tok) (group long n c.push.new.self) c.in_file.new.self c.args.feed.now
          (
          ap (λ t. group_behind long t l.body s.tok) c.in-Some.is
          ∙ (λ i given. stepped (c.in-Goes.is i) l.body s.tok (λ n b. group long n b given))
          ∙ ap (group long n) (sym c.in_ok-push-in-Goes.ensures.ok)
          ) now;
      small =
          let small = l.invariant.small in
          let level : n ≤ l.level + 1 = rw (ap level_of (sym c.in-Goes.is)) c.in-Some.ensures.small in
          omega (arith, small, level);
    }
