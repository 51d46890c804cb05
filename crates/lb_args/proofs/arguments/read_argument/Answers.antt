use Rattle.std.proofs.Common.{◌≡◌, ◌∙◌, ◌<◌, length, sym, arith, []}
use Rattle.std.proofs.lemmas.Bool.{eqb-false, eqb-true}
use Rattle.lb_model_grammar.specs.Arguments.{argument, delimited, undelimited}
use Rattle.lb_args.proofs.ReadingLemmas.{owed-is, owed-start, reads-on}
use Rattle.lb_args.proofs.WindowLemmas.{argument-none, argument-some}
use Rattle.lb_args.proofs.arguments.read_argument.Goals as goal

pub returns-then-is_empty : goal.returns-then-is_empty
returns-then-is_empty g c =
    let F = g.F.Feed in
    let delimiter = c.args.delimiter.now in
    let empty = sym c.is_empty.ensures ∙ c.if-is_empty.true in
    let none : length delimiter ≡ 0 = eqb-true (length delimiter) 0 empty in
    record {
      reads = reads-on F c.read_undelimited.result c.read_undelimited.new.feed c.args.feed.now c.args.feed.now
          (owed-is F (argument c.args.long delimiter) (undelimited c.args.long) c.args.feed.now c.args.feed.now (argument-none c.args.long delimiter none) (owed-start F _ _ c.args.feed.now)) c.read_undelimited.ensures.reads;
    }

pub returns : goal.returns
returns g c =
    let F = g.F.Feed in
    let delimiter = c.args.delimiter.now in
    let filled = sym c.is_empty.ensures ∙ c.if-is_empty.false in
    let not_none = eqb-false (length delimiter) 0 filled in
    let some : 0 < length delimiter = omega (arith, not_none) in
    record {
      reads = reads-on F c.read_delimited.result c.read_delimited.new.feed c.args.feed.now c.args.feed.now
          (owed-is F (argument c.args.long delimiter) (delimited c.args.long delimiter 0 []) c.args.feed.now c.args.feed.now (argument-some c.args.long delimiter some) (owed-start F _ _ c.args.feed.now)) c.read_delimited.ensures.reads;
    }
