use Rattle.std.proofs.Common.{◌∙◌, ap, sym}
use Rattle.lb_model.specs.Arguments.{each_argument, looks_each}
use Rattle.lb_model.specs.Configs.{in_file, looks_in_file}
use Rattle.lb_model.specs.Readings.{looks_taken, taken}
use Rattle.lb_model_grammar.specs.Arguments.{front, parts_of}
use Rattle.lb_args.specs.Further.{further}
use Rattle.lb_args.proofs.PatternLemmas.{owed-plain}
use Rattle.lb_args.proofs.ReadingLemmas.{owed-then, reads-on}
use Rattle.lb_args.proofs.arguments.read_plain.Goals as goal

pub returns-in-Ok : goal.returns-in-Ok
returns-in-Ok g c =
    let F = g.F.Feed in
    let pattern = c.args.pattern.now in
    let before = c.split_at.result.0.now in
    let parameters = c.split_at.result.1.now in
    let delimiters = (parts_of parameters).1 in
    let parts = ap parts_of (sym c.as_slice-toks.ensures) ∙ c.before_parameter.ensures.parts in
    let first = ap (λ q. q.0) parts ∙ sym c.split_at.ensures.front in
    let others = ap (λ q. q.1) parts ∙ ap (λ l. (parts_of l).1) (sym c.split_at.ensures.back) in
    let now =
    owed-then F (taken in_file (front before)) (looks_taken in_file looks_in_file (front before)) (λ x. further c.args.so_far (each_argument pattern.long delimiters)) (λ x. looks_each pattern.long delimiters)
    c.in-Ok.field-0 c.read_front.new.feed c.args.feed.now c.args.feed.now (owed-plain F c.args.so_far pattern before parameters c.args.feed.now first others) c.in-Ok.ensures.reads
    in
    record { reads = reads-on F c.read_each.result c.read_each.new.feed c.read_front.new.feed c.args.feed.now now c.read_each.ensures.reads }
