use Rattle.std.proofs.Common.{◌∙◌, ◌++◌, ◌∷◌, [], Some, ap, sym}
use Rattle.lb_model.specs.Arguments.{looks_plain_arguments, plain_arguments}
use Rattle.lb_model.specs.Configs.{in_file, looks_in_file}
use Rattle.lb_model.specs.Readings.{looks_taken, taken}
use Rattle.lb_model_grammar.specs.Arguments.{optional}
use Rattle.lb_args.specs.Further.{further}
use Rattle.lb_args.proofs.PatternLemmas.{owed-added, owed-arguments}
use Rattle.lb_args.proofs.ReadingLemmas.{owed-then, reads-on}
use Rattle.lb_args.proofs.arguments.match_arguments.Goals as goal

pub returns-in_ok-add-in-Ok : goal.returns-in_ok-add-in-Ok
returns-in_ok-add-in-Ok g c =
    let F = g.F.Feed in
    let pattern = c.args.pattern.now in
    let default = c.in-Some.default in
    let read = optional pattern.long default in
    let now =
    owed-then F (taken in_file read) (looks_taken in_file looks_in_file read) (λ x. further (x ∷ []) (plain_arguments pattern)) (λ x. looks_plain_arguments pattern) c.in-Ok.argument c.read_optional.new.feed c.args.feed.now
    c.args.feed.now (owed-arguments F pattern (Some default) c.args.feed.now c.in-Some.is) c.in-Ok.ensures.reads
    in
    let added = c.in_ok-add-in-Ok.ensures.ok ∙ ap (λ l. l ++ c.in-Ok.argument ∷ []) c.new-arguments.ensures in
    record {
      reads = reads-on F c.read_plain-in-Ok.result c.read_plain-in-Ok.new.feed c.read_optional.new.feed c.args.feed.now
          (owed-added F (c.in-Ok.argument ∷ []) c.add.new.arguments (plain_arguments pattern) (looks_plain_arguments pattern) c.read_optional.new.feed c.args.feed.now (sym added) now) c.read_plain-in-Ok.ensures.reads;
    }
