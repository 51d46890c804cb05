use Rattle.std.proofs.Common.{◌++◌, ◌∷◌, [], sym, subst}
use Rattle.lb_model.specs.Arguments.{each_argument, looks_each}
use Rattle.lb_model.specs.Configs.{in_file, looks_in_file}
use Rattle.lb_model.specs.Readings.{looks_taken, taken}
use Rattle.lb_model_grammar.specs.Arguments.{argument, parts_of}
use Rattle.lb_args.specs.Further.{AtParameter, further}
use Rattle.lb_args.proofs.PatternLemmas.{owed-added, owed-each, parts-of-parameter}
use Rattle.lb_args.proofs.ReadingLemmas.{owed-then}
use Rattle.lb_args.proofs.arguments.read_each.Goals as goal

pub parameters-preserved : goal.parameters-preserved
parameters-preserved g c =
    let F = g.F.Feed in
    let l = c.parameters in
    let long = c.args.long in
    let delimiter = c.split_at.result.0.now in
    let next = c.split_at.result.1.now in
    let delimiters = (parts_of next).1 in
    let parts =
    parts-of-parameter l.rest.now c.in-Some.field-0-0.now c.in-Some.behind.now delimiter next c.before_parameter.result c.in-Some.ensures.cases.0 l.invariant.at c.before_parameter.ensures.parts c.split_at.ensures.front
    c.split_at.ensures.back
    in
    let now =
    owed-then F (taken in_file (argument long delimiter)) (looks_taken in_file looks_in_file (argument long delimiter)) (λ x. further (l.arguments ++ x ∷ []) (each_argument long delimiters)) (λ x. looks_each long delimiters)
    c.in-Ok.argument c.read_argument.new.feed l.feed c.args.feed.now (owed-each F l.arguments long l.rest.now delimiter next l.feed c.args.feed.now parts l.invariant.owed) c.in-Ok.ensures.reads
    in
    record {
      owed = owed-added F (l.arguments ++ c.in-Ok.argument ∷ []) c.add.new.arguments (each_argument long delimiters) (looks_each long delimiters) c.read_argument.new.feed c.args.feed.now (sym c.in_ok-add-in-Ok.ensures.ok) now;
      at = subst AtParameter (sym c.split_at.ensures.back) c.before_parameter.ensures.parameter;
    }
