use Rattle.std.proofs.Common.{◌≡◌, ◌∙◌, ap, map-id, rules, sym}
use Rattle.std.proofs.lemmas.Iterator.Adapters.{YieldsList-from_vec}
use Rattle.std.proofs.lemmas.Iterator.Consumers.{YieldsList-end}
use Rattle.lb_model_engine.specs.Definitions.{body_of}
use Rattle.lb_engine.proofs.MacroLemmas.{body-more, body-whole}
use Rattle.lb_engine.proofs.bodies.body_of.Goals as goal

pub loop-tok-preserved : goal.loop-tok-preserved
loop-tok-preserved c =
    let l = c.loop-tok in
    record {
      so_far = body-more c.args.parameters l.yielded c.in-Some.tok l.stage c.behind-next.result.0 l.body c.add.new.body c.behind-next.result.1 l.invariant.so_far c.behind-next.ensures.stage c.behind-next.ensures.added c.in_ok-add.ensures;
    }

pub returns : goal.returns
returns c =
    let l = c.loop-tok in
    let items = c.into_vec-tok-items.result.items in
    let end = YieldsList-end (YieldsList-from_vec {s = c.into_iter-tok-iterator.result} items (search rules) (search rules)) l.yielded l.tok-iterator l.yielded_by c.next.result c.next.new.self c.in-None.is c.next.ensures.steps in
    let all : l.yielded ≡ items = sym (map-id l.yielded) ∙ end.0 in
    c.ended.ensures ∙ body-whole c.args.parameters l.yielded l.stage l.body l.invariant.so_far ∙ ap (body_of c.args.parameters) (all ∙ c.into_vec-tok-items.ensures)
