use Rattle.lb_base.specs.declared.node.Node.{out-Node}
use Rattle.lb_model_nest.specs.Boxes.{part_in, part_last}
use Rattle.lb_nest.proofs.EndingLemmas.{last-part}
use Rattle.std.proofs.Common.{rules, ◌≡◌, ◌∙◌, ◌++◌, ◌∷◌, [], ap, sym}
use Rattle.lb_nest.proofs.material.fill_in.Goals as goal

pub returns : goal.returns
returns c =
    let a = c.args in
    let pushed : c.push.new.self ≡ c.pop.new.self ++ part_in a.part a.nodes c.in-Some.last (out-Node c.in-Some.last) ∷ [] = search rules in
    pushed ∙ sym (ap (part_last a.part a.nodes) c.in-Some.ensures ∙ last-part a.part a.nodes c.pop.new.self c.in-Some.last)
