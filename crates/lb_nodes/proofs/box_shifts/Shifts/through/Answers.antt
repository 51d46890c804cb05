use Rattle.std.proofs.Common.{◌≡◌, ℤ, subst, rules}
use Rattle.lb_model_paper.specs.Boxes.{give_of}
use Rattle.lb_nodes.specs.Bounds.{IsLength}
use Rattle.lb_nodes.proofs.Products.{IsLength-fits}
use Rattle.lb_nodes.proofs.box_shifts.Shifts.through.Goals as goal

pub returns-clause-give : goal.returns-clause-give
returns-clause-give c =
    let is : c.give_of-give.result ≡ give_of c.args.self.now.set c.args.node.now = search rules in
    let P : ℤ → Type 0 = λ z. IsLength z in
    subst P is (IsLength-fits c.give_of-give.result (search rules))
