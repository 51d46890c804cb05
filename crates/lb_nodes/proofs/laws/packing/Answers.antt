use Rattle.std.proofs.Common.{sym, subst}
use Rattle.lb_base.specs.declared.node.Boxed.{Boxed}
use Rattle.lb_model_paper.specs.Boxes.{IsPacked}
use Rattle.lb_nodes.proofs.Packs.{deep-packs, IsPacked-ok, IsPacked-packed, large-packs, packed-is, packs-deep, packs-large, packs-made, packs-ok}
use Rattle.lb_nodes.proofs.laws.packing.Goals as goal

pub returns-clause-relation : goal.returns-clause-relation
returns-clause-relation c = λ axis nodes target box. (
  packed-is axis nodes target box,
  λ is. (let P : Boxed → Type 0 = λ b. IsPacked axis nodes target b in subst P (sym is) (IsPacked-packed axis nodes target)),
)

pub returns-clause-made : goal.returns-clause-made
returns-clause-made c = λ axis nodes target box. (
  λ made. (let is = packs-ok axis nodes target box made in (is.small, is.flat, IsPacked-ok axis nodes target box made)),
  λ h. packs-made axis nodes target box h.0 h.1 h.2,
)

pub returns-clause-large : goal.returns-clause-large
returns-clause-large c = λ axis nodes target. (large-packs axis nodes target, packs-large axis nodes target)

pub returns-clause-deep : goal.returns-clause-deep
returns-clause-deep c = λ axis nodes target. (deep-packs axis nodes target, λ h. packs-deep axis nodes target h.0 h.1)
