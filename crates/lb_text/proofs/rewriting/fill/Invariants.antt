use Rattle.std.proofs.Common.{◌≡◌, ◌≤◌, ◌∷◌, ◌++◌, [], length, drop, map, reverse}
use Rattle.lb_base.specs.declared.font.WordPart.TheVariants.{Edge, Letter}
use Rattle.lb_text.proofs.rewriting.fill.Given as goal

abbrev pub invariant-loop-at : goal.invariant-loop-at
invariant-loop-at l = (l.at ≤ length l.codes) × (reverse l.stack.items ≡ map Letter (drop l.at l.codes) ++ Edge ∷ [])

abbrev pub decreases-loop-at : goal.decreases-loop-at
decreases-loop-at l = l.at
