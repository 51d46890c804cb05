-- A walk over the items of a box, for those who read its shifts one by one.
use Rattle.std.proofs.Common.{◌≡◌, ℕ, ◌+◌, ◌*◌, ◌<◌, ◌≤◌, length, get_or, ℤ, sym, ap, ◌∙◌, arith}
use Rattle.std.proofs.lemmas.Int.{ints}
use Rattle.std.specs.Prelude.{unsigned_abs}
use Rattle.lb_base.specs.declared.node.Boxed.{Boxed, out-Boxed}
use Rattle.lb_base.specs.declared.node.Node.{Node}
use Rattle.lb_model_paper.specs.Boxes.{give_of}
use Rattle.lb_nodes.specs.Bounds.{IsLength, IsLongSum}
use Rattle.lb_nodes.specs.Setting.{Given, given_behind, given_past}
use Rattle.lb_nodes.proofs.Products.{IsLongSum-of}
use Rattle.lb_nodes.proofs.Shifting.{total-give_turn}

-- what is given behind one item more
pub given_past-behind : (box : Boxed) (k : ℕ) (given : Given) (node : Node) → k < length (out-Boxed box).items → node ≡ get_or (out-Boxed box).items k node → given ≡ given_behind box k → given_past given node ≡ given_behind box (k + 1)
given_past-behind box k given node within is so_far =
    let G : ℤ → Given = λ z. record { set = (out-Boxed box).glue_set; part = z; whole = (given_behind box k).whole } in
    ap (λ (g : Given). given_past g node) so_far ∙ ap G (sym (total-give_turn (out-Boxed box).glue_set (out-Boxed box).items k node within is))

-- how large it is
pub IsNear-past : (given : Given) (node : Node) (k : ℕ) → unsigned_abs given.part ≤ 2147483648 * k → IsLength (give_of given.set node) → unsigned_abs (given_past given node).part ≤ 2147483648 * (k + 1)
IsNear-past given node k near length = let low = length.low in let high = length.high in omega (arith, ints)

pub IsLongSum-past : (given : Given) (node : Node) (k : ℕ) → unsigned_abs given.part ≤ 2147483648 * k → IsLength (give_of given.set node) → k + 1 ≤ 18446744073709551616 → IsLongSum (given_past given node).part
IsLongSum-past given node k near length most = IsLongSum-of (given_past given node).part (k + 1) (IsNear-past given node k near length) most
