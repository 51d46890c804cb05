-- What stays in a line and what moves out of it, node by node.
use Rattle.std.proofs.Common.{◌≡◌, ℕ, suc, ◌+◌, ◌<◌, ◌≤◌, List, [], ◌∷◌, ◌++◌, length, take, drop, get_or, reverse, Bool, true, false, if◌then◌else◌, None, Some, refl, sym, ap, ◌∙◌, arith}
use Rattle.std.proofs.lemmas.List.{append-nil, append_assoc, drop_all, drop_more, reverse-append, reverse-reverse, take_all, take_more}
use Rattle.std.proofs.lemmas.List.Elements.{All-cons}
use Rattle.lb_base.specs.declared.node.Boxed.{Boxed}
use Rattle.lb_base.specs.declared.node.Discretionary.{Discretionary}
use Rattle.lb_base.specs.declared.node.HeadMark.{HeadMark}
use Rattle.lb_base.specs.declared.node.HeadMark.TheOpen.{Char, Lig, Kern, Glue, Penalty, Disc, Rule, Boxed as InnerBox, Note, Mark, Ins, Adjust}
use Rattle.lb_base.specs.declared.node.Node as made
use Rattle.lb_base.specs.declared.node.Node.{Node, Node-F, out-Node, roll-Node, roll-out-Node}
use Rattle.lb_base.specs.declared.node.Node.TheVariants.{outs-Adjust, outs-Ins, rolls-Adjust, rolls-Ins}
use Rattle.lb_model_paper.specs.Lines.{moved_in, moved_of, moving, staying, stays, stays_in}
use Rattle.lb_model_paper.specs.Nodes.{shown, unbroken_parts, unbroken_parts_in}
use Rattle.lb_nodes.specs.Laws.{HasNoDiscretionary}
use Rattle.lb_nodes.proofs.ShownLaws.{shown-itself, shown-none_left}
use Rattle.lb_model_paper.proofs.ShownLists.{shown-disc, shown-nil, shown-other}

-- ---- kinds of nodes

pub stays-ins : (node : Node) (footnote : Boxed) → node ≡ made.Ins footnote → stays node ≡ false
unfolding stays
stays-ins node footnote is = ap stays_in (ap out-Node is ∙ outs-Ins footnote)

pub moved_of-ins : (node : Node) (footnote : Boxed) → node ≡ made.Ins footnote → moved_of node ≡ node ∷ []
unfolding moved_of
moved_of-ins node footnote is = ap (moved_in node) (ap out-Node is ∙ outs-Ins footnote)

pub stays-adjust : (node : Node) (material : List Node) → node ≡ made.Adjust material → stays node ≡ false
unfolding stays
stays-adjust node material is = ap stays_in (ap out-Node is ∙ outs-Adjust material)

pub moved_of-adjust : (node : Node) (material : List Node) → node ≡ made.Adjust material → moved_of node ≡ material
unfolding moved_of
moved_of-adjust node material is = ap (moved_in node) (ap out-Node is ∙ outs-Adjust material)

pub unbroken-ins : (node : Node) (footnote : Boxed) → node ≡ made.Ins footnote → unbroken_parts node ≡ None
unbroken-ins node footnote is = ap unbroken_parts_in (ap out-Node is ∙ outs-Ins footnote)

pub unbroken-adjust : (node : Node) (material : List Node) → node ≡ made.Adjust material → unbroken_parts node ≡ None
unbroken-adjust node material is = ap unbroken_parts_in (ap out-Node is ∙ outs-Adjust material)

-- a node that is neither footnote nor material
abbrev pub NotMoved : Node → Type 0
NotMoved node = ((footnote : Boxed) → node ≡ made.Ins footnote → ⊥) × ((material : List Node) → node ≡ made.Adjust material → ⊥)

stays_by : (node : Node) (layer : Node-F HeadMark Node Boxed Discretionary) → out-Node node ≡ layer → NotMoved node → stays_in layer ≡ true
stays_by node (Ins footnote) is other = absurd (other.0 footnote (sym (roll-out-Node node) ∙ ap roll-Node is ∙ rolls-Ins footnote))
stays_by node (Adjust material) is other = absurd (other.1 material (sym (roll-out-Node node) ∙ ap roll-Node is ∙ rolls-Adjust material))
stays_by node (Char code metrics font) is other = refl
stays_by node (Lig ligature) is other = refl
stays_by node (Kern width origin) is other = refl
stays_by node (Glue glue) is other = refl
stays_by node (Penalty penalty) is other = refl
stays_by node (Disc parts) is other = refl
stays_by node (Rule size) is other = refl
stays_by node (InnerBox box) is other = refl
stays_by node (Note note) is other = refl
stays_by node (Mark mark) is other = refl

moved_by : (node : Node) (layer : Node-F HeadMark Node Boxed Discretionary) → out-Node node ≡ layer → NotMoved node → moved_in node layer ≡ []
moved_by node (Ins footnote) is other = absurd (other.0 footnote (sym (roll-out-Node node) ∙ ap roll-Node is ∙ rolls-Ins footnote))
moved_by node (Adjust material) is other = absurd (other.1 material (sym (roll-out-Node node) ∙ ap roll-Node is ∙ rolls-Adjust material))
moved_by node (Char code metrics font) is other = refl
moved_by node (Lig ligature) is other = refl
moved_by node (Kern width origin) is other = refl
moved_by node (Glue glue) is other = refl
moved_by node (Penalty penalty) is other = refl
moved_by node (Disc parts) is other = refl
moved_by node (Rule size) is other = refl
moved_by node (InnerBox box) is other = refl
moved_by node (Note note) is other = refl
moved_by node (Mark mark) is other = refl

pub stays-other : (node : Node) → NotMoved node → stays node ≡ true
unfolding stays
stays-other node other = stays_by node (out-Node node) refl other

pub moved_of-other : (node : Node) → NotMoved node → moved_of node ≡ []
unfolding moved_of
moved_of-other node other = moved_by node (out-Node node) refl other

-- ---- lists that begin with a node

pub staying-in : (node : Node) (nodes : List Node) → stays node ≡ true → staying (node ∷ nodes) ≡ node ∷ staying nodes
staying-in node nodes is = ap (λ (b : Bool). if b then node ∷ staying nodes else staying nodes) is

pub staying-out : (node : Node) (nodes : List Node) → stays node ≡ false → staying (node ∷ nodes) ≡ staying nodes
staying-out node nodes is = ap (λ (b : Bool). if b then node ∷ staying nodes else staying nodes) is

-- what stays shows itself
none_staying : (b : Bool) (node : Node) (nodes : List Node) → unbroken_parts node ≡ None → HasNoDiscretionary (staying nodes) → HasNoDiscretionary (if b then node ∷ staying nodes else staying nodes)
none_staying true node nodes is rest = let Q : Node → Type 0 = λ m. unbroken_parts m ≡ None in All-cons Q node (staying nodes) is rest
none_staying false node nodes is rest = rest

none_left : (nodes : List Node) → HasNoDiscretionary nodes → HasNoDiscretionary (staying nodes)
none_left [] none = none
none_left (node ∷ nodes) none =
    let some : 0 < length (node ∷ nodes) = omega arith in
    let rest : HasNoDiscretionary nodes = λ k d less. (let more : suc k < length (node ∷ nodes) = omega arith in none (suc k) d more) in
    none_staying (stays node) node nodes (none 0 node some) (none_left nodes rest)

pub shown-staying : (nodes : List Node) → shown (staying (shown nodes)) ≡ staying (shown nodes)
shown-staying nodes = shown-itself (staying (shown nodes)) (none_left (shown nodes) (shown-none_left nodes))

-- ---- one turn over the nodes that are still to be parted, the next one last

next_of : (pending rest : List Node) (node : Node) → pending ≡ rest ++ node ∷ [] → reverse pending ≡ node ∷ reverse rest
next_of pending rest node is = ap reverse is ∙ reverse-append rest (node ∷ [])

pub shown-disc_turn : (pending rest more parts : List Node) (node : Node) → pending ≡ rest ++ node ∷ [] → unbroken_parts node ≡ Some parts → more ≡ rest ++ reverse parts → shown (reverse more) ≡ shown (reverse pending)
shown-disc_turn pending rest more parts node next disc is =
    ap shown (ap reverse is ∙ reverse-append rest (reverse parts) ∙ ap (λ (ns : List Node). ns ++ reverse rest) (reverse-reverse parts))
    ∙ sym (shown-disc node parts (reverse rest) disc) ∙ ap shown (sym (next_of pending rest node next))

pub shown-turn : (pending rest : List Node) (node : Node) → pending ≡ rest ++ node ∷ [] → unbroken_parts node ≡ None → shown (reverse pending) ≡ node ∷ shown (reverse rest)
shown-turn pending rest node next other = ap shown (next_of pending rest node next) ∙ shown-other node (reverse rest) other

-- what stays and what moves, before the turn and behind it
pub record AreParted (stay moved pending all : List Node) : Type 0 where
  pub stay_all : stay ++ staying (shown (reverse pending)) ≡ staying (shown all)
  pub moved_all : moved ++ moving (shown (reverse pending)) ≡ moving (shown all)

pub parted-disc : (stay moved pending rest more parts all : List Node) (node : Node) → pending ≡ rest ++ node ∷ [] → unbroken_parts node ≡ Some parts → more ≡ rest ++ reverse parts → AreParted stay moved pending all → AreParted stay moved more all
parted-disc stay moved pending rest more parts all node next disc is before =
    let same = shown-disc_turn pending rest more parts node next disc is in
    record {
      stay_all = ap (λ (ns : List Node). stay ++ staying ns) same ∙ before.stay_all;
      moved_all = ap (λ (ns : List Node). moved ++ moving ns) same ∙ before.moved_all;
    }

pub parted-stays : (stay moved pending rest more all : List Node) (node : Node) → pending ≡ rest ++ node ∷ [] → unbroken_parts node ≡ None → NotMoved node → more ≡ stay ++ node ∷ [] → AreParted stay moved pending all → AreParted more moved rest all
parted-stays stay moved pending rest more all node next none other is before =
    let same = shown-turn pending rest node next none in
    record {
      stay_all = ap (λ (ns : List Node). ns ++ staying (shown (reverse rest))) is ∙ append_assoc stay (node ∷ []) (staying (shown (reverse rest)))
          ∙ ap (λ (ns : List Node). stay ++ ns) (sym (staying-in node (shown (reverse rest)) (stays-other node other))) ∙ ap (λ (ns : List Node). stay ++ staying ns) (sym same) ∙ before.stay_all;
      moved_all = ap (λ (ns : List Node). moved ++ (ns ++ moving (shown (reverse rest)))) (sym (moved_of-other node other)) ∙ ap (λ (ns : List Node). moved ++ moving ns) (sym same) ∙ before.moved_all;
    }

pub parted-moves : (stay moved pending rest more out all : List Node) (node : Node) → pending ≡ rest ++ node ∷ [] → unbroken_parts node ≡ None → stays node ≡ false → moved_of node ≡ out → more ≡ moved ++ out → AreParted stay moved pending all → AreParted stay more rest all
parted-moves stay moved pending rest more out all node next none goes moved_is is before =
    let same = shown-turn pending rest node next none in
    record {
      stay_all = ap (λ (ns : List Node). stay ++ ns) (sym (staying-out node (shown (reverse rest)) goes)) ∙ ap (λ (ns : List Node). stay ++ staying ns) (sym same) ∙ before.stay_all;
      moved_all = ap (λ (ns : List Node). ns ++ moving (shown (reverse rest))) is ∙ append_assoc moved out (moving (shown (reverse rest)))
          ∙ ap (λ (ns : List Node). moved ++ (ns ++ moving (shown (reverse rest)))) (sym moved_is) ∙ ap (λ (ns : List Node). moved ++ moving ns) (sym same) ∙ before.moved_all;
    }

pub parted-end : (stay moved pending all : List Node) → pending ≡ [] → AreParted stay moved pending all → (stay ≡ staying (shown all)) × (moved ≡ moving (shown all))
parted-end stay moved pending all none before =
    let end : shown (reverse pending) ≡ [] = ap (λ (ns : List Node). shown (reverse ns)) none ∙ shown-nil in (
      sym (append-nil stay) ∙ ap (λ (ns : List Node). stay ++ staying ns) (sym end) ∙ before.stay_all,
      sym (append-nil moved) ∙ ap (λ (ns : List Node). moved ++ moving ns) (sym end) ∙ before.moved_all,
    )

-- ---- lists of which all stays

pub stay-turn : (nodes : List Node) (k : ℕ) (node : Node) → k < length nodes → node ≡ get_or nodes k node → unbroken_parts node ≡ None → NotMoved node
    → staying (shown nodes) ≡ take k nodes ++ staying (shown (drop k nodes)) → staying (shown nodes) ≡ take (k + 1) nodes ++ staying (shown (drop (k + 1) nodes))
stay-turn nodes k node within is none other so_far =
    let rest : List Node = drop (k + 1) nodes in
    let next : drop k nodes ≡ node ∷ rest = drop_more nodes k node within ∙ ap (λ (n : Node). n ∷ rest) (sym is) in
    let first : take (k + 1) nodes ≡ take k nodes ++ node ∷ [] = take_more nodes k node within ∙ ap (λ (n : Node). take k nodes ++ n ∷ []) (sym is) in
    so_far ∙ ap (λ (ns : List Node). take k nodes ++ staying ns) (ap shown next ∙ shown-other node rest none) ∙ ap (λ (ns : List Node). take k nodes ++ ns) (staying-in node (shown rest) (stays-other node other))
    ∙ sym (append_assoc (take k nodes) (node ∷ []) (staying (shown rest))) ∙ ap (λ (ns : List Node). ns ++ staying (shown rest)) (sym first)

pub moved-turn : (nodes : List Node) (k : ℕ) (node : Node) → k < length nodes → node ≡ get_or nodes k node → unbroken_parts node ≡ None → NotMoved node
    → moving (shown nodes) ≡ moving (shown (drop k nodes)) → moving (shown nodes) ≡ moving (shown (drop (k + 1) nodes))
moved-turn nodes k node within is none other so_far =
    let rest : List Node = drop (k + 1) nodes in
    let next : drop k nodes ≡ node ∷ rest = drop_more nodes k node within ∙ ap (λ (n : Node). n ∷ rest) (sym is) in
    so_far ∙ ap moving (ap shown next ∙ shown-other node rest none) ∙ ap (λ (ns : List Node). ns ++ moving (shown rest)) (moved_of-other node other)

pub all_stay-end : (nodes : List Node) (k : ℕ) → length nodes ≤ k → staying (shown nodes) ≡ take k nodes ++ staying (shown (drop k nodes)) → staying (shown nodes) ≡ nodes
all_stay-end nodes k past so_far =
    so_far ∙ ap (λ (ns : List Node). take k nodes ++ staying ns) (ap shown (drop_all k nodes past) ∙ shown-nil) ∙ append-nil (take k nodes) ∙ take_all k nodes past

pub none_moves-end : (nodes : List Node) (k : ℕ) → length nodes ≤ k → moving (shown nodes) ≡ moving (shown (drop k nodes)) → moving (shown nodes) ≡ []
none_moves-end nodes k past so_far = so_far ∙ ap moving (ap shown (drop_all k nodes past) ∙ shown-nil)
