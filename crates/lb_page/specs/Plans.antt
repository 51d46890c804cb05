-- Pages that are to be given.
use Rattle.std.specs.Prelude.{◌≡◌, ℕ, ◌+◌, ◌<◌, ◌≤◌, false, List, [], ◌∷◌, ◌++◌, take, drop, length, Result, Ok, Err, vec_len, vec_capacity, ⊤}
use Rattle.lb_base.specs.declared.fault.Kind.{Kind}
use Rattle.lb_base.specs.declared.node.Node.{Node}
use Rattle.lb_model_paper.specs.declared.pages.PageRules.{PageRules}
use Rattle.lb_page.specs.declared.filling.Filling.{Filling}
use Rattle.lb_page.specs.declared.plan.Planned.{Planned}
use Rattle.lb_page.specs.Fillings.{IsFilling}
use Rattle.lb_page.specs.Places.{IsPageOf}

abbrev pub place_of : Planned → ℕ
place_of planned = planned.cut.at

-- room for so many nodes
pub record IsRoom (rules : PageRules) (nodes : ℕ) (filling : Filling) : Type 0 where
  pub empty : IsFilling rules [] filling
  pub items : vec_len filling.items ≡ 0
  pub feet : vec_len filling.feet ≡ 0
  pub topped : filling.topped ≡ false
  pub item_room : nodes + 2 ≤ vec_capacity filling.items
  pub foot_room : nodes ≤ vec_capacity filling.feet

pub record IsPlanned (rules : PageRules) (nodes : List Node) (planned : Planned) : Type 0 where
  pub within : planned.cut.at < length nodes
  pub page : IsPageOf rules (take planned.cut.at nodes) planned.cut
  pub room : IsRoom rules planned.cut.at planned.filling

-- each page begins where the one before it ends
abbrev pub ArePlanned : PageRules → List Node → List Planned → Type 0
ArePlanned rules nodes [] = ⊤
ArePlanned rules nodes (first ∷ rest) = IsPlanned rules nodes first × ArePlanned rules (drop first.cut.at nodes) rest

-- the nodes behind these pages
abbrev pub left_after : List Planned → List Node → List Node
left_after [] nodes = nodes
left_after (first ∷ rest) nodes = left_after rest (drop first.cut.at nodes)

-- some pages before others
abbrev pub with_pages : List ℕ → Result (List ℕ) Kind → Result (List ℕ) Kind
with_pages before (Ok ends) = Ok (before ++ ends)
with_pages before (Err kind) = Err kind
