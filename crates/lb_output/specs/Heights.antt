-- Sums of lengths as they are kept.
use Rattle.std.specs.Prelude.{◌≡◌, List, [], ◌∷◌, ℤ, pos, neg_ℤ, ◌+ℤ◌, ◌≤ℤ◌, if◌then◌else◌}
use Rattle.lb_base.specs.declared.node.Node.{Node}
use Rattle.lb_model_paper.specs.declared.pages.PageLengths.{PageLengths}
use Rattle.lb_model_paper.specs.Dvi.{IsSmall}
use Rattle.lb_model_paper.specs.Nodes.{total}
use Rattle.lb_model_paper.specs.Pages.{foot_size, is_some_left}
use Rattle.lb_model_paper.specs.PageBoxes.{page_height, used_by}
use Rattle.lb_output.specs.declared.heights.Heights.{Heights}

pub record IsSum (sum length new : ℤ) : Type 0 where
  pub is : new ≡ sum +ℤ length
  pub small : IsSmall new

-- as large as the height and depth of a footnote can be
pub record IsFootLength (z : ℤ) : Type 0 where
  pub low : neg_ℤ (pos 4294967296) ≤ℤ z
  pub high : z ≤ℤ pos 4294967296

-- the lengths above the body, and their sum
abbrev pub lengths_above : PageLengths → List ℤ
lengths_above lengths = lengths.topmargin ∷ lengths.headheight ∷ lengths.headsep ∷ []

abbrev pub above : PageLengths → ℤ
above lengths = ((pos 0 +ℤ lengths.topmargin) +ℤ lengths.headheight) +ℤ lengths.headsep

pub record IsAbove (lengths : PageLengths) (sum : ℤ) : Type 0 where
  pub is : sum ≡ above lengths
  pub small : IsSmall sum

-- the room of the footnotes, and of 9pt before them where there are any
abbrev pub feet_room : List Node → ℤ
feet_room feet = if is_some_left feet then pos 589824 +ℤ total foot_size feet else pos 0

-- the heights of a page
pub record IsHeights (lengths : PageLengths) (goal : ℤ) (feet : List Node) (heights : Heights) : Type 0 where
  pub body : heights.goal ≡ goal
  pub used : heights.used ≡ used_by goal feet
  pub least : neg_ℤ (pos 2147483647) ≤ℤ heights.used
  pub page : heights.page ≡ page_height lengths
