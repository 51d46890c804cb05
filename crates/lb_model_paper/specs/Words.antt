-- Words: how a font's ligature and kerning programs rewrite a list of characters from the left, and the spaces between words
-- (The TeXbook, chapters 4 and 12 and appendix F; tex.web, sections 1029 to 1044). Lengths are in scaled points.
use Rattle.std.specs.Prelude.{ℕ, zero, suc, ◌-◌, length, slice_index, ◌==◌, Bool, true, false, ◌&&◌, List, [], ◌∷◌, ◌++◌, map, if◌then◌else◌, Option, None, Some, Result, Ok, Err, ℤ, pos, ◌+ℤ◌, ◌*ℤ◌, int_le, int_div}
use Rattle.std.specs.List.{flat_map}
use Rattle.lb_base.specs.declared.fault.Kind.{Kind}
use Rattle.lb_base.specs.declared.fault.Kind.TheVariants.{DimenTooLarge}
use Rattle.lb_base.specs.declared.font.LigStep.{LigStep}
use Rattle.lb_base.specs.declared.font.LigStep.TheVariants.{Nothing, Kern, Lig}
use Rattle.lb_base.specs.declared.font.Metrics.{Metrics}
use Rattle.lb_base.specs.declared.font.Parameters.{Parameters}
use Rattle.lb_base.specs.declared.font.Side.{Side}
use Rattle.lb_base.specs.declared.font.Side.TheVariants.{Char, Edge}
use Rattle.lb_base.specs.declared.font.WordPart.{WordPart}
use Rattle.lb_base.specs.declared.font.WordPart.TheVariants.{Edge as WordEdge, Letter, Ligature}
use Rattle.lb_base.specs.declared.glue.Glue.{Glue}
use Rattle.lb_base.specs.declared.glue.Order.TheVariants.{Finite}
use Rattle.lb_base.specs.declared.node.Boxed.{Boxed}
use Rattle.lb_base.specs.declared.node.Discretionary.{Discretionary, roll-Discretionary}
use Rattle.lb_base.specs.declared.node.HeadMark.{HeadMark}
use Rattle.lb_base.specs.declared.node.HeadMark.TheOpen.{Char as CharLayer, Lig as LigLayer}
use Rattle.lb_base.specs.declared.node.KernOrigin.TheVariants.{Font}
use Rattle.lb_base.specs.declared.node.Node.{Node, Node-F, out-Node, Char as CharNode, Lig as LigNode, Kern as KernNode, Glue as GlueNode, Disc}
use Rattle.lb_model_paper.specs.Dvi.{is_small, IsSmall}
use Rattle.lb_model_paper.specs.Fonts.{FontData, metrics_of, step_of}

-- ---- the nodes of a part

-- each part of a word is a character of its font
abbrev pub known : Option Metrics → Metrics
known (Some metrics) = metrics
known None = record { width = pos 0; height = pos 0; depth = pos 0; italic = pos 0 }

-- whether the last of some characters is a hyphen; where there is none it is not
abbrev pub is_hyphen_last : List ℕ → Bool
is_hyphen_last codes = slice_index codes (length codes - 1) == 45

-- behind a hyphen, or a ligature that ends in one, a line can be broken: there stands an empty discretionary
abbrev pub empty_discretionary : Node
empty_discretionary = Disc (roll-Discretionary (record { pre_break = []; post_break = []; no_break = [] }))

abbrev pub break_behind : Bool → List Node
break_behind hyphen = if hyphen then empty_discretionary ∷ [] else []

abbrev pub nodes_of : FontData → WordPart → List Node
nodes_of font WordEdge = []
nodes_of font (Letter code) = CharNode code (known (metrics_of font code)) font.id ∷ break_behind (code == 45)
nodes_of font (Ligature code letters) =
    LigNode (record { font = font.id; code = code; metrics = known (metrics_of font code); letters = letters })
    ∷ break_behind (is_hyphen_last letters)

-- ---- rewriting

-- what a font sees of a part, and the characters that it stands for
abbrev pub side_of : WordPart → Side
side_of WordEdge = Edge
side_of (Letter code) = Char code
side_of (Ligature code letters) = Char code

abbrev pub letters_of : WordPart → List ℕ
letters_of WordEdge = []
letters_of (Letter code) = code ∷ []
letters_of (Ligature code letters) = letters

-- A word while it is rewritten: the nodes made so far, the part at the left of the cursor, and those at its right.
pub record Cursor : Type 0 where
  pub made : List Node
  pub left : WordPart
  pub right : List WordPart

-- the cursor goes over the next part, and the part at its left is done
abbrev pub gone_over : FontData → Cursor → WordPart → List WordPart → Cursor
gone_over font cursor next right = record { made = cursor.made ++ nodes_of font cursor.left; left = next; right = right }

abbrev pub passed_one : FontData → Cursor → List WordPart → Cursor
passed_one font cursor [] = cursor
passed_one font cursor (next ∷ right) = gone_over font cursor next right

abbrev pub passed : FontData → ℕ → Cursor → Cursor
passed font zero cursor = cursor
passed font (suc more) cursor = passed font more (passed_one font cursor cursor.right)

-- a kern stands between the two parts, and the cursor goes over the second
abbrev pub kerned : FontData → ℤ → Cursor → WordPart → List WordPart → Cursor
kerned font width cursor next right = record { made = cursor.made ++ (nodes_of font cursor.left ++ KernNode width Font ∷ []); left = next; right = right }

-- A ligature comes between the two parts, and stands for those that it takes away.
abbrev pub joined : ℕ → Bool → Bool → WordPart → WordPart → WordPart
joined code keep_left keep_right left next =
    Ligature code ((if keep_left then [] else letters_of left) ++ (if keep_right then [] else letters_of next))

abbrev pub behind_ligature : Bool → WordPart → List WordPart → List WordPart
behind_ligature keep_right next right = if keep_right then next ∷ right else right

abbrev pub with_ligature : Bool → List Node → WordPart → WordPart → List WordPart → Cursor
with_ligature true made left ligature right = record { made = made; left = left; right = ligature ∷ right }
with_ligature false made left ligature right = record { made = made; left = ligature; right = right }

-- what a step makes of the cursor and the part behind it
abbrev pub stepped : FontData → LigStep → Cursor → WordPart → List WordPart → Cursor
stepped font Nothing cursor next right = gone_over font cursor next right
stepped font (Kern width) cursor next right = kerned font width cursor next right
stepped font (Lig code keep_left keep_right pass) cursor next right =
    passed font pass
    (with_ligature keep_left cursor.made cursor.left (joined code keep_left keep_right cursor.left next) (behind_ligature keep_right next right))

-- Where the font has something to do next: nowhere, with the nodes of the whole word, or at a place, with what comes of it.
pub data Found : Type 0 where
  End : List Node → Found
  At : Cursor → Found

-- with what the font says of the part at the left and the next one; if it says nothing, then with what it says further on
abbrev pub found_at : LigStep → Found → Found → Found
found_at Nothing here further = further
found_at (Kern width) here further = here
found_at (Lig code keep_left keep_right pass) here further = here

unfoldable pub sought : FontData → List Node → WordPart → List WordPart → Found
sought font made left [] = End (made ++ nodes_of font left)
sought font made left (next ∷ right) =
    found_at (step_of font (side_of left) (side_of next))
    (At (stepped font (step_of font (side_of left) (side_of next)) (record { made = made; left = left; right = next ∷ right }) next right))
    (sought font (made ++ nodes_of font left) next right)

-- The nodes made from a cursor on, with those made before, and the number of steps left of those that may be taken; none where
-- the word needs more.
unfoldable pub set_from : FontData → ℕ → Cursor → Option (List Node × ℕ)
set_from font zero cursor = elim (sought font cursor.made cursor.left cursor.right) [ End nodes ↦ Some (nodes, 0) | At next ↦ None ]
set_from font (suc steps) cursor = elim (sought font cursor.made cursor.left cursor.right) [ End nodes ↦ Some (nodes, suc steps) | At next ↦ set_from font steps next ]

-- A word begins and ends with an edge. Where it has no character it is nothing.
abbrev pub word_start : List Node → List ℕ → Cursor
word_start nodes codes = record { made = nodes; left = WordEdge; right = map Letter codes ++ WordEdge ∷ [] }

-- a list with the nodes of a word behind it, and the number of steps left
unfoldable pub set_word : FontData → ℕ → List Node → List ℕ → Option (List Node × ℕ)
set_word font steps nodes [] = Some (nodes, steps)
set_word font steps nodes (code ∷ codes) = set_from font steps (word_start nodes (code ∷ codes))

-- ---- spaces

abbrev pub finite_glue : ℤ → ℤ → ℤ → Glue
finite_glue width stretch shrink = record { width = width; stretch = stretch; stretch_order = Finite; shrink = shrink; shrink_order = Finite }

-- the glue between two words after this space factor, which is above 0; divisions are toward 0
abbrev pub space_width : ℤ → ℤ → ℤ → ℤ
space_width space extra_space factor = if int_le (pos 2000) factor then space +ℤ extra_space else space

abbrev pub space_glue : Parameters → ℤ → Glue
space_glue font factor =
    finite_glue (space_width font.space font.extra_space factor) (int_div (font.stretch *ℤ factor) (pos 1000)) (int_div (font.shrink *ℤ pos 1000) factor)

-- the three lengths of a glue are below 2^30 in size
pub record IsSmallGlue (glue : Glue) : Type 0 where
  pub width : IsSmall glue.width
  pub stretch : IsSmall glue.stretch
  pub shrink : IsSmall glue.shrink

abbrev pub space_node : Parameters → ℤ → Node
space_node font factor = GlueNode (space_glue font factor)

-- the same as a test
abbrev pub is_small_glue : Glue → Bool
is_small_glue glue = is_small glue.width && (is_small glue.stretch && is_small glue.shrink)

-- a list with a space behind it, or why there is none
unfoldable pub spaced : Parameters → ℤ → List Node → Result (List Node) Kind
spaced font factor nodes = if is_small_glue (space_glue font factor) then Ok (nodes ++ space_node font factor ∷ []) else Err DimenTooLarge

-- ---- what a word stands for

-- the characters that a node of a word stands for; a ligature for all that its steps took away
abbrev pub letters_in : Node-F HeadMark Node Boxed Discretionary → List ℕ
letters_in (CharLayer code metrics font) = code ∷ []
letters_in (LigLayer ligature) = ligature.letters
letters_in _ = []

unfoldable pub letters_of_node : Node → List ℕ
letters_of_node node = letters_in (out-Node node)

abbrev pub letters_of_list : List Node → List ℕ
letters_of_list nodes = flat_map letters_of_node nodes

-- the characters of a word as they are, one by one
abbrev pub characters_of : FontData → List ℕ → List Node
characters_of font codes = flat_map (λ code. nodes_of font (Letter code)) codes
