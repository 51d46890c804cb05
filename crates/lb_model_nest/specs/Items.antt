-- What is added to lists: glue, rules, discretionaries, spaces of LaTeX; and what rows on paragraphs do (TeXbook, chapters 24 and 25; tex.web,
-- part 47; source2e, files ltspace and ltboxes).
use Rattle.std.specs.Prelude.{◌++◌, Bool, true, false, ℤ, pos, List, [], ◌∷◌, Option, Some, None, is_some, ◌||◌, if◌then◌else◌}
use Rattle.lb_base.specs.declared.fault.Kind.TheVariants.{WrongMode}
use Rattle.lb_base.specs.declared.glue.Glue.{Glue}
use Rattle.lb_base.specs.declared.glue.Order.{Order}
use Rattle.lb_base.specs.declared.glue.Order.TheVariants.{Fil, Fill, Finite}
use Rattle.lb_base.specs.declared.node.Boxed.{Boxed}
use Rattle.lb_base.specs.declared.node.Discretionary.{Discretionary, roll-Discretionary}
use Rattle.lb_base.specs.declared.node.HeadMark.{HeadMark}
use Rattle.lb_base.specs.declared.node.HeadMark.TheOpen.{Char as CharLayer, Lig as LigLayer}
use Rattle.lb_base.specs.declared.node.KernOrigin.TheVariants.{Explicit}
use Rattle.lb_base.specs.declared.node.Node.{Node, Node-F, out-Node, Adjust as AdjustNode, Char as CharNode, Disc as DiscNode, Glue as GlueNode, Kern as KernNode, Penalty as PenaltyNode, Rule as RuleNode}
use Rattle.lb_base.specs.declared.node.RuleSize.{RuleSize}
use Rattle.lb_rows.specs.declared.parameter.Parameter.TheVariants.{ParIndent}
use Rattle.lb_values.specs.declared.cell.Cell.TheVariants.{Par}
use Rattle.lb_model.specs.Kinds.{dimension_of, no_glue}
use Rattle.lb_model_paper.specs.Fonts.{FontData, metrics_of}
use Rattle.lb_model_paper.specs.Words.{known}
use Rattle.lb_model_nest.specs.Fonts.{present}
use Rattle.lb_model_nest.specs.Pages.{added, all_added, has_code, is_page, missing_logged}
use Rattle.lb_model_nest.specs.Paragraphs.{begin_cells, begun_in_vertical, forced_break, indent_box, paragraph_ended, with_depth, without_last_glue}
use Rattle.lb_model_nest.specs.Wholes.{Executed, Whole, and_then, is_paragraph, is_restricted, is_vertical, looking, no_depth, on, stop, tells, with_node}

-- ---- Rows that want a mode

-- in a vertical list a paragraph begins before
abbrev pub in_horizontal : (Whole → Executed) → Whole → Executed
in_horizontal row w = and_then (begun_in_vertical true w) row

-- a paragraph ends before; inside a horizontal box there is no such row
abbrev pub in_vertical : (Whole → Executed) → Whole → Executed
in_vertical row w = if is_restricted w.feed.mode then stop WrongMode w else and_then (paragraph_ended w) row

-- ---- Rows on paragraphs

-- `\par`
unfoldable pub par : Whole → Executed
par w = paragraph_ended w

-- `\indent` in a paragraph is the empty box
abbrev pub indent_added : Whole → Executed
indent_added w = looking begin_cells (on (with_node (indent_box (dimension_of (tells w (Par ParIndent)))) w))

unfoldable pub indent : Whole → Executed
indent w = if is_paragraph w.feed.mode then indent_added w else begun_in_vertical true w

unfoldable pub noindent : Whole → Executed
noindent w = begun_in_vertical false w

unfoldable pub leavevmode : Whole → Executed
leavevmode w = begun_in_vertical true w

-- `\@plainnext`: the next paragraph has no indent
unfoldable pub plainnext : Whole → Executed
plainnext w = on (record w { plain_next = true })

-- ---- Glue

abbrev pub glue_added : Glue → Whole → Executed
glue_added g w = added (GlueNode g) w

-- no width, and a point of stretch, and of shrink or none
abbrev pub infinite_glue : Order → Bool → Glue
infinite_glue order shrinks =
    record {
      width = pos 0;
      stretch = pos 65536;
      stretch_order = order;
      shrink = if shrinks then pos 65536 else pos 0;
      shrink_order = if shrinks then order else Finite;
    }

abbrev pub fil : Glue
fil = infinite_glue Fil false

abbrev pub fill : Glue
fill = infinite_glue Fill false

abbrev pub ss : Glue
ss = infinite_glue Fil true

-- `\hfil`, `\hfill`, `\hss`, and `\vfil`, `\vfill`, `\vss`
unfoldable pub horizontal_glue : Glue → Whole → Executed
horizontal_glue g w = in_horizontal (glue_added g) w

unfoldable pub vertical_glue : Glue → Whole → Executed
vertical_glue g w = in_vertical (glue_added g) w

-- `\unskip`: a glue that stands last goes
abbrev pub last_glue_left : Whole → Whole
last_glue_left w =
    if is_page w.level.kind then record w { page = without_last_glue w.page }
    else record w { level = record w.level { nodes = without_last_glue w.level.nodes } }

unfoldable pub unskip : Whole → Executed
unskip w = on (last_glue_left w)

-- `\ignorespaces`: those before the next token that is not expanded
unfoldable pub ignorespaces : Whole → Executed
ignorespaces w = on (record w { skips_spaces = true })

-- ---- Rules

-- 0.4pt
abbrev pub rule_thickness : ℤ
rule_thickness = pos 26214

-- behind a rule in a vertical list no glue comes before the next box
unfoldable pub rule_added : RuleSize → Whole → Executed
rule_added size w = added (RuleNode size) (with_depth no_depth w)

-- ---- Behind and between characters

-- the italic correction of the last character, as a kern that is no font kern
abbrev pub italic_in : Node-F HeadMark Node Boxed Discretionary → List Node
italic_in (CharLayer code metrics font) = KernNode metrics.italic Explicit ∷ []
italic_in (LigLayer ligature) = KernNode ligature.metrics.italic Explicit ∷ []
italic_in _ = []

abbrev pub italic_behind : List Node → List Node
italic_behind [] = []
italic_behind (node ∷ []) = italic_in (out-Node node)
italic_behind (node ∷ next ∷ nodes) = italic_behind (next ∷ nodes)

-- `\/`
unfoldable pub italic_correction : Whole → Executed
italic_correction w = if is_vertical w.feed.mode then stop WrongMode w else all_added (italic_behind w.level.nodes) w

-- `\-`: a discretionary with a hyphen of the font, if it has one
abbrev pub hyphen_parts : List Node → Node
hyphen_parts nodes = DiscNode (roll-Discretionary (record { pre_break = nodes; post_break = []; no_break = [] }))

abbrev pub hyphen_in : FontData → Whole → Executed
hyphen_in font w =
    if has_code font 45 then on (with_node (hyphen_parts (CharNode 45 (known (metrics_of font 45)) font.id ∷ [])) w)
    else on (with_node (hyphen_parts []) (missing_logged font 45 w))

unfoldable pub discretionary_hyphen : Whole → Executed
discretionary_hyphen w = in_horizontal (present hyphen_in) w

-- ---- Spaces of LaTeX

abbrev pub adjusted : List Node → Whole → Executed
adjusted nodes w = on (with_node (AdjustNode nodes) w)

-- `\\`: in a paragraph; a star bars a page break there, and the dimension comes between the lines
abbrev pub starred_nodes : Bool → List Node
starred_nodes true = PenaltyNode (pos 10000) ∷ []
starred_nodes false = []

abbrev pub skip_of : ℤ → Glue
skip_of n = record no_glue { width = n }

abbrev pub skip_nodes : Option ℤ → List Node
skip_nodes (Some n) = GlueNode (skip_of n) ∷ []
skip_nodes None = []

abbrev pub material_behind : Bool → Option ℤ → Whole → Executed
material_behind starred skip w =
    if starred || is_some skip then adjusted (starred_nodes starred ++ skip_nodes skip) w else on w

unfoldable pub line_ended : Bool → Option ℤ → Whole → Executed
line_ended starred skip w =
    and_then (material_behind starred skip (last_glue_left w)) (all_added (PenaltyNode (pos 10000) ∷ GlueNode fil ∷ forced_break ∷ []))

-- `\hspace`: with a star it stays at the beginning of a line
abbrev pub hspace_nodes : Bool → Glue → List Node
hspace_nodes false g = GlueNode g ∷ []
hspace_nodes true g =
    RuleNode (record { width = Some (pos 0); height = None; depth = None }) ∷ PenaltyNode (pos 10000) ∷ GlueNode g ∷ GlueNode no_glue ∷ []

unfoldable pub hspace_put : Bool → Glue → Whole → Executed
hspace_put starred g w = all_added (hspace_nodes starred g) w

-- `\vspace`: with a star it stays at the top of a page; in a paragraph it comes behind the line
abbrev pub vspace_nodes : Bool → Glue → List Node
vspace_nodes false g = GlueNode g ∷ []
vspace_nodes true g =
    RuleNode (record { width = None; height = Some (pos 0); depth = Some (pos 0) }) ∷ PenaltyNode (pos 10000) ∷ GlueNode g ∷ GlueNode no_glue ∷ []

-- the depth of the last box is in the end what it was before
unfoldable pub vspace_put : Bool → Glue → Whole → Executed
vspace_put starred g w = if is_paragraph w.feed.mode then adjusted (vspace_nodes starred g) w else all_added (vspace_nodes starred g) w
