-- Where the lines of a paragraph can break, and how a line is judged (The TeXbook, chapter 14; tex.web, part 38). Lengths are in
-- scaled points.
use Rattle.std.specs.Prelude.{ℕ, zero, suc, ◌+◌, ◌-◌, Bool, true, false, not, ◌&&◌, ◌||◌, nat_lt, nat_eq, List, [], ◌∷◌, ◌++◌, map, sum, length, take, drop, if◌then◌else◌, Option, None, Some, option_map, Result, Ok, Err, ℤ, pos, neg_ℤ, nat_abs, nat_le, int_lt, int_le, ◌+ℤ◌, ◌-ℤ◌, ◌*ℤ◌, slice_get}
use Rattle.std.specs.Int.{is_negative}
use Rattle.std.specs.Int.{int_min}
use Rattle.lb_base.specs.Badness.{badness_of}
use Rattle.lb_base.specs.declared.fault.Kind.{Kind}
use Rattle.lb_base.specs.declared.fault.Kind.TheVariants.{ParagraphLimit}
use Rattle.lb_base.specs.declared.glue.Glue.{Glue as GlueSize}
use Rattle.lb_base.specs.declared.glue.Order.TheVariants.{Finite, Fil, Fill, Filll}
use Rattle.lb_base.specs.declared.node.Axis.TheVariants.{Horizontal}
use Rattle.lb_base.specs.declared.node.Boxed.{Boxed}
use Rattle.lb_base.specs.declared.node.Discretionary.{Discretionary, Discretionary-F, out-Discretionary}
use Rattle.lb_base.specs.declared.node.HeadMark.{HeadMark}
use Rattle.lb_base.specs.declared.node.HeadMark.TheOpen.{Kern, Glue, Penalty, Disc}
use Rattle.lb_base.specs.declared.node.KernOrigin.{KernOrigin}
use Rattle.lb_base.specs.declared.node.KernOrigin.TheVariants.{Font, Explicit}
use Rattle.lb_base.specs.declared.node.Node.{Node, Node-F, out-Node, roll-Node, fold-Node}
use Rattle.lb_model_paper.specs.BestBreaks.{Paragraph, passes_of}
use Rattle.lb_model_paper.specs.Dvi.{is_zero}
use Rattle.lb_model_paper.specs.Nodes.{along, shown, stretch_of, total}
use Rattle.lb_model_paper.specs.declared.paragraph.BreakList.{BreakList}
use Rattle.lb_model_paper.specs.declared.paragraph.BreakRules.{BreakRules}
use Rattle.lb_model_paper.specs.declared.paragraph.Fitness.{Fitness}
use Rattle.lb_model_paper.specs.declared.paragraph.Fitness.TheVariants.{VeryLoose, Loose, Decent, Tight}
use Rattle.lb_model_paper.specs.declared.paragraph.Judged.{Judged}
use Rattle.lb_model_paper.specs.declared.paragraph.LineSums.{LineSums}
use Rattle.lb_model_paper.specs.declared.paragraph.Shape.{Shape}

-- ---- legal breaks

-- glue, penalties and kerns that are no font kerns go at the start of a line
abbrev pub is_explicit : KernOrigin → Bool
is_explicit Explicit = true
is_explicit Font = false

abbrev pub is_discardable_in : Node-F HeadMark Node Boxed Discretionary → Bool
is_discardable_in (Glue glue) = true
is_discardable_in (Penalty penalty) = true
is_discardable_in (Kern width origin) = is_explicit origin
is_discardable_in _ = false

unfoldable pub is_discardable : Node → Bool
is_discardable node = is_discardable_in (out-Node node)

abbrev pub is_glue_in : Node-F HeadMark Node Boxed Discretionary → Bool
is_glue_in (Glue glue) = true
is_glue_in _ = false

unfoldable pub is_glue : Node → Bool
is_glue node = is_glue_in (out-Node node)

abbrev pub parts_in : Node-F HeadMark Node Boxed Discretionary → Option Discretionary
parts_in (Disc parts) = Some parts
parts_in _ = None

-- the parts of a discretionary
unfoldable pub parts_of : Node → Option Discretionary
parts_of node = parts_in (out-Node node)

abbrev pub is_empty_list : List Node → Bool
is_empty_list [] = true
is_empty_list (_ ∷ _) = false

-- the penalty of a break at a discretionary
abbrev pub disc_penalty : BreakRules → Discretionary → ℤ
disc_penalty rules parts = if is_empty_list (out-Discretionary parts).pre_break then rules.ex_hyphen_penalty else rules.hyphen_penalty

-- a penalty of 10000 or more bars a break
abbrev pub unbarred : ℤ → Option ℤ
unbarred penalty = if int_lt penalty (pos 10000) then Some penalty else None

-- a break with penalty 0 that is legal under a condition
abbrev pub free_where : Bool → Option ℤ
free_where legal = if legal then Some (pos 0) else None

abbrev pub break_penalty_in : BreakRules → Bool → Bool → Node-F HeadMark Node Boxed Discretionary → Option ℤ
break_penalty_in rules solid glue (Glue _) = free_where solid
break_penalty_in rules solid glue (Kern width origin) = free_where (is_explicit origin && glue)
break_penalty_in rules solid glue (Penalty penalty) = unbarred penalty
break_penalty_in rules solid glue (Disc parts) = unbarred (disc_penalty rules parts)
break_penalty_in rules solid glue _ = None

-- the penalty of a break at an item, None where it is no legal break: at glue behind what is no discardable, at a kern that is no font
-- kern before glue, and at a penalty or a discretionary that does not bar it
unfoldable pub break_penalty : BreakRules → Bool → Bool → Node → Option ℤ
break_penalty rules solid glue node = break_penalty_in rules solid glue (out-Node node)

-- whether the item before another is there and is no discardable
abbrev pub is_solid : Option Node → Bool
is_solid None = false
is_solid (Some node) = not (is_discardable node)

abbrev pub is_solid_before : List Node → ℕ → Bool
is_solid_before nodes zero = false
is_solid_before nodes (suc k) = is_solid (slice_get nodes k)

abbrev pub is_some_glue : Option Node → Bool
is_some_glue None = false
is_some_glue (Some node) = is_glue node

abbrev pub penalty_at_item : BreakRules → List Node → ℕ → Option Node → Option ℤ
penalty_at_item rules nodes k None = None
penalty_at_item rules nodes k (Some node) = break_penalty rules (is_solid_before nodes k) (is_some_glue (slice_get nodes (k + 1))) node

-- Break j is at item j − 1, and break 0 is the start. The penalty of a break, None where it is no legal one.
abbrev pub penalty_at : BreakRules → List Node → ℕ → Option ℤ
penalty_at rules nodes zero = None
penalty_at rules nodes (suc k) = penalty_at_item rules nodes k (slice_get nodes k)

abbrev pub is_forcing : Option ℤ → Bool
is_forcing None = false
is_forcing (Some penalty) = int_le penalty (neg_ℤ (pos 10000))

-- whether a break has to be taken
abbrev pub is_forced : BreakRules → List Node → ℕ → Bool
is_forced rules nodes j = is_forcing (penalty_at rules nodes j)

-- ---- the items of a line

abbrev pub parts_at_item : Option Node → Option Discretionary
parts_at_item None = None
parts_at_item (Some node) = parts_of node

-- the discretionary at a break
abbrev pub parts_at : List Node → ℕ → Option Discretionary
parts_at nodes zero = None
parts_at nodes (suc k) = parts_at_item (slice_get nodes k)

abbrev pub is_there : Option Discretionary → Bool
is_there None = false
is_there (Some _) = true

abbrev pub is_disc_at : List Node → ℕ → Bool
is_disc_at nodes j = is_there (parts_at nodes j)

abbrev pub pre_in : Option Discretionary → List Node
pre_in None = []
pre_in (Some parts) = (out-Discretionary parts).pre_break

abbrev pub post_in : Option Discretionary → List Node
post_in None = []
post_in (Some parts) = (out-Discretionary parts).post_break

-- what stands at the end of a line before a break, and at the beginning of the line behind it
abbrev pub pre_at : List Node → ℕ → List Node
pre_at nodes j = pre_in (parts_at nodes j)

abbrev pub post_at : List Node → ℕ → List Node
post_at nodes i = post_in (parts_at nodes i)

-- the list without the discardables at its start
abbrev pub trimmed : List Node → List Node
trimmed [] = []
trimmed (node ∷ nodes) = if is_discardable node then trimmed nodes else node ∷ nodes

-- the items between two breaks; discardables go at the start of each line but the first
abbrev pub items_between : List Node → ℕ → ℕ → List Node
items_between nodes zero j = take (j - 1) nodes
items_between nodes (suc i) j = trimmed (take (j - 1 - suc i) (drop (suc i) nodes))

abbrev pub glue_node : GlueSize → Node
glue_node glue = roll-Node (Glue glue)

-- what stands between the glue at both ends of a line
abbrev pub inner_items : List Node → ℕ → ℕ → List Node
inner_items nodes i j = post_at nodes i ++ items_between nodes i j ++ pre_at nodes j

-- the items of the line from break i to break j, where the discretionaries within it show their third parts
abbrev pub line_items : Shape → List Node → ℕ → ℕ → List Node
line_items shape nodes i j = glue_node shape.left ∷ shown (inner_items nodes i j) ++ glue_node shape.right ∷ []

-- ---- how a line fits

abbrev pub any_shrink_in : Node-F HeadMark Node Boxed Discretionary → ℤ
any_shrink_in (Glue glue) = glue.shrink
any_shrink_in _ = pos 0

-- infinite shrink in a paragraph counts as finite
unfoldable pub any_shrink : Node → ℤ
any_shrink node = any_shrink_in (out-Node node)

-- the sums over a list
unfoldable pub sums_of : List Node → LineSums
sums_of nodes = record {
  width = total (along Horizontal) nodes;
  finite = total (stretch_of Finite) nodes;
  fil = total (stretch_of Fil) nodes;
  fill = total (stretch_of Fill) nodes;
  filll = total (stretch_of Filll) nodes;
  shrink = total any_shrink nodes;
}

-- what a line has to stretch by, and below 0 to shrink by
abbrev pub excess_in : Shape → LineSums → ℤ
excess_in shape sums = shape.width -ℤ sums.width

-- a line is overfull where it has to shrink by more than its shrink
abbrev pub is_overfull_by : ℤ → ℤ → Bool
is_overfull_by excess shrink = is_negative excess && int_lt shrink (neg_ℤ excess)

abbrev pub is_overfull_line : Shape → LineSums → Bool
is_overfull_line shape sums = is_overfull_by (excess_in shape sums) sums.shrink

-- whether a list has infinite stretch
abbrev pub is_endless : LineSums → Bool
is_endless sums = not (is_zero sums.fil) || (not (is_zero sums.fill) || not (is_zero sums.filll))

-- the badness of a line; where there is infinite stretch to use it is 0
unfoldable pub badness_by : ℤ → LineSums → ℕ
badness_by excess sums =
    if is_negative excess then (if int_lt sums.shrink (neg_ℤ excess) then 10000 else badness_of (neg_ℤ excess) sums.shrink)
    else if is_endless sums then 0 else badness_of excess sums.finite

unfoldable pub fitness_by : ℤ → ℕ → Fitness
fitness_by excess badness =
    if is_negative excess then (if nat_lt 12 badness then Tight else Decent)
    else if nat_lt 99 badness then VeryLoose else if nat_lt 12 badness then Loose else Decent

-- ---- demerits

abbrev pub square : ℤ → ℤ
square z = z *ℤ z

-- of badness
abbrev pub badness_demerits : ℤ → ℕ → ℤ
badness_demerits line_penalty badness =
    if nat_le 10000 (nat_abs (line_penalty +ℤ pos badness)) then pos 100000000 else square (line_penalty +ℤ pos badness)

-- of the penalty of the break at the end; that of a forced one counts as nothing
abbrev pub penalty_demerits : ℤ → ℤ
penalty_demerits penalty =
    if int_le (pos 0) penalty then square penalty
    else if int_lt (neg_ℤ (pos 10000)) penalty then neg_ℤ (square penalty) else pos 0

-- of hyphens: where the breaks at both ends of a line are discretionary, and where the last line follows such a break
abbrev pub hyphen_demerits : BreakRules → Bool → Bool → Bool → ℤ
hyphen_demerits rules from_disc to_disc is_last =
    (if from_disc && to_disc then rules.double_hyphen_demerits else pos 0) +ℤ (if from_disc && is_last then rules.final_hyphen_demerits else pos 0)

unfoldable pub line_demerits : BreakRules → ℕ → ℤ → Bool → Bool → Bool → ℤ
line_demerits rules badness penalty from_disc to_disc is_last =
    (badness_demerits rules.line_penalty badness +ℤ penalty_demerits penalty) +ℤ hyphen_demerits rules from_disc to_disc is_last

-- ---- which lines may be chosen

-- a pass takes lines within a tolerance, and bad lines or none
pub record Pass : Type 0 where
  pub tolerance : ℤ
  pub keeps_bad : Bool

-- a tolerance over 10000 counts as 10000
abbrev pub is_within : ℕ → ℤ → Bool
is_within badness tolerance = int_le (pos badness) (int_min tolerance (pos 10000))

abbrev pub judged_as : Bool → ℤ → Fitness → Judged
judged_as is_bad demerits fitness = record { is_bad = is_bad; demerits = demerits; fitness = fitness }

-- A line that no break within it bars is feasible where its badness is within the tolerance and it is not overfull, and bad where it is
-- overfull, or its end is forced and its badness over the tolerance. Tells whether it is bad, and None where it is neither.
abbrev pub verdict_by : Pass → Bool → Bool → ℕ → Option Bool
verdict_by pass is_overfull is_forced badness =
    if is_within badness pass.tolerance && not is_overfull then Some false
    else if pass.keeps_bad && (is_overfull || is_forced) then Some true
    else None

abbrev pub judged_by : ℤ → Fitness → Option Bool → Option Judged
judged_by demerits fitness verdict = option_map (λ is_bad. judged_as is_bad demerits fitness) verdict

abbrev pub judged_line : Shape → Pass → ℤ → Bool → Bool → Bool → LineSums → Option Judged
judged_line shape pass penalty from_disc to_disc is_last sums =
    let excess = excess_in shape sums in
    let badness = badness_by excess sums in
    judged_by (line_demerits shape.rules badness penalty from_disc to_disc is_last) (fitness_by excess badness)
    (verdict_by pass (is_overfull_by excess sums.shrink) (int_le penalty (neg_ℤ (pos 10000))) badness)

abbrev pub line_at : Shape → Pass → List Node → ℕ → ℕ → Option ℤ → Option Judged
line_at shape pass nodes i j None = None
line_at shape pass nodes i j (Some penalty) =
    judged_line shape pass penalty (is_disc_at nodes i) (is_disc_at nodes j) (nat_eq j (length nodes)) (sums_of (line_items shape nodes i j))

-- what the line from break i to break j adds, where no break within it bars it
unfoldable pub line_from : Shape → Pass → List Node → ℕ → ℕ → Option Judged
line_from shape pass nodes i j = line_at shape pass nodes i j (penalty_at shape.rules nodes j)

abbrev pub is_there_penalty : Option ℤ → Bool
is_there_penalty None = false
is_there_penalty (Some _) = true

-- a legal break bars all longer lines from a break where it is forced, or makes an overfull line from there
unfoldable pub is_stop : Shape → List Node → ℕ → ℕ → Bool
is_stop shape nodes i j =
    is_there_penalty (penalty_at shape.rules nodes j)
    && (is_forced shape.rules nodes j || is_overfull_line shape (sums_of (line_items shape nodes i j)))

-- ---- a paragraph

-- All lines have one width, so there is one class of them.
unfoldable pub paragraph_of : Shape → Pass → List Node → Paragraph
paragraph_of shape pass nodes = record {
  count = length nodes;
  first = 0;
  adjacent = shape.rules.adj_demerits;
  line = λ k i j. line_from shape pass nodes i j;
  stops = λ k i j. is_stop shape nodes i j;
}

-- the first pass has no bad lines
abbrev pub first_pass : BreakRules → Pass
first_pass rules = record { tolerance = rules.pretolerance; keeps_bad = false }

abbrev pub second_pass : BreakRules → Pass
second_pass rules = record { tolerance = rules.tolerance; keeps_bad = true }

-- ---- the limit

abbrev pub count_in : Node-F ℕ ℕ ℕ ℕ → ℕ
count_in (Disc parts) = suc parts
count_in _ = 1

abbrev pub count_of_parts : Discretionary-F ℕ ℕ ℕ ℕ → ℕ
count_of_parts parts = sum parts.pre_break + (sum parts.post_break + sum parts.no_break)

-- a node counts as one, and the nodes in the parts of a discretionary count besides
abbrev pub count_of : Node → ℕ
count_of = fold-Node ℕ ℕ ℕ ℕ (λ _. 0) count_in (λ _. 0) count_of_parts

unfoldable pub items_in : List Node → ℕ
items_in nodes = sum (map count_of nodes)

-- the chosen breaks of a list that ends in a forced break
unfoldable pub breaks_of : Shape → List Node → Result BreakList Kind
breaks_of shape nodes =
    if nat_lt 65536 (items_in nodes) then Err ParagraphLimit
    else Ok (passes_of shape.rules.passes shape.rules.pretolerance (paragraph_of shape (first_pass shape.rules) nodes) (paragraph_of shape (second_pass shape.rules) nodes))
