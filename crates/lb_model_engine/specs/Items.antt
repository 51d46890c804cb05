-- What is added to lists once it has been read: kerns, penalties, glue, rules, and the spaces of LaTeX (TeXbook, chapters 24 and 25; tex.web, part 47;
-- source2e, files ltspace and ltboxes).
use Rattle.std.specs.Prelude.{Bool, true, false, ℕ, zero, suc, ℤ, pos, List, codes, Option, Some, None, if◌then◌else◌}
use Rattle.lb_base.specs.declared.fault.Kind.TheVariants.{StepLimit, WrongMode}
use Rattle.lb_base.specs.declared.node.KernOrigin.TheVariants.{Explicit}
use Rattle.lb_base.specs.declared.node.Node.{Kern as KernNode, Penalty as PenaltyNode, Rule as RuleNode}
use Rattle.lb_base.specs.declared.node.RuleSize.{RuleSize}
use Rattle.lb_base.specs.declared.token.Tok.{Tok}
use Rattle.lb_model_nest.specs.Items.{glue_added, hspace_put, in_horizontal, in_vertical, line_ended, rule_added, rule_thickness, vspace_put}
use Rattle.lb_model_nest.specs.Pages.{added}
use Rattle.lb_model_nest.specs.Wholes.{Executed, Whole, is_paragraph, is_restricted, stop}
use Rattle.lb_model_engine.specs.Reads.{argument, bracket, dimension, dimension_in, glue, glue_in, keyword, number, reading, star}

-- ---- Kerns, penalties, glue

unfoldable pub kern : Whole → Executed
kern w = dimension (λ n v. added (KernNode n Explicit) v) w

unfoldable pub penalty : Whole → Executed
penalty w = number (λ n v. added (PenaltyNode n) v) w

unfoldable pub hskip : Whole → Executed
hskip w = in_horizontal (λ v. glue glue_added v) w

unfoldable pub vskip : Whole → Executed
vskip w = in_vertical (λ v. glue glue_added v) w

-- ---- Rules

-- sizes behind keywords, of which the last of each counts; each keyword takes a step
abbrev pub with_rule_width : ℤ → RuleSize → RuleSize
with_rule_width n size = record size { width = Some n }

abbrev pub with_rule_height : ℤ → RuleSize → RuleSize
with_rule_height n size = record size { height = Some n }

abbrev pub with_rule_depth : ℤ → RuleSize → RuleSize
with_rule_depth n size = record size { depth = Some n }

abbrev pub size_if : Bool → (ℤ → Whole → Executed) → (Whole → Executed) → Whole → Executed
size_if true sized other w = dimension sized w
size_if false sized other w = other w

abbrev pub sizes_in : ℕ → RuleSize → (RuleSize → Whole → Executed) → Whole → Executed
sizes_in zero size row w = stop StepLimit w
sizes_in (suc turns) size row w =
    keyword (codes "width")
    (λ wide v. size_if wide (λ n x. sizes_in turns (with_rule_width n size) row x)
    (λ u. keyword (codes "height")
    (λ high y. size_if high (λ n x. sizes_in turns (with_rule_height n size) row x)
    (λ t. keyword (codes "depth") (λ deep z. size_if deep (λ n x. sizes_in turns (with_rule_depth n size) row x) (row size) z) t) y) u) v) w

abbrev pub rule_sizes : RuleSize → (RuleSize → Whole → Executed) → Whole → Executed
rule_sizes size row w = sizes_in (suc w.feed.left) size row w

unfoldable pub hrule : Whole → Executed
hrule w = in_vertical (λ v. rule_sizes (record { width = None; height = Some rule_thickness; depth = Some (pos 0) }) rule_added v) w

unfoldable pub vrule : Whole → Executed
vrule w =
    in_horizontal (λ v. rule_sizes (record { width = Some rule_thickness; height = None; depth = None }) (λ size u. added (RuleNode size) u) v) w

-- ---- Spaces of LaTeX

-- `\\`
abbrev pub skip_to : Option (List Tok) → (Option ℤ → Whole → Executed) → Whole → Executed
skip_to None row w = row None w
skip_to (Some toks) row w = dimension_in toks (λ n v. row (Some n) v) w

unfoldable pub line_break : Whole → Executed
line_break w =
    if is_paragraph w.feed.mode
    then reading star (λ starred v. reading bracket (λ toks u. skip_to toks (line_ended starred) u) v) w
    else stop WrongMode w

-- a star, and an argument that holds glue
abbrev pub starred_argument : (Bool → List Tok → Whole → Executed) → Whole → Executed
starred_argument row w = reading star (λ starred v. argument (row starred) v) w

-- `\hspace`: a paragraph begins before the glue is read
abbrev pub hspace_of : Bool → List Tok → Whole → Executed
hspace_of starred toks w = in_horizontal (λ v. glue_in toks (hspace_put starred) v) w

unfoldable pub hspace : Whole → Executed
hspace w = starred_argument hspace_of w

-- `\vspace`
abbrev pub vspace_of : Bool → List Tok → Whole → Executed
vspace_of starred toks w = glue_in toks (vspace_put starred) w

unfoldable pub vspace : Whole → Executed
vspace w = if is_restricted w.feed.mode then stop WrongMode w else starred_argument vspace_of w
