-- No row of boxes, material and items leaves more steps than there were.
use Rattle.std.proofs.Common.{ℕ, zero, suc, Bool, true, false, List, ℤ, pos, arith}
use Rattle.std.specs.Prelude.{codes, neg_ℤ, Option, Some, None}
use Rattle.lb_base.specs.declared.glue.Target.{Target}
use Rattle.lb_base.specs.declared.node.Axis.{Axis}
use Rattle.lb_base.specs.declared.node.Boxed.{Boxed}
use Rattle.lb_base.specs.declared.node.RuleSize.{RuleSize}
use Rattle.lb_base.specs.declared.node.Node.{Rule as RuleNode}
use Rattle.lb_base.specs.declared.token.Tok.{Tok}
use Rattle.lb_values.specs.declared.meaning.Meaning.{Meaning}
use Rattle.lb_values.specs.declared.reach.Reach.{Reach}
use Rattle.lb_model_grammar.specs.declared.given.ScanKind.TheVariants as scan_kind
use Rattle.lb_model_nest.specs.declared.nest.BoxContext.{BoxContext}
use Rattle.lb_model_nest.specs.declared.nest.ListKind.{ListKind}
use Rattle.lb_model_nest.specs.declared.nest.ListKind.TheVariants as list
use Rattle.lb_model_nest.specs.Boxes.{parts_opened}
use Rattle.lb_model_nest.specs.Items.{glue_added, hspace_put, in_horizontal, in_vertical, line_ended, rule_added, rule_thickness}
use Rattle.lb_model_nest.specs.Pages.{added}
use Rattle.lb_model_nest.specs.Paragraphs.{begun_in_vertical}
use Rattle.lb_model_nest.specs.Words.{character_put}
use Rattle.lb_model_nest.specs.Wholes.{Executed, Whole}
use Rattle.lb_model_engine.specs.Boxes.{box_begun, box_copied, box_of, box_size, box_taken, box_wanted, brace_taken, lower, raise, setbox, shifted_by, target, target_to}
use Rattle.lb_model_engine.specs.Groups.{aftergroup}
use Rattle.lb_model_engine.specs.Items.{hrule, hskip, hspace, hspace_of, kern, line_break, penalty, rule_sizes, size_if, sizes_in, skip_to, starred_argument, vrule, vskip, vspace, vspace_of, with_rule_depth, with_rule_height, with_rule_width}
use Rattle.lb_model_engine.specs.Material.{discretionary, footnote, in_paragraph, markboth, markright, material_begun, parts_begun, three_arguments, three_put, vadjust}
use Rattle.lb_model_engine.specs.Reads.{bracket, code, glue, glue_found, glue_in, reading, star}
use Rattle.lb_model_engine.specs.Words.{char}
use Rattle.lb_model_engine.specs.StepsLeft.{NeverRise as Falls}
use Rattle.lb_model_engine.proofs.FallsPages.{added-falls, and_then-falls}
use Rattle.lb_model_engine.proofs.FallsParagraphs.{begun-falls, paragraph_ended-falls}
use Rattle.lb_model_engine.proofs.FallsNest.{character_put-falls, hspace_put-falls, kept_after-falls, line_ended-falls, list_opened-falls, mark_opened-falls, parts_opened-falls, placed-falls, rule_added-falls, vspace_put-falls}
use Rattle.lb_model_engine.proofs.FallsReads.{code-falls, equals-falls, past_spaces_or-falls, reading-falls, scanning-falls, scanning_in-falls, taking-falls}

-- ---- Characters and groups

pub char-falls : Falls char
unfolding char
char-falls w =
    and_then-falls w.feed.left (begun_in_vertical true w) (λ v. code (λ n u. character_put n u) v) (code-falls _ character_put-falls) (begun-falls true w)

pub aftergroup-falls : Falls aftergroup
unfolding aftergroup
aftergroup-falls = taking-falls _ kept_after-falls

in_horizontal-falls : (row : Whole → Executed) → Falls row → Falls (in_horizontal row)
in_horizontal-falls row f w = and_then-falls w.feed.left (begun_in_vertical true w) row f (begun-falls true w)

in_vertical-falls : (row : Whole → Executed) → Falls row → Falls (in_vertical row)
in_vertical-falls row f w = grind (arith, f, paragraph_ended-falls)

-- ---- Boxes

brace_taken-falls : (kind : ListKind) → Falls (brace_taken kind)
brace_taken-falls kind = past_spaces_or-falls _ _ (λ w. omega arith) (λ tok m w. grind (arith, list_opened-falls))

target_to-falls : (found : Bool) (row : Target → Whole → Executed) → ((size : Target) → Falls (row size)) → Falls (target_to found row)
target_to-falls true row f = scanning-falls scan_kind.Dimen _ (λ found. f _)
target_to-falls false row f = scanning-falls (scan_kind.Keyword (codes "spread")) _ (λ found w. grind (arith, f, scanning-falls))

target-falls : (row : Target → Whole → Executed) → ((size : Target) → Falls (row size)) → Falls (target row)
target-falls row f = scanning-falls (scan_kind.Keyword (codes "to")) _ (λ found. target_to-falls _ row f)

pub box_begun-falls : (axis : Axis) (context : BoxContext) → Falls (box_begun axis context)
unfolding box_begun
box_begun-falls axis context = target-falls (λ size. brace_taken (list.Box axis size context)) (λ size. brace_taken-falls (list.Box axis size context))

pub box_taken-falls : (context : BoxContext) → Falls (box_taken context)
unfolding box_taken
box_taken-falls context = code-falls _ (λ n w. grind (arith, placed-falls))

pub box_copied-falls : (context : BoxContext) → Falls (box_copied context)
unfolding box_copied
box_copied-falls context = code-falls _ (λ n w. grind (arith, placed-falls))

box_of-falls : (m : Option Meaning) (context : BoxContext) → Falls (box_of m context)
box_of-falls m context w = grind (arith, box_begun-falls, box_taken-falls, box_copied-falls)

box_wanted-falls : (context : BoxContext) → Falls (box_wanted context)
unfolding box_wanted
box_wanted-falls context = past_spaces_or-falls _ _ (λ w. omega arith) (λ tok m. box_of-falls m context)

pub setbox-falls : (reach : Reach) → Falls (setbox reach)
unfolding setbox
setbox-falls reach = code-falls _ (λ n. equals-falls _ (box_wanted-falls _))

shifted_by-falls : (f : ℤ → ℤ) → Falls (shifted_by f)
shifted_by-falls f w = grind (arith, scanning-falls, box_wanted-falls)

pub raise-falls : Falls raise
unfolding raise
raise-falls w = shifted_by-falls neg_ℤ w

pub lower-falls : Falls lower
unfolding lower
lower-falls w = shifted_by-falls (λ n. n) w

pub box_size-falls : (sized : ℤ → Boxed → Boxed) (reach : Reach) → Falls (box_size sized reach)
unfolding box_size
box_size-falls sized reach = code-falls _ (λ n. equals-falls _ (scanning-falls scan_kind.Dimen _ (λ found w. grind arith)))

-- ---- Material

material_begun-falls : (kind : ListKind) → Falls (material_begun kind)
material_begun-falls kind = reading-falls _ _ (λ toks w. grind (arith, list_opened-falls))

in_paragraph-falls : (row : Whole → Executed) → Falls row → Falls (in_paragraph row)
in_paragraph-falls row f w = grind (arith, f)

pub vadjust-falls : Falls vadjust
unfolding vadjust
vadjust-falls = in_paragraph-falls (material_begun list.Adjust) (material_begun-falls list.Adjust)

pub footnote-falls : Falls footnote
unfolding footnote
footnote-falls = in_paragraph-falls (material_begun list.Footnote) (material_begun-falls list.Footnote)

parts_begun-falls : (first second third : List Tok) → Falls (parts_begun first second third)
parts_begun-falls first second third w = and_then-falls w.feed.left (three_put first second third w) parts_opened parts_opened-falls (grind arith)

pub discretionary-falls : Falls discretionary
unfolding discretionary
discretionary-falls =
    in_horizontal-falls (three_arguments parts_begun)
    (reading-falls _ _ (λ first. reading-falls _ _ (λ second. reading-falls _ _ (λ third. parts_begun-falls first second third))))

pub markboth-falls : Falls markboth
unfolding markboth
markboth-falls = reading-falls _ _ (λ left. reading-falls _ _ (λ right w. grind (arith, mark_opened-falls)))

pub markright-falls : Falls markright
unfolding markright
markright-falls = reading-falls _ _ (λ right w. grind (arith, mark_opened-falls))

-- ---- Items

pub kern-falls : Falls kern
unfolding kern
kern-falls = scanning-falls scan_kind.Dimen _ (λ found. added-falls _)

pub penalty-falls : Falls penalty
unfolding penalty
penalty-falls = scanning-falls scan_kind.Number _ (λ found. added-falls _)

glue_read-falls : Falls (glue glue_added)
glue_read-falls = scanning-falls scan_kind.Glue _ (λ found. added-falls _)

pub hskip-falls : Falls hskip
unfolding hskip
hskip-falls = in_horizontal-falls (glue glue_added) glue_read-falls

pub vskip-falls : Falls vskip
unfolding vskip
vskip-falls = in_vertical-falls (glue glue_added) glue_read-falls

size_if-falls : (found : Bool) (sized : ℤ → Whole → Executed) (other : Whole → Executed) → ((n : ℤ) → Falls (sized n)) → Falls other
    → Falls (size_if found sized other)
size_if-falls true sized other f g = scanning-falls scan_kind.Dimen _ (λ found. f _)
size_if-falls false sized other f g = g

sizes_in-falls : (turns : ℕ) (size : RuleSize) (row : RuleSize → Whole → Executed) → ((size : RuleSize) → Falls (row size)) → Falls (sizes_in turns size row)
sizes_in-falls zero size row f w = omega arith
sizes_in-falls (suc turns) size row f w =
    let more : (size : RuleSize) → Falls (sizes_in turns size row) = λ size. sizes_in-falls turns size row f in
    scanning-falls (scan_kind.Keyword (codes "width")) _
    (λ wide. size_if-falls _ (λ n. sizes_in turns (with_rule_width n size) row) _ (λ n. more (with_rule_width n size))
    (scanning-falls (scan_kind.Keyword (codes "height")) _
    (λ high. size_if-falls _ (λ n. sizes_in turns (with_rule_height n size) row) _ (λ n. more (with_rule_height n size))
    (scanning-falls (scan_kind.Keyword (codes "depth")) _
    (λ deep. size_if-falls _ (λ n. sizes_in turns (with_rule_depth n size) row) (row size) (λ n. more (with_rule_depth n size)) (f size)))))) w

rule_sizes-falls : (size : RuleSize) (row : RuleSize → Whole → Executed) → ((size : RuleSize) → Falls (row size)) → Falls (rule_sizes size row)
rule_sizes-falls size row f w = sizes_in-falls (suc w.feed.left) size row f w

pub hrule-falls : Falls hrule
unfolding hrule
hrule-falls =
    let size : RuleSize = record { width = None; height = Some rule_thickness; depth = Some (pos 0) } in
    in_vertical-falls (rule_sizes size rule_added) (rule_sizes-falls size rule_added rule_added-falls)

pub vrule-falls : Falls vrule
unfolding vrule
vrule-falls =
    let size : RuleSize = record { width = Some rule_thickness; height = None; depth = None } in
    let row : RuleSize → Whole → Executed = λ size w. added (RuleNode size) w in
    in_horizontal-falls (rule_sizes size row) (rule_sizes-falls size row (λ size. added-falls (RuleNode size)))

skip_to-falls : (toks : Option (List Tok)) (row : Option ℤ → Whole → Executed) → ((skip : Option ℤ) → Falls (row skip)) → Falls (skip_to toks row)
skip_to-falls None row f = f None
skip_to-falls (Some toks) row f = scanning_in-falls scan_kind.Dimen toks _ (λ found. f _)

line_read-falls : Falls (λ w. reading star (λ starred v. reading bracket (λ toks u. skip_to toks (line_ended starred) u) v) w)
line_read-falls = reading-falls _ _ (λ starred. reading-falls _ _ (λ toks. skip_to-falls toks (line_ended starred) (line_ended-falls starred)))

pub line_break-falls : Falls line_break
unfolding line_break
line_break-falls w = grind (arith, line_read-falls w)

starred_argument-falls : (row : Bool → List Tok → Whole → Executed) → ((starred : Bool) (toks : List Tok) → Falls (row starred toks))
    → Falls (starred_argument row)
starred_argument-falls row f = reading-falls _ _ (λ starred. reading-falls _ _ (λ toks. f starred toks))

hspace_of-falls : (starred : Bool) (toks : List Tok) → Falls (hspace_of starred toks)
hspace_of-falls starred toks =
    in_horizontal-falls (λ v. glue_in toks (hspace_put starred) v)
    (scanning_in-falls scan_kind.Glue toks (λ found. hspace_put starred (glue_found found)) (λ found. hspace_put-falls starred (glue_found found)))

pub hspace-falls : Falls hspace
unfolding hspace
hspace-falls = starred_argument-falls hspace_of hspace_of-falls

vspace_of-falls : (starred : Bool) (toks : List Tok) → Falls (vspace_of starred toks)
vspace_of-falls starred toks = scanning_in-falls scan_kind.Glue toks _ (λ found. vspace_put-falls starred _)

pub vspace-falls : Falls vspace
unfolding vspace
vspace-falls w = grind (arith, starred_argument-falls vspace_of vspace_of-falls w)
