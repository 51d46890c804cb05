-- No word on characters, groups, boxes and what is added to lists leaves more steps than there were.
use Rattle.std.proofs.Common.{◌≤◌, ℕ, Bool, true, false, List, ℤ, pos, arith}
use Rattle.std.specs.Prelude.{Option, Some, None, Result, Ok, Err}
use Rattle.lb_base.specs.declared.fault.Kind.{Kind}
use Rattle.lb_base.specs.declared.glue.Glue.{Glue}
use Rattle.lb_base.specs.declared.node.Node.{Node}
use Rattle.lb_base.specs.declared.node.Boxed.{Boxed}
use Rattle.lb_base.specs.declared.node.RuleSize.{RuleSize}
use Rattle.lb_base.specs.declared.token.Tok.{Tok}
use Rattle.lb_base.specs.declared.glue.Target.{Target}
use Rattle.lb_base.specs.declared.node.Axis.{Axis}
use Rattle.lb_model.specs.declared.group.GroupKind.{GroupKind}
use Rattle.lb_model_paper.specs.Fonts.{FontData}
use Rattle.lb_model_paper.specs.Words.{set_word}
use Rattle.lb_model_nest.specs.declared.nest.BoxContext.{BoxContext}
use Rattle.lb_model_nest.specs.declared.nest.DiscPart.{DiscPart}
use Rattle.lb_model_nest.specs.declared.nest.ListKind.{ListKind}
use Rattle.lb_model_nest.specs.declared.nest.ListKind.TheVariants as list
use Rattle.lb_model_nest.specs.Boxes.{box_placed, end_group, footnote_placed, list_ended, list_ended_as, list_ended_in, list_opened, mark_box_opened, mark_box_placed, mark_opened, packed_to, packing, part_ended, parts_opened, placed}
use Rattle.lb_model_nest.specs.Groups.{begin_group_character, begingroup, end_group_character, endgroup, group_closed, group_opened, kept_after}
use Rattle.lb_model_nest.specs.Items.{discretionary_hyphen, horizontal_glue, hspace_put, hyphen_in, ignorespaces, indent, italic_correction, leavevmode, line_ended, noindent, par, plainnext, rule_added, unskip, vertical_glue, vspace_put}
use Rattle.lb_model_nest.specs.Fonts.{present}
use Rattle.lb_model_nest.specs.Paragraphs.{begun_in_vertical, paragraph_ended}
use Rattle.lb_model_nest.specs.Words.{character, character_put, control_space, font_kept, put_as, space, space_of, space_put, word_ended, word_made, word_set}
use Rattle.lb_model_nest.specs.Wholes.{Executed, Whole}
use Rattle.lb_model_engine.specs.StepsLeft.{NeverRise as Falls}
use Rattle.lb_model_engine.proofs.FallsPages.{added-falls, all_added-falls, and_then-falls, left_behind, present-falls, set_word-falls}
use Rattle.lb_model_engine.proofs.FallsParagraphs.{begun-falls, box_added-falls, paragraph_ended-falls}

-- ---- Words

word_made-falls : (n : ℕ) (made : Option (List Node × ℕ)) (w : Whole) → w.feed.left ≤ n → left_behind made ≤ n → (word_made made w).done.next.feed.left ≤ n
word_made-falls n made w h k = grind arith

word_set-falls : (font : Option FontData) → Falls (word_set font)
word_set-falls None w = omega arith
word_set-falls (Some font) w =
    word_made-falls w.feed.left (set_word font w.feed.left w.level.nodes w.word) w (omega arith) (set_word-falls font w.feed.left w.level.nodes w.word)

pub word_ended-falls : Falls word_ended
unfolding word_ended
word_ended-falls w = word_set-falls w.font w

font_kept-falls : (font : Option FontData) (row : FontData → Whole → Executed) → ((font : FontData) → Falls (row font)) → Falls (font_kept font row)
font_kept-falls None row f w = present-falls row f w
font_kept-falls (Some font) row f w = f font w

put_as-falls : (b : Bool) (char : ℕ) (font : FontData) → Falls (put_as b char font)
put_as-falls b char font w = grind arith

pub character_put-falls : (char : ℕ) → Falls (character_put char)
character_put-falls char w = font_kept-falls w.font _ (λ font. put_as-falls _ char font) w

pub character-falls : (char : ℕ) → Falls (character char)
unfolding character
character-falls char w = and_then-falls w.feed.left (begun_in_vertical true w) (character_put char) (character_put-falls char) (begun-falls true w)

space_of-falls : (factor : ℤ) (font : FontData) → Falls (space_of factor font)
space_of-falls factor font w = grind arith

space_put-falls : (factor : ℤ) → Falls (space_put factor)
space_put-falls factor w =
    font_kept-falls w.font _ (λ font v. and_then-falls v.feed.left (word_ended v) (space_of factor font) (space_of-falls factor font) (word_ended-falls v)) w

pub space-falls : Falls space
unfolding space
space-falls w = grind (arith, space_put-falls w.level.space_factor w)

pub control_space-falls : Falls control_space
unfolding control_space
control_space-falls w = and_then-falls w.feed.left (begun_in_vertical true w) (space_put (pos 1000)) (space_put-falls (pos 1000)) (begun-falls true w)

-- ---- Groups

pub group_opened-falls : (kind : GroupKind) → Falls (group_opened kind)
unfolding group_opened
group_opened-falls kind w = grind arith

pub group_closed-falls : (kind : GroupKind) → Falls (group_closed kind)
unfolding group_closed
group_closed-falls kind w = grind arith

pub begin_group-falls : Falls begin_group_character
unfolding begin_group_character
begin_group-falls w = group_opened-falls _ w

pub begingroup-falls : Falls begingroup
unfolding begingroup
begingroup-falls w = group_opened-falls _ w

pub endgroup-falls : Falls endgroup
unfolding endgroup
endgroup-falls w = group_closed-falls _ w

pub end_group_character-falls : (material : Whole → Executed) → Falls material → Falls (end_group_character material)
unfolding end_group_character
end_group_character-falls material f w = grind (arith, f, group_closed-falls)

pub kept_after-falls : (tok : Tok) → Falls (kept_after tok)
unfolding kept_after
kept_after-falls tok w = grind arith

-- ---- Boxes

box_placed-falls : (context : BoxContext) (box : Boxed) → Falls (box_placed context box)
unfolding box_placed
box_placed-falls context box w = grind (arith, box_added-falls)

pub placed-falls : (context : BoxContext) (box : Option Boxed) → Falls (placed context box)
placed-falls context box w = grind (arith, box_placed-falls)

pub list_opened-falls : (kind : ListKind) → Falls (list_opened kind)
unfolding list_opened
list_opened-falls kind w = grind (arith, group_opened-falls)

pub parts_opened-falls : Falls parts_opened
unfolding parts_opened
parts_opened-falls w = grind (arith, list_opened-falls)

mark_box_opened-falls : (is_last : Bool) → Falls (mark_box_opened is_last)
mark_box_opened-falls is_last w = grind (arith, list_opened-falls)

pub mark_opened-falls : (is_last : Bool) → Falls (mark_opened is_last)
unfolding mark_opened
mark_opened-falls is_last w = grind (arith, mark_box_opened-falls)

packed_to-falls : (box : Result Boxed Kind) (row : Boxed → Whole → Executed) → ((box : Boxed) → Falls (row box)) → Falls (packed_to box row)
packed_to-falls (Err kind) row f w = omega arith
packed_to-falls (Ok box) row f w = and_then-falls w.feed.left _ (row box) (f box) (group_closed-falls _ _)

packing-falls : (axis : Axis) (size : Target) (row : Boxed → Whole → Executed) → ((box : Boxed) → Falls (row box)) → Falls (packing axis size row)
packing-falls axis size row f w = packed_to-falls _ row f _

part_ended-falls : (part : DiscPart) → Falls (part_ended part)
part_ended-falls part w = grind (arith, group_closed-falls, list_opened-falls)

mark_box_placed-falls : (is_last : Bool) (box : Boxed) → Falls (mark_box_placed is_last box)
mark_box_placed-falls is_last box w = grind (arith, added-falls, mark_box_opened-falls)

list_ended_as-falls : (kind : ListKind) → Falls (list_ended_as kind)
list_ended_as-falls (list.Box axis size context) w = packing-falls axis size (box_placed context) (box_placed-falls context) w
list_ended_as-falls list.Footnote w = packing-falls _ _ footnote_placed (λ box v. omega arith) w
list_ended_as-falls (list.Discretionary part) w = part_ended-falls part w
list_ended_as-falls (list.MarkBox is_last) w = packing-falls _ _ (mark_box_placed is_last) (mark_box_placed-falls is_last) w
list_ended_as-falls kind w = grind (arith, group_closed-falls)

list_ended-falls : Falls list_ended
unfolding list_ended
list_ended-falls w = and_then-falls w.feed.left (paragraph_ended w) list_ended_in (λ v. list_ended_as-falls v.level.kind v) (paragraph_ended-falls w)

pub end_group-falls : Falls end_group
unfolding end_group
end_group-falls w = end_group_character-falls list_ended list_ended-falls w

-- ---- Items

pub par-falls : Falls par
unfolding par
par-falls w = paragraph_ended-falls w

pub indent-falls : Falls indent
unfolding indent
indent-falls w = grind (arith, begun-falls)

pub noindent-falls : Falls noindent
unfolding noindent
noindent-falls w = begun-falls false w

pub leavevmode-falls : Falls leavevmode
unfolding leavevmode
leavevmode-falls w = begun-falls true w

pub plainnext-falls : Falls plainnext
unfolding plainnext
plainnext-falls w = omega arith

pub horizontal_glue-falls : (g : Glue) → Falls (horizontal_glue g)
unfolding horizontal_glue
horizontal_glue-falls g w = grind (arith, begun-falls, added-falls)

pub vertical_glue-falls : (g : Glue) → Falls (vertical_glue g)
unfolding vertical_glue
vertical_glue-falls g w = grind (arith, paragraph_ended-falls, added-falls)

pub unskip-falls : Falls unskip
unfolding unskip
unskip-falls w = grind arith

pub ignorespaces-falls : Falls ignorespaces
unfolding ignorespaces
ignorespaces-falls w = omega arith

pub rule_added-falls : (size : RuleSize) → Falls (rule_added size)
unfolding rule_added
rule_added-falls size w = grind (arith, added-falls)

pub italic_correction-falls : Falls italic_correction
unfolding italic_correction
italic_correction-falls w = grind (arith, all_added-falls)

hyphen_in-falls : (font : FontData) → Falls (hyphen_in font)
hyphen_in-falls font w = grind arith

pub discretionary_hyphen-falls : Falls discretionary_hyphen
unfolding discretionary_hyphen
discretionary_hyphen-falls w =
    and_then-falls w.feed.left (begun_in_vertical true w) (present hyphen_in) (present-falls hyphen_in hyphen_in-falls) (begun-falls true w)

pub line_ended-falls : (starred : Bool) (skip : Option ℤ) → Falls (line_ended starred skip)
unfolding line_ended
line_ended-falls starred skip w = grind (arith, all_added-falls)

pub hspace_put-falls : (starred : Bool) (g : Glue) → Falls (hspace_put starred g)
unfolding hspace_put
hspace_put-falls starred g w = grind (arith, all_added-falls)

pub vspace_put-falls : (starred : Bool) (g : Glue) → Falls (vspace_put starred g)
unfolding vspace_put
vspace_put-falls starred g w = grind (arith, all_added-falls)
