-- No turn leaves more steps than there were, and one to which the feed gives a token leaves less.
use Rattle.std.proofs.Common.{◌≡◌, ◌≤◌, ℕ, ◌+◌, zero, suc, Bool, true, false, arith, ap, refl}
use Rattle.std.specs.Prelude.{Option, Some, None, if◌then◌else◌}
use Rattle.lb_base.specs.declared.fault.Kind.TheVariants.{AlignRefused, IfOpen, MathRefused, NotYet, TokenMisplaced}
use Rattle.lb_base.specs.declared.token.Category.{Category}
use Rattle.lb_base.specs.declared.token.Category.TheVariants as category
use Rattle.lb_base.specs.declared.token.Tok.{Tok}
use Rattle.lb_rows.specs.declared.command.Command.{Command}
use Rattle.lb_rows.specs.declared.command.Command.TheVariants as command
use Rattle.lb_values.specs.declared.meaning.Meaning.{Meaning}
use Rattle.lb_values.specs.declared.meaning.Meaning.TheVariants as meaning
use Rattle.lb_values.specs.declared.reach.Reach.TheVariants.{Local}
use Rattle.lb_values.specs.Registers.{register_cell}
use Rattle.lb_model.specs.declared.place.Place.{Place}
use Rattle.lb_model.specs.Meanings.{undefined}
use Rattle.lb_model_nest.specs.declared.turn.Went.{Went}
use Rattle.lb_model_nest.specs.declared.turn.Went.TheVariants as went
use Rattle.lb_model_nest.specs.Boxes.{end_group}
use Rattle.lb_model_nest.specs.Groups.{begin_group_character}
use Rattle.lb_model_nest.specs.Pages.{page_cleared}
use Rattle.lb_model_nest.specs.Paragraphs.{paragraph_ended}
use Rattle.lb_model_nest.specs.Wholes.{Executed, Whole, and_then, executed, on, stop}
use Rattle.lb_model_nest.specs.Words.{word_ended}
use Rattle.lb_model_engine.specs.Environments.{is_bounded}
use Rattle.lb_model_engine.specs.Prefixes.{command_assignment}
use Rattle.lb_model_engine.specs.Registers.{variable_row}
use Rattle.lb_model_engine.specs.Turns.{at_end_as, behind_word, built_row, character_row, cleared, command_row, ended, is_built, next_by, or_more, row_by, stopped_at, text_ended, text_set, token_row, turn, turns}
use Rattle.lb_model_engine.proofs.FallsBoxes.{char-falls}
use Rattle.lb_model_engine.proofs.FallsHeadings.{over-falls}
use Rattle.lb_model_engine.proofs.FallsNames.{variable-falls}
use Rattle.lb_model_engine.proofs.FallsNest.{begin_group-falls, character-falls, end_group-falls, space-falls, word_ended-falls}
use Rattle.lb_model_engine.specs.StepsLeft.{NeverRise as Falls, TokenTakesAStep}
use Rattle.lb_model_expansion.specs.declared.expansion.Went.TheVariants.{Gave}
use Rattle.lb_model_expansion.specs.Expansion.{ran}
use Rattle.lb_model_engine.proofs.FallsPages.{and_then-falls, page_cleared-falls}
use Rattle.lb_model_engine.proofs.FallsParagraphs.{paragraph_ended-falls}
use Rattle.lb_model_engine.proofs.FallsReads.{next_or-falls, next_or-given, past_spaces_or-falls, past_spaces_or-given}
use Rattle.lb_model_engine.proofs.FallsRows.{FallsIfAny, command_assignment-falls, command_row-falls}

-- ---- Tokens

behind_word-falls : (row : Whole → Executed) → Falls row → Falls (behind_word row)
behind_word-falls row f w = and_then-falls w.feed.left (word_ended w) row f (word_ended-falls w)

character_row-falls : (cat : Category) (code : ℕ) → Falls (character_row cat code)
character_row-falls category.BeginGroup code w = behind_word-falls begin_group_character begin_group-falls w
character_row-falls category.EndGroup code w = behind_word-falls end_group end_group-falls w
character_row-falls category.Space code w = space-falls w
character_row-falls category.Letter code w = character-falls code w
character_row-falls category.Other code w = character-falls code w
character_row-falls category.MathShift code w = behind_word-falls (stop MathRefused) (λ v. omega arith) w
character_row-falls category.Superscript code w = behind_word-falls (stop MathRefused) (λ v. omega arith) w
character_row-falls category.Subscript code w = behind_word-falls (stop MathRefused) (λ v. omega arith) w
character_row-falls category.AlignmentTab code w = behind_word-falls (stop AlignRefused) (λ v. omega arith) w
character_row-falls cat code w = behind_word-falls (stop TokenMisplaced) (λ v. omega arith) w

built_row-falls : (c : Command) → Falls (built_row c)
built_row-falls c w = if_falls (is_built c)
  where
    if_falls : (b : Bool) → (if b then command_row c w else stop NotYet w).done.next.feed.left ≤ w.feed.left
    if_falls true = command_row-falls c w
    if_falls false = omega arith

row_by-falls : (c : Command) (row : Option (Whole → Executed)) → FallsIfAny row → Falls (row_by c row)
row_by-falls command.Char row f w = char-falls w
row_by-falls c (Some row) f w = behind_word-falls row f w
row_by-falls c None f w = behind_word-falls (built_row c) (built_row-falls c) w

token_row-falls : (tok : Tok) (m : Option Meaning) → Falls (token_row tok m)
token_row-falls tok None w = behind_word-falls (stop (undefined tok)) (λ v. omega arith) w
token_row-falls tok (Some (meaning.Char cat code)) w = character_row-falls cat code w
token_row-falls tok (Some (meaning.Number code)) w = character-falls code w
token_row-falls tok (Some (meaning.Macro definition)) w = behind_word-falls on (λ v. omega arith) w
token_row-falls tok (Some (meaning.Row c)) w = row_by-falls c (command_assignment c false Local) (command_assignment-falls c false Local) w
token_row-falls tok (Some (meaning.Register r)) w = behind_word-falls (variable_row (register_cell r) Local) (variable-falls _ _) w

-- ---- The end of a text

paragraph_behind-falls : Falls (λ w. and_then (word_ended w) paragraph_ended)
paragraph_behind-falls w = and_then-falls w.feed.left (word_ended w) paragraph_ended paragraph_ended-falls (word_ended-falls w)

cleared-falls : Falls cleared
cleared-falls w =
    let all = and_then (and_then (word_ended w) paragraph_ended) page_cleared in
    and_then-falls w.feed.left all (executed went.Over) (λ v. omega arith)
    (and_then-falls w.feed.left (and_then (word_ended w) paragraph_ended) page_cleared page_cleared-falls (paragraph_behind-falls w))

text_ended-falls : (last : Place) → Falls (text_ended last)
text_ended-falls last w = grind (arith, cleared-falls w)

-- ---- Turns

at_end-same : (way : Went) (last : Place) (e : Executed) → (at_end_as way last e).done.next ≡ e.done.next
at_end-same (went.Stopped IfOpen) last e = stopped-same (is_bounded e.done.next.feed.source) last e
  where
    stopped-same : (b : Bool) (last : Place) (e : Executed) → (if b then e else stopped_at last e).done.next ≡ e.done.next
    stopped-same true last e = refl
    stopped-same false last e = refl
at_end-same way last e = refl

next_by-falls : (skips : Bool) (last : Place) → Falls (next_by skips (ended last) token_row)
next_by-falls true last w =
    past_spaces_or-falls (ended last) token_row (over-falls (text_ended last) (text_ended-falls last)) token_row-falls (record w { skips_spaces = false })
next_by-falls false last w = next_or-falls (ended last) token_row (over-falls (text_ended last) (text_ended-falls last)) token_row-falls w

pub turn-falls : (last : Place) → Falls (turn last)
unfolding turn
turn-falls last w =
    let e = next_by w.skips_spaces (ended last) token_row w in
    omega (arith, next_by-falls w.skips_spaces last w, ap (λ (v : Whole). v.feed.left) (at_end-same e.done.went last e))

next_by-given : (skips : Bool) (last : Place) (w : Whole) (tok : Tok)
    → (ran w.feed).done.went ≡ Gave tok → suc (next_by skips (ended last) token_row w).done.next.feed.left ≤ w.feed.left
next_by-given true last w tok e =
    past_spaces_or-given (ended last) token_row (record w { skips_spaces = false }) tok (over-falls (text_ended last) (text_ended-falls last)) token_row-falls e
next_by-given false last w tok e = next_or-given (ended last) token_row w tok token_row-falls e

pub turn-given : TokenTakesAStep
unfolding turn
turn-given last w tok e =
    let t = next_by w.skips_spaces (ended last) token_row w in
    omega (arith, next_by-given w.skips_spaces last w tok e, ap (λ (v : Whole). v.feed.left) (at_end-same t.done.went last t))

pub turns-falls : (n : ℕ) (last : Place) → Falls (turns n last)
unfolding turns
turns-falls zero last w = omega arith
turns-falls (suc n) last w =
    let e = turn last w in
    let h : e.done.next.feed.left ≤ w.feed.left = turn-falls last w in
    more-falls w.feed.left e (turns n last e.done.next) h (omega (arith, turns-falls n last e.done.next))
  where
    more-falls : (n : ℕ) (e more : Executed) → e.done.next.feed.left ≤ n → more.done.next.feed.left ≤ n → (or_more e.done.went e more).done.next.feed.left ≤ n
    more-falls n e more h k = grind arith

pub text_set-falls : (last : Place) → Falls (text_set last)
text_set-falls last w = turns-falls (suc (w.feed.left + w.feed.left)) last w
