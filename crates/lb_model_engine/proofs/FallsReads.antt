-- What rows read leaves no more steps than there were.
use Rattle.std.proofs.Common.{◌≡◌, ◌≤◌, ℕ, zero, suc, List, arith}
use Rattle.std.specs.Prelude.{Option, if◌then◌else◌}
use Rattle.lb_base.specs.declared.token.Tok.{Tok}
use Rattle.lb_values.specs.declared.cell.Cell.{Cell}
use Rattle.lb_values.specs.declared.meaning.Meaning.{Meaning}
use Rattle.lb_model_grammar.specs.declared.given.Given.{Given}
use Rattle.lb_model_grammar.specs.declared.given.ScanKind.{ScanKind}
use Rattle.lb_model_grammar.specs.declared.given.ScanKind.TheVariants as scan_kind
use Rattle.lb_model_grammar.specs.declared.given.Scanned.{Scanned}
use Rattle.lb_model_grammar.specs.Scans.{Meant, is_space}
use Rattle.lb_model.specs.Configs.{Config}
use Rattle.lb_model_expansion.specs.Steps.{Performed}
use Rattle.lb_model_expansion.specs.Expansion.{body_asked, ran, scan_asked, word_asked}
use Rattle.lb_model_expansion.specs.Laws.{NeverRise}
use Rattle.lb_model_expansion.specs.declared.expansion.Answer.{Answer}
use Rattle.lb_model_expansion.specs.declared.expansion.Went.{Went}
use Rattle.lb_model_expansion.specs.declared.expansion.Went.TheVariants.{Gave}
use Rattle.lb_model_nest.specs.Wholes.{Executed, Whole, and_then, with_feed}
use Rattle.lb_model_engine.specs.Reads.{asking, characters, closing, code, control, equals, expanded_rest, meaning_to, next_or, past_spaces_in, past_spaces_or, put_closed, reading, reading_on, scanning, taking, token_to}
use Rattle.lb_model_expansion.proofs.FallsGiven.{ran-given}
use Rattle.lb_model_expansion.proofs.FallsReadings.{taken-falls, taken_by-falls}
use Rattle.lb_model_expansion.proofs.FallsSteps.{body_asked-falls, ran-falls, scan_asked-falls, word_asked-falls}
use Rattle.lb_model_engine.specs.StepsLeft.{NeverRise as Falls}
use Rattle.lb_model_engine.proofs.FallsPages.{and_then-falls}

pub taking-falls : (row : Tok → Whole → Executed) → ((tok : Tok) → Falls (row tok)) → Falls (taking row)
taking-falls row f w = grind (arith, f, taken_by-falls)

pub reading-falls : {X : Type 0} (meant : List Given → Meant X) (row : X → Whole → Executed) → ((x : X) → Falls (row x)) → Falls (reading meant row)
reading-falls meant row f w = grind (arith, f, taken-falls)

pub reading_on-falls : {X : Type 0} (meant : List Given → Meant X) (row : X → Whole → Executed) → ((x : X) → Falls (row x)) → Falls (reading_on meant row)
reading_on-falls meant row f w = grind (arith, f, taken-falls)

pub control-falls : (row : Cell → Whole → Executed) → ((c : Cell) → Falls (row c)) → Falls (control row)
control-falls row f w = grind (arith, f, taken_by-falls)

token_to-given : (way : Went) (row : Tok → Whole → Executed) (at_end : Whole → Executed) (w : Whole) (tok : Tok)
    → ((tok : Tok) → Falls (row tok)) → way ≡ Gave tok → (token_to way row at_end w).done.next.feed.left ≤ w.feed.left
token_to-given way row at_end w tok f e = grind (arith, f)

pub next_or-falls : (at_end : Whole → Executed) (row : Tok → Option Meaning → Whole → Executed)
    → Falls at_end → ((tok : Tok) (m : Option Meaning) → Falls (row tok m)) → Falls (next_or at_end row)
next_or-falls at_end row g f w = grind (arith, f, g, ran-falls w.feed)

-- where the feed gives a token, at least one step less is left
pub next_or-given : (at_end : Whole → Executed) (row : Tok → Option Meaning → Whole → Executed) (w : Whole) (tok : Tok)
    → ((tok : Tok) (m : Option Meaning) → Falls (row tok m)) → (ran w.feed).done.went ≡ Gave tok → suc (next_or at_end row w).done.next.feed.left ≤ w.feed.left
next_or-given at_end row w tok f e =
    let p = ran w.feed in
    let h = token_to-given p.done.went (λ tok v. meaning_to row tok v) at_end (with_feed p.done.next w) tok (λ t v. f t _ v) e in
    omega (arith, h, ran-given w.feed tok e)

past_spaces_in-falls : (turns : ℕ) (at_end : Whole → Executed) (row : Tok → Option Meaning → Whole → Executed)
    → Falls at_end → ((tok : Tok) (m : Option Meaning) → Falls (row tok m)) → Falls (past_spaces_in turns at_end row)
past_spaces_in-falls zero at_end row g f w = omega arith
past_spaces_in-falls (suc turns) at_end row g f w = grind (arith, f, g, ran-falls w.feed, past_spaces_in-falls turns at_end row g f)

pub past_spaces_or-falls : (at_end : Whole → Executed) (row : Tok → Option Meaning → Whole → Executed)
    → Falls at_end → ((tok : Tok) (m : Option Meaning) → Falls (row tok m)) → Falls (past_spaces_or at_end row)
unfolding past_spaces_or
past_spaces_or-falls at_end row g f w = past_spaces_in-falls (suc w.feed.left) at_end row g f w

pub past_spaces_or-given : (at_end : Whole → Executed) (row : Tok → Option Meaning → Whole → Executed) (w : Whole) (tok : Tok)
    → Falls at_end → ((tok : Tok) (m : Option Meaning) → Falls (row tok m)) → (ran w.feed).done.went ≡ Gave tok
    → suc (past_spaces_or at_end row w).done.next.feed.left ≤ w.feed.left
unfolding past_spaces_or
past_spaces_or-given at_end row w tok g f e =
    let more = λ (t : Tok) (m : Option Meaning) (v : Whole). if is_space t then past_spaces_in w.feed.left at_end row v else row t m v in
    next_or-given at_end more w tok (λ t m v. grind (arith, f, past_spaces_in-falls w.feed.left at_end row g f)) e

pub equals-falls : (row : Whole → Executed) → Falls row → Falls (equals row)
equals-falls row f w = past_spaces_or-falls row _ f (λ tok m v. grind (arith, f)) w

pub asking-falls : (asked : Config → Performed) (row : Answer → Whole → Executed) → NeverRise asked → ((a : Answer) → Falls (row a)) → Falls (asking asked row)
asking-falls asked row h f w = grind (arith, f, h w.feed)

pub scanning-falls : (k : ScanKind) (row : Scanned → Whole → Executed) → ((found : Scanned) → Falls (row found)) → Falls (scanning k row)
scanning-falls k row f = asking-falls (scan_asked k) _ (scan_asked-falls k) (λ a w. grind (arith, f))

pub characters-falls : (row : List ℕ → Whole → Executed) → ((text : List ℕ) → Falls (row text)) → Falls (characters row)
characters-falls row f = asking-falls word_asked _ word_asked-falls (λ a w. grind (arith, f))

pub expanded_rest-falls : (row : List Tok → Whole → Executed) → ((toks : List Tok) → Falls (row toks)) → Falls (expanded_rest row)
expanded_rest-falls row f = asking-falls body_asked _ body_asked-falls (λ a w. grind (arith, f))

pub code-falls : (row : ℕ → Whole → Executed) → ((n : ℕ) → Falls (row n)) → Falls (code row)
code-falls row f = scanning-falls scan_kind.Number _ (λ found w. grind (arith, f))

-- ---- Quantities in arguments

closing-falls : (row : Whole → Executed) → Falls row → Falls (closing row)
closing-falls row f = past_spaces_or-falls _ _ (λ w. omega arith) (λ tok m w. grind (arith, f))

-- a scan of tokens that are put back
pub scanning_in-falls : (k : ScanKind) (toks : List Tok) (row : Scanned → Whole → Executed)
    → ((found : Scanned) → Falls (row found)) → Falls (λ w. and_then (put_closed toks w) (λ v. scanning k (λ found u. closing (row found) u) v))
scanning_in-falls k toks row f w =
    and_then-falls w.feed.left (put_closed toks w) (λ v. scanning k (λ found u. closing (row found) u) v)
    (scanning-falls k _ (λ found. closing-falls (row found) (f found))) (grind arith)
