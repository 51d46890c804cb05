-- No row of texts, counters and labels leaves more steps than there were.
use Rattle.std.proofs.Common.{ℕ, zero, suc, Bool, true, List, [], arith}
use Rattle.std.specs.Prelude.{Option, Some, None}
use Rattle.lb_base.specs.declared.fault.Kind.TheVariants.{Runaway}
use Rattle.lb_base.specs.declared.token.Tok.{Tok}
use Rattle.lb_values.specs.declared.cell.Cell.{Cell}
use Rattle.lb_values.specs.declared.value.LabelPair.{LabelPair}
use Rattle.lb_model.specs.declared.open.Purpose.TheVariants.{Asked}
use Rattle.lb_model.specs.Configs.{Config}
use Rattle.lb_model_grammar.specs.declared.given.ScanKind.TheVariants as scan_kind
use Rattle.lb_model_grammar.specs.Arguments.{closes, opens}
use Rattle.lb_model_counters.specs.Labels.{label_stored}
use Rattle.lb_model_expansion.specs.Expansion.{if_room, ran, word_behind}
use Rattle.lb_model_expansion.specs.Laws.{NeverRise}
use Rattle.lb_model_expansion.specs.Steps.{Performed}
use Rattle.lb_model_expansion.specs.Steps as steps
use Rattle.lb_model_expansion.proofs.FallsSteps.{then-ran}
use Rattle.lb_model_engine.specs.Counting.{addcontentsline, addtocounter, characters_in, counter_made, effected, include, label, label_set, matter, newcounter, pagenumbering, pageref, pagestyle, ref_row, reference_put, referring, refstepcounter, setcounter, size_row, stepcounter, style_row, within_to}
use Rattle.lb_model_engine.specs.Texts.{changecase, expanded_text, in_text, text_rest, text_within, tokens_put, typed_out, typeout}
use Rattle.lb_model_engine.specs.Reads.{characters, put_closed, word_to}
use Rattle.lb_model_nest.specs.Paragraphs.{begun_in_vertical}
use Rattle.lb_model_nest.specs.Wholes.{Executed, Whole, stop}
use Rattle.lb_model_engine.specs.StepsLeft.{NeverRise as Falls}
use Rattle.lb_model_engine.proofs.FallsPages.{added-falls, and_then-falls}
use Rattle.lb_model_engine.proofs.FallsParagraphs.{begun-falls}
use Rattle.lb_model_engine.proofs.FallsReads.{asking-falls, characters-falls, next_or-falls, reading-falls, scanning-falls, scanning_in-falls}

-- ---- Texts that are expanded

in_text-falls : (opening closing : Bool) (level : ℕ) (toks : List Tok) (tok : Tok) (more : ℕ → List Tok → Whole → Executed) (row : List Tok → Whole → Executed)
    → ((level : ℕ) (toks : List Tok) → Falls (more level toks)) → ((toks : List Tok) → Falls (row toks))
    → Falls (in_text opening closing level toks tok more row)
in_text-falls opening closing level toks tok more row g f w = grind (arith, f, g)

text_within-falls : (turns level : ℕ) (toks : List Tok) (row : List Tok → Whole → Executed) → ((toks : List Tok) → Falls (row toks))
    → Falls (text_within turns level toks row)
text_within-falls zero level toks row f w = omega arith
text_within-falls (suc turns) level toks row f w =
    let more = λ (l : ℕ) (ts : List Tok) (v : Whole). text_within turns l ts row v in
    next_or-falls (stop Runaway) (λ tok m v. in_text (opens tok) (closes tok) level toks tok more row v) (λ v. omega arith)
    (λ tok m. in_text-falls (opens tok) (closes tok) level toks tok more row (λ l ts. text_within-falls turns l ts row f) f) w

pub text_rest-falls : (row : List Tok → Whole → Executed) → ((toks : List Tok) → Falls (row toks)) → Falls (text_rest row)
unfolding text_rest
text_rest-falls row f w = text_within-falls (suc w.feed.left) 0 [] row f w

pub expanded_text-falls : (toks : List Tok) (row : List Tok → Whole → Executed) → ((toks : List Tok) → Falls (row toks)) → Falls (expanded_text toks row)
expanded_text-falls toks row f w = and_then-falls w.feed.left (put_closed toks w) (text_rest row) (text_rest-falls row f) (grind arith)

pub typeout-falls : Falls typeout
unfolding typeout
typeout-falls = reading-falls _ _ (λ toks. expanded_text-falls toks typed_out (λ toks w. omega arith))

pub changecase-falls : (form : ℕ → Cell) → Falls (changecase form)
unfolding changecase
changecase-falls form = reading-falls _ _ (λ toks w. grind arith)

tokens_put-falls : (toks : Option (List Tok)) → Falls (tokens_put toks)
tokens_put-falls toks w = grind arith

-- ---- Counters

abbrev expanded_behind : List Tok → Config → Performed
expanded_behind toks c = steps.and_then (if_room (word_behind toks Asked) c) ran

expanded_behind-falls : (toks : List Tok) → NeverRise (expanded_behind toks)
expanded_behind-falls toks c = then-ran c.left (if_room (word_behind toks Asked) c) (grind arith)

pub characters_in-falls : (toks : List Tok) (row : List ℕ → Whole → Executed) → ((text : List ℕ) → Falls (row text)) → Falls (characters_in toks row)
characters_in-falls toks row f = asking-falls (expanded_behind toks) (λ a v. word_to a row v) (expanded_behind-falls toks) (λ a w. grind (arith, f))

within_to-falls : (toks : Option (List Tok)) (row : Option (List ℕ) → Whole → Executed) → ((name : Option (List ℕ)) → Falls (row name))
    → Falls (within_to toks row)
within_to-falls None row f = f None
within_to-falls (Some toks) row f = characters_in-falls toks _ (λ name. f (Some name))

pub newcounter-falls : Falls newcounter
unfolding newcounter
newcounter-falls =
    characters-falls _ (λ name. reading-falls _ _ (λ toks. within_to-falls toks (counter_made name) (λ within w. grind arith)))

pub setcounter-falls : Falls setcounter
unfolding setcounter
setcounter-falls = characters-falls _ (λ name. reading-falls _ _ (λ toks. scanning_in-falls scan_kind.Number toks _ (λ found w. grind arith)))

pub addtocounter-falls : Falls addtocounter
unfolding addtocounter
addtocounter-falls = characters-falls _ (λ name. reading-falls _ _ (λ toks. scanning_in-falls scan_kind.Number toks _ (λ found w. grind arith)))

pub stepcounter-falls : Falls stepcounter
unfolding stepcounter
stepcounter-falls = characters-falls _ (λ name w. grind arith)

label_rest-falls : Falls (text_rest label_set)
label_rest-falls = text_rest-falls label_set (λ toks w. omega arith)

pub refstepcounter-falls : Falls refstepcounter
unfolding refstepcounter
refstepcounter-falls = characters-falls _ (λ name w. grind (arith, label_rest-falls))

-- ---- Labels

pub label-falls : Falls label
unfolding label
label-falls = characters-falls _ (λ key w. grind (arith, added-falls))

reference_put-falls : (part : LabelPair → List ℕ) (key : List ℕ) (pair : Option LabelPair) → Falls (reference_put part key pair)
reference_put-falls part key None w = grind arith
reference_put-falls part key (Some pair) w = tokens_put-falls _ w

referring-falls : (part : LabelPair → List ℕ) → Falls (referring part)
referring-falls part w =
    let row : Whole → Executed = λ v. characters (λ key u. effected (label_stored key) (reference_put part key) u) v in
    and_then-falls w.feed.left (begun_in_vertical true w) row (characters-falls _ (λ key u. grind (arith, reference_put-falls))) (begun-falls true w)

pub ref-falls : Falls ref_row
unfolding ref_row
ref-falls = referring-falls (λ pair. pair.text)

pub pageref-falls : Falls pageref
unfolding pageref
pageref-falls = referring-falls (λ pair. pair.page)

pub addcontentsline-falls : Falls addcontentsline
unfolding addcontentsline
addcontentsline-falls = characters-falls _ (λ extension. characters-falls _ (λ kind. reading-falls _ _ (λ title. added-falls _)))

-- ---- Styles

pub style-falls : Falls style_row
unfolding style_row
style-falls = scanning-falls _ _ (λ found w. grind arith)

pub size-falls : Falls size_row
unfolding size_row
size-falls = scanning-falls _ _ (λ found w. grind arith)

pub matter-falls : Falls matter
unfolding matter
matter-falls = scanning-falls _ _ (λ found w. grind arith)

pub pagestyle-falls : (c : Cell) → Falls (pagestyle c)
unfolding pagestyle
pagestyle-falls c = characters-falls _ (λ name w. grind arith)

pub pagenumbering-falls : Falls pagenumbering
unfolding pagenumbering
pagenumbering-falls = characters-falls _ (λ name w. grind arith)

pub include-falls : Falls include
unfolding include
include-falls w = omega arith
