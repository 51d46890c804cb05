-- The letters of a control word, one after another.
use Rattle.std.proofs.Common.{◌≡◌, ◌∙◌, ℕ, ◌+◌, ◌-◌, ◌<◌, ◌≤◌, true, false, List, [], ◌∷◌, ◌++◌, length, take, drop, get_or, Option, Some, None, IfOk, OnOk, refl, ap, sym, subst, arith, append_assoc, append-nil}
use Rattle.std.specs.Prelude.{Result, Ok, Err}
use Rattle.std.specs.Option.{option_map}
use Rattle.std.proofs.lemmas.List.{drop_all, take_more, get_or-drop, length-drop}
use Rattle.lb_base.specs.declared.token.Category.{Category}
use Rattle.lb_base.specs.declared.token.Tok.TheVariants.{Word}
use Rattle.lb_model.specs.declared.reading.Read.{Read}
use Rattle.lb_model.specs.declared.reading.Read.TheVariants as read
use Rattle.lb_values.specs.Kept.{Kept}
use Rattle.lb_values.specs.declared.cell.Cell.TheVariants.{Cat}
use Rattle.lb_values.specs.declared.value.Value.{Value}
use Rattle.lb_model.specs.Settings.{Setting, Notes, noted}
use Rattle.lb_model.specs.Tokens.{Character, characters, categories, is_letter, letters, after_letters, letters_examined, noted_codes, control_sequence, control_word}
use Rattle.lb_tokens.specs.declared.examined.Examined.{Examined}
use Rattle.lb_tokens.specs.declared.step.Step.{Step}
use Rattle.lb_tokens.specs.Parts.{character_of, first_character}
use Rattle.lb_tokens.proofs.Characters.{characters-none}

-- ---- What a call is told to give

pub always : {T E : Type 0} (r : Result T E) (P : Type 0) → P → OnOk r P
always (Ok x) P h = h
always (Err e) P h = tt

pub told : {E X Y : Type 0} (r : Result Step E) (A : Setting → Type 0) (f : Step → X) (g : X → Y) (x : X) (y : Setting → Y) → IfOk r (λ s. f s ≡ x) → ((p : Setting) → A p → y p ≡ g x) → IfOk r (λ s. (p : Setting) → A p → y p ≡ g (f s))
told (Ok s) A f g x y h k = λ p a. k p a ∙ ap g (sym h)
told (Err e) A f g x y h k = tt

-- the same, where the call is a reader's own
pub read_same : {T E : Type 0} (r : Result T E) (A : Setting → Type 0) {X : Type 0} (y z : Setting → X) (of : T → X) → IfOk r (λ s. (p : Setting) → A p → y p ≡ of s) → ((p : Setting) → A p → z p ≡ y p) → IfOk r (λ s. (p : Setting) → A p → z p ≡ of s)
read_same (Ok s) A y z of h f = λ p a. f p a ∙ h p a
read_same (Err e) A y z of h f = tt

pub some_same : {E : Type 0} (r : Result Step E) (A : Setting → Type 0) (y : Setting → Read) (z : Setting → Option Read) → IfOk r (λ s. (p : Setting) → A p → y p ≡ s.read) → ((p : Setting) → A p → z p ≡ Some (y p)) → IfOk r (λ s. (p : Setting) → A p → z p ≡ Some s.read)
some_same (Ok s) A y z h f = λ p a. f p a ∙ ap Some (h p a)
some_same (Err e) A y z h f = tt

pub looks_same : {T E : Type 0} (r : Result T E) (A : Setting → Type 0) (after : Option Notes) (y z : Setting → Option Notes) → OnOk r ((p : Setting) → A p → after ≡ y p) → ((p : Setting) → A p → y p ≡ z p) → OnOk r ((p : Setting) → A p → after ≡ z p)
looks_same (Ok s) A after y z h f = λ p a. h p a ∙ f p a
looks_same (Err e) A after y z h f = tt

-- ---- What is told of a character of a line

-- the characters from a place on are one and those behind it
abbrev pub Splits : (ℕ → Category) → List ℕ → ℕ → Examined → Type 0
Splits cats line at next = characters cats (drop at line) ≡ character_of next line (first_character cats (drop at line)).examined ∷ characters cats (drop next.after line)

abbrev pub Notes_of : (ℕ → Category) → List ℕ → ℕ → Option Notes → Option Notes → Type 0
Notes_of cats line at notes after = after ≡ option_map (noted_codes (first_character cats (drop at line)).examined) notes

pub splits : (p : Setting) (k kept : Kept Value) (line : List ℕ) (at : ℕ) (next : Examined) → k ≡ kept → Splits (categories p k) line at next → Splits (categories p kept) line at next
splits p k kept line at next same told = subst (λ k. Splits (categories p k) line at next) same told

pub notes_of : (p : Setting) (k kept : Kept Value) (line : List ℕ) (at : ℕ) (notes after : Option Notes) → k ≡ kept → Notes_of (categories p k) line at notes after → Notes_of (categories p kept) line at notes after
notes_of p k kept line at notes after same told = subst (λ k. Notes_of (categories p k) line at notes after) same told

pub used_up : (cats : ℕ → Category) (line : List ℕ) (at : ℕ) → length line ≤ at → characters cats (drop at line) ≡ []
used_up cats line at h = ap (characters cats) (drop_all at line h) ∙ characters-none cats

pub noted-append : (a b : List ℕ) (notes : Option Notes) → option_map (noted_codes (a ++ b)) notes ≡ option_map (noted_codes b) (option_map (noted_codes a) notes)
noted-append a b None = refl
noted-append a b (Some n) = ap Some (noted_append a b n)
  where
    noted_append : (a b : List ℕ) (n : Notes) → noted_codes (a ++ b) n ≡ noted_codes b (noted_codes a n)
    noted_append [] b n = refl
    noted_append (c ∷ a) b n = noted_append a b (noted (Cat c) n)

-- ---- Where a word ends

none_more : (e : Character) (es : List Character) → is_letter e.category ≡ false → letters (e ∷ es) ≡ []
none_more e es h = rw h refl

none_after : (rest : List ℕ) (e : Character) (es : List Character) → is_letter e.category ≡ false → after_letters rest (e ∷ es) ≡ rest
none_after rest e es h = rw h refl

none_examined : (e : Character) (es : List Character) → is_letter e.category ≡ false → letters_examined (e ∷ es) ≡ e.examined
none_examined e es h = rw h (append-nil e.examined)

pub word_ends : (cats : ℕ → Category) (line : List ℕ) (at : ℕ) (next : Examined) (name whole : List ℕ) → Splits cats line at next → is_letter next.category ≡ false
    → name ++ letters (characters cats (drop at line)) ≡ whole → whole ≡ name
word_ends cats line at next name whole split h same =
    let none : letters (characters cats (drop at line)) ≡ [] = ap letters split ∙ none_more (character_of next line (first_character cats (drop at line)).examined) (characters cats (drop next.after line)) h in
    sym same ∙ ap (λ l. name ++ l) none ∙ append-nil name

pub rest_ends : (cats : ℕ → Category) (line : List ℕ) (at : ℕ) (next : Examined) (whole : List ℕ) → Splits cats line at next → is_letter next.category ≡ false
    → after_letters (drop at line) (characters cats (drop at line)) ≡ whole → whole ≡ drop at line
rest_ends cats line at next whole split h same =
    sym same ∙ ap (after_letters (drop at line)) split ∙ none_after (drop at line) (character_of next line (first_character cats (drop at line)).examined) (characters cats (drop next.after line)) h

pub looks_end : (cats : ℕ → Category) (line : List ℕ) (at : ℕ) (next : Examined) (notes after whole : Option Notes) → Splits cats line at next → is_letter next.category ≡ false
    → Notes_of cats line at notes after → option_map (noted_codes (letters_examined (characters cats (drop at line)))) notes ≡ whole → after ≡ whole
looks_end cats line at next notes after whole split h told same =
    let here : letters_examined (characters cats (drop at line)) ≡ (first_character cats (drop at line)).examined =
    ap letters_examined split ∙ none_examined (character_of next line (first_character cats (drop at line)).examined) (characters cats (drop next.after line)) h in
    told ∙ sym (ap (λ l. option_map (noted_codes l) notes) here) ∙ same

-- ---- Where it goes on

one_more : (e : Character) (es : List Character) → is_letter e.category ≡ true → letters (e ∷ es) ≡ e.code ∷ letters es
one_more e es h = rw h refl

one_after : (rest : List ℕ) (e : Character) (es : List Character) → is_letter e.category ≡ true → after_letters rest (e ∷ es) ≡ after_letters e.rest es
one_after rest e es h = rw h refl

one_examined : (e : Character) (es : List Character) → is_letter e.category ≡ true → letters_examined (e ∷ es) ≡ e.examined ++ letters_examined es
one_examined e es h = rw h refl

pub word_goes_on : (cats : ℕ → Category) (line : List ℕ) (at : ℕ) (next : Examined) (name whole : List ℕ) → Splits cats line at next → is_letter next.category ≡ true
    → name ++ letters (characters cats (drop at line)) ≡ whole → (name ++ next.code ∷ []) ++ letters (characters cats (drop next.after line)) ≡ whole
word_goes_on cats line at next name whole split h same =
    let more : letters (characters cats (drop at line)) ≡ next.code ∷ letters (characters cats (drop next.after line)) =
    ap letters split ∙ one_more (character_of next line (first_character cats (drop at line)).examined) (characters cats (drop next.after line)) h in
    append_assoc name (next.code ∷ []) (letters (characters cats (drop next.after line))) ∙ sym (ap (λ l. name ++ l) more) ∙ same

pub rest_goes_on : (cats : ℕ → Category) (line : List ℕ) (at : ℕ) (next : Examined) (whole : List ℕ) → Splits cats line at next → is_letter next.category ≡ true
    → after_letters (drop at line) (characters cats (drop at line)) ≡ whole → after_letters (drop next.after line) (characters cats (drop next.after line)) ≡ whole
rest_goes_on cats line at next whole split h same =
    sym (ap (after_letters (drop at line)) split ∙ one_after (drop at line) (character_of next line (first_character cats (drop at line)).examined) (characters cats (drop next.after line)) h) ∙ same

pub looks_go_on : (cats : ℕ → Category) (line : List ℕ) (at : ℕ) (next : Examined) (notes after whole : Option Notes) → Splits cats line at next → is_letter next.category ≡ true
    → Notes_of cats line at notes after → option_map (noted_codes (letters_examined (characters cats (drop at line)))) notes ≡ whole
    → option_map (noted_codes (letters_examined (characters cats (drop next.after line)))) after ≡ whole
looks_go_on cats line at next notes after whole split h told same =
    let codes = (first_character cats (drop at line)).examined in
    let more = letters_examined (characters cats (drop next.after line)) in
    let here : letters_examined (characters cats (drop at line)) ≡ (first_character cats (drop at line)).examined ++ letters_examined (characters cats (drop next.after line)) =
    ap letters_examined split ∙ one_examined (character_of next line (first_character cats (drop at line)).examined) (characters cats (drop next.after line)) h in
    ap (option_map (noted_codes more)) told ∙ sym (noted-append codes more notes) ∙ sym (ap (λ l. option_map (noted_codes l) notes) here) ∙ same

-- a letter that stands for itself
pub slice_more : (line : List ℕ) (start end after code : ℕ) → start ≤ end → end < length line → after ≡ end + 1 → (after ≡ end + 1 → code ≡ get_or line end 0)
    → take (after - start) (drop start line) ≡ take (end - start) (drop start line) ++ code ∷ []
slice_more line start end after code order inside next is =
    let count : after - start ≡ end - start + 1 = omega (arith, next) in
    let long : end - start < length (drop start line) = omega (arith, length-drop start line) in
    let place : start + (end - start) ≡ end = omega arith in
    let here : get_or (drop start line) (end - start) 0 ≡ code = get_or-drop start line (end - start) 0 ∙ ap (λ n. get_or line n 0) place ∙ sym (is next) in
    ap (λ n. take n (drop start line)) count ∙ take_more (drop start line) (end - start) 0 long ∙ ap (λ c. take (end - start) (drop start line) ++ c ∷ []) here

-- ---- Where the line is used up

pub word_used_up : (cats : ℕ → Category) (line : List ℕ) (at : ℕ) (name whole : List ℕ) → length line ≤ at → name ++ letters (characters cats (drop at line)) ≡ whole → whole ≡ name
word_used_up cats line at name whole h same = sym same ∙ ap (λ es. name ++ letters es) (used_up cats line at h) ∙ append-nil name

pub rest_used_up : (cats : ℕ → Category) (line : List ℕ) (at : ℕ) (whole : List ℕ) → length line ≤ at → after_letters (drop at line) (characters cats (drop at line)) ≡ whole → whole ≡ drop at line
rest_used_up cats line at whole h same = sym same ∙ ap (after_letters (drop at line)) (used_up cats line at h)

pub none_noted : (notes : Option Notes) → option_map (noted_codes []) notes ≡ notes
none_noted None = refl
none_noted (Some n) = refl

pub looks_used_up : (cats : ℕ → Category) (line : List ℕ) (at : ℕ) (notes whole : Option Notes) → length line ≤ at → option_map (noted_codes (letters_examined (characters cats (drop at line)))) notes ≡ whole → notes ≡ whole
looks_used_up cats line at notes whole h same = sym (none_noted notes) ∙ sym (ap (λ es. option_map (noted_codes (letters_examined es)) notes) (used_up cats line at h)) ∙ same

-- ---- Control sequences

pub none_behind : (cats : ℕ → Category) (line : List ℕ) (at : ℕ) → at ≡ length line → control_sequence (characters cats (drop at line)) ≡ control_sequence []
none_behind cats line at h = ap control_sequence (used_up cats line at (omega (arith, h)))

pub nothing_left : (line : List ℕ) (at : ℕ) → at ≡ length line → [] ≡ drop at line
nothing_left line at h = sym (drop_all at line (omega (arith, h)))

pub none_looks : (cats : ℕ → Category) (line : List ℕ) (at : ℕ) (notes : Option Notes) → at ≡ length line → notes ≡ option_map (noted_codes (control_sequence (characters cats (drop at line))).examined) notes
none_looks cats line at notes h = sym (ap (λ t. option_map (noted_codes t.examined) notes) (none_behind cats line at h) ∙ none_noted notes)

by_letter : (f : Character) (es : List Character) → is_letter f.category ≡ true → control_sequence (f ∷ es) ≡ control_word f es
by_letter f es h = rw h refl

word_behind : (cats : ℕ → Category) (line : List ℕ) (at : ℕ) (next : Examined) → Splits cats line at next → is_letter next.category ≡ true
    → control_sequence (characters cats (drop at line)) ≡ control_word (character_of next line (first_character cats (drop at line)).examined) (characters cats (drop next.after line))
word_behind cats line at next split h = ap control_sequence split ∙ by_letter (character_of next line (first_character cats (drop at line)).examined) (characters cats (drop next.after line)) h

-- a word that begins in the line
pub word_read : (cats : ℕ → Category) (line : List ℕ) (at : ℕ) (next : Examined) → at < length line → next.after ≡ at + 1 → (next.after ≡ at + 1 → next.code ≡ get_or line at 0) → Splits cats line at next → is_letter next.category ≡ true
    → (control_sequence (characters cats (drop at line))).read ≡ Some (read.Tok (Word (take (next.after - at) (drop at line) ++ letters (characters cats (drop next.after line)))))
word_read cats line at next inside behind is split h =
    let none : at - at ≡ 0 = omega arith in
    let first : take (next.after - at) (drop at line) ≡ next.code ∷ [] = slice_more line at at next.after next.code (omega arith) inside behind is ∙ ap (λ n. take n (drop at line) ++ next.code ∷ []) none in
    ap (λ t. t.read) (word_behind cats line at next split h) ∙ ap (λ l. Some (read.Tok (Word (l ++ letters (characters cats (drop next.after line)))))) (sym first)

pub word_looks : (cats : ℕ → Category) (line : List ℕ) (at : ℕ) (next : Examined) (notes after : Option Notes) → Splits cats line at next → is_letter next.category ≡ true → Notes_of cats line at notes after
    → option_map (noted_codes (letters_examined (characters cats (drop next.after line)))) after ≡ option_map (noted_codes (control_sequence (characters cats (drop at line))).examined) notes
word_looks cats line at next notes after split h told =
    let codes = (first_character cats (drop at line)).examined in
    let more = letters_examined (characters cats (drop next.after line)) in
    ap (option_map (noted_codes more)) told ∙ sym (noted-append codes more notes) ∙ sym (ap (λ t. option_map (noted_codes t.examined) notes) (word_behind cats line at next split h))

-- the same, of what the call leaves
pub left_same : {T E X : Type 0} (r : Result T E) (A : Setting → Type 0) (y z : Setting → X) (x : X) → OnOk r ((p : Setting) → A p → y p ≡ x) → ((p : Setting) → A p → z p ≡ y p) → OnOk r ((p : Setting) → A p → z p ≡ x)
left_same (Ok s) A y z x h f = λ p a. f p a ∙ h p a
left_same (Err e) A y z x h f = tt
