-- What is read at a character of a line.
use Rattle.std.proofs.Common.{◌≡◌, ◌∙◌, ℕ, ◌≤◌, true, false, List, [], ◌∷◌, ◌++◌, length, drop, Option, Some, IfOk, IfErr, refl, ap, sym, subst, append-nil}
use Rattle.std.specs.Prelude.{Bool, Result, Ok, Err, if◌then◌else◌}
use Rattle.std.specs.Option.{option_map}
use Rattle.std.specs.Result.{IsErrAnd}
use Rattle.lb_base.specs.declared.fault.Stop.{Stop}
use Rattle.lb_base.specs.declared.fault.Stop.TheVariants.{Memory, Fault, At}
use Rattle.lb_base.specs.declared.token.Category.{Category}
use Rattle.lb_base.specs.declared.token.Category.TheVariants.{Escape, Space, Letter, Other}
use Rattle.lb_base.specs.declared.token.Tok.TheVariants as token
use Rattle.lb_model.specs.declared.reading.Read.TheVariants as read
use Rattle.lb_model.specs.declared.reading.ReaderState.{ReaderState}
use Rattle.lb_model.specs.declared.reading.ReaderState.TheVariants.{NewLine, MidLine, SkipBlanks}
use Rattle.lb_model.specs.Settings.{Setting, Notes}
use Rattle.lb_model.specs.Tokens.{Character, Taken, characters, control_sequence, is_skipped, next_token, noted_codes, taken, taken_at, taken_behind}
use Rattle.lb_tokens.specs.declared.examined.Examined.{Examined}
use Rattle.lb_tokens.specs.declared.step.Step.{Step}
use Rattle.lb_tokens.specs.Parts.{MayStopAtInvalid, character_of, first_character, is_escape, is_plain, is_word_space, taken_from}
use Rattle.lb_tokens.proofs.Words.{Splits, Notes_of, noted-append, none_noted, used_up}

-- ---- What a call is told to give

pub taken_told : {X : Type 0} (r : Result Step Stop) (A : Setting → Type 0) (f : Step → X) (y : List ℕ → List Character → X) (z : Setting → X) → IfOk r (λ s. (examined : List ℕ) (behind : List Character) → y examined behind ≡ f s)
    → ((p : Setting) → A p → (examined : List ℕ) × (behind : List Character) × (z p ≡ y examined behind)) → IfOk r (λ s. (p : Setting) → A p → z p ≡ f s)
taken_told (Ok s) A f y z h k = λ p a. let t = k p a in t.2 ∙ h t.0 t.1
taken_told (Err e) A f y z h k = tt

may_stop : (stop : Stop) (P Q : Type 0) → (P → Q) → MayStopAtInvalid stop P → MayStopAtInvalid stop Q
may_stop Memory P Q f h = tt
may_stop (Fault kind) P Q f h = (h.0, f h.1)
may_stop (At fault) P Q f h = h

pub stop_told : {T : Type 0} (r : Result T Stop) (P Q : Type 0) → (P → Q) → IfErr r (λ stop. MayStopAtInvalid stop P) → IfErr r (λ stop. MayStopAtInvalid stop Q)
stop_told (Ok x) P Q f h = tt
stop_told (Err stop) P Q f h = may_stop stop P Q f h

-- the same, where the stop is handed on
pub stopped : {T : Type 0} (r : Result T Stop) (stop : Stop) (P Q : Type 0) → IsErrAnd r (λ e. e ≡ stop) → (P → Q) → MayStopAtInvalid stop P → IfErr r (λ e. MayStopAtInvalid e Q)
stopped (Ok x) stop P Q same f h = tt
stopped (Err e) stop P Q same f h = subst (λ s. MayStopAtInvalid s Q) (sym same) (may_stop stop P Q f h)

-- ---- What is read

abbrev Of_step : (ℕ → Category) → ReaderState → List ℕ → ℕ → Taken → Type 0
Of_step cats state line at t = next_token cats state (drop at line) ≡ t

by_skip : (state : ReaderState) (e : Character) (es : List Character) → is_skipped state e.category ≡ true → taken state (e ∷ es) ≡ taken_behind e (taken state es)
by_skip state e es h = rw h refl

by_taking : (state : ReaderState) (e : Character) (es : List Character) → is_skipped state e.category ≡ false → taken state (e ∷ es) ≡ taken_at e.category state e es
by_taking state e es h = rw h refl

pub skips : (cats : ℕ → Category) (state : ReaderState) (line : List ℕ) (at : ℕ) (next : Examined) → Splits cats line at next → is_skipped state next.category ≡ true
    → Of_step cats state line at (taken_behind (character_of next line (first_character cats (drop at line)).examined) (next_token cats state (drop next.after line)))
unfolding next_token
skips cats state line at next split h = ap (taken state) split ∙ by_skip state (character_of next line (first_character cats (drop at line)).examined) (characters cats (drop next.after line)) h

pub takes : (cats : ℕ → Category) (state : ReaderState) (line : List ℕ) (at : ℕ) (next : Examined) → Splits cats line at next → is_skipped state next.category ≡ false
    → Of_step cats state line at (taken_at next.category state (character_of next line (first_character cats (drop at line)).examined) (characters cats (drop next.after line)))
unfolding next_token
takes cats state line at next split h = ap (taken state) split ∙ by_taking state (character_of next line (first_character cats (drop at line)).examined) (characters cats (drop next.after line)) h

escape_stays : (state : ReaderState) (k : Category) → is_escape k ≡ true → is_skipped state k ≡ false
escape_stays NewLine Escape h = refl
escape_stays MidLine Escape h = refl
escape_stays SkipBlanks Escape h = refl
escape_stays state _ h = cc

escape_taken : (k : Category) (state : ReaderState) (e : Character) (es : List Character) → is_escape k ≡ true → taken_at k state e es ≡ taken_behind e (control_sequence es)
escape_taken Escape state e es h = refl
escape_taken _ state e es h = cc

pub escapes : (cats : ℕ → Category) (state : ReaderState) (line : List ℕ) (at : ℕ) (next : Examined) → Splits cats line at next → is_escape next.category ≡ true
    → Of_step cats state line at (taken_behind (character_of next line (first_character cats (drop at line)).examined) (control_sequence (characters cats (drop next.after line))))
escapes cats state line at next split h =
    takes cats state line at next split (escape_stays state next.category h)
    ∙ escape_taken next.category state (character_of next line (first_character cats (drop at line)).examined) (characters cats (drop next.after line)) h

pub ends : (cats : ℕ → Category) (state : ReaderState) (line : List ℕ) (at : ℕ) → length line ≤ at → Of_step cats state line at (taken state [])
unfolding next_token
ends cats state line at h = ap (taken state) (used_up cats line at h)

-- ---- What is noted

plain_examined : (k : Category) (state : ReaderState) (e : Character) (es : List Character) → is_escape k ≡ false → (taken_at k state e es).examined ≡ e.examined
plain_examined Escape state e es h = cc
plain_examined _ state e es h = refl

pub looks_here : (cats : ℕ → Category) (state : ReaderState) (line : List ℕ) (at : ℕ) (next : Examined) (notes after whole : Option Notes) → Splits cats line at next → is_skipped state next.category ≡ false → is_escape next.category ≡ false
    → Notes_of cats line at notes after → option_map (noted_codes (next_token cats state (drop at line)).examined) notes ≡ whole → after ≡ whole
looks_here cats state line at next notes after whole split h plain told same =
    let first = first_character cats (drop at line) in
    let here : (next_token cats state (drop at line)).examined ≡ (first_character cats (drop at line)).examined =
    ap (λ t. t.examined) (takes cats state line at next split h) ∙ plain_examined next.category state (character_of next line first.examined) (characters cats (drop next.after line)) plain in
    told ∙ sym (ap (λ l. option_map (noted_codes l) notes) here) ∙ same

-- the codes of a character, and those that are examined behind it
pub looks_behind : (cats : ℕ → Category) (state : ReaderState) (line : List ℕ) (at : ℕ) (next : Examined) (behind : Taken) (notes after whole : Option Notes)
    → Of_step cats state line at (taken_behind (character_of next line (first_character cats (drop at line)).examined) behind)
    → Notes_of cats line at notes after → option_map (noted_codes (next_token cats state (drop at line)).examined) notes ≡ whole → option_map (noted_codes behind.examined) after ≡ whole
looks_behind cats state line at next behind notes after whole is told same =
    let codes = (first_character cats (drop at line)).examined in
    ap (option_map (noted_codes behind.examined)) told ∙ sym (noted-append codes behind.examined notes) ∙ sym (ap (λ t. option_map (noted_codes t.examined) notes) is) ∙ same

pub looks_at_end : (cats : ℕ → Category) (state : ReaderState) (line : List ℕ) (at : ℕ) (notes whole : Option Notes) → length line ≤ at → option_map (noted_codes (next_token cats state (drop at line)).examined) notes ≡ whole → notes ≡ whole
looks_at_end cats state line at notes whole h same = sym (none_noted notes) ∙ sym (ap (λ t. option_map (noted_codes t.examined) notes) (ends cats state line at h)) ∙ same

-- ---- What is read at the first character of a line

-- what is read where some codes were examined before
abbrev pub behind_codes : List ℕ → Taken → Taken
behind_codes codes t = record t { examined = codes ++ t.examined }

moved_at : (k : Category) (state : ReaderState) (e : Examined) (line codes : List ℕ) (es : List Character)
    → taken_at k state (character_of e line codes) es ≡ behind_codes codes (taken_at k state (character_of e line []) es)
moved_at Escape state e line codes es = refl
moved_at k state e line codes es = ap (λ l. record (taken_at k state (character_of e line []) es) { examined = l }) (sym (append-nil codes))

moved_if : (b : Bool) (t u v w : Taken) (codes : List ℕ) → t ≡ behind_codes codes v → u ≡ behind_codes codes w → (if b then t else u) ≡ behind_codes codes (if b then v else w)
moved_if true t u v w codes h k = h
moved_if false t u v w codes h k = k

pub reads_first : (cats : ℕ → Category) (state : ReaderState) (line : List ℕ) (at : ℕ) (next : Examined) → Splits cats line at next
    → Of_step cats state line at (behind_codes (first_character cats (drop at line)).examined (taken_from cats state next line))
unfolding next_token
reads_first cats state line at next split =
    let codes = (first_character cats (drop at line)).examined in
    let es = characters cats (drop next.after line) in
    ap (taken state) split ∙ moved_if (is_skipped state next.category) _ _ _ _ codes refl (moved_at next.category state next line codes es)

pub skips_first : (cats : ℕ → Category) (state : ReaderState) (line : List ℕ) (next : Examined) → is_skipped state next.category ≡ true
    → taken_from cats state next line ≡ next_token cats state (drop next.after line)
unfolding next_token
skips_first cats state line next h = by_skip state (character_of next line []) (characters cats (drop next.after line)) h

pub looks_first : (cats : ℕ → Category) (state : ReaderState) (line : List ℕ) (at : ℕ) (next : Examined) (notes after : Option Notes) → Splits cats line at next → Notes_of cats line at notes after
    → option_map (noted_codes (taken_from cats state next line).examined) after ≡ option_map (noted_codes (next_token cats state (drop at line)).examined) notes
looks_first cats state line at next notes after split told =
    let codes = (first_character cats (drop at line)).examined in
    let more = (taken_from cats state next line).examined in
    ap (option_map (noted_codes more)) told ∙ sym (noted-append codes more notes) ∙ sym (ap (λ t. option_map (noted_codes t.examined) notes) (reads_first cats state line at next split))

-- ---- Characters that are read as they stand

plain_stays : (state : ReaderState) (k : Category) → is_plain k ≡ true → is_skipped state k ≡ false
plain_stays NewLine Letter h = refl
plain_stays NewLine Other h = refl
plain_stays MidLine Letter h = refl
plain_stays MidLine Other h = refl
plain_stays SkipBlanks Letter h = refl
plain_stays SkipBlanks Other h = refl
plain_stays state _ h = cc

abbrev pub as_it_stands : Character → Taken
as_it_stands e = record { read = Some (read.Tok (token.Char e.category e.code)); state = MidLine; rest = e.rest; examined = e.examined }

plain_taken : (k : Category) (state : ReaderState) (e : Character) (es : List Character) → is_plain k ≡ true
    → taken_at k state e es ≡ record { read = Some (read.Tok (token.Char k e.code)); state = MidLine; rest = e.rest; examined = e.examined }
plain_taken Letter state e es h = refl
plain_taken Other state e es h = refl
plain_taken _ state e es h = cc

pub reads_plain : (cats : ℕ → Category) (state : ReaderState) (line : List ℕ) (at : ℕ) (next : Examined) → Splits cats line at next → is_plain next.category ≡ true
    → Of_step cats state line at (as_it_stands (character_of next line (first_character cats (drop at line)).examined))
reads_plain cats state line at next split h =
    takes cats state line at next split (plain_stays state next.category h)
    ∙ plain_taken next.category state (character_of next line (first_character cats (drop at line)).examined) (characters cats (drop next.after line)) h

-- ---- Spaces between words

space_stays : (state : ReaderState) (k : Category) → is_word_space state k ≡ true → is_skipped state k ≡ false
space_stays MidLine Space h = refl
space_stays MidLine _ h = cc
space_stays NewLine k h = cc
space_stays SkipBlanks k h = cc

space_taken : (k : Category) (state : ReaderState) (e : Character) (es : List Character) → is_word_space state k ≡ true
    → taken_at k state e es ≡ record { read = Some (read.Tok (token.Char Space 32)); state = SkipBlanks; rest = e.rest; examined = e.examined }
space_taken Space state e es h = refl
space_taken k MidLine e es h = cc
space_taken k NewLine e es h = cc
space_taken k SkipBlanks e es h = cc

abbrev pub space_between : Character → Taken
space_between e = record { read = Some (read.Tok (token.Char Space 32)); state = SkipBlanks; rest = e.rest; examined = e.examined }

pub reads_space : (cats : ℕ → Category) (state : ReaderState) (line : List ℕ) (at : ℕ) (next : Examined) → Splits cats line at next → is_word_space state next.category ≡ true
    → Of_step cats state line at (space_between (character_of next line (first_character cats (drop at line)).examined))
reads_space cats state line at next split h =
    takes cats state line at next split (space_stays state next.category h)
    ∙ space_taken next.category state (character_of next line (first_character cats (drop at line)).examined) (characters cats (drop next.after line)) h
