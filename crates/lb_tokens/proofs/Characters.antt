-- The characters of a text, one after another.
use Rattle.std.proofs.Common.{◌≡◌, ℕ, zero, suc, ◌+◌, ◌-◌, ◌<◌, ◌≤◌, Bool, true, false, List, [], ◌∷◌, length, take, drop, get_or, Option, Some, None, refl, ap, sym, ◌∙◌, arith}
use Rattle.std.specs.Prelude.{◌==◌, ◌&&◌, nat_lt, if◌then◌else◌}
use Rattle.std.specs.Option.{option_map}
use Rattle.lb_base.specs.declared.token.Category.{Category}
use Rattle.std.proofs.Math.Seq.{drop-drop}
use Rattle.std.proofs.lemmas.List.{drop_more, length-drop, take_rest}
use Rattle.lb_values.specs.declared.cell.Cell.TheVariants.{Cat}
use Rattle.lb_model.specs.Settings.{Notes, noted}
use Rattle.lb_model.specs.Tokens.{Character, alone, after_code, character, characters, first_characters, is_hexadecimal, is_superscript, are_marks, code_of_digits, shifted, noted_codes}
use Rattle.lb_tokens.specs.Parts.{replacement, first_character, character_of}

-- a character without the codes examined for it
abbrev pub seen : Character → Character
seen e = record e { examined = [] }

-- ---- One step of replacing

-- a character, where what it and the text behind it stand for is known
after_replacement : (ℕ → Category) → ℕ → List ℕ → Option (ℕ × ℕ) → Character
after_replacement cats c text None = alone cats c text
after_replacement cats c text (Some r) = after_code c (character cats r.0 (drop r.1 text))

of_one : (F : Option (ℕ × ℕ) → Character) (b : Bool) (r : ℕ × ℕ) → (if b then F (Some r) else F None) ≡ F (if b then Some r else None)
of_one F true r = refl
of_one F false r = refl

of_two : (F : Option (ℕ × ℕ) → Character) (b d : Bool) (r s : ℕ × ℕ) → (if b then F (Some r) else if d then F (Some s) else F None) ≡ F (if b then Some r else if d then Some s else None)
of_two F true d r s = refl
of_two F false true r s = refl
of_two F false false r s = refl

step_by : (cats : ℕ → Category) (c : ℕ) (text : List ℕ) (b : Bool) → is_superscript (cats c) ≡ b → character cats c text ≡ after_replacement cats c text (replacement (cats c) c text)
unfolding character after_replacement
step_by cats c [] true e = rw e refl
step_by cats c [] false e = rw e refl
step_by cats c (d ∷ []) true e = rw e refl
step_by cats c (d ∷ []) false e = rw e refl
step_by cats c (d ∷ a ∷ []) false e = rw e refl
step_by cats c (d ∷ a ∷ []) true e = rw e (of_one (after_replacement cats c (d ∷ a ∷ [])) ((d == c) && nat_lt a 128) (shifted a, 2))
step_by cats c (d ∷ a ∷ x ∷ rest) false e = rw e refl
step_by cats c (d ∷ a ∷ x ∷ rest) true e = rw e (of_two (after_replacement cats c (d ∷ a ∷ x ∷ rest)) ((d == c) && (is_hexadecimal a && is_hexadecimal x)) ((d == c) && nat_lt a 128) (code_of_digits a x, 3) (shifted a, 2))

step : (cats : ℕ → Category) (c : ℕ) (text : List ℕ) → character cats c text ≡ after_replacement cats c text (replacement (cats c) c text)
step cats c text = step_by cats c text (is_superscript (cats c)) refl

-- where nothing is replaced, the character stands alone
pub stands_alone : (cats : ℕ → Category) (c : ℕ) (text : List ℕ) → replacement (cats c) c text ≡ None → character cats c text ≡ alone cats c text
unfolding after_replacement
stands_alone cats c text h = step cats c text ∙ ap (after_replacement cats c text) h

pub stands_for : (cats : ℕ → Category) (c : ℕ) (text : List ℕ) (code width : ℕ) → replacement (cats c) c text ≡ Some (code, width) → character cats c text ≡ after_code c (character cats code (drop width text))
unfolding after_replacement
stands_for cats c text code width h = step cats c text ∙ ap (after_replacement cats c text) h

-- ---- All characters

if_at_most : (b : Bool) (e f : Character) (n : ℕ) → length e.rest ≤ n → length f.rest ≤ n → length (if b then e else f).rest ≤ n
if_at_most true e f n h k = h
if_at_most false e f n h k = k

rest_at_most : (cats : ℕ → Category) (c : ℕ) (text : List ℕ) → length (character cats c text).rest ≤ length text
unfolding character
rest_at_most cats c [] = omega arith
rest_at_most cats c (d ∷ []) = omega arith
rest_at_most cats c (d ∷ a ∷ []) =
    let short : length (character cats (shifted a) []).rest ≤ 2 = omega (arith, rest_at_most cats (shifted a) []) in
    let all : length (d ∷ a ∷ []) ≤ 2 = omega arith in
    if_at_most (are_marks cats c d && nat_lt a 128) (after_code c (character cats (shifted a) [])) (alone cats c (d ∷ a ∷ [])) 2 short all
rest_at_most cats c (d ∷ a ∷ x ∷ rest) =
    let n = length (d ∷ a ∷ x ∷ rest) in
    let by_digits : length (character cats (code_of_digits a x) rest).rest ≤ length (d ∷ a ∷ x ∷ rest) = omega (arith, rest_at_most cats (code_of_digits a x) rest) in
    let by_one : length (character cats (shifted a) (x ∷ rest)).rest ≤ length (d ∷ a ∷ x ∷ rest) = omega (arith, rest_at_most cats (shifted a) (x ∷ rest)) in
    let all : length (d ∷ a ∷ x ∷ rest) ≤ length (d ∷ a ∷ x ∷ rest) = omega arith in
    if_at_most (are_marks cats c d && (is_hexadecimal a && is_hexadecimal x)) (after_code c (character cats (code_of_digits a x) rest))
    (if are_marks cats c d && nat_lt a 128 then after_code c (character cats (shifted a) (x ∷ rest)) else alone cats c (d ∷ a ∷ x ∷ rest)) n by_digits
    (if_at_most (are_marks cats c d && nat_lt a 128) (after_code c (character cats (shifted a) (x ∷ rest))) (alone cats c (d ∷ a ∷ x ∷ rest)) n by_one all)

-- as many characters as there are bytes are all
enough : (n m : ℕ) (cats : ℕ → Category) (text : List ℕ) → length text ≤ n → length text ≤ m → first_characters n cats text ≡ first_characters m cats text
enough zero zero cats text h k = refl
enough zero (suc m) cats [] h k = refl
enough zero (suc m) cats (c ∷ text) h k = absurd (omega arith)
enough (suc n) zero cats [] h k = refl
enough (suc n) zero cats (c ∷ text) h k = absurd (omega arith)
enough (suc n) (suc m) cats [] h k = refl
enough (suc n) (suc m) cats (c ∷ text) h k =
    let e = character cats c text in
    let below : length e.rest ≤ n = omega (arith, rest_at_most cats c text) in
    let within : length e.rest ≤ m = omega (arith, rest_at_most cats c text) in
    ap (λ es. e ∷ es) (enough n m cats e.rest below within)

pub characters-none : (cats : ℕ → Category) → characters cats [] ≡ []
unfolding characters
characters-none cats = refl

characters-cons : (cats : ℕ → Category) (c : ℕ) (text : List ℕ) → characters cats (c ∷ text) ≡ character cats c text ∷ characters cats (character cats c text).rest
unfolding characters
characters-cons cats c text =
    let e = character cats c text in
    ap (λ es. e ∷ es) (enough (length text) (length e.rest) cats e.rest (rest_at_most cats c text) (omega arith))

pub characters-first : (cats : ℕ → Category) (text : List ℕ) → 0 < length text → characters cats text ≡ first_character cats text ∷ characters cats (first_character cats text).rest
characters-first cats [] h = absurd (omega arith)
characters-first cats (c ∷ text) h = characters-cons cats c text

-- ---- What is examined at a place of a line

-- at the beginning
pub first_at : (cats : ℕ → Category) (line : List ℕ) (at : ℕ) → at < length line → character cats (get_or line at 0) (drop (at + 1) line) ≡ first_character cats (drop at line)
first_at cats line at h = sym (ap (first_character cats) (drop_more line at 0 h))

-- where nothing more is replaced
-- what is seen, with the codes examined
seen-same : (first : Character) (cats : ℕ → Category) (code : ℕ) (category : Category) (after : ℕ) (line : List ℕ) → cats code ≡ category → seen (alone cats code (drop after line)) ≡ seen first
    → first ≡ character_of (record { code = code; category = category; after = after }) line first.examined
seen-same first cats code category after line is now =
    let with_codes : Character → Character = λ e. record e { examined = first.examined } in
    let made : Category → Character = λ k. record { code = code; category = k; rest = drop after line; examined = first.examined } in
    sym (ap with_codes now) ∙ ap made is

-- the slice behind a place is the text from there on
pub replacement-slice : (category : Category) (c : ℕ) (line : List ℕ) (after : ℕ) (r o : Option (ℕ × ℕ)) → r ≡ replacement category c (take (length line - after) (drop after line)) → r ≡ o → replacement category c (drop after line) ≡ o
replacement-slice category c line after r o is what = sym (ap (replacement category c) (take_rest line after)) ∙ sym is ∙ what

pub found : (cats : ℕ → Category) (line : List ℕ) (at code after : ℕ) (category : Category) → at < length line → cats code ≡ category
    → replacement category code (drop after line) ≡ None
    → seen (character cats code (drop after line)) ≡ seen (first_character cats (drop at line))
    → characters cats (drop at line) ≡ character_of (record { code = code; category = category; after = after }) line (first_character cats (drop at line)).examined ∷ characters cats (drop after line)
found cats line at code after category h is none same =
    let first = first_character cats (drop at line) in
    let long : 0 < length (drop at line) = omega (arith, length-drop at line) in
    let alone_here : character cats code (drop after line) ≡ alone cats code (drop after line) = stands_alone cats code (drop after line) (ap (λ k. replacement k code (drop after line)) is ∙ none) in
    let now : seen (alone cats code (drop after line)) ≡ seen first = ap seen (sym alone_here) ∙ same in
    let there : first ≡ character_of (record { code = code; category = category; after = after }) line first.examined = seen-same first cats code category after line is now in
    characters-first cats (drop at line) long ∙ ap (λ e. e ∷ characters cats e.rest) there

pub slice_within : (line : List ℕ) (after width : ℕ) → after ≤ length line → width ≤ length (take (length line - after) (drop after line)) → after + width ≤ length line
slice_within line after width h k = omega (arith, k, ap length (take_rest line after), length-drop after line)

-- the codes examined, where one more is
noted_then : (c : ℕ) (examined : List ℕ) (notes : Option Notes) → option_map (noted_codes examined) (option_map (noted (Cat c)) notes) ≡ option_map (noted_codes (c ∷ examined)) notes
noted_then c examined None = refl
noted_then c examined (Some n) = refl

-- the notes where nothing is replaced
pub noted_alone : (cats : ℕ → Category) (c : ℕ) (text : List ℕ) (category : Category) (notes : Option Notes) → cats c ≡ category → replacement category c text ≡ None
    → option_map (noted (Cat c)) notes ≡ option_map (noted_codes (character cats c text).examined) notes
noted_alone cats c text category notes is none =
    let here : character cats c text ≡ alone cats c text = stands_alone cats c text (ap (λ k. replacement k c text) is ∙ none) in
    sym (ap (λ e. option_map (noted_codes e.examined) notes) here)

-- and where something is
pub noted_replaced : (cats : ℕ → Category) (c : ℕ) (line : List ℕ) (after : ℕ) (category : Category) (code width : ℕ) (notes : Option Notes) → cats c ≡ category → replacement category c (drop after line) ≡ Some (code, width)
    → option_map (noted_codes (character cats code (drop (after + width) line)).examined) (option_map (noted (Cat c)) notes) ≡ option_map (noted_codes (character cats c (drop after line)).examined) notes
noted_replaced cats c line after category code width notes is there =
    let here : character cats c (drop after line) ≡ after_code c (character cats code (drop width (drop after line))) = stands_for cats c (drop after line) code width (ap (λ k. replacement k c (drop after line)) is ∙ there) in
    let next : drop width (drop after line) ≡ drop (after + width) line = drop-drop width after line in
    noted_then c (character cats code (drop (after + width) line)).examined notes
    ∙ sym (ap (λ e. option_map (noted_codes e.examined) notes) here ∙ ap (λ t. option_map (noted_codes (c ∷ (character cats code t).examined)) notes) next)

pub seen_replaced : (cats : ℕ → Category) (c : ℕ) (line : List ℕ) (after : ℕ) (category : Category) (code width : ℕ) → cats c ≡ category → replacement category c (drop after line) ≡ Some (code, width)
    → seen (character cats code (drop (after + width) line)) ≡ seen (character cats c (drop after line))
seen_replaced cats c line after category code width is there =
    let here : character cats c (drop after line) ≡ after_code c (character cats code (drop width (drop after line))) = stands_for cats c (drop after line) code width (ap (λ k. replacement k c (drop after line)) is ∙ there) in
    let next : drop width (drop after line) ≡ drop (after + width) line = drop-drop width after line in
    sym (ap seen here ∙ ap (λ t. seen (character cats code t)) next)
