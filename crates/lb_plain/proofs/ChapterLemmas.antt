-- A chapter's lines, one after another.
use Rattle.std.proofs.Common.{◌≡◌, ℕ, suc, ◌+◌, ◌<◌, ◌≤◌, Bool, true, false, List, [], ◌∷◌, length, refl, ap, sym, ◌∙◌, arith, add-zero, zero-add, subst}
use Rattle.std.specs.Int.{from_bool}
use Rattle.std.proofs.Math.Dec.{eqb-suc-zero}
use Rattle.std.specs.Prelude.{◌==◌, ◌&&◌, ◌||◌, not, nat_le, nat_lt, if◌then◌else◌}
use Rattle.std.specs.List.{filter, list_all}
use Rattle.std.proofs.lemmas.Bool.{le-leb, lt-leb, le-ltb, both_ways, and_parts, ltb-true, ltb-false}
use Rattle.lb_model.specs.Lines.{lines_of, is_empty, cut_at_feeds, without_returns}
use Rattle.lb_model_book.specs.PlainForm.{is_plain_text, is_plain_line, are_apart, lines_with_text, is_spaced}
use Rattle.lb_plain.specs.Parts.{is_allowed}

-- whether lines may stand behind a line with text or none, and so many lines with text
unfoldable pub fits : Bool → ℕ → List (List ℕ) → Bool
fits behind n [] = true
fits behind n (line ∷ rest) = is_allowed line behind n && fits (not (is_empty line)) (n + (if is_empty line then 0 else 1)) rest

apart : Bool → List (List ℕ) → Bool
apart behind [] = true
apart behind (line ∷ rest) = (is_empty line || not behind) && apart (not (is_empty line)) rest

has_text : List ℕ → Bool
has_text line = not (is_empty line)

count_text : List (List ℕ) → ℕ
count_text lines = length (filter has_text lines)

whole : Bool → ℕ → List (List ℕ) → Bool
whole behind n lines = nat_le (n + count_text lines) 40 && (list_all is_plain_line lines && apart behind lines)

and-false : (x : Bool) → (x && false) ≡ false
and-false true = refl
and-false false = refl

-- p: the line is plain; q: no line with text before it; m: there is room; s and a: the lines after it are plain, and apart
shuffled : (p q m s a : Bool) → ((p && q) && (m && (s && a))) ≡ (m && ((p && s) && (q && a)))
shuffled true true m s a = refl
shuffled true false true s a = sym (and-false s)
shuffled true false false s a = refl
shuffled false q true s a = refl
shuffled false q false s a = refl

and-true : (x : Bool) → (x && true) ≡ x
and-true true = refl
and-true false = refl

or-true : (x : Bool) → (x || true) ≡ true
or-true true = refl
or-true false = refl

no_room : (p q s a : Bool) (m : ℕ) (n : ℕ) → 40 ≤ n → ((p && (q && nat_lt n 40)) && s) ≡ (nat_le (n + suc m) 40 && a)
no_room p q s a m n full =
    ap (λ b. (p && (q && b)) && s) (le-ltb n 40 full) ∙ ap (λ b. (p && b) && s) (and-false q) ∙ ap (λ b. b && s) (and-false p)
    ∙ sym (ap (λ b. b && a) (lt-leb (n + suc m) 40 (omega arith)))

Same : List (List ℕ) → Bool → ℕ → Type 0
Same lines behind n = fits behind n lines ≡ whole behind n lines

with_empty : (rest : List (List ℕ)) (behind : Bool) (n : ℕ) → Same rest false n → Same ([] ∷ rest) behind n
unfolding fits whole apart count_text has_text is_spaced Same
with_empty rest behind n ih = ap (λ k. fits false k rest) (add-zero n) ∙ ih

with_text : (c : ℕ) (line : List ℕ) (rest : List (List ℕ)) (behind : Bool) (n : ℕ) (b : Bool) → nat_lt n 40 ≡ b → n ≤ 40 → (n + 1 ≤ 40 → Same rest true (n + 1)) → Same ((c ∷ line) ∷ rest) behind n
unfolding fits whole apart count_text has_text Same
with_text c line rest behind n true e few ih =
    let room : n + 1 ≤ 40 = omega (arith, ltb-true n 40 e) in
    let more : n + 1 + count_text rest ≡ n + suc (count_text rest) = omega arith in
    ap (λ b. (is_plain_line (c ∷ line) && (not behind && b)) && fits true (n + 1) rest) e
    ∙ ap (λ b. (is_plain_line (c ∷ line) && b) && fits true (n + 1) rest) (and-true (not behind))
    ∙ ap (λ b. (is_plain_line (c ∷ line) && not behind) && b) (ih room)
    ∙ shuffled (is_plain_line (c ∷ line)) (not behind) (nat_le (n + 1 + count_text rest) 40) (list_all is_plain_line rest) (apart true rest)
    ∙ ap (λ k. nat_le k 40 && ((is_plain_line (c ∷ line) && list_all is_plain_line rest) && (not behind && apart true rest))) more
with_text c line rest behind n false e few ih = no_room (is_plain_line (c ∷ line)) (not behind) (fits true (n + 1) rest) ((is_plain_line (c ∷ line) && list_all is_plain_line rest) && (not behind && apart true rest)) (count_text rest) n (ltb-false n 40 e)

none : (behind : Bool) (n : ℕ) → n ≤ 40 → Same [] behind n
unfolding fits whole apart count_text has_text Same
none behind n few = sym (ap (λ b. b && true) (le-leb (n + 0) 40 (omega arith)))

fits-whole : (lines : List (List ℕ)) (behind : Bool) (n : ℕ) → n ≤ 40 → Same lines behind n
fits-whole [] behind n few = none behind n few
fits-whole ([] ∷ rest) behind n few = with_empty rest behind n (fits-whole rest false n few)
fits-whole ((c ∷ line) ∷ rest) behind n few = with_text c line rest behind n (nat_lt n 40) refl few (fits-whole rest true (n + 1))

not-not : (b : Bool) → not (not b) ≡ b
not-not true = refl
not-not false = refl

apart-from : (line : List ℕ) (rest : List (List ℕ)) → are_apart (line ∷ rest) ≡ apart (not (is_empty line)) rest
unfolding are_apart apart
apart-from line [] = refl
apart-from line (next ∷ rest) = ap (λ b. (is_empty line || is_empty next) && b) (apart-from next rest) ∙ ap (λ b. b && apart (not (is_empty next)) rest) (either (is_empty line) (is_empty next)) where
  either : (a b : Bool) → (a || b) ≡ (b || not (not a))
  either true true = refl
  either true false = refl
  either false true = refl
  either false false = refl

apart-first : (lines : List (List ℕ)) → apart false lines ≡ are_apart lines
unfolding are_apart apart
apart-first [] = refl
apart-first (line ∷ rest) = ap (λ b. b && apart (not (is_empty line)) rest) (or-true (is_empty line)) ∙ sym (apart-from line rest)

pub plain : (text : List ℕ) → fits false 0 (lines_of text) ≡ is_plain_text text
unfolding whole count_text has_text lines_with_text Same
plain text =
    fits-whole (lines_of text) false 0 (omega arith)
    ∙ ap (λ k. nat_le k 40 && (list_all is_plain_line (lines_of text) && apart false (lines_of text))) (zero-add (length (lines_with_text text)))
    ∙ ap (λ b. nat_le (length (lines_with_text text)) 40 && (list_all is_plain_line (lines_of text) && b)) (apart-first (lines_of text))

pub empty-length : (line : List ℕ) → is_empty line ≡ (length line == 0)
empty-length [] = refl
empty-length (c ∷ line) = sym (eqb-suc-zero (length line))

pub no_bytes : (text : List ℕ) → (length text == 0) ≡ true → text ≡ []
no_bytes [] h = refl
no_bytes (c ∷ text) h = absurd (both_ways (suc (length text) == 0) (eqb-suc-zero (length text)) h)

pub lines-none : lines_of [] ≡ []
unfolding lines_of cut_at_feeds without_returns
lines-none = refl

pub fits-none : (behind : Bool) (n : ℕ) (text : List ℕ) → (length text == 0) ≡ true → true ≡ fits behind n (lines_of text)
unfolding fits
fits-none behind n text h = sym (ap (λ t. fits behind n (lines_of t)) (no_bytes text h) ∙ ap (fits behind n) lines-none)

pub fits-stop : (behind : Bool) (n : ℕ) (lines : List (List ℕ)) (line : List ℕ) (rest : List (List ℕ)) → lines ≡ line ∷ rest → is_allowed line behind n ≡ false → false ≡ fits behind n lines
unfolding fits
fits-stop behind n lines line rest e h = sym (ap (fits behind n) e ∙ ap (λ b. b && fits (not (is_empty line)) (n + (if is_empty line then 0 else 1)) rest) h)

flipped : (b : Bool) → from_bool (not b) ≡ (if b then 0 else 1)
flipped true = refl
flipped false = refl

pub fits-more : (behind : Bool) (n : ℕ) (lines : List (List ℕ)) (line : List ℕ) (rest : List (List ℕ)) → lines ≡ line ∷ rest → is_allowed line behind n ≡ true
    → (empty : Bool) (one : ℕ) → empty ≡ (length line == 0) → one ≡ from_bool (not empty) → fits (not empty) (n + one) rest ≡ fits behind n lines
unfolding fits
fits-more behind n lines line rest e h empty one same is =
    let at : is_empty line ≡ empty = empty-length line ∙ sym same in
    sym (
    ap (fits behind n) e
    ∙ ap (λ b. b && fits (not (is_empty line)) (n + (if is_empty line then 0 else 1)) rest) h
    ∙ ap (λ b. fits (not b) (n + (if b then 0 else 1)) rest) at
    ∙ ap (λ k. fits (not empty) (n + k) rest) (sym (is ∙ flipped empty))
    )

room : (n : ℕ) (p e q : Bool) → (p && (e || (q && nat_lt n 40))) ≡ true → n ≤ 40 → n + from_bool (not e) ≤ 40
room n p true q h few = omega (arith, add-zero n)
room n p false q h few =
    let a = and_parts p (q && nat_lt n 40) h in
    let b = and_parts q (nat_lt n 40) a.1 in
    let less : n < 40 = ltb-true n 40 b.1 in
    omega arith

pub few-more : (behind : Bool) (n : ℕ) (line : List ℕ) → n ≤ 40 → is_allowed line behind n ≡ true → (empty : Bool) (one : ℕ) → empty ≡ (length line == 0) → one ≡ from_bool (not empty) → n + one ≤ 40
few-more behind n line few h empty one same is =
    let at : is_empty line ≡ empty = empty-length line ∙ sym same in
    let less : n + from_bool (not (is_empty line)) ≤ 40 = room n (is_plain_line line) (is_empty line) (not behind) h few in
    let P : ℕ → Type 0 = λ k. n + k ≤ 40 in
    subst P (ap (λ b. from_bool (not b)) at ∙ sym is) less
