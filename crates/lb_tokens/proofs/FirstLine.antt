-- The first line of a text and what follows it.
use Rattle.std.proofs.Common.{◌≡◌, ℕ, ◌+◌, ◌<◌, ◌≤◌, Bool, true, false, List, [], ◌∷◌, ◌++◌, length, take, drop, map, refl, ap, sym, subst, ◌∙◌, arith, append_assoc, append-nil, length-drop, take_all}
use Rattle.std.proofs.lemmas.List.{drop_all}
use Rattle.std.specs.Prelude.{◌==◌, ◌&&◌, ◌||◌, if◌then◌else◌}
use Rattle.std.proofs.lemmas.Bool.{eqb-true, and_parts, or_parts}
use Rattle.std.proofs.Math.Seq.{take-add, drop-drop}
use Rattle.lb_model.specs.Lines.{lines_of, trimmed, cut_at_feeds, without_returns, onto, starts_with_byte}
use Rattle.lb_model.specs.Tokens.{cut_lines}
use Rattle.lb_tokens.specs.Parts.{is_at_end, after_end}

-- the first line with the spaces at its end, and the text behind it
unfoldable pub head_of : List ℕ → List ℕ
head_of [] = []
head_of (c ∷ rest) = if is_at_end (c ∷ rest) then [] else c ∷ head_of rest

unfoldable pub tail_of : List ℕ → List ℕ
tail_of [] = []
tail_of (c ∷ rest) = if is_at_end (c ∷ rest) then after_end (c ∷ rest) else tail_of rest

abbrev Goal : List ℕ → Type 0
Goal text = cut_lines text ≡ head_of text ∷ cut_lines (tail_of text)

at_feed : (rest : List ℕ) → Goal (10 ∷ rest)
unfolding head_of tail_of cut_at_feeds without_returns
at_feed rest = refl

at_return : (rest : List ℕ) → starts_with_byte 10 rest ≡ true → Goal (13 ∷ rest)
unfolding head_of tail_of cut_at_feeds without_returns
at_return [] h = cc
at_return (d ∷ rest) h = let e : d ≡ 10 = eqb-true d 10 h in subst (λ (x : ℕ). Goal (13 ∷ x ∷ rest)) (sym e) refl

lines-more : (c : ℕ) (rest : List ℕ) → is_at_end (c ∷ rest) ≡ false → cut_lines (c ∷ rest) ≡ onto c (cut_lines rest)
unfolding cut_at_feeds without_returns
lines-more c rest h =
    let p = or_parts (c == 10) (c == 13 && starts_with_byte 10 rest) h in
    rw (p.1, p.0) refl

head-more : (c : ℕ) (rest : List ℕ) → is_at_end (c ∷ rest) ≡ false → head_of (c ∷ rest) ≡ c ∷ head_of rest
unfolding head_of
head-more c rest h = rw h refl

tail-more : (c : ℕ) (rest : List ℕ) → is_at_end (c ∷ rest) ≡ false → tail_of (c ∷ rest) ≡ tail_of rest
unfolding tail_of
tail-more c rest h = rw h refl

last_byte : (c : ℕ) → onto c (cut_lines []) ≡ (c ∷ head_of []) ∷ cut_lines (tail_of [])
unfolding head_of tail_of cut_at_feeds without_returns
last_byte c = refl

more : (c : ℕ) (rest : List ℕ) → (0 < length rest → Goal rest) → is_at_end (c ∷ rest) ≡ false → Goal (c ∷ rest)
more c [] ih h = lines-more c [] h ∙ last_byte c ∙ sym (ap (λ x. x ∷ cut_lines (tail_of (c ∷ []))) (head-more c [] h) ∙ ap (λ t. (c ∷ head_of []) ∷ cut_lines t) (tail-more c [] h))
more c (d ∷ rest) ih h =
    lines-more c (d ∷ rest) h ∙ ap (onto c) (ih (omega arith))
    ∙ sym (ap (λ x. x ∷ cut_lines (tail_of (c ∷ d ∷ rest))) (head-more c (d ∷ rest) h) ∙ ap (λ t. (c ∷ head_of (d ∷ rest)) ∷ cut_lines t) (tail-more c (d ∷ rest) h))

by_return : (c : ℕ) (rest : List ℕ) → (c == 13 && starts_with_byte 10 rest) ≡ true → Goal (c ∷ rest)
by_return c rest h =
    let p = and_parts (c == 13) (starts_with_byte 10 rest) h in
    let e : c ≡ 13 = eqb-true c 13 p.0 in
    subst (λ (x : ℕ). Goal (x ∷ rest)) (sym e) (at_return rest p.1)

by_feed : (c : ℕ) (rest : List ℕ) → (c == 10) ≡ true → Goal (c ∷ rest)
by_feed c rest h = let e : c ≡ 10 = eqb-true c 10 h in subst (λ (x : ℕ). Goal (x ∷ rest)) (sym e) (at_feed rest)

at_end : (c : ℕ) (rest : List ℕ) (b : Bool) → (c == 10) ≡ b → is_at_end (c ∷ rest) ≡ true → Goal (c ∷ rest)
at_end c rest true e h = by_feed c rest e
at_end c rest false e h = by_return c rest (rw e at h)

cases : (c : ℕ) (rest : List ℕ) (b : Bool) → is_at_end (c ∷ rest) ≡ b → (0 < length rest → Goal rest) → Goal (c ∷ rest)
cases c rest true e ih = at_end c rest (c == 10) refl e
cases c rest false e ih = more c rest ih e

first : (text : List ℕ) → 0 < length text → Goal text
first [] h = absurd (omega arith)
first (c ∷ rest) h = cases c rest (is_at_end (c ∷ rest)) refl (first rest)

pub first_line : (text : List ℕ) → 0 < length text → lines_of text ≡ trimmed (head_of text) ∷ lines_of (tail_of text)
unfolding lines_of
first_line text h = ap (map trimmed) (first text h)

-- where a line does not end yet, and where it does
pub record Further (text : List ℕ) (end : ℕ) : Type 0 where
  pub head : head_of text ≡ take end text ++ head_of (drop end text)
  pub tail : tail_of text ≡ tail_of (drop end text)

one_more : (text : List ℕ) → is_at_end text ≡ false → Further text 1
one_more [] h = cc
one_more (c ∷ rest) h = record { head = head-more c rest h; tail = tail-more c rest h }

pub further-none : (text : List ℕ) → Further text 0
further-none text = record { head = refl; tail = refl }

pub further-more : (text : List ℕ) (end : ℕ) → Further text end → is_at_end (drop end text) ≡ false → Further text (end + 1)
further-more text end f h =
    let g = one_more (drop end text) h in
    let t : take (end + 1) text ≡ take end text ++ take 1 (drop end text) = take-add end 1 text in
    let d : drop 1 (drop end text) ≡ drop (end + 1) text = drop-drop 1 end text in
    record {
      head = f.head ∙ ap (λ x. take end text ++ x) g.head ∙ sym (append_assoc (take end text) (take 1 (drop end text)) (head_of (drop 1 (drop end text)))) ∙ ap (λ x. x ++ head_of (drop 1 (drop end text))) (sym t) ∙ ap (λ x. take (end + 1) text ++ head_of x) d;
      tail = f.tail ∙ g.tail ∙ ap tail_of d;
    }

head-end : (text : List ℕ) → is_at_end text ≡ true → head_of text ≡ []
unfolding head_of
head-end [] h = refl
head-end (c ∷ rest) h = rw h refl

tail-end : (text : List ℕ) → is_at_end text ≡ true → tail_of text ≡ after_end text
unfolding tail_of
tail-end [] h = refl
tail-end (c ∷ rest) h = rw h refl

pub line_ends : (text : List ℕ) (end : ℕ) → 0 < length text → Further text end → is_at_end (drop end text) ≡ true → cut_lines text ≡ take end text ∷ cut_lines (after_end (drop end text))
line_ends text end long f h =
    let head : head_of text ≡ take end text = f.head ∙ ap (λ x. take end text ++ x) (head-end (drop end text) h) ∙ append-nil (take end text) in
    let tail : tail_of text ≡ after_end (drop end text) = f.tail ∙ tail-end (drop end text) h in
    first text long ∙ ap (λ x. x ∷ cut_lines (tail_of text)) head ∙ ap (λ x. take end text ∷ cut_lines x) tail

by_two : (c : ℕ) (rest : List ℕ) (b : Bool) → (c == 13 && starts_with_byte 10 rest) ≡ b → b ≡ true → length (if b then drop 1 rest else c ∷ rest) < length (c ∷ rest)
by_two c rest true e h = omega (arith, length-drop 1 rest)
by_two c rest false e h = cc

by_one : (c : ℕ) (rest : List ℕ) (b : Bool) → (b || (c == 13 && starts_with_byte 10 rest)) ≡ true → length (if b then rest else if c == 13 && starts_with_byte 10 rest then drop 1 rest else c ∷ rest) < length (c ∷ rest)
by_one c rest true h = omega arith
by_one c rest false h = by_two c rest (c == 13 && starts_with_byte 10 rest) refl h

after_end-lt : (text : List ℕ) → 0 < length text → is_at_end text ≡ true → length (after_end text) < length text
after_end-lt [] long h = absurd (omega arith)
after_end-lt (c ∷ rest) long h = by_one c rest (c == 10) h

pub rest_shorter : (text : List ℕ) (end : ℕ) → end < length text → is_at_end (drop end text) ≡ true → length (after_end (drop end text)) < length text
rest_shorter text end inside h =
    let long : 0 < length (drop end text) = omega (arith, length-drop end text) in
    let less : length (after_end (drop end text)) < length (drop end text) = after_end-lt (drop end text) long h in
    omega (arith, length-drop end text)

pub whole_line : (text : List ℕ) (end : ℕ) → 0 < length text → length text ≤ end → Further text end → cut_lines text ≡ text ∷ cut_lines []
whole_line text end long past f =
    let none : drop end text ≡ [] = drop_all end text past in
    let all : take end text ≡ text = take_all end text past in
    let ends : is_at_end (drop end text) ≡ true = ap is_at_end none in
    line_ends text end long f ends ∙ ap (λ x. x ∷ cut_lines (after_end (drop end text))) all ∙ ap (λ x. text ∷ cut_lines (after_end x)) none

nothing_left : cut_lines [] ≡ []
unfolding cut_at_feeds without_returns
nothing_left = refl

pub none_in : (text : List ℕ) → (length text == 0) ≡ true → cut_lines text ≡ []
none_in [] h = nothing_left
none_in (c ∷ rest) h = absurd (omega (arith, eqb-true (length (c ∷ rest)) 0 h))
