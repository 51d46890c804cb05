-- Lines that are cut off a text.
use Rattle.std.proofs.Common.{◌≡◌, ℕ, zero, suc, ◌≤◌, ◌<◌, ◌+◌, ◌-◌, Bool, get_or, true, false, List, [], ◌∷◌, length, take, drop, refl, ap, sym, subst, ◌∙◌, arith}
use Rattle.std.specs.Prelude.{◌==◌, ◌&&◌, ◌||◌, if◌then◌else◌, Result, Ok, Err, IfOk}
use Rattle.std.proofs.lemmas.List.{drop_all, drop_more}
use Rattle.std.proofs.lemmas.Bool.{eqb-true, and_parts, or_parts}
use Rattle.lb_model.specs.Lines.{cut_at_feeds, onto, starts_with_byte, without_returns}
use Rattle.lb_model.specs.Tokens.{cut_lines}
use Rattle.lb_engine.specs.Segments.{width_of_lines}

-- ---- Lines and bytes

-- the rest of a text begins a line
lines-feed : (rest : List ℕ) → cut_lines (10 ∷ rest) ≡ [] ∷ cut_lines rest
unfolding cut_at_feeds without_returns
lines-feed rest = refl

lines-return : (rest : List ℕ) → cut_lines (13 ∷ 10 ∷ rest) ≡ cut_lines (10 ∷ rest)
unfolding cut_at_feeds without_returns
lines-return rest = refl

lines-more : (c : ℕ) (rest : List ℕ) → (c == 10) ≡ false → (c == 13 && starts_with_byte 10 rest) ≡ false → cut_lines (c ∷ rest) ≡ onto c (cut_lines rest)
unfolding cut_at_feeds without_returns
lines-more c rest e h = rw (h, e) refl

width-feed : (n : ℕ) (rest : List ℕ) → width_of_lines (suc n) (10 ∷ rest) ≡ suc (width_of_lines n rest)
unfolding width_of_lines
width-feed n rest = refl

width-more : (n c : ℕ) (rest : List ℕ) → (c == 10) ≡ false → width_of_lines (suc n) (c ∷ rest) ≡ suc (width_of_lines (suc n) rest)
unfolding width_of_lines
width-more n c rest e = rw e refl

-- what begins with no feed, cut off
and-false : (b : Bool) → (b && false) ≡ false
and-false true = refl
and-false false = refl

starts-taken : (b : Bool) (k : ℕ) (rest : List ℕ) → (b && starts_with_byte 10 rest) ≡ false → (b && starts_with_byte 10 (take k rest)) ≡ false
starts-taken b zero rest h = and-false b
starts-taken b (suc k) [] h = and-false b
starts-taken b (suc k) (d ∷ rest) h = h

take-onto : (c n : ℕ) (lines : List (List ℕ)) → take (suc n) (onto c lines) ≡ onto c (take (suc n) lines)
take-onto c zero [] = refl
take-onto c (suc n) [] = refl
take-onto c n (line ∷ lines) = refl

abbrev no-lines : List (List ℕ)
no-lines = []

drop-none : (n : ℕ) → drop n no-lines ≡ []
drop-none zero = refl
drop-none (suc n) = refl

drop-onto : (c n : ℕ) (lines : List (List ℕ)) → drop (suc n) (onto c lines) ≡ drop (suc n) lines
drop-onto c n [] = drop-none n
drop-onto c n (line ∷ lines) = refl

-- ---- Lines that are taken, and those that are left

pub record Cut (n k : ℕ) (text : List ℕ) : Type 0 where
  pub taken : cut_lines (take k text) ≡ take n (cut_lines text)
  pub left : cut_lines (drop k text) ≡ drop n (cut_lines text)
  pub within : k ≤ length text

at-feed : (n k : ℕ) (rest : List ℕ) → Cut n k rest → Cut (suc n) (suc k) (10 ∷ rest)
at-feed n k rest f =
    record {
      taken = lines-feed (take k rest) ∙ ap (λ x. [] ∷ x) f.taken ∙ sym (ap (take (suc n)) (lines-feed rest));
      left = f.left ∙ sym (ap (drop (suc n)) (lines-feed rest));
      within = omega (arith, f.within);
    }

at-return : (n k : ℕ) (rest : List ℕ) → Cut (suc n) (suc k) (10 ∷ rest) → Cut (suc n) (suc (suc k)) (13 ∷ 10 ∷ rest)
at-return n k rest f =
    record {
      taken = lines-return (take k rest) ∙ f.taken ∙ sym (ap (take (suc n)) (lines-return rest));
      left = f.left ∙ sym (ap (drop (suc n)) (lines-return rest));
      within = omega (arith, f.within);
    }

at-more : (n k c : ℕ) (rest : List ℕ) → (c == 10) ≡ false → (c == 13 && starts_with_byte 10 rest) ≡ false → Cut (suc n) k rest → Cut (suc n) (suc k) (c ∷ rest)
at-more n k c rest e h f =
    record {
      taken = lines-more c (take k rest) e (starts-taken (c == 13) k rest h) ∙ ap (onto c) f.taken ∙ sym (take-onto c n (cut_lines rest))
          ∙ sym (ap (take (suc n)) (lines-more c rest e h));
      left = f.left ∙ sym (drop-onto c n (cut_lines rest)) ∙ sym (ap (drop (suc n)) (lines-more c rest e h));
      within = omega (arith, f.within);
    }

-- a feed behind a return
behind-return : (n c : ℕ) (rest : List ℕ) → (c == 13) ≡ true → starts_with_byte 10 rest ≡ true → Cut (suc n) (width_of_lines (suc n) rest) rest → Cut (suc n) (suc (width_of_lines (suc n) rest)) (c ∷ rest)
behind-return n c [] e h f = cc
behind-return n c (d ∷ rest) e h f =
    let feed : d ≡ 10 = eqb-true d 10 h in
    let return : c ≡ 13 = eqb-true c 13 e in
    subst (λ (x : ℕ). Cut (suc n) (suc (width_of_lines (suc n) (d ∷ rest))) (x ∷ d ∷ rest)) (sym return)
    (
    subst (λ (x : ℕ). Cut (suc n) (width_of_lines (suc n) (x ∷ rest)) (x ∷ rest) → Cut (suc n) (suc (width_of_lines (suc n) (x ∷ rest))) (13 ∷ x ∷ rest)) (sym feed)
    (
    subst (λ (w : ℕ). Cut (suc n) w (10 ∷ rest) → Cut (suc n) (suc w) (13 ∷ 10 ∷ rest)) (sym (width-feed n rest)) (at-return n (width_of_lines n rest) rest)
    )
    f
    )

by-return : (n c : ℕ) (rest : List ℕ) (b : Bool) → (c == 10) ≡ false → (c == 13 && starts_with_byte 10 rest) ≡ b → Cut (suc n) (width_of_lines (suc n) rest) rest → Cut (suc n) (suc (width_of_lines (suc n) rest)) (c ∷ rest)
by-return n c rest true e h f =
    let p = and_parts (c == 13) (starts_with_byte 10 rest) h in
    behind-return n c rest p.0 p.1 f
by-return n c rest false e h f = at-more n (width_of_lines (suc n) rest) c rest e h f

by-feed : (n c : ℕ) (rest : List ℕ) (b : Bool) → (c == 10) ≡ b → Cut n (width_of_lines n rest) rest → Cut (suc n) (width_of_lines (suc n) rest) rest → Cut (suc n) (width_of_lines (suc n) (c ∷ rest)) (c ∷ rest)
by-feed n c rest true e f g =
    let feed : c ≡ 10 = eqb-true c 10 e in
    subst (λ (x : ℕ). Cut (suc n) (width_of_lines (suc n) (x ∷ rest)) (x ∷ rest)) (sym feed)
    (subst (λ (w : ℕ). Cut (suc n) w (10 ∷ rest)) (sym (width-feed n rest)) (at-feed n (width_of_lines n rest) rest f))
by-feed n c rest false e f g =
    subst (λ (w : ℕ). Cut (suc n) w (c ∷ rest)) (sym (width-more n c rest e)) (by-return n c rest (c == 13 && starts_with_byte 10 rest) e refl g)

none-in : cut_lines [] ≡ []
unfolding cut_at_feeds without_returns
none-in = refl

take-none : (n : ℕ) → take n no-lines ≡ []
take-none zero = refl
take-none (suc n) = refl

cut-none : (n : ℕ) → Cut n 0 []
cut-none n =
    record { taken = none-in ∙ sym (take-none n) ∙ sym (ap (take n) none-in); left = none-in ∙ sym (drop-none n) ∙ sym (ap (drop n) none-in); within = omega arith }

pub lines-cut : (n : ℕ) (text : List ℕ) → Cut n (width_of_lines n text) text
unfolding width_of_lines
lines-cut zero text = record { taken = none-in; left = refl; within = omega arith }
lines-cut (suc n) [] = cut-none (suc n)
lines-cut (suc n) (c ∷ text) = by-feed n c text (c == 10) refl (lines-cut n text) (lines-cut (suc n) text)

-- ---- Line by line

pub width_none : (text : List ℕ) → width_of_lines 0 text ≡ 0
unfolding width_of_lines
width_none text = refl

width-empty : (n : ℕ) → width_of_lines n [] ≡ 0
unfolding width_of_lines
width-empty zero = refl
width-empty (suc n) = refl

pub width_past : (n at : ℕ) (text : List ℕ) → length text ≤ at → width_of_lines n (drop at text) ≡ 0
width_past n at text h = ap (width_of_lines n) (drop_all at text h) ∙ width-empty n

one-less : (n : ℕ) → suc n - 1 ≡ n
one-less n = omega arith

step-feed : (n c : ℕ) (rest : List ℕ) → 0 < n → c ≡ 10 → width_of_lines n (c ∷ rest) ≡ 1 + width_of_lines (n - 1) rest
step-feed zero c rest h e = absurd (omega (arith, h))
step-feed (suc n) c rest h e =
    omega (arith, ap (λ x. width_of_lines (suc n) (x ∷ rest)) e, width-feed n rest, ap (λ m. width_of_lines m rest) (one-less n))

step-other : (n c : ℕ) (rest : List ℕ) → 0 < n → (c == 10) ≡ false → width_of_lines n (c ∷ rest) ≡ 1 + width_of_lines n rest
step-other zero c rest h e = absurd (omega (arith, h))
step-other (suc n) c rest h e = omega (arith, width-more n c rest e)

not-feed : (c : ℕ) (b : Bool) → (c == 10) ≡ b → (c ≡ 10 → ⊥) → (c == 10) ≡ false
not-feed c true e h = absurd (h (eqb-true c 10 e))
not-feed c false e h = e

-- so many bytes are before, and with a byte more
pub width_feed_at : (w n left at : ℕ) (text : List ℕ) → w ≡ at + width_of_lines n (drop at text) → (n ≡ 0 → ⊥) → at < length text → get_or text at 0 ≡ 10 → left ≡ n - 1
    → w ≡ at + 1 + width_of_lines left (drop (at + 1) text)
width_feed_at w n left at text is some h e less =
    omega
    (arith, is, ap (width_of_lines n) (drop_more text at 0 h), step-feed n (get_or text at 0) (drop (at + 1) text) (omega (arith, some)) e, ap (λ m. width_of_lines m (drop (at + 1) text)) less)

pub width_other_at : (w n left at : ℕ) (text : List ℕ) → w ≡ at + width_of_lines n (drop at text) → (n ≡ 0 → ⊥) → at < length text → (get_or text at 0 ≡ 10 → ⊥) → left ≡ n
    → w ≡ at + 1 + width_of_lines left (drop (at + 1) text)
width_other_at w n left at text is some h e same =
    omega (
      arith,
      is,
      ap (width_of_lines n) (drop_more text at 0 h),
      step-other n (get_or text at 0) (drop (at + 1) text) (omega (arith, some)) (not-feed (get_or text at 0) (get_or text at 0 == 10) refl e),
      ap (λ m. width_of_lines m (drop (at + 1) text)) same,
    )

-- ---- How many lines

pub lines-none : (rest : List ℕ) → length rest ≤ 0 → length (cut_lines rest) ≡ 0
lines-none [] h = ap length none-in
lines-none (c ∷ rest) h = absurd (omega (arith, h))

-- a text that is one of these
pub cut-ok : {E : Type 0} (r : Result (List ℕ) E) (text : List ℕ) {lines : List (List ℕ)} → cut_lines text ≡ lines → IfOk r (λ b. b ≡ text) → IfOk r (λ b. cut_lines b ≡ lines)
cut-ok (Ok b) text e is = ap cut_lines is ∙ e
cut-ok (Err x) text e is = tt
