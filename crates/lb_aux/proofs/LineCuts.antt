-- The first line of a text, and the text behind it.
use Rattle.std.proofs.Common.{◌≡◌, ◌∙◌, ◌+◌, ◌<◌, ◌≤◌, Bool, true, false, ℕ, suc, List, [], ◌∷◌, refl, ap, sym, take, drop, length, map, arith}
use Rattle.std.specs.Prelude.{◌==◌}
use Rattle.std.specs.List.{after_first, before_first, position_or_len}
use Rattle.std.proofs.lemmas.List.{drop_all}
use Rattle.lb_model.specs.Lines.{cut_at_feeds, onto}
use Rattle.lb_model_aux.specs.Forms.{without_ending}
use Rattle.lb_model_aux.specs.Reading.{lines_of}
use Rattle.lb_aux.specs.Parts.{is_feed}

abbrev Cut : List ℕ → Type 0
Cut text = cut_at_feeds text ≡ before_first is_feed text ∷ cut_at_feeds (after_first is_feed text)

take-one : (n c : ℕ) (l : List ℕ) → take (1 + n) (c ∷ l) ≡ c ∷ take n l
take-one n c l = ap (λ k. take k (c ∷ l)) (one n) where
  one : (n : ℕ) → 1 + n ≡ suc n
  one n = omega arith

drop-one : (n c : ℕ) (l : List ℕ) → drop (1 + n + 1) (c ∷ l) ≡ drop (n + 1) l
drop-one n c l = ap (λ k. drop k (c ∷ l)) (one n) where
  one : (n : ℕ) → 1 + n + 1 ≡ suc (n + 1)
  one n = omega arith

more : (c : ℕ) (rest : List ℕ) → (c == 10) ≡ false → (0 < length rest → Cut rest) → Cut (c ∷ rest)
unfolding cut_at_feeds
more c [] e ih = rw e refl
more c (d ∷ rest) e ih =
    let l = d ∷ rest in
    let n = position_or_len is_feed l in
    let later : onto c (cut_at_feeds l) ≡ take (1 + n) (c ∷ l) ∷ cut_at_feeds (drop (1 + n + 1) (c ∷ l)) =
    ap (onto c) (ih (omega arith))
    ∙ sym (ap (λ x. x ∷ cut_at_feeds (drop (1 + n + 1) (c ∷ l))) (take-one n c l) ∙ ap (λ x. (c ∷ take n l) ∷ cut_at_feeds x) (drop-one n c l)) in
    rw e later

cutting : (text : List ℕ) → 0 < length text → Cut text
unfolding cut_at_feeds
cutting [] h = absurd (omega arith)
cutting (c ∷ rest) h = by (c == 10) refl (cutting rest) where
  by : (b : Bool) → (c == 10) ≡ b → (0 < length rest → Cut rest) → Cut (c ∷ rest)
  by true e ih = rw e refl
  by false e ih = more c rest e ih

pub first-of-lines : (text : List ℕ) → 0 < length text → lines_of text ≡ without_ending (13 ∷ []) (before_first is_feed text) ∷ lines_of (after_first is_feed text)
unfolding lines_of
first-of-lines text h = ap (map (without_ending (13 ∷ []))) (cutting text h)

-- the same by the place of the first line feed, where there is one, and where there is none
pub first-ended : (text : List ℕ) (end : ℕ) → 0 < length text → end ≡ position_or_len is_feed text
    → lines_of text ≡ without_ending (13 ∷ []) (take end text) ∷ lines_of (drop (end + 1) text)
first-ended text end h e = first-of-lines text h ∙ sym (ap (λ n. without_ending (13 ∷ []) (take n text) ∷ lines_of (drop (n + 1) text)) e)

pub first-open : (text : List ℕ) (end : ℕ) → 0 < length text → end ≡ position_or_len is_feed text → length text ≤ end
    → lines_of text ≡ without_ending (13 ∷ []) (take end text) ∷ lines_of []
first-open text end h e l = first-ended text end h e ∙ ap (λ r. without_ending (13 ∷ []) (take end text) ∷ lines_of r) (drop_all (end + 1) text (omega (arith, l)))
