-- The marks of a row, one character after another.
use Rattle.std.proofs.Common.{◌≡◌, ℕ, suc, ◌+◌, ◌*◌, ◌<◌, ◌≤◌, List, [], ◌∷◌, ◌++◌, length, take, drop, get_or, refl, ap, sym, ◌∙◌, arith, add-one, zero-add, drop-cons, append_assoc, append-nil, sum_by}
use Rattle.std.proofs.lemmas.List.{take_more, drop_all}
use Rattle.std.proofs.lemmas.List.Sums.{sum_by-append}
use Rattle.lb_base.specs.declared.page.Mark.{Mark}
use Rattle.lb_model_book.specs.PlainPages.{row_marks, advance}
use Rattle.lb_plain.specs.Marks.{character_marks}

-- a row of which so many characters stand on a page, and where the next one goes
pub record Stands (start v : ℕ) (row : List ℕ) (i h : ℕ) (marks all : List Mark) : Type 0 where
  pub at : h ≡ start + sum_by advance (take i row)
  pub most : h ≤ start + 327680 * i
  pub onto : marks ++ row_marks start v (take i row) (drop i row) ≡ all

pub stands-none : (start v : ℕ) (row : List ℕ) (marks : List Mark) → Stands start v row 0 start marks (marks ++ row_marks start v [] row)
stands-none start v row marks = record { at = omega arith; most = omega arith; onto = refl }

next_marks : (start v : ℕ) (row : List ℕ) (i h : ℕ) → i < length row → h ≡ start + sum_by advance (take i row)
    → row_marks start v (take i row) (drop i row) ≡ character_marks h v (get_or row i 0) ++ row_marks start v (take (i + 1) row) (drop (i + 1) row)
unfolding row_marks
next_marks start v row i h inside at =
    ap (row_marks start v (take i row)) (drop-cons row i 0 inside)
    ∙ ap (λ x. character_marks x v (get_or row i 0) ++ row_marks start v (take i row ++ get_or row i 0 ∷ []) (drop (suc i) row)) (sym at)
    ∙ ap (λ b. character_marks h v (get_or row i 0) ++ row_marks start v b (drop (suc i) row)) (sym (take_more row i 0 inside))
    ∙ ap (λ n. character_marks h v (get_or row i 0) ++ row_marks start v (take (i + 1) row) (drop n row)) (sym (add-one i))

pub stands-more : (start v : ℕ) (row : List ℕ) (i h : ℕ) (marks all : List Mark) → Stands start v row i h marks all → i < length row
    → (more : List Mark) → more ≡ marks ++ character_marks h v (get_or row i 0) → (wide : ℕ) → wide ≡ advance (get_or row i 0) → wide ≤ 327680 → Stands start v row (i + 1) (h + wide) more all
stands-more start v row i h marks all s inside more e wide is narrow =
    let sums : sum_by advance (take (i + 1) row) ≡ sum_by advance (take i row) + wide =
    ap (sum_by advance) (take_more row i 0 inside) ∙ sum_by-append advance (take i row) (get_or row i 0 ∷ []) ∙ ap (λ x. sum_by advance (take i row) + x) (zero-add (advance (get_or row i 0)) ∙ sym is) in
    record {
      at = omega (arith, s.at, sums);
      most = omega (arith, s.most);
      onto =
          ap (λ m. m ++ row_marks start v (take (i + 1) row) (drop (i + 1) row)) e
          ∙ append_assoc marks (character_marks h v (get_or row i 0)) (row_marks start v (take (i + 1) row) (drop (i + 1) row))
          ∙ sym (ap (λ m. marks ++ m) (next_marks start v row i h inside s.at))
          ∙ s.onto;
    }

pub stands-all : (start v : ℕ) (row : List ℕ) (i h : ℕ) (marks all : List Mark) → Stands start v row i h marks all → length row ≤ i → marks ≡ all
unfolding row_marks
stands-all start v row i h marks all s past = sym (ap (λ r. marks ++ row_marks start v (take i row) r) (drop_all i row past) ∙ append-nil marks) ∙ s.onto
