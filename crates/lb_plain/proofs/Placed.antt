-- The lines of a chapter on its page, one after another.
use Rattle.std.proofs.Common.{◌≡◌, ℕ, ◌+◌, ◌≤◌, Bool, true, List, [], ◌∷◌, ◌++◌, length, refl, ap, sym, subst, ◌∙◌, arith, zero-add, add-zero, append_assoc, append-nil, filter, not, ◌==◌, ◌&&◌}
use Rattle.std.specs.List.{list_all}
use Rattle.std.specs.Int.{from_bool}
use Rattle.std.proofs.lemmas.Bool.{and_parts, leb-true}
use Rattle.lb_base.specs.declared.page.Mark.{Mark}
use Rattle.lb_model.specs.Lines.{lines_of, is_empty}
use Rattle.lb_model_book.specs.PlainForm.{is_plain_text, is_plain_line, lines_with_text, is_spaced}
use Rattle.lb_model_book.specs.PlainPages.{lines_marks, line_marks, row_marks}
use Rattle.lb_plain.proofs.ChapterLemmas.{no_bytes, lines-none, empty-length}

-- the lines that have text
unfoldable pub texts : List (List ℕ) → List (List ℕ)
texts lines = filter (λ line. not (is_empty line)) lines

-- so many lines with text stand on a page, and these lines follow
pub record Placed (text : List ℕ) (lines : List (List ℕ)) (count : ℕ) (marks all : List Mark) : Type 0 where
  pub counts : count + length (texts lines) ≡ length (lines_with_text text)
  pub few : length (lines_with_text text) ≤ 40
  pub plain : list_all is_plain_line lines ≡ true
  pub onto : marks ++ lines_marks count (texts lines) ≡ all

pub placed-none : (text : List ℕ) (marks : List Mark) → is_plain_text text ≡ true → Placed text (lines_of text) 0 marks (marks ++ lines_marks 0 (lines_with_text text))
unfolding texts lines_with_text
placed-none text marks h =
    let a = and_parts _ _ h in
    let b = and_parts _ _ a.1 in
    record { counts = zero-add _; few = leb-true _ 40 a.0; plain = b.0; onto = refl }

pub placed-line : (text : List ℕ) (lines : List (List ℕ)) (line : List ℕ) (rest : List (List ℕ)) (count : ℕ) (marks all : List Mark) → Placed text lines count marks all → lines ≡ line ∷ rest → (count ≤ 40) × (length line ≤ 60)
placed-line text lines line rest count marks all p e =
    let h : (is_plain_line line && list_all is_plain_line rest) ≡ true = sym (ap (list_all is_plain_line) e) ∙ p.plain in
    let a = and_parts (is_plain_line line) (list_all is_plain_line rest) h in
    let b = and_parts _ _ a.0 in
    (omega (arith, p.counts, p.few), leb-true (length line) 60 b.0)

line_more : (text : List ℕ) (line : List ℕ) (rest : List (List ℕ)) (count : ℕ) (marks all : List Mark) → Placed text (line ∷ rest) count marks all → (after : List Mark) → after ≡ marks ++ line_marks count line
    → Placed text rest (count + from_bool (not (is_empty line))) after all
unfolding texts lines_marks row_marks is_spaced
line_more text [] rest count marks all p after e = record {
  counts = ap (λ n. n + length (texts rest)) (add-zero count) ∙ p.counts;
  few = p.few;
  plain = (and_parts true (list_all is_plain_line rest) p.plain).1;
  onto = ap (λ m. m ++ lines_marks (count + 0) (texts rest)) (e ∙ append-nil marks) ∙ ap (λ n. marks ++ lines_marks n (texts rest)) (add-zero count) ∙ p.onto;
}
line_more text (c ∷ line) rest count marks all p after e = record {
  counts = omega (arith, p.counts);
  few = p.few;
  plain = (and_parts (is_plain_line (c ∷ line)) (list_all is_plain_line rest) p.plain).1;
  onto =
      ap (λ m. m ++ lines_marks (count + 1) (texts rest)) e
      ∙ append_assoc marks (line_marks count (c ∷ line)) (lines_marks (count + 1) (texts rest))
      ∙ p.onto;
}

pub placed-more : (text : List ℕ) (lines : List (List ℕ)) (line : List ℕ) (rest : List (List ℕ)) (count : ℕ) (marks all : List Mark) → Placed text lines count marks all → lines ≡ line ∷ rest
    → (after : List Mark) → after ≡ marks ++ line_marks count line → (empty : Bool) (one : ℕ) → empty ≡ (length line == 0) → one ≡ from_bool (not empty) → Placed text rest (count + one) after all
placed-more text lines line rest count marks all p e after is empty one same ones =
    let P : List (List ℕ) → Type 0 = λ l. Placed text l count marks all in
    let Q : ℕ → Type 0 = λ n. Placed text rest (count + n) after all in
    subst Q (ap (λ b. from_bool (not b)) (empty-length line ∙ sym same) ∙ sym ones) (line_more text line rest count marks all (subst P e p) after is)

-- once no line follows
pub record Whole (text : List ℕ) (count : ℕ) (marks all : List Mark) : Type 0 where
  pub counts : count ≡ length (lines_with_text text)
  pub same : marks ≡ all

pub placed-all : (text rest : List ℕ) (count : ℕ) (marks all : List Mark) → Placed text (lines_of rest) count marks all → (length rest == 0) ≡ true → Whole text count marks all
unfolding texts lines_marks
placed-all text rest count marks all p h =
    let e : lines_of rest ≡ [] = ap lines_of (no_bytes rest h) ∙ lines-none in
    record {
      counts = sym (ap (λ l. count + length (texts l)) e ∙ add-zero count) ∙ p.counts;
      same = sym (ap (λ l. marks ++ lines_marks count (texts l)) e ∙ append-nil marks) ∙ p.onto;
    }
