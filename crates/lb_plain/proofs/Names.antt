-- The names of a main file, one line after another.
use Rattle.std.proofs.Common.{◌≡◌, ℕ, suc, Bool, true, false, List, [], ◌∷◌, ◌++◌, length, refl, ap, sym, ◌∙◌, append_assoc, append-nil, Option, None, Some, codes, ◌==◌, ◌<◌, arith, if◌then◌else◌}
use Rattle.lb_model.specs.Lines.{lines_of}
use Rattle.lb_model_book.specs.OwnLines.{is_own_line, included_name}
use Rattle.lb_model_book.specs.PlainForm.{names_of_main, names_to_end, before_names}
use Rattle.std.proofs.lemmas.Bool.{eqb-false}
use Rattle.lb_plain.specs.Parts.{is_opening}
use Rattle.lb_tokens.proofs.FirstLine.{first_line, tail_of}
use Rattle.lb_plain.proofs.ChapterLemmas.{no_bytes, lines-none}

-- names behind those that stand before them, where there are all
unfoldable pub behind : List (List ℕ) → Option (List (List ℕ)) → Option (List (List ℕ))
behind front None = None
behind front (Some names) = Some (front ++ names)

pub behind-none : (o : Option (List (List ℕ))) → behind [] o ≡ o
unfolding behind
behind-none None = refl
behind-none (Some names) = refl

one_more : (front : List (List ℕ)) (name : List ℕ) (o : Option (List (List ℕ))) → behind (front ++ name ∷ []) o ≡ behind front (before_names (Some name) o)
unfolding behind
one_more front name None = refl
one_more front name (Some names) = ap Some (append_assoc front (name ∷ []) names)

last : (line : List ℕ) (rest : List (List ℕ)) (b : Bool) → rest ≡ [] → is_own_line (codes "\\end{document}") line ≡ b → names_to_end (line ∷ rest) ≡ (if b then Some [] else None)
unfolding names_to_end
last line rest b e h = ap (λ r. names_to_end (line ∷ r)) e ∙ ap (λ t. if t then Some [] else None) h

before_last : (line : List ℕ) (rest : List (List ℕ)) → 0 < length rest → names_to_end (line ∷ rest) ≡ before_names (included_name line) (names_to_end rest)
unfolding names_to_end
before_last line [] h = absurd (omega arith)
before_last line (next ∷ rest) h = refl

lines_of_next : (next : List ℕ) → (length next == 0) ≡ true → lines_of next ≡ []
lines_of_next next h = ap lines_of (no_bytes next h) ∙ lines-none

pub lines-some : (next : List ℕ) → (length next == 0) ≡ false → 0 < length (lines_of next)
lines-some next h =
    let long : 0 < length next = omega (arith, eqb-false (length next) 0 h) in
    let e : length (lines_of next) ≡ suc (length (lines_of (tail_of next))) = ap length (first_line next long) in
    omega arith

module _ (front : List (List ℕ)) (lines : List (List ℕ)) (line : List ℕ) (next : List ℕ) (e : lines ≡ line ∷ lines_of next) where
  pub ends_well : (length next == 0) ≡ true → is_own_line (codes "\\end{document}") line ≡ true → Some front ≡ behind front (names_to_end lines)
  unfolding behind
  ends_well none h = sym (ap (λ l. behind front (names_to_end l)) e ∙ ap (behind front) (last line (lines_of next) true (lines_of_next next none) h) ∙ ap Some (append-nil front))

  pub ends_badly : (length next == 0) ≡ true → is_own_line (codes "\\end{document}") line ≡ false → None ≡ behind front (names_to_end lines)
  unfolding behind
  ends_badly none h = sym (ap (λ l. behind front (names_to_end l)) e ∙ ap (behind front) (last line (lines_of next) false (lines_of_next next none) h))

  pub goes_on : (name : List ℕ) → 0 < length (lines_of next) → included_name line ≡ Some name → behind (front ++ name ∷ []) (names_to_end (lines_of next)) ≡ behind front (names_to_end lines)
  goes_on name long h =
      one_more front name (names_to_end (lines_of next))
      ∙ sym (ap (λ l. behind front (names_to_end l)) e ∙ ap (behind front) (before_last line (lines_of next) long) ∙ ap (λ o. behind front (before_names o (names_to_end (lines_of next)))) h)

  pub no_name : 0 < length (lines_of next) → included_name line ≡ None → None ≡ behind front (names_to_end lines)
  unfolding behind
  no_name long h = sym (ap (λ l. behind front (names_to_end l)) e ∙ ap (behind front) (before_last line (lines_of next) long) ∙ ap (λ o. behind front (before_names o (names_to_end (lines_of next)))) h)

pub no_lines : (front : List (List ℕ)) (text : List ℕ) → (length text == 0) ≡ true → None ≡ behind front (names_to_end (lines_of text))
unfolding behind names_to_end
no_lines front text h = sym (ap (λ l. behind front (names_to_end l)) (lines_of_next text h))

pub main-none : (text : List ℕ) → (length text == 0) ≡ true → None ≡ names_of_main (lines_of text)
unfolding names_of_main
main-none text h = sym (ap names_of_main (lines_of_next text h))

pub main-one : (lines : List (List ℕ)) (line : List ℕ) (next : List ℕ) → lines ≡ line ∷ lines_of next → (length next == 0) ≡ true → None ≡ names_of_main lines
unfolding names_of_main
main-one lines line next e h = sym (ap names_of_main e ∙ ap (λ l. names_of_main (line ∷ l)) (lines_of_next next h))

pub main-two : (lines : List (List ℕ)) (line : List ℕ) (next : List ℕ) (second : List ℕ) (rest : List ℕ) → lines ≡ line ∷ lines_of next → lines_of next ≡ second ∷ lines_of rest
    → (b : Bool) → is_opening line second ≡ b → names_of_main lines ≡ (if b then names_to_end (lines_of rest) else None)
unfolding names_of_main
main-two lines line next second rest e f b h = ap names_of_main e ∙ ap (λ l. names_of_main (line ∷ l)) f ∙ ap (λ t. if t then names_to_end (lines_of rest) else None) h
