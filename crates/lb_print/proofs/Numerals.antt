-- Copies of letters, one by one.
use Rattle.std.proofs.Common.{◌≡◌, ◌∙◌, ◌+◌, ◌++◌, ◌/◌, ◌%◌, ℕ, zero, suc, List, [], ◌∷◌, sym, ap, add-one, append_assoc}
use Rattle.std.proofs.lemmas.List.{append-nil}
use Rattle.lb_model_grammar.specs.Printed.{copies, roman_by}

copies-one : (n : ℕ) (text : List ℕ) → copies n text ++ text ≡ text ++ copies n text
copies-one zero text = sym (append-nil text)
copies-one (suc n) text = append_assoc text (copies n text) text ∙ ap (λ l. text ++ l) (copies-one n text)

pub copies-more : (n : ℕ) (text before : List ℕ) → (before ++ copies n text) ++ text ≡ before ++ copies (n + 1) text
copies-more n text before =
    append_assoc before (copies n text) text ∙ ap (λ l. before ++ l) (copies-one n text ∙ ap (λ k. copies k text) (sym (add-one n)))

-- one row of the numerals is written, and the others are left
pub written-row : (before after letters : List ℕ) (v left next : ℕ) (rows : List (ℕ × List ℕ)) → after ≡ before ++ copies (left / v) letters → next ≡ left % v
    → after ++ roman_by rows next ≡ before ++ roman_by ((v, letters) ∷ rows) left
written-row before after letters v left next rows h e =
    ap (λ t. t ++ roman_by rows next) h
    ∙ append_assoc before (copies (left / v) letters) (roman_by rows next)
    ∙ ap (λ n. before ++ (copies (left / v) letters ++ roman_by rows n)) e
