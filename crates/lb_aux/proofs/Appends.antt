-- Parts that are written one behind another.
use Rattle.std.proofs.Common.{◌≡◌, ◌∙◌, ◌++◌, ℕ, List, ap, append_assoc}

-- four parts behind a text
pub four : (t a b c d : List ℕ) → (((t ++ a) ++ b) ++ c) ++ d ≡ t ++ (((a ++ b) ++ c) ++ d)
four t a b c d =
    ap (λ x. (x ++ c) ++ d) (append_assoc t a b) ∙ ap (λ x. x ++ d) (append_assoc t (a ++ b) c) ∙ append_assoc t ((a ++ b) ++ c) d

pub five : (t a b c d e : List ℕ) → ((((t ++ a) ++ b) ++ c) ++ d) ++ e ≡ t ++ ((((a ++ b) ++ c) ++ d) ++ e)
five t a b c d e = ap (λ x. x ++ e) (four t a b c d) ∙ append_assoc t (((a ++ b) ++ c) ++ d) e
