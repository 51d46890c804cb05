-- The texts of the files of a journal, beside the files' names.
use Rattle.std.specs.Prelude.{◌≡◌, ℕ, List, [], ◌∷◌, length, Option, None, Some, cond, nat_eq}
use lib.Pointwise.{pointwise}
use Rattle.lb_model.specs.Journal.{Entry, content_of, begun_names}

-- the text beside the first name that is this one
abbrev pub text_of : List ℕ → List (List ℕ) → List (List ℕ) → Option (List ℕ)
text_of q [] texts = None
text_of q (name ∷ names) [] = None
text_of q (name ∷ names) (text ∷ texts) = cond (pointwise nat_eq q name) (Some text) (text_of q names texts)

-- The names are those of the files that were begun, and beside each stands what its file has.
pub record Keeps (journal : List Entry) (names texts : List (List ℕ)) : Type 0 where
  pub as_many : length names ≡ length texts
  pub names_are : names ≡ begun_names journal
  pub texts_are : (q : List ℕ) → text_of q names texts ≡ content_of q journal
