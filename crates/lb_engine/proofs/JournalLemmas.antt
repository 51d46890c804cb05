-- What the nest adds to the journal comes to the desk.
use Rattle.std.proofs.Common.{◌≡◌, ◌∙◌, ◌++◌, [], ◌∷◌, List, ap, sym}
use Rattle.std.proofs.lemmas.List.{append_assoc}
use Rattle.lb_model.specs.declared.append.Append.{Append}

-- one more comes
pub written_one : (a : Append) (items from entries : List Append) (appends : List Append) → from ≡ a ∷ entries → appends ≡ items ++ a ∷ [] → appends ++ entries ≡ items ++ from
written_one a items from entries appends is more =
    ap (λ l. l ++ entries) more ∙ append_assoc items (a ∷ []) entries ∙ ap (λ l. items ++ l) (sym is)
