-- Names that are refused: what a table of them is asked is what is looked up in it.
use Rattle.std.proofs.Common.{◌≡◌, ◌↔◌, ℕ, ◌<◌, List, ap, refl, sym, ◌∙◌, length, map, true, Option, Some, None, Contains, IsSome, nat_eq}
use Rattle.std.specs.Cmp.Lexicographic.{pointwise, nat_list_eq_equiv, same_text}
use Rattle.std.specs.Map.{lookup}
use Rattle.std.proofs.lemmas.Map.Views.{Contains-from_lookup, IsSome-lookup_from_Contains}
use Rattle.std.proofs.lemmas.List.{get_or-map}
use Rattle.std.proofs.Math.ListN.{length-map}
use Rattle.lb_rows.specs.declared.refusal.Refusal.{Refusal}

same : (x y : List ℕ) → pointwise nat_eq x y ≡ true → x ≡ y
same x y e = same_text x y (sym e)

in-names : (rows : List (List ℕ × Refusal)) (name : List ℕ) (kind : Refusal) → Contains rows (name, kind) → Contains (map (λ row. row.0) rows) name
in-names rows name kind has =
    let inside : has.0 < length (map (λ row. row.0) rows) = rw length-map has.1 in
    (has.0, inside, get_or-map (λ row. row.0) rows has.0 (name, kind) name has.1 ∙ ap (λ row. row.0) has.2)

pub refused-looked : (rows : List (List ℕ × Refusal)) (name : List ℕ) (answer : Option Refusal) → ((kind : Refusal) → (answer ≡ Some kind) ↔ Contains rows (name, kind)) → lookup (pointwise nat_eq name) rows ≡ answer
refused-looked rows name (Some kind) is =
    elim (lookup (pointwise nat_eq name) rows) as (λ o. lookup (pointwise nat_eq name) rows ≡ o → o ≡ Some kind) [
      | None ↦ λ e. let some : IsSome (lookup (pointwise nat_eq name) rows) = IsSome-lookup_from_Contains nat_list_eq_equiv name rows (in-names rows name kind ((is kind).0 refl)) in absurd (cc)
      | Some v ↦ λ e. sym ((is v).1 (Contains-from_lookup same name v rows e))
    ] refl
refused-looked rows name None is =
    elim (lookup (pointwise nat_eq name) rows) as (λ o. lookup (pointwise nat_eq name) rows ≡ o → o ≡ None) [
      | None ↦ λ e. refl
      | Some v ↦ λ e. let none : None ≡ Some v = (is v).1 (Contains-from_lookup same name v rows e) in absurd (cc)
    ] refl
