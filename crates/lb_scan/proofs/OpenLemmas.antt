-- A stage that is not over has no value, and gives nothing back.
use Rattle.std.proofs.Common.{◌≡◌, ℕ, List, [], None, refl, ap, codes, false, true}
use Rattle.lb_model_grammar.specs.declared.given.Given.{Given}
use Rattle.lb_model_grammar.specs.declared.given.Scanned.{Scanned}
use Rattle.lb_model_grammar.specs.declared.given.Scanned.TheVariants as scanned
use Rattle.lb_model_grammar.specs.declared.given.Want.{Want}
use Rattle.lb_model_grammar.specs.Dimensions.{Unit_of, Uses, length_behind}
use Rattle.lb_model_grammar.specs.Scans.{Meant, after_of, one_of, value_of}
use Rattle.lb_model_grammar.specs.Scans.Meant.{Open, Ended}
use Rattle.lb_scan.specs.declared.length.Length.{Length as Lengths}
use Rattle.lb_scan.specs.declared.length.Length.TheVariants as length
use Rattle.lb_scan.specs.declared.number.Number.{Number as Numbers}
use Rattle.lb_scan.specs.declared.number.Number.TheVariants as number
use Rattle.lb_scan.specs.declared.stage.Stage.{Stage}
use Rattle.lb_scan.specs.declared.stage.Stage.TheVariants.{Number, Length, Stretchable, Plus, Shrinkable, Minus, Spaces, Letters, Over, Failed}
use Rattle.lb_scan.specs.declared.spelling.Prefix.{Prefix}
use Rattle.lb_scan.specs.declared.spelling.Prefix.TheVariants.{P, I, C, M, B, D, S, E, F, Fi, Fil, Fill}
use Rattle.lb_scan.specs.Lengths.{length_after}
use Rattle.lb_scan.specs.Numbers.{number_after}
use Rattle.lb_scan.specs.Stages.{shrink_uses, shrinkable_after, stage_after, stretch_uses, stretchable_after, uses_of, within}
use Rattle.lb_scan.specs.Words.{endings}
use Rattle.lb_scan.proofs.WordLemmas.{letters-open}

pub record Unended (m : Meant Scanned) : Type 0 where
  pub value : value_of m ≡ None
  pub after : after_of m ≡ []

opened : (m : Meant Scanned) (w : Want) → m ≡ Open w → Unended m
opened m w h = record { value = ap value_of h; after = ap after_of h }

number_open : (n : Numbers) → Unended (number_after n [])
number_open (number.Signs n) = record { value = refl; after = refl }
number_open (number.First n b) = record { value = refl; after = refl }
number_open (number.Digits n b v) = record { value = refl; after = refl }
number_open (number.Character n) = record { value = refl; after = refl }
number_open (number.Space n v) = record { value = refl; after = refl }
number_open (number.Internal n) = record { value = refl; after = refl }

unit_open : (p : Prefix) (f : Unit_of → List Given → Meant Scanned) (m : Meant Scanned) → Unended (one_of (endings p) f m [])
unit_open P f m = record { value = refl; after = refl }
unit_open I f m = record { value = refl; after = refl }
unit_open C f m = record { value = refl; after = refl }
unit_open M f m = record { value = refl; after = refl }
unit_open B f m = record { value = refl; after = refl }
unit_open D f m = record { value = refl; after = refl }
unit_open S f m = record { value = refl; after = refl }
unit_open E f m = record { value = refl; after = refl }
unit_open F f m = record { value = refl; after = refl }
unit_open Fi f m = record { value = refl; after = refl }
unit_open Fil f m = record { value = refl; after = refl }
unit_open Fill f m = record { value = refl; after = refl }

length_open : (u : Uses) (l : Lengths) → Unended (length_after u l [])
length_open u (length.Signs n) = record { value = refl; after = refl }
length_open u (length.Whole n v) = record { value = refl; after = refl }
length_open u (length.Fraction n w ds) = record { value = refl; after = refl }
length_open u (length.Unit_ d) = record { value = refl; after = refl }
length_open u (length.Letters d p) = unit_open p _ _
length_open u (length.InternalUnit d) = record { value = refl; after = refl }
length_open u (length.FontUnit d asked) = record { value = refl; after = refl }
length_open u (length.Internal n) = record { value = refl; after = refl }
length_open u (length.Space s) = record { value = refl; after = refl }

pub unended : (word : List ℕ) (s : Stage) (all : List Given) → within word s → ((v : Scanned) → ¬ (s ≡ Over v)) → Unended (stage_after word s all [])
unfolding stretchable_after shrinkable_after
unended word (Number n) all w h = number_open n
unended word (Length p l) all w h = length_open (uses_of p all) l
unended word (Stretchable g) all w h = record { value = refl; after = refl }
unended word (Plus g n) all w h = opened _ _ (letters-open (codes "plus") n (length_behind (stretch_uses g all) false) (Ended (scanned.Skip g) all) w)
unended word (Shrinkable g) all w h = record { value = refl; after = refl }
unended word (Minus g n) all w h = opened _ _ (letters-open (codes "minus") n (length_behind (shrink_uses g all) false) (Ended (scanned.Skip g) all) w)
unended word Spaces all w h = record { value = refl; after = refl }
unended word (Letters n) all w h = opened _ _ (letters-open word n (Ended (scanned.Found true)) (Ended (scanned.Found false) all) w)
unended word (Over v) all w h = absurd (h v refl)
unended word (Failed kind) all w h = record { value = refl; after = refl }
