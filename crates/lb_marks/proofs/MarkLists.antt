-- Marks whose numbers are the same.
use Rattle.std.proofs.Common.{◌≡◌, ℕ, List, [], ◌∷◌, ◌++◌, ℤ, Result, subst}
use Rattle.std.specs.Prelude.{IfErr}
use Rattle.lb_base.specs.declared.fault.Stop.{Stop}
use Rattle.lb_marks.specs.Spots.{IsMarkStop}
use Rattle.lb_base.specs.declared.page.FontId.{FontId}
use Rattle.lb_base.specs.declared.page.Mark.{Mark}
use Rattle.lb_base.specs.declared.page.Mark.TheVariants.{Char, Rule}

pub char_same : (marks : List Mark) (h i v w : ℤ) (font same : FontId) (code : ℕ) (width wide : ℤ) → h ≡ i → v ≡ w → font ≡ same → width ≡ wide → marks ++ Char h v font code width ∷ [] ≡ marks ++ Char i w same code wide ∷ []
char_same marks h i v w font same code width wide a b c d = cc

pub rule_same : (marks : List Mark) (h i v w height high width wide : ℤ) → h ≡ i → v ≡ w → height ≡ high → width ≡ wide → marks ++ Rule h v height width ∷ [] ≡ marks ++ Rule i w high wide ∷ []
rule_same marks h i v w height high width wide a b c d = cc

-- the same of a rule by its corner
pub rule_stop : (result : Result (Unit {0}) Stop) (h i v w height high width wide : ℤ) → IfErr result (IsMarkStop (Rule h v height width ∷ [])) → h ≡ i → v ≡ w → height ≡ high → width ≡ wide → IfErr result (IsMarkStop (Rule i w high wide ∷ []))
rule_stop result h i v w height high width wide stops a b c d =
    let P : List Mark → Type 0 = λ ms. IfErr result (IsMarkStop ms) in
    subst P (rule_same [] h i v w height high width wide a b c d) stops
