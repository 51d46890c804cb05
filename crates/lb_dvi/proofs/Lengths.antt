-- Lengths with a sign, which a goal shows as they are read from their bits.
use Rattle.std.proofs.Common.{◌≡◌, ℤ, ◌+ℤ◌, ◌-ℤ◌, pos, ℕ, List, [], ◌++◌, ap, ◌∙◌, arith, refl, w32, Bool, true, false, cond, Option, FitsSigned, to_z, of_z}
use Rattle.std.proofs.lemmas.Int.{ints, to_z-of_z}
use mir.Val.{SFits}
use Rattle.lb_base.specs.declared.page.FontId.{FontId}
use Rattle.lb_model_paper.specs.Dvi.{Pen, IsSmall, move, moves}

small_fits : (z : ℤ) → IsSmall z → SFits w32 z
small_fits z s = search (arith, ints)

difference_fits : (v w : ℤ) → IsSmall v → IsSmall w → SFits w32 (v -ℤ w)
difference_fits v w s t = search (arith, ints)

pub small-read : (z : ℤ) → IsSmall z → to_z w32 (of_z w32 z) ≡ z
small-read z s = to_z-of_z w32 z (small_fits z s)

pub difference-read : (v w : ℤ) → IsSmall v → IsSmall w → to_z w32 (of_z w32 (to_z w32 (of_z w32 v) -ℤ to_z w32 (of_z w32 w))) ≡ v -ℤ w
difference-read v w s t = rw (small-read v s, small-read w t) (to_z-of_z w32 (v -ℤ w) (difference_fits v w s t))

pub sum-fits : (h w : ℤ) → SFits w32 h → SFits w32 w → IsSmall (h +ℤ w) → FitsSigned w32 (to_z w32 (of_z w32 h) +ℤ to_z w32 (of_z w32 w))
sum-fits h w f g s = rw (to_z-of_z w32 h f, to_z-of_z w32 w g) (small_fits (h +ℤ w) s)

pub sum-read : (h w : ℤ) → SFits w32 h → SFits w32 w → IsSmall (h +ℤ w) → to_z w32 (of_z w32 (to_z w32 (of_z w32 h) +ℤ to_z w32 (of_z w32 w))) ≡ h +ℤ w
sum-read h w f g s = rw (to_z-of_z w32 h f, to_z-of_z w32 w g) (small-read (h +ℤ w) s)

pub pen-same : (h i v w : ℤ) (p q : Option FontId) → h ≡ i → v ≡ w → p ≡ q → ◌≡◌ {A = Pen} (record { h = h; v = v; font = p }) (record { h = i; v = w; font = q })
pen-same h i v w p q a b c = cc

pub font-either : (b : Bool) (p q : Pen) → p.font ≡ q.font → (cond b p q).font ≡ q.font
font-either true p q e = e
font-either false p q e = refl

no_difference : (z : ℤ) → z -ℤ z ≡ pos 0
no_difference z = omega (arith, ints)

-- where the pen stands already nothing moves it
pub no_moves : (pen : Pen) (h v : ℤ) → h ≡ pen.h → v ≡ pen.v → moves pen h v ≡ []
no_moves pen h v across down =
    let M : ℤ → ℤ → List ℕ = λ a b. move 157 a ++ move 143 b in
    ap (λ a. M (a -ℤ pen.v) (h -ℤ pen.h)) down ∙ ap (λ b. M (pen.v -ℤ pen.v) (b -ℤ pen.h)) across
    ∙ ap (λ a. M a (pen.h -ℤ pen.h)) (no_difference pen.v) ∙ ap (M (pos 0)) (no_difference pen.h)
