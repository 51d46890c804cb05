-- What is told of a glue in terms of equal lengths.
use Rattle.std.proofs.Common.{◌≡◌, ◌∷◌, ◌++◌, [], List, ℤ, Bool, true, false, ◌&&◌, Option, MatchOption, Ok, Err, refl, arith}
use Rattle.std.specs.Prelude.{int_le, negsuc, pos}
use Rattle.std.proofs.lemmas.Bool.{and_from, and_parts}
use Rattle.std.proofs.lemmas.Int.{ints}
use Rattle.lb_base.specs.declared.fault.Kind.TheVariants.{DimenTooLarge}
use Rattle.lb_base.specs.declared.glue.Glue.{Glue}
use Rattle.lb_base.specs.declared.font.Parameters.{Parameters}
use Rattle.lb_base.specs.declared.node.Node.{Node}
use Rattle.lb_model_paper.specs.Dvi.{is_small, IsSmall}
use Rattle.lb_model_paper.specs.Words.{finite_glue, is_small_glue, IsSmallGlue, space_glue, space_node, spaced}

abbrev pub Told : Option Glue → ℤ → ℤ → ℤ → Type 0
Told found width stretch shrink = MatchOption found (IsSmallGlue (finite_glue width stretch shrink) → ⊥) (λ g. (g ≡ finite_glue width stretch shrink) × IsSmallGlue g)

pub told_of : (found : Option Glue) (w w' t t' s s' : ℤ) → w ≡ w' → t ≡ t' → s ≡ s' → Told found w t s → Told found w' t' s'
told_of found w w' t t' s s' e f g h = rw (← e, ← f, ← g) h

-- ---- the size of a glue as a test

small_true : (z : ℤ) → IsSmall z → is_small z ≡ true
small_true z small = let low = small.low in let high = small.high in search (arith, ints)

true_small : (z : ℤ) → is_small z ≡ true → IsSmall z
true_small z passes = let both = and_parts (int_le (negsuc 1073741822) z) (int_le z (pos 1073741823)) passes in record { low = search (arith, ints); high = search (arith, ints) }

pub IsSmallGlue-tested : (glue : Glue) → is_small_glue glue ≡ true → IsSmallGlue glue
IsSmallGlue-tested glue passes =
    let a = and_parts (is_small glue.width) (is_small glue.stretch && is_small glue.shrink) passes in
    let b = and_parts (is_small glue.stretch) (is_small glue.shrink) a.1 in
    record { width = true_small glue.width a.0; stretch = true_small glue.stretch b.0; shrink = true_small glue.shrink b.1 }

pub is_small_glue-true : (glue : Glue) → IsSmallGlue glue → is_small_glue glue ≡ true
is_small_glue-true glue small =
    and_from (is_small glue.width) (is_small glue.stretch && is_small glue.shrink) (small_true glue.width small.width)
    (and_from (is_small glue.stretch) (is_small glue.shrink) (small_true glue.stretch small.stretch) (small_true glue.shrink small.shrink))

-- ---- a space behind a list

pub spaced-small : (font : Parameters) (factor : ℤ) (nodes : List Node) → IsSmallGlue (space_glue font factor) → spaced font factor nodes ≡ Ok (nodes ++ space_node font factor ∷ [])
unfolding spaced
spaced-small font factor nodes small = rw (is_small_glue-true (space_glue font factor) small)

large_by : (glue : Glue) (b : Bool) → is_small_glue glue ≡ b → (IsSmallGlue glue → ⊥) → is_small_glue glue ≡ false
large_by glue true is large = absurd (large (IsSmallGlue-tested glue is))
large_by glue false is large = is

pub spaced-large : (font : Parameters) (factor : ℤ) (nodes : List Node) → (IsSmallGlue (space_glue font factor) → ⊥) → spaced font factor nodes ≡ Err DimenTooLarge
unfolding spaced
spaced-large font factor nodes large = rw (large_by (space_glue font factor) (is_small_glue (space_glue font factor)) refl large)
