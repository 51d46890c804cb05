-- Sums of lists, and how large they are.
use Rattle.std.specs.Prelude.{◌≡◌, ℕ, ◌*◌, if◌then◌else◌, ℤ, pos, neg_ℤ, ◌+ℤ◌, ◌-ℤ◌, ◌≤ℤ◌}
use Rattle.lb_base.specs.declared.glue.Glue.{Glue as GlueSize}
use Rattle.lb_base.specs.declared.glue.Order.TheVariants.{Finite, Fil, Fill, Filll}
use Rattle.lb_model_paper.specs.Nodes.{same_order}
use Rattle.lb_model_paper.specs.declared.paragraph.LineSums.{LineSums}

abbrev pub added : LineSums → LineSums → LineSums
added a b = record {
  width = a.width +ℤ b.width;
  finite = a.finite +ℤ b.finite;
  fil = a.fil +ℤ b.fil;
  fill = a.fill +ℤ b.fill;
  filll = a.filll +ℤ b.filll;
  shrink = a.shrink +ℤ b.shrink;
}

abbrev pub less : LineSums → LineSums → LineSums
less a b = record {
  width = a.width -ℤ b.width;
  finite = a.finite -ℤ b.finite;
  fil = a.fil -ℤ b.fil;
  fill = a.fill -ℤ b.fill;
  filll = a.filll -ℤ b.filll;
  shrink = a.shrink -ℤ b.shrink;
}

abbrev pub nothing : LineSums
nothing = record { width = pos 0; finite = pos 0; fil = pos 0; fill = pos 0; filll = pos 0; shrink = pos 0 }

-- at most so many times 2^33 in size, as the sum of so many amounts of a node is
pub record IsNear (n : ℕ) (z : ℤ) : Type 0 where
  pub low : neg_ℤ (pos (8589934592 * n)) ≤ℤ z
  pub high : z ≤ℤ pos (8589934592 * n)

pub record AreNear (n : ℕ) (sums : LineSums) : Type 0 where
  pub width : IsNear n sums.width
  pub finite : IsNear n sums.finite
  pub fil : IsNear n sums.fil
  pub fill : IsNear n sums.fill
  pub filll : IsNear n sums.filll
  pub shrink : IsNear n sums.shrink

-- sums that are those of a glue
pub record AreOfGlue (glue : GlueSize) (sums : LineSums) : Type 0 where
  pub width : sums.width ≡ glue.width
  pub finite : sums.finite ≡ (if same_order glue.stretch_order Finite then glue.stretch else pos 0)
  pub fil : sums.fil ≡ (if same_order glue.stretch_order Fil then glue.stretch else pos 0)
  pub fill : sums.fill ≡ (if same_order glue.stretch_order Fill then glue.stretch else pos 0)
  pub filll : sums.filll ≡ (if same_order glue.stretch_order Filll then glue.stretch else pos 0)
  pub shrink : sums.shrink ≡ glue.shrink
