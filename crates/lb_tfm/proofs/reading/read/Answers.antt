use Rattle.std.proofs.Common.{◌≡◌, ℕ, ℤ, List, sym, ◌∙◌, w32}
use Rattle.std.proofs.lemmas.Int.{to_z-of_z}
use Rattle.lb_base.specs.declared.font.Counts.{Counts}
use Rattle.lb_model_paper.specs.Fonts.{FontData}
use Rattle.lb_model_paper.specs.FontFiles.{counts_of, font_of, font_with}
use Rattle.lb_tfm.proofs.BrokenRules.{is-sound, kept-1}
use Rattle.lb_tfm.proofs.WholeFiles.{long-enough}
use Rattle.lb_tfm.proofs.reading.read.Goals as goal

pub counts-requires : goal.counts-requires
counts-requires c = long-enough c.args.bytes.now (kept-1 c.args.bytes.now (sym c.first_broken.ensures ∙ c.in_default.is))

pub font_with-requires-clause-sound : goal.font_with-requires-clause-sound
font_with-requires-clause-sound c = is-sound c.args.bytes.now c.counts.result c.counts.ensures (sym c.first_broken.ensures ∙ c.in_default.is)

gives : (bytes : List ℕ) (c : Counts) (size read : ℤ) (font : FontData) → c ≡ counts_of bytes → read ≡ size → font ≡ font_with bytes c read → font ≡ font_of bytes size
unfolding font_of
gives bytes c size read font is same h = rw (← is, ← same) h

pub returns-clause-font : goal.returns-clause-font
returns-clause-font c = record {
  kept = sym c.first_broken.ensures ∙ c.in_default.is;
  same = gives c.args.bytes.now c.counts.result c.args.size _ c.in_ok-font.font c.counts.ensures (to_z-of_z w32 c.args.size c.ranges.size) c.in_ok-font.ensures;
}
