-- A file that is made keeps every rule, and gives the font of its description.
use Rattle.std.proofs.Common.{◌≡◌, ℕ, ◌<◌, ◌≤◌, length, arith, refl, ap, subst, ◌∙◌, sym, None, pos}
use Rattle.std.specs.Prelude.{option_map}
use Rattle.lb_base.specs.declared.font.Counts.{Counts}
use Rattle.lb_model_paper.specs.Fonts.{FontData}
use Rattle.lb_model_paper.specs.FontFiles.{font_of, font_with, metrics_for}
use Rattle.lb_model_paper.specs.FontRules.{first_broken}
use Rattle.lb_tfm_make.specs.declared.spec.FontSpec.{FontSpec}
use Rattle.lb_tfm_make.specs.FontBytes.{distinct_widths, file_of, last_code}
use Rattle.lb_tfm_make.specs.FontSpecs.{IsValid}
use Rattle.lb_tfm_make.specs.MadeFonts.{IsFontOf, IsMadeOf, metrics_at}
use Rattle.lb_tfm_make.proofs.CharacterWords.{infos-right}
use Rattle.lb_tfm_make.proofs.Counts.{length-widths}
use Rattle.lb_tfm_make.proofs.FontParts.{id-is, metrics-are, parameters-are, row-past, table-at}
use Rattle.lb_tfm_make.proofs.FontSteps.{between, left-edge, right-edge}
use Rattle.lb_tfm_make.proofs.KeptRules.{counts-right, counts-small, counts-there, design-right, words-there}
use Rattle.lb_tfm_make.proofs.LengthWords.{dimensions-right, lengths-right}
use Rattle.lb_tfm_make.proofs.StepWords.{first-last, steps-right}
use Rattle.lb_tfm_make.proofs.WholeFiles.{IsMakeable, counts-are, made_counts}

is-makeable : (spec : FontSpec) → IsValid spec → last_code 0 spec.widths < 256 → length (distinct_widths spec.widths) ≤ 255 → IsMakeable spec
is-makeable spec valid last few = record { some = valid.some; low = first-last spec.widths valid.rising valid.some; last = last; few = valid.few; widths = omega (arith, length-widths spec) }

rules-kept : (spec : FontSpec) → IsValid spec → IsMakeable spec → first_broken (file_of spec) ≡ None
unfolding first_broken
rules-kept spec valid m =
    rw (counts-there spec, counts-small spec m, counts-are spec m)
    (rw (counts-right spec m, words-there spec, design-right spec valid.sizes.design_low valid.sizes.design_high, infos-right spec, dimensions-right spec valid.sizes.height valid.sizes.depth valid.widths, steps-right spec valid.rising valid.steps, lengths-right spec valid.sizes.params) refl)

font-is : (spec : FontSpec) (size : ℕ) → IsValid spec → spec.check < 4294967296 → last_code 0 spec.widths < 256 → IsFontOf spec size (font_with (file_of spec) (made_counts spec) (pos size))
font-is spec size valid check last =
    let high = valid.sizes.design_high in
    record {
      id = id-is spec size check (omega arith);
      parameters = parameters-are spec size valid.sizes.params;
      metrics = λ code. table-at (metrics_for (file_of spec) (made_counts spec) size) code (λ past. metrics-are spec size code valid.rising ∙ ap (option_map (metrics_at spec size)) (row-past spec.widths code valid.rising (omega arith))) ∙ metrics-are spec size code valid.rising;
      steps = λ left right. between spec size left right valid.rising last valid.steps;
      left_edge = λ right. left-edge spec size right valid.steps;
      right_edge = λ left. right-edge spec size left valid.steps;
    }

font-same : (spec : FontSpec) (size : ℕ) → IsMakeable spec → font_of (file_of spec) (pos size) ≡ font_with (file_of spec) (made_counts spec) (pos size)
unfolding font_of
font-same spec size m = ap (λ (c : Counts). font_with (file_of spec) c (pos size)) (counts-are spec m)

pub is-made : (spec : FontSpec) → IsValid spec → spec.check < 4294967296 → last_code 0 spec.widths < 256 → length (distinct_widths spec.widths) ≤ 255 → IsMadeOf spec (file_of spec)
is-made spec valid check last few =
    let m = is-makeable spec valid last few in
    record {
      kept = rules-kept spec valid m;
      fonts = λ size some small. subst (λ (font : FontData). IsFontOf spec size font) (sym (font-same spec size m)) (font-is spec size valid check last);
    }
