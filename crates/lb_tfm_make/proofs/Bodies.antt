-- Sections that are written one after another.
use Rattle.std.proofs.Common.{◌≡◌, ℕ, ℤ, List, [], ◌∷◌, ◌++◌, map, ap, ◌∙◌, sym, append_assoc}
use Rattle.std.proofs.lemmas.List.{append-nil}
use Rattle.lb_tfm_make.specs.declared.spec.CharWidth.{CharWidth}
use Rattle.lb_tfm_make.specs.declared.spec.FontSpec.{FontSpec}
use Rattle.lb_tfm_make.specs.FontBytes.{Word, codes_of, distinct_widths, fix_word, info_section, info_word, joined, lefts_of, number_word, width_section}

pub infos-are : (spec : FontSpec) (rows : List CharWidth) (widths : List ℤ) (starts : List ℕ) → rows ≡ spec.widths → widths ≡ distinct_widths spec.widths → starts ≡ lefts_of spec
    → map (info_word rows widths starts) (codes_of rows) ≡ info_section spec
infos-are spec rows widths starts r w s =
    ap (λ (xs : List CharWidth). map (info_word xs widths starts) (codes_of xs)) r
    ∙ ap (λ xs. map (info_word spec.widths xs starts) (codes_of spec.widths)) w
    ∙ ap (λ xs. map (info_word spec.widths (distinct_widths spec.widths) xs) (codes_of spec.widths)) s

pub widths-are : (spec : FontSpec) (widths : List ℤ) → widths ≡ distinct_widths spec.widths → ◌≡◌ {A = List Word} (number_word 0 ∷ map fix_word widths) (width_section spec)
widths-are spec widths w = ap (λ xs. number_word 0 ∷ map fix_word xs) w

-- one section, then the rest
pub begun : (section W rest whole : List Word) (w : List Word) → w ≡ W ++ section → w ++ rest ≡ whole → W ++ (section ++ rest) ≡ whole
begun section W rest whole w is h = sym (append_assoc W section rest) ∙ ap (λ x. x ++ rest) (sym is) ∙ h

pub written : (a b c d e f g h w1 w2 w3 w4 w5 w6 w7 w8 : List Word) → w1 ≡ [] ++ a → w2 ≡ w1 ++ b → w3 ≡ w2 ++ c → w4 ≡ w3 ++ d → w5 ≡ w4 ++ e → w6 ≡ w5 ++ f → w7 ≡ w6 ++ g → w8 ≡ w7 ++ h
    → w8 ≡ joined (a ∷ b ∷ c ∷ d ∷ e ∷ f ∷ g ∷ h ∷ [])
written a b c d e f g h w1 w2 w3 w4 w5 w6 w7 w8 e1 e2 e3 e4 e5 e6 e7 e8 =
    sym (begun a [] _ w8 w1 e1 (begun b w1 _ w8 w2 e2 (begun c w2 _ w8 w3 e3 (begun d w3 _ w8 w4 e4 (begun e w4 _ w8 w5 e5 (begun f w5 _ w8 w6 e6 (begun g w6 _ w8 w7 e7 (begun h w7 [] w8 w8 e8 (append-nil w8)))))))))
