-- The widths, heights, depths and italic corrections of a file that is made, and its parameters, keep their rules.
use Rattle.std.proofs.Common.{◌≡◌, ℕ, ◌+◌, ◌-◌, ◌<◌, ◌≤◌, Bool, true, false, cond, List, [], ◌∷◌, ◌++◌, length, get_or, arith, refl, ap, subst, ◌∙◌, None, ℤ, pos}
use Prim.Native.Nat.{zero, suc}
use Rattle.std.specs.Prelude.{slice_index, ◌&&◌, nat_lt}
use Rattle.std.specs.List.{list_all, list_any}
use Rattle.lb_model_paper.specs.Dvi.{int_eq}
use Rattle.lb_model_paper.specs.FontFiles.{byte_at, first_width, first_height, first_depth, first_italic, first_kern, first_extensible, first_step, first_parameter, end_of, words}
use Rattle.lb_model_paper.specs.FontRules.{is_large, is_wrong_dimension, wrong_dimension, wrong_length}
use Rattle.lb_tfm_make.specs.declared.spec.CharWidth.{CharWidth}
use Rattle.lb_tfm_make.specs.declared.spec.FontSpec.{FontSpec}
use Rattle.lb_tfm_make.specs.FontBytes.{Word, distinct_widths, file_of, fix_word, width_section, widths_through, with_width}
use Rattle.lb_tfm_make.specs.FontSpecs.{are_fix, are_fix_widths, is_fix}
use Rattle.lb_tfm_make.proofs.Counts.{length-widths}
use Rattle.lb_tfm_make.proofs.KeptRules.{fix-small, later-right, zero-right}
use Rattle.lb_tfm_make.proofs.Tests.{both, is-above, is-not-above, none-words}
use Rattle.lb_tfm_make.proofs.Turns.{words-none}
use Rattle.lb_tfm_make.proofs.WholeFiles.{all, depth-byte, height-byte, italic-byte, made_counts, parameter-byte, width-byte}
use Rattle.lb_tfm_make.proofs.WordPlaces.{map-at}

-- ---- what holds below a sum

sum-cases : (P : ℕ → Type 0) (a b k : ℕ) (t : Bool) → nat_lt k a ≡ t → ((j : ℕ) → j < a → P j) → ((j : ℕ) → j < b → P (a + j)) → k < a + b → P k
sum-cases P a b k true is first second low = first k (is-above k a is)
sum-cases P a b k false is first second low =
    let from : a ≤ k = is-not-above k a is in
    let lt : k - a < b = omega arith in
    let e : a + (k - a) ≡ k = omega arith in
    subst P e (second (k - a) lt)

pub below-sum : (P : ℕ → Type 0) (a b : ℕ) → ((j : ℕ) → j < a → P j) → ((j : ℕ) → j < b → P (a + j)) → (k : ℕ) → k < a + b → P k
below-sum P a b first second k low = sum-cases P a b k (nat_lt k a) refl first second low

below-two : (P : ℕ → Type 0) → P 0 → P 1 → (k : ℕ) → k < 2 → P k
below-two P p0 p1 zero low = p0
below-two P p0 p1 (suc zero) low = p1
below-two P p0 p1 (suc (suc k)) low = absurd (omega arith)

below-six : (P : ℕ → Type 0) → P 0 → P 1 → P 2 → P 3 → P 4 → P 5 → (k : ℕ) → k < 6 → P k
below-six P p0 p1 p2 p3 p4 p5 zero low = p0
below-six P p0 p1 p2 p3 p4 p5 (suc zero) low = p1
below-six P p0 p1 p2 p3 p4 p5 (suc (suc zero)) low = p2
below-six P p0 p1 p2 p3 p4 p5 (suc (suc (suc zero))) low = p3
below-six P p0 p1 p2 p3 p4 p5 (suc (suc (suc (suc zero)))) low = p4
below-six P p0 p1 p2 p3 p4 p5 (suc (suc (suc (suc (suc zero))))) low = p5
below-six P p0 p1 p2 p3 p4 p5 (suc (suc (suc (suc (suc (suc k)))))) low = absurd (omega arith)

-- ---- the distinct widths are below 16 in size

all-last : (xs : List ℤ) (x : ℤ) → list_all is_fix xs ≡ true → is_fix x ≡ true → list_all is_fix (xs ++ x ∷ []) ≡ true
all-last [] x h g = rw g refl
all-last (y ∷ ys) x h g = let t = both (is_fix y) (list_all is_fix ys) h in rw t.0 (all-last ys x t.1 g)

with-fix : (widths : List ℤ) (width : ℤ) → list_all is_fix widths ≡ true → is_fix width ≡ true → list_all is_fix (with_width widths width) ≡ true
with-fix widths width h g = elim (list_any (int_eq width) widths) as (λ (b : Bool). list_all is_fix (cond b widths (widths ++ width ∷ [])) ≡ true) [ true ↦ h | false ↦ all-last widths width h g ]

through-fix : (widths : List ℤ) (rows : List CharWidth) → list_all is_fix widths ≡ true → are_fix_widths rows ≡ true → list_all is_fix (widths_through widths rows) ≡ true
unfolding widths_through are_fix_widths
through-fix widths [] h g = h
through-fix widths (row ∷ rows) h g = let t = both (is_fix row.width) (are_fix_widths rows) g in through-fix (with_width widths row.width) rows (with-fix widths row.width h t.0) t.1

fix-at : (xs : List ℤ) (k : ℕ) → list_all is_fix xs ≡ true → k < length xs → is_fix (get_or xs k (pos 0)) ≡ true
fix-at [] k h low = absurd (omega arith)
fix-at (x ∷ xs) zero h low = (both (is_fix x) (list_all is_fix xs) h).0
fix-at (x ∷ xs) (suc k) h low = let lt : k < length xs = omega arith in fix-at xs k (both (is_fix x) (list_all is_fix xs) h).1 lt

-- ---- the dimensions

abbrev IsRight : FontSpec → ℕ → Type 0
IsRight spec k = is_wrong_dimension (file_of spec) (made_counts spec) (first_width (made_counts spec) + k) ≡ false

width-right : (spec : FontSpec) → are_fix_widths spec.widths ≡ true → (k : ℕ) → k < length (width_section spec) → IsRight spec k
width-right spec fix zero low = zero-right (file_of spec) (made_counts spec) (first_width (made_counts spec) + 0) (λ n small. width-byte spec 0 n low small)
width-right spec fix (suc k) low =
    let widths = distinct_widths spec.widths in
    let lt : k < length widths = omega (arith, length-widths spec) in
    let four : 0 < 4 = omega arith in
    let is : byte_at (file_of spec) (first_width (made_counts spec) + suc k) 0 ≡ slice_index (fix_word (get_or widths k (pos 0))) 0 =
    width-byte spec (suc k) 0 low four ∙ ap (λ (w : Word). slice_index w 0) (map-at fix_word widths k (pos 0) [] lt) in
    later-right (file_of spec) (made_counts spec) (first_width (made_counts spec) + suc k) (get_or widths k (pos 0)) is (fix-at widths k (through-fix [] spec.widths refl fix) lt)
    (omega arith) (omega arith) (omega arith) (omega arith)

height-right : (spec : FontSpec) → is_fix spec.height ≡ true → (k : ℕ) → k < 2 → IsRight spec (length (width_section spec) + k)
height-right spec fix =
    let c = made_counts spec in
    let at = λ (k : ℕ). (let e : first_width c + (length (width_section spec) + k) ≡ first_height c + k = omega arith in e) in
    below-two (λ k. IsRight spec (length (width_section spec) + k))
    (ap (λ word. is_wrong_dimension (file_of spec) c word) (at 0) ∙ zero-right (file_of spec) c (first_height c + 0) (λ n small. height-byte spec 0 n (omega arith) small))
    (ap (λ word. is_wrong_dimension (file_of spec) c word) (at 1)
    ∙ later-right (file_of spec) c (first_height c + 1) spec.height (height-byte spec 1 0 (omega arith) (omega arith)) fix (omega arith) (omega arith) (omega arith) (omega arith))

depth-right : (spec : FontSpec) → is_fix spec.depth ≡ true → (k : ℕ) → k < 2 → IsRight spec (length (width_section spec) + (2 + k))
depth-right spec fix =
    let c = made_counts spec in
    let at = λ (k : ℕ). (let e : first_width c + (length (width_section spec) + (2 + k)) ≡ first_depth c + k = omega arith in e) in
    below-two (λ k. IsRight spec (length (width_section spec) + (2 + k)))
    (ap (λ word. is_wrong_dimension (file_of spec) c word) (at 0) ∙ zero-right (file_of spec) c (first_depth c + 0) (λ n small. depth-byte spec 0 n (omega arith) small))
    (ap (λ word. is_wrong_dimension (file_of spec) c word) (at 1)
    ∙ later-right (file_of spec) c (first_depth c + 1) spec.depth (depth-byte spec 1 0 (omega arith) (omega arith)) fix (omega arith) (omega arith) (omega arith) (omega arith))

italic-right : (spec : FontSpec) (k : ℕ) → k < 1 → IsRight spec (length (width_section spec) + (2 + (2 + k)))
italic-right spec k low =
    let c = made_counts spec in
    let e : first_width c + (length (width_section spec) + (2 + (2 + k))) ≡ first_italic c = omega arith in
    ap (λ word. is_wrong_dimension (file_of spec) c word) e ∙ zero-right (file_of spec) c (first_italic c) (λ n small. italic-byte spec n small)

pub dimensions-right : (spec : FontSpec) → is_fix spec.height ≡ true → is_fix spec.depth ≡ true → are_fix_widths spec.widths ≡ true → wrong_dimension (file_of spec) (made_counts spec) ≡ None
unfolding wrong_dimension
dimensions-right spec h d w =
    let nw = length (width_section spec) in
    none-words (is_wrong_dimension (file_of spec) (made_counts spec)) (first_width (made_counts spec)) (first_step (made_counts spec)) (nw + (2 + (2 + 1))) (omega arith)
    (below-sum (IsRight spec) nw (2 + (2 + 1)) (width-right spec w)
    (below-sum (λ k. IsRight spec (nw + k)) 2 (2 + 1) (height-right spec h)
    (below-sum (λ k. IsRight spec (nw + (2 + k))) 2 1 (depth-right spec d) (italic-right spec))))

-- ---- the parameters

parameter-right : (spec : FontSpec) (k : ℕ) (z : ℤ) → k < 7 → get_or (get_or (all spec) 8 []) k [] ≡ fix_word z → is_fix z ≡ true → is_large (file_of spec) (first_parameter (made_counts spec) + k) ≡ false
parameter-right spec k z low is fix =
    let four : 0 < 4 = omega arith in
    fix-small (file_of spec) (first_parameter (made_counts spec) + k) z (parameter-byte spec k 0 low four ∙ ap (λ (w : Word). slice_index w 0) is) fix

pub lengths-right : (spec : FontSpec) → are_fix spec.params ≡ true → wrong_length (file_of spec) (made_counts spec) ≡ None
unfolding wrong_length
lengths-right spec fix =
    let c = made_counts spec in
    let p = spec.params in
    let a = both (is_fix p.slant) _ fix in
    let parts = both (is_fix p.space && (is_fix p.stretch && is_fix p.shrink)) (is_fix p.x_height && (is_fix p.quad && is_fix p.extra_space)) a.1 in
    let b = both (is_fix p.space) (is_fix p.stretch && is_fix p.shrink) parts.0 in
    let d = both (is_fix p.stretch) (is_fix p.shrink) b.1 in
    let f = both (is_fix p.x_height) (is_fix p.quad && is_fix p.extra_space) parts.1 in
    let g = both (is_fix p.quad) (is_fix p.extra_space) f.1 in
    let at = λ (k : ℕ). (let same : first_parameter c + 1 + k ≡ first_parameter c + suc k = omega arith in ap (is_large (file_of spec)) same) in
    let kerns : words (first_kern c) (first_extensible c) ≡ [] = words-none (first_kern c) (first_extensible c) (omega arith) in
    rw kerns
    (none-words (is_large (file_of spec)) (first_parameter c + 1) (end_of c) 6 (omega arith)
    (below-six (λ k. is_large (file_of spec) (first_parameter c + 1 + k) ≡ false)
    (at 0 ∙ parameter-right spec 1 p.space (omega arith) refl b.0)
    (at 1 ∙ parameter-right spec 2 p.stretch (omega arith) refl d.0)
    (at 2 ∙ parameter-right spec 3 p.shrink (omega arith) refl d.1)
    (at 3 ∙ parameter-right spec 4 p.x_height (omega arith) refl f.0)
    (at 4 ∙ parameter-right spec 5 p.quad (omega arith) refl g.0)
    (at 5 ∙ parameter-right spec 6 p.extra_space (omega arith) refl g.1)))
