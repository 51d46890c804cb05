-- How lines are judged.
use Rattle.std.proofs.Common.{◌≡◌, ℕ, Bool, if◌then◌else◌, Option, ℤ, pos, neg_ℤ, ◌+ℤ◌, ◌≤ℤ◌, int_le, w32, w64, to_z, of_z, FitsSigned, refl, sym, ap, ◌∙◌, arith}
use Rattle.std.proofs.lemmas.Int.{ints, to_z-of_z}
use Rattle.lb_model_paper.specs.Breaks.{Pass, badness_by, excess_in, fitness_by, is_overfull_by, judged_by, judged_line, line_demerits, verdict_by}
use Rattle.lb_model_paper.specs.declared.paragraph.Fitness.{Fitness}
use Rattle.lb_model_paper.specs.declared.paragraph.LineSums.{LineSums}
use Rattle.lb_model_paper.specs.declared.paragraph.Shape.{Shape}
use Rattle.lb_measure.specs.Amounts.{IsNear}
use Rattle.lb_measure.proofs.Sums.{held, held_sum}

-- ---- demerits as the code holds them

near_by : (low high : ℤ) (z : ℤ) → neg_ℤ (pos 1000000000000) ≤ℤ low → high ≤ℤ pos 1000000000000 → low ≤ℤ z → z ≤ℤ high → IsNear 1048576 z
near_by low high z least most above below = record { low = omega (arith, ints, least, above); high = omega (arith, ints, most, below) }

pub held_bounded_sum : (a b : ℤ) → neg_ℤ (pos 2147483648) ≤ℤ a → a ≤ℤ pos 2147483648 → neg_ℤ (pos 2147483648) ≤ℤ b → b ≤ℤ pos 2147483648
    → to_z w64 (of_z w64 (to_z w64 (of_z w64 a) +ℤ to_z w64 (of_z w64 b))) ≡ a +ℤ b
held_bounded_sum a b low_a high_a low_b high_b =
    let near_a : IsNear 1048576 a = record { low = omega (arith, ints, low_a); high = omega (arith, ints, high_a) } in
    let near_b : IsNear 1048576 b = record { low = omega (arith, ints, low_b); high = omega (arith, ints, high_b) } in
    held_sum _ a b near_a near_b refl

pub held_applied : (x z : ℤ) (applies both : Bool) → FitsSigned w32 z → applies ≡ both → x ≡ (if applies then to_z w32 (of_z w32 z) else pos 0) → x ≡ (if both then z else pos 0)
held_applied x z applies both fits same is = is ∙ ap (λ (b : Bool). if b then to_z w32 (of_z w32 z) else pos 0) same ∙ ap (λ (y : ℤ). if both then y else pos 0) (to_z-of_z w32 z fits)

pub held_three : (a b c : ℤ) → pos 0 ≤ℤ a → a ≤ℤ pos 100000000 → neg_ℤ (pos 100000000) ≤ℤ b → b ≤ℤ pos 100000000 → neg_ℤ (pos 4294967296) ≤ℤ c → c ≤ℤ pos 4294967296
    → to_z w64 (of_z w64 (to_z w64 (of_z w64 (to_z w64 (of_z w64 a) +ℤ to_z w64 (of_z w64 b))) +ℤ to_z w64 (of_z w64 c))) ≡ (a +ℤ b) +ℤ c
held_three a b c low_a high_a low_b high_b low_c high_c =
    let near_a : IsNear 1048576 a = record { low = omega (arith, ints, low_a); high = omega (arith, ints, high_a) } in
    let near_b : IsNear 1048576 b = record { low = omega (arith, ints, low_b); high = omega (arith, ints, high_b) } in
    let near_c : IsNear 1048576 c = record { low = omega (arith, ints, low_c); high = omega (arith, ints, high_c) } in
    let near_sum : IsNear 1048576 (a +ℤ b) = record { low = omega (arith, ints, low_a, low_b); high = omega (arith, ints, high_a, high_b) } in
    let two : to_z w64 (of_z w64 (to_z w64 (of_z w64 a) +ℤ to_z w64 (of_z w64 b))) ≡ a +ℤ b = held_sum _ a b near_a near_b refl in
    let more : IsNear 2097152 (a +ℤ b) = record { low = omega (arith, ints, low_a, low_b); high = omega (arith, ints, high_a, high_b) } in
    held_sum _ (a +ℤ b) c near_sum near_c (ap (λ (z : ℤ). z +ℤ to_z w64 (of_z w64 c)) (two ∙ sym (held (a +ℤ b) more)))

-- ---- a line, part by part

pub judged_line_is : (shape : Shape) (pass : Pass) (penalty : ℤ) (from_disc to_disc is_last : Bool) (sums : LineSums) (excess : ℤ) (badness : ℕ) (over : Bool) (demerits : ℤ) (fitness : Fitness) (verdict : Option Bool)
    → excess ≡ excess_in shape sums → badness ≡ badness_by excess sums → over ≡ is_overfull_by excess sums.shrink → verdict ≡ verdict_by pass over (int_le penalty (neg_ℤ (pos 10000))) badness
    → demerits ≡ line_demerits shape.rules badness penalty from_disc to_disc is_last → fitness ≡ fitness_by excess badness
    → judged_by demerits fitness verdict ≡ judged_line shape pass penalty from_disc to_disc is_last sums
judged_line_is shape pass penalty from_disc to_disc is_last sums excess badness over demerits fitness verdict excess_is badness_is over_is verdict_is demerits_is fitness_is =
    let forced : Bool = int_le penalty (neg_ℤ (pos 10000)) in
    let L : ℕ → ℤ = λ b. line_demerits shape.rules b penalty from_disc to_disc is_last in
    ap (λ (d : ℤ). judged_by d fitness verdict) demerits_is
    ∙ ap (λ (f : Fitness). judged_by (L badness) f verdict) fitness_is
    ∙ ap (λ (v : Option Bool). judged_by (L badness) (fitness_by excess badness) v) verdict_is
    ∙ ap (λ (o : Bool). judged_by (L badness) (fitness_by excess badness) (verdict_by pass o forced badness)) over_is
    ∙ ap (λ (b : ℕ). judged_by (L b) (fitness_by excess b) (verdict_by pass (is_overfull_by excess sums.shrink) forced b)) badness_is
    ∙ ap (λ (e : ℤ). judged_by (L (badness_by e sums)) (fitness_by e (badness_by e sums)) (verdict_by pass (is_overfull_by e sums.shrink) forced (badness_by e sums))) excess_is
