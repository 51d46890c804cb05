use Rattle.std.proofs.Common.{◌≡◌, ◌<◌, ◌≤◌, ◌+◌, ◌-◌, ◌*◌, ◌/◌, ◌∷◌, List, ℕ, ap, sym, add-one, ◌∙◌, arith, length, take, drop, get_or, pos, w32}
use Rattle.std.proofs.Math.Seq.{drop-cons, drop-length}
use Rattle.std.proofs.lemmas.List.{get_or-take, length-take}
use Rattle.std.proofs.lemmas.Int.{to_z_pos}
use Rattle.lb_base.proofs.DecimalReading.{scaled, scaled-nil, scaled-cons, half_scaled, take-counted}
use Rattle.lb_base.specs.Decimals.{fraction_from_digits}
use Rattle.lb_base.proofs.scaled.round_decimals.Goals as goal

pub loop-left-init : goal.loop-left-init
loop-left-init c = record {
  within = omega arith;
  small = omega arith;
  value = sym (ap scaled (drop-length (take c.min.result c.args.digits.now)) ∙ scaled-nil);
}

pub loop-left-preserved : goal.loop-left-preserved
loop-left-preserved c =
    let xs : List ℕ = take c.min.result c.args.digits.now in
    let i : ℕ = c.loop-left.left - 1 in
    let inside : i < length xs = omega arith in
    let next : i + 1 ≡ c.loop-left.left = omega arith in
    let split : drop i xs ≡ get_or xs i 0 ∷ drop c.loop-left.left xs =
    drop-cons xs i 0 inside ∙ ap (λ (n : ℕ). get_or xs i 0 ∷ drop n xs) (sym (add-one i) ∙ next) in
    let below : i < c.min.result = omega (arith, length-take c.min.result c.args.digits.now) in
    let of_all : i < length c.args.digits.now = omega (arith, length-take c.min.result c.args.digits.now) in
    let digit : get_or xs i 0 ≤ 9 = rw (get_or-take c.min.result c.args.digits.now i 0 below) (c.requires i 0 of_all) in
    record {
      within = omega arith;
      small = omega arith;
      value =
          let e : scaled (drop i xs) ≡ scaled (get_or xs i 0 ∷ drop c.loop-left.left xs) = ap scaled split in
          let f : scaled (get_or xs i 0 ∷ drop c.loop-left.left xs) ≡ (scaled (drop c.loop-left.left xs) + 131072 * get_or xs i 0) / 10 =
          scaled-cons (get_or xs i 0) (drop c.loop-left.left xs) in
          cc;
    }

pub returns-clause-value : goal.returns-clause-value
returns-clause-value c =
    let xs : List ℕ = take c.min.result c.args.digits.now in
    let none : c.loop-left.left ≡ 0 = omega arith in
    let whole : drop c.loop-left.left xs ≡ xs = ap (λ (n : ℕ). drop n xs) none in
    let counted : xs ≡ take 17 c.args.digits.now = take-counted c.min.result c.args.digits.now c.min.ensures in
    to_z_pos w32 ((c.loop-left.twice + 1) / 2) (omega arith)
    ∙ ap pos (ap (λ (n : ℕ). (n + 1) / 2) (c.loop-left.invariant.value ∙ ap scaled whole) ∙ half_scaled xs ∙ ap fraction_from_digits counted)
