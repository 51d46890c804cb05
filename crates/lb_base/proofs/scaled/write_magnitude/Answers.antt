use Rattle.std.proofs.Common.{◌≡◌, ℕ, ◌+◌, ◌/◌, ◌%◌, ◌^◌, ◌<◌, ◌≤◌, ◌++◌, ◌∷◌, [], List, length, take, set, decimal, arith, ap, refl, ◌∙◌}
use Rattle.std.proofs.lemmas.Fmt.{length-decimal-le}
use Rattle.std.proofs.lemmas.List.{length-append, length-map, drop-set-lt}
use Rattle.lb_base.specs.Decimals.{fraction_digits, ascii_digits}
use Rattle.lb_base.proofs.FractionWriting.{pushed, behind_more, grouped}
use Rattle.lb_base.proofs.ReadingBack.{few_digits}
use Rattle.lb_base.proofs.scaled.write_magnitude.Goals as goal

short : (size : ℕ) → size < 2147483648 → length (decimal (size / 65536)) ≤ 5
short size h =
    let some : 0 < 5 = omega arith in
    let small : size / 65536 < 10 ^ 5 = omega arith in
    let fits : size / 65536 < 2 ^ 64 = omega arith in
    length-decimal-le 5 (size / 65536) some small fits

pub write_decimal-point-requires : goal.write_decimal-point-requires
write_decimal-point-requires c = record { room = omega (arith, short c.args.size c.requires.small) }

pub bounds-out-point : goal.bounds-out-point
bounds-out-point c = omega (arith, short c.args.size c.requires.small)

pub write_fraction-requires-clause-room : goal.write_fraction-requires-clause-room
write_fraction-requires-clause-room c = omega (arith, short c.args.size c.requires.small)

pub returns-clause-end : goal.returns-clause-end
returns-clause-end c =
    let whole : List ℕ = decimal (c.args.size / 65536) in
    let digits : List ℕ = fraction_digits (c.args.size % 65536) in
    omega (arith, length-append whole (46 ∷ ascii_digits digits), length-map digits (λ (d : ℕ). 48 + d))

pub returns-clause-short : goal.returns-clause-short
returns-clause-short c =
    let below : c.args.size % 65536 < 65536 = omega arith in
    omega (arith, short c.args.size c.requires.small, few_digits (c.args.size % 65536) below)

pub returns-clause-text : goal.returns-clause-text
returns-clause-text c =
    let whole : List ℕ = decimal (c.args.size / 65536) in
    let f : ℕ = c.args.size % 65536 in
    let front : List ℕ = take c.args.at c.args.out.now in
    let digits : List ℕ = ascii_digits (fraction_digits f) in
    let inside : c.write_decimal-point.result < length c.write_decimal-point.new.out = omega (arith, short c.args.size c.requires.small) in
    let point : take (c.write_decimal-point.result + 1) (set c.write_decimal-point.new.out c.write_decimal-point.result 46) ≡ front ++ (whole ++ 46 ∷ []) =
    pushed c.write_decimal-point.new.out c.write_decimal-point.result 46 front whole (whole ++ 46 ∷ []) inside c.write_decimal-point.ensures.text refl in
    c.write_fraction.ensures.text ∙ ap (λ (xs : List ℕ). xs ++ digits) point ∙ grouped front whole digits 46

pub returns-clause-rest : goal.returns-clause-rest
returns-clause-rest c =
    let before : c.write_decimal-point.result ≤ c.write_fraction.result = omega arith in
    let past : c.write_decimal-point.result < c.write_fraction.result = omega arith in
    c.write_fraction.ensures.rest
    ∙ drop-set-lt c.write_fraction.result c.write_decimal-point.new.out c.write_decimal-point.result 46 past
    ∙ behind_more c.write_decimal-point.new.out c.args.out.now c.write_decimal-point.result c.write_fraction.result before c.write_decimal-point.ensures.rest
