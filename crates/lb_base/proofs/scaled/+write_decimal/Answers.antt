use Rattle.std.proofs.Common.{◌≡◌, ℕ, ◌+◌, ◌/◌, ◌%◌, ◌^◌, ◌<◌, ◌≤◌, ◌++◌, ◌∷◌, [], List, length, take, decimal, arith, ap, sym, ◌∙◌}
use Rattle.std.proofs.lemmas.Fmt.{decimal_digit, decimal_step}
use Rattle.std.proofs.lemmas.List.{append-nil, length-append}
use Rattle.lb_base.proofs.FractionWriting.{pushed}
use Rattle.lb_base.proofs.scaled.+write_decimal.Goals as goal
use Rattle.lb_base.proofs.scaled.+write_decimal.Goals.{then-n-ge10, else-n-ge10}

one : (n : ℕ) → n < 10 → length (decimal n) ≡ 1
one n h = ap length (decimal_digit n h)

longer : (n : ℕ) → 10 ≤ n → n < 2 ^ 32 → length (decimal n) ≡ length (decimal (n / 10)) + 1
longer n h s =
    let fits : n < 2 ^ 64 = omega arith in
    ap length (decimal_step n h fits) ∙ length-append (decimal (n / 10)) ((48 + n % 10) ∷ [])

pub write_decimal-last-requires : goal.write_decimal-last-requires
write_decimal-last-requires t c =
    let l = longer c.args.n c.if-n-ge10.true c.ranges.n.fits in
    (omega arith, omega arith)

pub bounds-out-last : goal.bounds-out-last
bounds-out-last t c =
    elim c.if-n-ge10.branch [
      | then-n-ge10 w ↦ omega (arith, longer c.args.n w.if-n-ge10.true c.ranges.n.fits)
      | else-n-ge10 w ↦ omega (arith, one c.args.n w.if-n-ge10.false)
    ]

pub returns-clause-end : goal.returns-clause-end
returns-clause-end t c =
    elim c.if-n-ge10.branch [
      | then-n-ge10 w ↦ omega (arith, longer c.args.n w.if-n-ge10.true c.ranges.n.fits)
      | else-n-ge10 w ↦ omega (arith, one c.args.n w.if-n-ge10.false)
    ]

pub returns-clause-text : goal.returns-clause-text
returns-clause-text t c =
    let n : ℕ = c.args.n in
    let front : List ℕ = take c.args.at c.args.out.now in
    elim c.if-n-ge10.branch [
      | then-n-ge10 w ↦
          let l = longer n w.if-n-ge10.true c.ranges.n.fits in
          let fits : n < 2 ^ 64 = omega arith in
          let inside : c.if-n-ge10.last < length c.if-n-ge10.out = omega (arith, c.if-n-ge10.array_long) in
          let before : take c.if-n-ge10.last c.if-n-ge10.out ≡ front ++ decimal (n / 10) = cc in
          pushed c.if-n-ge10.out c.if-n-ge10.last (48 + n % 10) front (decimal (n / 10)) (decimal n) inside before
          (decimal_step n w.if-n-ge10.true fits)
      | else-n-ge10 w ↦
          let low : n % 10 ≡ n = omega arith in
          let inside : c.if-n-ge10.last < length c.if-n-ge10.out = omega (arith, one n w.if-n-ge10.false) in
          let before : take c.if-n-ge10.last c.if-n-ge10.out ≡ front ++ [] = let e = append-nil front in cc in
          pushed c.if-n-ge10.out c.if-n-ge10.last (48 + n % 10) front [] (decimal n) inside before
          (decimal_digit n w.if-n-ge10.false ∙ ap (λ (d : ℕ). (48 + d) ∷ []) (sym low))
    ]
