use Rattle.std.proofs.Common.{◌≡◌, ◌∙◌, ap, sym, refl, ℤ, pos, ◌+ℤ◌, to_z, of_z, w64, arith}
use Rattle.std.proofs.lemmas.Int.{ints}
use Rattle.std.specs.Option.{is_some}
use Rattle.lb_output.proofs.Behind.{small-at, three}
use Rattle.lb_output.proofs.heights.above_body.Goals as goal

pub returns-clause-small : goal.returns-clause-small
returns-clause-small c =
    let held : ℤ → ℤ = λ z. to_z w64 (of_z w64 z) in
    let l = c.args.lengths.now in
    let top : held c.from.result ≡ l.topmargin = omega (arith, ints) in
    let head : held c.from-2.result ≡ l.headheight = omega (arith, ints) in
    let sep : held c.from-3.result ≡ l.headsep = omega (arith, ints) in
    let one : held c.in-Some.margin ≡ pos 0 +ℤ l.topmargin = omega (arith, ints, c.in-Some.ensures.sum.is) in
    let two : held c.in-Some-add.head ≡ (pos 0 +ℤ l.topmargin) +ℤ l.headheight = omega (arith, ints, c.in-Some.ensures.sum.is, c.in-Some-add.ensures.sum.is) in
    three _ _ _ _
    (sym (small-at c.add.result (pos 0) (held c.from.result) (pos 0) l.topmargin c.add.ensures.small refl top) ∙ ap is_some c.in-Some.is)
    (sym (small-at c.add-2.result (held c.in-Some.margin) (held c.from-2.result) (pos 0 +ℤ l.topmargin) l.headheight c.add-2.ensures.small one head) ∙ ap is_some c.in-Some-add.is)
    (small-at c.add-3.result (held c.in-Some-add.head) (held c.from-3.result) ((pos 0 +ℤ l.topmargin) +ℤ l.headheight) l.headsep c.add-3.ensures.small two sep)
