use Rattle.std.proofs.Common.{◌≡◌, ◌||◌, Bool, true, false, ℤ, pos, neg_ℤ, int_le, w32, FitsSigned, sym, ap, ◌∙◌, rules}
use Rattle.std.proofs.lemmas.Int.{to_z-of_z}
use Rattle.lb_model_paper.specs.Breaks.{is_overfull_line, line_items, sums_of}
use Rattle.lb_measure.specs.Measures.{pass_of}
use Rattle.lb_measure.proofs.LineSums.{no_stop, place_here, some_stop, stop_of_paragraph}
use Rattle.lb_measure.proofs.measured.Measured.stops.Goals as goal

pub returns-then-penalty-leminus10000 : goal.returns-then-penalty-leminus10000
returns-then-penalty-leminus10000 c = λ k.
    let m = c.args.self.now in
    let fits : FitsSigned w32 c.in-Some.penalty = search rules in
    let to = place_here m c.args.j c.index.result.now c.requires.measured c.requires.j c.index.ensures in
    let forced : int_le c.in-Some.penalty (neg_ℤ (pos 10000)) ≡ true = ap (λ (z : ℤ). int_le z (neg_ℤ (pos 10000))) (sym (to_z-of_z w32 c.in-Some.penalty fits)) ∙ c.if-penalty-leminus10000.true in
    c.if-penalty-leminus10000.true ∙ sym (ap (λ (b : Bool). b || is_overfull_line m.shape (sums_of (line_items m.shape m.list.now c.args.i c.args.j))) forced)
    ∙ some_stop m.shape m.list.now c.args.i c.args.j c.in-Some.penalty (sym to.penalty ∙ c.in-Some.is) ∙ stop_of_paragraph m.shape (pass_of m) m.list.now k c.args.i c.args.j

pub returns-else-penalty-leminus10000 : goal.returns-else-penalty-leminus10000
returns-else-penalty-leminus10000 c = λ k.
    let m = c.args.self.now in
    let fits : FitsSigned w32 c.in-Some.penalty = search rules in
    let to = place_here m c.args.j c.index.result.now c.requires.measured c.requires.j c.index.ensures in
    let free : int_le c.in-Some.penalty (neg_ℤ (pos 10000)) ≡ false = ap (λ (z : ℤ). int_le z (neg_ℤ (pos 10000))) (sym (to_z-of_z w32 c.in-Some.penalty fits)) ∙ c.if-penalty-leminus10000.false in
    c.is_overfull.ensures ∙ sym (ap (λ (b : Bool). b || is_overfull_line m.shape (sums_of (line_items m.shape m.list.now c.args.i c.args.j))) free)
    ∙ some_stop m.shape m.list.now c.args.i c.args.j c.in-Some.penalty (sym to.penalty ∙ c.in-Some.is) ∙ stop_of_paragraph m.shape (pass_of m) m.list.now k c.args.i c.args.j

pub returns-in-None : goal.returns-in-None
returns-in-None c = λ k.
    let m = c.args.self.now in
    let to = place_here m c.args.j c.index.result.now c.requires.measured c.requires.j c.index.ensures in
    no_stop m.shape m.list.now c.args.i c.args.j (sym to.penalty ∙ c.in-None.is) ∙ stop_of_paragraph m.shape (pass_of m) m.list.now k c.args.i c.args.j
