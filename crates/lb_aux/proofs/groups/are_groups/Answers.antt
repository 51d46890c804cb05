use Rattle.std.proofs.Common.{◌∙◌, ◌+◌, ◌≤◌, Bool, ℕ, arith, ap, drop, get_or, sym, subst}
use Rattle.lb_model_aux.specs.Groups.{are_groups}
use Rattle.lb_aux.proofs.GroupSteps.{groups-end, groups-inside, groups-outside, other-byte, same-byte, turned-most}
use Rattle.lb_aux.proofs.groups.are_groups.Goals as goal
use Rattle.lb_aux.proofs.groups.are_groups.Goals.{then-level-eq0+else-byte-ne123, else-level-eq0}

pub returns-then-byte-ne123 : goal.returns-then-byte-ne123
returns-then-byte-ne123 c =
    let text = c.args.text.now in
    let i = c.loop-byte.byte-index in
    sym (c.loop-byte.invariant.same ∙ groups-outside text i c.loop-byte.level c.loop-byte.behind c.loop-byte-test.true c.if-level-eq0.true
    ∙ other-byte (get_or text i 0) (are_groups c.loop-byte.behind 1 (drop (i + 1) text)) c.if-byte-ne123.true)

pub loop-byte-preserved : goal.loop-byte-preserved
loop-byte-preserved c =
    let text = c.args.text.now in
    let i = c.loop-byte.byte-index in
    let rest = drop (i + 1) text in
    elim c.if-level-eq0.branch [
      | then-level-eq0+else-byte-ne123 w ↦ record {
        same = c.loop-byte.invariant.same ∙ groups-outside text i c.loop-byte.level c.loop-byte.behind c.loop-byte-test.true w.if-level-eq0.true
            ∙ same-byte (get_or text i 0) (are_groups c.loop-byte.behind 1 rest) w.if-byte-ne123.false
            ∙ ap (λ (b : Bool). are_groups b 1 rest) (sym w.behind-is) ∙ ap (λ (n : ℕ). are_groups c.if-level-eq0.behind n rest) (sym w.level-is);
        at_most = omega (arith, w.level-is);
      }
      | else-level-eq0 w ↦
          let most : w.turned.result.1 ≤ c.loop-byte.level + 1 =
          subst (λ (t : Bool × ℕ). t.1 ≤ c.loop-byte.level + 1) (sym w.turned.ensures) (turned-most c.loop-byte.behind c.loop-byte.level (get_or text i 0)) in
          record {
            same = c.loop-byte.invariant.same
                ∙ groups-inside text i c.loop-byte.level c.loop-byte.behind w.turned.result.0 w.turned.result.1 c.loop-byte-test.true (omega (arith, w.if-level-eq0.false)) w.turned.ensures
                ∙ ap (λ (b : Bool). are_groups b w.turned.result.1 rest) (sym w.behind-is) ∙ ap (λ (n : ℕ). are_groups c.if-level-eq0.behind n rest) (sym w.level-is);
            at_most = omega (arith, most, w.level-is, c.loop-byte.invariant.at_most);
          }
    ]

pub returns : goal.returns
returns c = sym (c.loop-byte.invariant.same ∙ groups-end c.args.text.now c.loop-byte.byte-index c.loop-byte.level c.loop-byte.behind (omega (arith, c.loop-byte-test.false)))
