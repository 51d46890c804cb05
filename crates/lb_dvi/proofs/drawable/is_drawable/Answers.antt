use Rattle.std.proofs.Common.{◌≡◌, ◌<◌, ◌≤◌, List, length, get_or, subst, rules, refl}
use Rattle.std.proofs.lemmas.Bool.{false≢true, iff_false}
use Rattle.lb_base.specs.declared.page.Mark.{Mark}
use Rattle.lb_dvi.proofs.Drawables.{same_end, same_stop, same_turn}
use Rattle.lb_dvi.proofs.drawable.is_drawable.Goals as goal

pub loop-mark-init : goal.loop-mark-init
loop-mark-init c = record { back = λ all. all; forth = λ all. all }

pub returns-then-not-is_small_mark : goal.returns-then-not-is_small_mark
returns-then-not-is_small_mark c =
    let marks = c.args.code.now.marks in
    let k = c.loop-mark.mark-index in
    let same : c.as_slice-mark-items.result.now ≡ marks = search rules in
    let within : k < length marks = subst (λ (ms : List Mark). k < length ms) same c.loop-mark-test.true in
    let is : c.mark-item.result ≡ get_or marks k c.mark-item.result = subst (λ (ms : List Mark). c.mark-item.result ≡ get_or ms k c.mark-item.result) same c.mark-item.is in
    (λ no. absurd (false≢true no), λ all. absurd (same_stop marks k c.mark-item.result within is (iff_false c.is_small_mark.ensures c.if-not-is_small_mark.true) c.loop-mark.invariant all))

pub loop-mark-preserved : goal.loop-mark-preserved
loop-mark-preserved c =
    let marks = c.args.code.now.marks in
    let k = c.loop-mark.mark-index in
    let same : c.as_slice-mark-items.result.now ≡ marks = search rules in
    let within : k < length marks = subst (λ (ms : List Mark). k < length ms) same c.loop-mark-test.true in
    let is : c.mark-item.result ≡ get_or marks k c.mark-item.result = subst (λ (ms : List Mark). c.mark-item.result ≡ get_or ms k c.mark-item.result) same c.mark-item.is in
    same_turn marks k c.mark-item.result within is (c.is_small_mark.ensures.0 c.if-not-is_small_mark.false) c.loop-mark.invariant

pub returns : goal.returns
returns c =
    let marks = c.args.code.now.marks in
    let k = c.loop-mark.mark-index in
    let same : c.as_slice-mark-items.result.now ≡ marks = search rules in
    let past : length marks ≤ k = subst (λ (ms : List Mark). length ms ≤ k) same c.loop-mark-test.false in
    (λ _. same_end marks k past c.loop-mark.invariant, λ _. refl)
