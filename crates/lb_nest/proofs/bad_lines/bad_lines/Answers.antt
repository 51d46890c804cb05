use Rattle.lb_nest.proofs.EndingLemmas.{none-bad}
use Rattle.lb_nest.specs.Endings.{has_bad}
use Rattle.std.proofs.Common.{◌∙◌, sym, rules, ◌≡◌, false}
use Rattle.lb_nest.proofs.bad_lines.bad_lines.Goals as goal

pub returns-then-not-has_bad : goal.returns-then-not-has_bad
returns-then-not-has_bad c =
    let none : has_bad c.args.breaks.now.ends ≡ false = search rules in
    c.new-entries.ensures ∙ sym (none-bad c.args.place.now c.args.shape.now c.args.list.now 0 c.args.breaks.now.ends none)
