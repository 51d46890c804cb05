use Rattle.std.proofs.Common.{◌≡◌, ◌∙◌, sym, get_or, pos, rules}
use Rattle.lb_tfm_make.specs.declared.spec.CharWidth.{CharWidth}
use Rattle.lb_tfm_make.specs.FontBytes.{with_width}
use Rattle.lb_tfm_make.proofs.DistinctWidths.{through-end, through-turn}
use Rattle.lb_tfm_make.proofs.widths.distinct_widths.Goals as goal

pub loop-row-preserved : goal.loop-row-preserved
loop-row-preserved c =
    let d : CharWidth = record { code = 0; width = pos 0 } in
    let turn = through-turn c.loop-row.widths.items c.args.rows.now c.loop-row.row-index d c.loop-row-test.true in
    let is : c.push_new.new.widths.items ≡ with_width c.loop-row.widths.items (get_or c.args.rows.now c.loop-row.row-index d).width = search rules in
    rw is (sym turn ∙ c.loop-row.invariant)

pub returns : goal.returns
returns c = sym (through-end c.loop-row.widths.items c.args.rows.now c.loop-row.row-index c.loop-row-test.false) ∙ c.loop-row.invariant
