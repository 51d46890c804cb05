use Rattle.std.proofs.Common.{◌≡◌, ◌∙◌, ◌+◌, ap, arith}
use Rattle.lb_maps.specs.CellMap.{at}
use Rattle.lb_cells.specs.StartEntries.{code_over, codes_below}
use Rattle.lb_cells.proofs.StartSteps.{codes-next}
use Rattle.lb_cells.proofs.start.codes.fill_codes.Goals as goal

pub loop-code-preserved : goal.loop-code-preserved
loop-code-preserved c = c.in_ok-fill_code.ensures ∙ ap (code_over c.loop-code.code) c.loop-code.invariant ∙ codes-next c.loop-code.code (at c.args.entries.now)

pub returns-in_ok-fill_code : goal.returns-in_ok-fill_code
returns-in_ok-fill_code c =
    let last : c.loop-code.code ≡ 255 = omega arith in
    c.in_ok-fill_code.ensures
    ∙ ap (code_over c.loop-code.code) c.loop-code.invariant
    ∙ codes-next c.loop-code.code (at c.args.entries.now)
    ∙ ap (λ n. codes_below (n + 1) (at c.args.entries.now)) last
