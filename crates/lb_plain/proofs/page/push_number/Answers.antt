use Rattle.std.proofs.Common.{◌≤◌, ◌∙◌, length, arith}
use Rattle.lb_plain.proofs.Drawn.{decimal-short}
use Rattle.lb_plain.proofs.page.push_number.Goals as goal

pub overflow_cast-width : goal.overflow_cast-width
overflow_cast-width c = let short : length c.as_bytes-row.result.now ≤ 10 = decimal-short c.args.number c.as_bytes-row.result.now c.ranges.number.fits (c.as_bytes-row.ensures.value ∙ c.in_ok-digits.ensures) in omega arith

pub overflow_mul-width : goal.overflow_mul-width
overflow_mul-width c = let short : length c.as_bytes-row.result.now ≤ 10 = decimal-short c.args.number c.as_bytes-row.result.now c.ranges.number.fits (c.as_bytes-row.ensures.value ∙ c.in_ok-digits.ensures) in omega arith

pub overflow_sub-width : goal.overflow_sub-width
overflow_sub-width c = let short : length c.as_bytes-row.result.now ≤ 10 = decimal-short c.args.number c.as_bytes-row.result.now c.ranges.number.fits (c.as_bytes-row.ensures.value ∙ c.in_ok-digits.ensures) in omega arith

pub push_row-requires-clause-fits : goal.push_row-requires-clause-fits
push_row-requires-clause-fits c = let short : length c.as_bytes-row.result.now ≤ 10 = decimal-short c.args.number c.as_bytes-row.result.now c.ranges.number.fits (c.as_bytes-row.ensures.value ∙ c.in_ok-digits.ensures) in omega arith
