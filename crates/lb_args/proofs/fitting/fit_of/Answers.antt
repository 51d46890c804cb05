use Rattle.std.proofs.Common.{◌≡◌, ◌<◌, length, arith}
use Rattle.lb_args.proofs.WindowLemmas.{part-fits}
use Rattle.lb_args.proofs.fitting.fit_of.Goals as goal

pub returns-clause-fits : goal.returns-clause-fits
returns-clause-fits c =
    let l = c.tokens in
    let at : l.index ≡ length c.args.window.now = omega (arith, l.auto.index-end, c.tokens-test.false) in
    let less : l.index < length c.args.delimiter.now = omega (arith, l.auto.index-end, c.tokens-test.false, c.if-window-delimiter.false, c.requires) in
    part-fits c.args.delimiter.now c.args.window.now l.index at less l.invariant.same
