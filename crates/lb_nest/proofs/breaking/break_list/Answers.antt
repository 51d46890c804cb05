use Rattle.lb_base.specs.declared.fault.Stop.{Stop}
use Rattle.lb_nest.proofs.EndingLemmas.{breaks-made, ends-rise, few-items, makes-refused}
use Rattle.lb_nest.specs.Endings.{MakesLines}
use Rattle.lb_nest.specs.declared.breaking.Broken.{Broken}
use Rattle.std.proofs.Common.{sym, subst}
use Rattle.std.proofs.lemmas.Result.{err_from_is_err_and}
use Rattle.std.specs.Prelude.{Err, Result}
use Rattle.lb_nest.proofs.breaking.break_list.Goals as goal

pub bad_lines_at-requires-clause-few : goal.bad_lines_at-requires-clause-few
bad_lines_at-requires-clause-few c = few-items c.args.shape.now c.args.list c.in_ok-breaks.breaks c.in_ok-breaks.ensures

pub bad_lines_at-requires-clause-ends : goal.bad_lines_at-requires-clause-ends
bad_lines_at-requires-clause-ends c = ends-rise c.args.shape.now c.args.list c.in_ok-breaks.breaks c.in_ok-breaks.ensures

pub lines_apart-requires : goal.lines_apart-requires
lines_apart-requires c = ends-rise c.args.shape.now c.args.list c.in_ok-breaks.breaks c.in_ok-breaks.ensures

pub returns-in_err-lines : goal.returns-in_err-lines
returns-in_err-lines c =
    let a = c.args in
    let (y, is, gives) = err_from_is_err_and c.from_residual-in_err-lines.result c.from_residual-in_err-lines.ensures.1 in
    let same = makes-refused a.shape.now a.list a.place.now c.in_ok-breaks.breaks c.in_err-lines.field-0.0 c.in_ok-breaks.ensures c.in_err-lines.ensures in
    subst (λ (r : Result Broken Stop). MakesLines a.shape.now a.list a.place.now r) (sym is) (subst (λ (e : Stop). MakesLines a.shape.now a.list a.place.now (Err e)) (sym gives) same)

pub returns : goal.returns
returns c = λ w at. breaks-made c.args.shape.now c.args.list c.in_ok-breaks.breaks c.args.place.now c.in_ok-bad.bad c.in_ok-lines.lines w c.in_ok-breaks.ensures c.in_ok-bad.ensures c.in_ok-lines.ensures at
