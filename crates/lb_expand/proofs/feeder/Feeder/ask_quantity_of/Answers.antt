use Rattle.std.proofs.Common.{[]}
use Rattle.lb_model.specs.declared.open.ReadingKind.TheVariants as reading
use Rattle.lb_model_expansion.specs.Expansion.{internal_met}
use Rattle.lb_expand.proofs.CloseLemmas.{hands-performs}
use Rattle.lb_expand.proofs.feeder.Feeder.ask_quantity_of.Goals as goal

pub returns-clause-performs : goal.returns-clause-performs
returns-clause-performs g c =
    hands-performs (internal_met c.args.meaning.now reading.Quantity []) c.in_ok-closed.closed c.close.result c.in_ok-closed.ensures.closes c.close.ensures.performs
