use Rattle.lb_engine.proofs.RowLemmas.{act-is}
use Rattle.lb_engine.specs.RuleSizes.{height_read}
use Rattle.lb_model_engine.specs.Items.{size_if}
use Rattle.std.proofs.Common.{sym}
use Rattle.lb_engine.specs.declared.rule_sizes.Given.TheVariants as given
use Rattle.lb_engine.specs.declared.rule_sizes.Side.TheVariants as side
use Rattle.lb_engine.proofs.rule_sizes.width_if.Goals as goal

pub returns-then-found : goal.returns-then-found
returns-then-found g c = record { leads = λ row. act-is (λ b. size_if b (λ n x. row (given.Size side.Width n) x) (height_read row)) c.side_size.result (sym c.if-found.true) (c.side_size.ensures.leads row) }

pub returns : goal.returns
returns g c = record { leads = λ row. act-is (λ b. size_if b (λ n x. row (given.Size side.Width n) x) (height_read row)) c.height.result (sym c.if-found.false) (c.height.ensures.leads row) }
