use Rattle.lb_engine.proofs.JoinLemmas.{leads-done}
use Rattle.lb_engine.proofs.RowLemmas.{act-is}
use Rattle.lb_engine.specs.Reads.{behind_reading}
use Rattle.lb_model_engine.specs.Items.{size_if}
use Rattle.std.proofs.Common.{sym}
use Rattle.std.specs.Prelude.{Ok}
use Rattle.lb_engine.specs.declared.reading.Reading.TheVariants as reading
use Rattle.lb_engine.specs.declared.rule_sizes.Given.TheVariants as given
use Rattle.lb_engine.specs.declared.rule_sizes.Side.TheVariants as side
use Rattle.lb_engine.proofs.rule_sizes.depth_if.Goals as goal

pub returns-then-found : goal.returns-then-found
returns-then-found g c = record { leads = λ row. act-is (λ b. size_if b (λ n x. row (given.Size side.Depth n) x) (row given.Nothing)) c.side_size.result (sym c.if-found.true) (c.side_size.ensures.leads row) }

pub returns : goal.returns
returns g c = record { leads = λ row. act-is (λ b. size_if b (λ n x. row (given.Size side.Depth n) x) (row given.Nothing)) (Ok (reading.Of given.Nothing)) (sym c.if-found.false) (leads-done g.C.Cells (behind_reading row) (reading.Of given.Nothing) c.requires.holds) }
