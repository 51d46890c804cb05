use Rattle.std.proofs.Common.{sym, Some, None}
use Rattle.lb_model_engine.specs.Counting.{within_to}
use Rattle.lb_engine.specs.Reads.{behind_reading}
use Rattle.lb_engine.specs.declared.reading.Reading.TheVariants as reading
use Rattle.lb_engine.proofs.JoinLemmas.{leads-done, leads-same}
use Rattle.lb_engine.proofs.texts.characters_if_any.Goals as goal

pub returns-in-Some : goal.returns-in-Some
returns-in-Some g c = record { leads = λ row. leads-same (λ t. within_to t row) (sym c.in-Some.is) (c.some_characters.ensures.leads row) }

pub returns-in-None : goal.returns-in-None
returns-in-None g c = record { leads = λ row. leads-same (λ t. within_to t row) (sym c.in-None.is) (leads-done g.C.Cells (behind_reading row) (reading.Of None) c.requires.holds) }
