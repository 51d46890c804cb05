-- What a scan is seen as.
use Rattle.std.specs.Prelude.{List}
use Rattle.lb_model_grammar.specs.declared.given.Given.{Given}
use Rattle.lb_model_grammar.specs.declared.given.ScanKind.{ScanKind}

-- a scan, as its kind and what it was given
pub record Scanning : Type 0 where
  pub kind : ScanKind
  pub given : List Given
