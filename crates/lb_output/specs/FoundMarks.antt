-- What is found of the marks of a page, and more marks behind them.
use Rattle.std.specs.Prelude.{List, Option, option_copied}
use Rattle.std.specs.Option.{option_or}
use Rattle.lb_base.specs.declared.node.Boxed.{Boxed}
use Rattle.lb_base.specs.declared.node.HeadMark.{HeadMark}
use Rattle.lb_model_paper.specs.PageMarks.{first_right, last_left, last_right}
use Rattle.lb_output.specs.declared.marks.PageMarks.{PageMarks}

pub record Found : Type 0 where
  pub first_right : Option Boxed
  pub last_left : Option Boxed
  pub last_right : Option Boxed

abbrev pub found_of : PageMarks → Found
found_of marks = record { first_right = option_copied marks.first_right; last_left = option_copied marks.last_left; last_right = option_copied marks.last_right }

abbrev pub past : Found → List HeadMark → Found
past found more = record { first_right = option_or found.first_right (first_right more); last_left = option_or (last_left more) found.last_left; last_right = option_or (last_right more) found.last_right }
