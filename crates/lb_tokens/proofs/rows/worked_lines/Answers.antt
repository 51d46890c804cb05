use Rattle.std.proofs.Common.{refl}
use Rattle.lb_model.specs.StartState.{start_category}
use Rattle.lb_model.specs.Tokens.{character, characters, next_token}
use Rattle.lb_tokens.proofs.rows.worked_lines.Goals as goal

pub returns-clause-spaces : goal.returns-clause-spaces
unfolding start_category character characters next_token
returns-clause-spaces c = refl

pub returns-clause-end_of_line : goal.returns-clause-end_of_line
unfolding start_category character characters next_token
returns-clause-end_of_line c = refl

pub returns-clause-empty : goal.returns-clause-empty
unfolding start_category character characters next_token
returns-clause-empty c = refl

pub returns-clause-control_word : goal.returns-clause-control_word
unfolding start_category character characters next_token
returns-clause-control_word c = refl

pub returns-clause-control_symbols : goal.returns-clause-control_symbols
unfolding start_category character characters next_token
returns-clause-control_symbols c = refl

pub returns-clause-two_digits : goal.returns-clause-two_digits
unfolding start_category character characters next_token
returns-clause-two_digits c = refl

pub returns-clause-one_character : goal.returns-clause-one_character
unfolding start_category character characters next_token
returns-clause-one_character c = refl

pub returns-clause-marks_of_marks : goal.returns-clause-marks_of_marks
unfolding start_category character characters next_token
returns-clause-marks_of_marks c = refl

pub returns-clause-letter_of_marks : goal.returns-clause-letter_of_marks
unfolding start_category character characters next_token
returns-clause-letter_of_marks c = refl

pub returns-clause-invalid : goal.returns-clause-invalid
unfolding start_category character characters next_token
returns-clause-invalid c = refl
