use Rattle.std.proofs.Common.{◌≡◌, ◌<◌, true, take}
use Rattle.std.specs.List.{list_all}
use Rattle.lb_model_aux.specs.Forms.{is_digit, value_of}
use Rattle.lb_aux.proofs.number.magnitude_of.Given as goal

abbrev pub invariant-loop-digit : goal.invariant-loop-digit
invariant-loop-digit l = record {
  all : list_all is_digit (take l.digit-index l.digits) ≡ true;
  value : l.value ≡ value_of (take l.digit-index l.digits);
  small : l.value < 2147483648;
}
