use Rattle.std.proofs.Common.{◌≡◌, drop}
use Rattle.std.specs.Prelude.{◌==◌}
use Rattle.std.specs.List.{position_from}
use Rattle.lb_tfm_make.proofs.programs.place_among.Given as goal

abbrev pub invariant-loop-place : goal.invariant-loop-place
invariant-loop-place l = position_from (λ other. other == l.code) l.place (drop l.place l.codes) ≡ position_from (λ other. other == l.code) 0 l.codes
