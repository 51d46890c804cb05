-- What a list means, whatever stands behind the end of the reading.
use Rattle.std.specs.Prelude.{[]}
use Rattle.lb_model_grammar.specs.Scans.{Meant}
use Rattle.lb_model_grammar.specs.Scans.Meant.{Open, Ended, Wrong}

-- a meaning without what stands behind its end
abbrev pub without_rest : {X : Type 0} → Meant X → Meant X
without_rest (Open asked) = Open asked
without_rest (Ended x rest) = Ended x []
without_rest (Wrong kind) = Wrong kind
