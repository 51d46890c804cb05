use Rattle.std.proofs.Common.{◌≡◌, ◌+◌, ◌++◌, map, take, vec_len, vec_capacity}
use Rattle.lb_files.specs.declared.memory.sure_outlet.Step.TheVariants.{Byte}
use Rattle.lb_files.proofs.memory.sure_outlet.push_bytes.Given as goal

abbrev pub invariant-loop-byte : goal.invariant-loop-byte
invariant-loop-byte l = (l.steps.items ≡ l.fn.steps.items ++ map (λ b. Byte l.at b) (take l.byte-index l.bytes)) × (vec_len l.steps ≡ vec_len l.fn.steps + l.byte-index) × (vec_capacity l.steps ≡ vec_capacity l.fn.steps)
