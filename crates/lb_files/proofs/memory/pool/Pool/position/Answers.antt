use Rattle.std.proofs.Common.{zero-add, ◌∙◌, nat_eq}
use Rattle.std.proofs.lemmas.Iterator.Adapters.{position_from-zero}
use lib.Pointwise.{pointwise}
use Rattle.lb_files.specs.Cut.{cut}
use Rattle.lb_files.proofs.memory.pool.Pool.position.Goals as goal

pub loop-at-init : goal.loop-at-init
loop-at-init c =
    let lengths = c.self.inside.lengths.items in
    let bytes = c.self.inside.bytes.items in
    record { left = zero-add _ ∙ c.self.invariant; as_whole = position_from-zero (pointwise nat_eq c.args.text.now) (cut lengths bytes) }
