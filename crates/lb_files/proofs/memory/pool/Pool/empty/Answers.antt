use Rattle.std.proofs.Common.{take, sum, ◌∙◌, ap}
use Rattle.lb_files.proofs.Cut.{within, emptied}
use Rattle.lb_files.proofs.memory.pool.Pool.empty.Goals as goal

pub returns-clause-texts : goal.returns-clause-texts
returns-clause-texts c =
    let lengths = c.self.inside.lengths.items in
    let bytes = c.self.inside.bytes.items in
    let at = c.args.at in
    let view = ap (λ p. p.texts) c.self.view_is in
    emptied lengths bytes c.remove.new.bytes.items c.args.self.now.texts at c.start_of-start.result c.index.result.now (within lengths bytes c.args.self.now.texts at view c.requires) (c.start_of-start.ensures.start ∙ ap (λ l. sum (take at l)) c.deref.ensures.value) c.index.ensures c.self.invariant view c.remove.ensures.items
