use Rattle.std.proofs.Common.{◌+◌, ◌-◌, take, drop, sum, ◌∙◌, ap}
use Rattle.lb_files.proofs.Cut.{within, read_there}
use Rattle.lb_files.proofs.memory.pool.Pool.text.Goals as goal

pub returns : goal.returns
returns c =
    let lengths = c.self.inside.lengths.items in
    let bytes = c.self.inside.bytes.items in
    let at = c.args.at in
    let view = ap (λ p. p.texts) c.self.view_is in
    let start = c.start_of-start.result in
    let n = c.index.result.now in
    ap (λ b. take (start + n - start) (drop start b)) c.deref-2.ensures.value
    ∙ read_there lengths bytes c.args.self.now.texts at start n (within lengths bytes c.args.self.now.texts at view c.requires) (c.start_of-start.ensures.start ∙ ap (λ l. sum (take at l)) c.deref.ensures.value) c.index.ensures view
