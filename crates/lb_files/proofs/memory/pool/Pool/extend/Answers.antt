use Rattle.std.proofs.Common.{take, sum, ◌∙◌, ap}
use Rattle.lb_files.proofs.Cut.{within, extended, total_extended}
use Rattle.lb_files.proofs.memory.pool.Pool.extend.Goals as goal

pub invariant_of-self : goal.invariant_of-self
invariant_of-self c =
    let lengths = c.self.inside.lengths.items in
    let bytes = c.self.inside.bytes.items in
    let at = c.args.at in
    let view = ap (λ p. p.texts) c.self.view_is in
    total_extended lengths bytes c.args.bytes.now c.insert.new.bytes.items at c.start_of.result c.index.result.now c.index_mut.result.now (within lengths bytes c.args.self.now.texts at view c.requires.at) (c.start_of.ensures.start ∙ ap (λ l. sum (take at l)) c.deref.ensures.value) c.index.ensures c.index_mut.ensures.value c.self.invariant c.insert.ensures.items

pub returns-clause-texts : goal.returns-clause-texts
returns-clause-texts c =
    let lengths = c.self.inside.lengths.items in
    let bytes = c.self.inside.bytes.items in
    let at = c.args.at in
    let view = ap (λ p. p.texts) c.self.view_is in
    extended lengths bytes c.args.bytes.now c.insert.new.bytes.items c.args.self.now.texts at c.start_of.result c.index.result.now c.index_mut.result.now (within lengths bytes c.args.self.now.texts at view c.requires.at) (c.start_of.ensures.start ∙ ap (λ l. sum (take at l)) c.deref.ensures.value) c.index.ensures c.index_mut.ensures.value c.self.invariant view c.insert.ensures.items
