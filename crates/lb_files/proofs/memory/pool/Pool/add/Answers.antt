use Rattle.std.proofs.Common.{[], ◌∷◌, ◌++◌, ◌∙◌, ap, ap₂}
use Rattle.lb_files.specs.Cut.{cut}
use Rattle.lb_files.proofs.Cut.{cut_push}
use Rattle.lb_files.proofs.memory.pool.Pool.add.Goals as goal

pub returns-clause-texts : goal.returns-clause-texts
returns-clause-texts c =
    ap₂ cut c.push_reserved.ensures.items c.put.ensures.items
    ∙ cut_push c.self.inside.lengths.items c.self.inside.bytes.items c.args.text.now c.self.invariant ∙ ap (λ p. p.texts ++ c.args.text.now ∷ []) c.self.view_is
