use Rattle.std.proofs.Common.{subst}
use Rattle.lb_model.specs.Tokens.{categories}
use Rattle.lb_tokens.specs.Layers.{Stands}
use Rattle.lb_tokens.proofs.LayerLemmas.{gives_none, gives_pending}
use Rattle.lb_tokens.proofs.source.Source.next_noted.Goals as goal

pub returns-in-Tok-clause-gave : goal.returns-in-Tok-clause-gave
returns-in-Tok-clause-gave g c =
    let C = g.C.Cells in
    λ p h.
    gives_pending c.args.passes (categories p (C.meaning c.args.cats.now p)) c.args.place.now c.texts.place c.args.self.now c.texts.self c.pop.new.self (C.notes c.args.cats.now) (C.notes c.texts.cats) c.in-Tok.tok (c.texts.invariant.same p h)
    (subst (λ s. Stands s c.texts.self c.pop.new.self) c.in-Tok.is c.in_ok-tok.ensures.ok)

pub returns-in-Boundary-clause-gave : goal.returns-in-Boundary-clause-gave
returns-in-Boundary-clause-gave g c =
    let C = g.C.Cells in
    λ p h.
    gives_none c.args.passes (categories p (C.meaning c.args.cats.now p)) c.args.place.now c.texts.place c.args.self.now c.texts.self c.pop.new.self (C.notes c.args.cats.now) (C.notes c.texts.cats) (c.texts.invariant.same p h)
    (subst (λ s. Stands s c.texts.self c.pop.new.self) c.in-Boundary.is c.in_ok-tok.ensures.ok)
