use Rattle.std.proofs.Common.{ap, refl}
use Rattle.lb_model_expansion.specs.Expansion.{internal_given, internal_to}
use Rattle.lb_quantities.specs.Finds.{internal_of}
use Rattle.lb_expand.specs.Opens.{reading_of}
use Rattle.lb_expand.proofs.CloseLemmas.{closes-turns, turns-after}
use Rattle.lb_expand.proofs.PassLemmas.{taken-passes}
use Rattle.lb_expand.proofs.feeder.Feeder.ask_innermost.Goals as goal

pub returns-in-Some-clause-turns : goal.returns-in-Some-clause-turns
returns-in-Some-clause-turns g c =
    let C = g.C.Cells in
    let r = reading_of c.in-Some.opened in
    let i = internal_of c.args.found in
    let desk = c.args.self.now.desk.now in
    let mid = record desk { readings = c.take.new.self } in
    turns-after c.ask.result (λ p h. h) (taken-passes C c.args.self.now.cells.now (λ readings d. internal_given readings i d) r desk mid (ap (λ readings. record desk { readings = readings }) c.in-Some.ensures)) refl refl
    (closes-turns (internal_to r.kind r.given i) c.ask.result c.ask.ensures.closes)
