use Rattle.std.proofs.Common.{◌≡◌, ◌∙◌, None, ap, sym}
use Rattle.lb_maps.specs.CellMap.{at, held_now}
use Rattle.lb_cells.specs.StateCells.{or_else}
use Rattle.lb_record.specs.Recorded.{reads_of, setting_of}
use Rattle.lb_record.specs.Recording.{value_at}
use Rattle.lb_record.proofs.Noted.{pairs-of}
use Rattle.lb_record.proofs.recorder.Recorder.remembered.Goals as goal

pub returns-in-None-clause-value : goal.returns-in-None-clause-value
returns-in-None-clause-value c =
    let r = c.self.inside in
    let cell = c.args.cell.now in
    let noted = at (reads_of c.args.self.now) cell in
    let none : held_now None c.args.self.now.writes.entries cell ≡ None = ap (λ v. held_now None v.writes.entries cell) (sym c.self.view_is) ∙ sym c.in-None.ensures in
    c.value_at.ensures
    ∙ (λ i. value_at (c.as_slice.ensures i) (c.known_of-known.ensures i).place)
    ∙ c.self.invariant.placed.finds cell
    ∙ ap (λ l. at l cell) (sym (pairs-of (setting_of r.world.now r.guess.now) r.reads c.self.invariant.holds) ∙ ap reads_of c.self.view_is)
    ∙ ap (λ w. or_else w noted) (sym none)
