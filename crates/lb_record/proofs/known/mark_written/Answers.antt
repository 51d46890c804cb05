use Rattle.std.proofs.Common.{◌∙◌, true}
use Rattle.lb_values.specs.Kept.{put}
use Rattle.lb_maps.proofs.Saved.{held_now-put}
use Rattle.lb_record.specs.Recording.{known_of, unknown}
use Rattle.lb_record.proofs.Placed.{marked-already, not-false}
use Rattle.lb_record.proofs.known.mark_written.Goals as goal

pub returns-in_ok-make_entry-clause-ok : goal.returns-in_ok-make_entry-clause-ok
returns-in_ok-make_entry-clause-ok c =
    held_now-put unknown c.make_entry.new.self c.replace.new.self c.args.cell.now _ c.replace.ensures
    ∙ (λ i. put c.args.cell.now (record { place = (c.known_of-before.ensures i).place; written = true }) (c.make_entry.ensures.same i))

pub returns-else-not-before-clause-ok : goal.returns-else-not-before-clause-ok
returns-else-not-before-clause-ok c = marked-already (known_of c.args.known.now) c.args.cell.now (not-false _ (rw c.known_of-before.ensures at c.if-not-before.false))
