use Rattle.std.proofs.Common.{◌∙◌, ◌++◌, ap, sym, append_assoc, take}
use Rattle.std.specs.Option.{option_map}
use Rattle.lb_values.specs.declared.cell.Cell.TheVariants.{Counter}
use Rattle.lb_model.specs.Settings.{noted}
use Rattle.lb_model_aux.specs.Checkpoints.{numbered}
use Rattle.lb_model_journal.specs.Written.{counter_line}
use Rattle.lb_aux.specs.Texts.{counter_lines}
use Rattle.lb_aux.proofs.Counters.{lines-more, notes-more}
use Rattle.lb_aux.proofs.checkpoint.push_counters.Goals as goal

pub loop-name-preserved : goal.loop-name-preserved
loop-name-preserved g c =
    let names = c.args.names.now in
    let i = c.loop-name.name-index in
    let name = c.name-item.result in
    let inv = c.loop-name.invariant in
    let next = c.in_ok-push_held.ensures in
    record {
      told = record {
        narrows = λ p a. inv.told.narrows p (next.told.narrows p a);
        stays = λ p a. next.told.stays p a ∙ inv.told.stays p (next.told.narrows p a);
        made = next.told.made ∙ inv.told.made;
        loan = next.told.loan ∙ inv.told.loan;
      };
      text = λ p a.
          let before = next.told.narrows p a in
          next.text p a
          ∙ (λ j. inv.text p before j ++ counter_line (numbered p.world (inv.told.stays p before j).now name))
          ∙ append_assoc c.args.text.now (counter_lines p.world (g.C.Cells.meaning c.args.cells.now p).now (take i names)) (counter_line (numbered p.world (g.C.Cells.meaning c.args.cells.now p).now name))
          ∙ ap (λ l. c.args.text.now ++ l) (sym (lines-more p.world (g.C.Cells.meaning c.args.cells.now p).now names i name c.loop-name-test.true c.name-item.is));
      notes = next.notes ∙ ap (option_map (noted (Counter name))) inv.notes ∙ notes-more names i name (g.C.Cells.notes c.args.cells.now) c.loop-name-test.true c.name-item.is;
    }
