use Rattle.std.proofs.Common.{◌≡◌, length}
use Rattle.lb_model.specs.Settings.{Setting}
use Rattle.lb_model.specs.Told.{Told}
use Rattle.lb_model.specs.Tokens.{categories}
use Rattle.lb_tokens.specs.Texts.{TextGoesOn}
use Rattle.lb_tokens.proofs.text.Text.next.Given as goal

abbrev pub invariant-lines : goal.invariant-lines
invariant-lines g l =
    let C = g.C.Cells in
    record {
      told : Told C l.cats l.fn.cats;
      same : (p : Setting) → C.agrees l.cats p → TextGoesOn (categories p (C.meaning l.fn.cats p)) l.fn.self l.self (C.notes l.fn.cats) (C.notes l.cats);
      file : l.self.file ≡ l.fn.self.file;
    }

abbrev pub decreases-lines : goal.decreases-lines
decreases-lines g l = length l.self.later
