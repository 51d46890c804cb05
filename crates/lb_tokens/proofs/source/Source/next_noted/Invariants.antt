use Rattle.lb_model.specs.Settings.{Setting}
use Rattle.lb_model.specs.Sources.{texts}
use Rattle.lb_model.specs.Told.{Told}
use Rattle.lb_model.specs.Tokens.{categories}
use Rattle.lb_tokens.specs.Layers.{SourceGoesOn}
use Rattle.lb_tokens.proofs.source.Source.next_noted.Given as goal

abbrev pub invariant-texts : goal.invariant-texts
invariant-texts g l =
    let C = g.C.Cells in
    record {
      told : Told C l.cats l.fn.cats;
      same : (p : Setting) → C.agrees l.cats p → SourceGoesOn l.passes (categories p (C.meaning l.fn.cats p)) l.fn.place l.fn.self (C.notes l.fn.cats) l.place l.self (C.notes l.cats);
    }

abbrev pub decreases-texts : goal.decreases-texts
decreases-texts g l = texts l.self
