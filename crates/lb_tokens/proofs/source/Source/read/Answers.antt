use Rattle.std.proofs.Common.{◌∙◌, ◌++◌, List, IfOk, IfErr, map, reverse, ap, sym, subst}
use Rattle.std.specs.Prelude.{Bool}
use Rattle.lb_model.specs.declared.place.Got.TheVariants.{Fault as GotFault}
use Rattle.lb_model.specs.Settings.{Setting}
use Rattle.lb_model.specs.Sources.{Item, texts}
use Rattle.lb_model.specs.Sources.Item.{Pending}
use Rattle.lb_model.specs.Stops.{MayStopAt}
use Rattle.lb_model.specs.Tokens.{categories}
use Rattle.lb_tokens.specs.Layers.{Gave, SourceGave, begins_pending, stands_at_text, texts_of}
use Rattle.lb_tokens.proofs.LayerLemmas.{no_toks, nothing_pending, pending_over, texts_map}
use Rattle.lb_tokens.proofs.source.Source.read.Goals as goal

pub invariant_of-self : goal.invariant_of-self
invariant_of-self g c =
    let s = c.self.inside in
    c.self.invariant ∙ sym (pending_over s.stack (texts_of (reverse s.layers.items)) (texts_of (reverse c.read_last.new.layers.items)) c.read_last.ensures.pending)

pub returns-clause-gave : goal.returns-clause-gave
returns-clause-gave g c =
    let C = g.C.Cells in
    let s = c.self.inside in
    let none = no_toks s.stack (texts_of (reverse s.layers.items)) (ap begins_pending c.self.view_is ∙ c.requires) in
    let old = sym (nothing_pending s.stack (texts_of (reverse s.layers.items)) (ap begins_pending c.self.view_is ∙ c.requires)) ∙ c.self.view_is in
    let new = sym (ap (λ toks. map Pending toks ++ texts_of (reverse c.read_last.new.layers.items)) none) in
    subst (λ (n : List Item). IfOk c.read_last.result (λ next. (p : Setting) → C.agrees c.read_last.new.cats p → Gave (categories p (C.meaning c.args.cats.now p)) next c.args.place.now c.args.self.now (C.notes c.args.cats.now) c.read_last.new.place n (C.notes c.read_last.new.cats))) new
    (subst (λ (o : List Item). IfOk c.read_last.result (λ next. (p : Setting) → C.agrees c.read_last.new.cats p → Gave (categories p (C.meaning c.args.cats.now p)) next c.args.place.now o (C.notes c.args.cats.now) c.read_last.new.place (texts_of (reverse c.read_last.new.layers.items)) (C.notes c.read_last.new.cats))) old
    c.read_last.ensures.gave)

pub returns-clause-fault : goal.returns-clause-fault
returns-clause-fault g c =
    let C = g.C.Cells in
    let s = c.self.inside in
    let none = no_toks s.stack (texts_of (reverse s.layers.items)) (ap begins_pending c.self.view_is ∙ c.requires) in
    let old = sym (nothing_pending s.stack (texts_of (reverse s.layers.items)) (ap begins_pending c.self.view_is ∙ c.requires)) ∙ c.self.view_is in
    let new = sym (ap (λ toks. map Pending toks ++ texts_of (reverse c.read_last.new.layers.items)) none) in
    subst (λ (n : List Item). IfErr c.read_last.result (λ e. MayStopAt e (λ k. (p : Setting) → C.agrees c.read_last.new.cats p → (passes : Bool) → SourceGave passes (categories p (C.meaning c.args.cats.now p)) (GotFault k) c.args.place.now c.args.self.now (C.notes c.args.cats.now) c.read_last.new.place n (C.notes c.read_last.new.cats)))) new
    (subst (λ (o : List Item). IfErr c.read_last.result (λ e. MayStopAt e (λ k. (p : Setting) → C.agrees c.read_last.new.cats p → (passes : Bool) → SourceGave passes (categories p (C.meaning c.args.cats.now p)) (GotFault k) c.args.place.now o (C.notes c.args.cats.now) c.read_last.new.place (texts_of (reverse c.read_last.new.layers.items)) (C.notes c.read_last.new.cats)))) old
    c.read_last.ensures.fault)

pub returns-clause-stands : goal.returns-clause-stands
returns-clause-stands g c =
    let s = c.self.inside in
    let none = no_toks s.stack (texts_of (reverse s.layers.items)) (ap begins_pending c.self.view_is ∙ c.requires) in
    subst (λ (n : List Item). IfOk c.read_last.result (λ next. stands_at_text next n)) (sym (ap (λ toks. map Pending toks ++ texts_of (reverse c.read_last.new.layers.items)) none)) c.read_last.ensures.stands

pub returns-clause-texts : goal.returns-clause-texts
returns-clause-texts g c =
    let s = c.self.inside in
    texts_map s.stack (texts_of (reverse c.read_last.new.layers.items)) ∙ c.read_last.ensures.texts ∙ sym (texts_map s.stack (texts_of (reverse s.layers.items))) ∙ ap texts c.self.view_is
