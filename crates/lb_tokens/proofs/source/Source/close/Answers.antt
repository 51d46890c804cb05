use Rattle.std.proofs.Common.{◌∙◌, reverse, ap, sym}
use Rattle.lb_model.specs.Sources.{pending}
use Rattle.lb_tokens.specs.Layers.{behind_text, begins_pending, texts_of}
use Rattle.lb_tokens.proofs.LayerLemmas.{no_toks, nothing_pending}
use Rattle.lb_tokens.proofs.source.Source.close.Goals as goal

pub close_last-requires : goal.close_last-requires
close_last-requires c = no_toks c.self.inside.stack (texts_of (reverse c.self.inside.layers.items)) (ap begins_pending c.self.view_is ∙ c.requires)

pub invariant_of-self : goal.invariant_of-self
invariant_of-self c =
    let s = c.self.inside in
    c.self.invariant ∙ ap pending (nothing_pending s.stack (texts_of (reverse s.layers.items)) (ap begins_pending c.self.view_is ∙ c.requires)) ∙ sym c.close_last.ensures.pending

pub returns : goal.returns
returns c =
    let s = c.self.inside in
    c.close_last.ensures.closed ∙ ap behind_text (sym (nothing_pending s.stack (texts_of (reverse s.layers.items)) (ap begins_pending c.self.view_is ∙ c.requires)) ∙ c.self.view_is)
