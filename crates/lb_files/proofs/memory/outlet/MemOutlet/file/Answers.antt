use Rattle.std.proofs.Common.{sym, ◌∙◌, ap, Some}
use Rattle.lb_model.specs.Journal.{content_of}
use Rattle.lb_files.proofs.Texts.{read_text, read_none}
use Rattle.lb_files.proofs.memory.outlet.MemOutlet.file.Goals as goal

pub returns-in-Some : goal.returns-in-Some
returns-in-Some c =
    ap Some (c.as_slice.ensures ∙ c.index.ensures)
    ∙ read_text _ c.self.inside.names c.self.inside.texts.items c.args.name.now c.index.result.now c.in-Some.at (sym c.place_of.ensures ∙ c.in-Some.is) c.self.invariant
    ∙ ap (λ o. content_of c.args.name.now o.journal) c.self.view_is

pub returns-in-None : goal.returns-in-None
returns-in-None c = read_none _ c.self.inside.names c.self.inside.texts.items c.args.name.now (sym c.place_of.ensures ∙ c.in-None.is) c.self.invariant ∙ ap (λ o. content_of c.args.name.now o.journal) c.self.view_is
