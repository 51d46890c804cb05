use Rattle.std.proofs.Common.{◌≡◌, true, cond, map, sym, ◌∙◌, ap, Some, None, nat_eq, rules}
use Rattle.std.specs.List.{position}
use lib.Pointwise.{pointwise}
use Rattle.lb_model.specs.Journal.{content_of}
use Rattle.lb_files.specs.Steps.{entry_of}
use Rattle.lb_files.proofs.Texts.{read_text, read_none, where_told}
use Rattle.lb_files.proofs.memory.sure_outlet.SureOutlet.file.Goals as goal

pub returns-in-Some : goal.returns-in-Some
returns-in-Some c =
    let names = c.self.inside.names.texts in
    let journal = map (entry_of names) c.self.inside.steps.items in
    let whole : c.self.inside.is_whole ≡ true = search rules in
    let found : position (pointwise nat_eq c.args.name.now) names ≡ Some c.in-Some.at = ap (λ t. position (pointwise nat_eq t) names) (sym c.as_slice.ensures) ∙ sym c.position.ensures ∙ c.in-Some.is in
    where_told c.args.self.now.journal journal (λ j. Some c.text.result.now ≡ content_of c.args.name.now j) (sym (ap (λ o. o.journal) c.self.view_is) ∙ ap (λ b. cond b (Some journal) None) whole)
    (ap Some c.text.ensures ∙ read_text journal names c.self.inside.texts.texts c.args.name.now _ c.in-Some.at found (c.self.invariant.0 whole).keeps)

pub returns-in-None : goal.returns-in-None
returns-in-None c =
    let names = c.self.inside.names.texts in
    let journal = map (entry_of names) c.self.inside.steps.items in
    let whole : c.self.inside.is_whole ≡ true = search rules in
    let found : position (pointwise nat_eq c.args.name.now) names ≡ None = ap (λ t. position (pointwise nat_eq t) names) (sym c.as_slice.ensures) ∙ sym c.position.ensures ∙ c.in-None.is in
    where_told c.args.self.now.journal journal (λ j. None ≡ content_of c.args.name.now j) (sym (ap (λ o. o.journal) c.self.view_is) ∙ ap (λ b. cond b (Some journal) None) whole)
    (read_none journal names c.self.inside.texts.texts c.args.name.now found (c.self.invariant.0 whole).keeps)
