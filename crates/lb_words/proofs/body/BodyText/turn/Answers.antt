use Rattle.std.proofs.Common.{◌∙◌, [], ap, sym, map}
use Rattle.std.proofs.lemmas.List.{append-nil}
use Rattle.lb_model_grammar.specs.declared.given.Given.TheVariants.{Tok as AToken}
use Rattle.lb_model_grammar.specs.Words.{body}
use Rattle.lb_words.specs.Rest.{without_rest}
use Rattle.lb_words.specs.Standing.{body_after}
use Rattle.lb_words.proofs.body.BodyText.turn.Goals as goal

pub returns-in-Open-clause-turn : goal.returns-in-Open-clause-turn
returns-in-Open-clause-turn c =
    let s = c.self.inside in
    let given = map AToken s.past.items in
    ap (λ l. without_rest (body 0 [] l)) (sym c.self.view_is ∙ sym (append-nil given)) ∙ c.self.invariant.more [] ∙ ap (λ g. body_after g s.toks []) c.in-Open.is

pub returns-in-Ended-clause-turn : goal.returns-in-Ended-clause-turn
returns-in-Ended-clause-turn c =
    let s = c.self.inside in
    let given = map AToken s.past.items in
    ap (λ l. without_rest (body 0 [] l)) (sym c.self.view_is ∙ sym (append-nil given)) ∙ c.self.invariant.more [] ∙ ap (λ g. body_after g s.toks []) c.in-Ended.is

pub returns-in-Wrong-clause-turn : goal.returns-in-Wrong-clause-turn
returns-in-Wrong-clause-turn c =
    let s = c.self.inside in
    let given = map AToken s.past.items in
    ap (λ l. without_rest (body 0 [] l)) (sym c.self.view_is ∙ sym (append-nil given)) ∙ c.self.invariant.more [] ∙ ap (λ g. body_after g s.toks []) c.in-Wrong.is
