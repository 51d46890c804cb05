use Rattle.std.proofs.Common.{◌∙◌, ap, sym}
use Rattle.lb_base.specs.declared.token.Tok.{Tok}
use Rattle.lb_model.specs.Configs.{Config, looks_of_meaning}
use Rattle.lb_model.specs.Same.{same_meaning}
use Rattle.lb_model_expansion.specs.Expansion.{decided, meaning_of_token}
use Rattle.lb_model_expansion.specs.Steps.{Performed, looking}
use Rattle.lb_model_grammar.specs.Conditionals.{if_true}
use Rattle.lb_model.specs.Meanings.{token_meaning}
use Rattle.lb_expand.proofs.PassLemmas.{looks-passes, passes-then, performs-after, told-passes, value-passes}
use Rattle.lb_expand.proofs.feeder.Feeder.compare.Goals as goal

-- what the two tokens choose
chosen : Tok → Tok → Config → Performed
chosen first second c = decided (if_true (same_meaning (meaning_of_token c first) (meaning_of_token c second))) c

pub returns-clause-performs : goal.returns-clause-performs
unfolding chosen
returns-clause-performs g c =
    let C = g.C.Cells in
    let first = c.args.first.now in
    let second = c.args.second.now in
    let desk = c.args.self.now.desk.now in
    let one = c.in_ok-one.ensures in
    let other = c.in_ok-other.ensures in
    performs-after c.begin_part.result (λ p h. one.told.narrows p (other.told.narrows p h))
    (
    passes-then (λ p h. one.told.narrows p (other.told.narrows p h)) (looks-passes C (looks_of_meaning first) (looks_of_meaning second) (chosen first second) c.args.self.now.cells.now desk)
    (
    passes-then other.told.narrows (told-passes C (looks_of_meaning first) (λ d. looking (looks_of_meaning second) (chosen first second d)) one.told one.notes)
    (
    passes-then (λ p h. h) (told-passes C (looks_of_meaning second) (chosen first second) other.told other.notes)
    (
    value-passes C (λ d. if_true (same_meaning (meaning_of_token d first) (meaning_of_token d second))) decided c.if_true.result
    (
    λ p h.
    let before = other.told.narrows p h in
    (
    λ i.
    if_true (same_meaning
    (
    (ap (λ k. token_meaning p.world k.now first) (other.told.stays p h ∙ one.told.stays p before) ∙ one.value p before) i)
    ((ap (λ k. token_meaning p.world k.now second) (other.told.stays p h) ∙ other.value p h) i)
    )
    )
    ∙ ap if_true (sym c.same_meaning.ensures)
    ∙ sym c.if_true.ensures
    )
    )
    )
    )
    )
    (other.told.made ∙ one.told.made) (other.told.loan ∙ one.told.loan) c.begin_part.ensures.performs
