use Rattle.std.proofs.Common.{rules, ◌≡◌, ◌++◌, None, Some}
use Rattle.lb_model_nest.specs.Pages.{notes_of, notes_written}
use Rattle.lb_nest.specs.Appends.{note_appends}
use Rattle.lb_nest.proofs.NoteLemmas.{notes-work, works-as}
use Rattle.lb_nest.proofs.notes.write_notes.Goals as goal

pub returns-in_default-clause-works : goal.returns-in_default-clause-works
returns-in_default-clause-works c =
    let none : c.args.number ≡ None = search rules in
    λ left. works-as (λ t. notes_written t (notes_of c.args.nodes.now)) c.refuse_notes.result none (c.refuse_notes.ensures.works left)

pub returns-clause-works : goal.returns-clause-works
returns-clause-works c =
    let a = c.args in
    let some : a.number ≡ Some c.in_ok-number.number = search rules in
    let is : c.push_notes.new.entries ≡ a.nest.now.entries ++ note_appends c.in_ok-number.number (notes_of a.nodes.now) = search rules in
    λ left. works-as (λ t. notes_written t (notes_of a.nodes.now)) _ some (notes-work c.in_ok-number.number (notes_of a.nodes.now) a.nest.now c.push_notes.new.entries left is)
