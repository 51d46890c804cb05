use Rattle.std.proofs.Common.{◌≡◌, append_assoc, w32, rules, ap, refl, ◌∙◌}
use Rattle.std.proofs.lemmas.Int.{to_z-of_z}
use mir.Val.{SFits}
use Rattle.lb_model_paper.specs.Dvi.{Pen}
use Rattle.lb_dvi.proofs.Lengths.{small-read, sum-fits, sum-read, pen-same, font-either}
use Rattle.lb_dvi.proofs.pen.Pen.push_mark.Goals as goal

pub overflow_add-self : goal.overflow_add-self
overflow_add-self c =
    let s = rw c.in-Char.is at c.requires.small in
    let f : SFits w32 c.in-Char.h = search rules in
    let g : SFits w32 c.in-Char.width = search rules in
    sum-fits c.in-Char.h c.in-Char.width f g s.right

pub invariant_of-self-in-Char : goal.invariant_of-self-in-Char
invariant_of-self-in-Char c =
    let s = rw c.in-Char.is at c.requires.small in
    let f : SFits w32 c.in-Char.h = search rules in
    let g : SFits w32 c.in-Char.width = search rules in
    record { near = (rw (sum-read c.in-Char.h c.in-Char.width f g s.right) s.right, rw (small-read c.in-Char.v s.baseline) s.baseline) }

pub returns-in_ok-push_character-in-Char-clause-bytes : goal.returns-in_ok-push_character-in-Char-clause-bytes
returns-in_ok-push_character-in-Char-clause-bytes c =
    let s = rw c.in-Char.is at c.requires.small in
    rw (c.in-Char.is, c.in_ok-push_character-in-Char.ensures, c.in_ok-select_font-in-Char.ensures.bytes, c.in_ok-push_moves-in-Char.ensures, small-read c.in-Char.h s.left, small-read c.in-Char.v s.baseline)
    (simp append_assoc)

pub returns-in_ok-push_character-in-Char-clause-pen : goal.returns-in_ok-push_character-in-Char-clause-pen
returns-in_ok-push_character-in-Char-clause-pen c =
    let s = rw c.in-Char.is at c.requires.small in
    let f : SFits w32 c.in-Char.h = search rules in
    let g : SFits w32 c.in-Char.width = search rules in
    rw c.in-Char.is
    (pen-same _ _ _ _ _ _ (sum-read c.in-Char.h c.in-Char.width f g s.right) (small-read c.in-Char.v s.baseline) c.in_ok-select_font-in-Char.ensures.present)

pub returns-in_ok-push_rule-in-Rule-clause-bytes : goal.returns-in_ok-push_rule-in-Rule-clause-bytes
returns-in_ok-push_rule-in-Rule-clause-bytes c =
    let s = rw c.in-Rule.is at c.requires.small in
    let f : SFits w32 c.in-Rule.height = search rules in
    let g : SFits w32 c.in-Rule.width = search rules in
    rw (c.in-Rule.is, c.in_ok-push_rule-in-Rule.ensures.bytes, small-read c.in-Rule.h s.left, small-read c.in-Rule.v s.lower, to_z-of_z w32 c.in-Rule.height f, to_z-of_z w32 c.in-Rule.width g)

pub returns-in_ok-push_rule-in-Rule-clause-known : goal.returns-in_ok-push_rule-in-Rule-clause-known
returns-in_ok-push_rule-in-Rule-clause-known c =
    let e = ap (λ (p : Pen). p.font) c.in_ok-push_rule-in-Rule.ensures.pen in
    let same : c.push_rule.new.self.font ≡ c.args.self.now.font = e ∙ font-either _ _ _ refl in
    rw same c.requires.known

pub returns-in_ok-push_rule-in-Rule-clause-pen : goal.returns-in_ok-push_rule-in-Rule-clause-pen
returns-in_ok-push_rule-in-Rule-clause-pen c =
    let s = rw c.in-Rule.is at c.requires.small in
    let f : SFits w32 c.in-Rule.height = search rules in
    let g : SFits w32 c.in-Rule.width = search rules in
    let pen = rw (small-read c.in-Rule.h s.left, small-read c.in-Rule.v s.lower, to_z-of_z w32 c.in-Rule.height f, to_z-of_z w32 c.in-Rule.width g) at c.in_ok-push_rule-in-Rule.ensures.pen in
    rw c.in-Rule.is pen
