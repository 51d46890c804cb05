use Rattle.std.proofs.Common.{◌∙◌, ◌+◌, Some, None, ap, sym, arith, drop}
use Rattle.std.specs.Option.{option_map}
use Rattle.lb_model.specs.Tokens.{categories, noted_codes, character}
use Rattle.lb_tokens.proofs.Characters.{found, slice_within, replacement-slice, noted_alone, noted_replaced, seen_replaced}
use Rattle.lb_tokens.proofs.examined.examine.Goals as goal

pub returns-in-None-clause-character : goal.returns-in-None-clause-character
returns-in-None-clause-character g c =
    let C = g.C.Cells in
    let l = c.loop-category in
    let none = replacement-slice c.in_ok-category.category l.code c.args.line.now l.after c.replacement.result None c.replacement.ensures.is c.in-None.is in
    λ p h.
    let before = c.category.ensures.tells.narrows p h in
    let is = (λ i. categories p (sym (l.invariant.stays p before) i) l.code) ∙ c.in_ok-category.ensures.tells.value p h in
    found (categories p (C.meaning c.args.cats.now p)) c.args.line.now c.args.at l.code l.after c.in_ok-category.category c.requires is none (l.invariant.same p before)

pub returns-in-None-clause-notes : goal.returns-in-None-clause-notes
returns-in-None-clause-notes g c =
    let C = g.C.Cells in
    let l = c.loop-category in
    let none = replacement-slice c.in_ok-category.category l.code c.args.line.now l.after c.replacement.result None c.replacement.ensures.is c.in-None.is in
    λ p h.
    let before = c.category.ensures.tells.narrows p h in
    let is = (λ i. categories p (sym (l.invariant.stays p before) i) l.code) ∙ c.in_ok-category.ensures.tells.value p h in
    c.in_ok-category.ensures.tells.notes
    ∙ noted_alone (categories p (C.meaning c.args.cats.now p)) l.code (drop l.after c.args.line.now) c.in_ok-category.category (C.notes l.cats) is none
    ∙ l.invariant.notes p before

pub loop-category-preserved : goal.loop-category-preserved
loop-category-preserved g c =
    let C = g.C.Cells in
    let l = c.loop-category in
    let r = c.in-Some in
    let some = replacement-slice c.in_ok-category.category l.code c.args.line.now l.after c.replacement.result (Some (r.result, r.width)) c.replacement.ensures.is r.is in
    record {
      narrows = λ p h. l.invariant.narrows p (c.category.ensures.tells.narrows p h);
      stays = λ p h. c.in_ok-category.ensures.tells.stays p h ∙ l.invariant.stays p (c.category.ensures.tells.narrows p h);
      same = λ p h.
          let before = c.category.ensures.tells.narrows p h in
          let is = (λ i. categories p (sym (l.invariant.stays p before) i) l.code) ∙ c.in_ok-category.ensures.tells.value p h in
          seen_replaced (categories p (C.meaning c.args.cats.now p)) l.code c.args.line.now l.after c.in_ok-category.category r.result r.width is some ∙ l.invariant.same p before;
      notes = λ p h.
          let before = c.category.ensures.tells.narrows p h in
          let is = (λ i. categories p (sym (l.invariant.stays p before) i) l.code) ∙ c.in_ok-category.ensures.tells.value p h in
          let cats = categories p (C.meaning c.args.cats.now p) in
          ap (option_map (noted_codes (character cats r.result (drop (l.after + r.width) c.args.line.now)).examined)) c.in_ok-category.ensures.tells.notes
          ∙ noted_replaced cats l.code c.args.line.now l.after c.in_ok-category.category r.result r.width (C.notes l.cats) is some
          ∙ l.invariant.notes p before;
      made = c.category.ensures.tells.made ∙ l.invariant.made;
      loan = c.category.ensures.tells.loan ∙ l.invariant.loan;
      grows = omega arith;
      within = slice_within c.args.line.now l.after r.width l.invariant.within r.ensures.within;
      unmarked = λ h. absurd (omega (arith, h, r.ensures.width, l.invariant.grows));
    }
