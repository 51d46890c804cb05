use Rattle.std.proofs.Common.{◌∙◌, Some, ap, sym, arith, drop}
use Rattle.std.specs.Option.{option_map}
use Rattle.std.proofs.lemmas.List.{drop_all}
use Rattle.lb_model.specs.Tokens.{categories, characters, control_sequence, next_token, noted_codes}
use Rattle.lb_tokens.specs.Parts.{first_character}
use Rattle.lb_tokens.proofs.Words.{always, splits, notes_of}
use Rattle.lb_tokens.proofs.Readings.{taken_told, stop_told, skips, takes, escapes, ends, looks_here, looks_behind, looks_at_end}
use Rattle.lb_tokens.proofs.reader.step.Goals as goal

pub returns-then-is_escape-clause-read : goal.returns-then-is_escape-clause-read
returns-then-is_escape-clause-read g c =
    let C = g.C.Cells in
    let l = c.loop-at in
    let n = c.in_ok-next in
    let line = c.args.line.now in
    let s = c.in_ok-control_sequence in
    λ p h.
    let there = c.control_sequence.ensures.told.narrows p h in
    let before = c.examine.ensures.told.narrows p there in
    let split = splits p (C.meaning l.cats p) (C.meaning c.args.cats.now p) line l.at n.next (l.invariant.stays p before) (n.ensures.character p there) in
    let same = c.examine.ensures.told.stays p there ∙ l.invariant.stays p before in
    l.invariant.read p before ∙ ap (λ t. t.read) (escapes (categories p (C.meaning c.args.cats.now p)) c.args.state line l.at n.next split (sym c.is_escape.ensures ∙ c.if-is_escape.true))
    ∙ sym (λ i. (control_sequence (characters (categories p (same i)) (drop n.next.after line))).read) ∙ s.ensures.read p h

pub returns-then-is_escape-clause-state : goal.returns-then-is_escape-clause-state
returns-then-is_escape-clause-state g c =
    let C = g.C.Cells in
    let l = c.loop-at in
    let n = c.in_ok-next in
    let line = c.args.line.now in
    let s = c.in_ok-control_sequence in
    λ p h.
    let there = c.control_sequence.ensures.told.narrows p h in
    let before = c.examine.ensures.told.narrows p there in
    let split = splits p (C.meaning l.cats p) (C.meaning c.args.cats.now p) line l.at n.next (l.invariant.stays p before) (n.ensures.character p there) in
    let same = c.examine.ensures.told.stays p there ∙ l.invariant.stays p before in
    l.invariant.state p before ∙ ap (λ t. t.state) (escapes (categories p (C.meaning c.args.cats.now p)) c.args.state line l.at n.next split (sym c.is_escape.ensures ∙ c.if-is_escape.true))
    ∙ sym (λ i. (control_sequence (characters (categories p (same i)) (drop n.next.after line))).state) ∙ s.ensures.state p h

pub returns-then-is_escape-clause-rest : goal.returns-then-is_escape-clause-rest
returns-then-is_escape-clause-rest g c =
    let C = g.C.Cells in
    let l = c.loop-at in
    let n = c.in_ok-next in
    let line = c.args.line.now in
    let s = c.in_ok-control_sequence in
    λ p h.
    let there = c.control_sequence.ensures.told.narrows p h in
    let before = c.examine.ensures.told.narrows p there in
    let split = splits p (C.meaning l.cats p) (C.meaning c.args.cats.now p) line l.at n.next (l.invariant.stays p before) (n.ensures.character p there) in
    let same = c.examine.ensures.told.stays p there ∙ l.invariant.stays p before in
    l.invariant.rest p before ∙ ap (λ t. t.rest) (escapes (categories p (C.meaning c.args.cats.now p)) c.args.state line l.at n.next split (sym c.is_escape.ensures ∙ c.if-is_escape.true))
    ∙ sym (λ i. (control_sequence (characters (categories p (same i)) (drop n.next.after line))).rest) ∙ s.ensures.rest p h

pub returns-then-is_escape-clause-notes : goal.returns-then-is_escape-clause-notes
returns-then-is_escape-clause-notes g c =
    let C = g.C.Cells in
    let l = c.loop-at in
    let n = c.in_ok-next in
    let line = c.args.line.now in
    let s = c.in_ok-control_sequence in
    λ p h.
    let there = c.control_sequence.ensures.told.narrows p h in
    let before = c.examine.ensures.told.narrows p there in
    let split = splits p (C.meaning l.cats p) (C.meaning c.args.cats.now p) line l.at n.next (l.invariant.stays p before) (n.ensures.character p there) in
    let told = notes_of p (C.meaning l.cats p) (C.meaning c.args.cats.now p) line l.at (C.notes l.cats) (C.notes c.examine.new.cats) (l.invariant.stays p before) (n.ensures.notes p there) in
    let same = c.examine.ensures.told.stays p there ∙ l.invariant.stays p before in
    let cats = (categories p (C.meaning c.args.cats.now p)) in
    s.ensures.notes p h
    ∙ (λ i. option_map (noted_codes (control_sequence (characters (categories p (same i)) (drop n.next.after line))).examined) (C.notes c.examine.new.cats))
    ∙ looks_behind cats c.args.state line l.at n.next (control_sequence (characters cats (drop n.next.after line))) (C.notes l.cats) (C.notes c.examine.new.cats) _ (escapes cats c.args.state line l.at n.next split (sym c.is_escape.ensures ∙ c.if-is_escape.true)) told (l.invariant.notes p before)

pub returns-then-not-is_skipped-clause-read : goal.returns-then-not-is_skipped-clause-read
returns-then-not-is_skipped-clause-read g c =
    let C = g.C.Cells in
    let l = c.loop-at in
    let n = c.in_ok-next in
    let line = c.args.line.now in
    taken_told c.step_at.result _ (λ s. Some s.read) _ _ c.step_at.ensures.read (λ p h.
    let before = c.examine.ensures.told.narrows p h in
    let split = splits p (C.meaning l.cats p) (C.meaning c.args.cats.now p) line l.at n.next (l.invariant.stays p before) (n.ensures.character p h) in
    let cats = (categories p (C.meaning c.args.cats.now p)) in
    ((first_character cats (drop l.at line)).examined, characters cats (drop n.next.after line), l.invariant.read p before ∙ ap (λ t. t.read) (takes cats c.args.state line l.at n.next split (sym c.is_skipped.ensures ∙ c.if-not-is_skipped.true))))

pub returns-then-not-is_skipped-clause-state : goal.returns-then-not-is_skipped-clause-state
returns-then-not-is_skipped-clause-state g c =
    let C = g.C.Cells in
    let l = c.loop-at in
    let n = c.in_ok-next in
    let line = c.args.line.now in
    taken_told c.step_at.result _ (λ s. s.state) _ _ c.step_at.ensures.state (λ p h.
    let before = c.examine.ensures.told.narrows p h in
    let split = splits p (C.meaning l.cats p) (C.meaning c.args.cats.now p) line l.at n.next (l.invariant.stays p before) (n.ensures.character p h) in
    let cats = (categories p (C.meaning c.args.cats.now p)) in
    ((first_character cats (drop l.at line)).examined, characters cats (drop n.next.after line), l.invariant.state p before ∙ ap (λ t. t.state) (takes cats c.args.state line l.at n.next split (sym c.is_skipped.ensures ∙ c.if-not-is_skipped.true))))

pub returns-then-not-is_skipped-clause-rest : goal.returns-then-not-is_skipped-clause-rest
returns-then-not-is_skipped-clause-rest g c =
    let C = g.C.Cells in
    let l = c.loop-at in
    let n = c.in_ok-next in
    let line = c.args.line.now in
    taken_told c.step_at.result _ (λ s. drop s.at line) _ _ c.step_at.ensures.rest (λ p h.
    let before = c.examine.ensures.told.narrows p h in
    let split = splits p (C.meaning l.cats p) (C.meaning c.args.cats.now p) line l.at n.next (l.invariant.stays p before) (n.ensures.character p h) in
    let cats = (categories p (C.meaning c.args.cats.now p)) in
    ((first_character cats (drop l.at line)).examined, characters cats (drop n.next.after line), l.invariant.rest p before ∙ ap (λ t. t.rest) (takes cats c.args.state line l.at n.next split (sym c.is_skipped.ensures ∙ c.if-not-is_skipped.true))))

pub returns-then-not-is_skipped-clause-notes : goal.returns-then-not-is_skipped-clause-notes
returns-then-not-is_skipped-clause-notes g c =
    let C = g.C.Cells in
    let l = c.loop-at in
    let n = c.in_ok-next in
    let line = c.args.line.now in
    always c.step_at.result _ (λ p h.
    let before = c.examine.ensures.told.narrows p h in
    let split = splits p (C.meaning l.cats p) (C.meaning c.args.cats.now p) line l.at n.next (l.invariant.stays p before) (n.ensures.character p h) in
    let told = notes_of p (C.meaning l.cats p) (C.meaning c.args.cats.now p) line l.at (C.notes l.cats) (C.notes c.examine.new.cats) (l.invariant.stays p before) (n.ensures.notes p h) in
    looks_here (categories p (C.meaning c.args.cats.now p)) c.args.state line l.at n.next (C.notes l.cats) (C.notes c.examine.new.cats) _ split (sym c.is_skipped.ensures ∙ c.if-not-is_skipped.true) (sym c.is_escape.ensures ∙ c.if-is_escape.false) told (l.invariant.notes p before))

pub returns-then-not-is_skipped-clause-invalid : goal.returns-then-not-is_skipped-clause-invalid
returns-then-not-is_skipped-clause-invalid g c =
    let C = g.C.Cells in
    let l = c.loop-at in
    let n = c.in_ok-next in
    let line = c.args.line.now in
    stop_told c.step_at.result _ _ (λ none p h.
    let before = c.examine.ensures.told.narrows p h in
    let split = splits p (C.meaning l.cats p) (C.meaning c.args.cats.now p) line l.at n.next (l.invariant.stays p before) (n.ensures.character p h) in
    let cats = (categories p (C.meaning c.args.cats.now p)) in
    l.invariant.read p before ∙ ap (λ t. t.read) (takes cats c.args.state line l.at n.next split (sym c.is_skipped.ensures ∙ c.if-not-is_skipped.true)) ∙ none (first_character cats (drop l.at line)).examined (characters cats (drop n.next.after line))) c.step_at.ensures.invalid

pub returns-then-not-is_skipped-clause-notes_on_invalid : goal.returns-then-not-is_skipped-clause-notes_on_invalid
returns-then-not-is_skipped-clause-notes_on_invalid g c =
    let C = g.C.Cells in
    let l = c.loop-at in
    let n = c.in_ok-next in
    let line = c.args.line.now in
    stop_told c.step_at.result _ _ (λ none p h.
    let before = c.examine.ensures.told.narrows p h in
    let split = splits p (C.meaning l.cats p) (C.meaning c.args.cats.now p) line l.at n.next (l.invariant.stays p before) (n.ensures.character p h) in
    let told = notes_of p (C.meaning l.cats p) (C.meaning c.args.cats.now p) line l.at (C.notes l.cats) (C.notes c.examine.new.cats) (l.invariant.stays p before) (n.ensures.notes p h) in
    looks_here (categories p (C.meaning c.args.cats.now p)) c.args.state line l.at n.next (C.notes l.cats) (C.notes c.examine.new.cats) _ split (sym c.is_skipped.ensures ∙ c.if-not-is_skipped.true) (sym c.is_escape.ensures ∙ c.if-is_escape.false) told (l.invariant.notes p before)) c.step_at.ensures.invalid

pub loop-at-preserved : goal.loop-at-preserved
loop-at-preserved g c =
    let C = g.C.Cells in
    let l = c.loop-at in
    let n = c.in_ok-next in
    let line = c.args.line.now in
    let skip = sym c.is_skipped.ensures ∙ c.if-not-is_skipped.false in
    record {
      narrows = λ p h. l.invariant.narrows p (c.examine.ensures.told.narrows p h);
      stays = λ p h. c.examine.ensures.told.stays p h ∙ l.invariant.stays p (c.examine.ensures.told.narrows p h);
      read = λ p h.
          let before = c.examine.ensures.told.narrows p h in
          let split = splits p (C.meaning l.cats p) (C.meaning c.args.cats.now p) line l.at n.next (l.invariant.stays p before) (n.ensures.character p h) in
          l.invariant.read p before ∙ ap (λ t. t.read) (skips (categories p (C.meaning c.args.cats.now p)) c.args.state line l.at n.next split skip);
      state = λ p h.
          let before = c.examine.ensures.told.narrows p h in
          let split = splits p (C.meaning l.cats p) (C.meaning c.args.cats.now p) line l.at n.next (l.invariant.stays p before) (n.ensures.character p h) in
          l.invariant.state p before ∙ ap (λ t. t.state) (skips (categories p (C.meaning c.args.cats.now p)) c.args.state line l.at n.next split skip);
      rest = λ p h.
          let before = c.examine.ensures.told.narrows p h in
          let split = splits p (C.meaning l.cats p) (C.meaning c.args.cats.now p) line l.at n.next (l.invariant.stays p before) (n.ensures.character p h) in
          l.invariant.rest p before ∙ ap (λ t. t.rest) (skips (categories p (C.meaning c.args.cats.now p)) c.args.state line l.at n.next split skip);
      notes = λ p h.
          let before = c.examine.ensures.told.narrows p h in
          let split = splits p (C.meaning l.cats p) (C.meaning c.args.cats.now p) line l.at n.next (l.invariant.stays p before) (n.ensures.character p h) in
          let told = notes_of p (C.meaning l.cats p) (C.meaning c.args.cats.now p) line l.at (C.notes l.cats) (C.notes c.examine.new.cats) (l.invariant.stays p before) (n.ensures.notes p h) in
          let cats = (categories p (C.meaning c.args.cats.now p)) in
          looks_behind cats c.args.state line l.at n.next (next_token cats c.args.state (drop n.next.after line)) (C.notes l.cats) (C.notes c.examine.new.cats) _ (skips cats c.args.state line l.at n.next split skip) told (l.invariant.notes p before);
      made = c.examine.ensures.told.made ∙ l.invariant.made;
      loan = c.examine.ensures.told.loan ∙ l.invariant.loan;
      goes_on = omega (arith, n.ensures.grows, l.invariant.goes_on);
      within = n.ensures.within;
    }

pub returns-clause-read : goal.returns-clause-read
returns-clause-read g c =
    let l = c.loop-at in
    λ p h. l.invariant.read p h ∙ ap (λ t. t.read) (ends (categories p (g.C.Cells.meaning c.args.cats.now p)) c.args.state c.args.line.now l.at c.loop-at-test.false)

pub returns-clause-state : goal.returns-clause-state
returns-clause-state g c =
    let l = c.loop-at in
    λ p h. l.invariant.state p h ∙ ap (λ t. t.state) (ends (categories p (g.C.Cells.meaning c.args.cats.now p)) c.args.state c.args.line.now l.at c.loop-at-test.false)

pub returns-clause-rest : goal.returns-clause-rest
returns-clause-rest g c =
    let l = c.loop-at in
    λ p h. l.invariant.rest p h ∙ ap (λ t. t.rest) (ends (categories p (g.C.Cells.meaning c.args.cats.now p)) c.args.state c.args.line.now l.at c.loop-at-test.false) ∙ sym (drop_all l.at c.args.line.now c.loop-at-test.false)

pub returns-clause-notes : goal.returns-clause-notes
returns-clause-notes g c =
    let l = c.loop-at in
    λ p h. looks_at_end (categories p (g.C.Cells.meaning c.args.cats.now p)) c.args.state c.args.line.now l.at (g.C.Cells.notes l.cats) _ c.loop-at-test.false (l.invariant.notes p h)
