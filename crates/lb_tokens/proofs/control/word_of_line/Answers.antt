use Rattle.std.proofs.Common.{◌∙◌, ap, sym, arith, take, drop, ◌-◌, ◌≤◌, ◌++◌, ◌∷◌, []}
use Rattle.std.specs.Option.{option_map}
use Rattle.lb_base.specs.declared.token.Tok.TheVariants.{Word}
use Rattle.lb_model.specs.declared.reading.Read.TheVariants as read
use Rattle.lb_model.specs.Tokens.{categories, characters, letters, letters_examined, noted_codes}
use Rattle.lb_tokens.proofs.Words.{always, read_same, looks_same, slice_more, told, splits, notes_of, word_ends, rest_ends, looks_end, word_goes_on, rest_goes_on, looks_go_on, word_used_up, rest_used_up, looks_used_up}
use Rattle.lb_tokens.proofs.control.word_of_line.Goals as goal

pub returns-then-not-is_letter-clause-read : goal.returns-then-not-is_letter-clause-read
returns-then-not-is_letter-clause-read g c =
    let C = g.C.Cells in
    let l = c.loop-end in
    let n = c.in_ok-next in
    told c.word.result _ (λ s. s.read) (λ r. r) _ _ c.word.ensures.read (λ p h.
    let before = c.examine.ensures.told.narrows p h in
    let split = splits p (C.meaning l.cats p) (C.meaning c.args.cats.now p) c.args.line.now l.end n.next (l.invariant.stays p before) (n.ensures.character p h) in
    ap (λ t. read.Tok (Word t)) (word_ends (categories p (C.meaning c.args.cats.now p)) c.args.line.now l.end n.next (take (l.end - c.args.start) (drop c.args.start c.args.line.now)) _ split (sym c.is_letter.ensures ∙ c.if-not-is_letter.true) (l.invariant.name p before)))

pub returns-then-not-is_letter-clause-rest : goal.returns-then-not-is_letter-clause-rest
returns-then-not-is_letter-clause-rest g c =
    let C = g.C.Cells in
    let l = c.loop-end in
    let n = c.in_ok-next in
    told c.word.result _ (λ s. s.at) (λ n. drop n c.args.line.now) _ _ c.word.ensures.at (λ p h.
    let before = c.examine.ensures.told.narrows p h in
    let split = splits p (C.meaning l.cats p) (C.meaning c.args.cats.now p) c.args.line.now l.end n.next (l.invariant.stays p before) (n.ensures.character p h) in
    rest_ends (categories p (C.meaning c.args.cats.now p)) c.args.line.now l.end n.next _ split (sym c.is_letter.ensures ∙ c.if-not-is_letter.true) (l.invariant.rest p before))

pub returns-then-not-is_letter-clause-notes : goal.returns-then-not-is_letter-clause-notes
returns-then-not-is_letter-clause-notes g c =
    let C = g.C.Cells in
    let l = c.loop-end in
    let n = c.in_ok-next in
    always c.word.result _ (λ p h.
    let before = c.examine.ensures.told.narrows p h in
    let split = splits p (C.meaning l.cats p) (C.meaning c.args.cats.now p) c.args.line.now l.end n.next (l.invariant.stays p before) (n.ensures.character p h) in
    let noted = notes_of p (C.meaning l.cats p) (C.meaning c.args.cats.now p) c.args.line.now l.end (C.notes l.cats) (C.notes c.examine.new.cats) (l.invariant.stays p before) (n.ensures.notes p h) in
    looks_end (categories p (C.meaning c.args.cats.now p)) c.args.line.now l.end n.next (C.notes l.cats) (C.notes c.examine.new.cats) _ split (sym c.is_letter.ensures ∙ c.if-not-is_letter.true) noted (l.invariant.notes p before))

pub loop-end-preserved : goal.loop-end-preserved
loop-end-preserved g c =
    let C = g.C.Cells in
    let l = c.loop-end in
    let n = c.in_ok-next in
    let order : c.args.start ≤ l.end = omega (arith, c.requires.order, l.invariant.goes_on) in
    let next = c.if-next-end.false in
    let letter = sym c.is_letter.ensures ∙ c.if-not-is_letter.false in
    record {
      narrows = λ p h. l.invariant.narrows p (c.examine.ensures.told.narrows p h);
      stays = λ p h. c.examine.ensures.told.stays p h ∙ l.invariant.stays p (c.examine.ensures.told.narrows p h);
      name = λ p h.
          let before = c.examine.ensures.told.narrows p h in
          let split = splits p (C.meaning l.cats p) (C.meaning c.args.cats.now p) c.args.line.now l.end n.next (l.invariant.stays p before) (n.ensures.character p h) in
          let cats = categories p (C.meaning c.args.cats.now p) in
          ap (λ t. t ++ letters (characters cats (drop n.next.after c.args.line.now))) (slice_more c.args.line.now c.args.start l.end n.next.after n.next.code order c.loop-end-test.true next n.ensures.unmarked)
          ∙ word_goes_on cats c.args.line.now l.end n.next (take (l.end - c.args.start) (drop c.args.start c.args.line.now)) _ split letter (l.invariant.name p before);
      rest = λ p h.
          let before = c.examine.ensures.told.narrows p h in
          let split = splits p (C.meaning l.cats p) (C.meaning c.args.cats.now p) c.args.line.now l.end n.next (l.invariant.stays p before) (n.ensures.character p h) in
          rest_goes_on (categories p (C.meaning c.args.cats.now p)) c.args.line.now l.end n.next _ split letter (l.invariant.rest p before);
      notes = λ p h.
          let before = c.examine.ensures.told.narrows p h in
          let split = splits p (C.meaning l.cats p) (C.meaning c.args.cats.now p) c.args.line.now l.end n.next (l.invariant.stays p before) (n.ensures.character p h) in
          let noted = notes_of p (C.meaning l.cats p) (C.meaning c.args.cats.now p) c.args.line.now l.end (C.notes l.cats) (C.notes c.examine.new.cats) (l.invariant.stays p before) (n.ensures.notes p h) in
          looks_go_on (categories p (C.meaning c.args.cats.now p)) c.args.line.now l.end n.next (C.notes l.cats) (C.notes c.examine.new.cats) _ split letter noted (l.invariant.notes p before);
      made = c.examine.ensures.told.made ∙ l.invariant.made;
      loan = c.examine.ensures.told.loan ∙ l.invariant.loan;
      goes_on = omega (arith, n.ensures.grows, l.invariant.goes_on);
      within = n.ensures.within;
    }

pub returns-then-next-end-clause-read : goal.returns-then-next-end-clause-read
returns-then-next-end-clause-read g c =
    let C = g.C.Cells in
    let l = c.loop-end in
    let n = c.in_ok-next in
    let letter = sym c.is_letter.ensures ∙ c.if-not-is_letter.false in
    let name = c.in_ok-push.ensures.items ∙ ap (λ t. t ++ n.next.code ∷ []) c.in_ok-name.ensures.items in
    read_same c.word_of_letters.result _ _ _ (λ s. s.read) c.word_of_letters.ensures.read (λ p h.
    let there = c.word_of_letters.ensures.told.narrows p h in
    let before = c.examine.ensures.told.narrows p there in
    let split = splits p (C.meaning l.cats p) (C.meaning c.args.cats.now p) c.args.line.now l.end n.next (l.invariant.stays p before) (n.ensures.character p there) in
    let same = c.examine.ensures.told.stays p there ∙ l.invariant.stays p before in
    let whole = word_goes_on (categories p (C.meaning c.args.cats.now p)) c.args.line.now l.end n.next (take (l.end - c.args.start) (drop c.args.start c.args.line.now)) _ split letter (l.invariant.name p before) in
    ap (λ t. read.Tok (Word t)) (sym whole ∙ sym (λ i. name i ++ letters (characters (categories p (same i)) (drop n.next.after c.args.line.now)))))

pub returns-then-next-end-clause-notes : goal.returns-then-next-end-clause-notes
returns-then-next-end-clause-notes g c =
    let C = g.C.Cells in
    let l = c.loop-end in
    let n = c.in_ok-next in
    let letter = sym c.is_letter.ensures ∙ c.if-not-is_letter.false in
    looks_same c.word_of_letters.result _ _ _ _ c.word_of_letters.ensures.notes (λ p h.
    let there = c.word_of_letters.ensures.told.narrows p h in
    let before = c.examine.ensures.told.narrows p there in
    let split = splits p (C.meaning l.cats p) (C.meaning c.args.cats.now p) c.args.line.now l.end n.next (l.invariant.stays p before) (n.ensures.character p there) in
    let noted = notes_of p (C.meaning l.cats p) (C.meaning c.args.cats.now p) c.args.line.now l.end (C.notes l.cats) (C.notes c.examine.new.cats) (l.invariant.stays p before) (n.ensures.notes p there) in
    let same = c.examine.ensures.told.stays p there ∙ l.invariant.stays p before in
    (λ i. option_map (noted_codes (letters_examined (characters (categories p (same i)) (drop n.next.after c.args.line.now)))) (C.notes c.examine.new.cats))
    ∙ looks_go_on (categories p (C.meaning c.args.cats.now p)) c.args.line.now l.end n.next (C.notes l.cats) (C.notes c.examine.new.cats) _ split letter noted (l.invariant.notes p before))

pub returns-clause-read : goal.returns-clause-read
returns-clause-read g c =
    let C = g.C.Cells in
    let l = c.loop-end in
    told c.word-2.result _ (λ s. s.read) (λ r. r) _ _ c.word-2.ensures.read (λ p h.
    ap (λ t. read.Tok (Word t)) (word_used_up (categories p (C.meaning c.args.cats.now p)) c.args.line.now l.end (take (l.end - c.args.start) (drop c.args.start c.args.line.now)) _ c.loop-end-test.false (l.invariant.name p h)))

pub returns-clause-rest : goal.returns-clause-rest
returns-clause-rest g c =
    let C = g.C.Cells in
    let l = c.loop-end in
    told c.word-2.result _ (λ s. s.at) (λ n. drop n c.args.line.now) _ _ c.word-2.ensures.at (λ p h.
    rest_used_up (categories p (C.meaning c.args.cats.now p)) c.args.line.now l.end _ c.loop-end-test.false (l.invariant.rest p h))

pub returns-clause-notes : goal.returns-clause-notes
returns-clause-notes g c =
    let C = g.C.Cells in
    let l = c.loop-end in
    always c.word-2.result _ (λ p h. looks_used_up (categories p (C.meaning c.args.cats.now p)) c.args.line.now l.end (C.notes l.cats) _ c.loop-end-test.false (l.invariant.notes p h))
