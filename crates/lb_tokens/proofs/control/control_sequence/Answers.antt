use Rattle.std.proofs.Common.{◌∙◌, ◌<◌, ◌-◌, ◌++◌, ap, sym, arith, take, drop, length, Some}
use Rattle.std.specs.Option.{option_map}
use Rattle.lb_base.specs.declared.token.Tok.TheVariants.{Word}
use Rattle.lb_model.specs.declared.reading.Read.TheVariants as read
use Rattle.lb_model.specs.Tokens.{categories, characters, letters, letters_examined, noted_codes}
use Rattle.lb_tokens.proofs.Words.{always, told, some_same, looks_same, none_behind, nothing_left, none_looks, word_read, word_looks}
use Rattle.lb_tokens.proofs.control.control_sequence.Goals as goal

pub returns-then-at-line-clause-read : goal.returns-then-at-line-clause-read
returns-then-at-line-clause-read g c =
    told c.word.result _ (λ s. s.read) Some _ _ c.word.ensures.read (λ p h. ap (λ t. t.read) (none_behind (categories p (g.C.Cells.meaning c.args.cats.now p)) c.args.line.now c.args.at c.if-at-line.true))

pub returns-then-at-line-clause-state : goal.returns-then-at-line-clause-state
returns-then-at-line-clause-state g c =
    told c.word.result _ (λ s. s.state) (λ s. s) _ _ c.word.ensures.state (λ p h. ap (λ t. t.state) (none_behind (categories p (g.C.Cells.meaning c.args.cats.now p)) c.args.line.now c.args.at c.if-at-line.true))

pub returns-then-at-line-clause-rest : goal.returns-then-at-line-clause-rest
returns-then-at-line-clause-rest g c =
    told c.word.result _ (λ s. s.at) (λ n. drop n c.args.line.now) _ _ c.word.ensures.at (λ p h.
    ap (λ t. t.rest) (none_behind (categories p (g.C.Cells.meaning c.args.cats.now p)) c.args.line.now c.args.at c.if-at-line.true) ∙ nothing_left c.args.line.now c.args.at c.if-at-line.true)

pub returns-then-at-line-clause-notes : goal.returns-then-at-line-clause-notes
returns-then-at-line-clause-notes g c =
    always c.word.result _ (λ p h. none_looks (categories p (g.C.Cells.meaning c.args.cats.now p)) c.args.line.now c.args.at (g.C.Cells.notes c.args.cats.now) c.if-at-line.true)

pub returns-then-first-at-clause-read : goal.returns-then-first-at-clause-read
returns-then-first-at-clause-read g c =
    let C = g.C.Cells in
    let f = c.in_ok-first in
    let letter = sym c.is_letter.ensures ∙ c.if-not-is_letter.false in
    let inside : c.args.at < length c.args.line.now = omega (arith, c.requires, c.if-at-line.false) in
    some_same c.word_of_line.result _ _ _ c.word_of_line.ensures.read (λ p h.
    let there = c.word_of_line.ensures.told.narrows p h in
    word_read (categories p (C.meaning c.args.cats.now p)) c.args.line.now c.args.at f.first inside c.if-first-at.true f.ensures.unmarked (f.ensures.character p there) letter
    ∙ sym (λ i. Some (read.Tok (Word (take (f.first.after - c.args.at) (drop c.args.at c.args.line.now) ++ letters (characters (categories p (c.examine.ensures.told.stays p there i)) (drop f.first.after c.args.line.now)))))))

pub returns-then-first-at-clause-notes : goal.returns-then-first-at-clause-notes
returns-then-first-at-clause-notes g c =
    let C = g.C.Cells in
    let f = c.in_ok-first in
    let letter = sym c.is_letter.ensures ∙ c.if-not-is_letter.false in
    looks_same c.word_of_line.result _ _ _ _ c.word_of_line.ensures.notes (λ p h.
    let there = c.word_of_line.ensures.told.narrows p h in
    (λ i. option_map (noted_codes (letters_examined (characters (categories p (c.examine.ensures.told.stays p there i)) (drop f.first.after c.args.line.now)))) (C.notes c.examine.new.cats))
    ∙ word_looks (categories p (C.meaning c.args.cats.now p)) c.args.line.now c.args.at f.first (C.notes c.args.cats.now) (C.notes c.examine.new.cats) (f.ensures.character p there) letter (f.ensures.notes p there))

pub returns-clause-notes : goal.returns-clause-notes
returns-clause-notes g c =
    let C = g.C.Cells in
    let f = c.in_ok-first in
    let letter = sym c.is_letter.ensures ∙ c.if-not-is_letter.false in
    looks_same c.word_of_letters.result _ _ _ _ c.word_of_letters.ensures.notes (λ p h.
    let there = c.word_of_letters.ensures.told.narrows p h in
    (λ i. option_map (noted_codes (letters_examined (characters (categories p (c.examine.ensures.told.stays p there i)) (drop f.first.after c.args.line.now)))) (C.notes c.examine.new.cats))
    ∙ word_looks (categories p (C.meaning c.args.cats.now p)) c.args.line.now c.args.at f.first (C.notes c.args.cats.now) (C.notes c.examine.new.cats) (f.ensures.character p there) letter (f.ensures.notes p there))
