use Rattle.std.proofs.Common.{◌∙◌, ◌≤◌, Some, ap, sym, subst, length, arith}
use Rattle.std.specs.Option.{option_map}
use Rattle.std.proofs.lemmas.List.{drop_all}
use Rattle.lb_model.specs.Tokens.{categories, noted_codes}
use Rattle.lb_tokens.specs.Parts.{taken_from}
use Rattle.lb_tokens.proofs.Words.{Splits, Notes_of, left_same, looks_same, none_noted, read_same}
use Rattle.lb_tokens.proofs.Readings.{ends, looks_first, reads_first, reads_plain, reads_space, stop_told}
use Rattle.lb_tokens.proofs.reader.next.Goals as goal

pub returns-then-reader-len-clause-read : goal.returns-then-reader-len-clause-read
returns-then-reader-len-clause-read g c =
    let C = g.C.Cells in
    let reader = c.args.reader.now in
    let last : length reader.line ≤ reader.at = omega (arith, c.if-reader-len.true) in
    λ p h. ap (λ t. t.read) (ends (categories p (C.meaning c.args.cats.now p)) reader.state reader.line reader.at last)

pub returns-then-reader-len-clause-state : goal.returns-then-reader-len-clause-state
returns-then-reader-len-clause-state g c =
    let C = g.C.Cells in
    let reader = c.args.reader.now in
    let last : length reader.line ≤ reader.at = omega (arith, c.if-reader-len.true) in
    λ p h. ap (λ t. t.state) (ends (categories p (C.meaning c.args.cats.now p)) reader.state reader.line reader.at last)

pub returns-then-reader-len-clause-rest : goal.returns-then-reader-len-clause-rest
returns-then-reader-len-clause-rest g c =
    let C = g.C.Cells in
    let reader = c.args.reader.now in
    let last : length reader.line ≤ reader.at = omega (arith, c.if-reader-len.true) in
    λ p h. ap (λ t. t.rest) (ends (categories p (C.meaning c.args.cats.now p)) reader.state reader.line reader.at last) ∙ sym (drop_all reader.at reader.line last)

pub returns-then-reader-len-clause-notes : goal.returns-then-reader-len-clause-notes
returns-then-reader-len-clause-notes g c =
    let C = g.C.Cells in
    let reader = c.args.reader.now in
    let last : length reader.line ≤ reader.at = omega (arith, c.if-reader-len.true) in
    λ p h. sym (none_noted (C.notes c.args.cats.now)) ∙ sym (ap (λ t. option_map (noted_codes t.examined) (C.notes c.args.cats.now)) (ends (categories p (C.meaning c.args.cats.now p)) reader.state reader.line reader.at last))

pub returns-then-is_plain-clause-read : goal.returns-then-is_plain-clause-read
returns-then-is_plain-clause-read g c =
    let C = g.C.Cells in
    let reader = c.args.reader.now in
    let n = c.in_ok-first in
    λ p h.
    let split = subst (λ line. Splits (categories p (C.meaning c.args.cats.now p)) line reader.at n.first) c.as_slice.ensures (n.ensures.character p h) in
    ap (λ t. t.read) (reads_plain (categories p (C.meaning c.args.cats.now p)) reader.state reader.line reader.at n.first split (sym c.is_plain.ensures ∙ c.if-is_plain.true))

pub returns-then-is_plain-clause-state : goal.returns-then-is_plain-clause-state
returns-then-is_plain-clause-state g c =
    let C = g.C.Cells in
    let reader = c.args.reader.now in
    let n = c.in_ok-first in
    λ p h.
    let split = subst (λ line. Splits (categories p (C.meaning c.args.cats.now p)) line reader.at n.first) c.as_slice.ensures (n.ensures.character p h) in
    ap (λ t. t.state) (reads_plain (categories p (C.meaning c.args.cats.now p)) reader.state reader.line reader.at n.first split (sym c.is_plain.ensures ∙ c.if-is_plain.true))

pub returns-then-is_plain-clause-rest : goal.returns-then-is_plain-clause-rest
returns-then-is_plain-clause-rest g c =
    let C = g.C.Cells in
    let reader = c.args.reader.now in
    let n = c.in_ok-first in
    λ p h.
    let split = subst (λ line. Splits (categories p (C.meaning c.args.cats.now p)) line reader.at n.first) c.as_slice.ensures (n.ensures.character p h) in
    ap (λ t. t.rest) (reads_plain (categories p (C.meaning c.args.cats.now p)) reader.state reader.line reader.at n.first split (sym c.is_plain.ensures ∙ c.if-is_plain.true))

pub returns-then-is_plain-clause-notes : goal.returns-then-is_plain-clause-notes
returns-then-is_plain-clause-notes g c =
    let C = g.C.Cells in
    let reader = c.args.reader.now in
    let n = c.in_ok-first in
    λ p h.
    let split = subst (λ line. Splits (categories p (C.meaning c.args.cats.now p)) line reader.at n.first) c.as_slice.ensures (n.ensures.character p h) in
    let noted = subst (λ line. Notes_of (categories p (C.meaning c.args.cats.now p)) line reader.at (C.notes c.args.cats.now) (C.notes c.examine.new.cats)) c.as_slice.ensures (n.ensures.notes p h) in
    noted ∙ sym (ap (λ t. option_map (noted_codes t.examined) (C.notes c.args.cats.now)) (reads_plain (categories p (C.meaning c.args.cats.now p)) reader.state reader.line reader.at n.first split (sym c.is_plain.ensures ∙ c.if-is_plain.true)))

pub returns-then-is_word_space-clause-read : goal.returns-then-is_word_space-clause-read
returns-then-is_word_space-clause-read g c =
    let C = g.C.Cells in
    let reader = c.args.reader.now in
    let n = c.in_ok-first in
    λ p h.
    let split = subst (λ line. Splits (categories p (C.meaning c.args.cats.now p)) line reader.at n.first) c.as_slice.ensures (n.ensures.character p h) in
    ap (λ t. t.read) (reads_space (categories p (C.meaning c.args.cats.now p)) reader.state reader.line reader.at n.first split (sym c.is_word_space.ensures ∙ c.if-is_word_space.true))

pub returns-then-is_word_space-clause-state : goal.returns-then-is_word_space-clause-state
returns-then-is_word_space-clause-state g c =
    let C = g.C.Cells in
    let reader = c.args.reader.now in
    let n = c.in_ok-first in
    λ p h.
    let split = subst (λ line. Splits (categories p (C.meaning c.args.cats.now p)) line reader.at n.first) c.as_slice.ensures (n.ensures.character p h) in
    ap (λ t. t.state) (reads_space (categories p (C.meaning c.args.cats.now p)) reader.state reader.line reader.at n.first split (sym c.is_word_space.ensures ∙ c.if-is_word_space.true))

pub returns-then-is_word_space-clause-rest : goal.returns-then-is_word_space-clause-rest
returns-then-is_word_space-clause-rest g c =
    let C = g.C.Cells in
    let reader = c.args.reader.now in
    let n = c.in_ok-first in
    λ p h.
    let split = subst (λ line. Splits (categories p (C.meaning c.args.cats.now p)) line reader.at n.first) c.as_slice.ensures (n.ensures.character p h) in
    ap (λ t. t.rest) (reads_space (categories p (C.meaning c.args.cats.now p)) reader.state reader.line reader.at n.first split (sym c.is_word_space.ensures ∙ c.if-is_word_space.true))

pub returns-then-is_word_space-clause-notes : goal.returns-then-is_word_space-clause-notes
returns-then-is_word_space-clause-notes g c =
    let C = g.C.Cells in
    let reader = c.args.reader.now in
    let n = c.in_ok-first in
    λ p h.
    let split = subst (λ line. Splits (categories p (C.meaning c.args.cats.now p)) line reader.at n.first) c.as_slice.ensures (n.ensures.character p h) in
    let noted = subst (λ line. Notes_of (categories p (C.meaning c.args.cats.now p)) line reader.at (C.notes c.args.cats.now) (C.notes c.examine.new.cats)) c.as_slice.ensures (n.ensures.notes p h) in
    noted ∙ sym (ap (λ t. option_map (noted_codes t.examined) (C.notes c.args.cats.now)) (reads_space (categories p (C.meaning c.args.cats.now p)) reader.state reader.line reader.at n.first split (sym c.is_word_space.ensures ∙ c.if-is_word_space.true)))

pub returns-clause-read : goal.returns-clause-read
returns-clause-read g c =
    let C = g.C.Cells in
    let reader = c.args.reader.now in
    let n = c.in_ok-first in
    read_same c.read_from.result _ _ _ Some c.read_from.ensures.read (λ p h.
    let there = c.read_from.ensures.told.narrows p h in
    let split = subst (λ line. Splits (categories p (C.meaning c.args.cats.now p)) line reader.at n.first) c.as_slice.ensures (n.ensures.character p there) in
    let same = c.examine.ensures.told.stays p there in
    ap (λ t. t.read) (reads_first (categories p (C.meaning c.args.cats.now p)) reader.state reader.line reader.at n.first split)
    ∙ sym (λ i. (taken_from (categories p (same i)) reader.state n.first reader.line).read))

pub returns-clause-state : goal.returns-clause-state
returns-clause-state g c =
    let C = g.C.Cells in
    let reader = c.args.reader.now in
    let n = c.in_ok-first in
    left_same c.read_from.result _ _ _ _ c.read_from.ensures.state (λ p h.
    let there = c.read_from.ensures.told.narrows p h in
    let split = subst (λ line. Splits (categories p (C.meaning c.args.cats.now p)) line reader.at n.first) c.as_slice.ensures (n.ensures.character p there) in
    let same = c.examine.ensures.told.stays p there in
    ap (λ t. t.state) (reads_first (categories p (C.meaning c.args.cats.now p)) reader.state reader.line reader.at n.first split)
    ∙ sym (λ i. (taken_from (categories p (same i)) reader.state n.first reader.line).state))

pub returns-clause-rest : goal.returns-clause-rest
returns-clause-rest g c =
    let C = g.C.Cells in
    let reader = c.args.reader.now in
    let n = c.in_ok-first in
    left_same c.read_from.result _ _ _ _ c.read_from.ensures.rest (λ p h.
    let there = c.read_from.ensures.told.narrows p h in
    let split = subst (λ line. Splits (categories p (C.meaning c.args.cats.now p)) line reader.at n.first) c.as_slice.ensures (n.ensures.character p there) in
    let same = c.examine.ensures.told.stays p there in
    ap (λ t. t.rest) (reads_first (categories p (C.meaning c.args.cats.now p)) reader.state reader.line reader.at n.first split)
    ∙ sym (λ i. (taken_from (categories p (same i)) reader.state n.first reader.line).rest))

pub returns-clause-notes : goal.returns-clause-notes
returns-clause-notes g c =
    let C = g.C.Cells in
    let reader = c.args.reader.now in
    let n = c.in_ok-first in
    looks_same c.read_from.result _ _ _ _ c.read_from.ensures.notes (λ p h.
    let there = c.read_from.ensures.told.narrows p h in
    let split = subst (λ line. Splits (categories p (C.meaning c.args.cats.now p)) line reader.at n.first) c.as_slice.ensures (n.ensures.character p there) in
    let same = c.examine.ensures.told.stays p there in
    let noted = subst (λ line. Notes_of (categories p (C.meaning c.args.cats.now p)) line reader.at (C.notes c.args.cats.now) (C.notes c.examine.new.cats)) c.as_slice.ensures (n.ensures.notes p there) in
    (λ i. option_map (noted_codes (taken_from (categories p (same i)) reader.state n.first reader.line).examined) (C.notes c.examine.new.cats))
    ∙ looks_first (categories p (C.meaning c.args.cats.now p)) reader.state reader.line reader.at n.first (C.notes c.args.cats.now) (C.notes c.examine.new.cats) split noted)

pub returns-clause-invalid : goal.returns-clause-invalid
returns-clause-invalid g c =
    let C = g.C.Cells in
    let reader = c.args.reader.now in
    let n = c.in_ok-first in
    stop_told c.read_from.result _ _ (λ none p h.
    let there = c.read_from.ensures.told.narrows p h in
    let split = subst (λ line. Splits (categories p (C.meaning c.args.cats.now p)) line reader.at n.first) c.as_slice.ensures (n.ensures.character p there) in
    let same = c.examine.ensures.told.stays p there in
    ap (λ t. t.read) (reads_first (categories p (C.meaning c.args.cats.now p)) reader.state reader.line reader.at n.first split)
    ∙ sym (λ i. (taken_from (categories p (same i)) reader.state n.first reader.line).read) ∙ none p h) c.read_from.ensures.invalid

pub returns-clause-notes_on_invalid : goal.returns-clause-notes_on_invalid
returns-clause-notes_on_invalid g c =
    let C = g.C.Cells in
    let reader = c.args.reader.now in
    let n = c.in_ok-first in
    stop_told c.read_from.result _ _ (λ told p h.
    let there = c.read_from.ensures.told.narrows p h in
    let split = subst (λ line. Splits (categories p (C.meaning c.args.cats.now p)) line reader.at n.first) c.as_slice.ensures (n.ensures.character p there) in
    let same = c.examine.ensures.told.stays p there in
    let noted = subst (λ line. Notes_of (categories p (C.meaning c.args.cats.now p)) line reader.at (C.notes c.args.cats.now) (C.notes c.examine.new.cats)) c.as_slice.ensures (n.ensures.notes p there) in
    told p h ∙
    (λ i. option_map (noted_codes (taken_from (categories p (same i)) reader.state n.first reader.line).examined) (C.notes c.examine.new.cats))
    ∙ looks_first (categories p (C.meaning c.args.cats.now p)) reader.state reader.line reader.at n.first (C.notes c.args.cats.now) (C.notes c.examine.new.cats) split noted) c.read_from.ensures.notes_on_invalid
