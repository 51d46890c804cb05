use Rattle.std.proofs.Common.{◌∙◌, Some, ap, sym, drop}
use Rattle.std.specs.Option.{option_map}
use Rattle.lb_model.specs.Settings.{Setting}
use Rattle.lb_model.specs.Tokens.{categories, noted_codes}
use Rattle.lb_tokens.proofs.Words.{read_same, looks_same}
use Rattle.lb_tokens.proofs.Readings.{skips_first, stop_told}
use Rattle.lb_tokens.proofs.reader.step_from.Goals as goal

pub returns-clause-read : goal.returns-clause-read
returns-clause-read g c =
    let C = g.C.Cells in
    let first = c.args.first in
    let line = c.args.line.now in
    let cats = λ (p : Setting). categories p (C.meaning c.args.cats.now p) in
    let skipped = λ (p : Setting). skips_first (cats p) c.args.state line first (sym c.is_skipped.ensures ∙ c.if-not-is_skipped.false) in
    read_same c.step.result _ _ _ (λ s. Some s.read) c.step.ensures.read (λ p h. ap (λ t. t.read) (skipped p))

pub returns-clause-state : goal.returns-clause-state
returns-clause-state g c =
    let C = g.C.Cells in
    let first = c.args.first in
    let line = c.args.line.now in
    let cats = λ (p : Setting). categories p (C.meaning c.args.cats.now p) in
    let skipped = λ (p : Setting). skips_first (cats p) c.args.state line first (sym c.is_skipped.ensures ∙ c.if-not-is_skipped.false) in
    read_same c.step.result _ _ _ (λ s. s.state) c.step.ensures.state (λ p h. ap (λ t. t.state) (skipped p))

pub returns-clause-rest : goal.returns-clause-rest
returns-clause-rest g c =
    let C = g.C.Cells in
    let first = c.args.first in
    let line = c.args.line.now in
    let cats = λ (p : Setting). categories p (C.meaning c.args.cats.now p) in
    let skipped = λ (p : Setting). skips_first (cats p) c.args.state line first (sym c.is_skipped.ensures ∙ c.if-not-is_skipped.false) in
    read_same c.step.result _ _ _ (λ s. drop s.at line) c.step.ensures.rest (λ p h. ap (λ t. t.rest) (skipped p))

pub returns-clause-notes : goal.returns-clause-notes
returns-clause-notes g c =
    let C = g.C.Cells in
    let first = c.args.first in
    let line = c.args.line.now in
    let cats = λ (p : Setting). categories p (C.meaning c.args.cats.now p) in
    let skipped = λ (p : Setting). skips_first (cats p) c.args.state line first (sym c.is_skipped.ensures ∙ c.if-not-is_skipped.false) in
    looks_same c.step.result _ _ _ _ c.step.ensures.notes (λ p h. sym (ap (λ t. option_map (noted_codes t.examined) (C.notes c.args.cats.now)) (skipped p)))

pub returns-clause-invalid : goal.returns-clause-invalid
returns-clause-invalid g c =
    let C = g.C.Cells in
    let first = c.args.first in
    let line = c.args.line.now in
    let cats = λ (p : Setting). categories p (C.meaning c.args.cats.now p) in
    let skipped = λ (p : Setting). skips_first (cats p) c.args.state line first (sym c.is_skipped.ensures ∙ c.if-not-is_skipped.false) in
    stop_told c.step.result _ _ (λ none p h. ap (λ t. t.read) (skipped p) ∙ none p h) c.step.ensures.invalid

pub returns-clause-notes_on_invalid : goal.returns-clause-notes_on_invalid
returns-clause-notes_on_invalid g c =
    let C = g.C.Cells in
    let first = c.args.first in
    let line = c.args.line.now in
    let cats = λ (p : Setting). categories p (C.meaning c.args.cats.now p) in
    let skipped = λ (p : Setting). skips_first (cats p) c.args.state line first (sym c.is_skipped.ensures ∙ c.if-not-is_skipped.false) in
    stop_told c.step.result _ _ (λ told p h. told p h ∙ sym (ap (λ t. option_map (noted_codes t.examined) (C.notes c.args.cats.now)) (skipped p))) c.step.ensures.notes_on_invalid
