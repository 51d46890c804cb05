use Rattle.std.proofs.Common.{◌≡◌, ◌∙◌, Some, None, cond, ap, refl}
use Rattle.lb_model.specs.declared.reading.Read.TheVariants as read
use Rattle.lb_model.specs.Tokens.{categories}
use Rattle.lb_tokens.specs.Texts.{behind_line}
use Rattle.lb_tokens.proofs.Stops.{stopped_at, told_on}
use Rattle.lb_tokens.proofs.TextLemmas.{line_ended, line_gives, line_told, next_file, text_gave, text_goes_on}
use Rattle.lb_tokens.proofs.text.Text.next.Goals as goal

pub returns-in_err-tok-clause-fault : goal.returns-in_err-tok-clause-fault
returns-in_err-tok-clause-fault g c =
    let C = g.C.Cells in
    let l = c.lines in
    let n = c.read_line in
    stopped_at c.from_residual.result c.in_err-tok.field-0.0 _ _ c.from_residual.ensures.1 (λ k h. (
      h.0,
      λ p a.
          let before = n.ensures.told.narrows p a in
          let same = l.invariant.told.stays p before in
          text_gave (categories p (C.meaning c.args.cats.now p)) None c.args.self.now l.self n.new.self (C.notes c.args.cats.now) (C.notes l.cats) (C.notes n.new.cats) (l.invariant.same p before)
          (line_gives (categories p (C.meaning c.args.cats.now p)) None l.self n.new.self (C.notes l.cats) (C.notes n.new.cats) refl n.ensures.same
          (line_told p (C.meaning l.cats p) (C.meaning c.args.cats.now p) None None l.self n.new.self (C.notes l.cats) (C.notes n.new.cats) same refl (h.1 p a))),
    )) c.in_err-tok.ensures.fault

pub returns-in-Tok-clause-gave : goal.returns-in-Tok-clause-gave
returns-in-Tok-clause-gave g c =
    let C = g.C.Cells in
    let l = c.lines in
    let n = c.read_line in
    let r = Some (read.Tok c.in-Tok.tok) in
    λ p a.
    let before = n.ensures.told.narrows p a in
    let same = l.invariant.told.stays p before in
    text_gave (categories p (C.meaning c.args.cats.now p)) (Some (read.Tok c.in-Tok.tok)) c.args.self.now l.self n.new.self (C.notes c.args.cats.now) (C.notes l.cats) (C.notes n.new.cats) (l.invariant.same p before)
    (line_gives (categories p (C.meaning c.args.cats.now p)) (Some (read.Tok c.in-Tok.tok)) l.self n.new.self (C.notes l.cats) (C.notes n.new.cats) refl n.ensures.same
    (line_told p (C.meaning l.cats p) (C.meaning c.args.cats.now p) (Some c.in_ok-tok.field-0) (Some (read.Tok c.in-Tok.tok)) l.self n.new.self (C.notes l.cats) (C.notes n.new.cats) same (ap Some c.in-Tok.is) (c.in_ok-tok.ensures.gave p a)))

pub lines-preserved : goal.lines-preserved
lines-preserved g c =
    let C = g.C.Cells in
    let l = c.lines in
    let n = c.read_line in
    let next : behind_line n.new.self ≡ Some c.go_on.new.self = c.in_ok-go_on-in-EndOfLine.ensures.next ∙ ap (λ b. cond b (Some c.go_on.new.self) None) c.if-not-branch.false in
    record {
      told = told_on C n.new.cats l.cats c.args.cats.now n.ensures.told l.invariant.told;
      same = λ p a.
          let before = n.ensures.told.narrows p a in
          let same = l.invariant.told.stays p before in
          text_goes_on (categories p (C.meaning c.args.cats.now p)) c.args.self.now l.self c.go_on.new.self (C.notes c.args.cats.now) (C.notes l.cats) (C.notes n.new.cats) (l.invariant.same p before)
          (line_ended (categories p (C.meaning c.args.cats.now p)) l.self n.new.self c.go_on.new.self (C.notes l.cats) (C.notes n.new.cats) next n.ensures.same
          (line_told p (C.meaning l.cats p) (C.meaning c.args.cats.now p) (Some c.in_ok-tok.field-0) (Some read.EndOfLine) l.self n.new.self (C.notes l.cats) (C.notes n.new.cats) same (ap Some c.in-EndOfLine.is) (c.in_ok-tok.ensures.gave p a)));
      file = next_file n.new.self c.go_on.new.self next ∙ ap (λ x. x.file) n.ensures.same ∙ l.invariant.file;
    }
