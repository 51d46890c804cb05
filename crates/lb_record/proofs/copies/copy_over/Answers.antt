use Rattle.std.proofs.Common.{◌≡◌, ◌∙◌, ap, subst, sym}
use Rattle.lb_record.specs.Copies.{copied}
use Rattle.lb_record.specs.Recorded.{AgreesWith, overlaid, pairs_hold, setting_of}
use Rattle.lb_record.proofs.Fresh.{fresh-over}
use Rattle.lb_record.proofs.copies.copy_over.Goals as goal

pub returns-clause-sound : goal.returns-clause-sound
returns-clause-sound c = λ p h.
    let start = c.in_ok-recorder.recorder in
    ap (λ s. (tt, copied c.args.from c.args.to s)) (sym (fresh-over start p.state c.in_ok-recorder.ensures.entries))
    ∙ ap (λ s. (tt, s)) (sym (c.in_ok-copy.ensures.ok p (subst (λ l. AgreesWith l p) c.finish.ensures.reads h)))
    ∙ ap (λ es. (tt, overlaid es p.state)) (sym c.finish.ensures.writes)

pub returns-clause-hold : goal.returns-clause-hold
returns-clause-hold c =
    let end = c.copy.new.cells in
    let made = c.in_ok-recorder.ensures in
    let same : setting_of end.world end.guess ≡ setting_of c.args.world.now c.args.guess.now = c.copy.ensures.traced.made ∙ (λ i. setting_of (made.world i) (made.guess i)) in
    subst (AgreesWith c.finish.result.0) same (subst (λ l. AgreesWith l (setting_of end.world end.guess)) (sym c.finish.ensures.reads) (pairs_hold (setting_of end.world end.guess) end.told))
