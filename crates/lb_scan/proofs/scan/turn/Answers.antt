use Rattle.std.proofs.Common.{◌∙◌, ◌∷◌, ap, sym}
use Rattle.lb_scan.specs.Lengths.{turned_length}
use Rattle.lb_scan.specs.Stages.{stage_after, uses_of}
use Rattle.lb_scan.proofs.scan.turn.Goals as goal

pub returns-in-None-clause-next : goal.returns-in-None-clause-next
returns-in-None-clause-next c =
    λ all more.
    let word = c.args.word.now in
    let g = c.args.given.now in
    let u = uses_of c.in-Length.purpose all in
    c.going_on.ensures word c.length_turn.new.stage all g more
    ∙ sym (ap (λ r. turned_length u c.length_turn.new.stage r g more) c.in-None.is)
    ∙ c.length_turn.ensures u (c.is_infinite.ensures all) more
    ∙ sym (ap (λ s. stage_after word s all (g ∷ more)) c.in-Length.is)

pub returns-in-Some-clause-within : goal.returns-in-Some-clause-within
returns-in-Some-clause-within c = c.dimension_ended.ensures.within c.args.word.now

pub returns-in-Number-clause-within : goal.returns-in-Number-clause-within
returns-in-Number-clause-within c = c.number_turned.ensures.within c.args.word.now

pub returns-in-Stretchable-clause-within : goal.returns-in-Stretchable-clause-within
returns-in-Stretchable-clause-within c = c.stretchable.ensures.within c.args.word.now

pub returns-in-Plus-clause-within : goal.returns-in-Plus-clause-within
returns-in-Plus-clause-within c = c.plus.ensures.within c.args.word.now

pub returns-in-Shrinkable-clause-within : goal.returns-in-Shrinkable-clause-within
returns-in-Shrinkable-clause-within c = c.shrinkable.ensures.within c.args.word.now

pub returns-in-Minus-clause-within : goal.returns-in-Minus-clause-within
returns-in-Minus-clause-within c = c.minus.ensures.within c.args.word.now
