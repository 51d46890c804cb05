use Rattle.lb_nest.proofs.ComesLemmas.{looks-both}
use Rattle.lb_nest.proofs.FailedLemmas.{looks-value}
use Rattle.lb_nest.specs.Endings.{ending_of}
use Rattle.lb_nest.specs.declared.shape.BetweenLines.{BetweenLines}
use Rattle.lb_nest.specs.declared.shape.Demerits.{Demerits}
use Rattle.lb_nest.specs.declared.shape.LineLengths.{LineLengths}
use Rattle.lb_nest.specs.declared.shape.Tolerances.{Tolerances}
use Rattle.std.proofs.Common.{rules}
use Rattle.lb_nest.proofs.shape.read_ending.Goals as goal

pub returns : goal.returns
returns g c =
    let l = c.in_ok-lengths in
    let t = c.in_ok-tolerances in
    let d = c.in_ok-demerits in
    let b = c.in_ok-between in
    record {
      looks = looks-value (search rules) (looks-both (λ (l : LineLengths) (r : Tolerances × (Demerits × BetweenLines)). ending_of l r.0 r.1.0 r.1.1) l.lengths (t.tolerances, (d.demerits, b.between)) l.ensures.looks
          (looks-both (λ (t : Tolerances) (r : Demerits × BetweenLines). (t, r)) t.tolerances (d.demerits, b.between) t.ensures.looks
          (looks-both (λ (d : Demerits) (b : BetweenLines). (d, b)) d.demerits b.between d.ensures.looks b.ensures.looks)));
    }
