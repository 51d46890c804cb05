use Rattle.std.proofs.Common.{sym}
use Rattle.lb_model_nest.specs.Wholes.{Executed, Whole}
use Rattle.lb_nest.specs.Pages.{head_parts, shipped_with}
use Rattle.lb_nest.proofs.LeadsLemmas.{leads-as, leads-looking}
use Rattle.lb_nest.proofs.LookLemmas.{looks-of}
use Rattle.lb_nest.proofs.PageLemmas.{by_head, by_lengths, by_number, ship-is}
use Rattle.lb_nest.proofs.ship.ship.Goals as goal

pub returns-clause-goes : goal.returns-clause-goes
returns-clause-goes g c =
    let part = c.args.part in
    let n = c.in_ok-numbering.numbering in
    let l = c.in_ok-lengths.lengths in
    let result = c.ship_with.result in
    leads-as (λ (a : Whole → Executed). a) result (ship-is part)
    (leads-looking (by_number part) n result c.in_ok-numbering.ensures.looks
    (leads-looking (by_lengths part n) l result c.in_ok-lengths.ensures.looks
    (leads-looking (by_head part n l) c.in_ok-head.head result (looks-of (head_parts n.style) (sym c.as_slice.ensures) c.in_ok-head.ensures.looks)
    (leads-as (λ k. shipped_with n k part) result (sym c.look_of-look.ensures) c.ship_with.ensures.goes))))
