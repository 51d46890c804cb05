use Rattle.lb_nest.proofs.LeadsLemmas.{leads-as}
use Rattle.lb_nest.proofs.WorksLemmas.{works-leads}
use Rattle.lb_nest.specs.Lists.{packed_placed}
use Rattle.lb_nest.proofs.material.place_packed.Goals as goal

pub returns-in-Footnote : goal.returns-in-Footnote
returns-in-Footnote g c =
    record { goes = leads-as (λ x. packed_placed x c.args.boxed) c.place_footnote.result c.in-Footnote.is (works-leads g.C.Cells c.place_footnote.result c.requires.keeps (c.place_footnote.ensures.works c.args.left.now)) }
