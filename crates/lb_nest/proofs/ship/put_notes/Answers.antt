use Rattle.std.proofs.Common.{rules, ◌≡◌}
use Rattle.lb_model_nest.specs.Pages.{notes_of, notes_written}
use Rattle.lb_nest.specs.Pages.{logged, number_text}
use Rattle.lb_nest.proofs.LeadsLemmas.{leads-ended, leads-then}
use Rattle.lb_nest.proofs.NoteLemmas.{works-as}
use Rattle.lb_nest.proofs.WorksLemmas.{keeps-shelf, works-leads}
use Rattle.lb_nest.proofs.ship.put_notes.Goals as goal

pub log_page-requires : goal.log_page-requires
log_page-requires g c = record { keeps = λ p h. keeps-shelf (c.in_ok-went.ensures.works 0).shelf (c.requires.keeps p h) }

pub returns-in-On-clause-goes : goal.returns-in-On-clause-goes
returns-in-On-clause-goes g c =
    let a = c.args in
    let text : number_text a.numbering ≡ c.in_ok-text.text = search rules in
    λ left.
    leads-then (notes_written (number_text a.numbering) (notes_of a.nodes.now)) (logged a.numbering.number a.marks) c.log_page.result c.in-On.is
    (works-leads g.C.Cells _ c.requires.keeps (works-as (λ t. notes_written t (notes_of a.nodes.now)) _ text (c.in_ok-went.ensures.works left))) (c.log_page.ensures.goes left)

pub returns-in_default : goal.returns-in_default
returns-in_default g c =
    let a = c.args in
    let text : number_text a.numbering ≡ c.in_ok-text.text = search rules in
    record {
      goes =
          λ left.
          leads-ended (notes_written (number_text a.numbering) (notes_of a.nodes.now)) (logged a.numbering.number a.marks) c.in_ok-went.went c.in_default.not-On
          (works-leads g.C.Cells _ c.requires.keeps (works-as (λ t. notes_written t (notes_of a.nodes.now)) _ text (c.in_ok-went.ensures.works left)));
      page = c.in_ok-went.ensures.page;
    }
