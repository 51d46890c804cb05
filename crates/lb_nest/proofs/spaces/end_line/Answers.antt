use Rattle.lb_model_nest.specs.Items.{line_ended, material_behind, unskip}
use Rattle.lb_model_nest.specs.Pages.{all_added}
use Rattle.lb_model_nest.specs.Wholes.{Executed, and_then}
use Rattle.lb_nest.proofs.LeadsLemmas.{leads-behind, leads-ended, leads-then}
use Rattle.lb_nest.proofs.WorksLemmas.{keeps-shelf, works-leads}
use Rattle.lb_nest.specs.Spaces.{line_end}
use Rattle.std.proofs.Common.{◌∙◌, ap}
use Rattle.std.specs.Prelude.{Ok}
use Rattle.lb_nest.proofs.spaces.end_line.Goals as goal

pub add_line_end-requires : goal.add_line_end-requires
add_line_end-requires g c = record { keeps = λ p h. keeps-shelf {old = c.args.nest.now} ((c.in_ok-went.ensures.works 0).shelf ∙ (c.in_ok-unskip.ensures.works 0).shelf) (c.requires.keeps p h) }

pub returns-in-On : goal.returns-in-On
unfolding line_ended unskip
returns-in-On g c =
    let a = c.args in
    let row = material_behind a.starred a.skip in
    record {
      goes =
          leads-behind {mid = λ w. and_then (row w) (all_added line_end)} c.add_line_end.result
          (λ w p k o. ap (λ (e : Executed). and_then (row e.done.next) (all_added line_end)) ((c.in_ok-unskip.ensures.works a.left.now).works w p k a.groups.now))
          (leads-then row (all_added line_end) c.add_line_end.result c.in-On.is (works-leads g.C.Cells (Ok c.in_ok-went.went) (λ p h. keeps-shelf {old = a.nest.now} (c.in_ok-unskip.ensures.works 0).shelf (c.requires.keeps p h)) (c.in_ok-went.ensures.works a.left.now)) c.add_line_end.ensures.goes);
    }

pub returns-in_default : goal.returns-in_default
unfolding line_ended unskip
returns-in_default g c =
    let a = c.args in
    let row = material_behind a.starred a.skip in
    record {
      goes =
          leads-behind {mid = λ w. and_then (row w) (all_added line_end)} _
          (λ w p k o. ap (λ (e : Executed). and_then (row e.done.next) (all_added line_end)) ((c.in_ok-unskip.ensures.works a.left.now).works w p k a.groups.now))
          (leads-ended row (all_added line_end) c.in_ok-went.went c.in_default.not-On (works-leads g.C.Cells (Ok c.in_ok-went.went) (λ p h. keeps-shelf {old = a.nest.now} (c.in_ok-unskip.ensures.works 0).shelf (c.requires.keeps p h)) (c.in_ok-went.ensures.works a.left.now)));
    }
