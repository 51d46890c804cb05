use Rattle.lb_model_nest.specs.Boxes.{list_ended_in, list_left}
use Rattle.lb_model_nest.specs.Wholes.{and_then}
use Rattle.lb_model_nest.specs.declared.turn.Went.TheVariants.{Stopped}
use Rattle.lb_nest.proofs.FailedLemmas.{leads-and, leads-failed, leads-rest}
use Rattle.lb_nest.proofs.LeadsLemmas.{leads-after, passes-to}
use Rattle.lb_nest.proofs.WorksLemmas.{keeps-shelf, works-leads}
use Rattle.lb_nest.specs.Groups.{behind_group}
use Rattle.lb_nest.specs.Lists.{behind_list, behind_taken, material_placed}
use Rattle.lb_nest.specs.declared.list_end.EndedList.TheVariants.{Ends, Later}
use Rattle.std.proofs.Common.{ap}
use Rattle.std.specs.Prelude.{Ok}
use Rattle.lb_nest.proofs.list_end.end_innermost.Goals as goal

pub returns-in-Stops : goal.returns-in-Stops
returns-in-Stops g c =
    record {
      leads =
          λ left.
          leads-rest {act = list_ended_in} {rest = behind_taken} behind_list (Ends (Stopped c.in-Stops.kind)) (λ w. ap (λ t. behind_taken t w) c.in-Stops.is)
          (works-leads g.C.Cells (Ok c.in_ok-material.field-0) c.requires.keeps (c.in_ok-material.ensures.works left));
    }

pub leave_list-requires : goal.leave_list-requires
leave_list-requires g c = record { keeps = λ p h. keeps-shelf {old = c.args.nest.now} (c.in_ok-material.ensures.works 0).shelf (c.requires.keeps p h) }

pub returns-in_err-later : goal.returns-in_err-later
returns-in_err-later g c = record { leads = λ left. leads-failed c.from_residual-in_err-later.result c.in_err-later.field-0.0 c.from_residual-in_err-later.ensures.0 (c.in_err-later.ensures.leads left) c.args.nest.now }

pub returns-in-Later : goal.returns-in-Later
returns-in-Later g c =
    record {
      leads =
          λ left.
          let first = works-leads g.C.Cells (Ok c.in_ok-material.field-0) c.requires.keeps (c.in_ok-material.ensures.works left) in
          let more = material_placed c.in-Material.material in
          leads-after _ first.narrows (passes-to behind_taken c.in-Material.is first.passes) first.left first.made first.loan
          (leads-and list_left behind_group more behind_list (Later c.in-Later.later c.in-Material.material) (λ w. ap (λ l. and_then (behind_group l w) more) c.in-Later.is) (c.in_ok-later.ensures.leads left));
    }

pub returns-in-Stops-2 : goal.returns-in-Stops-2
returns-in-Stops-2 g c =
    record {
      leads =
          λ left.
          let first = works-leads g.C.Cells (Ok c.in_ok-material.field-0) c.requires.keeps (c.in_ok-material.ensures.works left) in
          let more = material_placed c.in-Material.material in
          leads-after _ first.narrows (passes-to behind_taken c.in-Material.is first.passes) first.left first.made first.loan
          (leads-and list_left behind_group more behind_list (Ends (Stopped c.in-Stops-2.kind)) (λ w. ap (λ l. and_then (behind_group l w) more) c.in-Stops-2.is) (c.in_ok-later.ensures.leads left));
    }
