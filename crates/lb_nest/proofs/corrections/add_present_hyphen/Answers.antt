use Rattle.lb_model_nest.specs.Items.{hyphen_in}
use Rattle.lb_nest.proofs.LeadsLemmas.{leads-after, leads-as, passes-to}
use Rattle.lb_nest.proofs.WorksLemmas.{works-leads}
use Rattle.lb_nest.specs.Fonts.{behind_font}
use Rattle.std.proofs.Common.{sym}
use Rattle.lb_nest.proofs.corrections.add_present_hyphen.Goals as goal

pub returns-in-Font : goal.returns-in-Font
returns-in-Font g c =
    record {
      goes =
          λ left.
          let first = c.in_ok-font.ensures.leads hyphen_in left in
          leads-after c.add_hyphen.result first.narrows (passes-to (behind_font hyphen_in) c.in-Font.is first.passes) first.left first.made first.loan
          (leads-as hyphen_in c.add_hyphen.result (sym c.get.ensures) (works-leads g.C.Cells c.add_hyphen.result first.keeps (c.add_hyphen.ensures.works left)));
    }

pub returns-in-Stops : goal.returns-in-Stops
returns-in-Stops g c =
    record {
      goes =
          λ left.
          let first = c.in_ok-font.ensures.leads hyphen_in left in
          record { narrows = first.narrows; passes = passes-to (behind_font hyphen_in) c.in-Stops.is first.passes; keeps = first.keeps; left = first.left; made = first.made; loan = first.loan };
    }
