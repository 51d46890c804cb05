use Rattle.std.proofs.Common.{rules, ◌≡◌, Some, sym}
use Rattle.lb_model_nest.specs.Pages.{digits_in, digits_of}
use Rattle.lb_model_nest.specs.Wholes.{Executed, Whole}
use Rattle.lb_model_paper.specs.Fonts.{FontData}
use Rattle.lb_nest.specs.Fonts.{behind_font}
use Rattle.lb_nest.proofs.LeadsLemmas.{leads-after, leads-as, passes-to}
use Rattle.lb_nest.proofs.NoteLemmas.{works-as}
use Rattle.lb_nest.proofs.WorksLemmas.{works-leads}
use Rattle.lb_nest.proofs.digits.digits_of.Goals as goal

pub returns-in-Font-clause-leads : goal.returns-in-Font-clause-leads
returns-in-Font-clause-leads g c =
    let text : c.args.text.now ≡ Some c.in-Some.text = search rules in
    λ row.
    let put : FontData → Whole → Executed = λ font v. digits_in c.in-Some.text font row v in
    let first = c.in_ok-font.ensures.leads put c.args.left.now in
    leads-as (λ t. digits_of t row) c.digits_in.result text
    (leads-after c.digits_in.result first.narrows (passes-to (behind_font put) c.in-Font.is first.passes) first.left first.made first.loan
    (works-leads g.C.Cells c.digits_in.result first.keeps
    (works-as (λ t. digits_in t c.in-Font.font row) c.digits_in.result (sym c.as_slice.ensures)
    (works-as (λ f. digits_in c.as_slice.result.now f row) c.digits_in.result (sym c.get.ensures) (c.digits_in.ensures.works row)))))

pub returns-in-Stops-clause-leads : goal.returns-in-Stops-clause-leads
returns-in-Stops-clause-leads g c =
    let text : c.args.text.now ≡ Some c.in-Some.text = search rules in
    λ row.
    let put : FontData → Whole → Executed = λ font v. digits_in c.in-Some.text font row v in
    let first = c.in_ok-font.ensures.leads put c.args.left.now in
    let passes = passes-to (behind_font put) c.in-Stops.is first.passes in
    leads-as (λ t. digits_of t row) _ text
    (record {
      narrows = first.narrows;
      passes = record { done = passes.done; notes = passes.notes };
      keeps = first.keeps;
      left = first.left;
      made = first.made;
      loan = first.loan;
    })
