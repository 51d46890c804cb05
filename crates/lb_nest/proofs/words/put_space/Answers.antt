use Rattle.std.proofs.Common.{rules, ◌≡◌, None, sym}
use Rattle.lb_nest.proofs.LeadsLemmas.{leads-as}
use Rattle.lb_nest.proofs.WordLemmas.{font-leads, font-stops, space_row}
use Rattle.lb_nest.proofs.WorksLemmas.{works-leads}
use Rattle.lb_nest.proofs.words.put_space.Goals as goal

pub returns-in-Font : goal.returns-in-Font
returns-in-Font g c =
    let row = space_row c.args.factor in
    let none : c.args.nest.now.font ≡ None = search rules in
    let first = c.in_ok-font-2.ensures.leads row c.args.left.now in
    record {
      goes = font-leads row c.in-Font.font c.put_behind-in-Font.result c.in-Font.is none first
          (leads-as row c.put_behind-in-Font.result (sym c.get-in-Font.ensures) (works-leads g.C.Cells c.put_behind-in-Font.result first.keeps c.put_behind-in-Font.ensures.works));
    }

pub returns-in-Stops : goal.returns-in-Stops
returns-in-Stops g c =
    let row = space_row c.args.factor in
    let none : c.args.nest.now.font ≡ None = search rules in
    record { goes = font-stops row c.in-Stops.went c.in-Stops.is none (c.in_ok-font-2.ensures.leads row c.args.left.now) }
