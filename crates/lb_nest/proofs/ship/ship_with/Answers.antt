use Rattle.std.proofs.Common.{rules, ◌≡◌, List, sym}
use Rattle.lb_base.specs.declared.node.Node.{Node}
use Rattle.lb_model_nest.specs.Wholes.{Executed, Whole, on}
use Rattle.lb_nest.specs.Pages.{behind_digits, digits_with, look_put, number_text}
use Rattle.lb_nest.proofs.LeadsLemmas.{leads-after, leads-as, passes-to}
use Rattle.lb_nest.proofs.LoopLemmas.{leads-failed}
use Rattle.lb_nest.proofs.ship.ship_with.Goals as goal

pub returns-in_err-digits-clause-goes : goal.returns-in_err-digits-clause-goes
returns-in_err-digits-clause-goes g c =
    leads-failed _ c.from_residual-in_err-digits.result c.from_residual-in_err-digits.ensures.1 (c.in_err-digits.ensures.leads (λ digits w. on w))

pub put_page-requires : goal.put_page-requires
put_page-requires g c = record { keeps = (c.in_ok-digits.ensures.leads (λ digits w. on w)).keeps }

pub returns-in-Made-clause-goes : goal.returns-in-Made-clause-goes
returns-in-Made-clause-goes g c =
    let a = c.args in
    let text : number_text a.numbering ≡ c.in_ok-text.text = search rules in
    let row : List Node → Whole → Executed = λ digits v. look_put a.numbering a.part (record a.look { digits = digits }) v in
    let first = c.in_ok-digits.ensures.leads row in
    leads-as (λ t w. digits_with a.look.style t row w) c.put_page.result text
    (leads-after c.put_page.result first.narrows (passes-to (behind_digits row) c.in-Made.is first.passes) first.left first.made first.loan
    (leads-as (look_put a.numbering a.part) c.put_page.result (sym c.with_digits-look.ensures) (c.put_page.ensures.goes c.number_nodes.new.left)))

pub returns-in-Stops-clause-goes : goal.returns-in-Stops-clause-goes
returns-in-Stops-clause-goes g c =
    let a = c.args in
    let text : number_text a.numbering ≡ c.in_ok-text.text = search rules in
    let row : List Node → Whole → Executed = λ digits v. look_put a.numbering a.part (record a.look { digits = digits }) v in
    let first = c.in_ok-digits.ensures.leads row in
    let passes = passes-to (behind_digits row) c.in-Stops.is first.passes in
    leads-as (λ t w. digits_with a.look.style t row w) _ text
    (record {
      narrows = first.narrows;
      passes = record { done = passes.done; notes = passes.notes };
      keeps = first.keeps;
      left = first.left;
      made = first.made;
      loan = first.loan;
    })
