use Rattle.std.proofs.Common.{rules, ◌≡◌, ◌∙◌, pos}
use Rattle.lb_model.specs.FontTable.{sizes}
use Rattle.lb_fonts.proofs.Rows.{row-got}
use Rattle.lb_fonts.proofs.table.size_row.Goals as goal

pub returns-clause-row : goal.returns-clause-row
unfolding sizes
returns-clause-row c =
    let is : c.args.size ≡ pos c.in_ok-ok.field-0 = search rules in
    c.copied.ensures ∙ row-got sizes c.args.size c.in_ok-ok.field-0 c.get.result is c.get.ensures.lookup.0 c.get.ensures.lookup.1
