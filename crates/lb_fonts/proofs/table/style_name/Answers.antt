use Rattle.std.proofs.Common.{rules, ◌≡◌, ◌≢◌, pos, sym, ap}
use Rattle.lb_model.specs.FontTable.{row, style_names}
use Rattle.lb_fonts.proofs.Rows.{no-style}
use Rattle.lb_fonts.proofs.table.style_name.Goals as goal

pub returns-in-0-clause-name : goal.returns-in-0-clause-name
unfolding style_names
returns-in-0-clause-name c = let is : c.args.style ≡ pos 0 = search rules in sym (ap (row style_names) is)

pub returns-in-1-clause-name : goal.returns-in-1-clause-name
unfolding style_names
returns-in-1-clause-name c = let is : c.args.style ≡ pos 1 = search rules in sym (ap (row style_names) is)

pub returns-in-2-clause-name : goal.returns-in-2-clause-name
unfolding style_names
returns-in-2-clause-name c = let is : c.args.style ≡ pos 2 = search rules in sym (ap (row style_names) is)

pub returns-in-3-clause-name : goal.returns-in-3-clause-name
unfolding style_names
returns-in-3-clause-name c = let is : c.args.style ≡ pos 3 = search rules in sym (ap (row style_names) is)

pub returns-in-4-clause-name : goal.returns-in-4-clause-name
unfolding style_names
returns-in-4-clause-name c = let is : c.args.style ≡ pos 4 = search rules in sym (ap (row style_names) is)

pub returns-in-5-clause-name : goal.returns-in-5-clause-name
unfolding style_names
returns-in-5-clause-name c = let is : c.args.style ≡ pos 5 = search rules in sym (ap (row style_names) is)

pub returns-in_default-clause-name : goal.returns-in_default-clause-name
returns-in_default-clause-name c =
    let not-0 : c.args.style ≢ pos 0 = search rules in
    let not-1 : c.args.style ≢ pos 1 = search rules in
    let not-2 : c.args.style ≢ pos 2 = search rules in
    let not-3 : c.args.style ≢ pos 3 = search rules in
    let not-4 : c.args.style ≢ pos 4 = search rules in
    let not-5 : c.args.style ≢ pos 5 = search rules in
    sym (no-style c.args.style not-0 not-1 not-2 not-3 not-4 not-5)
