use Rattle.std.proofs.Common.{sym}
use Rattle.lb_model_expansion.specs.Expansion.{number_found, scan_closed}
use Rattle.lb_model_expansion.specs.Steps.{and_then, put}
use Rattle.lb_expand.specs.Closings.{number_used}
use Rattle.lb_expand.proofs.CloseLemmas.{closes-as}
use Rattle.lb_expand.proofs.feeder.Feeder.close_scan.Goals as goal

pub returns-in-Roman-clause-closes : goal.returns-in-Roman-clause-closes
returns-in-Roman-clause-closes g c = closes-as (λ u. scan_closed u c.args.found c.args.after) c.use_behind.result c.in-Roman.is c.use_behind.ensures.closes

pub returns-in-Left-clause-closes : goal.returns-in-Left-clause-closes
returns-in-Left-clause-closes g c = closes-as (λ u. scan_closed u c.args.found c.args.after) c.use_behind-in-Left.result c.in-Left.is c.use_behind-in-Left.ensures.closes

pub returns-in-Right-clause-closes : goal.returns-in-Right-clause-closes
returns-in-Right-clause-closes g c = closes-as (λ u. scan_closed u c.args.found c.args.after) c.use_behind-in-Right.result c.in-Right.is
    (
    closes-as (λ u more d. and_then (put c.args.after d) (number_used u (number_found c.args.found) more)) c.use_behind-in-Right.result (sym c.in-Right.is) c.use_behind-in-Right.ensures.closes
    )

pub returns-in-Odd-clause-closes : goal.returns-in-Odd-clause-closes
returns-in-Odd-clause-closes g c = closes-as (λ u. scan_closed u c.args.found c.args.after) c.use_behind-in-Odd.result c.in-Odd.is c.use_behind-in-Odd.ensures.closes

pub returns-in-Case-clause-closes : goal.returns-in-Case-clause-closes
returns-in-Case-clause-closes g c = closes-as (λ u. scan_closed u c.args.found c.args.after) c.use_behind-in-Case.result c.in-Case.is c.use_behind-in-Case.ensures.closes

pub returns-in-Index-clause-closes : goal.returns-in-Index-clause-closes
returns-in-Index-clause-closes g c = closes-as (λ u. scan_closed u c.args.found c.args.after) c.use_behind-in-Index.result c.in-Index.is c.use_behind-in-Index.ensures.closes
