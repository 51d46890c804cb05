use Rattle.std.proofs.Common.{ap, sym, false}
use Rattle.lb_model_engine.specs.Reads.{bracket}
use Rattle.lb_engine.proofs.RowLemmas.{leads-at}
use Rattle.lb_engine.proofs.UnexpandedLemmas.{reading-leads}
use Rattle.lb_engine.proofs.brackets.bracket.Goals as goal

pub returns : goal.returns
returns g c =
    let r = c.read_bracket-read.ensures.reads in
    record {
      leads = λ row.
          leads-at (c.cells-1.given.1 (sym (ap (λ o. o.cells) r.origin)))
          (
          reading-leads g.C.Cells false bracket row c.read_bracket-read.result c.settled.result c.in_ok-make_ready.ensures c.requires.holds
          (record {
            keeping = record { narrows = r.narrows; stands = r.stands; groups = ap (λ o. o.groups) r.origin; made = ap (λ o. o.made) r.origin; loan = ap (λ o. o.inner) r.origin };
            ok = r.ok;
            fault = r.fault;
          })
          c.settled.ensures
          );
    }
