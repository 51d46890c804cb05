use Rattle.std.proofs.Common.{◌≡◌, sym, ◌∙◌, ap, refl, Some, None, true}
use Rattle.lb_rows.specs.Names.{place_of}
use Rattle.lb_rows.proofs.Order.{is_ascending}
use Rattle.lb_rows.specs.Refusals.{refused_names, refused_rows}
use Rattle.lb_rows.proofs.Pairs.{refused_some, refused_none}
use Rattle.lb_rows.proofs.refusal.Refusal.of.Goals as goal

refused_ascend : is_ascending refused_names ≡ true
unfolding refused_rows
refused_ascend = refl

pub returns : goal.returns
returns c =
    let at : place_of refused_names c.args.name.now ≡ Some c.in_ok-place.place = ap (λ rows. place_of rows c.args.name.now) (sym c.refused.ensures) ∙ sym c.in_ok-place.ensures.first in
    refused_some refused_rows c.args.name.now c.in_ok-place.place c.kind_at.result refused_ascend at c.kind_at.ensures

pub returns-in_err-place : goal.returns-in_err-place
returns-in_err-place c =
    let nowhere : place_of refused_names c.args.name.now ≡ None = ap (λ rows. place_of rows c.args.name.now) (sym c.refused.ensures) ∙ sym c.in_err-place.ensures.first in
    λ kind. refused_none refused_rows c.args.name.now nowhere kind c.from_residual.result c.from_residual.ensures
