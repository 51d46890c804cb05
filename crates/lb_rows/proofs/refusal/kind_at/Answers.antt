use Rattle.std.proofs.Common.{map}
use Rattle.std.proofs.lemmas.Option.{slice_get-get_or}
use Rattle.lb_rows.specs.declared.refusal.Refusal.TheVariants.{Math}
use Rattle.lb_rows.specs.Refusals.{refused_rows}
use Rattle.lb_rows.proofs.refusal.kind_at.Goals as goal

pub returns : goal.returns
unfolding refused_rows
returns c = slice_get-get_or (map (λ row. row.1) refused_rows) c.args.place Math c.requires
