use Rattle.std.proofs.Common.{◌≡◌, ◌∙◌, Some, ap, rules}
use Rattle.lb_rows.specs.declared.parameter.Parameter.TheVariants.{BaselineSkip}
use Rattle.lb_values.specs.declared.cell.Cell.TheVariants.{Par}
use Rattle.lb_values.specs.declared.value.Value.TheVariants as value
use Rattle.lb_model.specs.FontTable.{baselineskip_of}
use Rattle.lb_model.specs.Kinds.{no_glue}
use Rattle.lb_model.specs.Ranges.{fits}
use Rattle.lb_engine.proofs.SkipLemmas.{skip-fits}
use Rattle.lb_engine.proofs.styles.skip_at.Goals as goal

pub returns-clause-fits : goal.returns-clause-fits
returns-clause-fits c =
    let found : baselineskip_of c.args.size ≡ Some c.in_ok-width.width = search rules in
    let glue : c.glue_of.result ≡ record no_glue { width = c.in_ok-width.width } = search rules in
    ap (λ g. fits (Par BaselineSkip) (value.Glue g)) glue ∙ skip-fits c.args.size c.in_ok-width.width found
