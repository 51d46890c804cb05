use Rattle.std.proofs.Common.{◌∙◌, ap, sym, nat_eq}
use Rattle.std.specs.Cmp.Lexicographic.{pointwise}
use Rattle.std.specs.Map.{lookup}
use Rattle.std.specs.Option.{option_map_or}
use Rattle.lb_base.specs.declared.fault.Kind.TheVariants.{Undefined}
use Rattle.lb_rows.specs.Refusals.{refused_rows}
use Rattle.lb_model.specs.Meanings.{refused_as, undefined}
use Rattle.lb_expand.proofs.RefusedLemmas.{refused-looked}
use Rattle.lb_expand.proofs.steps.undefined.Goals as goal

pub returns-in-Word : goal.returns-in-Word
returns-in-Word c =
    let name = c.as_slice.result.now in
    c.refused_as.ensures
    ∙ ap (λ o. option_map_or refused_as o Undefined) (sym (refused-looked refused_rows name c.of.result c.of.ensures))
    ∙ ap (λ n. option_map_or refused_as (lookup (pointwise nat_eq n) refused_rows) Undefined) c.as_slice.ensures
    ∙ ap undefined (sym c.in-Word.is)
