use Rattle.std.proofs.Common.{◌≤◌, List, ℕ, length, rules, subst, sym}
use Rattle.lb_tfm_make.specs.FontBytes.{distinct_widths}
use Rattle.lb_tfm_make.specs.MadeFonts.{IsMadeOf}
use Rattle.lb_tfm_make.proofs.MadeFiles.{is-made}
use Rattle.lb_tfm_make.proofs.making.make.Goals as goal

pub returns-clause-made : goal.returns-clause-made
returns-clause-made c =
    let spec = c.args.spec.now in
    let few : length (distinct_widths spec.widths) ≤ 255 = search rules in
    subst (λ (bytes : List ℕ). IsMadeOf spec bytes) (sym c.in_ok-bytes.ensures.bytes) (is-made spec c.requires c.in_ok-bytes.ensures.check c.in_ok-bytes.ensures.last few)
