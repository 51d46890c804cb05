use Rattle.std.proofs.Common.{◌∙◌, sym}
use Rattle.std.specs.Prelude.{if◌then◌else◌}
use Rattle.lb_model.specs.declared.open.ReadingKind.TheVariants.{Scan}
use Rattle.lb_model.specs.Quantities.Internal.{Picked}
use Rattle.lb_model_grammar.specs.declared.given.Quantity.TheVariants.{NotOne}
use Rattle.lb_model_expansion.specs.Expansion.{more_to_read, scan_quantity}
use Rattle.lb_expand.proofs.CloseLemmas.{closes-as}
use Rattle.lb_expand.proofs.feeder.Feeder.pick_for_scan.Goals as goal

pub returns-then-is_tokens-clause-closes : goal.returns-then-is_tokens-clause-closes
returns-then-is_tokens-clause-closes g c =
    let s = c.args.scan in
    closes-as (λ b more d. if b then scan_quantity s.kind c.args.purpose s.given NotOne more d else more_to_read (Picked c.args.indexed) (Scan s.kind c.args.purpose) s.given d) c.scan_quantity.result
    (sym c.is_tokens.ensures ∙ c.if-is_tokens.true) c.scan_quantity.ensures.closes
