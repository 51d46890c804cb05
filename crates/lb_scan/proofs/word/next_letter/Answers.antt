use Rattle.std.proofs.Common.{◌∙◌, ◌∷◌, ap, sym, drop}
use Rattle.lb_model_grammar.specs.Scans.{letters}
use Rattle.lb_scan.proofs.WordLemmas.{no-letter_end, no-letter_quantity}
use Rattle.lb_scan.proofs.word.next_letter.Goals as goal

pub returns-in-Quantity-clause-next : goal.returns-in-Quantity-clause-next
returns-in-Quantity-clause-next c =
    λ f m more.
    sym
    (
    ap (λ g. letters (drop c.args.count c.args.word.now) f m (g ∷ more)) c.in-Quantity.is
    ∙ no-letter_quantity c.args.word.now c.args.count f m c.in-Quantity.field-0 more c.requires
    )

pub returns-in-End-clause-next : goal.returns-in-End-clause-next
returns-in-End-clause-next c =
    λ f m more.
    sym
    (
    ap (λ g. letters (drop c.args.count c.args.word.now) f m (g ∷ more)) c.in-End.is
    ∙ no-letter_end c.args.word.now c.args.count f m more c.requires
    )
