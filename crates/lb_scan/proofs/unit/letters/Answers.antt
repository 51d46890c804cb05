use Rattle.std.proofs.Common.{◌∙◌, ◌∷◌, ap, sym}
use Rattle.lb_base.specs.declared.fault.Kind.TheVariants.{UnitMissing}
use Rattle.lb_model_grammar.specs.Dimensions.{in_unit}
use Rattle.lb_model_grammar.specs.Scans.{one_of}
use Rattle.lb_scan.specs.Words.{behind_letter, endings, no_letter}
use Rattle.lb_scan.proofs.UnitLemmas.{one-of-letter}
use Rattle.lb_scan.proofs.unit.letters.Goals as goal

pub returns-in-Some-clause-next : goal.returns-in-Some-clause-next
returns-in-Some-clause-next c =
    λ u more.
    let d = c.args.decimal in
    let f = in_unit u d.negative d.whole d.part in
    let ends = endings c.args.prefix in
    c.letter_more.ensures.next u more
    ∙ ap (λ g. one_of (behind_letter c.in-Some.letter ends) f (no_letter ends (λ x. f x (g ∷ more)) (u.missing UnitMissing)) more) c.in-Tok.is
    ∙ sym
    (
    ap (λ g. one_of ends f (u.missing UnitMissing) (g ∷ more)) c.in-Tok.is
    ∙ one-of-letter f (u.missing UnitMissing) c.in-Tok.tok more c.in-Some.letter (sym c.letter_of.ensures ∙ c.in-Some.is) ends
    )
