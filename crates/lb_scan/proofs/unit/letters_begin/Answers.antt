use Rattle.std.proofs.Common.{◌∙◌, ◌∷◌, ap, sym}
use Rattle.lb_base.specs.declared.fault.Kind.TheVariants.{UnitMissing}
use Rattle.lb_model_grammar.specs.declared.given.Given.TheVariants.{Tok}
use Rattle.lb_model_grammar.specs.Dimensions.{in_unit}
use Rattle.lb_model_grammar.specs.Scans.{one_of}
use Rattle.lb_scan.specs.declared.length.Length.TheVariants.{Letters}
use Rattle.lb_scan.specs.Lengths.{turned_length}
use Rattle.lb_scan.specs.Words.{units_in}
use Rattle.lb_scan.proofs.UnitLemmas.{units-begin, units-begin-none, none-behind}
use Rattle.lb_scan.proofs.unit.letters_begin.Goals as goal

pub returns-in-Some-first_letter-clause-next : goal.returns-in-Some-first_letter-clause-next
returns-in-Some-first_letter-clause-next c =
    λ u same more.
    let d = c.args.decimal in
    let f = in_unit u d.negative d.whole d.part in
    ap (λ s. turned_length u s c.goes.result (Tok c.args.tok.now) more) c.goes.ensures.stage
    ∙ ap (λ r. turned_length u (Letters d c.in-Some-first_letter.prefix) r (Tok c.args.tok.now) more) c.goes.ensures.goes
    ∙ sym
    (
    ap (λ ws. one_of ws f (u.missing UnitMissing) (Tok c.args.tok.now ∷ more)) same
    ∙ units-begin c.args.infinite f (u.missing UnitMissing) c.args.tok.now more c.in-Some.letter (sym c.letter_of.ensures ∙ c.in-Some.is)
    ∙ ap (λ ws. one_of ws f (u.missing UnitMissing) more) c.in-Some-first_letter.ensures
    )

pub returns-in-None-first_letter-clause-next : goal.returns-in-None-first_letter-clause-next
returns-in-None-first_letter-clause-next c =
    λ u same more.
    let d = c.args.decimal in
    let f = in_unit u d.negative d.whole d.part in
    ap (λ r. turned_length u c.args.stage.now r (Tok c.args.tok.now) more) c.no_unit.ensures
    ∙ sym
    (
    ap (λ ws. one_of ws f (u.missing UnitMissing) (Tok c.args.tok.now ∷ more)) same
    ∙ units-begin c.args.infinite f (u.missing UnitMissing) c.args.tok.now more c.in-Some.letter (sym c.letter_of.ensures ∙ c.in-Some.is)
    ∙ ap (λ ws. one_of ws f (u.missing UnitMissing) more) (none-behind c.in-Some.letter (units_in c.args.infinite) c.in-None-first_letter.ensures)
    )

pub returns-in-None-clause-next : goal.returns-in-None-clause-next
returns-in-None-clause-next c =
    λ u same more.
    let d = c.args.decimal in
    let f = in_unit u d.negative d.whole d.part in
    ap (λ r. turned_length u c.args.stage.now r (Tok c.args.tok.now) more) c.no_unit-in-None.ensures
    ∙ sym
    (
    ap (λ ws. one_of ws f (u.missing UnitMissing) (Tok c.args.tok.now ∷ more)) same
    ∙ units-begin-none c.args.infinite f (u.missing UnitMissing) c.args.tok.now more (sym c.letter_of.ensures ∙ c.in-None.is)
    )
