use Rattle.std.proofs.Common.{◌∙◌, ◌++◌, [], drop, sym, ap}
use Rattle.std.proofs.lemmas.List.{append-nil}
use Rattle.lb_model_grammar.specs.Printed.{numerals, roman}
use Rattle.lb_print.proofs.roman.roman.Goals as goal

pub returns : goal.returns
returns c =
    sym (append-nil c.write_numeral-13.new.text)
    ∙ c.in_ok-write_numeral-13.ensures (drop 13 numerals)
    ∙ c.in_ok-write_numeral-12.ensures (drop 12 numerals)
    ∙ c.in_ok-write_numeral-11.ensures (drop 11 numerals)
    ∙ c.in_ok-write_numeral-10.ensures (drop 10 numerals)
    ∙ c.in_ok-write_numeral-9.ensures (drop 9 numerals)
    ∙ c.in_ok-write_numeral-8.ensures (drop 8 numerals)
    ∙ c.in_ok-write_numeral-7.ensures (drop 7 numerals)
    ∙ c.in_ok-write_numeral-6.ensures (drop 6 numerals)
    ∙ c.in_ok-write_numeral-5.ensures (drop 5 numerals)
    ∙ c.in_ok-write_numeral-4.ensures (drop 4 numerals)
    ∙ c.in_ok-write_numeral-3.ensures (drop 3 numerals)
    ∙ c.in_ok-write_numeral-2.ensures (drop 2 numerals)
    ∙ c.in_ok-write_numeral.ensures (drop 1 numerals)
    ∙ ap (λ t. t ++ roman c.args.number) c.new-text.ensures
