use Rattle.std.proofs.Common.{◌≡◌, ◌∙◌, sym, ap}
use denote.Enum.Bare.{same_true, true_same}
use Rattle.lb_rows.specs.contracts.command.Command.{the_type}
use Rattle.lb_values.specs.declared.meaning.Meaning.TheVariants.{Row}
use Rattle.lb_values.proofs.meaning.Meaning.equals.Goals as goal

pub returns-in-Row-Row : goal.returns-in-Row-Row
returns-in-Row-Row c = (
  λ h. c.in-Row-Row.is-0 ∙ ap Row (same_true the_type tt c.in-Row-Row.command c.in-Row-Row.other (sym c.eq.ensures ∙ h)) ∙ sym c.in-Row-Row.is-1,
  λ e.
      let rows : Row c.in-Row-Row.command ≡ Row c.in-Row-Row.other = sym c.in-Row-Row.is-0 ∙ e ∙ c.in-Row-Row.is-1 in
      c.eq.ensures ∙ true_same the_type c.in-Row-Row.command c.in-Row-Row.other (cc),
)
