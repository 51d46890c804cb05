-- Material from an argument: its tokens are put back with a brace behind them (TeXbook, chapters 23 to 25; tex.web, part 47, sections 1097 to 1121;
-- source2e, file ltpage).
use Rattle.std.specs.Prelude.{true, false, List, if◌then◌else◌}
use Rattle.lb_base.specs.declared.fault.Kind.TheVariants.{WrongMode}
use Rattle.lb_base.specs.declared.token.Tok.{Tok}
use Rattle.lb_model_nest.specs.declared.nest.ListKind.{ListKind}
use Rattle.lb_model_nest.specs.declared.nest.ListKind.TheVariants as list
use Rattle.lb_model_nest.specs.Boxes.{list_opened, mark_opened, parts_opened}
use Rattle.lb_model_nest.specs.Paragraphs.{begun_in_vertical}
use Rattle.lb_model_nest.specs.Wholes.{Executed, Whole, and_then, is_paragraph, stop}
use Rattle.lb_model_engine.specs.Reads.{argument, put_closed}

abbrev pub material_begun : ListKind → Whole → Executed
material_begun kind w = argument (λ toks v. and_then (put_closed toks v) (list_opened kind)) w

abbrev pub in_paragraph : (Whole → Executed) → Whole → Executed
in_paragraph row w = if is_paragraph w.feed.mode then row w else stop WrongMode w

-- `\vadjust` and footnotes, in paragraphs alone
unfoldable pub vadjust : Whole → Executed
vadjust w = in_paragraph (material_begun list.Adjust) w

unfoldable pub footnote : Whole → Executed
footnote w = in_paragraph (material_begun list.Footnote) w

-- `\discretionary`
abbrev pub three_put : List Tok → List Tok → List Tok → Whole → Executed
three_put first second third w = and_then (and_then (put_closed third w) (put_closed second)) (put_closed first)

abbrev pub parts_begun : List Tok → List Tok → List Tok → Whole → Executed
parts_begun first second third w = and_then (three_put first second third w) parts_opened

abbrev pub three_arguments : (List Tok → List Tok → List Tok → Whole → Executed) → Whole → Executed
three_arguments row w = argument (λ first v. argument (λ second u. argument (λ third x. row first second third x) u) v) w

unfoldable pub discretionary : Whole → Executed
discretionary w = and_then (begun_in_vertical true w) (three_arguments parts_begun)

-- `\markboth` and `\markright`: the boxes are made now
unfoldable pub markboth : Whole → Executed
markboth w =
    argument (λ left v. argument (λ right u. and_then (and_then (put_closed right u) (put_closed left)) (mark_opened false)) v) w

unfoldable pub markright : Whole → Executed
markright w = argument (λ right v. and_then (put_closed right v) (mark_opened true)) w
