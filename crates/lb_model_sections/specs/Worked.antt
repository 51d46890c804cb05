-- Headings, lines of contents and items over the state at the start, for rows that are worked out by hand.
use Rattle.std.specs.Prelude.{false, true, ℕ, ℤ, List, [], codes, None, Some, Result, Ok, Err}
use Rattle.lb_base.specs.declared.fault.Kind.{Kind}
use Rattle.lb_base.specs.declared.token.Tok.{Tok}
use Rattle.lb_model.specs.StartState.{start}
use Rattle.lb_model_counters.specs.Effects.{Effect}
use Rattle.lb_model_counters.specs.Worked.{world}
use Rattle.lb_model_sections.specs.declared.display.Display.{Display}
use Rattle.lb_model_sections.specs.declared.heading.HeadTokens.{HeadTokens}
use Rattle.lb_model_sections.specs.declared.heading.HeadWant.{HeadWant}
use Rattle.lb_model_sections.specs.Contents.{contents_line}
use Rattle.lb_model_sections.specs.Headings.{heading, with_number}
use Rattle.lb_model_sections.specs.Lists.{item}
use Rattle.lb_model_sections.specs.Texts.{toks}

-- a heading with the title T, and with the short title S where it has one
abbrev pub plain : ℤ → HeadWant
plain n = record { n = n; star = false; short = None; title = toks (codes "T") }

abbrev pub starred : ℤ → HeadWant
starred n = record { n = n; star = true; short = None; title = toks (codes "T") }

abbrev pub short : ℤ → HeadWant
short n = record { n = n; star = false; short = Some (toks (codes "S")); title = toks (codes "T") }

abbrev pub effect_of : HeadWant → Effect HeadTokens
effect_of want = heading want world start

-- what it puts back, once 1 stands for its number
abbrev pub with_one : Result HeadTokens Kind → List Tok
with_one (Ok h) = with_number (toks (codes "1")) h.tokens
with_one (Err kind) = []

abbrev pub put : HeadWant → List Tok
put want = with_one (effect_of want).answer

-- a line of contents of a kind, with the title T on page 7
abbrev pub line : List ℕ → Effect (List Tok)
line kind = contents_line kind (toks (codes "T")) (toks (codes "7")) world start

-- an item without a label, and one with the label L
abbrev pub item_of : List Display → Effect (List Tok)
item_of lists = item lists None world start

abbrev pub labelled : List Display → Effect (List Tok)
labelled lists = item lists (Some (toks (codes "L"))) world start
