-- Environments (source2e, file ltmiscen, on `\begin`, `\end` and `\@checkend`).
use Rattle.std.specs.Prelude.{Bool, true, false, ℕ, nat_eq, List, [], ◌∷◌, codes, is_some, unwrap_or, if◌then◌else◌}
use Rattle.std.specs.Cmp.Lexicographic.{pointwise}
use Rattle.lb_base.specs.declared.fault.Kind.TheVariants.{EnvironmentMismatch}
use Rattle.lb_base.specs.declared.token.Tok.{Tok}
use Rattle.lb_base.specs.declared.token.Tok.TheVariants as token
use Rattle.lb_values.specs.declared.cell.Cell.TheVariants as cell
use Rattle.lb_values.specs.declared.reach.Reach.TheVariants.{Local}
use Rattle.lb_values.specs.declared.value.Value.TheVariants as value
use Rattle.lb_model.specs.declared.group.GroupKind.TheVariants.{Semi}
use Rattle.lb_model.specs.Configs.{put_back}
use Rattle.lb_model.specs.Kinds.{meaning_of, name_of}
use Rattle.lb_model.specs.Sources.{Item, is_boundary}
use Rattle.lb_model.specs.Sources.Item.{Pending}
use Rattle.lb_model_nest.specs.Groups.{group_closed, group_opened}
use Rattle.lb_model_nest.specs.Wholes.{Executed, Whole, and_then, change, looking, put, stop, tells, with_feed}
use Rattle.lb_model_nest.specs.Words.{word_ended}
use Rattle.lb_model_engine.specs.Documents.{document_begun}
use Rattle.lb_model_engine.specs.NewNames.{end_name}
use Rattle.lb_model_engine.specs.Reads.{characters}

-- ---- `\begin`

-- a group in which the name is known; the macro of that name comes next
abbrev pub environment_named : List ℕ → Whole → Executed
environment_named name w = and_then (change Local cell.Env (value.Name name) w) (put (token.Word name ∷ []))

abbrev pub begun : List ℕ → Whole → Executed
begun name w = if pointwise nat_eq name (codes "document") then document_begun w else and_then (group_opened Semi w) (environment_named name)

unfoldable pub begin_row : Whole → Executed
begin_row w = characters begun w

-- ---- The end of an environment

-- the name has to be that of the innermost environment, whose group then ends
abbrev pub environment_now : Whole → List ℕ
environment_now w = unwrap_or (name_of (tells w cell.Env)) []

abbrev pub end_checked : List ℕ → Whole → Executed
end_checked name w =
    looking (cell.Env ∷ []) (if pointwise nat_eq name (environment_now w) then group_closed Semi w else stop EnvironmentMismatch w)

-- ---- `\end`

-- The macro of the end runs first, where there is one, and what it puts comes before the check. So a boundary stands behind it, past which
-- nothing is taken: where all before it is used up, the environment ends, without a token and without a step. (tex.web, part 37, has
-- `end_template` for the like: it stands behind the template of an alignment entry, and is no token that a macro may take.)
abbrev pub boundary : Tok
boundary = token.Param 0

abbrev pub bounded : List ℕ → Whole → Whole
bounded name w = record w { ending = name ∷ w.ending; feed = put_back boundary w.feed }

abbrev pub end_begun : List ℕ → Whole → Executed
end_begun name w = put (token.Word (end_name name) ∷ []) (bounded name w)

abbrev pub end_named : List ℕ → Whole → Executed
end_named name w =
    looking (cell.Word (end_name name) ∷ [])
    (if is_some (meaning_of (tells w (cell.Word (end_name name)))) then end_begun name w else end_checked name w)

unfoldable pub end_row : Whole → Executed
end_row w = characters end_named w

-- ---- At a boundary

abbrev pub is_bounded : List Item → Bool
is_bounded (Pending tok ∷ source) = is_boundary tok
is_bounded source = false

abbrev pub behind_boundary : List Item → List Item
behind_boundary [] = []
behind_boundary (item ∷ source) = source

abbrev pub boundary_taken : Whole → Whole
boundary_taken w = with_feed (record w.feed { source = behind_boundary w.feed.source }) w

-- the boundary is taken away, the word before it ends, and then the environment does
abbrev pub environment_ended : List ℕ → List (List ℕ) → Whole → Executed
environment_ended name ending w = and_then (word_ended (record (boundary_taken w) { ending = ending })) (end_checked name)

-- what is done where the feed has no more: at a boundary an environment ends, and else the text
abbrev pub over_at : Bool → List (List ℕ) → (Whole → Executed) → Whole → Executed
over_at true (name ∷ ending) text_ended w = environment_ended name ending w
over_at bounded ending text_ended w = text_ended w

unfoldable pub over : (Whole → Executed) → Whole → Executed
over text_ended w = over_at (is_bounded w.feed.source) w.ending text_ended w
