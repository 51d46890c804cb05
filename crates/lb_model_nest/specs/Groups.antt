-- Groups (TeXbook, chapter 7; tex.web, parts 19 and 47).
use Rattle.std.specs.Prelude.{◌++◌, nat_lt, List, [], ◌∷◌, length, Option, Some, None, if◌then◌else◌}
use Rattle.std.specs.Option.{option_map}
use Rattle.lb_base.specs.declared.fault.Kind.TheVariants.{DepthLimit, GroupExtra}
use Rattle.lb_base.specs.declared.token.Tok.{Tok}
use Rattle.lb_model.specs.declared.group.GroupKind.{GroupKind}
use Rattle.lb_model.specs.declared.group.GroupKind.TheVariants as group
use Rattle.lb_model.specs.Assignments.{is_innermost}
use Rattle.lb_model.specs.Stacked.{closed, notes_closed, notes_opened, opened}
use Rattle.lb_model_nest.specs.declared.turn.Went.TheVariants as went
use Rattle.lb_model_nest.specs.Wholes.{Executed, Whole, and_then, on, put, stop}

-- ---- The beginning and the end of a group

abbrev pub group_added : GroupKind → Whole → Executed
group_added kind w =
    record {
      done = record {
        went = went.On;
        next = record w { after = [] ∷ w.after; feed = record w.feed { cells = opened w.feed.cells; groups = kind ∷ w.feed.groups } };
      };
      noted = option_map notes_opened;
    }

-- a group is opened: ten thousand may be open
unfoldable pub group_opened : GroupKind → Whole → Executed
group_opened kind w = if nat_lt (length w.feed.groups) 10000 then group_added kind w else stop DepthLimit w

abbrev pub innermost : List GroupKind → Option GroupKind
innermost [] = None
innermost (kind ∷ kinds) = Some kind

abbrev pub kinds_around : List GroupKind → List GroupKind
kinds_around [] = []
kinds_around (kind ∷ kinds) = kinds

abbrev pub later_of : List (List Tok) → List Tok
later_of [] = []
later_of (toks ∷ after) = toks

abbrev pub after_around : List (List Tok) → List (List Tok)
after_around [] = []
after_around (toks ∷ after) = after

-- the cells hold what they held before, but for what was changed globally
abbrev pub group_left : Whole → Executed
group_left w =
    record {
      done = record {
        went = went.On;
        next = record w { after = after_around w.after; feed = record w.feed { cells = closed w.feed.cells; groups = kinds_around w.feed.groups } };
      };
      noted = option_map notes_closed;
    }

-- the innermost group ends, where it is of this kind; the tokens that were kept for then come next, in the order in which they were kept
unfoldable pub group_closed : GroupKind → Whole → Executed
group_closed kind w =
    if is_innermost kind (innermost w.feed.groups) then and_then (group_left w) (put (later_of w.after)) else stop GroupExtra w

-- ---- Rows

-- a character of category 1, and one of category 2: in a box it ends the box's list, which is this
abbrev pub group_ended_as : Option GroupKind → (Whole → Executed) → Whole → Executed
group_ended_as (Some group.Simple) material w = group_closed group.Simple w
group_ended_as (Some group.Material) material w = material w
group_ended_as kind material w = stop GroupExtra w

unfoldable pub begin_group_character : Whole → Executed
begin_group_character w = group_opened group.Simple w

unfoldable pub end_group_character : (Whole → Executed) → Whole → Executed
end_group_character material w = group_ended_as (innermost w.feed.groups) material w

-- `\begingroup` and `\endgroup`
unfoldable pub begingroup : Whole → Executed
begingroup w = group_opened group.Semi w

unfoldable pub endgroup : Whole → Executed
endgroup w = group_closed group.Semi w

-- ---- Tokens that come behind a group

-- outside of all groups a token is dropped; there is room for a million behind one group
abbrev pub kept_behind : Tok → List Tok → List (List Tok) → Whole → Executed
kept_behind tok later after w =
    if nat_lt (length later) 1000000 then on (record w { after = (later ++ tok ∷ []) ∷ after }) else stop DepthLimit w

abbrev pub kept_in : List (List Tok) → Tok → Whole → Executed
kept_in [] tok w = on w
kept_in (later ∷ after) tok w = kept_behind tok later after w

unfoldable pub kept_after : Tok → Whole → Executed
kept_after tok w = kept_in w.after tok w
