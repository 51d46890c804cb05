-- The lines of counters, one after another.
use Rattle.std.proofs.Common.{◌≡◌, ◌∙◌, ◌++◌, ◌+◌, ◌<◌, ℕ, List, [], ◌∷◌, Option, refl, ap, sym, append-nil, take, length, map, get_or}
use Rattle.std.specs.List.{flat_map}
use Rattle.std.specs.Option.{option_map}
use Rattle.std.proofs.lemmas.List.Concat.{flat_map-append}
use Rattle.std.proofs.lemmas.List.{map_push, take_more}
use Rattle.lb_values.specs.declared.cell.Cell.{Cell}
use Rattle.lb_values.specs.declared.cell.Cell.TheVariants.{Counter}
use Rattle.lb_model.specs.declared.world.World.{World}
use Rattle.lb_model.specs.Settings.{Notes, State, noted, noted_all}
use Rattle.lb_model.proofs.TakenLemmas.{noted-append}
use Rattle.lb_model_aux.specs.Checkpoints.{numbered}
use Rattle.lb_model_journal.specs.Written.{counter_line}
use Rattle.lb_aux.specs.Texts.{counter_lines}

-- one name more
taken : (names : List (List ℕ)) (i : ℕ) (name : List ℕ) → i < length names → name ≡ get_or names i name → take (i + 1) names ≡ take i names ++ name ∷ []
taken names i name h e = take_more names i name h ∙ ap (λ n. take i names ++ n ∷ []) (sym e)

pub lines-more : (w : World) (s : State) (names : List (List ℕ)) (i : ℕ) (name : List ℕ) → i < length names → name ≡ get_or names i name
    → counter_lines w s (take (i + 1) names) ≡ counter_lines w s (take i names) ++ counter_line (numbered w s name)
lines-more w s names i name h e =
    ap (counter_lines w s) (taken names i name h e)
    ∙ ap (flat_map counter_line) (map_push (numbered w s) (take i names) name)
    ∙ flat_map-append counter_line (map (numbered w s) (take i names)) (numbered w s name ∷ [])
    ∙ ap (λ l. counter_lines w s (take i names) ++ l) (append-nil (counter_line (numbered w s name)))

pub notes-more : (names : List (List ℕ)) (i : ℕ) (name : List ℕ) (o : Option Notes) → i < length names → name ≡ get_or names i name
    → option_map (noted (Counter name)) (option_map (noted_all (map Counter (take i names))) o) ≡ option_map (noted_all (map Counter (take (i + 1) names))) o
notes-more names i name o h e =
    one (Counter name) (option_map (noted_all (map Counter (take i names))) o)
    ∙ sym (noted-append (map Counter (take i names)) (Counter name ∷ []) o)
    ∙ sym (ap (λ cells. option_map (noted_all cells) o) (ap (map Counter) (taken names i name h e) ∙ map_push Counter (take i names) name))
  where
    one : (cell : Cell) (o : Option Notes) → option_map (noted cell) o ≡ option_map (noted_all (cell ∷ [])) o
    one cell o = refl
