-- The tokens of a text of control sequences, characters and spaces, read from character to character.
use Rattle.std.specs.Prelude.{◌++◌, ◌==◌, ◌||◌, Bool, true, false, ℕ, List, [], ◌∷◌, Option, Some, None, if◌then◌else◌}
use Rattle.lb_base.specs.declared.token.Category.{Category}
use Rattle.lb_base.specs.declared.token.Category.TheVariants.{BeginGroup, EndGroup, Letter, Other, Space}
use Rattle.lb_base.specs.declared.token.Tok.{Tok}
use Rattle.lb_base.specs.declared.token.Tok.TheVariants.{Char, Word}
use Rattle.lb_model.specs.StartState.{is_lower, is_upper}
use Rattle.lb_model_sections.specs.declared.texts.Reader.{Reader}

-- what belongs to the name of a control word
abbrev pub is_name_letter : ℕ → Bool
is_name_letter code = code == 64 || (is_upper code || is_lower code)

abbrev pub simple_category : ℕ → Category
simple_category code = if is_name_letter code then Letter else if code == 123 then BeginGroup else if code == 125 then EndGroup else Other

-- a space, where it is not skipped
abbrev pub spaced : List Tok → Bool → List Tok
spaced toks true = toks
spaced toks false = toks ++ Char Space 32 ∷ []

-- a character behind what was read, where no control sequence is open
abbrev pub in_text : List Tok → Bool → ℕ → Reader
in_text toks skips code =
    if code == 92 then record { toks = toks; name = Some []; skips = false }
    else if code == 32 then record { toks = spaced toks skips; name = None; skips = true }
    else record { toks = toks ++ Char (simple_category code) code ∷ []; name = None; skips = false }

-- one that ends a name, or is that of a control symbol
abbrev pub behind_name : List Tok → List ℕ → ℕ → Reader
behind_name toks [] code = record { toks = toks ++ Word (code ∷ []) ∷ []; name = None; skips = code == 32 }
behind_name toks (c ∷ name) code = in_text (toks ++ Word (c ∷ name) ∷ []) true code

abbrev pub in_name : List Tok → List ℕ → ℕ → Reader
in_name toks name code =
    if is_name_letter code then record { toks = toks; name = Some (name ++ code ∷ []); skips = false } else behind_name toks name code

abbrev pub read_behind : Option (List ℕ) → List Tok → Bool → ℕ → Reader
read_behind None toks skips code = in_text toks skips code
read_behind (Some name) toks skips code = in_name toks name code

abbrev pub read_one : Reader → ℕ → Reader
read_one r code = read_behind r.name r.toks r.skips code

abbrev pub read_all : Reader → List ℕ → Reader
read_all r [] = r
read_all r (c ∷ text) = read_all (read_one r c) text

-- a name is at its end where the text is
abbrev pub named_at_end : Option (List ℕ) → List Tok → List Tok
named_at_end None toks = toks
named_at_end (Some name) toks = toks ++ Word name ∷ []

abbrev pub at_end : Reader → List Tok
at_end r = named_at_end r.name r.toks

abbrev pub begun : Reader
begun = record { toks = []; name = None; skips = true }

abbrev pub simple_tokens : List ℕ → List Tok
simple_tokens text = at_end (read_all begun text)
