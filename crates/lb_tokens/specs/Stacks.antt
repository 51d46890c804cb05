-- What a stack of tokens, lists and bodies stands for: one list of tokens.
use Rattle.std.specs.Prelude.{◌+◌, ◌*◌, ◌++◌, ℕ, List, [], ◌∷◌, length}
use Rattle.lb_base.specs.declared.token.Tok.{Tok}
use Rattle.lb_model_grammar.specs.Arguments.{substituted}
use Rattle.lb_tokens.specs.declared.stack.Entry.{Entry}
use Rattle.lb_tokens.specs.declared.stack.Entry.TheVariants as entry

-- what an entry stands for, before these
abbrev pub entry_before : Entry → List Tok → List Tok
entry_before (entry.One tok) toks = tok ∷ toks
entry_before (entry.Rest rest) toks = rest ++ toks
entry_before (entry.Call call) toks = substituted call.value.arguments call.value.body ++ toks

abbrev pub flat : List Entry → List Tok
flat [] = []
flat (e ∷ entries) = entry_before e (flat entries)

-- how many turns it takes at most to come to a token
abbrev pub turns_of : Entry → ℕ
turns_of (entry.Call call) = 2 * length call.value.body + 1
turns_of e = 1

abbrev pub turns : List Entry → ℕ
turns [] = 0
turns (e ∷ entries) = turns_of e + turns entries
