-- What comes next of a macro that is under way.
use Rattle.std.specs.Prelude.{◌++◌, Bool, true, false, List, ◌∷◌}
use Rattle.lb_base.specs.declared.token.Tok.{Tok}
use Rattle.lb_macros.specs.declared.call.Piece.{Piece}
use Rattle.lb_macros.specs.declared.call.Piece.TheVariants as piece

-- a piece, and what stands behind it
abbrev pub piece_before : Piece → List Tok → List Tok
piece_before (piece.Tok tok) toks = tok ∷ toks
piece_before (piece.Argument rest) toks = rest ++ toks
piece_before piece.Nothing toks = toks
piece_before piece.End toks = toks

abbrev pub is_end : Piece → Bool
is_end piece.End = true
is_end p = false
