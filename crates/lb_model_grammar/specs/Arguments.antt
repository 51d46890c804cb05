-- The arguments of macros (TeXbook, chapter 20; tex.web, part 25).
use Rattle.std.specs.Prelude.{◌++◌, ◌-◌, ◌&&◌, Bool, true, false, not, ℕ, zero, suc, nat_lt, nat_eq, List, [], ◌∷◌, length, codes, get_or, Option, Some, None, if◌then◌else◌}
use Rattle.std.specs.Cmp.Lexicographic.{pointwise}
use Rattle.lb_base.specs.declared.fault.Kind.TheVariants.{UseMismatch, Runaway, DepthLimit}
use Rattle.lb_base.specs.declared.token.Category.TheVariants as category
use Rattle.lb_base.specs.declared.token.Tok.{Tok}
use Rattle.lb_base.specs.declared.token.Tok.TheVariants.{Char, Word, Param}
use Rattle.lb_model_grammar.specs.declared.given.Given.{Given}
use Rattle.lb_model_grammar.specs.declared.given.Given.TheVariants.{Tok as AToken}
use Rattle.lb_model_grammar.specs.declared.given.Want.TheVariants as want
use Rattle.lb_model_grammar.specs.declared.class.Brace.{Brace}
use Rattle.lb_model_grammar.specs.declared.class.Brace.TheVariants.{Opening, Closing, Paragraph, Plain}
use Rattle.lb_model_grammar.specs.Same.{tok_eq}
use Rattle.lb_model_grammar.specs.Scans.{Meant, is_space, is_other}
use Rattle.lb_model_grammar.specs.Scans.Meant.{Open, Ended, Wrong}

-- ---- Braces

abbrev pub opens : Tok → Bool
opens (Char category.BeginGroup code) = true
opens tok = false

abbrev pub closes : Tok → Bool
closes (Char category.EndGroup code) = true
closes tok = false

-- `\par`, which only the argument of a long macro may have
abbrev pub is_par : Tok → Bool
is_par (Word name) = pointwise nat_eq name (codes "par")
is_par tok = false

-- what a token is in an argument
abbrev pub brace_of : Bool → Tok → Brace
brace_of long tok =
    if opens tok then Opening
    else (if closes tok then Closing
    else (if is_par tok && not long then Paragraph else Plain))

-- ---- One argument

-- an argument with one more token, which it may have no more than a million of
abbrev pub longer : {X : Type 0} → List Tok → Tok → (List Tok → Meant X) → Meant X
longer body t more = if nat_lt (length body) 1000000 then more (body ++ t ∷ []) else Wrong DepthLimit

-- the rest of a group whose opening brace was taken, by what its next token is
abbrev pub group_as : Brace → ℕ → List Tok → Tok → (ℕ → List Tok → Meant (List Tok)) → List Given → Meant (List Tok)
group_as Opening level body t more given = longer body t (more (suc level))
group_as Closing zero body t more given = Ended body given
group_as Closing (suc level) body t more given = longer body t (more level)
group_as Paragraph level body t more given = Wrong Runaway
group_as Plain level body t more given = longer body t (more level)

abbrev pub group : Bool → ℕ → List Tok → List Given → Meant (List Tok)
group long level body [] = Open want.Plain
group long level body (AToken t ∷ given) = group_as (brace_of long t) level body t (λ l b. group long l b given) given
group long level body (g ∷ given) = Wrong Runaway

-- an undelimited argument: spaces are skipped, and then it is one token or one group without its braces
abbrev pub undelimited_as : Brace → Bool → Tok → Meant (List Tok) → List Given → Meant (List Tok)
undelimited_as Opening long t more given = group long 0 [] given
undelimited_as Closing long t more given = Wrong UseMismatch
undelimited_as Paragraph long t more given = Wrong Runaway
undelimited_as Plain long t more given = if is_space t then more else Ended (t ∷ []) given

abbrev pub undelimited : Bool → List Given → Meant (List Tok)
undelimited long [] = Open want.Plain
undelimited long (AToken t ∷ given) = undelimited_as (brace_of long t) long t (undelimited long given) given
undelimited long (g ∷ given) = Wrong Runaway

-- whether a list begins with these tokens, and what stands behind them; or it may yet begin so; or the end comes before; or it does not
pub data Begun : Type 0 where
  Does : List Given → Begun
  May : Begun
  Cut : Begun
  DoesNot : Begun

abbrev pub begins : List Tok → List Given → Begun
begins [] given = Does given
begins (d ∷ delimiter) [] = May
begins (d ∷ delimiter) (AToken t ∷ given) = if tok_eq d t then begins delimiter given else DoesNot
begins (d ∷ delimiter) (g ∷ given) = Cut

-- how many braces are open after a token, None once the first one is closed
abbrev pub one_less : ℕ → Option ℕ
one_less zero = None
one_less (suc level) = Some level

abbrev pub level_then : Tok → ℕ → Option ℕ
level_then t level = if opens t then Some (suc level) else (if closes t then one_less level else Some level)

-- whether that is at the end
abbrev pub closes_at_end : Option ℕ → List Tok → Bool
closes_at_end None [] = true
closes_at_end None (t ∷ toks) = false
closes_at_end (Some level) [] = false
closes_at_end (Some level) (t ∷ toks) = closes_at_end (level_then t level) toks

-- all but the last
abbrev pub but_last : List Tok → List Tok
but_last [] = []
but_last (t ∷ []) = []
but_last (t ∷ toks) = t ∷ but_last toks

-- an argument that is wholly one group, without its braces
abbrev pub without_braces : List Tok → List Tok
without_braces [] = []
without_braces (t ∷ toks) = if opens t && closes_at_end (Some 0) toks then but_last toks else t ∷ toks

-- the delimiter stands at the base
abbrev pub at_base : ℕ → Begun → Begun
at_base zero begun = begun
at_base (suc level) begun = DoesNot

-- a token of a delimited argument that does not begin its delimiter
abbrev pub delimited_as : Brace → ℕ → List Tok → Tok → (ℕ → List Tok → Meant (List Tok)) → Meant (List Tok)
delimited_as Opening level body t more = longer body t (more (suc level))
delimited_as Closing zero body t more = Wrong UseMismatch
delimited_as Closing (suc level) body t more = longer body t (more level)
delimited_as Paragraph level body t more = Wrong Runaway
delimited_as Plain level body t more = longer body t (more level)

-- the delimiter ends the argument, or may, or another token comes
abbrev pub delimited_by : Begun → List Tok → Meant (List Tok) → Meant (List Tok)
delimited_by (Does rest) body more = Ended (without_braces body) rest
delimited_by May body more = Open want.Plain
delimited_by Cut body more = Wrong Runaway
delimited_by DoesNot body more = more

-- a delimited argument, of which this body is taken and this many braces are open: the shortest balanced list that the delimiter follows
abbrev pub delimited : Bool → List Tok → ℕ → List Tok → List Given → Meant (List Tok)
delimited long delimiter level body [] = Open want.Plain
delimited long delimiter level body (AToken t ∷ given) =
    delimited_by (at_base level (begins delimiter (AToken t ∷ given))) body
    (delimited_as (brace_of long t) level body t (λ l b. delimited long delimiter l b given))
delimited long delimiter level body (g ∷ given) = Wrong Runaway

-- an argument before this delimiter, where there is one
abbrev pub argument : Bool → List Tok → List Given → Meant (List Tok)
argument long [] given = undelimited long given
argument long (d ∷ delimiter) given = delimited long (d ∷ delimiter) 0 [] given

-- an optional first argument, in brackets: spaces before it are skipped
abbrev pub optional : Bool → List Tok → List Given → Meant (List Tok)
optional long default [] = Open want.Plain
optional long default (AToken t ∷ given) =
    if is_space t then optional long default given
    else (if is_other 91 t then delimited long (Char category.Other 93 ∷ []) 0 [] given else Ended default (AToken t ∷ given))
optional long default (g ∷ given) = Ended default (g ∷ given)

-- ---- All arguments

-- the tokens before the first parameter, and what delimits each parameter
abbrev pub parts_of : List Tok → List Tok × List (List Tok)
parts_of [] = ([], [])
parts_of (Param n ∷ toks) = let parts = parts_of toks in ([], parts.0 ∷ parts.1)
parts_of (t ∷ toks) = let parts = parts_of toks in (t ∷ parts.0, parts.1)

-- what stands before the first parameter has to be there
abbrev pub front_as : Begun → Meant (List Tok)
front_as (Does rest) = Ended [] rest
front_as May = Open want.Plain
front_as Cut = Wrong UseMismatch
front_as DoesNot = Wrong UseMismatch

abbrev pub front : List Tok → List Given → Meant (List Tok)
front toks given = front_as (begins toks given)

-- ---- Bodies

-- what a token of a body stands for
abbrev pub filled : List (List Tok) → Tok → List Tok
filled xs (Param n) = get_or xs (n - 1) []
filled xs tok = tok ∷ []

-- a body with its arguments
abbrev pub substituted : List (List Tok) → List Tok → List Tok
substituted xs [] = []
substituted xs (t ∷ body) = filled xs t ++ substituted xs body
