-- Tokens of a delimited argument, of which some are decided.
use Rattle.std.proofs.Common.{◌≡◌, ◌∙◌, ◌++◌, ◌<◌, ◌≤◌, Bool, true, false, ℕ, suc, List, [], ◌∷◌, refl, ap, sym, take, drop, length, arith, add-one, ◌+◌}
use Rattle.std.specs.Prelude.{if◌then◌else◌, get_or}
use Rattle.std.proofs.Math.Seq.{drop-cons, drop-length}
use Rattle.std.proofs.lemmas.List.{take-append-le, drop-append-le}
use Rattle.lb_base.specs.declared.fault.Kind.TheVariants.{UseMismatch}
use Rattle.lb_base.specs.declared.token.Category.TheVariants as category
use Rattle.lb_base.specs.declared.token.Tok.{Tok}
use Rattle.lb_base.specs.declared.token.Tok.TheVariants.{Char, Param}
use Rattle.lb_model_grammar.specs.declared.given.Given.{Given}
use Rattle.lb_model_grammar.specs.declared.given.Given.TheVariants.{Tok as AToken, End as AnEnd}
use Rattle.lb_model_grammar.specs.declared.given.Want.TheVariants.{Plain}
use Rattle.lb_model_grammar.specs.Arguments.{Begun, argument, at_base, begins, front, front_as, optional, undelimited, brace_of, delimited, delimited_as, delimited_by}
use Rattle.lb_model_grammar.specs.Arguments.Begun.{May, Cut, DoesNot}
use Rattle.lb_model_grammar.specs.Same.{tok_eq}
use Rattle.lb_model_grammar.specs.Scans.{is_other, is_space}
use Rattle.lb_model_grammar.specs.Scans.Meant.{Open, Ended, Wrong}
use Rattle.lb_args.specs.Fits.{decided, given_before}

-- ---- What is given

before-append : (l : List Tok) (t : Tok) (given : List Given) → given_before (l ++ t ∷ []) given ≡ given_before l (AToken t ∷ given)
before-append [] t given = refl
before-append (x ∷ l) t given = ap (λ more. AToken x ∷ more) (before-append l t given)

given-next : (toks : List Tok) (i : ℕ) (d : Tok) (given : List Given) → i < length toks → given_before (drop i toks) given ≡ AToken (get_or toks i d) ∷ given_before (drop (suc i) toks) given
given-next toks i d given h = ap (λ l. given_before l given) (drop-cons toks i d h)

-- ---- Decided tokens

-- one token more is taken
pub decided-pushed : (long : Bool) (delimiter toks : List Tok) (level count : ℕ) (t : Tok) (given : List Given) → count ≤ length toks
    → decided long delimiter toks level count (AToken t ∷ given) ≡ decided long delimiter (toks ++ t ∷ []) level count given
decided-pushed long delimiter toks level count t given h =
    sym
    (
    (λ i. delimited long delimiter level (take-append-le count toks (t ∷ []) h i) (given_before (drop-append-le count toks (t ∷ []) h i) given))
    ∙ ap (delimited long delimiter level (take count toks)) (before-append (drop count toks) t given)
    )

-- what is not decided stands to the delimiter so
pub decided-as : (long : Bool) (delimiter toks : List Tok) (level count : ℕ) (d : Tok) (given : List Given) (begun : Begun) → count < length toks
    → at_base level (begins delimiter (given_before (drop count toks) given)) ≡ begun
    → decided long delimiter toks level count given
    ≡ delimited_by begun (take count toks)
    (delimited_as (brace_of long (get_or toks count d)) level (take count toks) (get_or toks count d) (λ l b. delimited long delimiter l b (given_before (drop (suc count) toks) given)))
decided-as long delimiter toks level count d given begun h e =
    let t = get_or toks count d in
    let next = given-next toks count d given h in
    (λ j. delimited long delimiter level (take count toks) (next j))
    ∙ ap (λ b. delimited_by b (take count toks) (delimited_as (brace_of long t) level (take count toks) t (λ l b. delimited long delimiter l b (given_before (drop (suc count) toks) given))))
    ((λ j. at_base level (begins delimiter (sym next j))) ∙ e)

-- less than the delimiter is undecided, and is its beginning
pub part-fits : (delimiter window : List Tok) (n : ℕ) → n ≡ length window → n < length delimiter
    → ((given : List Given) → begins delimiter (given_before window given) ≡ begins (drop n delimiter) (given_before (drop n window) given))
    → (begins delimiter (given_before window []) ≡ May) × (begins delimiter (given_before window (AnEnd ∷ [])) ≡ Cut)
part-fits delimiter window n e h same =
    let cons = drop-cons delimiter n (Param 0) h in
    let none : drop n window ≡ [] = ap (λ k. drop k window) e ∙ drop-length window in
    (same [] ∙ (λ i. begins (cons i) (given_before (none i) [])), same (AnEnd ∷ []) ∙ (λ i. begins (cons i) (given_before (none i) (AnEnd ∷ []))))

-- ---- What stands before the first parameter

pub front-open : (toks : List Tok) (i : ℕ) → i < length toks → front (drop i toks) [] ≡ Open Plain
front-open toks i h = ap (λ l. front l []) (drop-cons toks i (Param 0) h)

pub front-cut : (toks : List Tok) (i : ℕ) → i < length toks → front (drop i toks) (AnEnd ∷ []) ≡ Wrong UseMismatch
front-cut toks i h = ap (λ l. front l (AnEnd ∷ [])) (drop-cons toks i (Param 0) h)

pub front-next : (toks : List Tok) (i : ℕ) (d t : Tok) (given : List Given) → i < length toks → tok_eq (get_or toks i d) t ≡ true → front (drop i toks) (AToken t ∷ given) ≡ front (drop (i + 1) toks) given
front-next toks i d t given h e =
    ap (λ l. front l (AToken t ∷ given)) (drop-cons toks i d h)
    ∙ ap (λ b. front_as (if b then begins (drop (suc i) toks) given else DoesNot)) e
    ∙ ap (λ n. front (drop n toks) given) (sym (add-one i))

pub front-not : (toks : List Tok) (i : ℕ) (d t : Tok) (given : List Given) → i < length toks → tok_eq (get_or toks i d) t ≡ false → front (drop i toks) (AToken t ∷ given) ≡ Wrong UseMismatch
front-not toks i d t given h e = ap (λ l. front l (AToken t ∷ given)) (drop-cons toks i d h) ∙ ap (λ b. front_as (if b then begins (drop (suc i) toks) given else DoesNot)) e

pub front-done : (toks : List Tok) (n : ℕ) → n ≡ length toks → front (drop n toks) [] ≡ Ended [] []
front-done toks n e = ap (λ l. front l []) (ap (λ k. drop k toks) e ∙ drop-length toks)

-- ---- An optional argument

pub optional-space : (long : Bool) (default : List Tok) (t : Tok) (given : List Given) → is_space t ≡ true → optional long default (AToken t ∷ given) ≡ optional long default given
optional-space long default t given e =
    ap (λ b. if b then optional long default given else (if is_other 91 t then delimited long (Char category.Other 93 ∷ []) 0 [] given else Ended default (AToken t ∷ given))) e

pub optional-bracket : (long : Bool) (default : List Tok) (t : Tok) (given : List Given) → is_space t ≡ false → is_other 91 t ≡ true
    → optional long default (AToken t ∷ given) ≡ delimited long (Char category.Other 93 ∷ []) 0 [] given
optional-bracket long default t given e f =
    ap (λ b. if b then optional long default given else (if is_other 91 t then delimited long (Char category.Other 93 ∷ []) 0 [] given else Ended default (AToken t ∷ given))) e
    ∙ ap (λ b. if b then delimited long (Char category.Other 93 ∷ []) 0 [] given else Ended default (AToken t ∷ given)) f

pub optional-other : (long : Bool) (default : List Tok) (t : Tok) (given : List Given) → is_space t ≡ false → is_other 91 t ≡ false
    → optional long default (AToken t ∷ given) ≡ Ended default (AToken t ∷ given)
optional-other long default t given e f =
    ap (λ b. if b then optional long default given else (if is_other 91 t then delimited long (Char category.Other 93 ∷ []) 0 [] given else Ended default (AToken t ∷ given))) e
    ∙ ap (λ b. if b then delimited long (Char category.Other 93 ∷ []) 0 [] given else Ended default (AToken t ∷ given)) f

-- ---- An argument before a delimiter, where there is one

pub argument-none : (long : Bool) (delimiter : List Tok) → length delimiter ≡ 0 → argument long delimiter ≡ undelimited long
argument-none long [] e = refl
argument-none long (d ∷ delimiter) e = cc

pub argument-some : (long : Bool) (delimiter : List Tok) → 0 < length delimiter → argument long delimiter ≡ delimited long delimiter 0 []
argument-some long [] h = absurd (omega (arith, h))
argument-some long (d ∷ delimiter) h = refl
