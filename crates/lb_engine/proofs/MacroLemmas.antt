-- Parameters of macros, and bodies as they are read.
use Rattle.std.proofs.Common.{arith, ◌≡◌, ◌∙◌, ◌++◌, ◌+◌, ◌<◌, ◌∷◌, [], Bool, true, false, ℕ, suc, List, Some, None, ap, refl, sym}
use Rattle.std.specs.Prelude.{◌==◌, ◌&&◌, Option, drop, get_or, if◌then◌else◌, length}
use Rattle.std.proofs.Math.Seq.{drop-cons}
use Rattle.std.proofs.lemmas.List.{append-nil, append_assoc}
use Rattle.lb_base.specs.declared.token.Tok.{Tok}
use Rattle.lb_base.specs.declared.token.Tok.TheVariants as token
use Rattle.lb_model.specs.Ranges.{in_order}
use Rattle.lb_model_engine.specs.Definitions.{body_by, body_of, is_parameter, marked_token, with_token}
use Rattle.lb_engine.specs.Macros.{added_by, body_from, ended_as, in_order_as, order_behind, stage_as, stage_behind, with_tokens}
use Rattle.lb_engine.specs.Parameters.{listed}
use Rattle.lb_engine.specs.declared.bodies.Stage.{Stage}
use Rattle.lb_engine.specs.declared.bodies.Stage.TheVariants as stage

-- ---- One token more

ordered : (b : Bool) (n : ℕ) (toks : List Tok) → (b && in_order n toks) ≡ in_order_as (if b then Some n else None) toks
ordered true n toks = refl
ordered false n toks = refl

order-step : (n : ℕ) (t : Tok) (toks : List Tok) → in_order n (t ∷ toks) ≡ in_order_as (order_behind n t) toks
order-step n (token.Param k) toks = ordered (k == suc n) (suc n) toks
order-step n t toks = refl

order-at : (n : ℕ) (toks : List Tok) (index : ℕ) (d : Tok) → index < length toks
    → in_order n (drop index toks) ≡ in_order_as (order_behind n (get_or toks index d)) (drop (suc index) toks)
order-at n toks index d h = ap (in_order n) (drop-cons toks index d h) ∙ order-step n (get_or toks index d) (drop (suc index) toks)

pub order-next : (n next : ℕ) (toks : List Tok) (index : ℕ) (d : Tok) → index < length toks → order_behind n (get_or toks index d) ≡ Some next
    → in_order next (drop (index + 1) toks) ≡ in_order n (drop index toks)
order-next n next toks index d h e =
    let one : index + 1 ≡ suc index = omega arith in
    ap (λ m. in_order next (drop m toks)) one ∙ sym (order-at n toks index d h ∙ ap (λ o. in_order_as o (drop (suc index) toks)) e)

-- ---- Bodies

token-more : (body : List Tok) (t : Tok) (o : Option (List Tok)) → with_tokens body (with_token (Some t) o) ≡ with_tokens (body ++ t ∷ []) o
token-more body t None = refl
token-more body t (Some toks) = ap Some (sym (append_assoc body (t ∷ []) toks))

plain-step : (b : Bool) (n : ℕ) (body : List Tok) (t : Tok) (toks : List Tok)
    → with_tokens body (if b then body_by true n toks else with_token (Some t) (body_by false n toks))
    ≡ body_from n (if b then stage.Marked else stage.Plain) (body ++ listed (if b then None else Some t)) toks
plain-step true n body t toks = ap (λ l. with_tokens l (body_by true n toks)) (sym (append-nil body))
plain-step false n body t toks = token-more body t (body_by false n toks)

marked-step : (o : Option Tok) (n : ℕ) (body toks : List Tok) → with_tokens body (with_token o (body_by false n toks)) ≡ body_from n (stage_as o) (body ++ listed o) toks
marked-step (Some t) n body toks = token-more body t (body_by false n toks)
marked-step None n body toks = refl

from-step : (n : ℕ) (s : Stage) (body : List Tok) (t : Tok) (toks : List Tok) → body_from n s body (t ∷ toks) ≡ body_from n (stage_behind n s t) (body ++ listed (added_by n s t)) toks
from-step n stage.Plain body t toks = plain-step (is_parameter t) n body t toks
from-step n stage.Marked body t toks = marked-step (marked_token n t) n body toks
from-step n stage.Wrong body t toks = refl

pub body-more : (n : ℕ) (ys : List Tok) (t : Tok) (s next : Stage) (body more : List Tok) (added : Option Tok)
    → ((rest : List Tok) → body_of n (ys ++ rest) ≡ body_from n s body rest)
    → next ≡ stage_behind n s t → added ≡ added_by n s t → more ≡ body ++ listed added
    → (rest : List Tok) → body_of n ((ys ++ t ∷ []) ++ rest) ≡ body_from n next more rest
body-more n ys t s next body more added so_far e f h rest =
    ap (body_of n) (append_assoc ys (t ∷ []) rest)
    ∙ so_far (t ∷ rest)
    ∙ from-step n s body t rest
    ∙ (λ i. body_from n (sym e i) (body ++ listed (sym f i)) rest)
    ∙ ap (λ l. body_from n next l rest) (sym h)

from-end : (n : ℕ) (s : Stage) (body : List Tok) → body_from n s body [] ≡ ended_as s body
from-end n stage.Plain body = ap Some (append-nil body)
from-end n stage.Marked body = refl
from-end n stage.Wrong body = refl

pub body-whole : (n : ℕ) (toks : List Tok) (s : Stage) (body : List Tok)
    → ((rest : List Tok) → body_of n (toks ++ rest) ≡ body_from n s body rest) → ended_as s body ≡ body_of n toks
body-whole n toks s body so_far = sym (ap (body_of n) (sym (append-nil toks)) ∙ so_far [] ∙ from-end n s body)

nothing-before : (o : Option (List Tok)) → o ≡ with_tokens [] o
nothing-before None = refl
nothing-before (Some toks) = refl

pub body-start : (n : ℕ) (toks : List Tok) → body_of n toks ≡ body_from n stage.Plain [] toks
body-start n toks = nothing-before (body_of n toks)
