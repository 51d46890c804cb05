-- Spaces before `plus` and `minus`, and the tokens among things.
use Rattle.std.proofs.Common.{◌≡◌, ◌∙◌, ◌++◌, true, false, ℕ, List, [], ◌∷◌, refl, ap, codes}
use Rattle.lb_base.specs.declared.glue.Glue.{Glue}
use Rattle.lb_base.specs.declared.token.Tok.{Tok}
use Rattle.lb_model_grammar.specs.declared.given.Given.{Given}
use Rattle.lb_model_grammar.specs.declared.given.Given.TheVariants.{Tok as AToken, Quantity, End}
use Rattle.lb_model_grammar.specs.declared.given.Scanned.TheVariants.{Skip}
use Rattle.lb_model_grammar.specs.Dimensions.{length_behind}
use Rattle.lb_model_grammar.specs.Scans.{is_space, keyword, tokens_in}
use Rattle.lb_model_grammar.specs.Scans.Meant.{Ended}
use Rattle.lb_scan.specs.declared.stage.Stage.TheVariants.{Stretchable, Shrinkable}
use Rattle.lb_scan.specs.Stages.{shrink_uses, shrinkable_after, stage_after, stretch_uses, stretchable_after}
use Rattle.lb_scan.proofs.WordLemmas.{keyword-space}

pub shrinkable-space : (word : List ℕ) (g : Glue) (all : List Given) (t : Tok) (more : List Given) → is_space t ≡ true
    → stage_after word (Shrinkable g) all (AToken t ∷ more) ≡ stage_after word (Shrinkable g) all more
unfolding shrinkable_after
shrinkable-space word g all t more h = keyword-space (codes "minus") (length_behind (shrink_uses g all) false) (Ended (Skip g) all) t more h

pub stretchable-space : (word : List ℕ) (g : Glue) (all : List Given) (t : Tok) (more : List Given) → is_space t ≡ true
    → stage_after word (Stretchable g) all (AToken t ∷ more) ≡ stage_after word (Stretchable g) all more
unfolding stretchable_after
stretchable-space word g all t more h =
    keyword-space (codes "plus") (length_behind (stretch_uses g all) false) (keyword (codes "minus") (length_behind (shrink_uses g all) false) (Ended (Skip g) all) (AToken t ∷ more)) t more h
    ∙ ap (λ m. keyword (codes "plus") (length_behind (stretch_uses g all) false) m more) (keyword-space (codes "minus") (length_behind (shrink_uses g all) false) (Ended (Skip g) all) t more h)

pub tokens-in-one : (l : List Given) (t : Tok) → tokens_in (l ++ AToken t ∷ []) ≡ tokens_in l ++ t ∷ []
tokens-in-one [] t = refl
tokens-in-one (AToken u ∷ l) t = ap (λ k. u ∷ k) (tokens-in-one l t)
tokens-in-one (Quantity q ∷ l) t = tokens-in-one l t
tokens-in-one (End ∷ l) t = tokens-in-one l t

pub tokens-in-none : (l : List Given) (g : Given) → tokens_in (g ∷ []) ≡ [] → tokens_in (l ++ g ∷ []) ≡ tokens_in l
tokens-in-none [] g h = h
tokens-in-none (AToken u ∷ l) g h = ap (λ k. u ∷ k) (tokens-in-none l g h)
tokens-in-none (Quantity q ∷ l) g h = tokens-in-none l g h
tokens-in-none (End ∷ l) g h = tokens-in-none l g h

pub no-token : (g : Given) → ((t : Tok) → ¬ (g ≡ AToken t)) → tokens_in (g ∷ []) ≡ []
no-token (AToken t) h = absurd (h t refl)
no-token (Quantity q) h = refl
no-token End h = refl
