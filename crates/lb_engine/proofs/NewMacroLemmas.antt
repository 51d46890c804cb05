-- Readings whose end is worked out by what was read.
use Rattle.std.proofs.Common.{◌≡◌, ◌∙◌, ◌+◌, ◌-◌, ◌++◌, ◌<◌, ◌∷◌, [], ℕ, List, ap, arith, suc, sym}
use Rattle.std.specs.Prelude.{IfOk, Result, Ok, Err}
use Rattle.std.proofs.lemmas.List.{append_assoc}
use Rattle.lb_base.specs.declared.token.Tok.{Tok}
use Rattle.lb_base.specs.declared.token.Tok.TheVariants as token
use Rattle.lb_model_engine.specs.NewNames.{parameters_from}
use Rattle.lb_model.specs.declared.cells.Cells.{Ghosts}
use Rattle.lb_model_nest.specs.Wholes.{Executed, Whole}
use Rattle.lb_engine.specs.Leads.{Leads}
use Rattle.lb_engine.specs.declared.engine.Engine.{Engine}
use Rattle.lb_engine.proofs.RowLemmas.{read-ends}

-- what was read comes to this, or memory was wanted
pub reads-out : {S E F X Y : Type 0} {C : Ghosts S} {act : Whole → Executed} (behind : X → Whole → Executed) (rest : Y → Whole → Executed) {r x : X} (result : Result Y F) {new : S} {en : Engine} {old : S} {eo : Engine}
    → r ≡ x → IfOk result (λ y. (w : Whole) → behind x w ≡ rest y w) → Leads {E = E} C act behind (Ok r) new en old eo → Leads C act rest result new en old eo
reads-out {S} {E} behind rest (Ok y) is same first = read-ends {E = E} behind rest y is (λ i w. same w i) first
reads-out behind rest (Err f) is same first = record { narrows = first.narrows; passes = tt; keeps = tt; made = first.made; loan = first.loan }

-- one parameter more
pub parameters-more : (toks : List Tok) (n end : ℕ) → n < end → toks ++ parameters_from n (end - n) ≡ (toks ++ token.Param n ∷ []) ++ parameters_from (n + 1) (end - (n + 1))
parameters-more toks n end h =
    let one : n + 1 ≡ suc n = omega arith in
    let steps : end - n ≡ suc (end - (n + 1)) = omega (arith, h) in
    ap (λ k. toks ++ parameters_from n k) steps
    ∙ sym (append_assoc toks (token.Param n ∷ []) (parameters_from (suc n) (end - (n + 1))))
    ∙ ap (λ m. (toks ++ token.Param n ∷ []) ++ parameters_from m (end - (n + 1))) (sym one)
