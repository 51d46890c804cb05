-- Lists that are wholly one group.
use Rattle.std.proofs.Common.{◌≡◌, ◌∙◌, ◌-◌, ◌<◌, ◌≤◌, true, ℕ, zero, suc, List, [], ◌∷◌, refl, ap, sym, take, drop, length, nat_eq, arith, add-one, ◌+◌}
use Rattle.std.specs.Prelude.{Some, None, if◌then◌else◌, get_or}
use Rattle.std.proofs.Math.Bool.{and-false}
use Rattle.std.proofs.Math.Dec.{eqb-suc-suc, eqb-zero-suc}
use Rattle.std.proofs.Math.Seq.{drop-cons}
use Rattle.std.proofs.lemmas.List.{length-take-le}
use Rattle.lb_base.specs.declared.token.Tok.{Tok}
use Rattle.lb_model_grammar.specs.Arguments.{but_last, closes_at_end, level_then, opens, without_braces}
use Rattle.lb_args.specs.Fits.{is_group}

last-off : (t : Tok) (toks : List Tok) → take (length toks) (t ∷ toks) ≡ but_last (t ∷ toks)
last-off t [] = refl
last-off t (u ∷ toks) = ap (λ l. t ∷ l) (last-off u toks)

one-less : (n : ℕ) → suc n - 1 ≡ n
one-less n = omega arith

pub bare-group : (toks : List Tok) → is_group toks ≡ true → drop 1 (take (length toks - 1) toks) ≡ without_braces toks
bare-group [] h = cc
bare-group (t ∷ []) h = cc (h, and-false (opens t))
bare-group (t ∷ u ∷ toks) h = ap (λ n. drop 1 (take n (t ∷ u ∷ toks))) (one-less (suc (length toks))) ∙ last-off u toks ∙ ap (λ b. if b then but_last (u ∷ toks) else (t ∷ u ∷ toks)) (sym h)

-- the first group is closed here, which is at the end or not
end-at : (toks : List Tok) (n : ℕ) → n ≤ length toks → closes_at_end None (drop n toks) ≡ nat_eq n (length toks)
end-at [] zero h = refl
end-at [] (suc n) h = absurd (omega (arith, h))
end-at (t ∷ toks) zero h = sym (eqb-zero-suc (length toks))
end-at (t ∷ toks) (suc n) h = let k : suc n ≤ suc (length toks) = h in end-at toks n (omega (arith, k)) ∙ sym (eqb-suc-suc n (length toks))

pub closes-at : (toks : List Tok) (index level : ℕ) (d : Tok) → index < length toks → level_then (get_or toks index d) level ≡ None → closes_at_end (Some level) (drop index toks) ≡ nat_eq (index + 1) (length toks)
closes-at toks index level d h e = ap (closes_at_end (Some level)) (drop-cons toks index d h) ∙ ap (λ o. closes_at_end o (drop (suc index) toks)) e ∙ end-at toks (suc index) h ∙ ap (λ n. nat_eq n (length toks)) (sym (add-one index))

pub bare-of : (toks bare : List Tok) (count : ℕ) → count ≤ length toks → bare ≡ take count toks → is_group bare ≡ true → drop 1 (take (count - 1) bare) ≡ without_braces (take count toks)
bare-of toks bare count h e g =
    let long : length bare ≡ count = ap length e ∙ length-take-le count toks h in
    ap (λ n. drop 1 (take (n - 1) bare)) (sym long) ∙ bare-group bare g ∙ ap without_braces e
