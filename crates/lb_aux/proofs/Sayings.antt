-- What is read of a text so far, and what is left of it.
use Rattle.std.proofs.Common.{◌≡◌, ◌∙◌, ◌++◌, true, false, ℕ, ℤ, List, [], ◌∷◌, Option, Some, None, refl, ap, sym, arith, length, append_assoc, append-nil}
use Rattle.std.specs.Prelude.{◌==◌}
use Rattle.std.specs.Option.{option_map}
use Rattle.std.proofs.lemmas.Bool.{eqb-true}
use Rattle.lb_model.specs.Lines.{cut_at_feeds}
use Rattle.lb_model_aux.specs.declared.line.Line.{Line}
use Rattle.lb_model_aux.specs.declared.line.Line.TheVariants.{Checkpoint}
use Rattle.lb_model_aux.specs.Forms.{chapter_of, counter_of, is_close, line_of}
use Rattle.lb_model_aux.specs.Reading.{counters_to_close, lines_of, read_of, said}
use Rattle.lb_model_aux.proofs.Closings.{checkpoint_said, close-here, close-later, said-checkpoint, said-line, with_counter}

-- ---- A checkpoint

-- its counters so far stand before those that come
abbrev pub with_front : List (List ℕ × ℤ) → Option (List (List ℕ × ℤ) × List (List ℕ)) → Option (List (List ℕ × ℤ) × List (List ℕ))
with_front counters parts = option_map (λ p. (counters ++ p.0, p.1)) parts

pub front-none : (parts : Option (List (List ℕ × ℤ) × List (List ℕ))) → with_front [] parts ≡ parts
front-none None = refl
front-none (Some p) = refl

front-more : (counters : List (List ℕ × ℤ)) (c : List ℕ × ℤ) (parts : Option (List (List ℕ × ℤ) × List (List ℕ)))
    → with_front (counters ++ c ∷ []) parts ≡ with_front counters (with_counter (Some c) parts)
front-more counters c None = refl
front-more counters c (Some p) = ap (λ (l : List (List ℕ × ℤ)). Some (l, p.1)) (append_assoc counters (c ∷ []) p.0)

front-other : (counters : List (List ℕ × ℤ)) (parts : Option (List (List ℕ × ℤ) × List (List ℕ))) → with_front counters parts ≡ with_front counters (with_counter None parts)
front-other counters None = refl
front-other counters (Some p) = refl

pub ends-here : (counters : List (List ℕ × ℤ)) (rest line : List ℕ) (next : List (List ℕ)) → lines_of rest ≡ line ∷ next → is_close line ≡ true
    → with_front counters (counters_to_close (lines_of rest)) ≡ Some (counters, next)
ends-here counters rest line next l e =
    ap (λ ls. with_front counters (counters_to_close ls)) l ∙ ap (with_front counters) (close-here line next e) ∙ ap (λ (cs : List (List ℕ × ℤ)). Some (cs, next)) (append-nil counters)

pub takes-counter : (counters : List (List ℕ × ℤ)) (rest line : List ℕ) (next : List (List ℕ)) (c : List ℕ × ℤ) → lines_of rest ≡ line ∷ next → is_close line ≡ false
    → counter_of line ≡ Some c → with_front (counters ++ c ∷ []) (counters_to_close next) ≡ with_front counters (counters_to_close (lines_of rest))
takes-counter counters rest line next c l e f =
    front-more counters c (counters_to_close next) ∙ ap (λ o. with_front counters (with_counter o (counters_to_close next))) (sym f)
    ∙ sym (ap (λ ls. with_front counters (counters_to_close ls)) l ∙ ap (with_front counters) (close-later line next e))

pub passes-over : (counters : List (List ℕ × ℤ)) (rest line : List ℕ) (next : List (List ℕ)) → lines_of rest ≡ line ∷ next → is_close line ≡ false
    → counter_of line ≡ None → with_front counters (counters_to_close next) ≡ with_front counters (counters_to_close (lines_of rest))
passes-over counters rest line next l e f =
    front-other counters (counters_to_close next) ∙ ap (λ o. with_front counters (with_counter o (counters_to_close next))) (sym f)
    ∙ sym (ap (λ ls. with_front counters (counters_to_close ls)) l ∙ ap (with_front counters) (close-later line next e))

no-lines : (text : List ℕ) → text ≡ [] → lines_of text ≡ []
unfolding lines_of cut_at_feeds
no-lines text e = ap lines_of e

empty : (text : List ℕ) → (length text == 0) ≡ true → text ≡ []
empty [] e = refl
empty (c ∷ text) e = let q : length (c ∷ text) ≡ 0 = eqb-true (length (c ∷ text)) 0 e in absurd (omega (arith, q))

pub none-closes : (counters : List (List ℕ × ℤ)) (rest : List ℕ) → (length rest == 0) ≡ true → with_front counters (counters_to_close (lines_of rest)) ≡ None
none-closes counters rest e = ap (λ ls. with_front counters (counters_to_close ls)) (no-lines rest (empty rest e))

-- ---- Lines one after another

pub says-checkpoint : (aux : List Line) (rest line : List ℕ) (next behind : List (List ℕ)) (chapter : List ℕ) (counters : List (List ℕ × ℤ)) → lines_of rest ≡ line ∷ next
    → chapter_of line ≡ Some chapter → counters_to_close next ≡ Some (counters, behind) → (aux ++ Checkpoint chapter counters ∷ []) ++ said 0 behind ≡ aux ++ said 0 (lines_of rest)
says-checkpoint aux rest line next behind chapter counters l e f =
    append_assoc aux (Checkpoint chapter counters ∷ []) (said 0 behind)
    ∙ ap (λ ls. aux ++ ls) (sym (ap (said 0) l ∙ said-checkpoint line next chapter e ∙ ap (checkpoint_said chapter) f))

pub says-cut : (aux : List Line) (rest line : List ℕ) (next : List (List ℕ)) (chapter : List ℕ) → lines_of rest ≡ line ∷ next
    → chapter_of line ≡ Some chapter → counters_to_close next ≡ None → aux ≡ aux ++ said 0 (lines_of rest)
says-cut aux rest line next chapter l e f =
    sym (append-nil aux) ∙ ap (λ ls. aux ++ ls) (sym (ap (said 0) l ∙ said-checkpoint line next chapter e ∙ ap (checkpoint_said chapter) f))

pub says-line : (aux : List Line) (rest line : List ℕ) (next : List (List ℕ)) (x : Line) → lines_of rest ≡ line ∷ next
    → chapter_of line ≡ None → line_of line ≡ Some x → (aux ++ x ∷ []) ++ said 0 next ≡ aux ++ said 0 (lines_of rest)
says-line aux rest line next x l e f =
    append_assoc aux (x ∷ []) (said 0 next) ∙ ap (λ ls. aux ++ ls) (sym (ap (said 0) l ∙ said-line line next (Some x) e f))

pub says-nothing : (aux : List Line) (rest line : List ℕ) (next : List (List ℕ)) → lines_of rest ≡ line ∷ next
    → chapter_of line ≡ None → line_of line ≡ None → aux ++ said 0 next ≡ aux ++ said 0 (lines_of rest)
says-nothing aux rest line next l e f = ap (λ ls. aux ++ ls) (sym (ap (said 0) l ∙ said-line line next None e f))

pub says-no-more : (aux : List Line) (rest : List ℕ) → (length rest == 0) ≡ true → aux ++ said 0 (lines_of rest) ≡ aux
unfolding said
says-no-more aux rest e = ap (λ ls. aux ++ said 0 ls) (no-lines rest (empty rest e)) ∙ append-nil aux

pub says-all : (bytes : List ℕ) → read_of bytes ≡ said 0 (lines_of bytes)
unfolding read_of
says-all bytes = refl
