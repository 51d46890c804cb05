-- The lines one by one and the lines as one list.
use Rattle.std.proofs.Common.{◌≡◌, ℕ, ◌+◌, List, [], ◌∷◌, length, Result, Ok, Err, refl, sym, subst, ap, ◌∙◌}
use Rattle.std.proofs.lemmas.List.{append-nil}
use Rattle.std.proofs.lemmas.List.Concat.{flat_map-append}
use Rattle.lb_base.specs.Answers.{Answers}
use Rattle.lb_base.specs.declared.fault.Kind.{Kind}
use Rattle.lb_base.specs.declared.fault.Stop.{Stop}
use Rattle.lb_base.specs.declared.fault.Stop.TheVariants.{At, Fault, Memory}
use Rattle.lb_base.specs.declared.node.Node.{Node}
use Rattle.lb_model_paper.specs.Lines.{joined, lines_from, lines_of, set_line}
use Rattle.lb_model_paper.specs.declared.paragraph.BreakEnd.{BreakEnd}
use Rattle.lb_model_paper.specs.declared.paragraph.Shape.{Shape}
use Rattle.lb_lines.specs.Apart.{AreLines, alone, joined_of, lines_apart_from, lines_apart_of, lines_together}

-- ---- the lines as one list

together-joined : (a b : Result (List (List Node)) Kind) → lines_together (joined_of a b) ≡ joined (lines_together a) (lines_together b)
together-joined (Ok x) (Ok y) = ap (λ (ns : List Node). Ok ns) (flat_map-append (λ (line : List Node). line) x y)
together-joined (Ok x) (Err k) = refl
together-joined (Err j) (Ok y) = refl
together-joined (Err j) (Err k) = refl

together-alone : (line : Result (List Node) Kind) → lines_together (alone line) ≡ line
together-alone (Ok x) = ap (λ (ns : List Node). Ok ns) (append-nil x)
together-alone (Err k) = refl

together-from : (shape : Shape) (nodes : List Node) (i : ℕ) (ends : List BreakEnd) → lines_from shape nodes i ends ≡ lines_together (lines_apart_from shape nodes i ends)
together-from shape nodes i [] = refl
together-from shape nodes i (end ∷ ends) =
    let L : Result (List Node) Kind = set_line shape nodes i (end.item + 1) (length ends) in
    let R : Result (List (List Node)) Kind = lines_apart_from shape nodes (end.item + 1) ends in
    ap (λ (r : Result (List Node) Kind). joined L r) (together-from shape nodes (end.item + 1) ends)
    ∙ ap (λ (l : Result (List Node) Kind). joined l (lines_together R)) (sym (together-alone L)) ∙ sym (together-joined (alone L) R)

-- the lines of a list are its lines one by one, one behind another
pub lines-together : (shape : Shape) (nodes : List Node) (ends : List BreakEnd) → lines_of shape nodes ends ≡ lines_together (lines_apart_of shape nodes ends)
unfolding lines_of lines_apart_of
lines-together shape nodes ends = together-from shape nodes 0 ends

-- the answer is the same where there are none
pub answers-together : (apart : Result (List (List Node)) Kind) (whole : Result (List Node) Kind) (stop : Stop) → whole ≡ lines_together apart → Answers {T = List (List Node)} apart (Err stop) → Answers {T = List Node} whole (Err stop)
answers-together apart whole Memory same is = is
answers-together apart whole (Fault kind) same is = same ∙ ap lines_together is
answers-together apart whole (At fault) same is = is

-- ---- each line by itself

are_lines-by : (shape : Shape) (nodes : List Node) (i : ℕ) (end : BreakEnd) (ends : List BreakEnd) (line : Result (List Node) Kind) (rest : Result (List (List Node)) Kind) (lines : List (List Node)) → set_line shape nodes i (end.item + 1) (length ends) ≡ line
    → ((more : List (List Node)) → rest ≡ Ok more → AreLines shape nodes (end.item + 1) ends more) → joined_of (alone line) rest ≡ Ok lines → AreLines shape nodes i (end ∷ ends) lines
are_lines-by shape nodes i end ends (Ok x) (Ok y) lines line_is rest_is is =
    let all : x ∷ y ≡ lines = cc in
    subst (λ (ls : List (List Node)). AreLines shape nodes i (end ∷ ends) ls) all (line_is, rest_is y refl)
are_lines-by shape nodes i end ends (Ok x) (Err k) lines line_is rest_is is = absurd (cc)
are_lines-by shape nodes i end ends (Err j) (Ok y) lines line_is rest_is is = absurd (cc)
are_lines-by shape nodes i end ends (Err j) (Err k) lines line_is rest_is is = absurd (cc)

are_lines-from : (shape : Shape) (nodes : List Node) (i : ℕ) (ends : List BreakEnd) (lines : List (List Node)) → lines_apart_from shape nodes i ends ≡ Ok lines → AreLines shape nodes i ends lines
are_lines-from shape nodes i [] [] is = tt
are_lines-from shape nodes i [] (line ∷ lines) is = absurd (cc)
are_lines-from shape nodes i (end ∷ ends) lines is =
    are_lines-by shape nodes i end ends (set_line shape nodes i (end.item + 1) (length ends)) (lines_apart_from shape nodes (end.item + 1) ends) lines refl
    (λ more made. are_lines-from shape nodes (end.item + 1) ends more made) is

-- where there are lines, each is the one that ends at its end
pub are_lines : (shape : Shape) (nodes : List Node) (ends : List BreakEnd) (lines : List (List Node)) → lines_apart_of shape nodes ends ≡ Ok lines → AreLines shape nodes 0 ends lines
unfolding lines_apart_of
are_lines shape nodes ends lines is = are_lines-from shape nodes 0 ends lines is
