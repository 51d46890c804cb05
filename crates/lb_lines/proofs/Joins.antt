-- Lists one behind another, the lines one by one, and the faults of lines.
use Rattle.std.proofs.Common.{◌≡◌, ℕ, ◌+◌, ◌==◌, Bool, true, false, if◌then◌else◌, List, [], ◌∷◌, length, Result, Ok, Err, refl, sym, ap, ◌∙◌}
use Rattle.std.proofs.lemmas.List.{append_assoc}
use Rattle.lb_base.specs.Answers.{Answers}
use Rattle.lb_base.specs.declared.fault.Kind.{Kind}
use Rattle.lb_base.specs.declared.fault.Kind.TheVariants.{DimenTooLarge}
use Rattle.lb_base.specs.declared.fault.Stop.{Stop}
use Rattle.lb_base.specs.declared.fault.Stop.TheVariants.{At, Fault, Memory}
use Rattle.lb_base.specs.declared.node.Node.{Node}
use Rattle.lb_model_paper.specs.Breaks.{is_disc_at, line_items}
use Rattle.lb_model_paper.specs.Lines.{is_of_size, joined, penalty_between, penalty_nodes, set_items, set_line, worse}
use Rattle.lb_model_paper.specs.declared.paragraph.BreakEnd.{BreakEnd}
use Rattle.lb_model_paper.specs.declared.paragraph.Shape.{Shape}
use Rattle.lb_lines.specs.Apart.{alone, joined_of, lines_apart_from, lines_apart_of}
use Rattle.lb_lines.specs.Cuts.{IsAddStop, so_far}

last : (j k l : Kind) (c : Bool) → is_of_size l ≡ c → is_of_size k ≡ false → ((n : Kind) → worse j n ≡ (if is_of_size n then n else j)) → (if is_of_size l then l else j) ≡ worse j (if is_of_size l then l else k)
last j k l true g f second =
    ap (λ (t : Bool). if t then l else j) g ∙ sym (ap (λ (t : Bool). worse j (if t then l else k)) g ∙ second l ∙ ap (λ (t : Bool). if t then l else j) g)
last j k l false g f second =
    ap (λ (t : Bool). if t then l else j) g ∙ sym (ap (λ (t : Bool). worse j (if t then l else k)) g ∙ second k ∙ ap (λ (t : Bool). if t then k else j) f)

third : (j k l : Kind) (c : Bool) → is_of_size l ≡ c → is_of_size j ≡ false → is_of_size k ≡ false → worse (worse j k) l ≡ worse j (worse k l)
third j k l c g e f =
    let second : (n : Kind) → worse j n ≡ (if is_of_size n then n else j) = λ n. ap (λ (t : Bool). if t then j else if is_of_size n then n else j) e in
    let left : worse j k ≡ j = second k ∙ ap (λ (t : Bool). if t then k else j) f in
    let inner : worse k l ≡ (if is_of_size l then l else k) = ap (λ (t : Bool). if t then k else if is_of_size l then l else k) f in
    ap (λ (m : Kind). worse m l) left ∙ second l ∙ last j k l c g f second ∙ sym (ap (λ (m : Kind). worse j m) inner)

worse_by : (j k l : Kind) (a b : Bool) → is_of_size j ≡ a → is_of_size k ≡ b → worse (worse j k) l ≡ worse j (worse k l)
worse_by j k l true b e f =
    let first : (n : Kind) → worse j n ≡ j = λ n. ap (λ (t : Bool). if t then j else if is_of_size n then n else j) e in
    ap (λ (m : Kind). worse m l) (first k) ∙ first l ∙ sym (first (worse k l))
worse_by j k l false true e f =
    let second : (n : Kind) → worse j n ≡ (if is_of_size n then n else j) = λ n. ap (λ (t : Bool). if t then j else if is_of_size n then n else j) e in
    let left : worse j k ≡ k = second k ∙ ap (λ (t : Bool). if t then k else j) f in
    let right : worse k l ≡ k = ap (λ (t : Bool). if t then k else if is_of_size l then l else k) f in
    ap (λ (m : Kind). worse m l) left ∙ right ∙ sym left ∙ sym (ap (λ (m : Kind). worse j m) right)
worse_by j k l false false e f = third j k l (is_of_size l) refl e f

worse_assoc : (j k l : Kind) → worse (worse j k) l ≡ worse j (worse k l)
worse_assoc j k l = worse_by j k l (is_of_size j) (is_of_size k) refl refl

pub joined_of-assoc : {T : Type 0} (a b c : Result (List T) Kind) → joined_of (joined_of a b) c ≡ joined_of a (joined_of b c)
joined_of-assoc {T} (Ok x) (Ok y) (Ok z) = ap (λ (ts : List T). Ok ts) (append_assoc x y z)
joined_of-assoc (Ok x) (Ok y) (Err l) = refl
joined_of-assoc (Ok x) (Err k) (Ok z) = refl
joined_of-assoc (Ok x) (Err k) (Err l) = refl
joined_of-assoc (Err j) (Ok y) (Ok z) = refl
joined_of-assoc (Err j) (Ok y) (Err l) = refl
joined_of-assoc (Err j) (Err k) (Ok z) = refl
joined_of-assoc (Err j) (Err k) (Err l) = ap (λ (m : Kind). Err m) (worse_assoc j k l)

nothing-joined : {T : Type 0} (a : Result (List T) Kind) → joined_of (Ok []) a ≡ a
nothing-joined (Ok x) = refl
nothing-joined (Err k) = refl

-- a line that is too large
large-rest : {T : Type 0} (rest : Result (List T) Kind) → joined_of (Err DimenTooLarge) rest ≡ Err DimenTooLarge
large-rest (Ok x) = refl
large-rest (Err k) = refl

large-behind : (deep : Bool) (lines : List (List Node)) → joined_of (so_far deep lines) (Err DimenTooLarge) ≡ Err DimenTooLarge
large-behind true lines = refl
large-behind false lines = refl

-- ---- the loop over the lines

pub lines-start : (shape : Shape) (nodes : List Node) (ends : List BreakEnd) (deep : Bool) (lines : List (List Node)) → so_far deep lines ≡ Ok [] → joined_of (so_far deep lines) (lines_apart_from shape nodes 0 ends) ≡ lines_apart_of shape nodes ends
unfolding lines_apart_of
lines-start shape nodes ends deep lines none = ap (λ (s : Result (List (List Node)) Kind). joined_of s (lines_apart_from shape nodes 0 ends)) none ∙ nothing-joined (lines_apart_from shape nodes 0 ends)

-- what is meant by the line from break i to an item
abbrev pub line_meant : Shape → List Node → ℕ → ℕ → Result (List Node) Kind
line_meant shape nodes i item = set_items shape.width (line_items shape nodes i (item + 1))

line-is : (shape : Shape) (nodes : List Node) (i item left : ℕ) → joined (line_meant shape nodes i item) (Ok (penalty_nodes (penalty_between shape.rules (i == 0) left (is_disc_at nodes (item + 1))))) ≡ set_line shape nodes i (item + 1) left
unfolding set_line
line-is shape nodes i item left = refl

pub lines-more : (shape : Shape) (nodes : List Node) (i : ℕ) (end : BreakEnd) (rest ends : List BreakEnd) (whole so new : Result (List (List Node)) Kind) (meant : Result (List Node) Kind) (penalty : List Node) → ends ≡ end ∷ rest
    → joined_of so (lines_apart_from shape nodes i ends) ≡ whole → meant ≡ line_meant shape nodes i end.item → penalty ≡ penalty_nodes (penalty_between shape.rules (i == 0) (length rest) (is_disc_at nodes (end.item + 1)))
    → new ≡ joined_of so (alone (joined meant (Ok penalty))) → joined_of new (lines_apart_from shape nodes (end.item + 1) rest) ≡ whole
lines-more shape nodes i end rest ends whole so new meant penalty next so_far_is meant_is penalty_is new_is =
    let R : Result (List (List Node)) Kind = lines_apart_from shape nodes (end.item + 1) rest in
    let L : Result (List Node) Kind = set_line shape nodes i (end.item + 1) (length rest) in
    let line : joined meant (Ok penalty) ≡ set_line shape nodes i (end.item + 1) (length rest) =
    ap (λ (m : Result (List Node) Kind). joined m (Ok penalty)) meant_is ∙ ap (λ (ps : List Node). joined (line_meant shape nodes i end.item) (Ok ps)) penalty_is ∙ line-is shape nodes i end.item (length rest) in
    ap (λ (n : Result (List (List Node)) Kind). joined_of n R) (new_is ∙ ap (λ (l : Result (List Node) Kind). joined_of so (alone l)) line)
    ∙ joined_of-assoc so (alone L) R ∙ ap (λ (es : List BreakEnd). joined_of so (lines_apart_from shape nodes i es)) (sym next) ∙ so_far_is

pub lines-large : (shape : Shape) (nodes : List Node) (i : ℕ) (end : BreakEnd) (rest ends : List BreakEnd) (whole : Result (List (List Node)) Kind) (meant : Result (List Node) Kind) (deep : Bool) (lines : List (List Node)) → ends ≡ end ∷ rest
    → joined_of (so_far deep lines) (lines_apart_from shape nodes i ends) ≡ whole → meant ≡ line_meant shape nodes i end.item → meant ≡ Err DimenTooLarge → whole ≡ Err DimenTooLarge
lines-large shape nodes i end rest ends whole meant deep lines next so_far_is meant_is large =
    let R : Result (List (List Node)) Kind = lines_apart_from shape nodes (end.item + 1) rest in
    let P : List Node = penalty_nodes (penalty_between shape.rules (i == 0) (length rest) (is_disc_at nodes (end.item + 1))) in
    let line : set_line shape nodes i (end.item + 1) (length rest) ≡ Err DimenTooLarge =
    sym (line-is shape nodes i end.item (length rest)) ∙ ap (λ (m : Result (List Node) Kind). joined m (Ok P)) (sym meant_is ∙ large) in
    sym so_far_is ∙ ap (λ (es : List BreakEnd). joined_of (so_far deep lines) (lines_apart_from shape nodes i es)) next
    ∙ ap (λ (l : Result (List Node) Kind). joined_of (so_far deep lines) (joined_of (alone l) R)) line ∙ ap (λ (r : Result (List (List Node)) Kind). joined_of (so_far deep lines) r) (large-rest R) ∙ large-behind deep lines

-- why the loop stops
pub answers-stop : (whole : Result (List (List Node)) Kind) (meant : Result (List Node) Kind) (stop : Stop) → (meant ≡ Err DimenTooLarge → whole ≡ Err DimenTooLarge) → IsAddStop meant stop → Answers {T = List (List Node)} whole (Err stop)
answers-stop whole meant Memory large is = is
answers-stop whole meant (Fault kind) large is = large is.1 ∙ ap (λ (k : Kind). Err k) (sym is.0)
answers-stop whole meant (At fault) large is = is
