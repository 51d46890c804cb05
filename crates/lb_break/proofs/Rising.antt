-- The chosen breaks are items of the list, and rise.
use Rattle.std.proofs.Common.{◌≡◌, ◌+◌, ◌-◌, ◌<◌, ◌≤◌, ◌++◌, ◌∷◌, [], ℕ, List, Option, None, Some, IfOk, IfSome, option_map, Ok, Err, Bool, true, false, if◌then◌else◌, nat_lt, length, reverse, refl, sym, ap, ◌∙◌, subst, ℤ, pos, int_le, arith}
use Rattle.std.specs.Option.{option_or}
use Rattle.std.proofs.lemmas.List.{append_assoc, append-nil, reverse-append}
use Rattle.lb_base.specs.declared.fault.Kind.{Kind}
use Rattle.lb_base.specs.declared.fault.Kind.TheVariants.{ParagraphLimit}
use Rattle.lb_base.specs.declared.node.Node.{Node}
use Rattle.lb_model_paper.specs.BestBreaks.{Admitted, IsBestOf, Paragraph, best_of, breaks_or_none, ends_of, first_found, found_by, found_in, is_bad_in, judge_of, last_of, line_of, passes_of}
use Rattle.lb_model_paper.specs.Breaks.{Pass, breaks_of, first_pass, items_in, paragraph_of, second_pass}
use Rattle.lb_model_paper.specs.Lines.{AreEnds}
use Rattle.lb_model_paper.specs.declared.paragraph.BreakEnd.{BreakEnd}
use Rattle.lb_model_paper.specs.declared.paragraph.BreakList.{BreakList}
use Rattle.lb_model_paper.specs.declared.paragraph.Passes.{Passes}
use Rattle.lb_model_paper.specs.declared.paragraph.Passes.TheVariants.{First, Second, Both}
use Rattle.lb_model_paper.specs.declared.paragraph.Shape.{Shape}
use Rattle.lb_break.proofs.Least.{best-law}

-- the ends of a list of breaks before further ends
ends-rise : (nodes : List Node) (p : Paragraph) (x : List ℕ) (rest : List BreakEnd) → Admitted p x → last_of x ≤ length nodes → AreEnds nodes (last_of x) rest → AreEnds nodes 0 (reverse (ends_of p x) ++ rest)
ends-rise nodes p [] rest admitted within rise = rise
ends-rise nodes p (j ∷ x) rest admitted within rise =
    let E : BreakEnd = record { item = j - 1; is_bad = is_bad_in (judge_of p (line_of p x) (last_of x) j) } in
    let up : last_of x < j = admitted.0 in
    let same : j ≡ j - 1 + 1 = omega (arith, up) in
    let first : last_of x ≤ j - 1 = omega (arith, up) in
    let inside : j - 1 < length nodes = omega (arith, up, within) in
    let before : last_of x ≤ length nodes = omega (arith, up, within) in
    let turned : reverse (ends_of p (j ∷ x)) ++ rest ≡ reverse (ends_of p x) ++ E ∷ rest =
    ap (λ (es : List BreakEnd). es ++ rest) (reverse-append (E ∷ []) (ends_of p x)) ∙ append_assoc (reverse (ends_of p x)) (E ∷ []) rest in
    subst (λ (es : List BreakEnd). AreEnds nodes 0 es) (sym turned)
    (ends-rise nodes p x (E ∷ rest) admitted.2 before (first, inside, subst (λ (i : ℕ). AreEnds nodes i rest) same rise))

abbrev pub Rise : List Node → Option BreakList → Type 0
Rise nodes found = IfSome found (λ breaks. AreEnds nodes 0 breaks.ends)

best-rise : (nodes : List Node) (p : Paragraph) (pass : ℕ) (best : Option (List ℕ)) → p.count ≡ length nodes → IsBestOf p best → Rise nodes (option_map (λ x. record { pass = pass; ends = reverse (ends_of p x) }) best)
best-rise nodes p pass None count best = _
best-rise nodes p pass (Some x) count best =
    let last : last_of x ≡ length nodes = best.ends ∙ count in
    let within : last_of x ≤ length nodes = omega (arith, last) in
    subst (λ (es : List BreakEnd). AreEnds nodes 0 es) (append-nil (reverse (ends_of p x))) (ends-rise nodes p x [] best.admitted within _)

found-rise : (nodes : List Node) (p : Paragraph) (pass : ℕ) → p.count ≡ length nodes → Rise nodes (found_in pass p)
unfolding found_in
found-rise nodes p pass count = best-rise nodes p pass (best_of p) count (best-law p)

if-rise : (nodes : List Node) (b : Bool) (found : Option BreakList) → Rise nodes found → Rise nodes (if b then found else None)
if-rise nodes true found rise = rise
if-rise nodes false found rise = _

first-rise : (nodes : List Node) (t : ℤ) (p : Paragraph) → p.count ≡ length nodes → Rise nodes (first_found t p)
unfolding first_found
first-rise nodes t p count = if-rise nodes (int_le (pos 0) t) (found_in 1 p) (found-rise nodes p 1 count)

or-rise : (nodes : List Node) (a b : Option BreakList) → Rise nodes a → Rise nodes b → Rise nodes (option_or a b)
or-rise nodes None b first second = second
or-rise nodes (Some breaks) b first second = first

by-rise : (nodes : List Node) (passes : Passes) (a b : Option BreakList) → Rise nodes a → Rise nodes b → Rise nodes (found_by passes a b)
by-rise nodes First a b first second = first
by-rise nodes Second a b first second = second
by-rise nodes Both a b first second = or-rise nodes a b first second

none-rise : (nodes : List Node) (found : Option BreakList) → Rise nodes found → AreEnds nodes 0 (breaks_or_none found).ends
none-rise nodes None rise = _
none-rise nodes (Some breaks) rise = rise

ok-rise : (nodes : List Node) (b : Bool) (breaks : BreakList) → AreEnds nodes 0 breaks.ends → IfOk {T = BreakList} {E = Kind} (if b then Err ParagraphLimit else Ok breaks) (λ breaks. AreEnds nodes 0 breaks.ends)
ok-rise nodes true breaks rise = _
ok-rise nodes false breaks rise = rise

count-is : (shape : Shape) (pass : Pass) (nodes : List Node) → (paragraph_of shape pass nodes).count ≡ length nodes
unfolding paragraph_of
count-is shape pass nodes = refl

pub breaks-rise : (shape : Shape) (nodes : List Node) → IfOk (breaks_of shape nodes) (λ breaks. AreEnds nodes 0 breaks.ends)
unfolding breaks_of passes_of
breaks-rise shape nodes =
    let P : Paragraph = paragraph_of shape (first_pass shape.rules) nodes in
    let Q : Paragraph = paragraph_of shape (second_pass shape.rules) nodes in
    let first : Rise nodes (first_found shape.rules.pretolerance P) = first-rise nodes shape.rules.pretolerance P (count-is shape (first_pass shape.rules) nodes) in
    let second : Rise nodes (found_in 2 Q) = found-rise nodes Q 2 (count-is shape (second_pass shape.rules) nodes) in
    let found : Option BreakList = found_by shape.rules.passes (first_found shape.rules.pretolerance P) (found_in 2 Q) in
    ok-rise nodes (nat_lt 65536 (items_in nodes)) (breaks_or_none found) (none-rise nodes found (by-rise nodes shape.rules.passes (first_found shape.rules.pretolerance P) (found_in 2 Q) first second))
