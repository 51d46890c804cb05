-- What a pass finds.
use Rattle.std.proofs.Common.{◌≡◌, ◌↔◌, IsTrue, true≢false, ◌≤◌, nat_lt, if◌then◌else◌, Result, Ok, Err, ℕ, List, Option, None, Some, option_map, Bool, true, false, cond, reverse, sym, ap, ◌∙◌, subst, ℤ, pos, int_lt, int_le, arith}
use Rattle.std.proofs.lemmas.Bool.Decides.{nat_tests}
use Rattle.std.proofs.lemmas.Int.{ints}
use Rattle.lb_base.specs.declared.fault.Kind.{Kind}
use Rattle.lb_base.specs.declared.fault.Kind.TheVariants.{ParagraphLimit}
use Rattle.lb_base.specs.declared.node.Node.{Node}
use Rattle.lb_model_paper.specs.BestBreaks.{Paragraph, best_of, breaks_or_none, ends_of, first_found, found_by, found_in, passes_of}
use Rattle.lb_model_paper.specs.Breaks.{Pass, breaks_of, first_pass, items_in, paragraph_of, second_pass}
use Rattle.lb_model_paper.specs.declared.paragraph.BreakEnd.{BreakEnd}
use Rattle.lb_model_paper.specs.declared.paragraph.BreakList.{BreakList}
use Rattle.lb_model_paper.specs.declared.paragraph.Shape.{Shape}

pub found-none : (pass : ℕ) (p : Paragraph) → best_of p ≡ None → found_in pass p ≡ None
unfolding found_in
found-none pass p none = ap (option_map (λ x. record { pass = pass; ends = reverse (ends_of p x) })) none

pub found-some : (pass : ℕ) (p : Paragraph) (x : List ℕ) (ends : List BreakEnd) → best_of p ≡ Some x → ends ≡ reverse (ends_of p x) → found_in pass p ≡ Some (record { pass = pass; ends = ends })
unfolding found_in
found-some pass p x ends some is =
    let B : List BreakEnd → Option BreakList = λ es. Some (record { pass = pass; ends = es }) in
    ap (option_map (λ x. record { pass = pass; ends = reverse (ends_of p x) })) some ∙ ap B (sym is)

not_taken : (t : ℤ) → int_lt t (pos 0) ≡ true → int_le (pos 0) t ≡ false
not_taken t below = grind (arith, ints)

taken : (t : ℤ) → int_lt t (pos 0) ≡ false → int_le (pos 0) t ≡ true
taken t above = grind (arith, ints)

pub first-not : (t u : ℤ) (p : Paragraph) → u ≡ t → int_lt u (pos 0) ≡ true → first_found t p ≡ None
unfolding first_found
first-not t u p same below = ap (λ b. cond b (found_in 1 p) None) (not_taken t (subst (λ v. int_lt v (pos 0) ≡ true) same below))

pub first-taken : (t u : ℤ) (p : Paragraph) → u ≡ t → int_lt u (pos 0) ≡ false → first_found t p ≡ found_in 1 p
unfolding first_found
first-taken t u p same above = ap (λ b. cond b (found_in 1 p) None) (taken t (subst (λ v. int_lt v (pos 0) ≡ false) same above))

-- ---- the chosen breaks

few-not : (b : Bool) (n : ℕ) → (IsTrue b ↔ (n ≤ 65536)) → b ≡ false → nat_lt 65536 n ≡ true
few-not b n few isnt = let none : n ≤ 65536 → ⊥ = λ le. absurd (true≢false (sym (few.1 le) ∙ isnt)) in grind (arith, nat_tests)

few-so : (b : Bool) (n : ℕ) → (IsTrue b ↔ (n ≤ 65536)) → b ≡ true → nat_lt 65536 n ≡ false
few-so b n few so = let le : n ≤ 65536 = few.0 so in grind (arith, nat_tests)

abbrev all_found : Shape → Pass → List Node → Option BreakList
all_found s pass ns = found_by s.rules.passes (first_found s.rules.pretolerance (paragraph_of s pass ns)) (found_in 2 (paragraph_of s (second_pass s.rules) ns))

abbrev chosen : Shape → List Node → BreakList
chosen shape nodes = passes_of shape.rules.passes shape.rules.pretolerance (paragraph_of shape (first_pass shape.rules) nodes) (paragraph_of shape (second_pass shape.rules) nodes)

pub breaks-limit : (shape : Shape) (nodes ns : List Node) (b : Bool) → ns ≡ nodes → (IsTrue b ↔ (items_in ns ≤ 65536)) → b ≡ false → breaks_of shape nodes ≡ Err ParagraphLimit
unfolding breaks_of
breaks-limit shape nodes ns b same few isnt =
    let R : Bool → Result BreakList Kind = λ t. if t then Err ParagraphLimit else Ok (chosen shape nodes) in
    ap R (ap (λ (n : ℕ). nat_lt 65536 n) (ap items_in (sym same)) ∙ few-not b (items_in ns) few isnt)

pub breaks-ok : (shape s : Shape) (pass : Pass) (nodes ns : List Node) (b : Bool) (found : Option BreakList) (result : BreakList) → (IsTrue b ↔ (items_in ns ≤ 65536)) → b ≡ true → s ≡ shape → pass ≡ first_pass shape.rules → ns ≡ nodes
    → found_by s.rules.passes (first_found s.rules.pretolerance (paragraph_of s pass ns)) (found_in 2 (paragraph_of s (second_pass s.rules) ns)) ≡ found → result ≡ breaks_or_none found → breaks_of shape nodes ≡ Ok result
unfolding breaks_of passes_of
breaks-ok shape s pass nodes ns b found result few so s_is pass_is ns_is found_is result_is =
    let R : Bool → Result BreakList Kind = λ t. if t then Err ParagraphLimit else Ok (chosen shape nodes) in
    let same : all_found shape (first_pass shape.rules) nodes ≡ found =
    ap (λ (p : Pass). all_found shape p nodes) (sym pass_is) ∙ ap (λ (ms : List Node). all_found shape pass ms) (sym ns_is) ∙ ap (λ (t : Shape). all_found t pass ns) (sym s_is) ∙ found_is in
    ap R (ap (λ (n : ℕ). nat_lt 65536 n) (ap items_in (sym ns_is)) ∙ few-so b (items_in ns) few so)
    ∙ ap (λ (o : Option BreakList). Ok (breaks_or_none o)) same ∙ ap (λ (r : BreakList). Ok r) (sym result_is)
