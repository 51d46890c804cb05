-- The marks and the code of a page, by whether all its marks are small.
use Rattle.std.proofs.Common.{◌≡◌, Bool, true, false, cond, ◌&&◌, List, [], ◌∷◌, ◌++◌, ℤ, pos, negsuc, ◌+ℤ◌, refl, sym, ap, ◌∙◌, arith, Result, Ok, Err}
use Rattle.std.specs.Prelude.{int_le}
use Rattle.std.proofs.lemmas.Bool.{and_parts}
use Rattle.std.proofs.lemmas.Int.{ints}
use Rattle.std.specs.List.{AllByRecursion, list_all}
use Rattle.lb_base.specs.Answers.{Answers}
use Rattle.lb_base.specs.declared.fault.Kind.{Kind}
use Rattle.lb_base.specs.declared.fault.Kind.TheVariants.{DimenTooLarge}
use Rattle.lb_base.specs.declared.fault.Stop.{Stop}
use Rattle.lb_base.specs.declared.fault.Stop.TheVariants.{At, Fault, Memory}
use Rattle.lb_base.specs.declared.node.Boxed.{Boxed}
use Rattle.lb_base.specs.declared.page.Mark.{Mark}
use Rattle.lb_base.specs.declared.page.Mark.TheVariants.{Char, Rule}
use Rattle.lb_base.specs.declared.page.PageCode.{PageCode}
use Rattle.lb_model_paper.specs.Dvi.{IsDrawable, is_small, IsSmall, IsSmallMark}
use Rattle.lb_model_paper.specs.Marks.{code_of_page, is_length, is_small_mark, marks_at, marks_of, marks_or_fault, page_code_or_fault, page_spot, Spot}
use Rattle.lb_marks.specs.Spots.{HasShortName, IsMarkStop}

-- by the test
abbrev marks_by : Bool → Boxed → Result (List Mark) Kind
marks_by small box = cond small (Ok (marks_of box)) (Err DimenTooLarge)

abbrev code_by : Bool → ℤ → Boxed → Result PageCode Kind
code_by small number box = cond small (Ok (code_of_page number box (marks_of box))) (Err DimenTooLarge)

marks_is : (box : Boxed) → marks_or_fault box ≡ marks_by (list_all is_small_mark (marks_of box)) box
unfolding marks_or_fault
marks_is box = refl

code_is : (number : ℤ) (box : Boxed) → page_code_or_fault number box ≡ code_by (list_all is_small_mark (marks_of box)) number box
unfolding page_code_or_fault
code_is number box = refl

pub marks_made : (box : Boxed) (spot : Spot) (made first : List Mark) → made ≡ first ++ marks_at box spot → list_all is_small_mark (marks_at box spot) ≡ true → first ≡ [] → spot ≡ page_spot box → marks_or_fault box ≡ Ok made
marks_made box spot made first is small none corner =
    let M : Spot → List Mark = λ s. marks_at box s in
    let all : list_all is_small_mark (marks_of box) ≡ true = ap (λ s. list_all is_small_mark (M s)) (sym corner) ∙ small in
    let same : made ≡ marks_of box = is ∙ ap (λ ms. ms ++ marks_at box spot) none ∙ ap M corner in
    marks_is box ∙ ap (λ b. marks_by b box) all ∙ ap Ok (sym same)

pub marks_stopped : (box : Boxed) (spot : Spot) (stop : Stop) → IsMarkStop (marks_at box spot) stop → spot ≡ page_spot box → Answers (marks_or_fault box) (Err stop)
marks_stopped box spot Memory stops corner = tt
marks_stopped box spot (Fault kind) stops corner =
    let M : Spot → List Mark = λ s. marks_at box s in
    let all : list_all is_small_mark (marks_of box) ≡ false = ap (λ s. list_all is_small_mark (M s)) (sym corner) ∙ stops.1 in
    marks_is box ∙ ap (λ b. marks_by b box) all ∙ ap Err (sym stops.0)
marks_stopped box spot (At fault) stops corner = stops

code_made-by : (number : ℤ) (box : Boxed) (marks : List Mark) (b : Bool) → marks_by b box ≡ Ok marks → code_by b number box ≡ Ok (code_of_page number box marks)
code_made-by number box marks true is = let same : marks_of box ≡ marks = cc in ap (λ ms. Ok (code_of_page number box ms)) same
code_made-by number box marks false is = let no : ⊥ = cc in absurd no

pub code_made : (number : ℤ) (box : Boxed) (marks : List Mark) → marks_or_fault box ≡ Ok marks → page_code_or_fault number box ≡ Ok (code_of_page number box marks)
code_made number box marks is = code_is number box ∙ code_made-by number box marks (list_all is_small_mark (marks_of box)) (sym (marks_is box) ∙ is)

code_stopped-by : (number : ℤ) (box : Boxed) (kind : Kind) (b : Bool) → marks_by b box ≡ Err kind → code_by b number box ≡ Err kind
code_stopped-by number box kind true is = let no : ⊥ = cc in absurd no
code_stopped-by number box kind false is = let same : DimenTooLarge ≡ kind = cc in ap Err same

pub code_stopped : (number : ℤ) (box : Boxed) (stop : Stop) → Answers (marks_or_fault box) (Err stop) → Answers (page_code_or_fault number box) (Err stop)
code_stopped number box Memory stops = tt
code_stopped number box (Fault kind) stops = code_is number box ∙ code_stopped-by number box kind (list_all is_small_mark (marks_of box)) (sym (marks_is box) ∙ stops)
code_stopped number box (At fault) stops = stops

-- ---- what a page code has

-- it is that of the marks of its box, and all are small
pub record IsCode (number : ℤ) (box : Boxed) (code : PageCode) : Type 0 where
  pub is : code_of_page number box (marks_of box) ≡ code
  pub small : list_all is_small_mark (marks_of box) ≡ true

IsCode-by : (number : ℤ) (box : Boxed) (code : PageCode) (b : Bool) → list_all is_small_mark (marks_of box) ≡ b → code_by b number box ≡ Ok code → IsCode number box code
IsCode-by number box code true small made = record { is = cc; small = small }
IsCode-by number box code false small made = let no : ⊥ = cc in absurd no

pub IsCode-from : (number : ℤ) (box : Boxed) (code : PageCode) → page_code_or_fault number box ≡ Ok code → IsCode number box code
IsCode-from number box code made = IsCode-by number box code (list_all is_small_mark (marks_of box)) refl (sym (code_is number box) ∙ made)

true_small : (z : ℤ) → is_small z ≡ true → IsSmall z
true_small z passes = let both = and_parts (int_le (negsuc 1073741822) z) (int_le z (pos 1073741823)) passes in record { low = search (arith, ints); high = search (arith, ints) }

small_mark : (mark : Mark) → is_small_mark mark ≡ true → HasShortName mark → IsSmallMark mark
small_mark (Char h v font code width) small short =
    let a = and_parts (is_small h) (is_small v && is_small (h +ℤ width)) small in
    let b = and_parts (is_small v) (is_small (h +ℤ width)) a.1 in
    record { left = true_small h a.0; baseline = true_small v b.0; right = true_small (h +ℤ width) b.1; name = short }
small_mark (Rule h v height width) small short =
    let a = and_parts (is_small h) (is_small v && is_length height) small in
    let b = and_parts (is_small v) (is_length height) a.1 in
    record { left = true_small h a.0; lower = true_small v b.0 }

small_all : (marks : List Mark) → list_all is_small_mark marks ≡ true → AllByRecursion HasShortName marks → AllByRecursion IsSmallMark marks
small_all [] small short = short
small_all (mark ∷ marks) small short =
    let a = and_parts (is_small_mark mark) (list_all is_small_mark marks) small in
    (small_mark mark a.0 short.0, small_all marks a.1 short.1)

pub code_drawable : (number : ℤ) (box : Boxed) (code : PageCode) → page_code_or_fault number box ≡ Ok code → AllByRecursion HasShortName code.marks → IsDrawable code
code_drawable number box code made short =
    let known = IsCode-from number box code made in
    let same : marks_of box ≡ code.marks = ap (λ (c : PageCode). c.marks) known.is in
    let small : list_all is_small_mark code.marks ≡ true = ap (list_all is_small_mark) (sym same) ∙ known.small in
    small_all code.marks small short
