-- Items that wait for the next one, and items of a queue.
use Rattle.std.proofs.Common.{◌≡◌, ◌∙◌, ap, sym, subst, refl, inr, ℕ, suc, zero, ◌+◌, ◌<◌, Bool, true, false, ◌&&◌, List, [], ◌∷◌, ◌++◌, length, take, drop, Option, None, Some, pos, if◌then◌else◌, append_assoc, arith}
use Rattle.std.proofs.lemmas.Option.{slice_get_past}
use Rattle.std.specs.Prelude.{slice_get}
use Rattle.lb_base.specs.declared.node.Boxed.{Boxed}
use Rattle.lb_base.specs.declared.node.Discretionary.{Discretionary}
use Rattle.lb_base.specs.declared.node.HeadMark.{HeadMark}
use Rattle.lb_base.specs.declared.node.HeadMark.TheOpen.{Adjust, Boxed as InnerBox, Char, Disc, Glue, Ins, Kern, Lig, Mark, Note, Penalty, Rule}
use Rattle.lb_base.specs.declared.node.Node.{Node, Node-F, out-Node}
use Rattle.lb_model_paper.specs.Pages.{is_begun, is_explicit, is_glue, penalty_at, penalty_in, penalty_of}
use Rattle.lb_page.specs.declared.search.Search.{Search}
use Rattle.lb_page.specs.Searches.{IsJudged, IsKept, IsLast, IsNext, IsRight}
use Rattle.lb_page.specs.Waits.{waits, waits_in}

-- ---- an item that waits for none

kern_any : (b c : Bool) (p q : Bool) → b ≡ false → (if b && (c && p) then Some (pos 0) else None) ≡ (if b && (c && q) then Some (pos 0) else None)
kern_any true c p q not_so = absurd (cc)
kern_any false c p q not_so = refl

penalty_in-any : (before : List Node) (layer : Node-F HeadMark Node Boxed Discretionary) (next other : Option Node) → waits_in layer ≡ false → penalty_in before layer next ≡ penalty_in before layer other
penalty_in-any before (Kern width origin) next other not_so = kern_any (is_explicit origin) (is_begun before) (is_glue next) (is_glue other) not_so
penalty_in-any before (Glue glue) next other not_so = refl
penalty_in-any before (Penalty penalty) next other not_so = refl
penalty_in-any before (Char code metrics font) next other not_so = refl
penalty_in-any before (Lig ligature) next other not_so = refl
penalty_in-any before (Disc parts) next other not_so = refl
penalty_in-any before (Rule size) next other not_so = refl
penalty_in-any before (InnerBox box) next other not_so = refl
penalty_in-any before (Note note) next other not_so = refl
penalty_in-any before (Mark mark) next other not_so = refl
penalty_in-any before (Ins box) next other not_so = refl
penalty_in-any before (Adjust material) next other not_so = refl

pub penalty_of-any : (before : List Node) (node : Node) (next other : Option Node) → waits node ≡ false → penalty_of before (Some node) next ≡ penalty_of before (Some node) other
unfolding waits
penalty_of-any before node next other not_so = penalty_in-any before (out-Node node) next other not_so

and_none : (b : Bool) → (b && false) ≡ false
and_none true = refl
and_none false = refl

kern_none : (b c : Bool) → (if b && (c && false) then Some (pos 0) else None) ≡ None
kern_none true true = refl
kern_none true false = refl
kern_none false c = refl

waits_none : (before : List Node) (layer : Node-F HeadMark Node Boxed Discretionary) → waits_in layer ≡ true → penalty_in before layer None ≡ None
waits_none before (Kern width origin) is = kern_none (is_explicit origin) (is_begun before)
waits_none before (Glue glue) is = absurd (cc)
waits_none before (Penalty penalty) is = absurd (cc)
waits_none before (Char code metrics font) is = refl
waits_none before (Lig ligature) is = refl
waits_none before (Disc parts) is = refl
waits_none before (Rule size) is = refl
waits_none before (InnerBox box) is = refl
waits_none before (Note note) is = refl
waits_none before (Mark mark) is = refl
waits_none before (Ins box) is = refl
waits_none before (Adjust material) is = refl

pub penalty_of-waits : (before : List Node) (node : Node) → waits node ≡ true → penalty_of before (Some node) None ≡ None
unfolding waits
penalty_of-waits before node is = waits_none before (out-Node node) is

-- ---- items of a queue

pub slice_get-append : (xs ys : List Node) (k : ℕ) → k < length xs → slice_get (xs ++ ys) k ≡ slice_get xs k
slice_get-append [] ys k less = absurd (omega arith)
slice_get-append (x ∷ xs) ys zero less = refl
slice_get-append (x ∷ xs) ys (suc k) less = slice_get-append xs ys k (omega arith)

pub slice_get-drop : (xs : List Node) (start k : ℕ) → slice_get (drop start xs) k ≡ slice_get xs (start + k)
slice_get-drop xs zero k = let e : k ≡ zero + k = omega arith in ap (slice_get xs) e
slice_get-drop [] (suc start) k = refl
slice_get-drop (x ∷ xs) (suc start) k = let e : suc (start + k) ≡ suc start + k = omega arith in slice_get-drop xs start k ∙ ap (slice_get (x ∷ xs)) e

-- a list that grew
pub IsRight-more : (nodes : List Node) (node : Node) (search : Search) → IsRight nodes search → IsRight (nodes ++ node ∷ []) search
IsRight-more nodes node search right more = subst (λ (ns : List Node). IsJudged ns search) (sym (append_assoc nodes (node ∷ []) more)) (right (node ∷ more))

-- the next item, whose next one is known
pub IsNext-known : (nodes more : List Node) (at : ℕ) (node next : Node) (glue : Bool) → slice_get nodes at ≡ Some node → slice_get nodes (suc at) ≡ Some next → glue ≡ is_glue (Some next) → at < length nodes → suc at < length nodes → IsNext (nodes ++ more) at node glue
unfolding penalty_at
IsNext-known nodes more at node next glue item behind is less lesser =
    let here : slice_get (nodes ++ more) at ≡ Some node = slice_get-append nodes more at less ∙ item in
    let after : slice_get (nodes ++ more) (suc at) ≡ Some next = slice_get-append nodes more (suc at) lesser ∙ behind in
    record {
      item = here;
      next = (Some next, is, ap (λ (o : Option Node). penalty_of (take at (nodes ++ more)) o (Some next)) (sym here) ∙ ap (λ (o : Option Node). penalty_of (take at (nodes ++ more)) (slice_get (nodes ++ more) at) o) (sym after));
    }

-- and one that does not wait
pub IsNext-any : (nodes more : List Node) (at : ℕ) (node : Node) → slice_get nodes at ≡ Some node → waits node ≡ false → at < length nodes → IsNext (nodes ++ more) at node false
unfolding penalty_at
IsNext-any nodes more at node item not_so less =
    let here : slice_get (nodes ++ more) at ≡ Some node = slice_get-append nodes more at less ∙ item in
    record {
      item = here;
      next = (None, refl, penalty_of-any (take at (nodes ++ more)) node None (slice_get (nodes ++ more) (suc at)) not_so ∙ ap (λ (o : Option Node). penalty_of (take at (nodes ++ more)) o (slice_get (nodes ++ more) (suc at))) (sym here));
    }

pub IsLast-waits : (nodes : List Node) (at : ℕ) (node : Node) → slice_get nodes at ≡ Some node → waits node ≡ true → suc at ≡ length nodes → IsLast nodes at
unfolding penalty_at
IsLast-waits nodes at node item is end =
    inr (end, ap (λ (o : Option Node). penalty_of (take at nodes) o (slice_get nodes (suc at))) item ∙ ap (penalty_of (take at nodes) (Some node)) (slice_get_past nodes (suc at) (omega arith)) ∙ penalty_of-waits (take at nodes) node is)

pub IsKept-more : (nodes : List Node) (node : Node) (search : Option Search) → IsKept nodes search → IsKept (nodes ++ node ∷ []) search
IsKept-more nodes node None kept = tt
IsKept-more nodes node (Some search) kept = (kept.0, IsRight-more nodes node search kept.1)
