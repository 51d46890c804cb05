-- The end of a paragraph: its list, its lines, and what is logged of them.
use Rattle.std.proofs.Common.{◌≡◌, ◌≤◌, ◌∙◌, ◌++◌, ◌+◌, Bool, true, false, ℕ, zero, suc, List, [], ◌∷◌, Some, ap, append-nil, append_assoc, length, refl, subst, sym}
use Rattle.std.specs.Prelude.{IfOk, Option, Result, Ok, Err, if◌then◌else◌, nat_lt, unwrap_or}
use Rattle.std.proofs.lemmas.Bool.{ltb-false}
use Rattle.std.specs.List.{slice_get}
use Rattle.lb_base.specs.Answers.{Answers}
use Rattle.lb_base.specs.declared.fault.Kind.{Kind}
use Rattle.lb_base.specs.declared.fault.Stop.{Stop}
use Rattle.lb_base.specs.declared.fault.Stop.TheVariants.{At, Fault, Memory}
use Rattle.lb_base.specs.declared.node.Node.{Node, out-Node}
use Rattle.lb_model.specs.declared.append.Append.{Append}
use Rattle.lb_model.specs.declared.place.Place.{Place}
use Rattle.lb_model_paper.specs.Breaks.{breaks_of, is_glue, items_in}
use Rattle.lb_model_paper.specs.Lines.{AreEnds}
use Rattle.lb_model_paper.specs.declared.paragraph.BreakEnd.{BreakEnd}
use Rattle.lb_model_paper.specs.declared.paragraph.BreakList.{BreakList}
use Rattle.lb_model_paper.specs.declared.paragraph.Shape.{Shape}
use Rattle.lb_break.proofs.Rising.{breaks-rise}
use Rattle.lb_lines.specs.Apart.{AreLines, lines_apart_of, lines_together}
use Rattle.lb_lines.proofs.Apart.{are_lines, lines-together}
use Rattle.lb_model_nest.specs.Boxes.{part_in, part_last}
use Rattle.lb_model_nest.specs.declared.nest.DiscPart.{DiscPart}
use Rattle.lb_model_nest.specs.Items.{italic_behind, italic_in}
use Rattle.lb_model_nest.specs.Paragraphs.{broken, broken_at, broken_into_lines, line_added, line_logged, lines_added, lines_logged, lines_placed, place_now, without_last_glue}
use Rattle.lb_model_nest.specs.Wholes.{Executed, Whole, and_as, and_then, stop}
use Rattle.lb_nest.specs.Endings.{MakesLines, bad_line, bad_lines, has_bad, logged, made_added, nowhere}

-- ---- The last node of a list

behind-one : (b : Bool) (y x : Node) (l : List Node) → y ∷ (if b then l else l ++ x ∷ []) ≡ (if b then y ∷ l else y ∷ l ++ x ∷ [])
behind-one true y x l = refl
behind-one false y x l = refl

pub last-glue : (l : List Node) (x : Node) → without_last_glue (l ++ x ∷ []) ≡ (if is_glue x then l else l ++ x ∷ [])
last-glue [] x = refl
last-glue (y ∷ []) x = behind-one (is_glue x) y x []
last-glue (y ∷ z ∷ l) x = ap (λ r. y ∷ r) (last-glue (z ∷ l) x) ∙ behind-one (is_glue x) y x (z ∷ l)

pub last-part : (part : DiscPart) (nodes l : List Node) (x : Node) → part_last part nodes (l ++ x ∷ []) ≡ l ++ part_in part nodes x (out-Node x) ∷ []
last-part part nodes [] x = refl
last-part part nodes (y ∷ []) x = refl
last-part part nodes (y ∷ z ∷ l) x = ap (λ r. y ∷ r) (last-part part nodes (z ∷ l) x)

pub last-italic : (l : List Node) (x : Node) → italic_behind (l ++ x ∷ []) ≡ italic_in (out-Node x)
last-italic [] x = refl
last-italic (y ∷ []) x = refl
last-italic (y ∷ z ∷ l) x = last-italic (z ∷ l) x

-- ---- Lines

pub lines-made : (shape : Shape) (nodes : List Node) (i : ℕ) (ends : List BreakEnd) (lines : List (List Node)) (w : Whole) → AreLines shape nodes i ends lines → lines_added shape nodes i ends w ≡ made_added lines w
unfolding lines_added
lines-made shape nodes i [] [] w h = refl
lines-made shape nodes i [] (line ∷ lines) w h = absurd h
lines-made shape nodes i (end ∷ ends) [] w h = absurd h
lines-made shape nodes i (end ∷ ends) (line ∷ lines) w h =
    let x : Executed = line_added (Ok line) w in
    ap (λ (r : Result (List Node) Kind). and_then (line_added r w) (lines_added shape nodes (end.item + 1) ends)) h.0
    ∙ ap (λ (e : Executed). and_as x.done.went x e) (lines-made shape nodes (end.item + 1) ends lines x.done.next h.1)

-- ---- What is logged

logged-both : (a b : List Append) (w : Whole) → logged b (logged a w) ≡ logged (a ++ b) w
logged-both a b w i = record w { feed = record w.feed { appends = append_assoc w.feed.appends a b i } }

logged-none : (w : Whole) → w ≡ logged [] w
logged-none w i = record w { feed = record w.feed { appends = sym (append-nil w.feed.appends) i } }

line-logged : (b : Bool) (shape : Shape) (nodes : List Node) (i item : ℕ) (w : Whole) → line_logged shape nodes i (record { item = item; is_bad = b }) w ≡ logged (bad_line (place_now w) shape nodes i (record { item = item; is_bad = b })) w
line-logged true shape nodes i item w = refl
line-logged false shape nodes i item w = logged-none w

pub lines-logged : (shape : Shape) (nodes : List Node) (i : ℕ) (ends : List BreakEnd) (w : Whole) → lines_logged shape nodes i ends w ≡ logged (bad_lines (place_now w) shape nodes i ends) w
lines-logged shape nodes i [] w = logged-none w
lines-logged shape nodes i (end ∷ ends) w =
    let a : List Append = bad_line (place_now w) shape nodes i end in
    ap (lines_logged shape nodes (end.item + 1) ends) (line-logged end.is_bad shape nodes i end.item w)
    ∙ lines-logged shape nodes (end.item + 1) ends (logged a w)
    ∙ logged-both a (bad_lines (place_now w) shape nodes (end.item + 1) ends) w

pub lines-placed : (shape : Shape) (nodes : List Node) (ends : List BreakEnd) (lines : List (List Node)) (w : Whole) → lines_apart_of shape nodes ends ≡ Ok lines
    → broken_at shape nodes ends w ≡ made_added lines (logged (bad_lines (place_now w) shape nodes 0 ends) w)
lines-placed shape nodes ends lines w e =
    ap (λ r. lines_placed r shape nodes ends w) (lines-together shape nodes ends ∙ ap lines_together e)
    ∙ lines-made shape nodes 0 ends lines (lines_logged shape nodes 0 ends w) (are_lines shape nodes ends lines e)
    ∙ ap (made_added lines) (lines-logged shape nodes 0 ends w)

pub breaks-made : (shape : Shape) (nodes : List Node) (breaks : BreakList) (place : Option Place) (bad : List Append) (lines : List (List Node)) (w : Whole) → breaks_of shape nodes ≡ Ok breaks
    → bad ≡ bad_lines (unwrap_or place nowhere) shape nodes 0 breaks.ends → lines_apart_of shape nodes breaks.ends ≡ Ok lines → w.feed.place ≡ place → broken_into_lines shape nodes w ≡ made_added lines (logged bad w)
breaks-made shape nodes breaks place bad lines w e is made at =
    ap (λ r. broken r shape nodes w) e
    ∙ lines-placed shape nodes breaks.ends lines w made
    ∙ ap (λ a. made_added lines (logged a w)) (ap (λ (p : Option Place). bad_lines (unwrap_or p nowhere) shape nodes 0 breaks.ends) at ∙ sym is)

pub lines-refused : (shape : Shape) (nodes : List Node) (breaks : BreakList) (kind : Kind) (w : Whole) → breaks_of shape nodes ≡ Ok breaks → lines_apart_of shape nodes breaks.ends ≡ Err kind → broken_into_lines shape nodes w ≡ stop kind w
lines-refused shape nodes breaks kind w e made =
    ap (λ r. broken r shape nodes w) e ∙ ap (λ r. lines_placed r shape nodes breaks.ends w) (lines-together shape nodes breaks.ends ∙ ap lines_together made)

pub breaks-refused : (shape : Shape) (nodes : List Node) (kind : Kind) (w : Whole) → breaks_of shape nodes ≡ Err kind → broken_into_lines shape nodes w ≡ stop kind w
breaks-refused shape nodes kind w e = ap (λ r. broken r shape nodes w) e

-- ---- The last node, as a slice tells it

pub italic-at : (l : List Node) (k : ℕ) (x : Node) → suc k ≡ length l → slice_get l k ≡ Some x → italic_behind l ≡ italic_in (out-Node x)
italic-at [] k x h e = absurd (cc)
italic-at (y ∷ []) zero x h e = let same : y ≡ x = cc in ap (λ n. italic_in (out-Node n)) same
italic-at (y ∷ []) (suc k) x h e = absurd (cc)
italic-at (y ∷ z ∷ l) zero x h e = absurd (cc)
italic-at (y ∷ z ∷ l) (suc k) x h e = let less : suc k ≡ length (z ∷ l) = cc in italic-at (z ∷ l) k x less e

-- ---- The list of pages

record Ends (l : List Node) : Type 0 where
  before : List Node
  node : Node
  is : l ≡ before ++ node ∷ []

ends-of : (y : Node) (l : List Node) → Ends (y ∷ l)
ends-of y [] = record { before = []; node = y; is = refl }
ends-of y (z ∷ l) = let e = ends-of z l in record { before = y ∷ e.before; node = e.node; is = ap (λ r. y ∷ r) e.is }

pub page-glue : (old new : List Node) → ((before : List Node) (node : Node) → old ≡ before ++ node ∷ [] → new ≡ (if is_glue node then before else old)) → (old ≡ [] → new ≡ []) → new ≡ without_last_glue old
page-glue [] new h e = e refl
page-glue (y ∷ l) new h e =
    let s : Ends (y ∷ l) = ends-of y l in
    h s.before s.node s.is
    ∙ ap (λ (r : List Node). if is_glue s.node then s.before else r) s.is
    ∙ sym (ap without_last_glue s.is ∙ last-glue s.before s.node)

-- ---- Lines of which none is bad

none-bad-by : (b h : Bool) (a : Append) (more : List Append) → (if b then true else h) ≡ false → (h ≡ false → more ≡ []) → (if b then a ∷ [] else []) ++ more ≡ []
none-bad-by true h a more e f = cc
none-bad-by false h a more e f = f e

pub none-bad : (place : Place) (shape : Shape) (nodes : List Node) (i : ℕ) (ends : List BreakEnd) → has_bad ends ≡ false → bad_lines place shape nodes i ends ≡ []
none-bad place shape nodes i [] e = refl
none-bad place shape nodes i (end ∷ ends) e = none-bad-by end.is_bad (has_bad ends) _ (bad_lines place shape nodes (end.item + 1) ends) e (none-bad place shape nodes (end.item + 1) ends)

-- ---- What comes of a list that is broken

few-by : (n : ℕ) (b : Bool) (breaks other : BreakList) (kind : Kind) → nat_lt 65536 n ≡ b → (if b then Err kind else Ok other) ≡ Ok breaks → n ≤ 65536
few-by n true breaks other kind is e = absurd (cc)
few-by n false breaks other kind is e = ltb-false 65536 n is

pub few-items : (shape : Shape) (nodes : List Node) (breaks : BreakList) → breaks_of shape nodes ≡ Ok breaks → items_in nodes ≤ 65536
unfolding breaks_of
few-items shape nodes breaks e = few-by (items_in nodes) (nat_lt 65536 (items_in nodes)) breaks _ _ refl e

pub ends-rise : (shape : Shape) (nodes : List Node) (breaks : BreakList) → breaks_of shape nodes ≡ Ok breaks → AreEnds nodes 0 breaks.ends
ends-rise shape nodes breaks e = subst (λ (r : Result BreakList Kind). IfOk r (λ b. AreEnds nodes 0 b.ends)) e (breaks-rise shape nodes)

pub makes-refused : (shape : Shape) (nodes : List Node) (place : Option Place) (breaks : BreakList) (s : Stop) → breaks_of shape nodes ≡ Ok breaks → Answers {T = List (List Node)} (lines_apart_of shape nodes breaks.ends) (Err s) → MakesLines shape nodes place (Err s)
makes-refused shape nodes place breaks Memory e h = tt
makes-refused shape nodes place breaks (Fault kind) e h = λ w. lines-refused shape nodes breaks kind w e h
makes-refused shape nodes place breaks (At fault) e h = h
