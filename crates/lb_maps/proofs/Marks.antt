-- What saves and marks mean, as a mark is set or lowered and as a save is added.
use Rattle.std.proofs.Common.{◌≡◌, ℕ, ◌<◌, ◌≤◌, min, nat_eq, nat_lt, Bool, true, false, cond, List, [], ◌∷◌, ◌++◌, map, reverse, length, Some, None, refl, ap, sym, ◌∙◌, arith, rules}
use Rattle.std.proofs.lemmas.List.{length-reverse, reverse-append}
use Rattle.std.proofs.lemmas.Bool.{eqb-true, lt-ltb, le-ltb}
use Rattle.lb_values.specs.Cells.{cell_eq}
use Rattle.lb_values.proofs.SameCells.{cell_eq-true, cell_eq-refl}
use Rattle.lb_values.specs.declared.cell.Cell.{Cell}
use Rattle.lb_values.specs.Kept.{put, Save, void_save}
use Rattle.lb_maps.specs.Marked.{mark_at, seen}

-- a save that is void already stays so
void_again : {V : Type 0} (cell : Cell) (b : Bool) (s : Cell × V) → void_save cell (cond b None (Some s)) ≡ cond b None (cond (cell_eq cell s.0) None (Some s))
void_again cell true s = refl
void_again cell false s = refl

-- the cell's mark above a place makes the save there void
marked : {X : Type 0} (none some : X) (same : Bool) (place count mark : ℕ) → place < count
    → cond (nat_lt place (cond same count mark)) none some ≡ cond (nat_lt place mark) none (cond same none some)
marked none some true place count mark h = ap (λ b. cond b none some) (lt-ltb place count h) ∙ sym (either (nat_lt place mark) none) where
  either : {X : Type 0} (b : Bool) (x : X) → cond b x x ≡ x
  either true x = refl
  either false x = refl
marked none some false place count mark h = refl

-- a mark as high as the number of saves makes the cell's saves void
pub seen-void : {V : Type 0} (cell : Cell) (count : ℕ) (mark : Cell → ℕ) (items : List (Cell × V)) → length items ≤ count → seen (put cell count mark) items ≡ map (void_save cell) (seen mark items)
seen-void cell count mark [] h = refl
seen-void cell count mark (s ∷ older) h =
    let below : length older < count = omega (arith, h) in
    let rest = seen-void cell count mark older (omega (arith, h)) in
    let first = marked {X = Save _} None (Some s) (cell_eq cell s.0) (length older) count (mark s.0) below ∙ sym (void_again cell (nat_lt (length older) (mark s.0)) s) in
    λ i. first i ∷ rest i

-- a mark is not felt above the number of saves
lowered : (same : Bool) (place count mark high : ℕ) → place < count → (same ≡ true → high ≡ mark) → nat_lt place (cond same (min high count) mark) ≡ nat_lt place mark
lowered true place count mark high h is = ap (λ m. nat_lt place (min m count)) (is refl) ∙ cut where
  cut : nat_lt place (min mark count) ≡ nat_lt place mark
  cut = grind (arith, rules)
lowered false place count mark high h is = refl

-- a mark lowered to no less than the number of saves changes none
pub seen-lower : {V : Type 0} (cell : Cell) (count : ℕ) (mark : Cell → ℕ) (items : List (Cell × V)) → length items ≤ count → seen (put cell (min (mark cell) count) mark) items ≡ seen mark items
seen-lower cell count mark [] h = refl
seen-lower cell count mark (s ∷ older) h =
    let below : length older < count = omega (arith, h) in
    let rest = seen-lower cell count mark older (omega (arith, h)) in
    let test = lowered (cell_eq cell s.0) (length older) count (mark s.0) (mark cell) below (λ same. ap mark (cell_eq-true cell s.0 same)) in
    λ i. cond (test i) None (Some s) ∷ rest i

-- one more save, whose cell's mark is lowered first
pub seen-push : {V : Type 0} (cell : Cell) (value : V) (mark : Cell → ℕ) (items : List (Cell × V)) → seen (put cell (min (mark cell) (length items)) mark) ((cell, value) ∷ items) ≡ Some (cell, value) ∷ seen mark items
seen-push cell value mark items =
    let low : min (mark cell) (length items) ≤ length items = omega arith in
    let mine = ap (λ b. cond b (min (mark cell) (length items)) (mark cell)) (cell_eq-refl cell) in
    let test = ap (nat_lt (length items)) mine ∙ le-ltb (length items) (min (mark cell) (length items)) low in
    let rest = seen-lower cell (length items) mark items (omega arith) in
    λ i. cond (test i) None (Some (cell, value)) ∷ rest i

-- a cell keeps its mark
pub put-same : {X : Type 0} (cell : Cell) (x : X) (f : Cell → X) → x ≡ f cell → put cell x f ≡ f
put-same cell x f e i q = at_cell (cell_eq cell q) (λ same. e ∙ ap f (cell_eq-true cell q same)) i where
  at_cell : {X : Type 0} {x y : X} (b : Bool) → (b ≡ true → x ≡ y) → cond b x y ≡ y
  at_cell true h = h refl
  at_cell false h = refl

-- no saves
pub seen-none : {V : Type 0} (mark : Cell → ℕ) (items : List (Cell × V)) → seen mark items ≡ [] → items ≡ []
seen-none mark [] e = refl
seen-none mark (s ∷ items) e = absurd (cc)

-- a vector has its saves in the other order, the oldest first
count_of : {X : Type 0} (count : ℕ) (xs : List X) → count ≡ length xs → count ≡ length (reverse xs)
count_of count xs e = e ∙ sym (length-reverse xs)

-- one more save in the vector, and its cell's mark lowered
pub pushed : {V : Type 0} (cell : Cell) (value : V) (count : ℕ) (old new : List (Cell × V)) (marks lower : List (Cell × ℕ)) → count ≡ length old → new ≡ old ++ (cell, value) ∷ []
    → mark_at lower ≡ put cell (min (mark_at marks cell) count) (mark_at marks) → seen (mark_at lower) (reverse new) ≡ Some (cell, value) ∷ seen (mark_at marks) (reverse old)
pushed cell value count old new marks lower long more low =
    ap (λ m. seen m (reverse new)) (low ∙ ap (λ n. put cell (min (mark_at marks cell) n) (mark_at marks)) (count_of count old long))
    ∙ ap (seen (put cell (min (mark_at marks cell) (length (reverse old))) (mark_at marks))) (ap reverse more ∙ reverse-append old ((cell, value) ∷ []))
    ∙ seen-push cell value (mark_at marks) (reverse old)

-- the mark lowered alone
pub not_pushed : {V : Type 0} (cell : Cell) (count : ℕ) (old new : List (Cell × V)) (marks lower : List (Cell × ℕ)) → count ≡ length old → new ≡ old
    → mark_at lower ≡ put cell (min (mark_at marks cell) count) (mark_at marks) → seen (mark_at lower) (reverse new) ≡ seen (mark_at marks) (reverse old)
not_pushed cell count old new marks lower long same low =
    let within : length (reverse old) ≤ count = omega (arith, count_of count old long) in
    ap (λ m. seen m (reverse new)) low ∙ ap (λ l. seen (put cell (min (mark_at marks cell) count) (mark_at marks)) (reverse l)) same ∙ seen-lower cell count (mark_at marks) (reverse old) within

-- the cell's mark set to the number of saves
pub voided : {V : Type 0} (cell : Cell) (count : ℕ) (items : List (Cell × V)) (marks new : List (Cell × ℕ)) → count ≡ length items
    → mark_at new ≡ put cell count (mark_at marks) → seen (mark_at new) (reverse items) ≡ map (void_save cell) (seen (mark_at marks) (reverse items))
voided cell count items marks new long set =
    let within : length (reverse items) ≤ count = omega (arith, count_of count items long) in
    ap (λ m. seen m (reverse items)) set ∙ seen-void cell count (mark_at marks) (reverse items) within

-- there is no item where none is seen
pub empty-seen : {V : Type 0} (len : ℕ) (b : Bool) (items : List (Cell × V)) (mark : Cell → ℕ) → len ≡ length items → b ≡ nat_eq len 0 → (b ≡ true → seen mark (reverse items) ≡ []) × (seen mark (reverse items) ≡ [] → b ≡ true)
empty-seen len b [] mark long is = (λ t. refl, λ e. is ∙ ap (λ n. nat_eq n 0) long)
empty-seen len b (x ∷ items) mark long is = (
  λ t. absurd (cc (sym long ∙ eqb-true len 0 (sym is ∙ t))),
  λ e. absurd (cc (sym (length-reverse (x ∷ items)) ∙ ap length (seen-none mark (reverse (x ∷ items)) e))),
)
