-- Pairs that are noted, and the settings that agree with them.
use Rattle.std.proofs.Common.{◌≡◌, Bool, true, false, cond, List, [], ◌∷◌, ◌++◌, map, Option, Some, None, refl, ap, sym, ◌∙◌}
use Rattle.std.specs.Prelude.{◌||◌, is_some}
use Rattle.std.specs.List.{list_any}
use Rattle.lb_values.specs.Cells.{cell_eq}
use Rattle.lb_values.proofs.SameCells.{cell_eq-true}
use Rattle.lb_values.specs.declared.cell.Cell.{Cell}
use Rattle.lb_values.specs.declared.value.Value.{Value}
use Rattle.lb_model.specs.Settings.{Setting, look}
use Rattle.lb_maps.specs.CellMap.{at}
use Rattle.lb_record.specs.Recorded.{AgreesWith, pairs}

-- pairs that hold in a setting are those of their cells there
pub pairs-of : (p : Setting) (reads : List (Cell × Value)) → AgreesWith reads p → pairs p (map (λ e. e.0) reads) ≡ reads
pairs-of p [] a = refl
pairs-of p (e ∷ reads) a = λ i. (e.0, a.0 i) ∷ pairs-of p reads a.1 i

-- what agrees once one cell more is told agreed before, and tells that cell alike
pub agrees-before : (m p : Setting) (cells : List Cell) (c : Cell) → AgreesWith (pairs m (cells ++ c ∷ [])) p → AgreesWith (pairs m cells) p
agrees-before m p [] c a = tt
agrees-before m p (d ∷ cells) c a = (a.0, agrees-before m p cells c a.1)

pub agrees-last : (m p : Setting) (cells : List Cell) (c : Cell) → AgreesWith (pairs m (cells ++ c ∷ [])) p → look p.world p.state c ≡ look m.world m.state c
agrees-last m p [] c a = a.0
agrees-last m p (d ∷ cells) c a = agrees-last m p cells c a.1

-- one pair more
pub agrees-more : (p : Setting) (reads : List (Cell × Value)) (c : Cell) (v : Value) → AgreesWith reads p → look p.world p.state c ≡ v → AgreesWith (reads ++ (c, v) ∷ []) p
agrees-more p [] c v a h = (h, tt)
agrees-more p (e ∷ reads) c v a h = (a.0, agrees-more p reads c v a.1 h)

-- a cell of a noted pair tells the noted value
first-or-rest : (c : Cell) (v : Value) (e : Cell × Value) (es : List (Cell × Value)) (p : Setting) (b : Bool) → (b ≡ true → c ≡ e.0) → cond b (Some e.1) (at es c) ≡ Some v → look p.world p.state e.0 ≡ e.1
    → (at es c ≡ Some v → look p.world p.state c ≡ v) → look p.world p.state c ≡ v
first-or-rest c v e es p true same h a rest = let is : e.1 ≡ v = cc in ap (look p.world p.state) (same refl) ∙ a ∙ is
first-or-rest c v e es p false same h a rest = rest h

pub agrees-at : (p : Setting) (reads : List (Cell × Value)) (c : Cell) (v : Value) → at reads c ≡ Some v → AgreesWith reads p → look p.world p.state c ≡ v
unfolding at
agrees-at p [] c v h a = cc
agrees-at p (e ∷ reads) c v h a = first-or-rest c v e reads p (cell_eq c e.0) (cell_eq-true c e.0) h a.0 (λ t. agrees-at p reads c v t a.1)

-- a cell is among those of pairs where it has one
pub any-read : (reads : List (Cell × Value)) (c : Cell) → is_some (at reads c) ≡ list_any (cell_eq c) (map (λ e. e.0) reads)
unfolding at
any-read [] c = refl
any-read (e ∷ reads) c = by (cell_eq c e.0) e.1 (at reads c) _ (any-read reads c) where
  by : (b : Bool) (v : Value) (o : Option Value) (t : Bool) → is_some o ≡ t → is_some (cond b (Some v) o) ≡ (b || t)
  by true v o t h = refl
  by false v o t h = h

-- the cells of what is noted are those that were told
pub cells-of : (p : Setting) (cells : List Cell) → map (λ e. e.0) (pairs p cells) ≡ cells
cells-of p [] = refl
cells-of p (c ∷ cells) = ap (λ l. c ∷ l) (cells-of p cells)

pub is-listed : (p : Setting) (cells : List Cell) (c : Cell) → is_some (at (pairs p cells) c) ≡ list_any (cell_eq c) cells
is-listed p cells c = any-read (pairs p cells) c ∙ ap (list_any (cell_eq c)) (cells-of p cells)

-- one cell more
pub cells-more : (reads : List (Cell × Value)) (c : Cell) (v : Value) → map (λ e. e.0) (reads ++ (c, v) ∷ []) ≡ map (λ e. e.0) reads ++ c ∷ []
cells-more [] c v = refl
cells-more (e ∷ reads) c v = ap (λ l. e.0 ∷ l) (cells-more reads c v)
