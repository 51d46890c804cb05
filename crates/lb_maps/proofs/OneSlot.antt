-- No two cells have one slot.
use Rattle.std.proofs.Common.{◌≡◌, ℕ, ◌+◌, ◌-◌, ◌*◌, ◌/◌, ◌%◌, ◌<◌, ◌==◌, nat_lt, Bool, true, false, cond, Some, None, get_or, refl, sym, ap, subst, ◌∙◌, arith}
use Rattle.std.proofs.lemmas.Bool.Decides.{nat_tests}
use Rattle.lb_rows.specs.Parameters.{parameter_rows}
use Rattle.lb_rows.specs.declared.parameter.Parameter.{Parameter}
use Rattle.lb_rows.specs.declared.parameter.Parameter.TheVariants as parameter
use Rattle.lb_values.specs.Cells.{cell_eq}
use Rattle.lb_values.proofs.SameCells.{cell_eq-refl, cell_eq-true}
use Rattle.lb_values.specs.declared.cell.Cell.{Cell}
use Rattle.lb_values.specs.declared.cell.Cell.TheVariants.{Par, Cat, Sf, Count, Dimen, Skip, Lc, Uc, Toks, Boxed, Active}
use Rattle.lb_maps.specs.Slots.{byte_slot, parameter_slot, slot_of}

parameter_at : ℕ → Parameter
parameter_at n = get_or parameter_rows n parameter.AdjDemerits

parameter_back : (p : Parameter) → parameter_at (parameter_slot p) ≡ p
unfolding parameter_at parameter_rows parameter_slot
parameter_back parameter.AdjDemerits = refl
parameter_back _ = refl

parameter_below : (p : Parameter) → nat_lt (parameter_slot p) 35 ≡ true
unfolding parameter_slot
parameter_below parameter.AdjDemerits = refl
parameter_below _ = refl

byte_cell : ℕ → ℕ → Cell
byte_cell table byte =
    cond (table == 0) (Cat byte) (
    cond (table == 1) (Sf byte) (
    cond (table == 2) (Count byte) (
    cond (table == 3) (Dimen byte) (
    cond (table == 4) (Skip byte) (
    cond (table == 5) (Lc byte) (
    cond (table == 6) (Uc byte) (
    cond (table == 7) (Toks byte) (
    cond (table == 8) (Boxed byte) (Active byte)))))))))

-- the cell of a slot
cell_at : ℕ → Cell
cell_at n = cond (nat_lt n 35) (Par (parameter_at n)) (byte_cell ((n - 35) / 256) ((n - 35) % 256))

table_of : (table byte : ℕ) → byte < 256 → (35 + table * 256 + byte - 35) / 256 ≡ table
table_of table byte lt = grind arith

byte_of : (table byte : ℕ) → byte < 256 → (35 + table * 256 + byte - 35) % 256 ≡ byte
byte_of table byte lt = grind arith

past_parameters : (table byte : ℕ) → nat_lt (35 + table * 256 + byte) 35 ≡ false
past_parameters table byte = grind (arith, nat_tests)

below : (byte : ℕ) → nat_lt byte 256 ≡ true → byte < 256
below byte t = grind (arith, nat_tests)

byte_back : (table byte n : ℕ) → byte_slot table byte ≡ Some n → cell_at n ≡ byte_cell table byte
unfolding cell_at
byte_back table byte n h = go (nat_lt byte 256) refl h where
  go : (b : Bool) → nat_lt byte 256 ≡ b → cond b (Some (35 + table * 256 + byte)) None ≡ Some n → cell_at n ≡ byte_cell table byte
  go true t e =
      let is : 35 + table * 256 + byte ≡ n = cc in
      subst (λ m. cell_at m ≡ byte_cell table byte) is
      (ap (λ b. cond b (Par (parameter_at (35 + table * 256 + byte))) (byte_cell ((35 + table * 256 + byte - 35) / 256) ((35 + table * 256 + byte - 35) % 256))) (past_parameters table byte)
      ∙ ap (λ m. byte_cell m ((35 + table * 256 + byte - 35) % 256)) (table_of table byte (below byte t))
      ∙ ap (byte_cell table) (byte_of table byte (below byte t)))
  go false t e = absurd (cc)

parameter_slot_back : (p : Parameter) (n : ℕ) → Some (parameter_slot p) ≡ Some n → cell_at n ≡ Par p
unfolding cell_at
parameter_slot_back p n h =
    let is : parameter_slot p ≡ n = cc in
    subst (λ m. cell_at m ≡ Par p) is
    (ap (λ b. cond b (Par (parameter_at (parameter_slot p))) (byte_cell ((parameter_slot p - 35) / 256) ((parameter_slot p - 35) % 256))) (parameter_below p)
    ∙ ap Par (parameter_back p))

cell_back : (cell : Cell) (n : ℕ) → slot_of cell ≡ Some n → cell_at n ≡ cell
unfolding slot_of byte_cell
cell_back (Par p) n h = parameter_slot_back p n h
cell_back (Cat byte) n h = byte_back 0 byte n h
cell_back (Sf byte) n h = byte_back 1 byte n h
cell_back (Count byte) n h = byte_back 2 byte n h
cell_back (Dimen byte) n h = byte_back 3 byte n h
cell_back (Skip byte) n h = byte_back 4 byte n h
cell_back (Lc byte) n h = byte_back 5 byte n h
cell_back (Uc byte) n h = byte_back 6 byte n h
cell_back (Toks byte) n h = byte_back 7 byte n h
cell_back (Boxed byte) n h = byte_back 8 byte n h
cell_back (Active byte) n h = byte_back 9 byte n h
cell_back cell n h = absurd (cc)

-- cells of one slot are one
pub same_slot : (cell other : Cell) (n : ℕ) → slot_of cell ≡ Some n → slot_of other ≡ Some n → cell_eq cell other ≡ true
same_slot cell other n h k = subst (λ c. cell_eq cell c ≡ true) (sym (cell_back cell n h) ∙ cell_back other n k) (cell_eq-refl cell)

-- cells of different slots differ
pub other_slot : (cell other : Cell) → (slot_of cell ≡ slot_of other → ⊥) → cell_eq cell other ≡ false
other_slot cell other differ = go (cell_eq cell other) refl where
  go : (b : Bool) → cell_eq cell other ≡ b → b ≡ false
  go true t = absurd (differ (ap slot_of (cell_eq-true cell other t)))
  go false t = refl
