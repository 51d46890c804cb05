-- The test of two cells decides whether they are one.
use Rattle.std.proofs.Common.{◌≡◌, true, ap, refl}
use Rattle.std.specs.Cmp.{IsEquivalence}
use Rattle.std.specs.Cmp.Lexicographic.{bytes_decides}
use Rattle.std.proofs.lemmas.Bool.{eqb-true}
use denote.Enum.Bare.{same_true}
use Rattle.lb_rows.specs.contracts.parameter.Parameter as parameter
use Rattle.lb_values.specs.contracts.cell.RegisterKind as kind
use Rattle.lb_values.specs.Cells.{cell_eq}
use Rattle.lb_values.specs.declared.cell.Cell.{Cell}
use Rattle.lb_values.specs.declared.cell.Cell.TheVariants.{Word, Active, Cat, Lc, Uc, Sf, Count, Dimen, Skip, Toks, Boxed, Par, Counter, Counters, Resets, Fresh, Label, Checkpoint, Only, Body, Toc, Matter, PageForm, PageStyle, ThisStyle, LeftMark, RightMark, CurrentLabel, Env, Style, Size, Job, Prefix, Steps, File}
use Rattle.lb_values.specs.contracts.cell.CellEq.TheImpl.Laws as the_laws

pub cell_eq-equiv : IsEquivalence cell_eq
unfolding cell_eq
cell_eq-equiv = the_laws.laws-law

pub cell_eq-refl : (c : Cell) → cell_eq c c ≡ true
cell_eq-refl c = cell_eq-equiv.refl c

-- the test says that they are the same
pub cell_eq-true : (c d : Cell) → cell_eq c d ≡ true → c ≡ d
unfolding cell_eq
cell_eq-true (Word a) (Word b) e = ap Word ((bytes_decides a b).0 e)
cell_eq-true (Counter a) (Counter b) e = ap Counter ((bytes_decides a b).0 e)
cell_eq-true (Resets a) (Resets b) e = ap Resets ((bytes_decides a b).0 e)
cell_eq-true (Label a) (Label b) e = ap Label ((bytes_decides a b).0 e)
cell_eq-true (Checkpoint a) (Checkpoint b) e = ap Checkpoint ((bytes_decides a b).0 e)
cell_eq-true (File a) (File b) e = ap File ((bytes_decides a b).0 e)
cell_eq-true (Active a) (Active b) e = ap Active (eqb-true a b e)
cell_eq-true (Cat a) (Cat b) e = ap Cat (eqb-true a b e)
cell_eq-true (Lc a) (Lc b) e = ap Lc (eqb-true a b e)
cell_eq-true (Uc a) (Uc b) e = ap Uc (eqb-true a b e)
cell_eq-true (Sf a) (Sf b) e = ap Sf (eqb-true a b e)
cell_eq-true (Count a) (Count b) e = ap Count (eqb-true a b e)
cell_eq-true (Dimen a) (Dimen b) e = ap Dimen (eqb-true a b e)
cell_eq-true (Skip a) (Skip b) e = ap Skip (eqb-true a b e)
cell_eq-true (Toks a) (Toks b) e = ap Toks (eqb-true a b e)
cell_eq-true (Boxed a) (Boxed b) e = ap Boxed (eqb-true a b e)
cell_eq-true (Par a) (Par b) e = ap Par (same_true parameter.the_type tt a b e)
cell_eq-true (Fresh a) (Fresh b) e = ap Fresh (same_true kind.the_type tt a b e)
cell_eq-true Counters Counters e = refl
cell_eq-true Only Only e = refl
cell_eq-true Body Body e = refl
cell_eq-true Toc Toc e = refl
cell_eq-true Matter Matter e = refl
cell_eq-true PageForm PageForm e = refl
cell_eq-true PageStyle PageStyle e = refl
cell_eq-true ThisStyle ThisStyle e = refl
cell_eq-true LeftMark LeftMark e = refl
cell_eq-true RightMark RightMark e = refl
cell_eq-true CurrentLabel CurrentLabel e = refl
cell_eq-true Env Env e = refl
cell_eq-true Style Style e = refl
cell_eq-true Size Size e = refl
cell_eq-true Job Job e = refl
cell_eq-true Prefix Prefix e = refl
cell_eq-true Steps Steps e = refl
cell_eq-true (Word a) _ e = cc
cell_eq-true (Counter a) _ e = cc
cell_eq-true (Resets a) _ e = cc
cell_eq-true (Label a) _ e = cc
cell_eq-true (Checkpoint a) _ e = cc
cell_eq-true (File a) _ e = cc
cell_eq-true (Active a) _ e = cc
cell_eq-true (Cat a) _ e = cc
cell_eq-true (Lc a) _ e = cc
cell_eq-true (Uc a) _ e = cc
cell_eq-true (Sf a) _ e = cc
cell_eq-true (Count a) _ e = cc
cell_eq-true (Dimen a) _ e = cc
cell_eq-true (Skip a) _ e = cc
cell_eq-true (Toks a) _ e = cc
cell_eq-true (Boxed a) _ e = cc
cell_eq-true (Par a) _ e = cc
cell_eq-true (Fresh a) _ e = cc
cell_eq-true Counters _ e = cc
cell_eq-true Only _ e = cc
cell_eq-true Body _ e = cc
cell_eq-true Toc _ e = cc
cell_eq-true Matter _ e = cc
cell_eq-true PageForm _ e = cc
cell_eq-true PageStyle _ e = cc
cell_eq-true ThisStyle _ e = cc
cell_eq-true LeftMark _ e = cc
cell_eq-true RightMark _ e = cc
cell_eq-true CurrentLabel _ e = cc
cell_eq-true Env _ e = cc
cell_eq-true Style _ e = cc
cell_eq-true Size _ e = cc
cell_eq-true Job _ e = cc
cell_eq-true Prefix _ e = cc
cell_eq-true Steps _ e = cc
