use Rattle.std.proofs.Common.{◌≡◌, ◌+◌, drop, true}
use Rattle.std.specs.List.{list_any, position_or_len}
use Rattle.lb_model_paper.specs.Dvi.{int_eq}
use Rattle.lb_tfm_make.proofs.widths.width_index.Given as goal

abbrev pub invariant-loop-other : goal.invariant-loop-other
invariant-loop-other l = record {
  count : l.index ≡ l.other-index;
  later : list_any (int_eq l.width) (drop l.other-index l.widths) ≡ true;
  place : l.other-index + position_or_len (int_eq l.width) (drop l.other-index l.widths) ≡ position_or_len (int_eq l.width) l.widths;
}
