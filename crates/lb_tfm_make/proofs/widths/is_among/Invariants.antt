use Rattle.std.proofs.Common.{◌≡◌, drop}
use Rattle.std.specs.List.{list_any}
use Rattle.lb_model_paper.specs.Dvi.{int_eq}
use Rattle.lb_tfm_make.proofs.widths.is_among.Given as goal

abbrev pub invariant-loop-other : goal.invariant-loop-other
invariant-loop-other l = list_any (int_eq l.width) (drop l.other-index l.widths) ≡ list_any (int_eq l.width) l.widths
