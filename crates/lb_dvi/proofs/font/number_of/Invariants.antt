use Rattle.std.proofs.Common.{◌≡◌, ℕ, ◌<◌, false, get_or}
use Rattle.lb_base.specs.declared.page.FontId.{FontId}
use Rattle.lb_model_paper.specs.Dvi.{same_font}
use Rattle.lb_dvi.proofs.font.number_of.Given as goal

-- no font before this one is the font
abbrev pub invariant-loop-number : goal.invariant-loop-number
invariant-loop-number l = (k : ℕ) (d : FontId) → k < l.number → same_font l.font (get_or l.fonts k d) ≡ false
