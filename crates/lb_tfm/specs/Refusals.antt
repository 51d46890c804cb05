-- When a font is refused.
use Rattle.std.specs.Prelude.{◌≡◌, ℕ, List, None, Some}
use Rattle.lb_model_paper.specs.FontRules.{first_broken}
use Rattle.lb_tfm.specs.declared.stop.TfmStop.{TfmStop}
use Rattle.lb_tfm.specs.declared.stop.TfmStop.TheVariants.{Memory, Bad}

-- for want of memory where the file keeps every rule, and otherwise for the first rule that it breaks
abbrev pub IsRefusal : List ℕ → TfmStop → Type 0
IsRefusal bytes Memory = first_broken bytes ≡ None
IsRefusal bytes (Bad rule word) = first_broken bytes ≡ Some (rule, word)
