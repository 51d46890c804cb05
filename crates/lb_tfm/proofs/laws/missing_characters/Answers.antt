use Rattle.std.proofs.Common.{◌≡◌, Bool, true, false, cond, Option, None, Some, refl}
use Rattle.std.specs.Prelude.{◌↔◌}
use Rattle.lb_base.specs.declared.font.Metrics.{Metrics}
use Rattle.lb_model_paper.specs.FontFiles.{exists, info_of, metrics_in}
use Rattle.lb_tfm.proofs.laws.missing_characters.Goals as goal

missing : (b : Bool) (m : Metrics) → ◌≡◌ {A = Option Metrics} (cond b (Some m) None) None ↔ (b ≡ false)
missing true m = ((λ h. absurd cc), (λ h. absurd cc))
missing false m = ((λ h. refl), (λ h. refl))

pub returns : goal.returns
returns c = λ bytes counts size code. missing (exists bytes counts code) (metrics_in bytes counts size (info_of counts code))
