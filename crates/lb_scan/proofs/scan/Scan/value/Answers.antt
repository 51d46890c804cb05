use Rattle.std.proofs.Common.{◌∙◌, ap, sym}
use Rattle.lb_model_grammar.specs.Dimensions.{meant}
use Rattle.lb_model_grammar.specs.Scans.{value_of}
use Rattle.lb_scan.specs.Scanning.{Scanning}
use Rattle.lb_scan.specs.Stages.{word_of}
use Rattle.lb_scan.proofs.OpenLemmas.{unended}
use Rattle.lb_scan.proofs.scan.Scan.value.Goals as goal

pub returns-in_default : goal.returns-in_default
returns-in_default c =
    let s = c.self.inside in
    sym
    (
    ap (λ (v : Scanning). value_of (meant v.kind v.given)) (sym c.self.view_is)
    ∙ ap value_of c.self.invariant.now
    ∙ (unended (word_of s.kind) s.stage s.kept c.self.invariant.within c.in_default.not-Over).value
    )
