use Rattle.std.proofs.Common.{◌∙◌, ap, sym}
use Rattle.lb_model_grammar.specs.Dimensions.{meant}
use Rattle.lb_model_grammar.specs.Scans.{after_of}
use Rattle.lb_scan.specs.Scanning.{Scanning}
use Rattle.lb_scan.specs.Stages.{word_of}
use Rattle.lb_scan.proofs.OpenLemmas.{unended}
use Rattle.lb_scan.proofs.scan.Scan.give_back.Goals as goal

pub returns : goal.returns
returns c =
    let s = c.self.inside in
    c.into_none.ensures
    ∙ sym
    (
    ap (λ (v : Scanning). after_of (meant v.kind v.given)) (sym c.self.view_is)
    ∙ ap after_of c.self.invariant.now
    ∙ (unended (word_of s.kind) s.stage s.kept c.self.invariant.within c.in_default.not-Over).after
    )
