use Rattle.std.proofs.Common.{◌∙◌, [], ap, codes, false, subst, true}
use Rattle.lb_model_grammar.specs.declared.given.Scanned.TheVariants.{Found, Skip}
use Rattle.lb_model_grammar.specs.Dimensions.{length_behind}
use Rattle.lb_model_grammar.specs.Scans.{want_of}
use Rattle.lb_model_grammar.specs.Scans.Meant.{Ended}
use Rattle.lb_scan.specs.Stages.{shrink_uses, stage_after, stretch_uses, within}
use Rattle.lb_scan.proofs.WordLemmas.{letters-open}
use Rattle.lb_scan.proofs.scan.want_at.Goals as goal

pub returns-in-Plus-clause-ok : goal.returns-in-Plus-clause-ok
returns-in-Plus-clause-ok c =
    λ word all h.
    let g = c.in-Plus.field-0 in
    ap (λ s. want_of (stage_after word s all [])) c.in-Plus.is
    ∙ ap want_of
    (letters-open (codes "plus") c.in-Plus.field-1 (length_behind (stretch_uses g all) false) (Ended (Skip g) all) (subst (λ s. within word s) c.in-Plus.is h))

pub returns-in-Minus-clause-ok : goal.returns-in-Minus-clause-ok
returns-in-Minus-clause-ok c =
    λ word all h.
    let g = c.in-Minus.field-0 in
    ap (λ s. want_of (stage_after word s all [])) c.in-Minus.is
    ∙ ap want_of
    (letters-open (codes "minus") c.in-Minus.field-1 (length_behind (shrink_uses g all) false) (Ended (Skip g) all) (subst (λ s. within word s) c.in-Minus.is h))

pub returns-in-Letters-clause-ok : goal.returns-in-Letters-clause-ok
returns-in-Letters-clause-ok c =
    λ word all h.
    ap (λ s. want_of (stage_after word s all [])) c.in-Letters.is
    ∙ ap want_of (letters-open word c.in-Letters.field-0 (Ended (Found true)) (Ended (Found false) all) (subst (λ s. within word s) c.in-Letters.is h))
