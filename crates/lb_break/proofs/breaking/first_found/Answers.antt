use Rattle.std.proofs.Common.{◌≡◌, IfOk, w32, FitsSigned, sym, subst, rules}
use Rattle.std.proofs.lemmas.Int.{to_z-of_z}
use Rattle.lb_measure.specs.Measures.{paragraph_in}
use Rattle.lb_break.proofs.Found.{first-not, first-taken}
use Rattle.lb_break.proofs.breaking.first_found.Goals as goal

pub returns-then-measured-lt0 : goal.returns-then-measured-lt0
returns-then-measured-lt0 c =
    let fits : FitsSigned w32 c.args.measured.now.shape.rules.pretolerance = search rules in
    first-not c.args.measured.now.shape.rules.pretolerance _ (paragraph_in c.args.measured.now) (to_z-of_z w32 c.args.measured.now.shape.rules.pretolerance fits) c.if-measured-lt0.true

pub returns : goal.returns
returns c =
    let fits : FitsSigned w32 c.args.measured.now.shape.rules.pretolerance = search rules in
    subst (λ b. IfOk c.found_in.result (λ found. b ≡ found))
    (sym (first-taken c.args.measured.now.shape.rules.pretolerance _ (paragraph_in c.args.measured.now) (to_z-of_z w32 c.args.measured.now.shape.rules.pretolerance fits) c.if-measured-lt0.false)) c.found_in.ensures
