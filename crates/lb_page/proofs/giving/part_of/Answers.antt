use Rattle.std.proofs.Common.{◌∙◌, w64, FitsSigned, rules as small_numbers}
use Rattle.std.proofs.lemmas.Int.{to_z-of_z}
use Rattle.lb_page.proofs.Given.{part-is}
use Rattle.lb_page.proofs.giving.part_of.Goals as goal

pub returns : goal.returns
returns c = λ rules front filled page.
    let fits : FitsSigned w64 c.args.cut.now.goal = search small_numbers in
    part-is rules front c.args.filling c.args.cut.now _ _ _ filled page (c.from_vec.ensures ∙ c.close.ensures) c.from_vec-2.ensures (to_z-of_z w64 c.args.cut.now.goal fits)
