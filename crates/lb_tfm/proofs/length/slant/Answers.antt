use Rattle.std.proofs.Common.{w32, rules}
use Rattle.std.specs.Int.Signed.{shr_z}
use Rattle.std.proofs.lemmas.Int.{to_z-of_z}
use mir.Val.{SFits, to_z}
use Rattle.lb_model_paper.specs.FontFiles.{slant}
use Rattle.lb_tfm.proofs.Lengths.{shifted_fits, shifted_is}
use Rattle.lb_tfm.proofs.length.slant.Goals as goal

pub returns : goal.returns
unfolding slant
returns c =
    let fits : SFits w32 c.cast_signed.result = search rules in
    rw (to_z-of_z w32 c.cast_signed.result fits, to_z-of_z w32 (shr_z c.cast_signed.result 16) (shifted_fits c.cast_signed.result fits))
    (rw c.cast_signed.ensures (shifted_is (to_z w32 c.args.word)))
