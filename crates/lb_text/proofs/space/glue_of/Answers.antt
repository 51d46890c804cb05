use Rattle.std.proofs.Common.{◌≡◌, pos, ◌*ℤ◌, rules, w64, to_z, of_z, int_div}
use Rattle.lb_model_paper.specs.Words.{space_width}
use Rattle.lb_text.proofs.Glues.{told_of}
use Rattle.lb_text.proofs.space.glue_of.Goals as goal

pub returns : goal.returns
returns c =
    let w : to_z w64 (of_z w64 c.width-width.result) ≡ space_width c.args.font.space c.args.font.extra_space c.args.factor = search rules in
    let t : to_z w64 (of_z w64 c.thousandths-stretch.result) ≡ int_div (c.args.font.stretch *ℤ c.args.factor) (pos 1000) = search rules in
    let s : to_z w64 (of_z w64 c.by_thousandths-shrink.result) ≡ int_div (c.args.font.shrink *ℤ pos 1000) c.args.factor = search rules in
    told_of _ _ _ _ _ _ _ w t s c.small_glue.ensures
