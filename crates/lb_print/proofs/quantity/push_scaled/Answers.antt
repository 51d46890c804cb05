use Rattle.std.proofs.Common.{◌≡◌, ◌∙◌, ◌++◌, OnOk, ap, negsuc, subst, sym, to_z, w32}
use Rattle.std.proofs.lemmas.Int.{to_z-of_z}
use Rattle.lb_base.specs.Decimals.{scaled_text}
use Rattle.lb_print.proofs.Smallest.{smallest-text}
use Rattle.lb_print.proofs.quantity.push_scaled.Goals as goal

pub returns-then-size-eqminus2147483648 : goal.returns-then-size-eqminus2147483648
returns-then-size-eqminus2147483648 c =
    let e = c.extend_from_slice in
    let smallest : c.args.size ≡ negsuc 2147483647 = sym (to_z-of_z w32 c.args.size c.ranges.size) ∙ ap (to_z w32) c.if-size-eqminus2147483648.true in
    subst (λ s. OnOk e.result (e.new.self ≡ c.args.text.now ++ scaled_text s)) (sym smallest)
    (subst (λ t. OnOk e.result (e.new.self ≡ c.args.text.now ++ t)) (sym smallest-text) e.ensures.ok)
