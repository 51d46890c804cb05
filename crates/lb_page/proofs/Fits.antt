-- How badly a page fits.
use Rattle.std.proofs.Common.{◌≡◌, ◌∙◌, ap, sym, Bool, true, false, ℤ, pos, neg_ℤ, Option, None, Some, if◌then◌else◌}
use Rattle.std.specs.Int.{is_negative}
use Rattle.std.specs.Prelude.{int_lt}
use Rattle.lb_base.specs.Badness.{badness_of}
use Rattle.lb_base.specs.declared.glue.Order.{Order}
use Rattle.lb_base.specs.declared.glue.Order.TheVariants.{Finite}
use Rattle.lb_model_paper.specs.Pages.{badness_to, shrink_in_all, stretches_without_end}

pub badness_to-shrinking : (excess by s : ℤ) (stretch shrink : Order → ℤ) (r : Option ℤ) → is_negative excess ≡ true → by ≡ neg_ℤ excess → s ≡ shrink_in_all shrink → r ≡ (if int_lt s by then None else Some (pos (badness_of by s))) → r ≡ badness_to excess stretch shrink
unfolding badness_to
badness_to-shrinking excess by s stretch shrink r negative b h is =
    is
    ∙ ap (λ (z : ℤ). if int_lt s z then None else Some (pos (badness_of z s))) b
    ∙ ap (λ (z : ℤ). if int_lt z (neg_ℤ excess) then None else Some (pos (badness_of (neg_ℤ excess) z))) h
    ∙ ap (λ (c : Bool). if c then (if int_lt (shrink_in_all shrink) (neg_ℤ excess) then None else Some (pos (badness_of (neg_ℤ excess) (shrink_in_all shrink)))) else if stretches_without_end stretch then Some (pos 0) else Some (pos (badness_of excess (stretch Finite)))) (sym negative)

pub badness_to-stretching : (excess : ℤ) (stretch shrink : Order → ℤ) (r : Option ℤ) → is_negative excess ≡ false → r ≡ (if stretches_without_end stretch then Some (pos 0) else Some (pos (badness_of excess (stretch Finite)))) → r ≡ badness_to excess stretch shrink
unfolding badness_to
badness_to-stretching excess stretch shrink r positive is =
    is ∙ ap (λ (c : Bool). if c then (if int_lt (shrink_in_all shrink) (neg_ℤ excess) then None else Some (pos (badness_of (neg_ℤ excess) (shrink_in_all shrink)))) else if stretches_without_end stretch then Some (pos 0) else Some (pos (badness_of excess (stretch Finite)))) (sym positive)
