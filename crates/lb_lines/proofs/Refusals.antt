-- Why a line is not packed.
use Rattle.std.proofs.Common.{◌≡◌, ◌⊎◌, inl, inr, Bool, true, false, if◌then◌else◌, List, Ok, Err, Result, ap}
use Rattle.lb_base.specs.Answers.{Answers}
use Rattle.lb_base.specs.declared.fault.Kind.{Kind}
use Rattle.lb_base.specs.declared.fault.Kind.TheVariants.{DepthLimit, DimenTooLarge}
use Rattle.lb_base.specs.declared.fault.Stop.{Stop}
use Rattle.lb_base.specs.declared.fault.Stop.TheVariants.{At, Fault, Memory}
use Rattle.lb_base.specs.declared.glue.Target.{Target}
use Rattle.lb_base.specs.declared.node.Axis.{Axis}
use Rattle.lb_base.specs.declared.node.Boxed.{Boxed}
use Rattle.lb_base.specs.declared.node.Node.{Node}
use Rattle.lb_model_paper.specs.Boxes.{packed, packs}
use Rattle.lb_model_paper.specs.Lines.{boxed_line}
use Rattle.lb_lines.specs.Sets.{IsRefusal, IsRefused}

by_tests : (large deep : Bool) (box : Boxed) (kind : Kind) → (if large then Err DimenTooLarge else if deep then Err DepthLimit else Ok box) ≡ Err kind → (kind ≡ DimenTooLarge) ⊎ (kind ≡ DepthLimit)
by_tests true deep box kind is = inl (let e : kind ≡ DimenTooLarge = cc in e)
by_tests false true box kind is = inr (let e : kind ≡ DepthLimit = cc in e)
by_tests false false box kind is = absurd (cc)

packs_kinds : (axis : Axis) (nodes : List Node) (target : Target) (kind : Kind) → packs axis nodes target ≡ Err kind → (kind ≡ DimenTooLarge) ⊎ (kind ≡ DepthLimit)
unfolding packs
packs_kinds axis nodes target kind is = by_tests _ _ (packed axis nodes target) kind is

pub refusal : (axis : Axis) (nodes : List Node) (target : Target) (stop : Stop) → Answers {T = Boxed} (packs axis nodes target) (Err stop) → IsRefusal stop
refusal axis nodes target Memory is = is
refusal axis nodes target (Fault kind) is = packs_kinds axis nodes target kind is
refusal axis nodes target (At fault) is = is

pub refused-line : (meant : Result Boxed Kind) (behind : List Node) (stop : Stop) → Answers {T = Boxed} meant (Err stop) → IsRefused (boxed_line meant behind) stop
refused-line meant behind Memory is = is
refused-line meant behind (Fault kind) is = ap (λ (r : Result Boxed Kind). boxed_line r behind) is
refused-line meant behind (At fault) is = absurd is
