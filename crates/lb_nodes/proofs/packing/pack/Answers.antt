use Rattle.std.proofs.Common.{◌≡◌, ◌≤◌, ◌<◌, subst, rules, List, map}
use Rattle.std.specs.Prelude.{Err}
use Rattle.std.proofs.lemmas.Bool.{iff_false}
use Rattle.lb_base.specs.declared.fault.Kind.TheVariants.{DimenTooLarge}
use Rattle.lb_base.specs.declared.node.Node.{Node}
use Rattle.lb_model_paper.specs.Boxes.{IsSmallBox, nesting_of_list, packs}
use Rattle.lb_model_paper.specs.Nodes.{most, nesting_of, shown}
use Rattle.lb_nodes.proofs.Packs.{packs-deep, packs-large, packs-made, past_limit, within_limit}
use Rattle.lb_nodes.proofs.packing.pack.Goals as goal

pub returns-in_default : goal.returns-in_default
returns-in_default c =
    let nodes = c.as_slice.result.now in
    let same : nodes ≡ shown c.args.list = search rules in
    let P : List Node → Type 0 = λ ns. packs c.args.axis ns c.args.target ≡ Err DimenTooLarge in
    subst P same (packs-large c.args.axis nodes c.args.target c.in_default.ensures.large)

pub returns-then-not-nests_within : goal.returns-then-not-nests_within
returns-then-not-nests_within c =
    let nodes = c.as_slice.result.now in
    let same : nodes ≡ shown c.args.list = search rules in
    let again : c.as_slice-2.result.now ≡ shown c.args.list = search rules in
    let small : IsSmallBox c.args.axis (shown c.args.list) c.args.target = subst (λ (ns : List Node). IsSmallBox c.args.axis ns c.args.target) same c.in-Some.ensures.small in
    let more = past_limit (most (map nesting_of c.as_slice-2.result.now)) (iff_false c.nests_within.ensures c.if-not-nests_within.true) in
    packs-deep c.args.axis (shown c.args.list) c.args.target small (subst (λ (ns : List Node). 500 < nesting_of_list ns) again more)

pub returns : goal.returns
returns c =
    let nodes = c.as_slice.result.now in
    let same : nodes ≡ shown c.args.list = search rules in
    let again : c.as_slice-2.result.now ≡ shown c.args.list = search rules in
    let small : IsSmallBox c.args.axis (shown c.args.list) c.args.target = subst (λ (ns : List Node). IsSmallBox c.args.axis ns c.args.target) same c.in-Some.ensures.small in
    let flat = within_limit (most (map nesting_of c.as_slice-2.result.now)) (c.nests_within.ensures.0 c.if-not-nests_within.false) in
    packs-made c.args.axis (shown c.args.list) c.args.target _ small (subst (λ (ns : List Node). nesting_of_list ns ≤ 500) again flat) (search rules)
