use Rattle.std.proofs.Common.{◌≡◌, ◌∙◌, ◌+◌, ap, sym, suc, drop, length, length-drop, arith}
use Rattle.std.proofs.lemmas.Option.{slice_get_within}
use Rattle.std.specs.Prelude.{slice_get}
use Rattle.lb_page.proofs.Waiting.{IsLast-waits, IsNext-any, IsNext-known, slice_get-drop}
use Rattle.lb_page.proofs.end.next_of.Goals as goal

pub returns-then-waits-clause-last : goal.returns-then-waits-clause-last
returns-then-waits-clause-last c =
    let items = c.args.nodes.now.items in
    let here = slice_get-drop items c.args.start c.args.at ∙ c.in-Some.ensures.item in
    let within = slice_get_within (drop c.args.start items) c.args.at _ here in
    let end : suc c.args.at ≡ length (drop c.args.start items) = omega (arith, length-drop c.args.start items, within, c.in_default-node_at.ensures.none) in
    IsLast-waits (drop c.args.start items) c.args.at c.in-Some.node.now here (sym c.waits.ensures ∙ c.if-waits.true) end

pub returns-else-waits-clause-next : goal.returns-else-waits-clause-next
returns-else-waits-clause-next c = λ more.
    let items = c.args.nodes.now.items in
    let here = slice_get-drop items c.args.start c.args.at ∙ c.in-Some.ensures.item in
    IsNext-any (drop c.args.start items) more c.args.at c.in-Some.node.now here (sym c.waits.ensures ∙ c.if-waits.false) (slice_get_within (drop c.args.start items) c.args.at _ here)

pub returns-clause-next : goal.returns-clause-next
returns-clause-next c = λ more.
    let items = c.args.nodes.now.items in
    let here = slice_get-drop items c.args.start c.args.at ∙ c.in-Some.ensures.item in
    let same : c.args.start + suc c.args.at ≡ c.args.start + c.args.at + 1 = omega arith in
    let behind = slice_get-drop items c.args.start (suc c.args.at) ∙ ap (slice_get items) same ∙ c.in-Some-node_at.ensures.item in
    IsNext-known (drop c.args.start items) more c.args.at c.in-Some.node.now c.in-Some-node_at.next.now _ here behind c.is_glue.ensures (slice_get_within (drop c.args.start items) c.args.at _ here) (slice_get_within (drop c.args.start items) (suc c.args.at) _ behind)
