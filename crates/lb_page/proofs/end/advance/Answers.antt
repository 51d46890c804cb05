use Rattle.std.proofs.Common.{◌∙◌, ◌++◌, [], drop, length-append, length-drop, subst, arith}
use Rattle.std.proofs.lemmas.Option.{slice_get_within}
use Rattle.lb_page.specs.Searches.{IsJudgedAs}
use Rattle.lb_page.proofs.Ending.{right-at}
use Rattle.lb_page.proofs.end.advance.Goals as goal

pub next_of-requires : goal.next_of-requires
next_of-requires c =
    let nodes = drop c.args.start c.args.nodes.now.items in
    let s = c.items.search in
    let going = subst (λ st. IsJudgedAs st nodes s) (c.is_going.ensures.0 c.items-test.true) (right-at nodes s c.items.invariant.right) in
    record { room = omega (arith, going.within, length-drop c.args.start c.args.nodes.now.items, c.requires.start) }

pub step-requires-clause-room : goal.step-requires-clause-room
step-requires-clause-room c =
    let nodes = drop c.args.start c.args.nodes.now.items in
    let s = c.items.search in
    let going = subst (λ st. IsJudgedAs st nodes s) (c.is_going.ensures.0 c.items-test.true) (right-at nodes s c.items.invariant.right) in
    omega (arith, going.within, length-drop c.args.start c.args.nodes.now.items, c.requires.start)

pub items-preserved : goal.items-preserved
items-preserved c =
    let nodes = drop c.args.start c.args.nodes.now.items in
    let s = c.items.search in
    record {
      ready = c.step.ensures.ready;
      right = λ more. c.step.ensures.search (nodes ++ more) (subst (λ st. IsJudgedAs st (nodes ++ more) s) (c.is_going.ensures.0 c.items-test.true) (c.items.invariant.right more)) (c.in-Some.ensures.next more);
      rules = c.step.ensures.rules ∙ c.items.invariant.rules;
    }

pub items-smaller : goal.items-smaller
items-smaller c =
    let nodes = drop c.args.start c.args.nodes.now.items in
    let next = c.in-Some.ensures.next [] in
    let within = slice_get_within (nodes ++ []) c.items.search.at c.in-Some.node.now next.item in
    omega (arith, within, length-append nodes [], c.step.ensures.at)
