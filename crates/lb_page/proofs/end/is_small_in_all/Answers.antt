use Rattle.std.proofs.Common.{◌∙◌, ◌≤◌, subst, drop, take, length, length-drop, arith}
use Rattle.lb_page.specs.Searches.{IsJudgedAs}
use Rattle.lb_page.proofs.Ending.{right-at, small-in_all, small-last}
use Rattle.lb_page.proofs.Waiting.{slice_get-drop}
use Rattle.lb_page.proofs.end.is_small_in_all.Goals as goal

pub overflow_add-start : goal.overflow_add-start
overflow_add-start c =
    let nodes = drop c.args.start c.args.nodes.now.items in
    let s = c.args.search.now in
    let going = subst (λ st. IsJudgedAs st nodes s) c.requires.going (right-at nodes s c.requires.right) in
    omega (arith, going.within, length-drop c.args.start c.args.nodes.now.items, c.requires.start)

pub returns-in_default : goal.returns-in_default
returns-in_default c =
    let nodes = drop c.args.start c.args.nodes.now.items in
    let s = c.args.search.now in
    let going = subst (λ st. IsJudgedAs st nodes s) c.requires.going (right-at nodes s c.requires.right) in
    let past : length nodes ≤ s.at = omega (arith, length-drop c.args.start c.args.nodes.now.items, c.in_default.ensures.none) in
    small-in_all nodes s going past

pub returns : goal.returns
returns c =
    let nodes = drop c.args.start c.args.nodes.now.items in
    let s = c.args.search.now in
    let going = subst (λ st. IsJudgedAs st nodes s) c.requires.going (right-at nodes s c.requires.right) in
    let here = slice_get-drop c.args.nodes.now.items c.args.start s.at ∙ c.in-Some.ensures.item in
    c.add.ensures.small (take s.at nodes) going.so_far going.small ∙ small-last nodes s c.in-Some.node.now here c.requires.last
