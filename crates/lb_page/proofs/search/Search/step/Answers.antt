use Rattle.std.proofs.Common.{refl, add-one, take}
use Rattle.std.proofs.lemmas.Bool.{OnTrue_at}
use Rattle.lb_page.proofs.Stepping.{IsJudged-by, IsReady-by}
use Rattle.lb_page.proofs.search.Search.step.Goals as goal

pub returns-clause-search : goal.returns-clause-search
returns-clause-search c = λ nodes going next.
    let s = c.args.self.now in
    let place = c.place-place.ensures nodes going next in
    let front = take s.at nodes in
    IsJudged-by nodes s _ c.args.node.now c.place-place.result c.add-is_small.result c.ends_in.result c.state_of-self.ensures going next.item place
    (c.better-self.ensures s.rules nodes s.at going.best place) refl (add-one s.at) c.ends_in.ensures (c.add-is_small.ensures.small front going.so_far going.small)
    (λ yes. OnTrue_at yes c.add-is_small.ensures.so_far front going.so_far)

pub returns-clause-ready : goal.returns-clause-ready
returns-clause-ready c = IsReady-by c.add-is_small.result c.ends_in.result _ c.state_of-self.ensures c.add-is_small.ensures.ready
