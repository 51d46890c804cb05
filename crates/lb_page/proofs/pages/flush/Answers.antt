use Rattle.std.proofs.Common.{◌∙◌}
use Rattle.lb_page.proofs.Planning.{all-fault, all-parts, closed-is}
use Rattle.lb_page.proofs.pages.flush.Goals as goal

pub returns-in-Ok-clause-parts : goal.returns-in-Ok-clause-parts
returns-in-Ok-clause-parts c =
    let closed = closed-is c.reserve.new.self.items c.push_back_reserved.new.self.items c.push_back_reserved-2.new.self.items c.args.page.now c.push_back_reserved.ensures.items c.push_back_reserved-2.ensures.items (c.in_ok-reserve.ensures.items ∙ c.page.view_is) in
    all-parts c.args.rules.now c.args.page.now _ _ _ closed c.in-Ok.ensures.ends (c.from_vec.ensures ∙ c.give_all-parts.ensures)

pub returns-in-Err-clause-parts : goal.returns-in-Err-clause-parts
returns-in-Err-clause-parts c =
    let closed = closed-is c.reserve.new.self.items c.push_back_reserved.new.self.items c.push_back_reserved-2.new.self.items c.args.page.now c.push_back_reserved.ensures.items c.push_back_reserved-2.ensures.items (c.in_ok-reserve.ensures.items ∙ c.page.view_is) in
    all-fault c.args.rules.now c.args.page.now _ c.in-Err.stop closed c.in-Err.ensures.err
