use Rattle.std.proofs.Common.{sym, ap, subst, length, ◌∙◌, arith}
use Rattle.std.specs.Cmp.Lexicographic.{nat_list_cmp_total}
use Rattle.lb_model.specs.Files.{name_cmp}
use Rattle.lb_model.specs.Places.{IsAt, IsGapFor}
use Rattle.lb_model.proofs.Places.{entries_are, get_is_find, find_at, find_gap}
use Rattle.lb_model.proofs.files.FileMap.shared.Goals as goal

pub index-requires : goal.index-requires
index-requires c = omega (arith, ap length (entries_are _ _ c.self.invariant c.self.view_is), c.in-Ok.ensures.found.in_range)

pub returns-in-Ok : goal.returns-in-Ok
returns-in-Ok c =
    let is_at = subst (λ es. IsAt name_cmp es c.args.name.now c.in-Ok.at) (entries_are _ _ c.self.invariant c.self.view_is) c.in-Ok.ensures.found in
    sym (get_is_find _ _ _ c.self.invariant c.self.view_is ∙ find_at nat_list_cmp_total _ _ _ c.self.invariant is_at _ c.index.ensures)

pub returns-in-Err : goal.returns-in-Err
returns-in-Err c =
    let gap = subst (λ es. IsGapFor name_cmp es c.args.name.now c.in-Err.field-0) (entries_are _ _ c.self.invariant c.self.view_is) c.in-Err.ensures.absent in
    sym (get_is_find _ _ _ c.self.invariant c.self.view_is ∙ find_gap nat_list_cmp_total _ _ _ gap)
