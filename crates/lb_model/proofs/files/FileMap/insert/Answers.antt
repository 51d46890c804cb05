use Rattle.std.proofs.Common.{◌≡◌, ap, subst, length, set, ◌∙◌, arith}
use Rattle.std.specs.Cmp.Lexicographic.{nat_list_cmp_total}
use Rattle.std.specs.FinMap as map
use Rattle.lb_model.specs.Files.{name_cmp}
use Rattle.lb_model.specs.Places.{IsAt, IsGapFor}
use Rattle.lb_model.proofs.Places.{entries_are, sorted_put, from_sorted_put, put_set, put_insert}
use Rattle.lb_model.proofs.files.FileMap.insert.Goals as goal

pub index_mut-requires : goal.index_mut-requires
index_mut-requires c = omega (arith, ap length (entries_are _ _ c.self.invariant c.self.view_is), c.in-Ok.ensures.found.in_range)

pub insert-requires : goal.insert-requires
insert-requires c = omega (arith, ap length (entries_are _ _ c.self.invariant c.self.view_is), c.in-Err.ensures.absent.in_range)

-- the name was there, and its bytes are written over
written : (c : goal.After-drop-name-inside) → set c.self.inside.files.items c.in-Ok.at (c.index_mut.result.now.0, c.args.bytes) ≡ map.put name_cmp c.args.name c.args.bytes c.self.inside.files.items
written c =
    let is_at = subst (λ es. IsAt name_cmp es c.args.name c.in-Ok.at) (entries_are _ _ c.self.invariant c.self.view_is) c.in-Ok.ensures.found in
    put_set nat_list_cmp_total _ _ _ _ c.self.invariant is_at _ c.index_mut.ensures.value

pub invariant_of-self : goal.invariant_of-self
invariant_of-self c = ap (map.is_sorted name_cmp) (written c) ∙ sorted_put nat_list_cmp_total c.self.inside.files.items c.args.name c.args.bytes c.self.invariant

pub returns-in-Ok-clause-ok : goal.returns-in-Ok-clause-ok
returns-in-Ok-clause-ok c = ap map.from_sorted (written c) ∙ from_sorted_put nat_list_cmp_total _ _ _ c.self.invariant c.self.view_is

-- the file is added in the gap
added : (c : goal.In_ok-insert-in-Err) → c.insert.new.self.items ≡ map.put name_cmp c.args.name c.args.bytes c.self.inside.files.items
added c =
    let gap = subst (λ es. IsGapFor name_cmp es c.args.name c.in-Err.at) (entries_are _ _ c.self.invariant c.self.view_is) c.in-Err.ensures.absent in
    c.in_ok-insert-in-Err.ensures.items ∙ put_insert nat_list_cmp_total _ _ _ _ gap

pub invariant_of-self-in-Continue-1 : goal.invariant_of-self-in-Continue-1
invariant_of-self-in-Continue-1 c = ap (map.is_sorted name_cmp) (added c) ∙ sorted_put nat_list_cmp_total c.self.inside.files.items c.args.name c.args.bytes c.self.invariant

pub returns-in_ok-insert-in-Err-clause-ok : goal.returns-in_ok-insert-in-Err-clause-ok
returns-in_ok-insert-in-Err-clause-ok c = ap map.from_sorted (added c) ∙ from_sorted_put nat_list_cmp_total _ _ _ c.self.invariant c.self.view_is
