use Rattle.std.proofs.Common.{◌∙◌, ap, sym, is_some}
use Rattle.lb_maps.proofs.Tabled.{held-none, after-hash, no-slots-put}
use Rattle.lb_maps.proofs.cell_map.CellMap.replace.Goals as goal

pub rewrite-requires : goal.rewrite-requires
rewrite-requires g c =
    let map = c.self.inside in
    ap is_some (sym (held-none map.slots.items map.map.entries c.args.self.now c.args.cell.now c.self.invariant.0 c.self.invariant.1 c.self.view_is c.in-None.ensures)) ∙ c.requires

pub invariant_of-self : goal.invariant_of-self
invariant_of-self g c =
    (c.self.invariant.0, no-slots-put c.self.inside.map.entries c.rewrite.new.map.entries c.args.cell.now c.args.value c.in-None.ensures c.rewrite.ensures c.self.invariant.1)

pub returns-in-None : goal.returns-in-None
returns-in-None g c =
    let map = c.self.inside in
    after-hash map.slots.items map.map.entries c.rewrite.new.map.entries c.args.self.now c.args.cell.now c.args.value c.self.invariant.0 c.self.invariant.1 c.self.view_is c.in-None.ensures c.rewrite.ensures
