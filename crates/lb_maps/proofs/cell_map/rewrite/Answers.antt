use Rattle.std.proofs.Common.{◌∙◌, ap, sym, true≢false}
use Rattle.std.specs.Prelude.{is_some}
use Rattle.std.specs.Option.{option_copied_mut}
use Rattle.lb_values.specs.Cells.{cell_eq}
use Rattle.lb_maps.specs.CellMap.{at}
use Rattle.lb_maps.proofs.cell_map.rewrite.Goals as goal

pub unreachable-requires : goal.unreachable-requires
unfolding at cell_eq
unreachable-requires g c = true≢false (sym c.requires ∙ ap is_some (sym c.get_mut.ensures.value ∙ ap option_copied_mut c.in-None.is))

pub returns : goal.returns
unfolding at cell_eq
returns g c = λ i q. ((c.get_mut.follows.holds c.args.value).3 c.requires).0 q i
