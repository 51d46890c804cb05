-- The values of cells may cross threads.
use denote.Param.Send.{sendable, IsSend, IsSync, recorded_send, recorded_sync, enum_send, enum_sync}
use denote.Enum.Declared as E
use Rattle.std.proofs.Crossing.{crosses}
use Rattle.lb_base.proofs.node.HeadMark.TheLaws.TheKnot as knot
use Rattle.lb_base.proofs.listed.Listed.TheSendSync as listed
use Rattle.lb_base.proofs.name.Name.TheSendSync as name
use Rattle.lb_base.proofs.token.Tok.TheSendSync as tok
use Rattle.lb_base.proofs.token.Category.TheSendSync as category
use Rattle.lb_base.proofs.glue.Glue.TheSendSync as glue
use Rattle.lb_base.proofs.font.Metrics.TheSendSync as metrics
use Rattle.lb_base.proofs.glue.GlueSet.TheSendSync as glue_set
use Rattle.lb_base.proofs.node.Axis.TheSendSync as axis
use Rattle.lb_base.proofs.node.KernOrigin.TheSendSync as origin
use Rattle.lb_base.proofs.node.Ligature.TheSendSync as ligature
use Rattle.lb_base.proofs.node.Note.TheSendSync as note
use Rattle.lb_base.proofs.node.RuleSize.TheSendSync as rule
use Rattle.lb_base.proofs.page.FontId.TheSendSync as font
use Rattle.sqlite_items.proofs.boxed.Boxed.TheSendSync as held
use Rattle.sqlite_items.proofs.items.Items.TheSendSync as items
use Rattle.lb_base.specs.contracts.node.Boxed as Boxed
use Rattle.lb_values.proofs.shared.Shared.TheSendSync as shared
use Rattle.lb_values.proofs.meaning.Meaning.TheSendSync as meaning
use Rattle.lb_values.proofs.cell.Cell.TheSendSync as cell
use Rattle.lb_maps.proofs.cell_map.CellMap.TheSendSync as map
use Rattle.lb_maps.proofs.kept_map.KeptMap.TheSendSync as kept
use Rattle.lb_values.proofs.value.LabelPair.TheSendSync as label
use Rattle.lb_values.proofs.value.Form.TheSendSync as form
use Rattle.lb_values.proofs.value.PageStyle.TheSendSync as style
use Rattle.lb_values.specs.contracts.value.Value as Value

pub boxed_send : IsSend Boxed.the_row
boxed_send = search (metrics.the_field_send, glue.the_field_send, glue_set.the_field_send, axis.the_field_send, origin.the_field_send, rule.the_field_send, font.the_field_send, ligature.the_send, note.the_send, held.the_send, items.the_send, crosses, knot.crosses, sendable) depth 60 fits 20000

pub boxed_sync : IsSync Boxed.the_row
boxed_sync = search (metrics.the_field_sync, glue.the_field_sync, glue_set.the_field_sync, axis.the_field_sync, origin.the_field_sync, rule.the_field_sync, font.the_field_sync, ligature.the_sync, note.the_sync, held.the_sync, items.the_sync, crosses, knot.crosses, sendable) depth 60 fits 20000

pub value_field_send : IsSend Value.the_field.row
value_field_send = enum_send (E.shape Value.the_type) (search (boxed_send, boxed_sync, meaning.the_field_send, shared.the_send, listed.the_send, listed.the_sync, tok.the_send, tok.the_sync, name.the_send, name.the_sync, label.the_send, label.the_sync, category.the_field_send, glue.the_field_send, form.the_field_send, style.the_field_send, sendable) depth 40)

pub value_send : IsSend Value.the_row
value_send = recorded_send _ _ _ Value.the_type.to_one value_field_send

pub value_field_sync : IsSync Value.the_field.row
value_field_sync = enum_sync (E.shape Value.the_type) (search (boxed_send, boxed_sync, meaning.the_field_sync, shared.the_sync, listed.the_send, listed.the_sync, tok.the_send, tok.the_sync, name.the_send, name.the_sync, label.the_send, label.the_sync, category.the_field_sync, glue.the_field_sync, form.the_field_sync, style.the_field_sync, sendable) depth 40)

pub value_sync : IsSync Value.the_row
value_sync = recorded_sync _ _ _ Value.the_type.to_one value_field_sync

pub ruleset values = (value_send, value_sync, value_field_send, value_field_sync, cell.the_send, cell.the_sync, cell.the_field_send, cell.the_field_sync, map.the_send, map.the_sync, kept.the_send, kept.the_sync)
