use Rattle.std.proofs.Common.{◌≡◌, ◌∙◌, ◌++◌, ◌∷◌, [], Some, None, ap, sym}
use Rattle.std.specs.Prelude.{is_some}
use Rattle.lb_values.specs.Kept.{put}
use Rattle.lb_maps.specs.CellMap.{at, held_now}
use Rattle.lb_maps.proofs.Tabled.{at-snoc}
use Rattle.lb_maps.proofs.Entries.{keeps-more, last_there}
use Rattle.lb_cells.specs.StateCells.{written_over}
use Rattle.lb_cells.proofs.Overlaid.{nothing-over, write-taken}
use Rattle.lb_cells.proofs.overlays.overwrite_all.Goals as goal

pub write_one-requires : goal.write_one-requires
write_one-requires c =
    c.loop-cell.invariant.there c.in-Some.cell (ap (λ w. is_some (at w c.in-Some.cell)) c.in-Some.ensures.last ∙ last_there c.pop.new.self (c.in-Some.cell, c.in-Some.write))

pub loop-cell-preserved : goal.loop-cell-preserved
loop-cell-preserved c =
    let left = c.pop.new.self in
    let all = c.loop-cell.writes in
    let popped : all ≡ left ++ (c.in-Some.cell, c.in-Some.write) ∷ [] = c.in-Some.ensures.last in
    let is : at all ≡ put c.in-Some.cell (Some c.in-Some.write) (at left) = ap at popped ∙ at-snoc left (c.in-Some.cell, c.in-Some.write) c.in-Some.ensures.alone in record {
      there = λ q h. c.write_one.ensures.keeps q (c.loop-cell.invariant.there q (ap (λ w. is_some (at w q)) popped ∙ keeps-more left (c.in-Some.cell, c.in-Some.write) q h));
      now = write-taken all left c.in-Some.cell c.in-Some.write c.loop-cell.over.entries c.write_one.new.over.entries c.in-Some.ensures.alone is c.write_one.ensures.now ∙ c.loop-cell.invariant.now;
      saves = c.write_one.ensures.saves ∙ c.loop-cell.invariant.saves;
    }

pub returns-clause-now : goal.returns-clause-now
returns-clause-now c =
    let old = c.loop-cell.over.entries in
    let empty : c.loop-cell.writes ≡ [] = c.in_default.ensures.last.0 in
    sym (ap (λ w. written_over (held_now None w) (held_now None old)) empty ∙ nothing-over old) ∙ c.loop-cell.invariant.now
