use Rattle.std.proofs.Common.{rules, ◌≡◌, ◌∙◌, None, Some, refl, sym}
use Rattle.lb_model_nest.specs.Words.{character_put}
use Rattle.lb_nest.specs.Fonts.{put_row}
use Rattle.lb_nest.specs.Views.{whole}
use Rattle.lb_nest.proofs.LeadsLemmas.{leads-after, leads-behind, same-left}
use Rattle.lb_nest.proofs.WordLemmas.{font-leads, font-stops, kept-some}
use Rattle.lb_nest.proofs.words.put_character.Goals as goal

pub returns-in-Font : goal.returns-in-Font
returns-in-Font g c =
    let a = c.args in
    let n = a.nest.now in
    let row = put_row a.code in
    let taken : c.take.new.self ≡ None = search rules in
    let kept : n.font ≡ None = search rules in
    record {
      goes =
          λ left.
          leads-behind c.put_with-in-Font.result (λ w p k o. λ i. character_put a.code (whole w p k a.groups.now left (record n { font = (kept ∙ sym taken) i })))
          (font-leads row c.in-Font.font c.put_with-in-Font.result c.in-Font.is taken (c.in_ok-font.ensures.leads row left) (c.put_with-in-Font.ensures.goes left));
    }

pub returns-in-Stops : goal.returns-in-Stops
returns-in-Stops g c =
    let a = c.args in
    let n = a.nest.now in
    let row = put_row a.code in
    let taken : c.take.new.self ≡ None = search rules in
    let kept : n.font ≡ None = search rules in
    record {
      goes =
          λ left.
          leads-behind _ (λ w p k o. λ i. character_put a.code (whole w p k a.groups.now left (record n { font = (kept ∙ sym taken) i })))
          (font-stops row c.in-Stops.went c.in-Stops.is taken (c.in_ok-font.ensures.leads row left));
    }

pub returns-in-Some : goal.returns-in-Some
returns-in-Some g c =
    let a = c.args in
    let n = a.nest.now in
    let kept : n.font ≡ Some c.in-Some.font = search rules in
    record {
      goes = λ left. leads-after c.put_with.result (λ p h. h) (kept-some g.C.Cells a.code c.in-Some.font a.cells.now a.groups.now left n c.take.new.self kept) (same-left left) refl refl (c.put_with.ensures.goes left);
    }

pub put_with-requires-in-Font : goal.put_with-requires-in-Font
put_with-requires-in-Font g c = record { keeps = (c.in_ok-font.ensures.leads (put_row c.args.code) 0).keeps }
