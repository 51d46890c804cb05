use Rattle.std.proofs.Common.{rules, ◌≡◌, ◌+◌, ◌-◌, reverse, Some, None, length, ap, sym, subst, refl}
use Rattle.std.specs.Prelude.{slice_set}
use Rattle.lb_model.specs.declared.place.Got.TheVariants.{Fault as GotFault}
use Rattle.lb_model.specs.declared.reading.Read.TheVariants as read
use Rattle.lb_model.specs.Tokens.{categories}
use Rattle.lb_tokens.specs.declared.source.Layer.{Layer}
use Rattle.lb_tokens.specs.Layers.{SourceGave, texts_of}
use Rattle.lb_tokens.specs.Texts.{TextGave, read_of}
use Rattle.lb_tokens.proofs.LayerLemmas.{layer_ends, layer_gives, layer_pending, layer_stands, layer_texts}
use Rattle.lb_tokens.proofs.Stops.{may_stop}
use Rattle.lb_tokens.proofs.source.read_last.Goals as goal

pub returns-in_err-place_at-in-Ok-Some-clause-texts : goal.returns-in_err-place_at-in-Ok-Some-clause-texts
returns-in_err-place_at-in-Ok-Some-clause-texts g c =
    let x = c.index_mut-layer.result.now in
    let y : Layer = record { text = c.next.new.self; under = c.index_mut-layer.result.now.under } in
    let long : length c.args.layers.now.items ≡ c.len-last.result - 1 + 1 = search rules in
    layer_texts c.args.layers.now.items (c.len-last.result - 1) x y long c.index_mut-layer.ensures.value refl

pub returns-in_err-place_at-in-Ok-Some-clause-pending : goal.returns-in_err-place_at-in-Ok-Some-clause-pending
returns-in_err-place_at-in-Ok-Some-clause-pending g c =
    let x = c.index_mut-layer.result.now in
    let y : Layer = record { text = c.next.new.self; under = c.index_mut-layer.result.now.under } in
    let long : length c.args.layers.now.items ≡ c.len-last.result - 1 + 1 = search rules in
    layer_pending c.args.layers.now.items (c.len-last.result - 1) x y long c.index_mut-layer.ensures.value refl

pub returns-in_err-place_at-in-Err-clause-texts : goal.returns-in_err-place_at-in-Err-clause-texts
returns-in_err-place_at-in-Err-clause-texts g c =
    let x = c.index_mut-layer.result.now in
    let y : Layer = record { text = c.next.new.self; under = c.index_mut-layer.result.now.under } in
    let long : length c.args.layers.now.items ≡ c.len-last.result - 1 + 1 = search rules in
    layer_texts c.args.layers.now.items (c.len-last.result - 1) x y long c.index_mut-layer.ensures.value refl

pub returns-in_err-place_at-in-Err-clause-pending : goal.returns-in_err-place_at-in-Err-clause-pending
returns-in_err-place_at-in-Err-clause-pending g c =
    let x = c.index_mut-layer.result.now in
    let y : Layer = record { text = c.next.new.self; under = c.index_mut-layer.result.now.under } in
    let long : length c.args.layers.now.items ≡ c.len-last.result - 1 + 1 = search rules in
    layer_pending c.args.layers.now.items (c.len-last.result - 1) x y long c.index_mut-layer.ensures.value refl

pub returns-in-Ok-None-clause-texts : goal.returns-in-Ok-None-clause-texts
returns-in-Ok-None-clause-texts g c =
    let x = c.index_mut-layer.result.now in
    let y : Layer = record { text = c.next.new.self; under = c.index_mut-layer.result.now.under } in
    let long : length c.args.layers.now.items ≡ c.len-last.result - 1 + 1 = search rules in
    layer_texts c.args.layers.now.items (c.len-last.result - 1) x y long c.index_mut-layer.ensures.value refl

pub returns-in-Ok-None-clause-pending : goal.returns-in-Ok-None-clause-pending
returns-in-Ok-None-clause-pending g c =
    let x = c.index_mut-layer.result.now in
    let y : Layer = record { text = c.next.new.self; under = c.index_mut-layer.result.now.under } in
    let long : length c.args.layers.now.items ≡ c.len-last.result - 1 + 1 = search rules in
    layer_pending c.args.layers.now.items (c.len-last.result - 1) x y long c.index_mut-layer.ensures.value refl

pub returns-in_ok-place_at-in-Ok-Some-clause-texts : goal.returns-in_ok-place_at-in-Ok-Some-clause-texts
returns-in_ok-place_at-in-Ok-Some-clause-texts g c =
    let x = c.index_mut-layer.result.now in
    let y : Layer = record { text = c.next.new.self; under = c.index_mut-layer.result.now.under } in
    let long : length c.args.layers.now.items ≡ c.len-last.result - 1 + 1 = search rules in
    layer_texts c.args.layers.now.items (c.len-last.result - 1) x y long c.index_mut-layer.ensures.value refl

pub returns-in_ok-place_at-in-Ok-Some-clause-pending : goal.returns-in_ok-place_at-in-Ok-Some-clause-pending
returns-in_ok-place_at-in-Ok-Some-clause-pending g c =
    let x = c.index_mut-layer.result.now in
    let y : Layer = record { text = c.next.new.self; under = c.index_mut-layer.result.now.under } in
    let long : length c.args.layers.now.items ≡ c.len-last.result - 1 + 1 = search rules in
    layer_pending c.args.layers.now.items (c.len-last.result - 1) x y long c.index_mut-layer.ensures.value refl

pub returns-in_ok-place_at-in-Err-clause-texts : goal.returns-in_ok-place_at-in-Err-clause-texts
returns-in_ok-place_at-in-Err-clause-texts g c =
    let x = c.index_mut-layer.result.now in
    let y : Layer = record { text = c.next.new.self; under = c.index_mut-layer.result.now.under } in
    let long : length c.args.layers.now.items ≡ c.len-last.result - 1 + 1 = search rules in
    layer_texts c.args.layers.now.items (c.len-last.result - 1) x y long c.index_mut-layer.ensures.value refl

pub returns-in_ok-place_at-in-Err-clause-pending : goal.returns-in_ok-place_at-in-Err-clause-pending
returns-in_ok-place_at-in-Err-clause-pending g c =
    let x = c.index_mut-layer.result.now in
    let y : Layer = record { text = c.next.new.self; under = c.index_mut-layer.result.now.under } in
    let long : length c.args.layers.now.items ≡ c.len-last.result - 1 + 1 = search rules in
    layer_pending c.args.layers.now.items (c.len-last.result - 1) x y long c.index_mut-layer.ensures.value refl

pub returns-in-Ok-None-clause-stands : goal.returns-in-Ok-None-clause-stands
returns-in-Ok-None-clause-stands g c =
    let x = c.index_mut-layer.result.now in
    let y : Layer = record { text = c.next.new.self; under = c.index_mut-layer.result.now.under } in
    let long : length c.args.layers.now.items ≡ c.len-last.result - 1 + 1 = search rules in
    layer_stands c.args.layers.now.items (c.len-last.result - 1) y long

pub returns-in-Ok-None-clause-gave : goal.returns-in-Ok-None-clause-gave
returns-in-Ok-None-clause-gave g c =
    let C = g.C.Cells in
    let x = c.index_mut-layer.result.now in
    let y : Layer = record { text = c.next.new.self; under = c.index_mut-layer.result.now.under } in
    let long : length c.args.layers.now.items ≡ c.len-last.result - 1 + 1 = search rules in
    λ p a. layer_ends (categories p (C.meaning c.args.cats.now p)) c.args.layers.now.items (c.len-last.result - 1) x y c.args.place.now c.args.place.now (C.notes c.args.cats.now) (C.notes c.next.new.cats) long c.index_mut-layer.ensures.value refl
    c.next.ensures.file refl (subst (λ r. TextGave (categories p (C.meaning c.args.cats.now p)) r c.index_mut-layer.result.now.text c.next.new.self (C.notes c.args.cats.now) (C.notes c.next.new.cats)) (ap read_of c.in-Ok-None.field-0-is) (c.in-Ok-None.ensures.gave p a))

pub returns-in_ok-place_at-in-Ok-Some-clause-gave : goal.returns-in_ok-place_at-in-Ok-Some-clause-gave
returns-in_ok-place_at-in-Ok-Some-clause-gave g c =
    let C = g.C.Cells in
    let x = c.index_mut-layer.result.now in
    let y : Layer = record { text = c.next.new.self; under = c.index_mut-layer.result.now.under } in
    let long : length c.args.layers.now.items ≡ c.len-last.result - 1 + 1 = search rules in
    λ p a. layer_gives (categories p (C.meaning c.args.cats.now p)) (Some (read.Tok c.in-Ok-Some.tok)) c.args.layers.now.items (c.len-last.result - 1) x y c.args.place.now c.place_at.new.place (C.notes c.args.cats.now) (C.notes c.next.new.cats) long c.index_mut-layer.ensures.value refl
    refl c.next.ensures.file c.in_ok-place_at-in-Ok-Some.ensures.ok (subst (λ r. TextGave (categories p (C.meaning c.args.cats.now p)) r c.index_mut-layer.result.now.text c.next.new.self (C.notes c.args.cats.now) (C.notes c.next.new.cats)) (ap read_of c.in-Ok-Some.field-0-is) (c.in-Ok-Some.ensures.gave p a))

pub returns-in_ok-place_at-in-Err-clause-fault : goal.returns-in_ok-place_at-in-Err-clause-fault
returns-in_ok-place_at-in-Err-clause-fault g c =
    let C = g.C.Cells in
    let layers = c.args.layers.now.items in
    let x = c.index_mut-layer.result.now in
    let y : Layer = record { text = c.next.new.self; under = c.index_mut-layer.result.now.under } in
    let long : length c.args.layers.now.items ≡ c.len-last.result - 1 + 1 = search rules in
    may_stop c.in-Err.stop _ _ (λ k h p a passes.
    let cats = categories p (C.meaning c.args.cats.now p) in
    let place = c.place_at-in-Err.new.place in
    subst (λ k. SourceGave passes (categories p (C.meaning c.args.cats.now p)) (GotFault k) c.args.place.now (texts_of (reverse c.args.layers.now.items)) (C.notes c.args.cats.now) c.place_at-in-Err.new.place (texts_of (reverse (slice_set c.args.layers.now.items (c.len-last.result - 1) y))) (C.notes c.next.new.cats)) (sym h.0)
    (layer_gives (categories p (C.meaning c.args.cats.now p)) None c.args.layers.now.items (c.len-last.result - 1) x y c.args.place.now c.place_at-in-Err.new.place (C.notes c.args.cats.now) (C.notes c.next.new.cats) long c.index_mut-layer.ensures.value refl
    refl c.next.ensures.file c.in_ok-place_at-in-Err.ensures.ok (h.1 p a) passes)) c.in-Err.ensures.fault
