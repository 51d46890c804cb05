use Rattle.std.proofs.Common.{◌≡◌, ◌∙◌, ◌++◌, ◌∷◌, [], ap, codes, of_z, to_z, w32}
use Rattle.std.proofs.lemmas.Int.{to_z-of_z}
use Rattle.std.specs.Fmt.{signed_decimal}
use Rattle.lb_model_journal.specs.Written.{braced}
use Rattle.lb_aux.proofs.Appends.{four}
use Rattle.lb_aux.proofs.checkpoint.push_counter.Goals as goal

pub returns : goal.returns
returns c =
    let name = braced c.args.name.now in
    let number = braced (signed_decimal c.args.number) in
    let same : to_z w32 (of_z w32 c.args.number) ≡ c.args.number = to_z-of_z w32 c.args.number c.ranges.number in
    c.in_ok-push.ensures.ok
    ∙ ap (λ t. t ++ 10 ∷ []) (c.in_ok-push_number_group.ensures
    ∙ (λ j. (c.in_ok-push_group.ensures ∙ ap (λ t. t ++ name) c.in_ok-extend_from_slice.ensures.ok) j ++ braced (signed_decimal (same j))))
    ∙ four c.args.text.now (codes "\\setcounter") name number (10 ∷ [])
