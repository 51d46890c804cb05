use Rattle.std.proofs.Common.{◌∙◌, ◌++◌, ◌∷◌, [], ap, codes}
use Rattle.lb_model_journal.specs.Written.{braced, written}
use Rattle.lb_aux.proofs.Appends.{five}
use Rattle.lb_aux.proofs.labels.push_entry.Goals as goal

pub returns : goal.returns
returns c =
    let kind = braced c.as_slice.result.now in
    let title = braced (written c.as_slice-2.result.now) in
    let page = braced (written c.as_slice-3.result.now) in
    c.in_ok-push.ensures.ok
    ∙ ap (λ t. t ++ 125 ∷ []) (c.in_ok-push_token_group-2.ensures ∙ ap (λ t. t ++ page) (c.in_ok-push_token_group.ensures ∙ ap (λ t. t ++ title) (c.in_ok-push_group.ensures ∙ ap (λ t. t ++ kind) c.in_ok-extend_from_slice.ensures.ok)))
    ∙ five c.args.text.now (codes "{\\contentsline ") kind title page (125 ∷ [])
    ∙ (λ j. c.args.text.now ++ ((((codes "{\\contentsline " ++ braced (c.as_slice.ensures j)) ++ braced (written (c.as_slice-2.ensures j))) ++ braced (written (c.as_slice-3.ensures j))) ++ 125 ∷ []))
