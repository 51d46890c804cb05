use Rattle.std.proofs.Common.{◌∙◌, ◌++◌, ap, append_assoc, codes, refl, sym}
use Rattle.lb_model.specs.StartState.{start_category}
use Rattle.lb_model.specs.Tokens.{character, characters, next_token}
use Rattle.lb_model_sections.specs.Texts.{tokens_of_text, toks}
use Rattle.lb_lists.proofs.labels.beside.Goals as goal

pub known-requires : goal.known-requires
unfolding tokens_of_text character characters next_token start_category
known-requires c = record { simple = refl }

pub before-requires : goal.before-requires
unfolding tokens_of_text character characters next_token start_category
before-requires c = record { simple = refl }

pub returns : goal.returns
returns c =
    let from = toks (codes "\\hbox to0pt{\\hss") in
    let to = toks (codes "\\hskip5pt}") in
    let label = c.args.label in
    c.in_ok-toks.ensures ∙ ap (λ e. from ++ e) (c.in_ok-ended.ensures ∙ ap (λ b. label ++ b) c.in_ok-known.ensures) ∙ sym (append_assoc from label to)
