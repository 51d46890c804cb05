use Rattle.std.proofs.Common.{◌≡◌, ◌++◌, ◌∷◌, [], ap, ◌∙◌, rules}
use Rattle.lb_tfm_make.specs.FontBytes.{fix_word, info_section, number_word, parameter_words, step_section, width_section}
use Rattle.lb_tfm_make.proofs.Bodies.{infos-are, widths-are, written}
use Rattle.lb_tfm_make.proofs.sections.body.Goals as goal

pub returns-clause-words : goal.returns-clause-words
returns-clause-words c =
    let spec = c.args.spec.now in
    let header : c.push_header.new.words.items ≡ [] ++ (number_word spec.check ∷ number_word spec.design ∷ []) = c.in_ok-push_header.ensures.words ∙ ap (λ x. x ++ (number_word spec.check ∷ number_word spec.design ∷ [])) c.new-words.ensures.items in
    let infos : c.push_infos.new.words.items ≡ c.push_header.new.words.items ++ info_section spec =
    c.in_ok-push_infos.ensures ∙ ap (λ x. c.push_header.new.words.items ++ x) (infos-are spec c.as_slice.result.now c.args.widths.now c.args.starts.now c.as_slice.ensures c.requires.widths c.requires.starts) in
    let widths : c.push_widths.new.words.items ≡ c.push_infos.new.words.items ++ width_section spec =
    c.in_ok-push_widths.ensures ∙ ap (λ x. c.push_infos.new.words.items ++ x) (widths-are spec c.args.widths.now c.requires.widths) in
    let heights : c.push_size.new.words.items ≡ c.push_widths.new.words.items ++ (number_word 0 ∷ fix_word spec.height ∷ []) = search rules in
    let depths : c.push_size-2.new.words.items ≡ c.push_size.new.words.items ++ (number_word 0 ∷ fix_word spec.depth ∷ []) = search rules in
    let italics : c.push.new.self.items ≡ c.push_size-2.new.words.items ++ (number_word 0 ∷ []) = c.in_ok-push.ensures.items ∙ ap (λ x. c.push_size-2.new.words.items ++ x ∷ []) c.word.ensures in
    let steps : c.extend_from_slice.new.self.items ≡ c.push.new.self.items ++ step_section spec = c.in_ok-extend_from_slice.ensures.items ∙ ap (λ x. c.push.new.self.items ++ x) c.requires.steps in
    let parameters : c.push_parameters.new.words.items ≡ c.extend_from_slice.new.self.items ++ parameter_words spec.params = search rules in
    written _ _ _ _ _ _ _ _ _ _ _ _ _ _ _ _ header infos widths heights depths italics steps parameters
