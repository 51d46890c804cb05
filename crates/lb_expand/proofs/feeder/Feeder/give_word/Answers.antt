use Rattle.std.proofs.Common.{◌∙◌, ◌++◌, ◌∷◌, [], ap}
use Rattle.lb_model_grammar.specs.declared.given.Given.TheVariants.{Tok as AToken}
use Rattle.lb_model_expansion.specs.Expansion.{word_met}
use Rattle.lb_words.specs.Turns.{word_turned}
use Rattle.lb_expand.proofs.CloseLemmas.{closes-as}
use Rattle.lb_expand.proofs.feeder.Feeder.give_word.Goals as goal

pub returns-in-Ended-clause-closes : goal.returns-in-Ended-clause-closes
returns-in-Ended-clause-closes g c =
    closes-as (λ m more d. word_met m c.args.purpose (c.args.text ++ AToken c.args.tok.now ∷ []) more d) c.close_word.result (c.in_ok-text.ensures.turn ∙ ap word_turned c.in-Ended.is) c.close_word.ensures.closes
