use Rattle.std.proofs.Common.{◌≡◌, ◌++◌, drop, map}
use Rattle.lb_model_grammar.specs.declared.given.Given.TheVariants.{Tok as AToken}
use Rattle.lb_words.specs.Doubled.{doubled}
use Rattle.lb_words.proofs.body.BodyText.take_all.Given as goal

abbrev pub invariant-loop-tok : goal.invariant-loop-tok
invariant-loop-tok l = l.self ++ map AToken (doubled (drop l.tok-index l.toks)) ≡ l.fn.self ++ map AToken (doubled l.toks)
