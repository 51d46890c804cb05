use Rattle.std.proofs.Common.{◌∙◌, ap, sym, map, arith}
use Rattle.lb_model_grammar.specs.Scans.{tokens_in}
use Rattle.lb_model_grammar.specs.Words.{character_code}
use Rattle.lb_words.proofs.Lists.{tokens-given}
use Rattle.lb_words.proofs.name.NameText.into_name.Goals as goal

pub returns : goal.returns
returns c =
    let items = c.self.inside.past.items in
    let same = c.self.invariant ∙ sym (ap (map character_code) (tokens-given items)) in
    grind (arith, same, c.self.view_is)
