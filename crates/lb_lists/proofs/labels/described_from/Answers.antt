use Rattle.std.proofs.Common.{◌≡◌, ◌++◌, [], arith, codes, refl, subst, sym}
use Rattle.std.specs.Prelude.{IfOk}
use Rattle.std.proofs.lemmas.Grind.{common_steps}
use Rattle.lb_model.specs.StartState.{start_category}
use Rattle.lb_model.specs.Tokens.{character, characters, next_token}
use Rattle.lb_model_sections.specs.Lists.{margin_text_at}
use Rattle.lb_model_sections.specs.Texts.{tokens_of_text, toks}
use Rattle.lb_lists.proofs.labels.described_from.Goals as goal

pub known-requires : goal.known-requires
unfolding tokens_of_text character characters next_token start_category
known-requires c = record { simple = refl }

pub known-requires-in-3 : goal.known-requires-in-3
unfolding tokens_of_text character characters next_token start_category
known-requires-in-3 c = record { simple = refl }

pub known-requires-in-4 : goal.known-requires-in-4
unfolding tokens_of_text character characters next_token start_category
known-requires-in-4 c = record { simple = refl }

pub known-requires-in-0 : goal.known-requires-in-0
unfolding tokens_of_text character characters next_token start_category
known-requires-in-0 c = record { simple = refl }

pub known-requires-in-5 : goal.known-requires-in-5
unfolding tokens_of_text character characters next_token start_category
known-requires-in-5 c = record { simple = refl }

pub known-requires-in-6 : goal.known-requires-in-6
unfolding tokens_of_text character characters next_token start_category
known-requires-in-6 c = record { simple = refl }

pub known-requires-in_default : goal.known-requires-in_default
unfolding tokens_of_text character characters next_token start_category
known-requires-in_default c = record { simple = refl }

pub returns-in_default : goal.returns-in_default
returns-in_default c =
    let e : margin_text_at c.args.depth ≡ [] = grind (arith, common_steps) in
    subst (λ m. IfOk c.known-in_default.result (λ list. list ≡ toks (codes "\\hskip-" ++ m ++ codes "\\relax\\hbox{\\bfseries"))) (sym e)
    c.known-in_default.ensures
