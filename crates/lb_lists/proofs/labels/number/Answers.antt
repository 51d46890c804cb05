use Rattle.std.proofs.Common.{refl}
use Rattle.lb_model.specs.StartState.{start_category}
use Rattle.lb_model.specs.Tokens.{character, characters, next_token}
use Rattle.lb_model_sections.specs.Texts.{tokens_of_text}
use Rattle.lb_lists.proofs.labels.number.Goals as goal

pub known-requires : goal.known-requires
unfolding tokens_of_text character characters next_token start_category
known-requires c = record { simple = refl }

pub before-requires : goal.before-requires
unfolding tokens_of_text character characters next_token start_category
before-requires c = record { simple = refl }

pub known-requires-2 : goal.known-requires-2
unfolding tokens_of_text character characters next_token start_category
known-requires-2 c = record { simple = refl }
