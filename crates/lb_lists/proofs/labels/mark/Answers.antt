use Rattle.std.proofs.Common.{refl}
use Rattle.lb_model.specs.StartState.{start_category}
use Rattle.lb_model.specs.Tokens.{character, characters, next_token}
use Rattle.lb_model_sections.specs.Texts.{tokens_of_text}
use Rattle.lb_lists.proofs.labels.mark.Goals as goal

pub known-requires : goal.known-requires
unfolding tokens_of_text character characters next_token start_category
known-requires c = record { simple = refl }

pub known-requires-in-3 : goal.known-requires-in-3
unfolding tokens_of_text character characters next_token start_category
known-requires-in-3 c = record { simple = refl }

pub known-requires-in-4 : goal.known-requires-in-4
unfolding tokens_of_text character characters next_token start_category
known-requires-in-4 c = record { simple = refl }

pub known-requires-in-0 : goal.known-requires-in-0
unfolding tokens_of_text character characters next_token start_category
known-requires-in-0 c = record { simple = refl }

pub known-requires-in_default : goal.known-requires-in_default
unfolding tokens_of_text character characters next_token start_category
known-requires-in_default c = record { simple = refl }
