use Rattle.std.proofs.Common.{refl}
use Rattle.lb_model.specs.StartState.{start_category}
use Rattle.lb_model.specs.Tokens.{character, characters, next_token}
use Rattle.lb_model_sections.specs.Texts.{tokens_of_text}
use Rattle.lb_lists.proofs.labels.described.Goals as goal

pub known-requires : goal.known-requires
unfolding tokens_of_text character characters next_token start_category
known-requires c = record { simple = refl }
