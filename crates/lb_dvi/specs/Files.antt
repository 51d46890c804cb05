-- A file as its writer gives it, call by call.
use Rattle.std.specs.Prelude.{ℕ, List, [], ◌∷◌}
use Rattle.lb_base.specs.declared.page.PageCode.{PageCode}
use Rattle.lb_model_paper.specs.Dvi.{after_page, next_bytes, postamble, Progress}

-- What `Writer::page` answers for these pages one after another, each from what is known of the file after those before it, and
-- then `Writer::finish`.
unfoldable pub answers_from : Progress → List PageCode → List (List ℕ)
answers_from known [] = postamble known ∷ []
answers_from known (page ∷ pages) = next_bytes known page ∷ answers_from (after_page known page) pages
