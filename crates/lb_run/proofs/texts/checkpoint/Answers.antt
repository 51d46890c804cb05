use Rattle.std.proofs.Common.{◌≡◌, List, ◌++◌, ◌∙◌, ap, append_assoc, ℕ, map}
use Rattle.std.specs.Prelude.{codes}
use Rattle.std.specs.Fmt.{digits}
use Rattle.std.specs.List.{flat_map}
use Rattle.lb_model_paper.specs.Texts.{line, counter_line, checkpoint}
use Rattle.lb_model_book.specs.Books.{still_counters, plain_counters}
use Rattle.lb_run.specs.Checkpoints.{checkpoint_front}
use Rattle.lb_run.proofs.texts.checkpoint.Goals as goal

still : List ℕ
still = flat_map counter_line (map (λ (name : List ℕ). (name, 0)) still_counters)

joined : (a b c d : List ℕ) → (a ++ b) ++ (c ++ d) ≡ (a ++ (b ++ c)) ++ d
joined a b c d = simp append_assoc

whole : (chapter text new : List ℕ) (page : ℕ) → text ≡ checkpoint_front chapter page → new ≡ text ++ (still ++ line (codes "}")) → new ≡ checkpoint chapter (plain_counters page)
unfolding still
whole chapter text new page front is = is ∙ ap (λ (l : List ℕ). l ++ (still ++ line (codes "}"))) front ∙ joined (line (codes "\\@setckpt{" ++ chapter ++ codes "}{")) (counter_line (codes "page", page)) still (line (codes "}"))

pub returns : goal.returns
unfolding still digits
returns c = whole c.args.chapter.now c.in_ok-text.text c.extend_from_slice.new.self c.args.page c.in_ok-text.ensures c.in_ok-extend_from_slice.ensures.ok
