-- The bytes of a file, page by page.
use Rattle.std.proofs.Common.{◌≡◌, ℕ, List, [], ◌∷◌, ◌++◌, reverse, refl, sym, ap, ◌∙◌, append_assoc}
use Rattle.std.specs.List.{concat}
use Rattle.std.proofs.lemmas.List.{append-nil, reverse-append}
use Rattle.lb_base.specs.declared.moment.Moment.{Moment}
use Rattle.lb_base.specs.declared.page.PageCode.{PageCode}
use Rattle.lb_model_paper.specs.Dvi.{after_page, dvi, next_bytes, pages_bytes, postamble, preamble, progress, progress_at_start}
use Rattle.lb_dvi.specs.Files.{answers_from}

progress-more : (page : PageCode) (earlier : List PageCode) → progress (page ∷ earlier) ≡ after_page (progress earlier) page
unfolding progress
progress-more page earlier = refl

bytes-more : (page : PageCode) (earlier : List PageCode) → pages_bytes (page ∷ earlier) ≡ pages_bytes earlier ++ next_bytes (progress earlier) page
unfolding pages_bytes
bytes-more page earlier = refl

answers-more : (earlier : List PageCode) (page : PageCode) (pages : List PageCode) → concat (answers_from (progress earlier) (page ∷ pages)) ≡ next_bytes (progress earlier) page ++ concat (answers_from (progress (page ∷ earlier)) pages)
unfolding answers_from
answers-more earlier page pages = ap (λ p. next_bytes (progress earlier) page ++ concat (answers_from p pages)) (sym (progress-more page earlier))

answers-end : (earlier : List PageCode) → concat (answers_from (progress earlier) []) ≡ postamble (progress earlier)
unfolding answers_from
answers-end earlier = append-nil (postamble (progress earlier))

-- newest first: those before, and then these
turned : (page : PageCode) (pages earlier : List PageCode) → reverse pages ++ page ∷ earlier ≡ reverse (page ∷ pages) ++ earlier
turned page pages earlier = sym (ap (λ ps. ps ++ earlier) (reverse-append (page ∷ []) pages) ∙ append_assoc (reverse pages) (page ∷ []) earlier)

abbrev file_of : List PageCode → List ℕ
file_of newest = pages_bytes newest ++ postamble (progress newest)

joined : (pages earlier : List PageCode) → pages_bytes earlier ++ concat (answers_from (progress earlier) pages) ≡ file_of (reverse pages ++ earlier)
joined [] earlier = ap (λ bs. pages_bytes earlier ++ bs) (answers-end earlier)
joined (page ∷ pages) earlier =
    ap (λ bs. pages_bytes earlier ++ bs) (answers-more earlier page pages)
    ∙ sym (append_assoc (pages_bytes earlier) (next_bytes (progress earlier) page) (concat (answers_from (progress (page ∷ earlier)) pages)))
    ∙ ap (λ bs. bs ++ concat (answers_from (progress (page ∷ earlier)) pages)) (sym (bytes-more page earlier))
    ∙ joined pages (page ∷ earlier)
    ∙ ap file_of (turned page pages earlier)

start : pages_bytes [] ≡ []
unfolding pages_bytes
start = refl

start_progress : progress [] ≡ progress_at_start
unfolding progress
start_progress = refl

pub file-is : (m : Moment) (pages : List PageCode) → preamble m ++ concat (answers_from progress_at_start pages) ≡ dvi m pages
file-is m pages =
    let all : concat (answers_from progress_at_start pages) ≡ file_of (reverse pages) =
    ap (λ p. concat (answers_from p pages)) (sym start_progress) ∙ ap (λ bs. bs ++ concat (answers_from (progress []) pages)) (sym start) ∙ joined pages [] ∙ ap file_of (append-nil (reverse pages)) in
    ap (λ bs. preamble m ++ bs) all ∙ sym (append_assoc (preamble m) (pages_bytes (reverse pages)) (postamble (progress (reverse pages))))
