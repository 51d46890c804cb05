-- The part of a chapter, joined from what is written for it, and the parts of a book's chapters.
use Rattle.std.proofs.Common.{◌≡◌, ℕ, suc, ◌+◌, ◌<◌, List, [], ◌∷◌, ◌++◌, length, get_or, take, drop, Option, Some, None, refl, sym, ◌∙◌, ap, subst, inl, arith, append_assoc}
use Rattle.std.proofs.lemmas.List.{append-nil, take_more}
use Rattle.std.proofs.lemmas.Grind.{flat_map-append}
use Rattle.std.specs.List.{flat_map}
use Rattle.lb_base.specs.declared.page.PageCode.{PageCode}
use Rattle.lb_model.specs.declared.world.World.{World}
use Rattle.lb_model.specs.Journal.{Entry, appended, begun_with}
use Rattle.lb_model_paper.specs.Dvi.{Progress, progress, progress_at_start, next_bytes, preamble, postamble}
use Rattle.lb_model_paper.specs.Texts.{relax_line, input_line, checkpoint, log_start, log_file, log_page, log_end}
use Rattle.lb_model_book.specs.PlainForm.{tex_file, aux_file}
use Rattle.lb_model_book.specs.PlainPages.{plain_page}
use Rattle.lb_model_book.specs.Books.{dvi_file, log_file_of, plain_counters, chapter_text, chapter_page, with_page, pages_through, shipped, chapter_part, chapters_part, book_pages, book_start, book_end, file_length}
use Rattle.lb_run.specs.declared.names.BookFiles.{BookFiles}
use Rattle.lb_run.specs.declared.writes.Write.{Write}
use Rattle.lb_run.specs.declared.writes.Write.TheVariants.{Append}
use Rattle.lb_run.specs.Names.{IsNamedFor, shipped_by, start_by, starts_by, ends_by}
use Rattle.lb_run.specs.Writes.{entries_of}
use Rattle.lb_run.specs.Parts.{page_at, progress_with, after_chapter, shipped_at, part_start, part_at, end_at, IsPlainFile}
use Rattle.lb_run.proofs.Journals.{around}

-- one thing more to be done
pub entries-push : (writes : List Write) (write : Write) → flat_map entries_of (writes ++ write ∷ []) ≡ flat_map entries_of writes ++ entries_of write
entries-push writes write = flat_map-append entries_of writes (write ∷ []) ∙ ap (λ l. flat_map entries_of writes ++ l) (append-nil (entries_of write))

start-named : (world : World) (files : BookFiles) (name : List ℕ) → IsNamedFor world files → start_by files name ≡ part_start world name
start-named world files name named =
    λ i. appended (named.aux i) (input_line name) ++ begun_with (aux_file name) relax_line ++ appended (named.log i) (log_file (tex_file name))

shipped-named : (world : World) (files : BookFiles) (p : Progress) (page : Option PageCode) → IsNamedFor world files → shipped_by files p page ≡ shipped_at world p page
shipped-named world files p None named = refl
shipped-named world files p (Some page) named = λ i. appended (named.dvi i) (next_bytes p page) ++ appended (named.log i) (log_page (p.pages + 1))

joined : (a a' b b' c c' whole front back : List Entry) → whole ≡ front ++ c → front ≡ back ++ b → back ≡ a → a ≡ a' → b ≡ b' → c ≡ c' → whole ≡ (a' ++ b') ++ c'
joined a a' b b' c c' whole front back w f k ea eb ec = w ∙ (λ i. (f ∙ (λ j. (k ∙ ea) j ++ eb j)) i ++ ec i)

checkpoint-named : (world : World) (p q : Progress) (page : Option PageCode) (name aux text : List ℕ) → page ≡ page_at world p name → q ≡ progress_with p page → aux ≡ aux_file name → text ≡ checkpoint name (plain_counters (q.pages + 1))
    → appended aux text ≡ appended (aux_file name) (checkpoint name (plain_counters ((after_chapter world p name).pages + 1)))
checkpoint-named world p q page name aux text e after named is =
    let same : q ≡ after_chapter world p name = after ∙ ap (progress_with p) e in
    λ i. appended (named i) ((is ∙ ap (λ (r : Progress). checkpoint name (plain_counters (r.pages + 1))) same) i)

pub part-joined : (world : World) (files : BookFiles) (p q : Progress) (page : Option PageCode) (name aux text : List ℕ) (start shipped all : List Write)
    → IsNamedFor world files → page ≡ page_at world p name → flat_map entries_of start ≡ start_by files name
    → flat_map entries_of shipped ≡ flat_map entries_of start ++ shipped_by files p page → q ≡ progress_with p page
    → aux ≡ aux_file name → text ≡ checkpoint name (plain_counters (q.pages + 1)) → all ≡ shipped ++ Append aux text ∷ []
    → flat_map entries_of all ≡ part_at world p name
part-joined world files p q page name aux text start shipped all named e begin ship after aux_is text_is is =
    joined (start_by files name) (part_start world name) (shipped_by files p page) (shipped_at world p (page_at world p name)) (appended aux text) _
    (flat_map entries_of all) (flat_map entries_of shipped) (flat_map entries_of start)
    (ap (flat_map entries_of) is ∙ entries-push shipped (Append aux text)) ship begin (start-named world files name named)
    (shipped-named world files p page named ∙ ap (shipped_at world p) e)
    (checkpoint-named world p q page name aux text e after aux_is text_is)

-- A DVI file's progress counts its pages.
pub pages-progress : (earlier : List PageCode) → (progress earlier).pages ≡ length earlier
unfolding progress
pages-progress [] = refl
pages-progress (page ∷ earlier) = omega (arith, pages-progress earlier)

page_at-progress : (world : World) (earlier : List PageCode) (name : List ℕ) → page_at world (progress earlier) name ≡ chapter_page world earlier name
page_at-progress world earlier name = ap (λ (n : ℕ). plain_page (chapter_text world name) (n + 1)) (pages-progress earlier)

progress-with_page : (earlier : List PageCode) (page : Option PageCode) → progress_with (progress earlier) page ≡ progress (with_page earlier page)
unfolding progress
progress-with_page earlier None = refl
progress-with_page earlier (Some page) = refl

pub after_chapter-progress : (world : World) (earlier : List PageCode) (name : List ℕ) → after_chapter world (progress earlier) name ≡ progress (pages_through world earlier name)
after_chapter-progress world earlier name = ap (progress_with (progress earlier)) (page_at-progress world earlier name) ∙ progress-with_page earlier (chapter_page world earlier name)

shipped_at-progress : (world : World) (earlier : List PageCode) (page : Option PageCode) → shipped_at world (progress earlier) page ≡ shipped world earlier page
shipped_at-progress world earlier None = refl
shipped_at-progress world earlier (Some page) = ap (λ (n : ℕ). appended (dvi_file world) (next_bytes (progress earlier) page) ++ appended (log_file_of world) (log_page (n + 1))) (pages-progress earlier)

pub part_at-progress : (world : World) (earlier : List PageCode) (name : List ℕ) → part_at world (progress earlier) name ≡ chapter_part world earlier name
part_at-progress world earlier name =
    let ship : shipped_at world (progress earlier) (page_at world (progress earlier) name) ≡ shipped world earlier (chapter_page world earlier name) = ap (shipped_at world (progress earlier)) (page_at-progress world earlier name) ∙ shipped_at-progress world earlier (chapter_page world earlier name) in
    let count : (after_chapter world (progress earlier) name).pages ≡ length (pages_through world earlier name) = ap (λ (p : Progress). p.pages) (after_chapter-progress world earlier name) ∙ pages-progress (pages_through world earlier name) in
    λ i. part_start world name ++ ship i ++ appended (aux_file name) (checkpoint name (plain_counters (count i + 1)))

pub book_pages-append : (world : World) (earlier : List PageCode) (xs ys : List (List ℕ)) → book_pages world earlier (xs ++ ys) ≡ book_pages world (book_pages world earlier xs) ys
unfolding book_pages
book_pages-append world earlier [] ys = refl
book_pages-append world earlier (x ∷ xs) ys = book_pages-append world (pages_through world earlier x) xs ys

pub chapters_part-append : (world : World) (earlier : List PageCode) (xs ys : List (List ℕ)) → chapters_part world earlier (xs ++ ys) ≡ chapters_part world earlier xs ++ chapters_part world (book_pages world earlier xs) ys
unfolding book_pages chapters_part
chapters_part-append world earlier [] ys = refl
chapters_part-append world earlier (x ∷ xs) ys =
    let rest = chapters_part-append world (pages_through world earlier x) xs ys in
    ap (λ l. chapter_part world earlier x ++ l) rest ∙ sym (append_assoc (chapter_part world earlier x) (chapters_part world (pages_through world earlier x) xs) (chapters_part world (book_pages world (pages_through world earlier x) xs) ys))

chapters_part-one : (world : World) (earlier : List PageCode) (name : List ℕ) (names : List (List ℕ)) → chapters_part world earlier (name ∷ names) ≡ chapter_part world earlier name ++ chapters_part world (pages_through world earlier name) names
unfolding chapters_part
chapters_part-one world earlier name names = refl

chapters_part-none : (world : World) (earlier : List PageCode) → chapters_part world earlier [] ≡ []
unfolding chapters_part
chapters_part-none world earlier = refl

book_pages-one : (world : World) (earlier : List PageCode) (name : List ℕ) → book_pages world earlier (name ∷ []) ≡ pages_through world earlier name
unfolding book_pages
book_pages-one world earlier name = refl

-- one chapter of a book
module _ (world : World) (names : List (List ℕ)) (i : ℕ) (name : List ℕ) (p : Progress) (lt : i < length names) (is : name ≡ get_or names i name) (now : p ≡ progress (book_pages world [] (take i names))) where
  abbrev before : List PageCode
  before = book_pages world [] (take i names)

  part : part_at world p name ≡ chapter_part world before name
  part = ap (λ (q : Progress). part_at world q name) now ∙ part_at-progress world before name

  next : take (i + 1) names ≡ take i names ++ name ∷ []
  next = take_more names i name lt ∙ ap (λ x. take i names ++ x ∷ []) (sym is)

  pub chapters-whole : chapters_part world [] names ≡ chapters_part world [] (take i names) ++ (part_at world p name ++ chapters_part world (pages_through world before name) (drop (suc i) names))
  chapters-whole =
      ap (chapters_part world []) (around names i name lt is)
      ∙ chapters_part-append world [] (take i names) (name ∷ drop (suc i) names)
      ∙ ap (λ l. chapters_part world [] (take i names) ++ l) (chapters_part-one world before name (drop (suc i) names) ∙ ap (λ l. l ++ chapters_part world (pages_through world before name) (drop (suc i) names)) (sym part))

  pub chapters-next : chapters_part world [] (take i names) ++ part_at world p name ≡ chapters_part world [] (take (i + 1) names)
  chapters-next =
      ap (λ l. chapters_part world [] (take i names) ++ l) (part ∙ sym (append-nil (chapter_part world before name)) ∙ ap (λ l. chapter_part world before name ++ l) (sym (chapters_part-none world (pages_through world before name))) ∙ sym (chapters_part-one world before name []))
      ∙ sym (chapters_part-append world [] (take i names) (name ∷ []))
      ∙ ap (chapters_part world []) (sym next)

  pub pages-next : after_chapter world p name ≡ progress (book_pages world [] (take (i + 1) names))
  pages-next =
      ap (λ (q : Progress). after_chapter world q name) now
      ∙ after_chapter-progress world before name
      ∙ ap progress (sym (book_pages-one world before name) ∙ sym (book_pages-append world [] (take i names) (name ∷ [])) ∙ ap (book_pages world []) (sym next))

pub no_pages : (world : World) → progress_at_start ≡ progress (book_pages world [] [])
unfolding progress book_pages
no_pages world = refl

pub no_chapters : (world : World) → [] ≡ chapters_part world [] []
unfolding chapters_part
no_chapters world = refl

start-plain : IsPlainFile progress_at_start
start-plain = record { place = omega arith; fonts = inl refl }

pub plain_at_start : (p : Progress) → p ≡ progress_at_start → IsPlainFile p
plain_at_start p is = subst IsPlainFile (sym is) start-plain

-- the beginning and the end of a book
pub starts-named : (world : World) (files : BookFiles) → IsNamedFor world files → starts_by files world ≡ book_start world
starts-named world files named = λ i. begun_with (named.log i) (log_start world.main) ++ begun_with (named.dvi i) (preamble world.moment) ++ begun_with (named.aux i) relax_line

pub ends-named : (world : World) (files : BookFiles) (p : Progress) → IsNamedFor world files → ends_by files world p ≡ end_at world p
ends-named world files p named = λ i. appended (named.dvi i) (postamble p) ++ appended (named.log i) (log_end world.main p.pages (p.place + length (postamble p)))

pub end_at-progress : (world : World) (p : Progress) (pages : List PageCode) → p ≡ progress pages → end_at world p ≡ book_end world pages
end_at-progress world p pages is =
    ap (end_at world) is ∙ ap (λ (n : ℕ). appended (dvi_file world) (postamble (progress pages)) ++ appended (log_file_of world) (log_end world.main n (file_length pages))) (pages-progress pages)
