-- What the parts of a book put into its DVI file.
use Rattle.std.proofs.Common.{◌≡◌, ℕ, Bool, true, false, List, [], ◌∷◌, ◌++◌, reverse, Option, None, Some, nat_eq, refl, sym, ap, ◌∙◌, append_assoc, arith}
use Rattle.std.specs.Prelude.{codes, length, ◌+◌}
use Rattle.std.specs.Cmp.Lexicographic.{same_text}
use Rattle.std.proofs.lemmas.Cmp.{nat_list_eq_equiv}
use Rattle.std.proofs.lemmas.List.{append-nil, reverse-append, reverse-reverse}
use lib.Pointwise.{pointwise}
use Rattle.lb_base.specs.declared.page.PageCode.{PageCode}
use Rattle.lb_model.specs.Journal.{after_entry, appended, begun_with, content_from, content_of, Entry, Begun, Byte}
use Rattle.lb_model.specs.declared.world.World.{World}
use Rattle.lb_model_book.specs.Books.{book_end, book_journal, book_pages, book_start, chapter_page, chapter_part, chapters_part, dvi_file, file_length, journal, journal_of_names, log_file_of, pages_through, plain_counters, shipped, with_page}
use Rattle.lb_model_book.specs.PlainForm.{aux_file, plain_names, tex_file}
use Rattle.lb_model_paper.specs.Dvi.{dvi, next_bytes, pages_bytes, postamble, preamble, progress}
use Rattle.lb_model_paper.specs.Texts.{checkpoint, input_line, log_end, log_file, log_page, log_start, relax_line}

-- ---- entries one after another

pub content-append : (file : List ℕ) (old : Option (List ℕ)) (before after : List Entry) → content_from file old (before ++ after) ≡ content_from file (content_from file old before) after
content-append file old [] after = refl
content-append file old (entry ∷ before) after = content-append file (after_entry file entry old) before after

-- ---- another file

other_bytes : (file other : List ℕ) (old : Option (List ℕ)) (bytes : List ℕ) → pointwise nat_eq other file ≡ false → content_from file old (appended other bytes) ≡ old
other_bytes file other old [] apart = refl
other_bytes file other old (b ∷ bytes) apart =
    let same : after_entry file (Byte other b) old ≡ old = rw apart in
    ap (λ o. content_from file o (appended other bytes)) same ∙ other_bytes file other old bytes apart

other_begun : (file other : List ℕ) (old : Option (List ℕ)) (bytes : List ℕ) → pointwise nat_eq other file ≡ false → content_from file old (begun_with other bytes) ≡ old
other_begun file other old bytes apart =
    let same : after_entry file (Begun other) old ≡ old = rw apart in
    ap (λ o. content_from file o (appended other bytes)) same ∙ other_bytes file other old bytes apart

-- ---- the file itself

itself : (file : List ℕ) → pointwise nat_eq file file ≡ true
itself file = nat_list_eq_equiv.refl file

own_bytes : (file had bytes : List ℕ) → content_from file (Some had) (appended file bytes) ≡ Some (had ++ bytes)
own_bytes file had [] = ap Some (sym (append-nil had))
own_bytes file had (b ∷ bytes) =
    let more : after_entry file (Byte file b) (Some had) ≡ Some (had ++ b ∷ []) = rw (itself file) in
    ap (λ o. content_from file o (appended file bytes)) more ∙ own_bytes file (had ++ b ∷ []) bytes ∙ ap Some (append_assoc had (b ∷ []) bytes)

own_begun : (file bytes : List ℕ) (old : Option (List ℕ)) → content_from file old (begun_with file bytes) ≡ Some bytes
own_begun file bytes old =
    let none : after_entry file (Begun file) old ≡ Some [] = rw (itself file) in
    ap (λ o. content_from file o (appended file bytes)) none ∙ own_bytes file [] bytes

-- ---- names with other endings

last_apart : (main name ending : List ℕ) (first : ℕ) (rest : List ℕ) → reverse ending ≡ first ∷ rest → (first ≡ 105 → ⊥) → (b : Bool) → pointwise nat_eq (name ++ ending) (main ++ codes ".dvi") ≡ b → b ≡ false
last_apart main name ending first rest ends other false is = refl
last_apart main name ending first rest ends other true is =
    let same : name ++ ending ≡ main ++ codes ".dvi" = same_text (name ++ ending) (main ++ codes ".dvi") (sym is) in
    let left : reverse (name ++ ending) ≡ (first ∷ rest) ++ reverse name = reverse-append name ending ∙ ap (λ es. es ++ reverse name) ends in
    let right : reverse (main ++ codes ".dvi") ≡ (105 ∷ 118 ∷ 100 ∷ 46 ∷ []) ++ reverse main = reverse-append main (codes ".dvi") in
    let both : (first ∷ rest) ++ reverse name ≡ (105 ∷ 118 ∷ 100 ∷ 46 ∷ []) ++ reverse main = sym left ∙ ap reverse same ∙ right in
    let head : first ≡ 105 = cc in
    absurd (other head)

pub log_apart : (world : World) → pointwise nat_eq (log_file_of world) (dvi_file world) ≡ false
log_apart world = last_apart world.main world.main (codes ".log") 103 (111 ∷ 108 ∷ 46 ∷ []) refl (λ (e : 103 ≡ 105). omega arith) (pointwise nat_eq (log_file_of world) (dvi_file world)) refl

pub aux_apart : (world : World) (name : List ℕ) → pointwise nat_eq (aux_file name) (dvi_file world) ≡ false
aux_apart world name = last_apart world.main name (codes ".aux") 120 (117 ∷ 97 ∷ 46 ∷ []) refl (λ (e : 120 ≡ 105). omega arith) (pointwise nat_eq (aux_file name) (dvi_file world)) refl

-- ---- the parts of a book

-- what is put into the DVI file by a chapter that has this page
shipped_bytes : (world : World) (had : List ℕ) (earlier : List PageCode) (page : Option PageCode) → content_from (dvi_file world) (Some (had ++ pages_bytes earlier)) (shipped world earlier page) ≡ Some (had ++ pages_bytes (with_page earlier page))
unfolding pages_bytes
shipped_bytes world had earlier None = refl
shipped_bytes world had earlier (Some page) =
    content-append (dvi_file world) (Some (had ++ pages_bytes earlier)) (appended (dvi_file world) (next_bytes (progress earlier) page)) (appended (log_file_of world) (log_page (length earlier + 1)))
    ∙ ap (λ o. content_from (dvi_file world) o (appended (log_file_of world) (log_page (length earlier + 1)))) (own_bytes (dvi_file world) (had ++ pages_bytes earlier) (next_bytes (progress earlier) page))
    ∙ other_bytes (dvi_file world) (log_file_of world) (Some ((had ++ pages_bytes earlier) ++ next_bytes (progress earlier) page)) (log_page (length earlier + 1)) (log_apart world)
    ∙ ap Some (append_assoc had (pages_bytes earlier) (next_bytes (progress earlier) page))

-- another file's entries before and behind some others
around : (file : List ℕ) (old now : Option (List ℕ)) (before middle after : List Entry) → content_from file old before ≡ old → content_from file old middle ≡ now → content_from file now after ≡ now → content_from file old (before ++ middle ++ after) ≡ now
around file old now before middle after a b c =
    content-append file old (before ++ middle) after
    ∙ ap (λ o. content_from file o after) (content-append file old before middle ∙ ap (λ o. content_from file o middle) a ∙ b)
    ∙ c

chapter_bytes : (world : World) (had : List ℕ) (earlier : List PageCode) (name : List ℕ) → content_from (dvi_file world) (Some (had ++ pages_bytes earlier)) (chapter_part world earlier name) ≡ Some (had ++ pages_bytes (pages_through world earlier name))
chapter_bytes world had earlier name =
    let d : List ℕ = dvi_file world in
    let old : Option (List ℕ) = Some (had ++ pages_bytes earlier) in
    let main : content_from d old (appended (aux_file world.main) (input_line name)) ≡ old = other_bytes d (aux_file world.main) old (input_line name) (aux_apart world world.main) in
    let begun : content_from d old (begun_with (aux_file name) relax_line) ≡ old = other_begun d (aux_file name) old relax_line (aux_apart world name) in
    let log : content_from d old (appended (log_file_of world) (log_file (tex_file name))) ≡ old = other_bytes d (log_file_of world) old (log_file (tex_file name)) (log_apart world) in
    let front : content_from d old (appended (aux_file world.main) (input_line name) ++ begun_with (aux_file name) relax_line ++ appended (log_file_of world) (log_file (tex_file name))) ≡ old =
    around d old old (appended (aux_file world.main) (input_line name)) (begun_with (aux_file name) relax_line) (appended (log_file_of world) (log_file (tex_file name))) main begun log in
    around d old (Some (had ++ pages_bytes (pages_through world earlier name)))
    (appended (aux_file world.main) (input_line name) ++ begun_with (aux_file name) relax_line ++ appended (log_file_of world) (log_file (tex_file name)))
    (shipped world earlier (chapter_page world earlier name))
    (appended (aux_file name) (checkpoint name (plain_counters (length (pages_through world earlier name) + 1))))
    front
    (shipped_bytes world had earlier (chapter_page world earlier name))
    (other_bytes d (aux_file name) (Some (had ++ pages_bytes (pages_through world earlier name))) (checkpoint name (plain_counters (length (pages_through world earlier name) + 1))) (aux_apart world name))

chapters_bytes : (world : World) (had : List ℕ) (earlier : List PageCode) (names : List (List ℕ)) → content_from (dvi_file world) (Some (had ++ pages_bytes earlier)) (chapters_part world earlier names) ≡ Some (had ++ pages_bytes (book_pages world earlier names))
unfolding chapters_part book_pages
chapters_bytes world had earlier [] = refl
chapters_bytes world had earlier (name ∷ names) =
    content-append (dvi_file world) (Some (had ++ pages_bytes earlier)) (chapter_part world earlier name) (chapters_part world (pages_through world earlier name) names)
    ∙ ap (λ o. content_from (dvi_file world) o (chapters_part world (pages_through world earlier name) names)) (chapter_bytes world had earlier name)
    ∙ chapters_bytes world had (pages_through world earlier name) names

start_bytes : (world : World) → content_from (dvi_file world) None (book_start world) ≡ Some (preamble world.moment)
start_bytes world =
    around (dvi_file world) None (Some (preamble world.moment)) (begun_with (log_file_of world) (log_start world.main)) (begun_with (dvi_file world) (preamble world.moment)) (begun_with (aux_file world.main) relax_line)
    (other_begun (dvi_file world) (log_file_of world) None (log_start world.main) (log_apart world))
    (own_begun (dvi_file world) (preamble world.moment) None)
    (other_begun (dvi_file world) (aux_file world.main) (Some (preamble world.moment)) relax_line (aux_apart world world.main))

end_bytes : (world : World) (had : List ℕ) (pages : List PageCode) → content_from (dvi_file world) (Some had) (book_end world pages) ≡ Some (had ++ postamble (progress pages))
end_bytes world had pages =
    content-append (dvi_file world) (Some had) (appended (dvi_file world) (postamble (progress pages))) (appended (log_file_of world) (log_end world.main (length pages) (file_length pages)))
    ∙ ap (λ o. content_from (dvi_file world) o (appended (log_file_of world) (log_end world.main (length pages) (file_length pages)))) (own_bytes (dvi_file world) had (postamble (progress pages)))
    ∙ other_bytes (dvi_file world) (log_file_of world) (Some (had ++ postamble (progress pages))) (log_end world.main (length pages) (file_length pages)) (log_apart world)

no_pages : (had : List ℕ) → had ≡ had ++ pages_bytes []
unfolding pages_bytes
no_pages had = sym (append-nil had)

whole : (world : World) (names : List (List ℕ)) → content_of (dvi_file world) (book_journal world names) ≡ Some (dvi world.moment (reverse (book_pages world [] names)))
whole world names =
    let d : List ℕ = dvi_file world in
    let pages : List PageCode = book_pages world [] names in
    let first : content_from d None (book_start world ++ chapters_part world [] names) ≡ Some (preamble world.moment ++ pages_bytes pages) =
    content-append d None (book_start world) (chapters_part world [] names)
    ∙ ap (λ o. content_from d o (chapters_part world [] names)) (start_bytes world ∙ ap Some (no_pages (preamble world.moment)))
    ∙ chapters_bytes world (preamble world.moment) [] names in
    content-append d None (book_start world ++ chapters_part world [] names) (book_end world pages)
    ∙ ap (λ o. content_from d o (book_end world pages)) first
    ∙ end_bytes world (preamble world.moment ++ pages_bytes pages) pages
    ∙ ap (λ ps. Some ((preamble world.moment ++ pages_bytes ps) ++ postamble (progress ps))) (sym (reverse-reverse pages))

pub dvi_of : (world : World) (names : List (List ℕ)) → plain_names world ≡ Some names → content_of (dvi_file world) (journal world) ≡ Some (dvi world.moment (reverse (book_pages world [] names)))
dvi_of world names is = ap (λ ns. content_of (dvi_file world) (journal_of_names world ns)) is ∙ whole world names
