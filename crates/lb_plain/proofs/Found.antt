-- The names of a book's chapters, where its form holds and where it is broken.
use Rattle.std.proofs.Common.{◌≡◌, ℕ, Bool, true, false, List, [], ◌∷◌, length, refl, ap, sym, ◌∙◌, Option, None, Some, IfSome, IsSomeAnd, IsTrue, ◌&&◌, not, if◌then◌else◌, nat_le}
use Rattle.std.specs.List.{list_all, AllByRecursion}
use Rattle.std.specs.FinMap.{get, entries}
use Rattle.std.proofs.lemmas.Bool.{and_parts, leb-true}
use Rattle.lb_model.specs.declared.world.World.{World}
use Rattle.lb_model.specs.Lines.{lines_of}
use Rattle.lb_model_book.specs.PlainForm.{plain_names, names_of_main, names_in_text, names_if_plain, tex_file, is_plain_book, is_plain_chapter, is_plain_text, is_some_plain, are_distinct, is_among, has_test_font, is_labelled}
use Rattle.lb_plain.specs.Chapters.{IsPlainChapter, ArePlainChapters}

module _ (world : World) where
  pub plain-absent : None ≡ get world.files (tex_file world.main) → None ≡ plain_names world
  unfolding plain_names
  plain-absent e = ap (names_in_text world) e

  pub plain-broken : (text : List ℕ) → Some text ≡ get world.files (tex_file world.main) → None ≡ names_of_main (lines_of text) → None ≡ plain_names world
  unfolding plain_names
  plain-broken text e f = ap (names_if_plain world) f ∙ ap (names_in_text world) e

  pub plain-formed : (text : List ℕ) (names : List (List ℕ)) (b : Bool) → Some text ≡ get world.files (tex_file world.main) → Some names ≡ names_of_main (lines_of text) → is_plain_book world names ≡ b
      → (if b then Some names else None) ≡ plain_names world
  unfolding plain_names
  plain-formed text names b e f h = sym (ap (λ t. if t then Some names else None) h) ∙ ap (names_if_plain world) f ∙ ap (names_in_text world) e

  each : (name : List ℕ) (text : Option (List ℕ)) → is_some_plain text ≡ true → IsSomeAnd text (λ t. IsTrue (is_plain_text t))
  each name None h = cc
  each name (Some text) h = h

  all : (names : List (List ℕ)) → list_all (is_plain_chapter world) names ≡ true → AllByRecursion (IsPlainChapter world) names
  all [] h = tt
  all (name ∷ names) h = let p = and_parts (is_plain_chapter world name) (list_all (is_plain_chapter world) names) h in (each name (get world.files (tex_file name)) p.0, all names p.1)

  if_book : (names : List (List ℕ)) (b : Bool) → is_plain_book world names ≡ b → IfSome (if b then Some names else None) (ArePlainChapters world)
  if_book names true h =
      let chapters : Bool = list_all (is_plain_chapter world) names in
      let bare : Bool = list_all (λ file. not (is_labelled file)) (entries world.files) in
      let p = and_parts (nat_le (length names) 1000) (are_distinct names && (not (is_among world.main names) && (has_test_font world && (bare && chapters)))) h in
      let q = and_parts (are_distinct names) (not (is_among world.main names) && (has_test_font world && (bare && chapters))) p.1 in
      let r = and_parts (not (is_among world.main names)) (has_test_font world && (bare && chapters)) q.1 in
      let s = and_parts (has_test_font world) (bare && chapters) r.1 in
      let t = and_parts bare chapters s.1 in
      record { few = leb-true (length names) 1000 p.0; plain = all names t.1 }
  if_book names false h = tt

  if_names : (o : Option (List (List ℕ))) → IfSome (names_if_plain world o) (ArePlainChapters world)
  if_names None = tt
  if_names (Some names) = if_book names (is_plain_book world names) refl

  if_text : (o : Option (List ℕ)) → IfSome (names_in_text world o) (ArePlainChapters world)
  if_text None = tt
  if_text (Some text) = if_names (names_of_main (lines_of text))

  pub plain-chapters : IfSome (plain_names world) (ArePlainChapters world)
  unfolding plain_names
  plain-chapters = if_text (get world.files (tex_file world.main))
