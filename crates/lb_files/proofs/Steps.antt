-- How the steps of an outlet follow its calls.
use Rattle.std.proofs.Common.{◌≡◌, ℕ, Bool, true, false, cond, Result, Ok, Err, OnOk, is_ok, IfSome, IsSome, ◌+◌, ◌<◌, ◌≤◌, List, [], ◌∷◌, ◌++◌, length, get_or, map, All, Option, None, Some, refl, sym, ◌∙◌, ap, ap₂, subst, zero, suc, arith, length-append}
use Rattle.std.proofs.Math.ListN.{set}
use Rattle.std.specs.List.{position}
use Rattle.std.proofs.lemmas.List.{get_or_append_left}
use Rattle.std.proofs.lemmas.List.Elements.{All-append}
use Rattle.lb_model.specs.Journal.{Entry, Begun as BegunEntry, Byte as ByteEntry, Adds, appended, content_of}
use Rattle.lb_files.specs.declared.memory.sure_outlet.Step.{Step}
use Rattle.lb_files.specs.declared.memory.sure_outlet.Step.TheVariants.{Begun, Byte, Stray}
use Rattle.lb_files.specs.Steps.{entry_of, IsOf, KeepsSteps}
use Rattle.lb_files.specs.Texts.{Keeps}
use Rattle.lb_files.proofs.Texts.{is, begin_new, begin_again, put_behind_text, put_nowhere, read_none, found_name}

entry_grown : (names more : List (List ℕ)) (step : Step) → IsOf (length names) step → entry_of (names ++ more) step ≡ entry_of names step
entry_grown names more (Begun at) h = ap BegunEntry (get_or_append_left names more [] at h)
entry_grown names more (Byte at b) h = ap (λ file. ByteEntry file b) (get_or_append_left names more [] at h)
entry_grown names more (Stray file b) h = refl

all_none : (P : Step → Type 0) → All P []
all_none P = λ k d h. absurd (omega arith)

all_cons : (P : Step → Type 0) (x : Step) (xs : List Step) → P x → All P xs → (k : ℕ) (d : Step) → k < length (x ∷ xs) → P (get_or (x ∷ xs) k d)
all_cons P x xs h g zero d lt = h
all_cons P x xs h g (suc k) d lt = g k d (omega arith)

entries_grown : (names more : List (List ℕ)) (steps : List Step) → All (IsOf (length names)) steps → map (entry_of (names ++ more)) steps ≡ map (entry_of names) steps
entries_grown names more [] h = refl
entries_grown names more (step ∷ steps) h = ap₂ (λ x xs. x ∷ xs) (entry_grown names more step (h 0 step (omega arith))) (entries_grown names more steps (λ k d lt. h (suc k) d (omega arith)))

is_of_more : (n m : ℕ) (step : Step) → n ≤ m → IsOf n step → IsOf m step
is_of_more n m (Begun at) le h = omega arith
is_of_more n m (Byte at b) le h = omega arith
is_of_more n m (Stray file b) le h = tt

one : (n at : ℕ) → at < n → All (IsOf n) (Begun at ∷ [])
one n at h = all_cons (IsOf n) (Begun at) [] h (all_none (IsOf n))

entries_append : (names : List (List ℕ)) (xs ys : List Step) → map (entry_of names) (xs ++ ys) ≡ map (entry_of names) xs ++ map (entry_of names) ys
entries_append names [] ys = refl
entries_append names (x ∷ xs) ys = ap (λ l. entry_of names x ∷ l) (entries_append names xs ys)

at_end : (names : List (List ℕ)) (file : List ℕ) → get_or (names ++ file ∷ []) (length names) [] ≡ file
at_end [] file = refl
at_end (name ∷ names) file = at_end names file

-- A file is begun again.
pub entries_again : (names : List (List ℕ)) (steps : List Step) (file : List ℕ) (at : ℕ) → position (is file) names ≡ Some at → map (entry_of names) (steps ++ Begun at ∷ []) ≡ map (entry_of names) steps ++ BegunEntry file ∷ []
entries_again names steps file at e = entries_append names steps (Begun at ∷ []) ∙ ap (λ name. map (entry_of names) steps ++ BegunEntry name ∷ []) (found_name file names at e).1

pub kept_again : (names texts : List (List ℕ)) (steps : List Step) (file : List ℕ) (at : ℕ) → position (is file) names ≡ Some at → KeepsSteps steps names texts → KeepsSteps (steps ++ Begun at ∷ []) names (set texts at [])
kept_again names texts steps file at e k =
    let P : List Entry → Type 0 = λ journal. Keeps journal names (set texts at []) in
    record {
      keeps = subst P (sym (entries_again names steps file at e)) (begin_again (map (entry_of names) steps) names texts file at e k.keeps);
      within = All-append (IsOf (length names)) steps (Begun at ∷ []) k.within (one (length names) at (found_name file names at e).0);
    }

-- A file is begun for the first time.
pub entries_new : (names : List (List ℕ)) (steps : List Step) (file : List ℕ) → All (IsOf (length names)) steps → map (entry_of (names ++ file ∷ [])) (steps ++ Begun (length names) ∷ []) ≡ map (entry_of names) steps ++ BegunEntry file ∷ []
entries_new names steps file within =
    entries_append (names ++ file ∷ []) steps (Begun (length names) ∷ [])
    ∙ ap₂ (λ l name. l ++ BegunEntry name ∷ []) (entries_grown names (file ∷ []) steps within) (at_end names file)

pub kept_new : (names texts : List (List ℕ)) (steps : List Step) (file : List ℕ) → position (is file) names ≡ None → KeepsSteps steps names texts → KeepsSteps (steps ++ Begun (length names) ∷ []) (names ++ file ∷ []) (texts ++ [] ∷ [])
kept_new names texts steps file e k =
    let P : List Entry → Type 0 = λ journal. Keeps journal (names ++ file ∷ []) (texts ++ [] ∷ []) in
    let more : length (names ++ file ∷ []) ≡ length names + 1 = length-append names (file ∷ []) in
    record {
      keeps = subst P (sym (entries_new names steps file k.within)) (begin_new (map (entry_of names) steps) names texts file e k.keeps);
      within = All-append (IsOf (length (names ++ file ∷ []))) steps (Begun (length names) ∷ []) (λ i d lt. is_of_more (length names) (length (names ++ file ∷ [])) (get_or steps i d) (omega arith) (k.within i d lt)) (one (length (names ++ file ∷ [])) (length names) (omega arith));
    }

-- Bytes are put behind a file that was begun.
bytes_entries : (names : List (List ℕ)) (at : ℕ) (file bytes : List ℕ) → get_or names at [] ≡ file → map (entry_of names) (map (λ b. Byte at b) bytes) ≡ appended file bytes
bytes_entries names at file [] e = refl
bytes_entries names at file (b ∷ bytes) e = ap₂ (λ x xs. x ∷ xs) (ap (λ name. ByteEntry name b) e) (bytes_entries names at file bytes e)

bytes_within : (n at : ℕ) (bytes : List ℕ) → at < n → All (IsOf n) (map (λ b. Byte at b) bytes)
bytes_within n at [] h = all_none (IsOf n)
bytes_within n at (b ∷ bytes) h = all_cons (IsOf n) (Byte at b) (map (λ c. Byte at c) bytes) h (bytes_within n at bytes h)

pub entries_put : (names : List (List ℕ)) (steps : List Step) (file bytes : List ℕ) (at : ℕ) → position (is file) names ≡ Some at → map (entry_of names) (steps ++ map (λ b. Byte at b) bytes) ≡ map (entry_of names) steps ++ appended file bytes
entries_put names steps file bytes at e = entries_append names steps (map (λ b. Byte at b) bytes) ∙ ap (λ l. map (entry_of names) steps ++ l) (bytes_entries names at file bytes (found_name file names at e).1)

pub kept_put : (names texts : List (List ℕ)) (steps : List Step) (file bytes : List ℕ) (at : ℕ) → position (is file) names ≡ Some at → KeepsSteps steps names texts → KeepsSteps (steps ++ map (λ b. Byte at b) bytes) names (set texts at (get_or texts at [] ++ bytes))
kept_put names texts steps file bytes at e k =
    let P : List Entry → Type 0 = λ journal. Keeps journal names (set texts at (get_or texts at [] ++ bytes)) in
    record {
      keeps = subst P (sym (entries_put names steps file bytes at e)) (put_behind_text (map (entry_of names) steps) names texts file bytes [] at e k.keeps);
      within = All-append (IsOf (length names)) steps (map (λ b. Byte at b) bytes) k.within (bytes_within (length names) at bytes (found_name file names at e).0);
    }

-- Bytes are put behind a file that was never begun.
strays_entries : (names : List (List ℕ)) (file bytes : List ℕ) → map (entry_of names) (map (λ b. Stray file b) bytes) ≡ appended file bytes
strays_entries names file [] = refl
strays_entries names file (b ∷ bytes) = ap (λ xs. ByteEntry file b ∷ xs) (strays_entries names file bytes)

strays_within : (n : ℕ) (file bytes : List ℕ) → All (IsOf n) (map (λ b. Stray file b) bytes)
strays_within n file [] = all_none (IsOf n)
strays_within n file (b ∷ bytes) = all_cons (IsOf n) (Stray file b) (map (λ c. Stray file c) bytes) tt (strays_within n file bytes)

pub entries_stray : (names : List (List ℕ)) (steps : List Step) (file bytes : List ℕ) → map (entry_of names) (steps ++ map (λ b. Stray file b) bytes) ≡ map (entry_of names) steps ++ appended file bytes
entries_stray names steps file bytes = entries_append names steps (map (λ b. Stray file b) bytes) ∙ ap (λ l. map (entry_of names) steps ++ l) (strays_entries names file bytes)

pub kept_stray : (names texts : List (List ℕ)) (steps : List Step) (file bytes : List ℕ) → position (is file) names ≡ None → KeepsSteps steps names texts → KeepsSteps (steps ++ map (λ b. Stray file b) bytes) names texts
kept_stray names texts steps file bytes e k =
    let P : List Entry → Type 0 = λ journal. Keeps journal names texts in
    record {
      keeps = subst P (sym (entries_stray names steps file bytes)) (put_nowhere (map (entry_of names) steps) names texts file bytes e k.keeps);
      within = All-append (IsOf (length names)) steps (map (λ b. Stray file b) bytes) k.within (strays_within (length names) file bytes);
    }

-- A file that has no name here was never begun.
pub never_begun : (names texts : List (List ℕ)) (steps : List Step) (file : List ℕ) → position (is file) names ≡ None → KeepsSteps steps names texts → content_of file (map (entry_of names) steps) ≡ None
never_begun names texts steps file e k = sym (read_none (map (entry_of names) steps) names texts file e k.keeps)

-- What is told where the journal grew.
untold : {P : Type 0} → false ≡ true → P
untold {P} differ = cc

pub was_whole : (before : Option (List Entry)) (whole : Bool) (old : List Entry) → IsSome before → cond whole (Some old) None ≡ before → whole ≡ true
was_whole before true old told e = refl
was_whole before false old told e = untold (subst IsSome (sym e) told)

pub told_adds : (before : Option (List Entry)) (whole now : Bool) (old new entries : List Entry) → IsSome before → cond whole (Some old) None ≡ before → (now ≡ true → new ≡ old ++ entries) → Adds before (cond now (Some new) None) entries
told_adds before false now old new entries told e grown = untold (subst IsSome (sym e) told)
told_adds before true false old new entries told e grown = tt
told_adds before true true old new entries told e grown =
    let P : Option (List Entry) → Type 0 = λ b. Adds b (Some new) entries in
    subst P e (grown refl)

pub told_fits : (before : Option (List Entry)) (whole : Bool) (old new entries : List Entry) → cond whole (Some old) None ≡ before → (whole ≡ true → new ≡ old ++ entries) → IfSome before (λ journal. cond whole (Some new) None ≡ Some (journal ++ entries))
told_fits before true old new entries e grown =
    let P : Option (List Entry) → Type 0 = λ b. IfSome b (λ journal. Some new ≡ Some (journal ++ entries)) in
    subst P e (ap Some (grown refl))
told_fits before false old new entries e grown =
    let P : Option (List Entry) → Type 0 = λ b. IfSome b (λ journal. None ≡ Some (journal ++ entries)) in
    subst P e tt

pub begun_fits : (before : Option (List Entry)) (whole : Bool) (old new entries : List Entry) (file : List ℕ) → cond whole (Some old) None ≡ before → (whole ≡ true → new ≡ old ++ entries) → IfSome before (λ journal. IsSome (content_of file journal) → cond whole (Some new) None ≡ Some (journal ++ entries))
begun_fits before true old new entries file e grown =
    let P : Option (List Entry) → Type 0 = λ b. IfSome b (λ journal. IsSome (content_of file journal) → Some new ≡ Some (journal ++ entries)) in
    subst P e (λ begun. ap Some (grown refl))
begun_fits before false old new entries file e grown =
    let P : Option (List Entry) → Type 0 = λ b. IfSome b (λ journal. IsSome (content_of file journal) → None ≡ Some (journal ++ entries)) in
    subst P e tt

pub stray_fits : (before now : Option (List Entry)) (whole : Bool) (old entries : List Entry) (file : List ℕ) → cond whole (Some old) None ≡ before → (whole ≡ true → content_of file old ≡ None) → IfSome before (λ journal. IsSome (content_of file journal) → now ≡ Some (journal ++ entries))
stray_fits before now true old entries file e never =
    let P : Option (List Entry) → Type 0 = λ b. IfSome b (λ journal. IsSome (content_of file journal) → now ≡ Some (journal ++ entries)) in
    subst P e (λ begun. untold (subst IsSome (never refl) begun))
stray_fits before now false old entries file e never =
    let P : Option (List Entry) → Type 0 = λ b. IfSome b (λ journal. IsSome (content_of file journal) → now ≡ Some (journal ++ entries)) in
    subst P e tt

pub where_ok : {T E : Type 0} (r : Result T E) (ok : Bool) (P : Type 0) → ok ≡ is_ok r → OnOk r P → ok ≡ true → P
where_ok (Ok x) ok P e h is_true = h
where_ok (Err x) ok P e h is_true = let no : false ≡ true = sym e ∙ is_true in cc

-- A place is found for a name that is handed as a text.
pub at_name : (name text : List ℕ) (names : List (List ℕ)) (found : Option ℕ) → text ≡ name → found ≡ position (is text) names → position (is name) names ≡ found
at_name name text names found e f = ap (λ t. position (is t) names) (sym e) ∙ sym f
