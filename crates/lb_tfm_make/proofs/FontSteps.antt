-- What the font of a file that is made does between two characters, and at the edges.
use Rattle.std.proofs.Common.{◌≡◌, ℕ, ◌+◌, ◌*◌, ◌-◌, ◌/◌, ◌%◌, ◌<◌, ◌⊎◌, inl, inr, Bool, true, false, cond, List, [], ◌∷◌, ◌++◌, length, get_or, drop, map, arith, refl, ap, ◌∙◌, sym, Option, None, Some, pos}
use Prim.Native.Nat.{zero, suc}
use Rattle.std.specs.Prelude.{slice_index, ◌&&◌, ◌||◌, ◌==◌, nat_lt, is_some}
use Rattle.std.specs.List.{find, list_any, position_from}
use Rattle.std.proofs.lemmas.List.{drop-map, get_or_append_left, map-append}
use Rattle.lb_base.specs.declared.font.Counts.{Counts}
use Rattle.lb_base.specs.declared.font.Step.{Step}
use Rattle.lb_base.specs.declared.font.Side.{Side}
use Rattle.lb_base.specs.declared.font.Side.TheVariants.{Char, Edge}
use Rattle.lb_base.specs.declared.font.LigStep.TheVariants.{Nothing}
use Rattle.lb_model_paper.specs.Fonts.{action_before, action_for, code_of, program, program_from, step_of}
use Rattle.lb_model_paper.specs.FontFiles.{byte_at, edge_code_in, edge_start_in, first_kern, first_step, font_with, named_place, start_for, step_at, words}
use Rattle.lb_tfm_make.specs.declared.spec.CharWidth.{CharWidth}
use Rattle.lb_tfm_make.specs.declared.spec.FontSpec.{FontSpec}
use Rattle.lb_tfm_make.specs.declared.spec.PairStep.{PairStep}
use Rattle.lb_tfm_make.specs.FontBytes.{Word, codes_of, distinct_widths, file_of, first_code, info_word, is_left, last_code, lefts, lefts_of, place_among, program_bytes, program_words, programs, restart, restarts, step_section, steps_behind, width_index}
use Rattle.lb_tfm_make.specs.FontSpecs.{are_right_steps, is_code, is_right_step, rise_from, row_of}
use Rattle.lb_tfm_make.specs.MadeFonts.{action_between, action_of, is_between}
use Rattle.lb_tfm_make.proofs.CharacterWords.{code-byte}
use Rattle.lb_tfm_make.proofs.Counts.{length-range, length-restarts, length-steps}
use Rattle.lb_tfm_make.proofs.FontParts.{missing, row-past, table-at}
use Rattle.lb_tfm_make.proofs.FontPrograms.{IsBegun, actions, begun-at, drop-both, find-behind, one-program, program-drop, step_of_word, steps-are}
use Rattle.lb_tfm_make.proofs.StepWords.{AllHave, IsRestart, IsStep, first-below, last-above, lefts-have, right-behind, row-exists, some-behind, step-good}
use Rattle.lb_tfm_make.proofs.Tests.{both, is-same, place-within, same}
use Rattle.lb_tfm_make.proofs.WholeFiles.{made_counts, step-byte}
use Rattle.lb_tfm_make.proofs.WordPlaces.{range-at}

-- ---- characters that have steps, and others

has-cases : (b : Bool) (steps : List PairStep) (code first j i : ℕ) (later : Option ℕ) → (first == code) ≡ b → list_any (is_left first) steps ≡ true → (later ≡ Some i → list_any (is_left code) steps ≡ true) → cond b (Some j) later ≡ Some i → list_any (is_left code) steps ≡ true
has-cases true steps code first j i later is have behind h = ap (λ n. list_any (is_left n) steps) (sym (is-same first code is)) ∙ have
has-cases false steps code first j i later is have behind h = behind h

has-steps : (steps : List PairStep) (code j i : ℕ) (codes : List ℕ) → AllHave steps codes → position_from (λ other. other == code) j codes ≡ Some i → list_any (is_left code) steps ≡ true
has-steps steps code j i [] have h = absurd cc
has-steps steps code j i (first ∷ codes) have h =
    has-cases (first == code) steps code first j i (position_from (λ other. other == code) (j + 1) codes) refl have.0 (has-steps steps code (j + 1) i codes have.1) h

none-later : (b : Bool) (j : ℕ) (later : Option ℕ) → cond b (Some j) later ≡ None → later ≡ None
none-later true j later h = absurd cc
none-later false j later h = h

lacks-first : (b : Bool) (steps : List PairStep) (code first j : ℕ) (codes : List ℕ) → first ≡ code → list_any (is_left first) steps ≡ b → position_from (λ other. other == code) j (cond b (first ∷ codes) codes) ≡ None → list_any (is_left code) steps ≡ false
lacks-first true steps code first j codes is has h = let e = same first code is in let g = rw e at h in absurd cc
lacks-first false steps code first j codes is has h = ap (λ n. list_any (is_left n) steps) (sym is) ∙ has

lacks-later : (b : Bool) (code first j : ℕ) (codes : List ℕ) → position_from (λ other. other == code) j (cond b (first ∷ codes) codes) ≡ None → (i : ℕ) × (position_from (λ other. other == code) i codes ≡ None)
lacks-later true code first j codes h = (j + 1, none-later (first == code) j (position_from (λ other. other == code) (j + 1) codes) h)
lacks-later false code first j codes h = (j, h)

lacks-steps : (steps : List PairStep) (code j k : ℕ) (codes : List ℕ) → k < length codes → get_or codes k 0 ≡ code → position_from (λ other. other == code) j (lefts steps codes) ≡ None → list_any (is_left code) steps ≡ false
unfolding lefts
lacks-steps steps code j k [] low at h = absurd (omega arith)
lacks-steps steps code j zero (first ∷ codes) low at h = lacks-first (list_any (is_left first) steps) steps code first j (lefts steps codes) at refl h
lacks-steps steps code j (suc k) (first ∷ codes) low at h =
    let t = lacks-later (list_any (is_left first) steps) code first j (lefts steps codes) h in
    let lt : k < length codes = omega arith in
    lacks-steps steps code t.0 k codes lt at t.1

between-cases : (a b : Bool) (step : PairStep) (later : Option PairStep) (any : Bool) → (a || any) ≡ false → (any ≡ false → later ≡ None) → cond (a && b) (Some step) later ≡ None
between-cases true b step later any h behind = absurd cc
between-cases false b step later any h behind = behind h

none-between : (steps : List PairStep) (left right : ℕ) → list_any (is_left left) steps ≡ false → find (is_between left right) steps ≡ None
none-between [] left right h = refl
none-between (step ∷ steps) left right h = between-cases (is_left left step) (step.right == right) step (find (is_between left right) steps) (list_any (is_left left) steps) h (none-between steps left right)

absent-cases : (b : Bool) (rows : List CharWidth) (left code : ℕ) (any : Bool) → (left == code) ≡ b → row_of rows code ≡ None → is_code rows left ≡ true → any ≡ false → (b || any) ≡ false
absent-cases true rows left code any is none has h =
    let e : is_some (row_of rows code) ≡ true = ap (λ n. is_code rows n) (sym (is-same left code is)) ∙ has in
    let f : is_some (row_of rows code) ≡ false = ap (λ (o : Option CharWidth). is_some o) none in
    absurd cc
absent-cases false rows left code any is none has h = h

no-row-no-steps : (rows : List CharWidth) (steps : List PairStep) (code : ℕ) → are_right_steps rows steps ≡ true → row_of rows code ≡ None → list_any (is_left code) steps ≡ false
unfolding are_right_steps
no-row-no-steps rows [] code h none = refl
no-row-no-steps rows (step ∷ steps) code h none =
    let t = both (is_right_step rows step) (are_right_steps rows steps) h in
    let left = both (is_code rows step.left) (is_code rows step.rem && nat_lt step.op 128) t.0 in
    absent-cases (step.left == code) rows step.left code (list_any (is_left code) steps) refl none left.0 (no-row-no-steps rows steps code t.1 none)

nothing-for : (steps : List PairStep) (left right : ℕ) → list_any (is_left left) steps ≡ false → Nothing ≡ action_between steps left right
nothing-for steps left right h = sym (ap action_of (none-between steps left right h))

-- ---- where a program begins

tag-bytes : (spec : FontSpec) (code : ℕ) (row : CharWidth) (place : Option ℕ) → row_of spec.widths code ≡ Some row → place_among (lefts_of spec) code ≡ place
    → info_word spec.widths (distinct_widths spec.widths) (lefts_of spec) code ≡ width_index (distinct_widths spec.widths) row.width ∷ 17 ∷ program_bytes place
unfolding info_word
tag-bytes spec code row place is among = rw (is, among) refl

no-start : (spec : FontSpec) (code : ℕ) → row_of spec.widths code ≡ None → start_for (file_of spec) (made_counts spec) code ≡ None
no-start spec code h = rw (missing spec code h) refl

untagged : (spec : FontSpec) (code : ℕ) (row : CharWidth) → rise_from 0 spec.widths ≡ true → row_of spec.widths code ≡ Some row → place_among (lefts_of spec) code ≡ None → start_for (file_of spec) (made_counts spec) code ≡ None
untagged spec code row rise is among =
    let word = tag-bytes spec code row None is among in
    let b = code-byte spec code 2 (first-below spec.widths code row rise is) (last-above spec.widths code row rise is) (omega arith) ∙ ap (λ (w : Word). slice_index w 2) word in
    rw (row-exists spec code row rise is, b) refl

restart-word : (spec : FontSpec) (code i : ℕ) → place_among (lefts_of spec) code ≡ Some i → (t : IsBegun spec.steps (length (lefts_of spec)) code i (lefts_of spec)) → get_or (step_section spec) i [] ≡ restart t.start
restart-word spec code i among t =
    let within = place-within (λ other. other == code) 0 i (lefts_of spec) among in
    let low : i < length (restarts spec.steps (length (lefts_of spec)) (lefts_of spec)) = omega (arith, length-restarts spec.steps (length (lefts_of spec)) (lefts_of spec)) in
    get_or_append_left (restarts spec.steps (length (lefts_of spec)) (lefts_of spec)) (programs spec.steps (lefts_of spec)) [] i low ∙ t.word

tagged : (spec : FontSpec) (code i : ℕ) (row : CharWidth) → rise_from 0 spec.widths ≡ true → row_of spec.widths code ≡ Some row → place_among (lefts_of spec) code ≡ Some i
    → (t : IsBegun spec.steps (length (lefts_of spec)) code i (lefts_of spec)) → start_for (file_of spec) (made_counts spec) code ≡ Some t.start
tagged spec code i row rise is among t =
    let word = tag-bytes spec code row (Some i) is among in
    let low = first-below spec.widths code row rise is in
    let high = last-above spec.widths code row rise is in
    let b2 = code-byte spec code 2 low high (omega arith) ∙ ap (λ (w : Word). slice_index w 2) word in
    let b3 = code-byte spec code 3 low high (omega arith) ∙ ap (λ (w : Word). slice_index w 3) word in
    let within = place-within (λ other. other == code) 0 i (lefts_of spec) among in
    let lt : i < length (step_section spec) = omega (arith, length-steps spec) in
    let s = λ (n : ℕ) (small : n < 4). step-byte spec i n lt small ∙ ap (λ (w : Word). slice_index w n) (restart-word spec code i among t) in
    let named : 256 * (t.start / 256) + t.start % 256 ≡ t.start = omega arith in
    rw (row-exists spec code row rise is, b2, b3, s 0 (omega arith), s 2 (omega arith), s 3 (omega arith)) (ap (λ (n : ℕ). Some n) named)

-- ---- the program that begins there

own-program : (bytes : List ℕ) (c : Counts) (size : ℕ) (own : List PairStep) (rest : List Step) → 0 < length own
    → program (map (step_of_word bytes c size) (program_words own) ++ rest) 0 ≡ map (step_of_word bytes c size) (program_words own)
own-program bytes c size [] rest some = absurd (omega arith)
own-program bytes c size (step ∷ own) rest some = one-program bytes c size step own rest

program-at : (spec : FontSpec) (size code i : ℕ) → place_among (lefts_of spec) code ≡ Some i → (t : IsBegun spec.steps (length (lefts_of spec)) code i (lefts_of spec))
    → program (map (step_of_word (file_of spec) (made_counts spec) size) (step_section spec)) t.start ≡ map (step_of_word (file_of spec) (made_counts spec) size) (program_words (steps_behind spec.steps code))
program-at spec size code i among t =
    let f = step_of_word (file_of spec) (made_counts spec) size in
    let codes = lefts_of spec in
    let own = steps_behind spec.steps code in
    let from = t.from in
    let here : t.start + 0 ≡ t.start = omega arith in
    let split : t.start ≡ length (restarts spec.steps (length codes) codes) + (t.start - length codes) = omega (arith, length-restarts spec.steps (length codes) codes) in
    let rest : drop t.start (step_section spec) ≡ program_words own ++ t.rest = drop-both (restarts spec.steps (length codes) codes) (programs spec.steps codes) t.start (t.start - length codes) split ∙ t.words in
    let some = some-behind spec.steps code (has-steps spec.steps code 0 i codes (lefts-have spec.steps (codes_of spec.widths)) among) in
    sym (ap (program (map f (step_section spec))) here)
    ∙ sym (program-drop (map f (step_section spec)) t.start 0)
    ∙ ap (λ (xs : List Step). program xs 0) (drop-map f t.start (step_section spec) ∙ ap (λ (ws : List Word). map f ws) rest ∙ map-append f (program_words own) t.rest)
    ∙ own-program (file_of spec) (made_counts spec) size own (map f t.rest) some

-- ---- between two characters

font_steps : FontSpec → ℕ → List Step
font_steps spec size = map (step_at (file_of spec) (made_counts spec) size) (words (first_step (made_counts spec)) (first_kern (made_counts spec)))

nothing-there : (right : ℕ) → action_for [] right ≡ Nothing
unfolding action_for
nothing-there right = refl

by-place : (spec : FontSpec) (size left right : ℕ) (row : CharWidth) (place : Option ℕ) → rise_from 0 spec.widths ≡ true → are_right_steps spec.widths spec.steps ≡ true → row_of spec.widths left ≡ Some row → place_among (lefts_of spec) left ≡ place
    → action_for (program_from (map (step_at (file_of spec) (made_counts spec) size) (words (first_step (made_counts spec)) (first_kern (made_counts spec)))) (start_for (file_of spec) (made_counts spec) left)) right ≡ action_between spec.steps left right
by-place spec size left right row None rise good is among =
    let k = left - first_code spec.widths in
    let n = last_code 0 spec.widths + 1 - first_code spec.widths in
    let low = first-below spec.widths left row rise is in
    let high = last-above spec.widths left row rise is in
    let lt : k < n = omega arith in
    let lr : k < length (codes_of spec.widths) = omega (arith, length-range (first_code spec.widths) n) in
    let at : first_code spec.widths + k ≡ left = omega arith in
    let lacks = lacks-steps spec.steps left 0 k (codes_of spec.widths) lr (range-at n (first_code spec.widths) k 0 lt ∙ at) among in
    rw (untagged spec left row rise is among) (nothing-there right ∙ nothing-for spec.steps left right lacks)
by-place spec size left right row (Some i) rise good is among =
    let t = begun-at spec.steps (length (lefts_of spec)) left i (lefts_of spec) among in
    rw (tagged spec left i row rise is among t, steps-are spec size, program-at spec size left i among t)
    (actions spec.widths (file_of spec) (made_counts spec) size right (steps_behind spec.steps left) (right-behind spec.widths spec.steps left good) ∙ ap action_of (find-behind spec.steps left right))

by-row : (spec : FontSpec) (size left right : ℕ) (found : Option CharWidth) → rise_from 0 spec.widths ≡ true → are_right_steps spec.widths spec.steps ≡ true → row_of spec.widths left ≡ found
    → action_for (program_from (map (step_at (file_of spec) (made_counts spec) size) (words (first_step (made_counts spec)) (first_kern (made_counts spec)))) (start_for (file_of spec) (made_counts spec) left)) right ≡ action_between spec.steps left right
by-row spec size left right None rise good is = rw (no-start spec left is) (nothing-there right ∙ nothing-for spec.steps left right (no-row-no-steps spec.widths spec.steps left good is))
by-row spec size left right (Some row) rise good is = by-place spec size left right row (place_among (lefts_of spec) left) rise good is refl

pub between : (spec : FontSpec) (size left right : ℕ) → rise_from 0 spec.widths ≡ true → last_code 0 spec.widths < 256 → are_right_steps spec.widths spec.steps ≡ true
    → step_of (font_with (file_of spec) (made_counts spec) (pos size)) (Char left) (Char right) ≡ action_between spec.steps left right
between spec size left right rise last good =
    rw (table-at (start_for (file_of spec) (made_counts spec)) left (λ high. no-start spec left (row-past spec.widths left rise (omega arith))))
    (by-row spec size left right (row_of spec.widths left) rise good refl)

-- ---- at the edges

not-edge : (rows : List CharWidth) (nl k : ℕ) (w : Word) → IsRestart nl w ⊎ IsStep rows nl k w → (slice_index w 0 == 255) ≡ false
not-edge rows nl k w (inl r) = rw r.skip refl
not-edge rows nl k w (inr r) = elim r.skip [ inl e ↦ rw e refl | inr e ↦ rw e.0 refl ]

edge-byte : (spec : FontSpec) (k word : ℕ) → are_right_steps spec.widths spec.steps ≡ true → k < length (step_section spec) → word ≡ first_step (made_counts spec) + k → (byte_at (file_of spec) word 0 == 255) ≡ false
edge-byte spec k word good low at =
    rw (at, step-byte spec k 0 low (omega arith)) (not-edge spec.widths (length (step_section spec)) k (get_or (step_section spec) k []) (step-good spec k good low))

edge-cases : (b e : Bool) (x : ℕ) → (b ≡ true → e ≡ false) → cond (b && e) (Some x) None ≡ None
edge-cases true e x h = rw (h refl) refl
edge-cases false e x h = refl

no-edge-code : (spec : FontSpec) → are_right_steps spec.widths spec.steps ≡ true → edge_code_in (file_of spec) (made_counts spec) ≡ None
no-edge-code spec good =
    let c = made_counts spec in
    edge-cases (nat_lt 0 (length (step_section spec))) (byte_at (file_of spec) (first_step c) 0 == 255) (byte_at (file_of spec) (first_step c) 1)
    (λ h. let some = Rattle.lb_tfm_make.proofs.Tests.is-above 0 (length (step_section spec)) h in edge-byte spec 0 (first_step c) good some (omega arith))

no-edge-start : (spec : FontSpec) → are_right_steps spec.widths spec.steps ≡ true → edge_start_in (file_of spec) (made_counts spec) ≡ None
no-edge-start spec good =
    let c = made_counts spec in
    let n = length (step_section spec) in
    edge-cases (nat_lt 0 n) (byte_at (file_of spec) (first_kern c - 1) 0 == 255) (named_place (file_of spec) (first_kern c - 1))
    (λ h. let some = Rattle.lb_tfm_make.proofs.Tests.is-above 0 n h in edge-byte spec (n - 1) (first_kern c - 1) good (omega arith) (omega arith))

nothing-before : (code : Option ℕ) → action_before [] code ≡ Nothing
nothing-before None = refl
nothing-before (Some code) = nothing-there code

pub left-edge : (spec : FontSpec) (size : ℕ) (right : Side) → are_right_steps spec.widths spec.steps ≡ true → step_of (font_with (file_of spec) (made_counts spec) (pos size)) Edge right ≡ Nothing
left-edge spec size right good = rw (no-edge-start spec good) (nothing-before (code_of (font_with (file_of spec) (made_counts spec) (pos size)) right))

pub right-edge : (spec : FontSpec) (size : ℕ) (left : Side) → are_right_steps spec.widths spec.steps ≡ true → step_of (font_with (file_of spec) (made_counts spec) (pos size)) left Edge ≡ Nothing
right-edge spec size left good = rw (no-edge-code spec good) refl
