-- The first rule that is broken.
use Rattle.std.proofs.Common.{◌≡◌, ℕ, List, Option, None, Some, ap, sym, ◌∙◌, refl}
use Rattle.lb_base.specs.declared.font.Counts.{Counts}
use Rattle.lb_model_paper.specs.FontFiles.{counts_of}
use Rattle.lb_model_paper.specs.FontRules.{broken_or, broken_section, broken_with, first_broken, large_count, missing_counts, missing_words, wrong_count, wrong_design, wrong_dimension, wrong_info, wrong_length, wrong_step}
use Rattle.lb_tfm.specs.Wholes.{IsSound}
use Rattle.lb_tfm.proofs.WholeFiles.{is-whole}

pub found : (rule word : ℕ) (o : Option ℕ) (later : Option (ℕ × ℕ)) → Some word ≡ o → ◌≡◌ {A = Option (ℕ × ℕ)} (Some (rule, word)) (broken_or rule o later)
found rule word o later h = ap (λ (x : Option ℕ). broken_or rule x later) h

pub passed : (rule : ℕ) (o : Option ℕ) (later r : Option (ℕ × ℕ)) → o ≡ None → r ≡ later → r ≡ broken_or rule o later
passed rule o later r h same = same ∙ sym (ap (λ (x : Option ℕ). broken_or rule x later) h)

pub broken-1 : (bytes : List ℕ) (word : ℕ) → Some word ≡ missing_counts bytes → ◌≡◌ {A = Option (ℕ × ℕ)} (Some (1, word)) (first_broken bytes)
unfolding first_broken
broken-1 bytes word h = found 1 word (missing_counts bytes) (broken_or 2 (large_count bytes) (broken_with bytes (counts_of bytes))) h

pub broken-2 : (bytes : List ℕ) (word : ℕ) → missing_counts bytes ≡ None → Some word ≡ large_count bytes → ◌≡◌ {A = Option (ℕ × ℕ)} (Some (2, word)) (first_broken bytes)
unfolding first_broken
broken-2 bytes word one h =
    passed 1 (missing_counts bytes) (broken_or 2 (large_count bytes) (broken_with bytes (counts_of bytes))) (Some (2, word)) one
    (found 2 word (large_count bytes) (broken_with bytes (counts_of bytes)) h)

pub broken-later : (bytes : List ℕ) (c : Counts) (r : Option (ℕ × ℕ)) → c ≡ counts_of bytes → missing_counts bytes ≡ None → large_count bytes ≡ None → r ≡ broken_with bytes c → r ≡ first_broken bytes
unfolding first_broken
broken-later bytes c r is one two h =
    passed 1 (missing_counts bytes) (broken_or 2 (large_count bytes) (broken_with bytes (counts_of bytes))) r one
    (passed 2 (large_count bytes) (broken_with bytes (counts_of bytes)) r two (h ∙ ap (broken_with bytes) is))

pub broken-3 : (bytes : List ℕ) (c : Counts) (word : ℕ) → Some word ≡ wrong_count c → ◌≡◌ {A = Option (ℕ × ℕ)} (Some (3, word)) (broken_with bytes c)
broken-3 bytes c word h = found 3 word (wrong_count c) (broken_or 4 (missing_words bytes c) (broken_section bytes c)) h

pub broken-4 : (bytes : List ℕ) (c : Counts) (word : ℕ) → wrong_count c ≡ None → Some word ≡ missing_words bytes c → ◌≡◌ {A = Option (ℕ × ℕ)} (Some (4, word)) (broken_with bytes c)
broken-4 bytes c word three h =
    passed 3 (wrong_count c) (broken_or 4 (missing_words bytes c) (broken_section bytes c)) (Some (4, word)) three
    (found 4 word (missing_words bytes c) (broken_section bytes c) h)

pub broken-5-on : (bytes : List ℕ) (c : Counts) (r : Option (ℕ × ℕ)) → wrong_count c ≡ None → missing_words bytes c ≡ None → r ≡ broken_section bytes c → r ≡ broken_with bytes c
broken-5-on bytes c r three four h =
    passed 3 (wrong_count c) (broken_or 4 (missing_words bytes c) (broken_section bytes c)) r three
    (passed 4 (missing_words bytes c) (broken_section bytes c) r four h)

-- ---- a file that breaks no rule

pub kept : (rule : ℕ) (o : Option ℕ) (later : Option (ℕ × ℕ)) → broken_or rule o later ≡ None → (o ≡ None) × (later ≡ None)
kept rule None later h = (refl, h)
kept rule (Some word) later h = absurd cc

pub kept-1 : (bytes : List ℕ) → first_broken bytes ≡ None → missing_counts bytes ≡ None
unfolding first_broken
kept-1 bytes h = (kept 1 (missing_counts bytes) (broken_or 2 (large_count bytes) (broken_with bytes (counts_of bytes))) h).0

pub is-sound : (bytes : List ℕ) (c : Counts) → c ≡ counts_of bytes → first_broken bytes ≡ None → IsSound bytes c
unfolding first_broken
is-sound bytes c is h =
    let one = kept 1 (missing_counts bytes) (broken_or 2 (large_count bytes) (broken_with bytes (counts_of bytes))) h in
    let two = kept 2 (large_count bytes) (broken_with bytes (counts_of bytes)) one.1 in
    let all : broken_with bytes c ≡ None = ap (broken_with bytes) is ∙ two.1 in
    let three = kept 3 (wrong_count c) (broken_or 4 (missing_words bytes c) (broken_section bytes c)) all in
    let four = kept 4 (missing_words bytes c) (broken_section bytes c) three.1 in
    let five = kept 5 (wrong_design bytes) (broken_or 6 (wrong_info bytes c) (broken_or 7 (wrong_dimension bytes c) (broken_or 8 (wrong_step bytes c) (broken_or 9 (wrong_length bytes c) None)))) four.1 in
    let six = kept 6 (wrong_info bytes c) (broken_or 7 (wrong_dimension bytes c) (broken_or 8 (wrong_step bytes c) (broken_or 9 (wrong_length bytes c) None))) five.1 in
    let seven = kept 7 (wrong_dimension bytes c) (broken_or 8 (wrong_step bytes c) (broken_or 9 (wrong_length bytes c) None)) six.1 in
    let eight = kept 8 (wrong_step bytes c) (broken_or 9 (wrong_length bytes c) None) seven.1 in
    record { whole = is-whole bytes c is two.0 three.0 four.0; infos = six.0; steps = eight.0 }
