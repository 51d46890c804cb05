-- What is written to aux files is read back.
use Rattle.std.proofs.Common.{◌≡◌, ◌∙◌, ◌++◌, Bool, true, ℕ, suc, ℤ, pos, negsuc, List, [], ◌∷◌, Some, None, refl, ap, sym, subst, append_assoc, append-nil, arith, map, decimal}
use Rattle.std.specs.Prelude.{◌==◌, ◌&&◌, not, codes, if◌then◌else◌}
use Rattle.std.specs.Fmt.{signed_decimal}
use Rattle.std.specs.List.{AllByRecursion, flat_map, list_all}
use Rattle.std.specs.Option.{option_and_then, option_map}
use Rattle.std.proofs.lemmas.List.Folds.{list_all-append}
use Rattle.lb_values.specs.declared.value.LabelPair.{LabelPair}
use Rattle.lb_model.specs.Ranges.{is_number}
use Rattle.lb_model_paper.specs.Texts.{line}
use Rattle.lb_model_aux.specs.declared.line.Line.{Line}
use Rattle.lb_model_aux.specs.declared.line.Line.TheVariants.{Label, Input, Entry}
use Rattle.lb_model_aux.specs.Forms.{alone, before_brace, chapter_of, counter_of, entry_of, input_of, is_digit, line_of, number_of, or_else, pair_of, without_ending, without_percent}
use Rattle.lb_model_aux.specs.Groups.{IsBalanced, is_plain}
use Rattle.lb_model_aux.specs.Groups.AreGroups.{none}
use Rattle.lb_model_aux.specs.Groups.IsBalanced.{escaped, group, nothing, plain}
use Rattle.lb_model_aux.specs.ReadBack.{IsCounterReadBack, CheckpointsAreReadBack, EntriesAreReadBack, FirstLinesAreReadBack, InputsAreReadBack, LabelsAreReadBack}
use Rattle.lb_model_aux.specs.Reading.{counters_to_close, lines_of, read_of, said}
use Rattle.lb_model_journal.specs.Written.{braced, checkpoint_lines, contents_entry, counter_line, written}
use Rattle.lb_model_aux.proofs.Closings.{checkpoint_said, close-here, close-later, said-checkpoint, said-line, with_counter}
use Rattle.lb_model_aux.proofs.GroupReading.{balanced-braced, both, group-read}
use Rattle.lb_model_aux.proofs.LineReading.{first-line, last-group, not-ending, pair-read, two-read, without-none}
use Rattle.lb_model_aux.proofs.Numerals.{IsNumeral, number-read, numeral}

-- ---- Texts of one line

abbrev Inner : List ℕ → Type 0
Inner text = list_all (λ c. not (c == 10)) text ≡ true

inner-append : (x y : List ℕ) → Inner x → Inner y → Inner (x ++ y)
inner-append x y a b = list_all-append (λ c. not (c == 10)) x y ∙ ap (λ t. t && list_all (λ c. not (c == 10)) y) a ∙ b

inner-braced : (x : List ℕ) → Inner x → Inner (braced x)
inner-braced x a = inner-append x (125 ∷ []) a refl

-- ---- Balanced texts

balanced-one : (inner : List ℕ) → IsBalanced inner → IsBalanced (braced inner)
balanced-one inner a = group a nothing

balanced-plain : (x text : List ℕ) → list_all is_plain x ≡ true → IsBalanced text → IsBalanced (x ++ text)
balanced-plain [] text e b = b
balanced-plain (c ∷ x) text e b = let p = both (is_plain c) (list_all is_plain x) e in plain p.0 (balanced-plain x text p.1 b)

-- ---- Lines

ends-in-brace : (front inner : List ℕ) → (front ++ 123 ∷ inner) ++ 125 ∷ [] ≡ front ++ braced inner
ends-in-brace front inner = append_assoc front (123 ∷ inner) (125 ∷ [])

-- a line that ends in a group, before a text
first-braced : (front inner text : List ℕ) → Inner (front ++ braced inner) → lines_of (line (front ++ braced inner) ++ text) ≡ (front ++ braced inner) ∷ lines_of text
first-braced front inner text =
    subst (λ l. Inner l → lines_of (line l ++ text) ≡ l ∷ lines_of text) (ends-in-brace front inner) (λ e. first-line (front ++ 123 ∷ inner) 125 text e refl)

said-first : (l text : List ℕ) (x : Line) → lines_of (line l ++ text) ≡ l ∷ lines_of text → chapter_of l ≡ None → line_of l ≡ Some x → read_of (line l ++ text) ≡ x ∷ read_of text
unfolding read_of
said-first l text x h e f = ap (said 0) h ∙ said-line l (lines_of text) (Some x) e f

-- ---- Labels

label-read : (key : List ℕ) (pair : LabelPair) → IsBalanced key → IsBalanced pair.text → IsBalanced pair.page
    → line_of (codes "\\newlabel" ++ braced key ++ braced (braced pair.text ++ braced pair.page)) ≡ Some (Label key pair)
label-read key pair k t p =
    let l = codes "\\newlabel" ++ braced key ++ braced (braced pair.text ++ braced pair.page) in
    ap (λ o. or_else (option_and_then (λ a. option_map (Label a.0) (pair_of a.1)) o) (or_else (input_of l) (entry_of l)))
    (two-read k (balanced-braced pair.text (braced pair.page) t (balanced-one pair.page p)))
    ∙ ap (λ v. or_else (option_map (Label key) (pair_of (braced pair.text ++ v))) (or_else (input_of l) (entry_of l))) (sym (append-nil (braced pair.page)))
    ∙ ap (λ o. or_else (option_map (Label key) o) (or_else (input_of l) (entry_of l))) (pair-read t p none)

pub labels-read-back : LabelsAreReadBack
labels-read-back key pair text k t p =
    let front = codes "\\newlabel" ++ braced key in
    let value = braced pair.text ++ braced pair.page in
    let inner : Inner (front ++ braced value) =
    inner-append front (braced value) (inner-append (codes "\\newlabel") (braced key) refl (inner-braced key k.one_line))
    (inner-braced value (inner-append (braced pair.text) (braced pair.page) (inner-braced pair.text t.one_line) (inner-braced pair.page p.one_line))) in
    said-first (front ++ braced value) text (Label key pair) (first-braced front value text inner) refl (label-read key pair k.balanced t.balanced p.balanced)

-- ---- Entries

entry-stays : (x : List ℕ) → without_percent (x ++ 125 ∷ []) ≡ x ++ 125 ∷ []
entry-stays x =
    let l = x ++ 125 ∷ [] in
    ap (λ (b : Bool). if b then without_ending (codes "\\protected@file@percent ") l else without_ending (codes "\\protected@file@percent") l)
    (not-ending x (codes "\\protected@file@percent") 125 32 refl)
    ∙ without-none x (codes "\\protected@file@percen") 125 116 refl

pub entries-read-back : EntriesAreReadBack
entries-read-back ext entry text e k t p =
    let front = codes "\\@writefile" ++ braced ext in
    let inside = codes "\\contentsline " ++ braced entry.kind ++ braced (written entry.title) in
    let value = contents_entry entry in
    let l = front ++ braced value in
    let inner_value : Inner value =
    inner-append inside (braced (written entry.page)) (inner-append (codes "\\contentsline " ++ braced entry.kind) (braced (written entry.title))
    (inner-append (codes "\\contentsline ") (braced entry.kind) refl (inner-braced entry.kind k.one_line)) (inner-braced (written entry.title) t.one_line))
    (inner-braced (written entry.page) p.one_line) in
    let inner : Inner l = inner-append front (braced value) (inner-append (codes "\\@writefile") (braced ext) refl (inner-braced ext e.one_line)) (inner-braced value inner_value) in
    let balanced_rest : IsBalanced (braced entry.kind ++ braced (written entry.title) ++ braced (written entry.page)) =
    subst IsBalanced (sym (append_assoc (braced entry.kind) (braced (written entry.title)) (braced (written entry.page))))
    (balanced-braced entry.kind (braced (written entry.title) ++ braced (written entry.page)) k.balanced
    (balanced-braced (written entry.title) (braced (written entry.page)) t.balanced (balanced-one (written entry.page) p.balanced))) in
    let balanced : IsBalanced value = escaped (balanced-plain (codes "ontentsline ") (braced entry.kind ++ braced (written entry.title) ++ braced (written entry.page)) refl balanced_rest) in
    let stays : without_percent value ≡ value = subst (λ v. without_percent v ≡ v) (ends-in-brace inside (written entry.page)) (entry-stays (inside ++ 123 ∷ written entry.page)) in
    let read : line_of l ≡ Some (Entry ext value) =
    ap (option_map (λ a. Entry a.0 (without_percent a.1))) (two-read e.balanced balanced) ∙ ap (λ v. Some (Entry ext v)) stays in
    said-first l text (Entry ext value) (first-braced front value text inner) refl read

-- ---- The first lines of aux files

pub first-lines-read-back : FirstLinesAreReadBack
unfolding read_of said
first-lines-read-back text =
    ap (said 0) (first-line (codes "\\relax") 32 text refl refl)

pub inputs-read-back : InputsAreReadBack
inputs-read-back chapter text c =
    let file = chapter ++ codes ".aux" in
    let same : codes "\\@input{" ++ chapter ++ codes ".aux}" ≡ codes "\\@input" ++ braced file = ap (λ x. codes "\\@input{" ++ x) (sym (append_assoc chapter (codes ".aux") (125 ∷ []))) in
    let inner : Inner (codes "\\@input" ++ braced file) = inner-append (codes "\\@input") (braced file) refl (inner-braced file (inner-append chapter (codes ".aux") c.one_line refl)) in
    let behind : IsBalanced file = balanced-behind c.balanced in
    let read : line_of (codes "\\@input" ++ braced file) ≡ Some (Input file) =
    ap (λ o. or_else (option_map Input (option_and_then (λ g. alone g.0 g.1) o)) None) (last-group behind) in
    ap (λ l. read_of (line l ++ text)) same
    ∙ said-first (codes "\\@input" ++ braced file) text (Input file) (first-braced (codes "\\@input") file text inner) refl read
  where
    balanced-behind : {x : List ℕ} → IsBalanced x → IsBalanced (x ++ codes ".aux")
    balanced-behind nothing = balanced-plain (codes ".aux") [] refl nothing
    balanced-behind (escaped b) = escaped (balanced-behind b)
    balanced-behind (plain e b) = plain e (balanced-behind b)
    balanced-behind (group {inner} {text} a b) =
        subst (λ l. IsBalanced (123 ∷ l)) (sym (append_assoc inner (125 ∷ text) (codes ".aux"))) (group a (balanced-behind b))

-- ---- Checkpoints

abbrev counter_text : List ℕ × ℤ → List ℕ
counter_text c = codes "\\setcounter" ++ braced c.0 ++ braced (signed_decimal c.1)

digit-plain : (c : ℕ) → is_digit c ≡ true → (is_plain c ≡ true) × (not (c == 10) ≡ true)
digit-plain c e = (grind (arith, e), grind (arith, e))

digits-plain : (ds : List ℕ) → list_all is_digit ds ≡ true → (list_all is_plain ds ≡ true) × (Inner ds)
digits-plain [] e = (refl, refl)
digits-plain (c ∷ ds) e =
    let p = both (is_digit c) (list_all is_digit ds) e in
    let q = digit-plain c p.0 in
    let r = digits-plain ds p.1 in
    (rw (q.0, r.0) refl, rw (q.1, r.1) refl)

number-plain : (n : ℤ) → is_number n ≡ true → (list_all is_plain (signed_decimal n) ≡ true) × (Inner (signed_decimal n))
number-plain (pos n) h = let d : IsNumeral n (decimal n) = numeral n (grind (arith, h)) in digits-plain (decimal n) d.all
number-plain (negsuc n) h = let d : IsNumeral (suc n) (decimal (suc n)) = numeral (suc n) (grind (arith, h)) in digits-plain (decimal (suc n)) d.all

counter-read : (c : List ℕ × ℤ) → IsCounterReadBack c → counter_of (counter_text c) ≡ Some c
counter-read c h =
    let plain_number = (number-plain c.1 h.number).0 in
    let balanced : IsBalanced (signed_decimal c.1) = subst IsBalanced (append-nil (signed_decimal c.1)) (balanced-plain (signed_decimal c.1) [] plain_number nothing) in
    ap (option_and_then (λ a. option_map (λ n. (a.0, n)) (number_of a.1))) (two-read h.name.balanced balanced)
    ∙ ap (option_map (λ n. (c.0, n))) (number-read c.1 h.number)

counter-lines : (counters : List (List ℕ × ℤ)) (text : List ℕ) → AllByRecursion IsCounterReadBack counters
    → lines_of (flat_map counter_line counters ++ text) ≡ map counter_text counters ++ lines_of text
counter-lines [] text h = refl
counter-lines (c ∷ counters) text h =
    let front = codes "\\setcounter" ++ braced c.0 in
    let inner : Inner (counter_text c) = inner-append front (braced (signed_decimal c.1)) (inner-append (codes "\\setcounter") (braced c.0) refl (inner-braced c.0 h.0.name.one_line)) (inner-braced (signed_decimal c.1) (number-plain c.1 h.0.number).1) in
    ap lines_of (append_assoc (counter_line c) (flat_map counter_line counters) text)
    ∙ first-braced front (signed_decimal c.1) (flat_map counter_line counters ++ text) inner
    ∙ ap (λ ls. counter_text c ∷ ls) (counter-lines counters text h.1)

counters-found : (counters : List (List ℕ × ℤ)) (ls : List (List ℕ)) → AllByRecursion IsCounterReadBack counters
    → counters_to_close (map counter_text counters ++ (125 ∷ []) ∷ ls) ≡ Some (counters, ls)
counters-found [] ls h = close-here (125 ∷ []) ls refl
counters-found (c ∷ counters) ls h =
    close-later (counter_text c) (map counter_text counters ++ (125 ∷ []) ∷ ls) refl
    ∙ ap (with_counter (counter_of (counter_text c))) (counters-found counters ls h.1)
    ∙ ap (λ o. with_counter o (Some (counters, ls))) (counter-read c h.0)

pub checkpoints-read-back : CheckpointsAreReadBack
unfolding read_of
checkpoints-read-back chapter counters text c h =
    let start = codes "\\@setckpt" ++ braced chapter in
    let middle = flat_map counter_line counters in
    let close = line (125 ∷ []) in
    let inner : Inner (start ++ 123 ∷ []) = inner-append start (123 ∷ []) (inner-append (codes "\\@setckpt") (braced chapter) refl (inner-braced chapter c.one_line)) refl in
    let parts : checkpoint_lines chapter counters ++ text ≡ line (start ++ 123 ∷ []) ++ (middle ++ (close ++ text)) =
    append_assoc (line (start ++ 123 ∷ []) ++ middle) close text ∙ append_assoc (line (start ++ 123 ∷ [])) middle (close ++ text) in
    let behind : lines_of (middle ++ (close ++ text)) ≡ map counter_text counters ++ (125 ∷ []) ∷ lines_of text =
    counter-lines counters (close ++ text) h ∙ ap (λ ls. map counter_text counters ++ ls) (first-line [] 125 text refl refl) in
    let lines : lines_of (checkpoint_lines chapter counters ++ text) ≡ (start ++ 123 ∷ []) ∷ (map counter_text counters ++ (125 ∷ []) ∷ lines_of text) =
    ap lines_of parts ∙ first-line start 123 (middle ++ (close ++ text)) inner refl ∙ ap (λ ls. (start ++ 123 ∷ []) ∷ ls) behind in
    let opens : chapter_of (start ++ 123 ∷ []) ≡ Some chapter =
    ap (option_and_then (λ g. before_brace g.0 g.1)) (group-read (123 ∷ []) c.balanced) in
    ap (said 0) lines
    ∙ said-checkpoint (start ++ 123 ∷ []) (map counter_text counters ++ (125 ∷ []) ∷ lines_of text) chapter opens
    ∙ ap (checkpoint_said chapter) (counters-found counters (lines_of text) h)
