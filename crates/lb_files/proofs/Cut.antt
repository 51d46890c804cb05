-- Texts that stand one behind the other: how one is read and how one changes.
use Rattle.std.proofs.Common.{◌≡◌, ℕ, Bool, cond, Option, Some, ◌+◌, ◌<◌, ◌≤◌, List, [], ◌∷◌, ◌++◌, length, take, drop, get_or, sum, refl, sym, ◌∙◌, ap, zero, suc, zero-add, suc-add, add_assoc, append_assoc, arith, length-append, length-drop, ◌-◌}
use Rattle.std.proofs.Math.ListN.{set}
use Rattle.std.proofs.Math.Seq.{take-append_seam, drop-append_seam, take-add, take-length}
use Rattle.std.proofs.lemmas.List.{length-take-le, drop-drop, take-append-le, drop-append-le}
use Rattle.std.proofs.lemmas.List.Sums.{sum_by-cons, sum_by-set, sum_by_more_le}
use Rattle.std.specs.List.{position_from}
use Rattle.lb_files.specs.Cut.{cut}

sum_cons : (x : ℕ) (xs : List ℕ) → sum (x ∷ xs) ≡ x + sum xs
sum_cons = sum_by-cons (λ x. x)

pub cut_long : (lengths bytes : List ℕ) → length (cut lengths bytes) ≡ length lengths
cut_long [] bytes = refl
cut_long (n ∷ lengths) bytes = ap suc (cut_long lengths (drop n bytes))

pub cut_push : (lengths bytes text : List ℕ) → sum lengths ≡ length bytes → cut (lengths ++ length text ∷ []) (bytes ++ text) ≡ cut lengths bytes ++ text ∷ []
cut_push [] [] text all = ap (λ t. t ∷ []) (take-length text)
cut_push [] (b ∷ bytes) text all = absurd (omega arith)
cut_push (n ∷ lengths) bytes text all =
    let within : n ≤ length bytes = omega (arith, sum_cons n lengths) in
    let rest : sum lengths ≡ length (drop n bytes) = omega (arith, sum_cons n lengths, length-drop n bytes) in
    ap (λ t. t ∷ cut (lengths ++ length text ∷ []) (drop n (bytes ++ text))) (take-append-le n bytes text within)
    ∙ ap (λ b. take n bytes ∷ cut (lengths ++ length text ∷ []) b) (drop-append-le n bytes text within)
    ∙ ap (λ l. take n bytes ∷ l) (cut_push lengths (drop n bytes) text rest)

-- One turn of a walk over the texts: those from place i on begin with the text of n bytes that starts at s.
pub next_text : (lengths bytes : List ℕ) (i s n : ℕ) → i < length lengths → n ≡ get_or lengths i n → cut (drop i lengths) (drop s bytes) ≡ take n (drop s bytes) ∷ cut (drop (i + 1) lengths) (drop (s + n) bytes)
next_text [] bytes i s n h e = absurd (omega arith)
next_text (m ∷ lengths) bytes zero s n h e =
    let same : m ≡ n = sym e in
    ap (λ k. take k (drop s bytes) ∷ cut lengths (drop k (drop s bytes))) same
    ∙ ap (λ b. take n (drop s bytes) ∷ cut lengths b) (drop-drop n s bytes)
next_text (m ∷ lengths) bytes (suc i) s n h e =
    next_text lengths bytes i s n (omega arith) e ∙ ap (λ k. take n (drop s bytes) ∷ cut (drop k (m ∷ lengths)) (drop (s + n) bytes)) (sym (suc-add i 1))

sum_from : (lengths : List ℕ) (i n : ℕ) → i < length lengths → n ≡ get_or lengths i n → sum (drop i lengths) ≡ n + sum (drop (i + 1) lengths)
sum_from [] i n h e = absurd (omega arith)
sum_from (m ∷ lengths) zero n h e = sum_cons m lengths ∙ ap (λ k. k + sum lengths) (sym e)
sum_from (m ∷ lengths) (suc i) n h e = sum_from lengths i n (omega arith) e ∙ ap (λ k. n + sum (drop k (m ∷ lengths))) (sym (suc-add i 1))

pub left_after : (lengths : List ℕ) (i s n all : ℕ) → i < length lengths → n ≡ get_or lengths i n → s + sum (drop i lengths) ≡ all → s + n + sum (drop (i + 1) lengths) ≡ all
left_after lengths i s n all h e left = omega (arith, sum_from lengths i n h e)

pub found_or_after : (p : List ℕ → Bool) (lengths bytes : List ℕ) (found : Option ℕ) (i s n : ℕ) → i < length lengths → n ≡ get_or lengths i n → found ≡ position_from p i (cut (drop i lengths) (drop s bytes)) → found ≡ cond (p (take (s + n - s) (drop s bytes))) (Some i) (position_from p (i + 1) (cut (drop (i + 1) lengths) (drop (s + n) bytes)))
found_or_after p lengths bytes found i s n h e whole =
    let same : n ≡ s + n - s = omega arith in
    whole ∙ ap (position_from p i) (next_text lengths bytes i s n h e)
    ∙ ap (λ k. cond (p (take k (drop s bytes))) (Some i) (position_from p (i + 1) (cut (drop (i + 1) lengths) (drop (s + n) bytes)))) same

pub text_there : (lengths bytes : List ℕ) (i d : ℕ) → i < length lengths → get_or (cut lengths bytes) i [] ≡ take (get_or lengths i d) (drop (sum (take i lengths)) bytes)
text_there [] bytes i d h = absurd (omega arith)
text_there (n ∷ lengths) bytes zero d h = refl
text_there (n ∷ lengths) bytes (suc i) d h =
    text_there lengths (drop n bytes) i d (omega arith) ∙ ap (take (get_or lengths i d)) (drop-drop (sum (take i lengths)) n bytes ∙ ap (λ k. drop k bytes) (sym (sum_cons n (take i lengths))))

-- the bytes after the text of n bytes that starts at s became v
abbrev pub with_text : ℕ → ℕ → List ℕ → List ℕ → List ℕ
with_text s n v bytes = take s bytes ++ (v ++ drop (s + n) bytes)

take_of_sum : (n m : ℕ) (bytes ys : List ℕ) → n ≤ length bytes → take n (take (n + m) bytes ++ ys) ≡ take n bytes
take_of_sum n m bytes ys h =
    let e : take (n + m) bytes ++ ys ≡ take n bytes ++ (take m (drop n bytes) ++ ys) = ap (λ l. l ++ ys) (take-add n m bytes) ∙ append_assoc (take n bytes) (take m (drop n bytes)) ys in
    let long : length (take n bytes) ≡ n = length-take-le n bytes h in
    ap (take n) e ∙ ap (λ k. take k (take n bytes ++ (take m (drop n bytes) ++ ys))) (sym long) ∙ take-append_seam (take n bytes) (take m (drop n bytes) ++ ys)

drop_of_sum : (n m : ℕ) (bytes ys : List ℕ) → n ≤ length bytes → drop n (take (n + m) bytes ++ ys) ≡ take m (drop n bytes) ++ ys
drop_of_sum n m bytes ys h =
    let e : take (n + m) bytes ++ ys ≡ take n bytes ++ (take m (drop n bytes) ++ ys) = ap (λ l. l ++ ys) (take-add n m bytes) ∙ append_assoc (take n bytes) (take m (drop n bytes)) ys in
    let long : length (take n bytes) ≡ n = length-take-le n bytes h in
    ap (drop n) e ∙ ap (λ k. drop k (take n bytes ++ (take m (drop n bytes) ++ ys))) (sym long) ∙ drop-append_seam (take n bytes) (take m (drop n bytes) ++ ys)

pub cut_set : (lengths bytes v : List ℕ) (i d : ℕ) → i < length lengths → sum lengths ≡ length bytes → cut (set lengths i (length v)) (with_text (sum (take i lengths)) (get_or lengths i d) v bytes) ≡ set (cut lengths bytes) i v
cut_set [] bytes v i d h e = absurd (omega arith)
cut_set (n ∷ lengths) bytes v zero d h e =
    let X = drop (0 + n) bytes in
    ap (λ t. t ∷ cut lengths (drop (length v) (v ++ X))) (take-append_seam v X)
    ∙ ap (λ b. v ∷ cut lengths b) (drop-append_seam v X ∙ ap (λ k. drop k bytes) (zero-add n))
cut_set (n ∷ lengths) bytes v (suc i) d h e =
    let s = sum (take i lengths) in
    let m = get_or lengths i d in
    let within : n ≤ length bytes = omega (arith, sum_cons n lengths) in
    let rest : sum lengths ≡ length (drop n bytes) = omega (arith, sum_cons n lengths, length-drop n bytes) in
    let Y : List ℕ = v ++ drop (n + s + m) bytes in
    let tail : drop (n + s + m) bytes ≡ drop (s + m) (drop n bytes) = ap (λ k. drop k bytes) (add_assoc n s m) ∙ sym (drop-drop (s + m) n bytes) in
    ap (λ k. cut (set (n ∷ lengths) (suc i) (length v)) (with_text k m v bytes)) (sum_cons n (take i lengths))
    ∙ ap (λ t. t ∷ cut (set lengths i (length v)) (drop n (take (n + s) bytes ++ Y))) (take_of_sum n s bytes Y within)
    ∙ ap (λ b. take n bytes ∷ cut (set lengths i (length v)) b) (drop_of_sum n s bytes Y within ∙ ap (λ l. take s (drop n bytes) ++ (v ++ l)) tail)
    ∙ ap (λ l. take n bytes ∷ l) (cut_set lengths (drop n bytes) v i d (omega arith) rest)

pub with_longer : (s n : ℕ) (more bytes : List ℕ) → take (s + n) bytes ++ (more ++ drop (s + n) bytes) ≡ with_text s n (take n (drop s bytes) ++ more) bytes
with_longer s n more bytes =
    ap (λ l. l ++ (more ++ drop (s + n) bytes)) (take-add s n bytes)
    ∙ append_assoc (take s bytes) (take n (drop s bytes)) (more ++ drop (s + n) bytes)
    ∙ ap (λ l. take s bytes ++ l) (sym (append_assoc (take n (drop s bytes)) more (drop (s + n) bytes)))

same_get : (xs : List ℕ) (i d e : ℕ) → i < length xs → get_or xs i d ≡ get_or xs i e
same_get [] i d e h = absurd (omega arith)
same_get (x ∷ xs) zero d e h = refl
same_get (x ∷ xs) (suc i) d e h = same_get xs i d e (omega arith)

pub within : (lengths bytes : List ℕ) (texts : List (List ℕ)) (at : ℕ) → cut lengths bytes ≡ texts → at < length texts → at < length lengths
within lengths bytes texts at is h = omega (arith, cut_long lengths bytes, ap length is)

pub read_there : (lengths bytes : List ℕ) (texts : List (List ℕ)) (at start n : ℕ) → at < length lengths → start ≡ sum (take at lengths) → n ≡ get_or lengths at n → cut lengths bytes ≡ texts → take (start + n - start) (drop start bytes) ≡ get_or texts at []
read_there lengths bytes texts at start n h start_is n_is is =
    let e : start + n - start ≡ n = omega arith in
    ap (λ k. take k (drop start bytes)) (e ∙ n_is) ∙ ap (λ s. take (get_or lengths at n) (drop s bytes)) start_is
    ∙ sym (text_there lengths bytes at n h) ∙ ap (λ t. get_or t at []) is

-- the text at an index became v
replaced : (lengths bytes v new : List ℕ) (texts : List (List ℕ)) (at start n : ℕ) → at < length lengths → start ≡ sum (take at lengths) → n ≡ get_or lengths at n → sum lengths ≡ length bytes → cut lengths bytes ≡ texts → new ≡ with_text start n v bytes → cut (set lengths at (length v)) new ≡ set texts at v
replaced lengths bytes v new texts at start n h start_is n_is all is new_is =
    ap (cut (set lengths at (length v))) (new_is ∙ ap (λ k. with_text start k v bytes) n_is ∙ ap (λ s. with_text s (get_or lengths at n) v bytes) start_is)
    ∙ cut_set lengths bytes v at n h all ∙ ap (λ t. set t at v) is

pub emptied : (lengths bytes new : List ℕ) (texts : List (List ℕ)) (at start n : ℕ) → at < length lengths → start ≡ sum (take at lengths) → n ≡ get_or lengths at n → sum lengths ≡ length bytes → cut lengths bytes ≡ texts → new ≡ take start bytes ++ drop (start + n) bytes → cut (set lengths at 0) new ≡ set texts at []
emptied lengths bytes new texts at start n h start_is n_is all is new_is = replaced lengths bytes [] new texts at start n h start_is n_is all is new_is

longer : (lengths bytes more : List ℕ) (at start n : ℕ) → at < length lengths → start ≡ sum (take at lengths) → n ≡ get_or lengths at n → sum lengths ≡ length bytes → length (take n (drop start bytes) ++ more) ≡ n + length more
longer lengths bytes more at start n h start_is n_is all =
    let fits : sum (take at lengths) + get_or lengths at n ≤ sum lengths = sum_by_more_le (λ x. x) lengths at n h in
    let rest : n ≤ length (drop start bytes) = omega (arith, length-drop start bytes) in
    length-append (take n (drop start bytes)) more ∙ ap (λ k. k + length more) (length-take-le n (drop start bytes) rest)

pub extended : (lengths bytes more new : List ℕ) (texts : List (List ℕ)) (at start n m : ℕ) → at < length lengths → start ≡ sum (take at lengths) → n ≡ get_or lengths at n → m ≡ get_or lengths at m → sum lengths ≡ length bytes → cut lengths bytes ≡ texts → new ≡ take (start + n) bytes ++ (more ++ drop (start + n) bytes) → cut (set lengths at (m + length more)) new ≡ set texts at (get_or texts at [] ++ more)
extended lengths bytes more new texts at start n m h start_is n_is m_is all is new_is =
    let v : List ℕ = take n (drop start bytes) ++ more in
    let e : start + n - start ≡ n = omega arith in
    let text : v ≡ get_or texts at [] ++ more = ap (λ t. t ++ more) (ap (λ k. take k (drop start bytes)) (sym e) ∙ read_there lengths bytes texts at start n h start_is n_is is) in
    let m_n : m ≡ n = m_is ∙ same_get lengths at m n h ∙ sym n_is in
    let long : m + length more ≡ length v = ap (λ k. k + length more) m_n ∙ sym (longer lengths bytes more at start n h start_is n_is all) in
    ap (λ k. cut (set lengths at k) new) long
    ∙ replaced lengths bytes v new texts at start n h start_is n_is all is (new_is ∙ with_longer start n more bytes)
    ∙ ap (set texts at) text

pub total_extended : (lengths bytes more new : List ℕ) (at start n m : ℕ) → at < length lengths → start ≡ sum (take at lengths) → n ≡ get_or lengths at n → m ≡ get_or lengths at m → sum lengths ≡ length bytes → new ≡ take (start + n) bytes ++ (more ++ drop (start + n) bytes) → sum (set lengths at (m + length more)) ≡ length new
total_extended lengths bytes more new at start n m h start_is n_is m_is all new_is =
    let fits : sum (take at lengths) + get_or lengths at n ≤ sum lengths = sum_by_more_le (λ x. x) lengths at n h in
    let summed : sum (set lengths at (m + length more)) + get_or lengths at m ≡ sum lengths + (m + length more) = sum_by-set (λ x. x) lengths at (m + length more) m h in
    let within : start + n ≤ length bytes = omega arith in
    let long : length new ≡ length bytes + length more = omega (arith, ap length new_is, length-append (take (start + n) bytes) (more ++ drop (start + n) bytes), length-append more (drop (start + n) bytes), length-take-le (start + n) bytes within, length-drop (start + n) bytes) in
    omega arith
