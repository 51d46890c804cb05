-- The bytes of a file whose words stand in sections.
use Rattle.std.proofs.Common.{◌≡◌, ℕ, ◌+◌, ◌*◌, ◌<◌, List, [], ◌∷◌, ◌++◌, length, get_or, map, arith, refl, ap, ◌∙◌, sym, length-append, append_assoc}
use Prim.Native.Nat.{zero, suc}
use Rattle.std.specs.Prelude.{slice_index}
use Rattle.std.specs.List.{concat, range_with_len}
use Rattle.std.proofs.lemmas.List.{get_or-append-add, get_or_append_left}
use Rattle.lb_model_paper.specs.FontFiles.{byte_at}
use Rattle.lb_tfm_make.specs.FontBytes.{Word, joined}

pub concat-append : (xs ys : List Word) → concat (xs ++ ys) ≡ concat xs ++ concat ys
concat-append [] ys = refl
concat-append (x ∷ xs) ys = ap (λ zs. x ++ zs) (concat-append xs ys) ∙ sym (append_assoc x (concat xs) (concat ys))

-- ---- words of four bytes

abbrev pub AllFour : List Word → Type 0
AllFour [] = Unit {0}
AllFour (w ∷ ws) = (length w ≡ 4) × AllFour ws

pub four-append : (xs ys : List Word) → AllFour xs → AllFour ys → AllFour (xs ++ ys)
four-append [] ys h g = g
four-append (x ∷ xs) ys h g = (h.0, four-append xs ys h.1 g)

pub four-map : {X : Type 0} (f : X → Word) → ((x : X) → length (f x) ≡ 4) → (xs : List X) → AllFour (map f xs)
four-map f h [] = tt
four-map f h (x ∷ xs) = (h x, four-map f h xs)

pub length-concat : (ws : List Word) → AllFour ws → length (concat ws) ≡ 4 * length ws
length-concat [] h = refl
length-concat (w ∷ ws) h = omega (arith, length-append w (concat ws), length-concat ws h.1, h.0)

pub word-byte : (ws : List Word) (k n : ℕ) → AllFour ws → k < length ws → n < 4 → slice_index (concat ws) (4 * k + n) ≡ slice_index (get_or ws k []) n
word-byte [] k n h low small = absurd (omega arith)
word-byte (w ∷ ws) zero n h low small =
    let e : 4 * 0 + n ≡ n = omega arith in
    let lt : n < length w = omega (arith, h.0) in
    ap (slice_index (w ++ concat ws)) e ∙ get_or_append_left w (concat ws) 0 n lt
word-byte (w ∷ ws) (suc k) n h low small =
    let e : 4 * suc k + n ≡ length w + (4 * k + n) = omega (arith, h.0) in
    let lt : k < length ws = omega arith in
    ap (slice_index (w ++ concat ws)) e ∙ get_or-append-add w (concat ws) (4 * k + n) 0 ∙ word-byte ws k n h.1 lt small

-- ---- sections

-- where a section begins
abbrev pub start : List (List Word) → ℕ → ℕ
start [] j = 0
start (s ∷ S) zero = 0
start (s ∷ S) (suc j) = length s + start S j

pub section-within : (S : List (List Word)) (j k : ℕ) → k < length (get_or S j []) → start S j + k < length (joined S)
section-within [] j k low = absurd (omega arith)
section-within (s ∷ S) zero k low = omega (arith, length-append s (joined S))
section-within (s ∷ S) (suc j) k low = omega (arith, length-append s (joined S), section-within S j k low)

pub section-word : (S : List (List Word)) (j k : ℕ) → k < length (get_or S j []) → get_or (joined S) (start S j + k) [] ≡ get_or (get_or S j []) k []
section-word [] j k low = absurd (omega arith)
section-word (s ∷ S) zero k low =
    let e : 0 + k ≡ k = omega arith in
    ap (λ i. get_or (s ++ joined S) i []) e ∙ get_or_append_left s (joined S) [] k low
section-word (s ∷ S) (suc j) k low =
    let e : length s + start S j + k ≡ length s + (start S j + k) = omega arith in
    ap (λ i. get_or (s ++ joined S) i []) e ∙ get_or-append-add s (joined S) (start S j + k) [] ∙ section-word S j k low

pub section-byte : (S : List (List Word)) (j k n word : ℕ) → AllFour (joined S) → k < length (get_or S j []) → n < 4 → word ≡ start S j + k
    → byte_at (concat (joined S)) word n ≡ slice_index (get_or (get_or S j []) k []) n
unfolding byte_at
section-byte S j k n word four low small is =
    ap (λ w. slice_index (concat (joined S)) (4 * w + n)) is
    ∙ word-byte (joined S) (start S j + k) n four (section-within S j k low) small
    ∙ ap (λ (w : Word). slice_index w n) (section-word S j k low)

-- ---- what stands at a place of a range

pub range-at : (n start k d : ℕ) → k < n → get_or (range_with_len start n) k d ≡ start + k
range-at zero start k d h = absurd (omega arith)
range-at (suc n) start zero d h = omega arith
range-at (suc n) start (suc k) d h =
    let lt : k < n = omega arith in
    let e : start + 1 + k ≡ start + suc k = omega arith in
    range-at n (start + 1) k d lt ∙ e

pub map-at : {X Y : Type 0} (f : X → Y) (xs : List X) (k : ℕ) (d : X) (e : Y) → k < length xs → get_or (map f xs) k e ≡ f (get_or xs k d)
map-at f [] k d e h = absurd (omega arith)
map-at f (x ∷ xs) zero d e h = refl
map-at f (x ∷ xs) (suc k) d e h = let lt : k < length xs = omega arith in map-at f xs k d e lt
