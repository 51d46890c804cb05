-- What is read as a group is written by the grammar.
use Rattle.std.proofs.Common.{◌≡◌, ◌∙◌, ◌++◌, Bool, true, false, ℕ, zero, suc, List, [], ◌∷◌, Some, None, refl, ap, sym, subst, append_assoc}
use Rattle.std.specs.Prelude.{◌==◌, Option, unwrap_or, if◌then◌else◌}
use Rattle.std.specs.Option.{option_and_then, option_map}
use Rattle.std.proofs.lemmas.Bool.{eqb-true}
use Rattle.lb_model_aux.specs.declared.line.Line.TheVariants.{Label}
use Rattle.lb_model_aux.specs.Forms.{label_of, pair_of}
use Rattle.lb_model_aux.specs.Grammar.{GroupsAreRead, IsGroup, LabelsAreRead}
use Rattle.lb_model_aux.specs.Groups.{AreGroups, IsBalanced, behind_byte, ends_or, group_of, is_plain, one_less, to_close}
use Rattle.lb_model_aux.specs.Groups.AreGroups.{more, none}
use Rattle.lb_model_aux.specs.Groups.IsBalanced.{escaped, group, nothing, plain}
use Rattle.lb_model_journal.specs.Written.{braced}
use Rattle.lb_model_aux.proofs.GroupReading.{balanced-braced, group-read}
use Rattle.lb_model_aux.proofs.LineReading.{pair-read, two-read}

-- ---- Texts in which so many groups close that were open before them

data Levels : ℕ → List ℕ → Type 0 where
  base : {x : List ℕ} → IsBalanced x → Levels 0 x
  deeper : {n : ℕ} {x y : List ℕ} → IsBalanced x → Levels n y → Levels (suc n) (x ++ 125 ∷ y)

put-escaped : {n : ℕ} {x : List ℕ} (c : ℕ) → Levels n x → Levels n (92 ∷ c ∷ x)
put-escaped c (base b) = base (escaped b)
put-escaped c (deeper b l) = deeper (escaped b) l

put-plain : {n : ℕ} {x : List ℕ} (c : ℕ) → is_plain c ≡ true → Levels n x → Levels n (c ∷ x)
put-plain c e (base b) = base (plain e b)
put-plain c e (deeper b l) = deeper (plain e b) l

put-closing : {n : ℕ} {x : List ℕ} → Levels n x → Levels (suc n) (125 ∷ x)
put-closing l = deeper nothing l

open-around : {m : ℕ} {front back : List ℕ} → IsBalanced front → Levels m back → Levels m (123 ∷ front ++ 125 ∷ back)
open-around a (base b) = base (group a b)
open-around {m} {front} a (deeper {n} {x} {y} b l) = subst (λ t. Levels (suc n) (123 ∷ t)) (append_assoc front (125 ∷ x) (125 ∷ y)) (deeper (group a b) l)

put-opening : {n : ℕ} {x : List ℕ} → Levels (suc n) x → Levels n (123 ∷ x)
put-opening (deeper b l) = open-around b l

-- ---- What closes

record Closing (level : ℕ) (text inner rest : List ℕ) : Type 0 where
  parts : text ≡ inner ++ 125 ∷ rest
  levels : Levels level inner

record Behind (c : ℕ) (o : Option (List ℕ × List ℕ)) (inner rest : List ℕ) : Type 0 where
  later : List ℕ
  is : o ≡ Some (later, rest)
  front : c ∷ later ≡ inner

first-of : (o : Option (List ℕ × List ℕ)) → List ℕ × List ℕ
first-of o = unwrap_or o ([], [])

behind : (c : ℕ) (o : Option (List ℕ × List ℕ)) (inner rest : List ℕ) → behind_byte c o ≡ Some (inner, rest) → Behind c o inner rest
unfolding first-of
behind c None inner rest e = cc
behind c (Some p) inner rest e =
    let q : (c ∷ p.0, p.1) ≡ (inner, rest) = ap first-of e in
    record { later = p.0; is = ap (λ (r : List ℕ). Some (p.0, r)) (ap (λ (t : List ℕ × List ℕ). t.1) q); front = ap (λ (t : List ℕ × List ℕ). t.0) q }

abbrev Sound : List ℕ → Type 0
Sound text = (level : ℕ) (inner rest : List ℕ) → to_close false (suc level) text ≡ Some (inner, rest) → Closing level text inner rest

abbrev chosen : Bool → Bool → Bool → ℕ → Bool × ℕ
chosen a b d level = if a then (true, level) else (if b then (false, suc level) else (if d then (false, one_less level) else (false, level)))

-- one byte more before what closes
with-byte : (c : ℕ) (text : List ℕ) (level next : ℕ) (inner rest : List ℕ) → ((x : List ℕ) → Levels next x → Levels level (c ∷ x)) → Sound text
    → behind_byte c (to_close false (suc next) text) ≡ Some (inner, rest) → Closing level (c ∷ text) inner rest
with-byte c text level next inner rest put ih e =
    let b : Behind c (to_close false (suc next) text) inner rest = behind c (to_close false (suc next) text) inner rest e in
    let s : Closing next text b.later rest = ih next b.later rest b.is in
    record { parts = ap (λ t. c ∷ t) s.parts ∙ ap (λ t. t ++ 125 ∷ rest) b.front; levels = subst (Levels level) b.front (put b.later s.levels) }

after-backslash : (c : ℕ) (text : List ℕ) (level : ℕ) (inner rest : List ℕ) → c ≡ 92 → Sound text → (d : ℕ)
    → behind_byte c (behind_byte d (to_close false (suc level) text)) ≡ Some (inner, rest) → Closing level (c ∷ d ∷ text) inner rest
after-backslash c text level inner rest h ih d e =
    let b : Behind c (behind_byte d (to_close false (suc level) text)) inner rest = behind c (behind_byte d (to_close false (suc level) text)) inner rest e in
    let b2 : Behind d (to_close false (suc level) text) b.later rest = behind d (to_close false (suc level) text) b.later rest b.is in
    let s : Closing level text b2.later rest = ih level b2.later rest b2.is in
    let whole : c ∷ d ∷ b2.later ≡ inner = ap (λ t. c ∷ t) b2.front ∙ b.front in
    let levels : Levels level (c ∷ d ∷ b2.later) = subst (λ k. Levels level (k ∷ d ∷ b2.later)) (sym h) (put-escaped d s.levels) in
    record { parts = ap (λ t. c ∷ d ∷ t) s.parts ∙ ap (λ t. t ++ 125 ∷ rest) whole; levels = subst (Levels level) whole levels }

closes : (c : ℕ) (text : List ℕ) (level : ℕ) (inner rest : List ℕ) → c ≡ 125 → Sound text
    → ends_or c level text (to_close false level text) ≡ Some (inner, rest) → Closing level (c ∷ text) inner rest
unfolding first-of
closes c text zero inner rest h ih e =
    let q : ([], text) ≡ (inner, rest) = ap first-of e in
    let front : [] ≡ inner = ap (λ (t : List ℕ × List ℕ). t.0) q in
    let later : text ≡ rest = ap (λ (t : List ℕ × List ℕ). t.1) q in
    record { parts = (λ i. h i ∷ later i) ∙ ap (λ t. t ++ 125 ∷ rest) front; levels = subst (Levels 0) front (base nothing) }
closes c text (suc level) inner rest h ih e =
    with-byte c text (suc level) level inner rest (λ x l. subst (λ k. Levels (suc level) (k ∷ x)) (sym h) (put-closing l)) ih e

plain-of : (c : ℕ) → (c == 92) ≡ false → (c == 123) ≡ false → (c == 125) ≡ false → is_plain c ≡ true
plain-of c a b d = rw (a, b, d) refl

sound-byte : (c : ℕ) (text : List ℕ) (level : ℕ) (inner rest : List ℕ) (a b d : Bool) → (c == 92) ≡ a → (c == 123) ≡ b → (c == 125) ≡ d → Sound text
    → (a ≡ true → behind_byte c (to_close true (suc level) text) ≡ Some (inner, rest) → Closing level (c ∷ text) inner rest)
    → ends_or c (chosen a b d (suc level)).1 text (to_close (chosen a b d (suc level)).0 (chosen a b d (suc level)).1 text) ≡ Some (inner, rest)
    → Closing level (c ∷ text) inner rest
sound-byte c text level inner rest true b d p q r ih back e = back refl e
sound-byte c text level inner rest false true d p q r ih back e =
    with-byte c text level (suc level) inner rest (λ x l. subst (λ k. Levels level (k ∷ x)) (sym (eqb-true c 123 q)) (put-opening l)) ih e
sound-byte c text level inner rest false false true p q r ih back e = closes c text level inner rest (eqb-true c 125 r) ih e
sound-byte c text level inner rest false false false p q r ih back e =
    with-byte c text level level inner rest (λ x l. put-plain c (plain-of c p q r) l) ih e

sound : (text : List ℕ) → Sound text
unfolding to_close
sound [] level inner rest e = cc
sound (c ∷ []) level inner rest e =
    sound-byte c [] level inner rest (c == 92) (c == 123) (c == 125) refl refl refl (sound []) (λ h q. cc) e
sound (c ∷ d ∷ text) level inner rest e =
    sound-byte c (d ∷ text) level inner rest (c == 92) (c == 123) (c == 125) refl refl refl (sound (d ∷ text))
    (λ h q. after-backslash c text level inner rest (eqb-true c 92 h) (sound text) d q) e

balanced-base : {x : List ℕ} → Levels 0 x → IsBalanced x
balanced-base (base b) = b

group-sound : (text inner rest : List ℕ) → group_of text ≡ Some (inner, rest) → IsGroup text inner rest
group-sound [] inner rest e = cc
group-sound (c ∷ text) inner rest e = by (c == 123) refl e where
  by : (b : Bool) → (c == 123) ≡ b → (if b then to_close false 1 text else None) ≡ Some (inner, rest) → IsGroup (c ∷ text) inner rest
  by false h q = cc
  by true h q =
      let s : Closing 0 text inner rest = sound text 0 inner rest q in
      record { parts = (λ i. eqb-true c 123 h i ∷ s.parts i) ∙ ap (λ t. 123 ∷ t) (sym (append_assoc inner (125 ∷ []) rest)); balanced = balanced-base s.levels }

pub groups-are-read : GroupsAreRead
groups-are-read text inner rest = (group-sound text inner rest, λ g. ap group_of g.parts ∙ group-read rest g.balanced)

-- ---- Labels

groups-balanced : {text : List ℕ} → AreGroups text → IsBalanced text
groups-balanced none = nothing
groups-balanced (more i g) = group i (groups-balanced g)

pub labels-are-read : LabelsAreRead
labels-are-read text key pair l =
    let value = braced pair.text ++ (braced pair.page ++ l.more) in
    let balanced : IsBalanced value = balanced-braced pair.text (braced pair.page ++ l.more) l.text_balanced (balanced-braced pair.page l.more l.page_balanced (groups-balanced l.groups)) in
    ap label_of l.parts
    ∙ ap (option_and_then (λ a. option_map (Label a.0) (pair_of a.1))) (two-read l.key_balanced balanced)
    ∙ ap (option_map (Label key)) (pair-read l.text_balanced l.page_balanced l.groups)
