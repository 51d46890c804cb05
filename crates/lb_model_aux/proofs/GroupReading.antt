-- Balanced texts are passed over, and groups are read.
use Rattle.std.proofs.Common.{◌≡◌, ◌∙◌, ◌++◌, Bool, true, false, ℕ, suc, List, [], ◌∷◌, Some, None, refl, ap, sym, subst, append_assoc, append-nil}
use Rattle.std.specs.Prelude.{◌==◌, ◌&&◌, not, Option}
use Rattle.std.specs.Option.{option_map}
use Rattle.lb_model_aux.specs.Groups.{AreGroups, IsBalanced, are_groups, behind_byte, ends_or, group_of, is_plain, to_close, turned}
use Rattle.lb_model_aux.specs.Groups.AreGroups.{more, none}
use Rattle.lb_model_aux.specs.Groups.IsBalanced.{escaped, group, nothing, plain}
use Rattle.lb_model_journal.specs.Written.{braced}

-- ---- A front before what was cut off

abbrev pub prefixed : List ℕ → Option (List ℕ × List ℕ) → Option (List ℕ × List ℕ)
prefixed front parts = option_map (λ p. (front ++ p.0, p.1)) parts

prefixed-nothing : (o : Option (List ℕ × List ℕ)) → o ≡ prefixed [] o
prefixed-nothing None = refl
prefixed-nothing (Some p) = refl

prefixed-byte : (c : ℕ) (front : List ℕ) (o : Option (List ℕ × List ℕ)) → behind_byte c (prefixed front o) ≡ prefixed (c ∷ front) o
prefixed-byte c front None = refl
prefixed-byte c front (Some p) = refl

prefixed-append : (x y : List ℕ) (o : Option (List ℕ × List ℕ)) → prefixed x (prefixed y o) ≡ prefixed (x ++ y) o
prefixed-append x y None = refl
prefixed-append x y (Some p) = ap (λ (z : List ℕ). Some (z, p.1)) (sym (append_assoc x y p.0))

-- ---- Balanced texts

pub both : (a b : Bool) → (a && b) ≡ true → (a ≡ true) × (b ≡ true)
both true true e = (e, e)
both true false e = cc
both false b e = cc

pub not-true : (b : Bool) → not b ≡ true → b ≡ false
not-true true e = cc
not-true false e = refl

-- a byte that is neither a backslash nor a brace
pub turned-plain : (c level : ℕ) → is_plain c ≡ true → turned false level c ≡ (false, level)
turned-plain c level e =
    let p = both (not (c == 92)) (not (c == 123) && not (c == 125)) e in
    let q = both (not (c == 123)) (not (c == 125)) p.1 in
    rw (not-true (c == 92) p.0, not-true (c == 123) q.0, not-true (c == 125) q.1) refl

close-plain : (c level : ℕ) (rest : List ℕ) → is_plain c ≡ true → to_close false (suc level) (c ∷ rest) ≡ behind_byte c (to_close false (suc level) rest)
unfolding to_close
close-plain c level rest e = ap (λ (t : Bool × ℕ). ends_or c t.1 rest (to_close t.0 t.1 rest)) (turned-plain c (suc level) e)

pub passes : {text : List ℕ} (rest : List ℕ) (level : ℕ) → IsBalanced text → to_close false (suc level) (text ++ rest) ≡ prefixed text (to_close false (suc level) rest)
unfolding to_close
passes rest level nothing = prefixed-nothing (to_close false (suc level) rest)
passes rest level (escaped {c} {text} b) =
    ap (λ o. behind_byte 92 (behind_byte c o)) (passes rest level b)
    ∙ ap (behind_byte 92) (prefixed-byte c text (to_close false (suc level) rest)) ∙ prefixed-byte 92 (c ∷ text) (to_close false (suc level) rest)
passes rest level (plain {c} {text} e b) =
    close-plain c level (text ++ rest) e ∙ ap (behind_byte c) (passes rest level b) ∙ prefixed-byte c text (to_close false (suc level) rest)
passes rest level (group {inner} {text} i b) =
    ap (λ t. behind_byte 123 (to_close false (suc (suc level)) t)) (append_assoc inner (125 ∷ text) rest)
    ∙ ap (behind_byte 123) (passes (125 ∷ text ++ rest) (suc level) i)
    ∙ ap (λ o. behind_byte 123 (prefixed inner (behind_byte 125 o))) (passes rest level b)
    ∙ ap (λ o. behind_byte 123 (prefixed inner o)) (prefixed-byte 125 text (to_close false (suc level) rest))
    ∙ ap (behind_byte 123) (prefixed-append inner (125 ∷ text) (to_close false (suc level) rest))
    ∙ prefixed-byte 123 (inner ++ 125 ∷ text) (to_close false (suc level) rest)

pub balanced-braced : (inner text : List ℕ) → IsBalanced inner → IsBalanced text → IsBalanced (braced inner ++ text)
balanced-braced inner text a b = subst (λ l. IsBalanced (123 ∷ l)) (sym (append_assoc inner (125 ∷ []) text)) (group a b)

-- a group in braces is read
pub group-read : {inner : List ℕ} (rest : List ℕ) → IsBalanced inner → group_of (braced inner ++ rest) ≡ Some (inner, rest)
unfolding to_close
group-read {inner} rest b =
    ap (to_close false 1) (append_assoc inner (125 ∷ []) rest)
    ∙ passes (125 ∷ rest) 0 b
    ∙ ap (λ (t : List ℕ). Some (t, rest)) (append-nil inner)

-- ---- Groups

pub groups-pass : {text : List ℕ} (rest : List ℕ) (level : ℕ) → IsBalanced text → are_groups false (suc level) (text ++ rest) ≡ are_groups false (suc level) rest
unfolding are_groups
groups-pass rest level nothing = refl
groups-pass rest level (escaped b) = groups-pass rest level b
groups-pass rest level (plain {c} {text} e b) =
    ap (λ (t : Bool × ℕ). are_groups t.0 t.1 (text ++ rest)) (turned-plain c (suc level) e) ∙ groups-pass rest level b
groups-pass rest level (group {inner} {text} i b) =
    ap (are_groups false (suc (suc level))) (append_assoc inner (125 ∷ text) rest) ∙ groups-pass (125 ∷ text ++ rest) (suc level) i ∙ groups-pass rest level b

pub groups-read : {text : List ℕ} → AreGroups text → are_groups false 0 text ≡ true
unfolding are_groups
groups-read none = refl
groups-read (more {inner} {text} i g) = groups-pass (125 ∷ text) 0 i ∙ groups-read g
