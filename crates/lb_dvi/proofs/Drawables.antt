-- Marks that are small, from some place on and all.
use Rattle.std.proofs.Common.{◌≡◌, ◌↔◌, ℕ, ℤ, ◌+ℤ◌, ◌+◌, ◌<◌, ◌≤◌, Bool, IsTrue, List, ◌∷◌, length, drop, get_or, sym, ap, ◌∙◌, subst}
use Rattle.std.specs.List.{AllByRecursion}
use Rattle.std.proofs.lemmas.List.{drop_all, drop_more}
use Rattle.lb_base.specs.declared.page.Mark.{Mark}
use Rattle.lb_base.specs.declared.page.FontId.{FontId}
use Rattle.lb_model_paper.specs.Dvi.{IsSmall, IsSmallChar, IsSmallMark}

abbrev pub AreSmall : List Mark → Type 0
AreSmall marks = AllByRecursion IsSmallMark marks

-- all marks are small exactly where those from the k-th on are
pub record Same (marks : List Mark) (k : ℕ) : Type 0 where
  pub back : AreSmall (drop k marks) → AreSmall marks
  pub forth : AreSmall marks → AreSmall (drop k marks)

next : (marks : List Mark) (k : ℕ) (mark : Mark) → k < length marks → mark ≡ get_or marks k mark → drop k marks ≡ mark ∷ drop (k + 1) marks
next marks k mark within is = drop_more marks k mark within ∙ ap (λ (m : Mark). m ∷ drop (k + 1) marks) (sym is)

pub same_turn : (marks : List Mark) (k : ℕ) (mark : Mark) → k < length marks → mark ≡ get_or marks k mark → IsSmallMark mark → Same marks k → Same marks (k + 1)
same_turn marks k mark within is small same =
    let P : List Mark → Type 0 = λ ms. AreSmall ms in
    let cut = next marks k mark within is in
    record {
      back = λ rest. same.back (subst P (sym cut) (small, rest));
      forth = λ all. (subst P cut (same.forth all)).1;
    }

pub same_stop : (marks : List Mark) (k : ℕ) (mark : Mark) → k < length marks → mark ≡ get_or marks k mark → (IsSmallMark mark → ⊥) → Same marks k → AreSmall marks → ⊥
same_stop marks k mark within is large same all =
    let P : List Mark → Type 0 = λ ms. AreSmall ms in
    large (subst P (next marks k mark within is) (same.forth all)).0

pub same_end : (marks : List Mark) (k : ℕ) → length marks ≤ k → Same marks k → AreSmall marks
same_end marks k past same =
    let P : List Mark → Type 0 = λ ms. AreSmall ms in
    same.back (subst P (sym (drop_all k marks past)) tt)

-- ---- a character

pub char_small : (h v width : ℤ) (font : FontId) (end : Bool) → IsSmall h × IsSmall v → IsTrue end ↔ (IsSmall (h +ℤ width) × (length font.name ≤ 255)) → IsTrue end ↔ IsSmallChar h v width font
char_small h v width font end place ends = (
  λ passes. (let both = ends.0 passes in record { left = place.0; baseline = place.1; right = both.0; name = both.1 }),
  λ small. ends.1 (small.right, small.name),
)
