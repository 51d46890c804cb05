-- Calls one after another: what is done and noted by all of them.
use Rattle.std.proofs.Common.{◌≡◌, ◌∙◌, ◌≤◌, ◌++◌, ℕ, List, [], ◌∷◌, Some, None, ap, arith, refl, subst, sym}
use Rattle.std.specs.Prelude.{Option, Result, Ok, Err}
use Rattle.std.specs.Option.{option_map}
use Rattle.lb_values.specs.declared.cell.Cell.{Cell}
use Rattle.lb_values.specs.declared.value.Value.{Value}
use Rattle.lb_values.specs.Kept.{Kept}
use Rattle.lb_model.specs.declared.cells.Cells.{Ghosts}
use Rattle.lb_model.specs.declared.group.Group.{Group}
use Rattle.lb_model.specs.Settings.{Notes, Setting, noted, noted_all}
use Rattle.lb_model.specs.Stacked.{StackedNotes, looked, looked_all, stacked_notes}
use Rattle.lb_groups.proofs.StackedLemmas.{notes-looked}
use Rattle.lb_model_nest.specs.declared.turn.Went.{Went}
use Rattle.lb_model_nest.specs.declared.turn.Went.TheVariants.{On, Over, Stopped, StoppedAt}
use Rattle.lb_model_nest.specs.Wholes.{Executed, Turn, Whole, and_as, and_then, executed, looking}
use Rattle.lb_nest.specs.Leads.{Leads, Looks, Passes}
use Rattle.lb_nest.specs.Views.{Keeps, anywhere, whole}
use Rattle.lb_nest.specs.declared.nest.Nest.{Nest}

-- ---- One behind another

pub passes-then : {S : Type 0} {C : Ghosts S} {of : Whole → Type 0} {act mid rest : Whole → Executed} {new : S} {gn : List Group} {ln : ℕ} {nn : Nest} {m : S} {gm : List Group} {lm : ℕ} {nm : Nest} {old : S} {go : List Group} {lo : ℕ} {no : Nest}
    → ((p : Setting) → C.agrees new p → C.agrees m p) → Passes C of act mid m gm lm nm old go lo no → Passes C of mid rest new gn ln nn m gm lm nm → Passes C of act rest new gn ln nn old go lo no
passes-then narrows first second =
    record {
      done = λ w p o h. first.done w p o (narrows p h) ∙ second.done w p o h;
      notes = λ w p o h. first.notes w p o (narrows p h) ∙ second.notes w p o h;
    }

pub at-most : (a b c : ℕ) → a ≤ b → b ≤ c → a ≤ c
at-most a b c h e = omega arith

pub same-left : (a : ℕ) → a ≤ a
same-left a = omega arith

pub leads-after : {S E X : Type 0} {C : Ghosts S} {of : Whole → Type 0} {act mid : Whole → Executed} {rest : X → Whole → Executed} (result : Result X E) {new : S} {gn : List Group} {ln : ℕ} {nn : Nest} {m : S} {gm : List Group} {lm : ℕ} {nm : Nest} {old : S} {go : List Group} {lo : ℕ} {no : Nest}
    → ((p : Setting) → C.agrees m p → C.agrees old p) → Passes C of act mid m gm lm nm old go lo no → lm ≤ lo → C.made m ≡ C.made old → C.loan m ≡ C.loan old
    → Leads C of mid rest result new gn ln nn m gm lm nm → Leads C of act rest result new gn ln nn old go lo no
leads-after (Ok x) {new} {gn} {ln} {nn} {m} {gm} {lm} {nm} {old} {go} {lo} {no} narrows first left made loan second =
    record {
      narrows = λ p h. narrows p (second.narrows p h);
      passes = passes-then second.narrows first second.passes;
      keeps = second.keeps;
      left = at-most ln lm lo second.left left;
      made = second.made ∙ made;
      loan = second.loan ∙ loan;
    }
leads-after (Err e) {new} {gn} {ln} {nn} {m} {gm} {lm} {nm} {old} {go} {lo} {no} narrows first left made loan second =
    record { narrows = λ p h. narrows p (second.narrows p h); passes = tt; keeps = tt; left = at-most ln lm lo second.left left; made = second.made ∙ made; loan = second.loan ∙ loan }

-- where the nest alone is changed
pub passes-nest : {S : Type 0} (C : Ghosts S) {of : Whole → Type 0} {act mid : Whole → Executed} (s : S) (g : List Group) (l : ℕ) {nn no : Nest}
    → ((w : Whole) (p : Setting) (k : Kept Value) → of w → act (whole w p k g l no) ≡ mid (whole w p k g l nn)) → Passes C of act mid s g l nn s g l no
passes-nest C s g l e =
    record {
      done = λ w p o h. ap (λ (q : Executed). q.done) (e w p (C.meaning s p) o);
      notes = λ w p o h. ap (λ (q : Executed). q.noted (stacked_notes g (C.notes s))) (e w p (C.meaning s p) o);
    }

pub leads-behind : {S E X : Type 0} {C : Ghosts S} {of : Whole → Type 0} {act mid : Whole → Executed} {rest : X → Whole → Executed} (result : Result X E) {new : S} {gn : List Group} {ln : ℕ} {nn : Nest} {m : S} {gm : List Group} {lm : ℕ} {nm : Nest} {no : Nest}
    → ((w : Whole) (p : Setting) (k : Kept Value) → of w → act (whole w p k gm lm no) ≡ mid (whole w p k gm lm nm))
    → Leads C of mid rest result new gn ln nn m gm lm nm → Leads C of act rest result new gn ln nn m gm lm no
leads-behind {S} {E} {X} {C} {of} {act} {mid} {rest} result {new} {gn} {ln} {nn} {m} {gm} {lm} e second =
    leads-after result (λ p h. h) (passes-nest C m gm lm e) (same-left lm) refl refl second

-- where nothing but the nest is changed
pub leads-nest : {S E X : Type 0} {C : Ghosts S} {of : Whole → Type 0} {act : Whole → Executed} (rest : X → Whole → Executed) (x : X) {s : S} {g : List Group} {l : ℕ} {nn no : Nest}
    → ((w : Whole) (p : Setting) (k : Kept Value) → of w → act (whole w p k g l no) ≡ rest x (whole w p k g l nn)) → ((p : Setting) → C.agrees s p → Keeps p (C.meaning s p) g nn)
    → Leads {E = E} C of act rest (Ok x) s g l nn s g l no
leads-nest {S} {E} {X} {C} {of} {act} rest x {s} {g} {l} e keeps =
    record { narrows = λ p h. h; passes = passes-nest C s g l e; keeps = keeps; left = same-left l; made = refl; loan = refl }

-- a call that holds anywhere, at some rests
pub leads-there : {S E X : Type 0} {C : Ghosts S} (of : Whole → Type 0) {act : Whole → Executed} {rest : X → Whole → Executed} (result : Result X E) {new : S} {gn : List Group} {ln : ℕ} {nn : Nest} {old : S} {go : List Group} {lo : ℕ} {no : Nest}
    → Leads C anywhere act rest result new gn ln nn old go lo no → Leads C of act rest result new gn ln nn old go lo no
leads-there of (Ok x) l =
    record {
      narrows = l.narrows;
      passes = record { done = λ w p o h. l.passes.done w p tt h; notes = λ w p o h. l.passes.notes w p tt h };
      keeps = l.keeps;
      left = l.left;
      made = l.made;
      loan = l.loan;
    }
leads-there of (Err e) l = record { narrows = l.narrows; passes = tt; keeps = tt; left = l.left; made = l.made; loan = l.loan }

-- what is done by one, where it is another
pub leads-as : {S E X Y : Type 0} {C : Ghosts S} {of : Whole → Type 0} (act : Y → Whole → Executed) {rest : X → Whole → Executed} {x y : Y} (result : Result X E) {new : S} {gn : List Group} {ln : ℕ} {nn : Nest} {old : S} {go : List Group} {lo : ℕ} {no : Nest}
    → x ≡ y → Leads C of (act y) rest result new gn ln nn old go lo no → Leads C of (act x) rest result new gn ln nn old go lo no
leads-as {S} {E} {X} {Y} {C} {of} act {rest} result {new} {gn} {ln} {nn} {old} {go} {lo} {no} e l = subst (λ z. Leads C of (act z) rest result new gn ln nn old go lo no) (sym e) l

-- what it comes to, where that is another
pub passes-to : {S X : Type 0} {C : Ghosts S} {of : Whole → Type 0} {act : Whole → Executed} (rest : X → Whole → Executed) {x y : X} {new : S} {gn : List Group} {ln : ℕ} {nn : Nest} {old : S} {go : List Group} {lo : ℕ} {no : Nest}
    → x ≡ y → Passes C of act (rest x) new gn ln nn old go lo no → Passes C of act (rest y) new gn ln nn old go lo no
passes-to {S} {X} {C} {of} {act} rest {x} {y} {new} {gn} {ln} {nn} {old} {go} {lo} {no} e l = subst (λ z. Passes C of act (rest z) new gn ln nn old go lo no) e l

-- ---- One row behind another

abbrev pub turn-as : Went → Turn → Turn → Turn
turn-as On t more = more
turn-as Over t more = t
turn-as (Stopped kind) t more = t
turn-as (StoppedAt fault) t more = t

pub done-as : (way : Went) (e more : Executed) → (and_as way e more).done ≡ turn-as way e.done more.done
done-as On e more = refl
done-as Over e more = refl
done-as (Stopped kind) e more = refl
done-as (StoppedAt fault) e more = refl

abbrev pub noted-by : Went → Option StackedNotes → Executed → Option StackedNotes
noted-by On n more = more.noted n
noted-by Over n more = n
noted-by (Stopped kind) n more = n
noted-by (StoppedAt fault) n more = n

pub noted-as : (way : Went) (e more : Executed) (n : Option StackedNotes) → (and_as way e more).noted n ≡ noted-by way (e.noted n) more
noted-as On e more n = refl
noted-as Over e more n = refl
noted-as (Stopped kind) e more n = refl
noted-as (StoppedAt fault) e more n = refl

-- what the first comes to, with the second behind it
pub and-passes : {S : Type 0} {C : Ghosts S} {of : Whole → Type 0} (act mid more : Whole → Executed) {new : S} {gn : List Group} {ln : ℕ} {nn : Nest} {old : S} {go : List Group} {lo : ℕ} {no : Nest}
    → Passes C of act mid new gn ln nn old go lo no → Passes C of (λ w. and_then (act w) more) (λ w. and_then (mid w) more) new gn ln nn old go lo no
and-passes {S} {C} {of} act mid more {new} {gn} {ln} {nn} {old} {go} {lo} {no} first =
    record {
      done =
          λ w p o h.
          let a : Executed = act (whole w p (C.meaning old p) go lo no) in
          let b : Executed = mid (whole w p (C.meaning new p) gn ln nn) in
          done-as a.done.went a (more a.done.next)
          ∙ ap (λ (t : Turn). turn-as t.went t (more t.next).done) (first.done w p o h)
          ∙ sym (done-as b.done.went b (more b.done.next));
      notes =
          λ w p o h.
          let a : Executed = act (whole w p (C.meaning old p) go lo no) in
          let b : Executed = mid (whole w p (C.meaning new p) gn ln nn) in
          let n = stacked_notes go (C.notes old) in
          let m = stacked_notes gn (C.notes new) in
          noted-as a.done.went a (more a.done.next) n
          ∙ ap (λ (t : Turn). noted-by t.went (a.noted n) (more t.next)) (first.done w p o h)
          ∙ ap (λ k. noted-by b.done.went k (more b.done.next)) (first.notes w p o h)
          ∙ sym (noted-as b.done.went b (more b.done.next) m);
    }

-- a row that goes on, and then more
pub leads-then : {S E X : Type 0} {C : Ghosts S} {of : Whole → Type 0} (act more : Whole → Executed) {rest : X → Whole → Executed} (result : Result X E) {went : Went} {new : S} {gn : List Group} {ln : ℕ} {nn : Nest} {m : S} {gm : List Group} {lm : ℕ} {nm : Nest} {old : S} {go : List Group} {lo : ℕ} {no : Nest}
    → went ≡ On → Leads {E = E} C of act executed (Ok went) m gm lm nm old go lo no → Leads C of more rest result new gn ln nn m gm lm nm
    → Leads C of (λ w. and_then (act w) more) rest result new gn ln nn old go lo no
leads-then act more result is first second =
    let both = and-passes act (executed On) more (passes-to executed is first.passes) in
    leads-after result first.narrows (record { done = both.done; notes = both.notes }) first.left first.made first.loan second

pub ended-as : (went : Went) (w : Whole) (more : Whole → Executed) → (went ≡ On → ⊥) → and_then (executed went w) more ≡ executed went w
ended-as On w more h = absurd (h refl)
ended-as Over w more h = refl
ended-as (Stopped kind) w more h = refl
ended-as (StoppedAt fault) w more h = refl

-- a row that does not
pub leads-ended : {S E : Type 0} {C : Ghosts S} {of : Whole → Type 0} (act more : Whole → Executed) (went : Went) {new : S} {gn : List Group} {ln : ℕ} {nn : Nest} {old : S} {go : List Group} {lo : ℕ} {no : Nest}
    → (went ≡ On → ⊥) → Leads {E = E} C of act executed (Ok went) new gn ln nn old go lo no → Leads {E = E} C of (λ w. and_then (act w) more) executed (Ok went) new gn ln nn old go lo no
leads-ended {S} {E} {C} {of} act more went {new} {gn} {ln} {nn} {old} {go} {lo} {no} ends first =
    let both = and-passes act (executed went) more first.passes in
    record {
      narrows = first.narrows;
      passes = record {
        done = λ w p o h. both.done w p o h ∙ ap (λ (q : Executed). q.done) (ended-as went (whole w p (C.meaning new p) gn ln nn) more ends);
        notes = λ w p o h. both.notes w p o h ∙ ap (λ (q : Executed). q.noted (stacked_notes gn (C.notes new))) (ended-as went (whole w p (C.meaning new p) gn ln nn) more ends);
      };
      keeps = first.keeps;
      left = first.left;
      made = first.made;
      loan = first.loan;
    }

-- ---- What is looked at

pub notes-looked-all : (groups : List Group) (cells : List Cell) (o : Option Notes) → stacked_notes groups (option_map (noted_all cells) o) ≡ option_map (looked_all cells) (stacked_notes groups o)
notes-looked-all groups [] None = refl
notes-looked-all groups [] (Some n) = refl
notes-looked-all groups (c ∷ cells) None = refl
notes-looked-all groups (c ∷ cells) (Some n) =
    notes-looked-all groups cells (Some (noted c n)) ∙ ap (option_map (looked_all cells)) (notes-looked groups c (Some n))

looked-append : (a b : List Cell) (n : StackedNotes) → looked_all (a ++ b) n ≡ looked_all b (looked_all a n)
looked-append [] b n = refl
looked-append (c ∷ a) b n = looked-append a b (looked c n)

pub looked-append-of : (a b : List Cell) (o : Option StackedNotes) → option_map (looked_all (a ++ b)) o ≡ option_map (looked_all b) (option_map (looked_all a) o)
looked-append-of a b None = refl
looked-append-of a b (Some n) = ap Some (looked-append a b n)

-- cells are looked at for a value, which is this
pub look-passes : {S E X : Type 0} {C : Ghosts S} {of : Whole → Type 0} {cells : List Cell} {value : Whole → X} (act : X → Whole → Executed) (x : X) {g : List Group} {l : ℕ} {n : Nest} {new old : S}
    → Looks {E = E} C g cells value (Ok x) new old → Passes C of (λ w. looking cells (act (value w) w)) (act x) new g l n old g l n
look-passes {S} {E} {X} {C} {of} {cells} {value} act x {g} {l} {n} {new} {old} looks =
    record {
      done =
          λ w p o h.
          ap (λ v. (act v (whole w p (C.meaning old p) g l n)).done) (looks.value p h w l n)
          ∙ ap (λ k. (act x (whole w p k g l n)).done) (sym (looks.stays p h));
      notes =
          λ w p o h.
          let a = option_map (looked_all cells) (stacked_notes g (C.notes old)) in
          ap (λ v. (act v (whole w p (C.meaning old p) g l n)).noted a) (looks.value p h w l n)
          ∙ ap (λ k. (act x (whole w p k g l n)).noted a) (sym (looks.stays p h))
          ∙ ap (λ b. (act x (whole w p (C.meaning new p) g l n)).noted b) (sym looks.notes);
    }

pub leads-looking : {S E F X Y : Type 0} {C : Ghosts S} {of : Whole → Type 0} {cells : List Cell} {value : Whole → X} (act : X → Whole → Executed) {rest : Y → Whole → Executed} (x : X) (result : Result Y F) {new : S} {gn : List Group} {ln : ℕ} {nn : Nest} {m : S} {g : List Group} {l : ℕ} {n : Nest} {old : S}
    → Looks {E = E} C g cells value (Ok x) m old → Leads C of (act x) rest result new gn ln nn m g l n
    → Leads C of (λ w. looking cells (act (value w) w)) rest result new gn ln nn old g l n
leads-looking act x result {new} {gn} {ln} {nn} {m} {g} {l} {n} looks second = leads-after result looks.narrows (look-passes act x looks) (same-left l) looks.made looks.loan second
