-- Calls one after another: what is done and noted by all of them.
use Rattle.std.proofs.Common.{◌≡◌, ◌∙◌, ◌++◌, Bool, ℕ, List, [], ◌∷◌, Some, None, ap, drop, refl, subst, sym}
use Rattle.std.specs.Prelude.{Option, Result, Ok, Err}
use Rattle.std.specs.Option.{option_map}
use Rattle.lb_base.specs.declared.fault.Kind.{Kind}
use Rattle.lb_base.specs.declared.fault.Stop.{Stop}
use Rattle.lb_base.specs.declared.fault.Stop.TheVariants.{Fault}
use Rattle.lb_base.specs.declared.token.Tok.{Tok}
use Rattle.lb_values.specs.declared.cell.Cell.{Cell}
use Rattle.lb_model.specs.declared.cells.Cells.{Ghosts}
use Rattle.lb_model.specs.declared.group.Group.{Group}
use Rattle.lb_model.specs.declared.open.Conditional.{Conditional}
use Rattle.lb_model.specs.Conditionals.{inside}
use Rattle.lb_model.specs.declared.place.Got.{Got}
use Rattle.lb_model.specs.Configs.{Config, Reading, looks_by, taken_by}
use Rattle.lb_model.specs.Readings.{Took, failed, noting, whole}
use Rattle.lb_model.specs.Settings.{Notes, Setting, noted, noted_all}
use Rattle.lb_model.specs.Stacked.{Standing, StackedNotes, looked, looked_all, stacked_notes}
use Rattle.lb_model.specs.Stops.{MayStopAt}
use Rattle.lb_model.specs.Told.{Told}
use Rattle.lb_groups.proofs.StackedLemmas.{notes-looked}
use Rattle.lb_model_grammar.specs.declared.condition.Sought.{Sought}
use Rattle.lb_model_grammar.specs.declared.condition.Stopper.{Stopper}
use Rattle.lb_model_expansion.specs.Expansion.{skipping, without_inside}
use Rattle.lb_model_expansion.specs.Steps.{Performed, Step, and_as, and_then, ends_pass, looking, performed, stopped, token_as, token_taken, with_outcome}
use Rattle.lb_model_expansion.specs.declared.expansion.Went.{Went}
use Rattle.lb_model_expansion.specs.declared.expansion.Went.TheVariants.{On, Gave, Answered, Over, Stopped, StoppedAt}
use Rattle.lb_expand.specs.Performs.{Passes, Performs}
use Rattle.lb_expand.specs.Views.{config}
use Rattle.lb_expand.specs.Works.{Leads, Works}
use Rattle.lb_expand.specs.declared.desk.Desk.{Desk}

-- ---- Calls over a desk alone

pub leads-passes : {S : Type 0} (C : Ghosts S) (s : S) {act rest : Config → Performed} {new old : Desk} → Leads act rest new old → Passes C act rest s new s old
leads-passes C s {act} {rest} {new} {old} l =
    record {
      done = λ p h. l.done p.world (C.meaning s p);
      notes = λ p h. l.notes p.world (C.meaning s p) (C.notes s);
      standing = λ p h t. subst (λ g. Standing g (C.meaning s p)) (sym l.groups) t;
    }

pub works_performs : {S E : Type 0} (C : Ghosts S) (s : S) {act : Config → Performed} (result : Result Went E) {new old : Desk} → Works act result new old → Performs C act result s new s old
works_performs C s (Ok went) h = record { narrows = λ p a. a; passes = leads-passes C s h; made = refl; loan = refl }
works_performs C s (Err e) h = record { narrows = λ p a. a; passes = tt; made = refl; loan = refl }

-- ---- One behind another

pub passes-then : {S : Type 0} {C : Ghosts S} {act mid rest : Config → Performed} {new : S} {desk_new : Desk} {m : S} {desk_m : Desk} {old : S} {desk_old : Desk}
    → ((p : Setting) → C.agrees new p → C.agrees m p) → Passes C act mid m desk_m old desk_old → Passes C mid rest new desk_new m desk_m → Passes C act rest new desk_new old desk_old
passes-then narrows first second =
    record {
      done = λ p h. first.done p (narrows p h) ∙ second.done p h;
      notes = λ p h. first.notes p (narrows p h) ∙ second.notes p h;
      standing = λ p h t. second.standing p h (first.standing p (narrows p h) t);
    }

pub performs-after : {S E : Type 0} {C : Ghosts S} {act mid : Config → Performed} (result : Result Went E) {new : S} {desk_new : Desk} {m : S} {desk_m : Desk} {old : S} {desk_old : Desk}
    → ((p : Setting) → C.agrees m p → C.agrees old p) → Passes C act mid m desk_m old desk_old → C.made m ≡ C.made old → C.loan m ≡ C.loan old
    → Performs C mid result new desk_new m desk_m → Performs C act result new desk_new old desk_old
performs-after (Ok went) narrows first made loan second =
    record {
      narrows = λ p h. narrows p (second.narrows p h);
      passes = passes-then second.narrows first second.passes;
      made = second.made ∙ made;
      loan = second.loan ∙ loan;
    }
performs-after (Err e) narrows first made loan second =
    record { narrows = λ p h. narrows p (second.narrows p h); passes = tt; made = second.made ∙ made; loan = second.loan ∙ loan }

-- behind a change of the desk alone
pub performs-behind : {S E : Type 0} (C : Ghosts S) {act mid : Config → Performed} (result : Result Went E) {new : S} {desk_new : Desk} {desk_m : Desk} {old : S} {desk_old : Desk}
    → Leads act mid desk_m desk_old → Performs C mid result new desk_new old desk_m → Performs C act result new desk_new old desk_old
performs-behind C result {new} {desk_new} {desk_m} {old} first second = performs-after result (λ p h. h) (leads-passes C old first) refl refl second

-- a step that goes no further
pub performs-passed : {S E : Type 0} {C : Ghosts S} {act : Config → Performed} {went : Went} {new : S} {desk_new : Desk} {old : S} {desk_old : Desk}
    → ((p : Setting) → C.agrees new p → C.agrees old p) → Passes C act (performed went) new desk_new old desk_old → C.made new ≡ C.made old → C.loan new ≡ C.loan old
    → Performs {E = E} C act (Ok went) new desk_new old desk_old
performs-passed narrows passes made loan = record { narrows = narrows; passes = passes; made = made; loan = loan }

-- ---- What is looked at

pub notes-looked-all : (groups : List Group) (cells : List Cell) (o : Option Notes) → stacked_notes groups (option_map (noted_all cells) o) ≡ option_map (looked_all cells) (stacked_notes groups o)
notes-looked-all groups [] None = refl
notes-looked-all groups [] (Some n) = refl
notes-looked-all groups (c ∷ cells) None = refl
notes-looked-all groups (c ∷ cells) (Some n) =
    notes-looked-all groups cells (Some (noted c n)) ∙ ap (option_map (looked_all cells)) (notes-looked groups c (Some n))

-- ---- What a feed reads

-- the notes once cells are looked at
pub looked_from : (groups_new groups_old : List Group) (looks : List Cell) (new old : Option Notes) → groups_new ≡ groups_old → option_map (noted_all looks) old ≡ new
    → option_map (looked_all looks) (stacked_notes groups_old old) ≡ stacked_notes groups_new new
looked_from groups_new groups_old looks new old groups notes =
    sym (notes-looked-all groups_old looks old) ∙ ap (stacked_notes groups_old) notes ∙ ap (λ g. stacked_notes g new) (sym groups)

-- what is read, from one configuration to another
pub record Read {S X : Type 0} (C : Ghosts S) (took : Config → Took X) (looks : Config → List Cell) (read : Config → Took X) (new : S) (desk_new : Desk) (old : S) (desk_old : Desk) : Type 0 where
  pub narrows : (p : Setting) → C.agrees new p → C.agrees old p
  pub reads : (p : Setting) → C.agrees new p → noting took looks (config p.world (C.meaning old p) desk_old) (C.notes old) ≡ record { took = read (config p.world (C.meaning new p) desk_new); notes = C.notes new }
  pub stands : (p : Setting) → C.agrees new p → Standing desk_old.groups (C.meaning old p) → Standing desk_new.groups (C.meaning new p)
  pub groups : desk_new.groups ≡ desk_old.groups
  pub made : C.made new ≡ C.made old
  pub loan : C.loan new ≡ C.loan old

pub read-passes : {S X : Type 0} (C : Ghosts S) (took : Config → Took X) (looks : Config → List Cell) (next : X → Config → Performed) (x : X) {new : S} {desk_new : Desk} {old : S} {desk_old : Desk}
    → Read C took looks (whole x) new desk_new old desk_old → Passes C (λ c. with_outcome (took c) (looks c) next) (next x) new desk_new old desk_old
read-passes C took looks next x {new} {desk_new} {old} {desk_old} r =
    record {
      done = λ p h. ap (λ n. (with_outcome n.took [] next).done) (r.reads p h);
      notes =
          λ p h.
          let c = config p.world (C.meaning old p) desk_old in
          ap (λ n. (with_outcome n.took (looks c) next).noted (stacked_notes desk_old.groups (C.notes old))) (r.reads p h)
          ∙ ap (λ n. (next x (config p.world (C.meaning new p) desk_new)).noted n)
          (looked_from desk_new.groups desk_old.groups (looks c) (C.notes new) (C.notes old) r.groups (ap (λ n. n.notes) (r.reads p h)));
      standing = r.stands;
    }

pub read-fails : {S X : Type 0} (C : Ghosts S) (took : Config → Took X) (looks : Config → List Cell) (next : X → Config → Performed) (k : Kind) {new : S} {desk_new : Desk} {old : S} {desk_old : Desk}
    → Read C took looks (failed k) new desk_new old desk_old → Passes C (λ c. with_outcome (took c) (looks c) next) (stopped k) new desk_new old desk_old
read-fails C took looks next k {new} {desk_new} {old} {desk_old} r =
    record {
      done = λ p h. ap (λ n. (with_outcome n.took [] next).done) (r.reads p h);
      notes =
          λ p h.
          let c = config p.world (C.meaning old p) desk_old in
          ap (λ n. (with_outcome n.took (looks c) next).noted (stacked_notes desk_old.groups (C.notes old))) (r.reads p h)
          ∙ looked_from desk_new.groups desk_old.groups (looks c) (C.notes new) (C.notes old) r.groups (ap (λ n. n.notes) (r.reads p h));
      standing = r.stands;
    }

-- something is read, and more is done behind it
pub read-performs : {S X E : Type 0} (C : Ghosts S) (took : Config → Took X) (looks : Config → List Cell) (next : X → Config → Performed) (x : X) (result : Result Went E) {fin : S} {desk_fin : Desk} {new : S} {desk_new : Desk} {old : S} {desk_old : Desk}
    → Read C took looks (whole x) new desk_new old desk_old → Performs C (next x) result fin desk_fin new desk_new → Performs C (λ c. with_outcome (took c) (looks c) next) result fin desk_fin old desk_old
read-performs C took looks next x result r p = performs-after result r.narrows (read-passes C took looks next x r) r.made r.loan p

pub read-stops : {S X E : Type 0} (C : Ghosts S) (took : Config → Took X) (looks : Config → List Cell) (next : X → Config → Performed) (k : Kind) {new : S} {desk_new : Desk} {old : S} {desk_old : Desk}
    → Read C took looks (failed k) new desk_new old desk_old → Performs {E = E} C (λ c. with_outcome (took c) (looks c) next) (Ok (Stopped k)) new desk_new old desk_old
read-stops C took looks next k r = record { narrows = r.narrows; passes = read-fails C took looks next k r; made = r.made; loan = r.loan }

-- ---- Text that is skipped

-- conditionals inside a condition are given up, and text is skipped at their level
pub inside-left : (d : Desk) (left : List Conditional) (count : ℕ) (sought : Sought) (next : Stopper → Config → Performed) → count ≡ inside d.conditionals → left ≡ drop (inside d.conditionals) d.conditionals
    → Leads (λ c. skipping (inside c.conditionals) sought (without_inside c) next) (λ c. skipping count sought c next) (record d { conditionals = left }) d
inside-left d left count sought next e l =
    record {
      done = λ w k i. (skipping (sym e i) sought (record (config w k d) { conditionals = sym l i }) next).done;
      notes = λ w k n i. (skipping (sym e i) sought (record (config w k d) { conditionals = sym l i }) next).noted (stacked_notes d.groups n);
      groups = refl;
    }

-- ---- Stops

-- what holds of the kind of a stop at a fault
pub at-fault : (P : Kind → Type 0) (e : Stop) (k : Kind) → e ≡ Fault k → MayStopAt e P → P k
at-fault P e k is h = subst (λ s. MayStopAt s P) is h

-- ---- Tokens that are taken, cells that are looked at, and values that are known

-- what is done by one, where it is another
pub performs-as : {S E X : Type 0} {C : Ghosts S} (act : X → Config → Performed) {x y : X} (result : Result Went E) {new : S} {desk_new : Desk} {old : S} {desk_old : Desk}
    → x ≡ y → Performs C (act y) result new desk_new old desk_old → Performs C (act x) result new desk_new old desk_old
performs-as {S} {E} {X} {C} act result {new} {desk_new} {old} {desk_old} e p = subst (λ z. Performs C (act z) result new desk_new old desk_old) (sym e) p

pub standing-told : {S : Type 0} (C : Ghosts S) (new old : S) (groups_new groups_old : List Group) → Told C new old → groups_new ≡ groups_old
    → (p : Setting) → C.agrees new p → Standing groups_old (C.meaning old p) → Standing groups_new (C.meaning new p)
standing-told C new old groups_new groups_old t g p h s = subst (λ k. Standing groups_new k) (sym (t.stays p h)) (subst (λ l. Standing l (C.meaning old p)) (sym g) s)

-- a token is taken, or its end or a fault, and something is done with that
pub gets-passes : {S : Type 0} (C : Ghosts S) (passes : Bool) (got : Got) (next : Got → Config → Performed) {new : S} {desk_new : Desk} {old : S} {desk_old : Desk} → Told C new old → passes ≡ ends_pass desk_old.readings
    → ((p : Setting) → C.agrees new p → taken_by passes (config p.world (C.meaning old p) desk_old) ≡ record { got = got; next = config p.world (C.meaning new p) desk_new })
    → ((p : Setting) → C.agrees new p → C.notes new ≡ option_map (noted_all (looks_by passes (config p.world (C.meaning old p) desk_old))) (C.notes old))
    → desk_new.groups ≡ desk_old.groups
    → Passes C (λ c. let t = taken_by (ends_pass c.readings) c in looking (looks_by (ends_pass c.readings) c) (next t.got t.next)) (next got) new desk_new old desk_old
gets-passes C passes got next {new} {desk_new} {old} {desk_old} told is ok notes groups =
    record {
      done =
          λ p h.
          let c = config p.world (C.meaning old p) desk_old in
          ap (λ t. (next t.got t.next).done) (ap (λ b. taken_by b c) (sym is) ∙ ok p h);
      notes =
          λ p h.
          let c = config p.world (C.meaning old p) desk_old in
          ap (λ b. let t = taken_by b c in (next t.got t.next).noted (option_map (looked_all (looks_by b c)) (stacked_notes desk_old.groups (C.notes old)))) (sym is)
          ∙ ap (λ t. (next t.got t.next).noted (option_map (looked_all (looks_by passes c)) (stacked_notes desk_old.groups (C.notes old)))) (ok p h)
          ∙ ap (λ n. (next got (config p.world (C.meaning new p) desk_new)).noted n)
          (looked_from desk_new.groups desk_old.groups (looks_by passes c) (C.notes new) (C.notes old) groups (sym (notes p h)));
      standing = standing-told C new old desk_new.groups desk_old.groups told groups;
    }

-- and this is done with a token
pub takes-passes : {S : Type 0} (C : Ghosts S) (passes : Bool) (got : Got) (next : Tok → Config → Performed) {new : S} {desk_new : Desk} {old : S} {desk_old : Desk} → Told C new old → passes ≡ ends_pass desk_old.readings
    → ((p : Setting) → C.agrees new p → taken_by passes (config p.world (C.meaning old p) desk_old) ≡ record { got = got; next = config p.world (C.meaning new p) desk_new })
    → ((p : Setting) → C.agrees new p → C.notes new ≡ option_map (noted_all (looks_by passes (config p.world (C.meaning old p) desk_old))) (C.notes old))
    → desk_new.groups ≡ desk_old.groups → Passes C (λ c. token_taken c next) (λ c. token_as got c next) new desk_new old desk_old
takes-passes C passes got next told is ok notes groups = gets-passes C passes got (λ g d. token_as g d next) told is ok notes groups

-- cells are looked at, and more is done
pub told-passes : {S : Type 0} (C : Ghosts S) (cells : List Cell) (rest : Config → Performed) {new old : S} {desk : Desk} → Told C new old → C.notes new ≡ option_map (noted_all cells) (C.notes old)
    → Passes C (λ c. looking cells (rest c)) rest new desk old desk
told-passes C cells rest {new} {old} {desk} told notes =
    record {
      done = λ p h. ap (λ k. (rest (config p.world k desk)).done) (sym (told.stays p h));
      notes =
          λ p h.
          ap (λ k. (rest (config p.world k desk)).noted (option_map (looked_all cells) (stacked_notes desk.groups (C.notes old)))) (sym (told.stays p h))
          ∙ ap (λ n. (rest (config p.world (C.meaning new p) desk)).noted n) (looked_from desk.groups desk.groups cells (C.notes new) (C.notes old) refl (sym notes));
      standing = standing-told C new old desk.groups desk.groups told refl;
    }

looked-append : (a b : List Cell) (n : StackedNotes) → looked_all (a ++ b) n ≡ looked_all b (looked_all a n)
looked-append [] b n = refl
looked-append (c ∷ a) b n = looked-append a b (looked c n)

looked-append-of : (a b : List Cell) (o : Option StackedNotes) → option_map (looked_all (a ++ b)) o ≡ option_map (looked_all b) (option_map (looked_all a) o)
looked-append-of a b None = refl
looked-append-of a b (Some n) = ap Some (looked-append a b n)

-- some, and then others
pub looks-passes : {S : Type 0} (C : Ghosts S) (a b : List Cell) (rest : Config → Performed) (s : S) (desk : Desk) → Passes C (λ c. looking (a ++ b) (rest c)) (λ c. looking a (looking b (rest c))) s desk s desk
looks-passes C a b rest s desk =
    record {
      done = λ p h. refl;
      notes = λ p h. ap (λ n. (rest (config p.world (C.meaning s p) desk)).noted n) (looked-append-of a b (stacked_notes desk.groups (C.notes s)));
      standing = λ p h t. t;
    }

-- a value that is known
pub value-passes : {S X : Type 0} (C : Ghosts S) (value : Config → X) (act : X → Config → Performed) (x : X) {s : S} {desk : Desk} → ((p : Setting) → C.agrees s p → value (config p.world (C.meaning s p) desk) ≡ x)
    → Passes C (λ c. act (value c) c) (act x) s desk s desk
value-passes C value act x {s} {desk} is =
    record {
      done = λ p h. ap (λ v. (act v (config p.world (C.meaning s p) desk)).done) (is p h);
      notes = λ p h. ap (λ v. (act v (config p.world (C.meaning s p) desk)).noted (stacked_notes desk.groups (C.notes s))) (is p h);
      standing = λ p h t. t;
    }

-- what is done behind one, where it is another
pub passes-as : {S X : Type 0} {C : Ghosts S} {act : Config → Performed} (rest : X → Config → Performed) {x y : X} {new : S} {desk_new : Desk} {old : S} {desk_old : Desk}
    → x ≡ y → Passes C act (rest x) new desk_new old desk_old → Passes C act (rest y) new desk_new old desk_old
passes-as {S} {X} {C} {act} rest {x} {y} {new} {desk_new} {old} {desk_old} e p = subst (λ z. Passes C act (rest z) new desk_new old desk_old) e p

-- one cell is looked at
pub one-noted : (cell : Cell) (new old : Option Notes) → new ≡ option_map (noted cell) old → new ≡ option_map (noted_all (cell ∷ [])) old
one-noted cell new None e = e
one-noted cell new (Some n) e = e

-- cells are looked at for a value, which is this
pub look-passes : {S X : Type 0} (C : Ghosts S) (cells : List Cell) (value : Config → X) (act : X → Config → Performed) (x : X) {new old : S} {desk : Desk} → Told C new old → C.notes new ≡ option_map (noted_all cells) (C.notes old)
    → ((p : Setting) → C.agrees new p → value (config p.world (C.meaning old p) desk) ≡ x) → Passes C (λ c. looking cells (act (value c) c)) (act x) new desk old desk
look-passes C cells value act x {new} {old} {desk} told notes is =
    passes-then (λ p h. h) (told-passes C cells (λ c. act (value c) c) told notes)
    (value-passes C value act x (λ p h. ap (λ k. value (config p.world k desk)) (told.stays p h) ∙ is p h))

-- ---- One step behind another

pub and-passes : {S : Type 0} {C : Ghosts S} (act more rest : Config → Performed) {new : S} {desk_new : Desk} {m : S} {desk_m : Desk} {old : S} {desk_old : Desk}
    → ((p : Setting) → C.agrees new p → C.agrees m p) → Passes C act (performed On) m desk_m old desk_old → Passes C more rest new desk_new m desk_m → Passes C (λ c. and_then (act c) more) rest new desk_new old desk_old
and-passes {S} {C} act more rest {new} {desk_new} {m} {desk_m} {old} {desk_old} narrows first second =
    passes-then narrows
    (
    record {
      done = λ p h. ap (λ (s : Step). (and_as s.went (act (config p.world (C.meaning old p) desk_old)) (more s.next)).done) (first.done p h);
      notes =
          λ p h.
          ap (λ (s : Step). (and_as s.went (act (config p.world (C.meaning old p) desk_old)) (more s.next)).noted (stacked_notes desk_old.groups (C.notes old))) (first.done p h)
          ∙ ap (λ n. (more (config p.world (C.meaning m p) desk_m)).noted n) (first.notes p h);
      standing = first.standing;
    }
    )
    second

pub and-performs : {S E : Type 0} {C : Ghosts S} (act more : Config → Performed) (result : Result Went E) {new : S} {desk_new : Desk} {m : S} {desk_m : Desk} {old : S} {desk_old : Desk}
    → Performs {E = E} C act (Ok On) m desk_m old desk_old → Performs C more result new desk_new m desk_m → Performs C (λ c. and_then (act c) more) result new desk_new old desk_old
and-performs act more (Ok went) first second =
    record {
      narrows = λ p h. first.narrows p (second.narrows p h);
      passes = and-passes act more (performed went) second.narrows first.passes second.passes;
      made = second.made ∙ first.made;
      loan = second.loan ∙ first.loan;
    }
and-performs act more (Err e) first second =
    record { narrows = λ p h. first.narrows p (second.narrows p h); passes = tt; made = second.made ∙ first.made; loan = second.loan ∙ first.loan }

ended-as : (went : Went) (p more : Performed) → (went ≡ On → ⊥) → and_as went p more ≡ p
ended-as On p more h = absurd (h refl)
ended-as (Gave tok) p more h = refl
ended-as (Answered answer) p more h = refl
ended-as Over p more h = refl
ended-as (Stopped kind) p more h = refl
ended-as (StoppedAt fault) p more h = refl

pub and-ended : {S E : Type 0} {C : Ghosts S} (act more : Config → Performed) (went : Went) {new : S} {desk_new : Desk} {old : S} {desk_old : Desk}
    → (went ≡ On → ⊥) → Performs {E = E} C act (Ok went) new desk_new old desk_old → Performs {E = E} C (λ c. and_then (act c) more) (Ok went) new desk_new old desk_old
and-ended {S} {E} {C} act more went {new} {desk_new} {old} {desk_old} ends first =
    record {
      narrows = first.narrows;
      passes = record {
        done =
            λ p h.
            let c = config p.world (C.meaning old p) desk_old in
            ap (λ q. q.done) (ended-as (act c).done.went (act c) (more (act c).done.next) (λ e. ends (ap (λ s. s.went) (sym (first.passes.done p h)) ∙ e))) ∙ first.passes.done p h;
        notes =
            λ p h.
            let c = config p.world (C.meaning old p) desk_old in
            ap (λ q. q.noted (stacked_notes desk_old.groups (C.notes old))) (ended-as (act c).done.went (act c) (more (act c).done.next) (λ e. ends (ap (λ s. s.went) (sym (first.passes.done p h)) ∙ e)))
            ∙ first.passes.notes p h;
        standing = first.passes.standing;
      };
      made = first.made;
      loan = first.loan;
    }

-- what is done by one is done by the other
pub same-passes : {S : Type 0} (C : Ghosts S) {act rest : Config → Performed} {s : S} {desk : Desk} → ((c : Config) → act c ≡ rest c) → Passes C act rest s desk s desk
same-passes C {act} {rest} {s} {desk} e =
    record {
      done = λ p h. ap (λ q. q.done) (e (config p.world (C.meaning s p) desk));
      notes = λ p h. ap (λ q. q.noted (stacked_notes desk.groups (C.notes s))) (e (config p.world (C.meaning s p) desk));
      standing = λ p h t. t;
    }

-- the innermost reading is taken
pub taken-passes : {S : Type 0} (C : Ghosts S) (s : S) (act : List Reading → Config → Performed) (r : Reading) (old mid : Desk) → old ≡ record mid { readings = r ∷ mid.readings }
    → Passes C (λ c. act c.readings c) (λ c. act (r ∷ c.readings) (record c { readings = r ∷ c.readings })) s mid s old
taken-passes C s act r old mid e =
    record {
      done = λ p h. ap (λ (d : Desk). (act d.readings (config p.world (C.meaning s p) d)).done) e;
      notes = λ p h. ap (λ (d : Desk). (act d.readings (config p.world (C.meaning s p) d)).noted (stacked_notes d.groups (C.notes s))) e;
      standing = λ p h t. subst (λ (d : Desk). Standing d.groups (C.meaning s p)) e t;
    }
