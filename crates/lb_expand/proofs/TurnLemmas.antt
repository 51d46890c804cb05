-- Turns: what a step leaves to be done by those behind it.
use Rattle.std.proofs.Common.{◌≡◌, ◌∙◌, ◌+◌, ◌≤◌, ◌<◌, ◌^◌, List, [], Some, None, ℕ, zero, suc, ap, arith, refl, subst, sym}
use Rattle.std.specs.Prelude.{Option, Result, Ok, Err, true, if◌then◌else◌}
use Rattle.std.specs.Option.{option_map}
use Rattle.lb_base.specs.declared.fault.Kind.{Kind}
use Rattle.lb_base.specs.declared.fault.Kind.TheVariants.{Runaway}
use Rattle.lb_base.specs.declared.fault.Stop.{Stop}
use Rattle.lb_base.specs.declared.token.Tok.{Tok}
use Rattle.lb_base.specs.declared.token.Tok.TheVariants.{Active, Char, Param, Word}
use Rattle.lb_values.specs.declared.cell.Cell.{Cell}
use Rattle.lb_model.specs.declared.cells.Cells.{Ghosts}
use Rattle.lb_model.specs.declared.place.Got.{Got}
use Rattle.lb_model.specs.declared.place.Got.TheVariants.{End as GotEnd, Tok as GotTok}
use Rattle.lb_model.specs.Configs.{Config, looks_by, taken_by}
use Rattle.lb_model.specs.Settings.{Setting, noted_all}
use Rattle.lb_model.specs.Stacked.{StackedNotes, looked_all, stacked_notes}
use Rattle.lb_model.specs.Told.{Told}
use Rattle.lb_model_grammar.specs.Words.{is_character}
use Rattle.lb_model_expansion.specs.Expansion.{at_end, got_met, handed, most_turns, next, next_from, next_noted, noted_from, ran, or_more, or_noted, resume, resumed, step, wants_plain}
use Rattle.lb_model_expansion.specs.Steps.{Performed, Step, ends_pass, and_as, and_then, looking, performed, stopped}
use Rattle.lb_model_expansion.specs.declared.expansion.Went.{Went}
use Rattle.lb_model_expansion.specs.declared.expansion.Went.TheVariants.{On, Gave, Answered, Over, Stopped, StoppedAt}
use Rattle.lb_expand.specs.Performs.{Passes, Performs}
use Rattle.lb_expand.specs.Turns.{ended_with, met, ran_from, stop_of, token_came, token_of}
use Rattle.lb_expand.specs.Views.{config}
use Rattle.lb_expand.specs.declared.desk.Desk.{Desk}
use Rattle.lb_expand.proofs.PassLemmas.{and-ended, gets-passes, passes-then, performs-after, performs-passed, same-passes}

-- ---- A step

looking-and-as : (went : Went) (f : Option StackedNotes → Option StackedNotes) (p more : Performed) → record { done = (and_as went p more).done; noted = λ n. (and_as went p more).noted (f n) }
    ≡ and_as went (record { done = p.done; noted = λ n. p.noted (f n) }) more
looking-and-as On f p more = refl
looking-and-as (Gave tok) f p more = refl
looking-and-as (Answered answer) f p more = refl
looking-and-as Over f p more = refl
looking-and-as (Stopped kind) f p more = refl
looking-and-as (StoppedAt fault) f p more = refl

pub step-met : (c : Config) → step c ≡ and_then (met c) (λ d. resume d.readings d)
unfolding step
step-met c =
    let passes = ends_pass c.readings in
    let p = got_met (taken_by passes c).got (taken_by passes c).next in
    looking-and-as p.done.went (option_map (looked_all (looks_by passes c))) p (resume p.done.next.readings p.done.next)

-- ---- Turns

or-more-ended : (went : Went) (s more : Step) → (went ≡ On → ⊥) → or_more went s more ≡ s
or-more-ended On s more h = absurd (h refl)
or-more-ended (Gave tok) s more h = refl
or-more-ended (Answered answer) s more h = refl
or-more-ended Over s more h = refl
or-more-ended (Stopped kind) s more h = refl
or-more-ended (StoppedAt fault) s more h = refl

or-noted-ended : (went : Went) (n more : Option StackedNotes) → (went ≡ On → ⊥) → or_noted went n more ≡ n
or-noted-ended On n more h = absurd (h refl)
or-noted-ended (Gave tok) n more h = refl
or-noted-ended (Answered answer) n more h = refl
or-noted-ended Over n more h = refl
or-noted-ended (Stopped kind) n more h = refl
or-noted-ended (StoppedAt fault) n more h = refl

-- a turn that goes on leaves one turn less
pub turn-passes : {S : Type 0} {C : Ghosts S} (turns : ℕ) {new : S} {desk_new : Desk} {old : S} {desk_old : Desk}
    → Passes C step (performed On) new desk_new old desk_old → Passes C (ran_from (suc turns)) (ran_from turns) new desk_new old desk_old
unfolding next_from noted_from
turn-passes {S} {C} turns {new} {desk_new} {old} {desk_old} first =
    record {
      done = λ p h. ap (λ (s : Step). or_more s.went s (next_from turns s.next)) (first.done p h);
      notes =
          λ p h.
          let c = config p.world (C.meaning old p) desk_old in
          let n = stacked_notes desk_old.groups (C.notes old) in
          ap (λ (s : Step). or_noted s.went ((step c).noted n) (noted_from turns s.next ((step c).noted n))) (first.done p h)
          ∙ ap (λ m. noted_from turns (config p.world (C.meaning new p) desk_new) m) (first.notes p h);
      standing = first.standing;
    }

-- a turn that ends them
pub last-passes : {S : Type 0} {C : Ghosts S} (turns : ℕ) (went : Went) {new : S} {desk_new : Desk} {old : S} {desk_old : Desk} → (went ≡ On → ⊥)
    → Passes C step (performed went) new desk_new old desk_old → Passes C (ran_from (suc turns)) (performed went) new desk_new old desk_old
unfolding next_from noted_from
last-passes {S} {C} turns went {new} {desk_new} {old} {desk_old} ends first =
    record {
      done =
          λ p h.
          ap (λ (s : Step). or_more s.went s (next_from turns s.next)) (first.done p h)
          ∙ or-more-ended went (record { went = went; next = config p.world (C.meaning new p) desk_new }) _ ends;
      notes =
          λ p h.
          let c = config p.world (C.meaning old p) desk_old in
          let n = stacked_notes desk_old.groups (C.notes old) in
          ap (λ (s : Step). or_noted s.went ((step c).noted n) (noted_from turns s.next ((step c).noted n))) (first.done p h)
          ∙ or-noted-ended went ((step c).noted n) _ ends
          ∙ first.notes p h;
      standing = first.standing;
    }

-- ---- All turns

pub ran-starts : (c : Config) → ran c ≡ ran_from most_turns c
unfolding next next_noted
ran-starts c = refl

-- there is a turn more
pub one-more : (all done turns : ℕ) → 2 ^ 64 ≤ all → done + turns ≡ all → done < 18446744060824649728 → (n : ℕ) × (turns ≡ suc n) × (done + 1 + n ≡ all)
one-more all done zero a e h = absurd (omega (arith, a, e, h))
one-more all done (suc n) a e h = (n, refl, omega (arith, e))

-- ---- Turns that begin with a token that was taken

turn-as : (went : Went) (cells : List Cell) (p more : Performed)
    → record { done = or_more went p.done more.done; noted = λ n. or_noted went (p.noted (option_map (looked_all cells) n)) (more.noted (p.noted (option_map (looked_all cells) n))) }
    ≡ looking cells (and_as went p more)
turn-as On cells p more = refl
turn-as (Gave tok) cells p more = refl
turn-as (Answered answer) cells p more = refl
turn-as Over cells p more = refl
turn-as (Stopped kind) cells p more = refl
turn-as (StoppedAt fault) cells p more = refl

turn-met : (turns : ℕ) (c : Config)
    → ran_from (suc turns) c ≡ (let t = taken_by (ends_pass c.readings) c in looking (looks_by (ends_pass c.readings) c) (and_then (resumed (got_met t.got t.next)) (ran_from turns)))
unfolding step next_from noted_from
turn-met turns c =
    let passes = ends_pass c.readings in
    let p = resumed (got_met (taken_by passes c).got (taken_by passes c).next) in
    turn-as p.done.went (looks_by passes c) p (ran_from turns p.done.next)

-- all turns, from the first token on, where no reading is open
pub ran-begins : {S : Type 0} (C : Ghosts S) (got : Got) {new : S} {desk_new : Desk} {old : S} {desk_old : Desk} → Told C new old → desk_old.readings ≡ []
    → ((p : Setting) → C.agrees new p → taken_by true (config p.world (C.meaning old p) desk_old) ≡ record { got = got; next = config p.world (C.meaning new p) desk_new })
    → ((p : Setting) → C.agrees new p → C.notes new ≡ option_map (noted_all (looks_by true (config p.world (C.meaning old p) desk_old))) (C.notes old))
    → desk_new.groups ≡ desk_old.groups
    → (turns : ℕ) × (2 ^ 64 ≤ turns) × Passes C ran (λ c. and_then (resumed (got_met got c)) (ran_from turns)) new desk_new old desk_old
ran-begins C got told none ok notes groups =
    let first = one-more most_turns 0 most_turns (omega arith) refl (omega arith) in
    let turns = first.0 in (
      turns,
      omega (arith, first.1),
      passes-then told.narrows (same-passes C (λ c. ran-starts c ∙ ap (λ n. ran_from n c) first.1 ∙ turn-met turns c))
          (gets-passes C true got (λ g d. and_then (resumed (got_met g d)) (ran_from turns)) told (ap ends_pass (sym none)) ok notes groups),
    )

-- and they end with it
ended-first : {S E : Type 0} {C : Ghosts S} (act : Config → Performed) (turns : ℕ) (went : Went) {s : S} {desk : Desk} → (went ≡ On → ⊥)
    → Passes C act (performed went) s desk s desk → Performs {E = E} C (λ c. and_then (resumed (act c)) (ran_from turns)) (Ok went) s desk s desk
ended-first act turns went ends first =
    and-ended (λ c. resumed (act c)) (ran_from turns) went ends (and-ended act (λ d. resume d.readings d) went ends (performs-passed (λ p h. h) first refl refl))

pub ran-ends : {S E : Type 0} (C : Ghosts S) (got : Got) (went : Went) {new : S} {desk_new : Desk} {old : S} {desk_old : Desk} → Told C new old → desk_old.readings ≡ []
    → ((p : Setting) → C.agrees new p → taken_by true (config p.world (C.meaning old p) desk_old) ≡ record { got = got; next = config p.world (C.meaning new p) desk_new })
    → ((p : Setting) → C.agrees new p → C.notes new ≡ option_map (noted_all (looks_by true (config p.world (C.meaning old p) desk_old))) (C.notes old))
    → desk_new.groups ≡ desk_old.groups → (went ≡ On → ⊥) → Passes C (got_met got) (performed went) new desk_new new desk_new → Performs {E = E} C ran (Ok went) new desk_new old desk_old
ran-ends C got went told none ok notes groups ends last =
    let first = ran-begins C got told none ok notes groups in
    performs-after (Ok went) told.narrows first.2 told.made told.loan (ended-first (got_met got) first.0 went ends last)

pub gave-ends : (tok : Tok) → Gave tok ≡ On → ⊥
gave-ends tok e = cc

pub over-ends : Over ≡ On → ⊥
over-ends e = cc

pub stopped-ends : (kind : Kind) → Stopped kind ≡ On → ⊥
stopped-ends kind e = cc

looked-none : (o : Option StackedNotes) → option_map (looked_all []) o ≡ o
looked-none None = refl
looked-none (Some n) = refl

-- where no reading is open a character is given
pub character-given : {S : Type 0} (C : Ghosts S) (tok : Tok) (s : S) (desk : Desk) → is_character tok ≡ true → desk.readings ≡ [] → Passes C (got_met (GotTok tok)) (performed (Gave tok)) s desk s desk
character-given C (Char category code) s desk is none =
    let tok : Tok = Char category code in
    record {
      done = λ p h. let c = config p.world (C.meaning s p) desk in ap (λ r. (if wants_plain r then handed None tok r c else looking [] (handed None tok r c)).done) none;
      notes =
          λ p h.
          let c = config p.world (C.meaning s p) desk in
          let n = stacked_notes desk.groups (C.notes s) in
          ap (λ r. (if wants_plain r then handed None tok r c else looking [] (handed None tok r c)).noted n) none ∙ looked-none n;
      standing = λ p h t. t;
    }
character-given C (Word name) s desk is none = absurd (cc)
character-given C (Active code) s desk is none = absurd (cc)
character-given C (Param number) s desk is none = absurd (cc)

-- and the piece ends
pub end-met : {S : Type 0} (C : Ghosts S) (s : S) (desk : Desk) → desk.readings ≡ [] → Passes C (got_met GotEnd) (performed Over) s desk s desk
end-met C s desk none =
    record {
      done = λ p h. let c = config p.world (C.meaning s p) desk in ap (λ r. (if ends_pass r then at_end r c else stopped Runaway c).done) none;
      notes = λ p h. let c = config p.world (C.meaning s p) desk in ap (λ r. (if ends_pass r then at_end r c else stopped Runaway c).noted (stacked_notes desk.groups (C.notes s))) none;
      standing = λ p h t. t;
    }

-- ---- How calls end

token-as : {S E : Type 0} {C : Ghosts S} (act : Config → Performed) (went : Went) {new : S} {desk_new : Desk} {old : S} {desk_old : Desk}
    → Performs {E = E} C act (Ok went) new desk_new old desk_old → Performs C act (ended_with token_came (token_of went)) new desk_new old desk_old
token-as act On p = record { narrows = p.narrows; passes = tt; made = p.made; loan = p.loan }
token-as act (Gave tok) p = record { narrows = p.narrows; passes = p.passes; made = p.made; loan = p.loan }
token-as act (Answered a) p = record { narrows = p.narrows; passes = tt; made = p.made; loan = p.loan }
token-as act Over p = record { narrows = p.narrows; passes = p.passes; made = p.made; loan = p.loan }
token-as act (Stopped kind) p = record { narrows = p.narrows; passes = p.passes; made = p.made; loan = p.loan }
token-as act (StoppedAt fault) p = record { narrows = p.narrows; passes = p.passes; made = p.made; loan = p.loan }

pub token-performs : {S E : Type 0} {C : Ghosts S} (act : Config → Performed) (went : Went) (result : Result (Option Tok) Stop) {new : S} {desk_new : Desk} {old : S} {desk_old : Desk}
    → result ≡ token_of went → Performs {E = E} C act (Ok went) new desk_new old desk_old → Performs C act (ended_with token_came result) new desk_new old desk_old
token-performs {S} {E} {C} act went result {new} {desk_new} {old} {desk_old} is p =
    subst (λ r. Performs C act (ended_with token_came r) new desk_new old desk_old) (sym is) (token-as act went p)

pub stops-performs : {S X : Type 0} {C : Ghosts S} (act : Config → Performed) (answer : X → Went) (went : Went) {new : S} {desk_new : Desk} {old : S} {desk_old : Desk}
    → Performs {E = Stop} C act (Ok went) new desk_new old desk_old → Performs C act (ended_with answer (Err (stop_of went))) new desk_new old desk_old
stops-performs act answer On p = record { narrows = p.narrows; passes = tt; made = p.made; loan = p.loan }
stops-performs act answer (Gave tok) p = record { narrows = p.narrows; passes = tt; made = p.made; loan = p.loan }
stops-performs act answer (Answered a) p = record { narrows = p.narrows; passes = tt; made = p.made; loan = p.loan }
stops-performs act answer Over p = record { narrows = p.narrows; passes = tt; made = p.made; loan = p.loan }
stops-performs act answer (Stopped kind) p = p
stops-performs act answer (StoppedAt fault) p = p
