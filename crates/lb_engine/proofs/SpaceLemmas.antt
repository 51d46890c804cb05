-- Tokens that are read past spaces.
use Rattle.std.proofs.Common.{◌≡◌, ◌∙◌, ◌≤◌, ℕ, suc, true, false, ap, refl, subst, sym, arith}
use Rattle.std.specs.Prelude.{Option, if◌then◌else◌, Ok}
use Rattle.lb_base.specs.declared.token.Tok.{Tok}
use Rattle.lb_values.specs.declared.meaning.Meaning.{Meaning}
use Rattle.lb_model_grammar.specs.Scans.{is_space}
use Rattle.lb_model.specs.declared.cells.Cells.{Ghosts}
use Rattle.lb_model.specs.Settings.{Setting}
use Rattle.lb_model.specs.Stacked.{stacked_notes}
use Rattle.lb_model_expansion.specs.Expansion.{ran}
use Rattle.lb_model_expansion.specs.declared.expansion.Went.{Went}
use Rattle.lb_model_expansion.specs.declared.expansion.Went.TheVariants as way
use Rattle.lb_model_nest.specs.declared.turn.Went.TheVariants.{On, Over}
use Rattle.lb_model_nest.specs.Wholes.{Executed, Turn, Whole, executed, with_feed}
use Rattle.lb_model_engine.specs.Reads.{meaning_to, next_or, past_spaces_in, past_spaces_or, token_to}
use Rattle.lb_model_engine.proofs.FallsReads.{next_or-given}
use Rattle.lb_engine.specs.Leads.{Leads, Passes}
use Rattle.lb_engine.specs.Reads.{behind_next}
use Rattle.lb_engine.specs.Views.{whole}
use Rattle.lb_engine.specs.declared.engine.Engine.{Engine}
use Rattle.lb_engine.specs.declared.reading.Next.{Next}
use Rattle.lb_engine.specs.declared.reading.Next.TheVariants as next

-- what is done with a token, which may be a space
abbrev pub further : ℕ → (Whole → Executed) → (Tok → Option Meaning → Whole → Executed) → Tok → Option Meaning → Whole → Executed
further n at_end row tok m v = if is_space tok then past_spaces_in n at_end row v else row tok m v

-- ---- The steps that are left

-- nothing is done with a token, and nothing at the end
abbrev nothing : Tok → Option Meaning → Whole → Executed
nothing tok m w = executed On w

gave : (went : Went) (w : Whole) → (ran w.feed).done.went ≡ went
    → (token_to went (λ tok v. meaning_to nothing tok v) (executed Over) (with_feed (ran w.feed).done.next w)).done.went ≡ On
    → suc (next_or (executed Over) nothing w).done.next.feed.left ≤ w.feed.left
gave (way.Gave tok) w is on = next_or-given (executed Over) nothing w tok (λ t m v. omega arith) is
gave way.On w is on = cc
gave way.Over w is on = cc
gave (way.Stopped kind) w is on = cc
gave (way.StoppedAt fault) w is on = cc
gave (way.Answered a) w is on = cc

-- a token takes a step
pub token-takes : {S E : Type 0} (C : Ghosts S) (tok : Tok) (m : Option Meaning) {r : Next} {new : S} {en : Engine} {old : S} {eo : Engine} (p : Setting)
    → r ≡ next.Tok tok m
    → ((at_end : Whole → Executed) (row : Tok → Option Meaning → Whole → Executed) → Leads {E = E} C (next_or at_end row) (behind_next at_end row) (Ok r) new en old eo)
    → C.agrees new p → suc en.desk.left ≤ eo.desk.left
token-takes {S} {E} C tok m {r} {new} {en} {old} {eo} p is leads h =
    let w : Whole = whole p (C.meaning old p) eo in
    let e : (next_or (executed Over) nothing w).done ≡ record { went = On; next = whole p (C.meaning new p) en } =
    (leads (executed Over) nothing).passes.done p h ∙ ap (λ n. (behind_next (executed Over) nothing n (whole p (C.meaning new p) en)).done) is
    in
    subst (λ (t : Turn). suc t.next.feed.left ≤ eo.desk.left) e (gave (ran w.feed).done.went w refl (ap (λ (t : Turn). t.went) e))

-- ---- Turns

-- what is left of the turns is one more than this
pub passes-turn : {S : Type 0} (C : Ghosts S) (act : Whole → Executed) (rest : ℕ → Whole → Executed) (k n : ℕ) {new : S} {en : Engine} {old : S} {eo : Engine}
    → ((p : Setting) → C.agrees new p → k ≡ n) → Passes C act (rest k) new en old eo → Passes C act (rest n) new en old eo
passes-turn C act rest k n {new} {en} {old} {eo} is first =
    record {
      done = λ p h. first.done p h ∙ ap (λ m. (rest m (whole p (C.meaning new p) en)).done) (is p h);
      notes = λ p h. first.notes p h ∙ ap (λ m. (rest m (whole p (C.meaning new p) en)).noted (stacked_notes en.desk.groups (C.notes new))) (is p h);
    }

-- with no turn yet
pub passes-start : {S : Type 0} (C : Ghosts S) (at_end : Whole → Executed) (row : Tok → Option Meaning → Whole → Executed) (s : S) (e : Engine) (n : ℕ)
    → n ≡ suc e.desk.left → Passes C (past_spaces_or at_end row) (past_spaces_in n at_end row) s e s e
unfolding past_spaces_or
passes-start C at_end row s e n is =
    record {
      done = λ p h. ap (λ m. (past_spaces_in m at_end row (whole p (C.meaning s p) e)).done) (sym is);
      notes = λ p h. ap (λ m. (past_spaces_in m at_end row (whole p (C.meaning s p) e)).noted (stacked_notes e.desk.groups (C.notes s))) (sym is);
    }

pub further-space : (n : ℕ) (at_end : Whole → Executed) (row : Tok → Option Meaning → Whole → Executed) (tok : Tok) (m : Option Meaning) → is_space tok ≡ true → further n at_end row tok m ≡ past_spaces_in n at_end row
further-space n at_end row tok m e = λ i v. if e i then past_spaces_in n at_end row v else row tok m v

pub further-other : (n : ℕ) (at_end : Whole → Executed) (row : Tok → Option Meaning → Whole → Executed) (tok : Tok) (m : Option Meaning) → is_space tok ≡ false → further n at_end row tok m ≡ row tok m
further-other n at_end row tok m e = λ i v. if e i then past_spaces_in n at_end row v else row tok m v
