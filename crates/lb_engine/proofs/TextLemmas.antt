-- Texts that are expanded up to the brace that closes them.
use Rattle.std.proofs.Common.{◌≡◌, ◌∙◌, ◌++◌, ◌≤◌, ◌<◌, ℕ, zero, suc, true, false, ap, refl, subst, sym, arith, length, List, [], ◌∷◌, Some, None}
use Rattle.std.specs.Prelude.{Bool, Option, if◌then◌else◌, Ok}
use Rattle.std.proofs.lemmas.Bool.{le-ltb, lt-ltb}
use Rattle.lb_base.specs.declared.fault.Kind.TheVariants.{DepthLimit, Runaway}
use Rattle.lb_base.specs.declared.token.Tok.{Tok}
use Rattle.lb_values.specs.declared.meaning.Meaning.{Meaning}
use Rattle.lb_model_grammar.specs.Arguments.{closes, opens}
use Rattle.lb_model.specs.declared.cells.Cells.{Ghosts}
use Rattle.lb_model.specs.Settings.{Setting}
use Rattle.lb_model_expansion.specs.Expansion.{ran}
use Rattle.lb_model_expansion.specs.declared.expansion.Went.{Went}
use Rattle.lb_model_expansion.specs.declared.expansion.Went.TheVariants as way
use Rattle.lb_model_nest.specs.declared.turn.Went.TheVariants.{On}
use Rattle.lb_model_nest.specs.Wholes.{Executed, Turn, Whole, executed, stop, with_feed}
use Rattle.lb_model_engine.specs.Reads.{meaning_to, next, next_or, token_to}
use Rattle.lb_model_engine.specs.Texts.{in_text, one_more, text_rest, text_within}
use Rattle.lb_model_engine.proofs.FallsReads.{next_or-given}
use Rattle.lb_engine.specs.ExpandedTexts.{level_behind, level_by}
use Rattle.lb_engine.specs.Leads.{Leads, Passes}
use Rattle.lb_engine.specs.Reads.{behind_reading}
use Rattle.lb_engine.specs.Views.{whole}
use Rattle.lb_engine.specs.declared.engine.Engine.{Engine}
use Rattle.lb_engine.specs.declared.reading.Reading.{Reading}
use Rattle.lb_engine.specs.declared.reading.Reading.TheVariants as reading
use Rattle.lb_model.specs.Stacked.{stacked_notes}

-- what is done with a token
abbrev pub further : ℕ → ℕ → List Tok → (List Tok → Whole → Executed) → Tok → Option Meaning → Whole → Executed
further n level toks row tok m v = in_text (opens tok) (closes tok) level toks tok (λ l ts u. text_within n l ts row u) row v

-- the same, by how many braces are open behind it
abbrev pub going : Option ℕ → ℕ → List Tok → (List Tok → Whole → Executed) → Tok → Whole → Executed
going None n toks row tok v = row toks v
going (Some level) n toks row tok v = one_more toks tok (λ ts u. text_within n level ts row u) v

by-braces : (a b : Bool) (level n : ℕ) (toks : List Tok) (row : List Tok → Whole → Executed) (tok : Tok) (v : Whole)
    → in_text a b level toks tok (λ l ts u. text_within n l ts row u) row v ≡ going (level_by a b level) n toks row tok v
by-braces true b level n toks row tok v = refl
by-braces false true zero n toks row tok v = refl
by-braces false true (suc level) n toks row tok v = refl
by-braces false false level n toks row tok v = refl

pub goes-on : (level n : ℕ) (toks : List Tok) (row : List Tok → Whole → Executed) (tok : Tok) (m : Option Meaning) (o : Option ℕ) → level_behind level tok ≡ o
    → further n level toks row tok m ≡ going o n toks row tok
goes-on level n toks row tok m o e = (λ i v. by-braces (opens tok) (closes tok) level n toks row tok v i) ∙ ap (λ l. going l n toks row tok) e

pub with-room : (level n : ℕ) (toks : List Tok) (row : List Tok → Whole → Executed) (tok : Tok) → length toks < 1000000 → going (Some level) n toks row tok ≡ text_within n level (toks ++ tok ∷ []) row
with-room level n toks row tok h = λ i v. if lt-ltb (length toks) 1000000 h i then text_within n level (toks ++ tok ∷ []) row v else stop DepthLimit v

pub without-room : (level n : ℕ) (toks : List Tok) (row : List Tok → Whole → Executed) (tok : Tok) → 1000000 ≤ length toks → going (Some level) n toks row tok ≡ stop DepthLimit
without-room level n toks row tok h = λ i v. if le-ltb (length toks) 1000000 h i then text_within n level (toks ++ tok ∷ []) row v else stop DepthLimit v

-- at most one more brace is open behind a token
one-more-open : (a b : Bool) (level l : ℕ) → level_by a b level ≡ Some l → l ≤ suc level
one-more-open true b level l e = let same : suc level ≡ l = cc in omega (arith, same)
one-more-open false true zero l e = cc
one-more-open false true (suc level) l e = let same : level ≡ l = cc in omega (arith, same)
one-more-open false false level l e = let same : level ≡ l = cc in omega (arith, same)

pub level-bound : (level l : ℕ) (tok : Tok) → level_behind level tok ≡ Some l → l ≤ suc level
level-bound level l tok e = one-more-open (opens tok) (closes tok) level l e

-- ---- The steps that are left

abbrev nothing : Tok → Option Meaning → Whole → Executed
nothing tok m w = executed On w

gave : (went : Went) (w : Whole) → (ran w.feed).done.went ≡ went
    → (token_to went (λ tok v. meaning_to nothing tok v) (stop Runaway) (with_feed (ran w.feed).done.next w)).done.went ≡ On
    → suc (next_or (stop Runaway) nothing w).done.next.feed.left ≤ w.feed.left
gave (way.Gave tok) w is on = next_or-given (stop Runaway) nothing w tok (λ t m v. omega arith) is
gave way.On w is on = cc
gave way.Over w is on = cc
gave (way.Stopped kind) w is on = cc
gave (way.StoppedAt fault) w is on = cc
gave (way.Answered a) w is on = cc

-- a token takes a step
pub next-takes : {S E : Type 0} (C : Ghosts S) (tok : Tok) (m : Option Meaning) {r : Reading (Tok × Option Meaning)} {new : S} {en : Engine} {old : S} {eo : Engine} (p : Setting)
    → r ≡ reading.Of (tok, m)
    → ((row : Tok → Option Meaning → Whole → Executed) → Leads {E = E} C (next row) (behind_reading (λ t. row t.0 t.1)) (Ok r) new en old eo)
    → C.agrees new p → suc en.desk.left ≤ eo.desk.left
next-takes {S} {E} C tok m {r} {new} {en} {old} {eo} p is leads h =
    let w : Whole = whole p (C.meaning old p) eo in
    let e : (next nothing w).done ≡ record { went = On; next = whole p (C.meaning new p) en } =
    (leads nothing).passes.done p h ∙ ap (λ n. (behind_reading (λ t. nothing t.0 t.1) n (whole p (C.meaning new p) en)).done) is
    in
    subst (λ (t : Turn). suc t.next.feed.left ≤ eo.desk.left) e (gave (ran w.feed).done.went w refl (ap (λ (t : Turn). t.went) e))

-- with no turn yet
pub text-start : {S : Type 0} (C : Ghosts S) (row : List Tok → Whole → Executed) (toks : List Tok) (s : S) (e : Engine) (n : ℕ)
    → toks ≡ [] → n ≡ suc e.desk.left → Passes C (text_rest row) (text_within n 0 toks row) s e s e
unfolding text_rest
text-start C row toks s e n none is =
    record {
      done = λ p h. ap (λ m. (text_within m 0 [] row (whole p (C.meaning s p) e)).done) (sym is) ∙ ap (λ ts. (text_within n 0 ts row (whole p (C.meaning s p) e)).done) (sym none);
      notes =
          λ p h.
          ap (λ m. (text_within m 0 [] row (whole p (C.meaning s p) e)).noted (stacked_notes e.desk.groups (C.notes s))) (sym is)
          ∙ ap (λ ts. (text_within n 0 ts row (whole p (C.meaning s p) e)).noted (stacked_notes e.desk.groups (C.notes s))) (sym none);
    }
