-- Readings of texts, line by line.
use Rattle.std.proofs.Common.{◌≡◌, ◌∙◌, ℕ, ◌≤◌, suc, true, false, List, [], ◌∷◌, ◌++◌, drop, take, length, length-take, Option, Some, None, refl, ap, sym, subst, arith}
use Rattle.std.proofs.lemmas.List.{drop_all}
use Rattle.std.specs.Prelude.{Bool}
use Rattle.std.specs.Option.{option_map}
use Rattle.lb_base.specs.declared.token.Category.{Category}
use Rattle.lb_model.specs.declared.reading.Read.{Read}
use Rattle.lb_model.specs.declared.reading.Read.TheVariants as read
use Rattle.lb_model.specs.declared.reading.ReaderState.{ReaderState}
use Rattle.lb_model.specs.declared.reading.ReaderState.TheVariants.{NewLine}
use Rattle.lb_values.specs.declared.value.Value.{Value}
use Rattle.lb_values.specs.Kept.{Kept}
use Rattle.lb_model.specs.Settings.{Notes, Setting}
use Rattle.lb_model.specs.Sources.{FileText, LineTaken, in_line, line_examined, line_token, moved_on, or_later, text_from, text_token}
use Rattle.lb_model.specs.Tokens.{Taken, categories, cut_lines, next_token, noted_codes, source_line}
use Rattle.lb_tokens.specs.Texts.{LineGave, TextGave, TextGoesOn, begun, behind_line, first_line, taken_of}
use Rattle.lb_tokens.proofs.FirstLine.{none_in}
use Rattle.lb_tokens.proofs.Words.{noted-append}

abbrev pub ends_line : Option Read → Bool
ends_line None = false
ends_line (Some (read.Tok tok)) = false
ends_line (Some read.EndOfLine) = true

pub or_here : {X : Type 0} (r : Option Read) (a b : X) → ends_line r ≡ false → or_later r a b ≡ a
or_here None a b h = refl
or_here (Some (read.Tok tok)) a b h = refl
or_here (Some read.EndOfLine) a b h = cc

-- what is left of a text where its present line is read to this state and this rest
abbrev left_at : FileText → Option Read → ReaderState → List ℕ → LineTaken
left_at x r state rest = record { read = r; line = x.line; state = state; rest = rest; later = x.later }

moved_at : (x : FileText) (t : Taken) (r : Option Read) → t.read ≡ r → in_line x.line x.state x.rest x.later t ≡ left_at x r (moved_on r x.state t.state) (moved_on r x.rest t.rest)
moved_at x t r h = ap (λ r. left_at x r (moved_on r x.state t.state) (moved_on r x.rest t.rest)) h

-- the line is not left, or it is the last one
abbrev Stays : (ℕ → Category) → FileText → Type 0
Stays cats x =
    let t = next_token cats x.state x.rest in
    (text_token cats x ≡ in_line x.line x.state x.rest x.later t) × (line_examined cats x.state x.rest x.later ≡ t.examined)

stays_here : (cats : ℕ → Category) (line : ℕ) (state : ReaderState) (rest : List ℕ) (later : List (List ℕ)) (r : Option Read) → (next_token cats state rest).read ≡ r → ends_line r ≡ false
    → (line_token cats line state rest later ≡ in_line line state rest later (next_token cats state rest)) × (line_examined cats state rest later ≡ (next_token cats state rest).examined)
stays_here cats line state rest [] r h k = (refl, refl)
stays_here cats line state rest (next ∷ later) r h k =
    let t = next_token cats state rest in (
      ap (λ r. or_later r (in_line line state rest (next ∷ later) t) (line_token cats (suc line) NewLine (source_line next) later)) h ∙ or_here r _ _ k,
      ap (λ r. or_later r t.examined (t.examined ++ line_examined cats NewLine (source_line next) later)) h ∙ or_here r _ _ k,
    )

stays_last : (cats : ℕ → Category) (line : ℕ) (state : ReaderState) (rest : List ℕ) (later : List (List ℕ)) → first_line later ≡ None
    → (line_token cats line state rest later ≡ in_line line state rest later (next_token cats state rest)) × (line_examined cats state rest later ≡ (next_token cats state rest).examined)
stays_last cats line state rest [] h = (refl, refl)
stays_last cats line state rest (next ∷ later) h = cc

gives : (cats : ℕ → Category) (r : Option Read) (old new : FileText) (n0 n1 : Option Notes) → Stays cats old → new ≡ record old { state = new.state; rest = new.rest } → LineGave cats r old new n0 n1 → TextGave cats r old new n0 n1
gives cats r old new n0 n1 stays same g =
    let t = next_token cats old.state old.rest in
    record {
      taken = stays.0 ∙ moved_at old t r g.read ∙ ap (λ s. left_at old r s (moved_on r old.rest t.rest)) (sym g.state) ∙ ap (λ l. left_at old r new.state l) (sym g.rest) ∙ sym (ap (taken_of r) same);
      notes = g.notes ∙ sym (ap (λ l. option_map (noted_codes l) n0) stays.1);
    }

-- a token, or an invalid character
pub line_gives : (cats : ℕ → Category) (r : Option Read) (old new : FileText) (n0 n1 : Option Notes) → ends_line r ≡ false → new ≡ record old { state = new.state; rest = new.rest } → LineGave cats r old new n0 n1 → TextGave cats r old new n0 n1
line_gives cats r old new n0 n1 k same g = gives cats r old new n0 n1 (stays_here cats old.line old.state old.rest old.later r g.read k) same g

none_behind : (x : FileText) (later : List (List ℕ)) → option_map (begun x.file (suc x.line)) (first_line later) ≡ None → first_line later ≡ None
none_behind x [] h = refl
none_behind x (next ∷ later) h = cc

-- the end of the last line
pub last_gives : (cats : ℕ → Category) (r : Option Read) (old new : FileText) (n0 n1 : Option Notes) → behind_line new ≡ None → new ≡ record old { state = new.state; rest = new.rest } → LineGave cats r old new n0 n1 → TextGave cats r old new n0 n1
last_gives cats r old new n0 n1 none same g =
    gives cats r old new n0 n1 (stays_last cats old.line old.state old.rest old.later (none_behind old old.later (sym (ap behind_line same) ∙ none))) same g

-- ---- The next line

abbrev token_or : (ℕ → Category) → LineTaken → Option FileText → LineTaken
token_or cats t None = t
token_or cats t (Some x) = text_token cats x

abbrev examined_or : (ℕ → Category) → Option FileText → List ℕ
examined_or cats None = []
examined_or cats (Some x) = line_examined cats x.state x.rest x.later

behind : (cats : ℕ → Category) (file : List ℕ) (line : ℕ) (state : ReaderState) (rest : List ℕ) (later : List (List ℕ)) (new : FileText) → (next_token cats state rest).read ≡ Some read.EndOfLine
    → option_map (begun file (suc line)) (first_line later) ≡ Some new
    → (line_token cats line state rest later ≡ text_token cats new) × (line_examined cats state rest later ≡ (next_token cats state rest).examined ++ line_examined cats new.state new.rest new.later)
behind cats file line state rest [] new h k = cc
behind cats file line state rest (next ∷ later) new h k =
    let t = next_token cats state rest in (
      ap (λ r. or_later r (in_line line state rest (next ∷ later) t) (line_token cats (suc line) NewLine (source_line next) later)) h ∙ ap (token_or cats (text_token cats new)) k,
      ap (λ r. or_later r t.examined (t.examined ++ line_examined cats NewLine (source_line next) later)) h ∙ ap (λ x. t.examined ++ examined_or cats x) k,
    )

pub line_ended : (cats : ℕ → Category) (old mid new : FileText) (n0 n1 : Option Notes) → behind_line mid ≡ Some new → mid ≡ record old { state = mid.state; rest = mid.rest } → LineGave cats (Some read.EndOfLine) old mid n0 n1 → TextGoesOn cats old new n0 n1
line_ended cats old mid new n0 n1 next same g =
    let b = behind cats old.file old.line old.state old.rest old.later new g.read (sym (ap behind_line same) ∙ next) in
    let codes = (next_token cats old.state old.rest).examined in
    let more = line_examined cats new.state new.rest new.later in
    record {
      taken = b.0;
      notes = ap (option_map (noted_codes more)) g.notes ∙ sym (noted-append codes more n0) ∙ sym (ap (λ l. option_map (noted_codes l) n0) b.1);
    }

-- ---- One reading behind another

pub text_same : (cats : ℕ → Category) (x : FileText) (n : Option Notes) → TextGoesOn cats x x n n
text_same cats x n = record { taken = refl; notes = refl }

pub text_goes_on : (cats : ℕ → Category) (old mid new : FileText) (n0 n1 n2 : Option Notes) → TextGoesOn cats old mid n0 n1 → TextGoesOn cats mid new n1 n2 → TextGoesOn cats old new n0 n2
text_goes_on cats old mid new n0 n1 n2 a b = record { taken = a.taken ∙ b.taken; notes = b.notes ∙ a.notes }

pub text_gave : (cats : ℕ → Category) (r : Option Read) (old mid new : FileText) (n0 n1 n2 : Option Notes) → TextGoesOn cats old mid n0 n1 → TextGave cats r mid new n1 n2 → TextGave cats r old new n0 n2
text_gave cats r old mid new n0 n1 n2 a b = record { taken = a.taken ∙ b.taken; notes = b.notes ∙ a.notes }

-- ---- No lines

pub past_end : (n : ℕ) (bytes : List ℕ) → cut_lines (drop n (take n bytes)) ≡ []
past_end n bytes = ap cut_lines (drop_all n (take n bytes) (omega (arith, length-take n bytes))) ∙ none_in [] refl

pub no_line : (at : ℕ) (text : List ℕ) → length text ≤ at → cut_lines (drop at text) ≡ []
no_line at text h = ap cut_lines (drop_all at text h) ∙ none_in [] refl

-- ---- The first line

abbrev begun_or : List ℕ → ℕ → Option (List ℕ × List (List ℕ)) → FileText
begun_or file line None = begun file line ([], [])
begun_or file line (Some lines) = begun file line lines

pub begins : (file : List ℕ) (line : ℕ) (lines : List (List ℕ)) (first : List ℕ × List (List ℕ)) → first_line lines ≡ Some first → text_from file line lines ≡ begun file line first
begins file line [] first h = cc
begins file line (next ∷ later) first h = ap (begun_or file line) h

-- ---- What a line is told to give, where the cells mean what they meant

pub line_told : (p : Setting) (k kept : Kept Value) (r s : Option Read) (old new : FileText) (n0 n1 : Option Notes) → k ≡ kept → r ≡ s → LineGave (categories p k) r old new n0 n1 → LineGave (categories p kept) s old new n0 n1
line_told p k kept r s old new n0 n1 same is g = subst (λ k. LineGave (categories p k) s old new n0 n1) same (subst (λ r. LineGave (categories p k) r old new n0 n1) is g)

file_of : (file : List ℕ) (line : ℕ) (lines : List (List ℕ)) (new : FileText) → option_map (begun file line) (first_line lines) ≡ Some new → new.file ≡ file
file_of file line [] new h = cc
file_of file line (next ∷ later) new h = sym (ap file_or h)
  where
    file_or : Option FileText → List ℕ
    file_or None = []
    file_or (Some x) = x.file

pub next_file : (mid new : FileText) → behind_line mid ≡ Some new → new.file ≡ mid.file
next_file mid new h = file_of mid.file (suc mid.line) mid.later new h

pub begins_none : (file : List ℕ) (line : ℕ) (lines : List (List ℕ)) → first_line lines ≡ None → text_from file line lines ≡ begun file line ([], lines)
begins_none file line [] h = refl
begins_none file line (next ∷ later) h = cc
