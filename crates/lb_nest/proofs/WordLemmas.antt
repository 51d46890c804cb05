-- Characters and spaces, with the font that is kept or chosen.
use Rattle.std.proofs.Common.{◌≡◌, ◌∙◌, ◌++◌, Bool, true, false, ℕ, ℤ, List, [], ◌∷◌, Some, None, ap, arith, refl, sym}
use Rattle.std.specs.Prelude.{◌↔◌, IsFalse, Option, Result, Ok, Err, is_some}
use Rattle.lb_groups.specs.Open.{TellsIn}
use Rattle.lb_values.specs.declared.cell.Cell.{Cell}
use Rattle.lb_values.specs.declared.cell.Cell.TheVariants.{Sf}
use Rattle.lb_values.specs.declared.value.Value.{Value}
use Rattle.lb_model.specs.declared.append.Append.{Append}
use Rattle.lb_model.specs.Kinds.{space_factor_of}
use Rattle.lb_model_nest.specs.declared.nest.Level.{Level}
use Rattle.lb_model_nest.specs.declared.turn.Went.TheVariants.{On}
use Rattle.lb_model.specs.declared.cells.Cells.{Ghosts}
use Rattle.lb_model.specs.declared.group.Group.{Group}
use Rattle.lb_model_paper.specs.Fonts.{FontData}
use Rattle.lb_model_nest.specs.declared.turn.Went.{Went}
use Rattle.lb_model_nest.specs.Fonts.{present}
use Rattle.lb_model_nest.specs.Pages.{has_code}
use Rattle.lb_model_nest.specs.Wholes.{Executed, Whole, executed, on, tells}
use Rattle.lb_model_nest.specs.Words.{character_put, factor_behind, font_kept, in_word, put_as, space_behind}
use Rattle.lb_nest.specs.Fonts.{behind_font, put_row}
use Rattle.lb_nest.specs.Appends.{missing_append}
use Rattle.lb_nest.specs.Leads.{Leads, Looks, Passes}
use Rattle.lb_nest.specs.Views.{anywhere, whole}
use Rattle.lb_nest.specs.declared.fonts.Chosen.{Chosen}
use Rattle.lb_nest.specs.declared.fonts.Chosen.TheVariants as chosen
use Rattle.lb_nest.specs.declared.nest.Nest.{Nest}
use Rattle.lb_nest.proofs.AppendLemmas.{entries-added}
use Rattle.lb_nest.proofs.LeadsLemmas.{leads-after, look-passes, passes-nest, passes-then, passes-to}

pub is-none : {X : Type 0} (o : Option X) → is_some o ≡ false → o ≡ None
is-none None e = refl
is-none (Some x) e = cc

-- what is done with the font of a word
abbrev pub space_row : ℤ → FontData → Whole → Executed
space_row factor font w = space_behind factor font w

put-kept : (b : Bool) (code : ℕ) (font : FontData) (w : Whole) → put_as b code font w ≡ put_as b code font (record w { font = Some font })
put-kept true code font w = refl
put-kept false code font w = refl

-- where no font is kept, the present one is taken
pub kept-none : {S : Type 0} (C : Ghosts S) (row : FontData → Whole → Executed) (s : S) (g : List Group) (l : ℕ) (n : Nest) → n.font ≡ None → Passes C anywhere (λ w. font_kept w.font row w) (present row) s g l n s g l n
kept-none C row s g l n e = passes-nest C s g l (λ w p k o. ap (λ f. font_kept f row (whole w p k g l n)) e)

-- and there is none
pub font-stops : {S E F : Type 0} {C : Ghosts S} (row : FontData → Whole → Executed) {found : Chosen} (went : Went) {new : S} {gn : List Group} {ln : ℕ} {nn : Nest} {old : S} {go : List Group} {lo : ℕ} {no : Nest}
    → found ≡ chosen.Stops went → no.font ≡ None → Leads {E = F} C anywhere (present row) (behind_font row) (Ok found) new gn ln nn old go lo no
    → Leads {E = E} C anywhere (λ w. font_kept w.font row w) executed (Ok went) new gn ln nn old go lo no
font-stops {S} {E} {F} {C} row {found} went {new} {gn} {ln} {nn} {old} {go} {lo} {no} is none first =
    record {
      narrows = first.narrows;
      passes = passes-then first.narrows (kept-none C row old go lo no none) (passes-to (behind_font row) is first.passes);
      keeps = first.keeps;
      left = first.left;
      made = first.made;
      loan = first.loan;
    }

-- a font is chosen, and more is done
pub font-leads : {S E F : Type 0} {C : Ghosts S} (row : FontData → Whole → Executed) {found : Chosen} (font : FontData) (result : Result Went E) {new : S} {gn : List Group} {ln : ℕ} {nn : Nest} {m : S} {gm : List Group} {lm : ℕ} {nm : Nest} {old : S} {go : List Group} {lo : ℕ} {no : Nest}
    → found ≡ chosen.Font font → no.font ≡ None → Leads {E = F} C anywhere (present row) (behind_font row) (Ok found) m gm lm nm old go lo no
    → Leads C anywhere (row font) executed result new gn ln nn m gm lm nm → Leads C anywhere (λ w. font_kept w.font row w) executed result new gn ln nn old go lo no
font-leads {S} {E} {F} {C} row {found} font result {new} {gn} {ln} {nn} {m} {gm} {lm} {nm} {old} {go} {lo} {no} is none first second =
    leads-after result first.narrows (passes-then first.narrows (kept-none C row old go lo no none) (passes-to (behind_font row) is first.passes)) first.left first.made first.loan second

-- ---- Characters

-- the font is that of the word from then on
font-set : (code : ℕ) (font : FontData) (w : Whole) → put_row code font w ≡ put_row code font (record w { font = Some font })
font-set code font w = put-kept (has_code font code) code font w

pub kept-some : {S : Type 0} (C : Ghosts S) (code : ℕ) (font : FontData) (s : S) (g : List Group) (l : ℕ) (n : Nest) (f : Option FontData) → n.font ≡ Some font → Passes C anywhere (character_put code) (put_row code font) s g l (record n { font = f }) s g l n
kept-some C code font s g l n f e =
    passes-nest C s g l
    (λ w p k o.
    ap (λ kept. font_kept kept (put_row code) (whole w p k g l n)) e
    ∙ font-set code font (whole w p k g l n)
    ∙ sym (font-set code font (whole w p k g l (record n { font = f }))))

pub is-there : {X : Type 0} (there : Bool) (o : Option X) → (IsFalse there ↔ (o ≡ None)) → is_some o ≡ there
is-there true None e = grind (arith, e)
is-there true (Some x) e = refl
is-there false None e = refl
is-there false (Some x) e = grind (arith, e)

-- a cell that was asked
pub tells-looks : {S X E : Type 0} {C : Ghosts S} {g : List Group} {cell : Cell} {f : Value → X} {result : Result X E} {new old : S} → TellsIn C g cell f result new old → Looks C g (cell ∷ []) (λ w. f (tells w cell)) result new old
tells-looks {result = Ok x} t = record { narrows = t.narrows; value = λ p h w left n. t.value p h; stays = t.stays; notes = t.notes; made = t.made; loan = t.loan }
tells-looks {result = Err e} t = record { narrows = t.narrows; value = tt; stays = t.stays; notes = tt; made = t.made; loan = t.loan }

-- one that the font has
pub put-there : {S E : Type 0} (C : Ghosts S) (code : ℕ) (font : FontData) (v : ℤ) {new old : S} (g : List Group) (l : ℕ) (n : Nest) (word : List ℕ) (level : Level) → has_code font code ≡ true
    → TellsIn {E = E} C g (Sf code) space_factor_of (Ok v) new old → word ≡ n.word ++ code ∷ [] → level ≡ record n.level { space_factor = factor_behind v n.level.space_factor }
    → Passes C anywhere (put_row code font) (executed On) new g l (record n { word = word; level = level; font = Some font }) old g l n
put-there C code font v {new} {old} g l n word level has told is after =
    passes-then told.narrows (passes-nest C old g l (λ w p k o. ap (λ b. put_as b code font (whole w p k g l n)) has))
    (passes-then (λ p h. h) (look-passes (λ x w. on (in_word code x font w)) v (tells-looks told))
    (passes-nest C new g l {nn = record n { word = word; level = level; font = Some font }} {no = n} (λ w p k o. (λ i. executed On (whole w p k g l (record n { word = sym is i; font = Some font; level = sym after i }))))))

-- one that it lacks
pub put-missing : {S : Type 0} (C : Ghosts S) (code : ℕ) (font : FontData) (s : S) (g : List Group) (l : ℕ) (n : Nest) (word : List ℕ) (entries : List Append) → has_code font code ≡ false → word ≡ n.word
    → entries ≡ n.entries ++ missing_append font code ∷ [] → Passes C anywhere (put_row code font) (executed On) s g l (record n { word = word; entries = entries; font = Some font }) s g l n
put-missing C code font s g l n word entries has same is =
    passes-nest C s g l
    (λ w p k o.
    ap (λ b. put_as b code font (whole w p k g l n)) has
    ∙ ap (λ v. executed On (record v { font = Some font })) (entries-added (missing_append font code ∷ []) n w p k g l)
    ∙ (λ i. executed On (whole w p k g l (record n { word = sym same i; entries = sym is i; font = Some font }))))
