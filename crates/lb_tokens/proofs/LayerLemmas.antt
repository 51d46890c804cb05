-- Texts that are read one over another.
use Rattle.std.proofs.Common.{◌≡◌, ◌∙◌, ℕ, ◌+◌, ◌<◌, true, false, List, [], ◌∷◌, ◌++◌, length, take, map, reverse, get_or, Option, Some, refl, ap, sym, subst, arith, take_all}
use Rattle.std.specs.Prelude.{Bool, slice_set, if◌then◌else◌}
use Rattle.std.specs.Option.{option_map}
use Rattle.std.proofs.lemmas.List.{reverse-append, take_at, take_more, take_more_set, length-append, length_push, length-reverse, length-set}
use Rattle.lb_base.specs.declared.token.Category.{Category}
use Rattle.lb_base.specs.declared.token.Tok.{Tok}
use Rattle.lb_model.specs.declared.place.Got.{Got}
use Rattle.lb_model.specs.declared.place.Got.TheVariants.{End as GotEnd, Tok as GotTok}
use Rattle.lb_model.specs.declared.place.Place.{Place}
use Rattle.lb_model.specs.declared.reading.Read.{Read}
use Rattle.lb_model.specs.declared.reading.Read.TheVariants as read
use Rattle.lb_model.specs.Settings.{Notes}
use Rattle.lb_model.specs.Sources.{FileText, Item, LineTaken, at_text_end, ended_early, from_text, got_of, is_boundary, line_examined, or_later, pending, source_examined, source_token, text_left, texts}
use Rattle.lb_model.specs.Sources.Item.{Pending, Text}
use Rattle.lb_model.specs.Tokens.{noted_codes}
use Rattle.lb_tokens.specs.declared.source.Layer.{Layer}
use Rattle.lb_tokens.specs.Layers.{SourceGave, SourceGoesOn, Stands, StandsNext, begins_bounded, begins_pending, behind_pending, behind_text, stands_at_text, texts_of}
use Rattle.lb_tokens.specs.declared.source.Next.TheVariants as next
use Rattle.lb_tokens.specs.declared.source.Pended.TheVariants as pended
use Rattle.lb_tokens.specs.Texts.{TextGave, taken_of}
use Rattle.lb_tokens.proofs.TextLemmas.{ends_line, or_here}
use Rattle.lb_tokens.proofs.Words.{none_noted, noted-append}

-- ---- Counts

pub pending_map : (toks : List Tok) (source : List Item) → pending (map Pending toks ++ source) ≡ length toks + pending source
pending_map [] source = omega arith
pending_map (t ∷ toks) source = grind (arith, pending_map toks source)

pub texts_map : (toks : List Tok) (source : List Item) → texts (map Pending toks ++ source) ≡ texts source
texts_map [] source = refl
texts_map (t ∷ toks) source = texts_map toks source

-- what stands where no token is pending
pub nothing_pending : (toks : List Tok) (source : List Item) → begins_pending (map Pending toks ++ source) ≡ false → map Pending toks ++ source ≡ source
nothing_pending [] source h = refl
nothing_pending (t ∷ toks) source h = cc

-- ---- The last of some layers

pub layer_pushed : (layers : List Layer) (layer : Layer) → texts_of (reverse (layers ++ layer ∷ [])) ≡ Text layer.text ∷ map Pending layer.under ++ texts_of (reverse layers)
layer_pushed layers layer = ap texts_of (reverse-append layers (layer ∷ []))

pub last_layer : (layers : List Layer) (n : ℕ) (d : Layer) → length layers ≡ n + 1 → texts_of (reverse layers) ≡ Text (get_or layers n d).text ∷ map Pending (get_or layers n d).under ++ texts_of (reverse (take n layers))
last_layer layers n d h =
    let inside : n < length layers = omega (arith, h) in
    let all : layers ≡ take n layers ++ get_or layers n d ∷ [] = sym (take_all (n + 1) layers (omega (arith, h))) ∙ take_more layers n d inside in
    ap (λ l. texts_of (reverse l)) all ∙ layer_pushed (take n layers) (get_or layers n d)

pub last_set : (layers : List Layer) (n : ℕ) (layer : Layer) → length layers ≡ n + 1 → texts_of (reverse (slice_set layers n layer)) ≡ Text layer.text ∷ map Pending layer.under ++ texts_of (reverse (take n layers))
last_set layers n layer h =
    let inside : n < length layers = omega (arith, h) in
    let all : slice_set layers n layer ≡ take n layers ++ layer ∷ [] = sym (take_all (n + 1) (slice_set layers n layer) (omega (arith, h, length-set layers n layer))) ∙ take_more_set layers n layer inside in
    ap (λ l. texts_of (reverse l)) all ∙ layer_pushed (take n layers) layer

-- ---- What a text gives

left_same : (file : List ℕ) (r : Option Read) (y : FileText) → y.file ≡ file → text_left file (taken_of r y) ≡ y
left_same file r y h = ap (λ f. text_left f (taken_of r y)) (sym h)

-- a token, or an invalid character
pub text_gives : (passes : Bool) (cats : ℕ → Category) (r : Option Read) (x y : FileText) (source : List Item) (place new : Option Place) (n0 n1 : Option Notes) → ends_line r ≡ false → y.file ≡ x.file
    → new ≡ Some (record { file = y.file; line = y.line }) → TextGave cats r x y n0 n1 → SourceGave passes cats (got_of r) place (Text x ∷ source) n0 new (Text y ∷ source) n1
text_gives passes cats r x y source place new n0 n1 k file is g =
    let rest = λ (t : LineTaken). if passes then source_token passes cats place source else at_text_end x source place t in
    let codes = line_examined cats x.state x.rest x.later in
    let more = if passes then codes ++ source_examined passes cats source else codes in
    record {
      taken = ap (λ t. or_later t.read (from_text x source t) (rest t)) g.taken ∙ or_here r _ _ k
          ∙ ap (λ l. record { got = got_of r; source = Text l ∷ source; place = Some (record { file = x.file; line = y.line }) }) (left_same x.file r y file)
          ∙ ap (λ f. record { got = got_of r; source = Text y ∷ source; place = Some (record { file = f; line = y.line }) }) (sym file)
          ∙ sym (ap (λ q. record { got = got_of r; source = Text y ∷ source; place = q }) is);
      notes = g.notes ∙ sym (ap (λ l. option_map (noted_codes l) n0) (ap (λ t. or_later t.read codes more) g.taken ∙ or_here r codes more k));
    }

-- the end of a text that is not passed
pub end_stays : (cats : ℕ → Category) (x y : FileText) (source : List Item) (place : Option Place) (n0 n1 : Option Notes) → y.file ≡ x.file
    → TextGave cats (Some read.EndOfLine) x y n0 n1 → SourceGave false cats GotEnd place (Text x ∷ source) n0 place (Text y ∷ source) n1
end_stays cats x y source place n0 n1 file g =
    let codes = line_examined cats x.state x.rest x.later in
    record {
      taken = ap (λ t. or_later t.read (from_text x source t) (at_text_end x source place t)) g.taken
          ∙ ap (λ l. record { got = GotEnd; source = Text l ∷ source; place = place }) (left_same x.file (Some read.EndOfLine) y file);
      notes = g.notes ∙ sym (ap (λ l. option_map (noted_codes l) n0) (ap (λ t. or_later t.read codes codes) g.taken));
    }

-- and of one that is
pub end_passed : (cats : ℕ → Category) (x y : FileText) (source : List Item) (place : Option Place) (n0 n1 : Option Notes)
    → TextGave cats (Some read.EndOfLine) x y n0 n1 → SourceGoesOn true cats place (Text x ∷ source) n0 place source n1
end_passed cats x y source place n0 n1 g =
    let codes = line_examined cats x.state x.rest x.later in
    let more = source_examined true cats source in
    record {
      taken = ap (λ t. or_later t.read (from_text x source t) (source_token true cats place source)) g.taken;
      notes = ap (option_map (noted_codes more)) g.notes ∙ sym (noted-append codes more n0)
          ∙ sym (ap (λ l. option_map (noted_codes l) n0) (ap (λ t. or_later t.read codes (codes ++ more)) g.taken));
    }

-- ---- One reading behind another

pub source_same : (passes : Bool) (cats : ℕ → Category) (place : Option Place) (source : List Item) (n : Option Notes) → SourceGoesOn passes cats place source n place source n
source_same passes cats place source n = record { taken = refl; notes = refl }

pub source_goes_on : (passes : Bool) (cats : ℕ → Category) (p0 p1 p2 : Option Place) (s0 s1 s2 : List Item) (n0 n1 n2 : Option Notes) → SourceGoesOn passes cats p0 s0 n0 p1 s1 n1 → SourceGoesOn passes cats p1 s1 n1 p2 s2 n2 → SourceGoesOn passes cats p0 s0 n0 p2 s2 n2
source_goes_on passes cats p0 p1 p2 s0 s1 s2 n0 n1 n2 a b = record { taken = a.taken ∙ b.taken; notes = b.notes ∙ a.notes }

pub source_gave : (passes : Bool) (cats : ℕ → Category) (got : Got) (p0 p1 p2 : Option Place) (s0 s1 s2 : List Item) (n0 n1 n2 : Option Notes) → SourceGoesOn passes cats p0 s0 n0 p1 s1 n1 → SourceGave passes cats got p1 s1 n1 p2 s2 n2 → SourceGave passes cats got p0 s0 n0 p2 s2 n2
source_gave passes cats got p0 p1 p2 s0 s1 s2 n0 n1 n2 a b = record { taken = a.taken ∙ b.taken; notes = b.notes ∙ a.notes }

-- ---- Pending tokens

-- one that is no boundary
pub token_stands : (tok : Tok) (old new : List Tok) (source : List Item) → old ≡ tok ∷ new → is_boundary tok ≡ false → StandsNext (GotTok tok) (map Pending old ++ source) (map Pending new ++ source)
token_stands tok old new source is plain passes cats place n =
    let items : List Item = map Pending new ++ source in
    let first : map Pending old ++ source ≡ Pending tok ∷ items = ap (λ l. map Pending l ++ source) is in
    record {
      taken = ap (source_token passes cats place) first
          ∙ ap (λ b. if b then record { got = GotEnd; source = Pending tok ∷ items; place = place } else record { got = GotTok tok; source = items; place = place }) plain;
      notes = sym (ap (λ l. option_map (noted_codes (source_examined passes cats l)) n) first ∙ none_noted n);
    }

-- and one that is, which stands again
pub boundary_stands : (tok : Tok) (old mid new : List Tok) (source : List Item) → old ≡ tok ∷ mid → new ≡ tok ∷ mid → is_boundary tok ≡ true → StandsNext GotEnd (map Pending old ++ source) (map Pending new ++ source)
boundary_stands tok old mid new source is again bars passes cats place n =
    let items : List Item = map Pending mid ++ source in
    let first : map Pending old ++ source ≡ Pending tok ∷ items = ap (λ l. map Pending l ++ source) is in
    let last : map Pending new ++ source ≡ Pending tok ∷ items = ap (λ l. map Pending l ++ source) again in
    record {
      taken = ap (source_token passes cats place) first
          ∙ ap (λ b. if b then record { got = GotEnd; source = Pending tok ∷ items; place = place } else record { got = GotTok tok; source = items; place = place }) bars
          ∙ ap (λ l. record { got = GotEnd; source = l; place = place }) (sym last);
      notes = sym (ap (λ l. option_map (noted_codes (source_examined passes cats l)) n) first ∙ none_noted n);
    }

-- what stands first, behind what was read before
pub gives_pending : (passes : Bool) (cats : ℕ → Category) (p0 p1 : Option Place) (s0 s1 s2 : List Item) (n0 n1 : Option Notes) (tok : Tok) → SourceGoesOn passes cats p0 s0 n0 p1 s1 n1 → Stands (pended.Tok tok) s1 s2
    → SourceGave passes cats (GotTok tok) p0 s0 n0 p1 s2 n1
gives_pending passes cats p0 p1 s0 s1 s2 n0 n1 tok before first = source_gave passes cats (GotTok tok) p0 p1 p1 s0 s1 s2 n0 n1 n1 before (first passes cats p1 n1)

pub gives_none : (passes : Bool) (cats : ℕ → Category) (p0 p1 : Option Place) (s0 s1 s2 : List Item) (n0 n1 : Option Notes) → SourceGoesOn passes cats p0 s0 n0 p1 s1 n1 → Stands pended.Boundary s1 s2
    → SourceGave passes cats GotEnd p0 s0 n0 p1 s2 n1
gives_none passes cats p0 p1 s0 s1 s2 n0 n1 before first = source_gave passes cats GotEnd p0 p1 p1 s0 s1 s2 n0 n1 n1 before (first passes cats p1 n1)

-- ---- Tokens that are put

pub pending_put : (toks old new : List Tok) (source : List Item) → new ≡ toks ++ old → pending (map Pending new ++ source) ≡ length toks + pending (map Pending old ++ source)
pending_put toks old new source is =
    ap (λ l. pending (map Pending l ++ source)) is ∙ pending_map (toks ++ old) source ∙ omega (arith, length-append toks old, pending_map old source)

pub begins_text : (layers : List Layer) → begins_pending (texts_of layers) ≡ false
begins_text [] = refl
begins_text (layer ∷ layers) = refl

-- what stands first, where nothing is pending and where a token is
pub bounded_text : (layers : List Layer) → begins_bounded (texts_of layers) ≡ false
bounded_text [] = refl
bounded_text (layer ∷ layers) = refl

pub bounded_first : (tok : Tok) (old new : List Tok) (source : List Item) → old ≡ tok ∷ new → begins_bounded (map Pending old ++ source) ≡ is_boundary tok
bounded_first tok old new source is = ap (λ l. begins_bounded (map Pending l ++ source)) is

pub behind_texts : (layers : List Layer) → behind_pending (texts_of layers) ≡ texts_of layers
behind_texts [] = refl
behind_texts (layer ∷ layers) = refl

pub behind_first : (tok : Tok) (old new : List Tok) (source : List Item) → old ≡ tok ∷ new → behind_pending (map Pending old ++ source) ≡ map Pending new ++ source
behind_first tok old new source is = ap (λ l. behind_pending (map Pending l ++ source)) is

texts_count : (layers : List Layer) → texts (texts_of layers) ≡ length layers
texts_count [] = refl
texts_count (layer ∷ layers) = omega (arith, texts_map layer.under (texts_of layers), texts_count layers)

pub texts_open : (toks : List Tok) (layers : List Layer) → length layers ≡ texts (map Pending toks ++ texts_of (reverse layers))
texts_open toks layers = sym (texts_map toks (texts_of (reverse layers)) ∙ texts_count (reverse layers) ∙ length-reverse layers)

-- ---- What stands under pending tokens

pub pending_over : (toks : List Tok) (old new : List Item) → pending new ≡ pending old → pending (map Pending toks ++ new) ≡ pending (map Pending toks ++ old)
pending_over toks old new h = pending_map toks new ∙ ap (λ n. length toks + n) h ∙ sym (pending_map toks old)

pub early_over : (toks : List Tok) (source : List Item) → map Pending toks ++ ended_early source ≡ ended_early (map Pending toks ++ source)
early_over [] source = refl
early_over (t ∷ toks) source = ap (λ l. Pending t ∷ l) (early_over toks source)

-- ---- What the last layer gives

-- the items of some layers before and after the last one is read
abbrev Under : List Layer → ℕ → Layer → List Item
Under layers n x = map Pending x.under ++ texts_of (reverse (take n layers))

before : (layers : List Layer) (n : ℕ) (x : Layer) → length layers ≡ n + 1 → x ≡ get_or layers n x → texts_of (reverse layers) ≡ Text x.text ∷ Under layers n x
before layers n x h is = last_layer layers n x h ∙ ap (λ y. Text y.text ∷ Under layers n y) (sym is)

behind : (layers : List Layer) (n : ℕ) (x y : Layer) → length layers ≡ n + 1 → y.under ≡ x.under → texts_of (reverse (slice_set layers n y)) ≡ Text y.text ∷ Under layers n x
behind layers n x y h under = last_set layers n y h ∙ ap (λ toks. Text y.text ∷ map Pending toks ++ texts_of (reverse (take n layers))) under

gave_of : (passes : Bool) (cats : ℕ → Category) (got : Got) (place new : Option Place) (s0 s1 t0 t1 : List Item) (n0 n1 : Option Notes) → s0 ≡ t0 → s1 ≡ t1 → SourceGave passes cats got place t0 n0 new t1 n1 → SourceGave passes cats got place s0 n0 new s1 n1
gave_of passes cats got place new s0 s1 t0 t1 n0 n1 a b g =
    subst (λ s. SourceGave passes cats got place s n0 new s1 n1) (sym a) (subst (λ s. SourceGave passes cats got place t0 n0 new s n1) (sym b) g)

pub layer_gives : (cats : ℕ → Category) (r : Option Read) (layers : List Layer) (n : ℕ) (x y : Layer) (place new : Option Place) (n0 n1 : Option Notes) → length layers ≡ n + 1 → x ≡ get_or layers n x → y.under ≡ x.under
    → ends_line r ≡ false → y.text.file ≡ x.text.file → new ≡ Some (record { file = y.text.file; line = y.text.line }) → TextGave cats r x.text y.text n0 n1
    → (passes : Bool) → SourceGave passes cats (got_of r) place (texts_of (reverse layers)) n0 new (texts_of (reverse (slice_set layers n y))) n1
layer_gives cats r layers n x y place new n0 n1 h is under k file at g passes =
    gave_of passes cats (got_of r) place new _ _ _ _ n0 n1 (before layers n x h is) (behind layers n x y h under) (text_gives passes cats r x.text y.text (Under layers n x) place new n0 n1 k file at g)

pub layer_ends : (cats : ℕ → Category) (layers : List Layer) (n : ℕ) (x y : Layer) (place new : Option Place) (n0 n1 : Option Notes) → length layers ≡ n + 1 → x ≡ get_or layers n x → y.under ≡ x.under
    → y.text.file ≡ x.text.file → new ≡ place → TextGave cats (Some read.EndOfLine) x.text y.text n0 n1
    → SourceGave false cats GotEnd place (texts_of (reverse layers)) n0 new (texts_of (reverse (slice_set layers n y))) n1
    × SourceGoesOn true cats place (texts_of (reverse layers)) n0 new (behind_text (texts_of (reverse (slice_set layers n y)))) n1
layer_ends cats layers n x y place new n0 n1 h is under file at g =
    let under_it = Under layers n x in
    let old = before layers n x h is in
    let left = behind layers n x y h under in (
      subst (λ q. SourceGave false cats GotEnd place (texts_of (reverse layers)) n0 q (texts_of (reverse (slice_set layers n y))) n1) (sym at)
          (gave_of false cats GotEnd place place _ _ _ _ n0 n1 old left (end_stays cats x.text y.text under_it place n0 n1 file g)),
      subst (λ q. SourceGoesOn true cats place (texts_of (reverse layers)) n0 q (behind_text (texts_of (reverse (slice_set layers n y)))) n1) (sym at)
          (subst (λ s. SourceGoesOn true cats place s n0 place (behind_text (texts_of (reverse (slice_set layers n y)))) n1) (sym old)
          (subst (λ s. SourceGoesOn true cats place (Text x.text ∷ under_it) n0 place s n1) (sym (ap behind_text left)) (end_passed cats x.text y.text under_it place n0 n1 g))),
    )

pub layer_texts : (layers : List Layer) (n : ℕ) (x y : Layer) → length layers ≡ n + 1 → x ≡ get_or layers n x → y.under ≡ x.under → texts (texts_of (reverse (slice_set layers n y))) ≡ texts (texts_of (reverse layers))
layer_texts layers n x y h is under = ap texts (behind layers n x y h under) ∙ sym (ap texts (before layers n x h is))

pub layer_pending : (layers : List Layer) (n : ℕ) (x y : Layer) → length layers ≡ n + 1 → x ≡ get_or layers n x → y.under ≡ x.under → pending (texts_of (reverse (slice_set layers n y))) ≡ pending (texts_of (reverse layers))
layer_pending layers n x y h is under = ap pending (behind layers n x y h under) ∙ sym (ap pending (before layers n x h is))

pub layer_stands : (layers : List Layer) (n : ℕ) (y : Layer) → length layers ≡ n + 1 → stands_at_text next.End (texts_of (reverse (slice_set layers n y)))
layer_stands layers n y h = subst (λ s. stands_at_text next.End s) (sym (last_set layers n y h)) tt

pub layer_early : (layers : List Layer) (n : ℕ) (x y : Layer) → length layers ≡ n + 1 → x ≡ get_or layers n x → y.under ≡ x.under → y.text ≡ record x.text { later = [] } → texts_of (reverse (slice_set layers n y)) ≡ ended_early (texts_of (reverse layers))
layer_early layers n x y h is under early = behind layers n x y h under ∙ ap (λ t. Text t ∷ Under layers n x) early ∙ sym (ap ended_early (before layers n x h is))

pub layer_put : (layers pushed : List Layer) (n : ℕ) (x y : Layer) → pushed ≡ layers ++ x ∷ [] → length layers ≡ n → texts_of (reverse (slice_set pushed n y)) ≡ Text y.text ∷ map Pending y.under ++ texts_of (reverse layers)
layer_put layers pushed n x y is at =
    let h : length pushed ≡ n + 1 = ap length is ∙ length_push layers x ∙ ap (λ k. k + 1) at in
    last_set pushed n y h ∙ ap (λ l. Text y.text ∷ map Pending y.under ++ texts_of (reverse l)) (ap (take n) is ∙ take_at layers (x ∷ []) n at)

pub no_toks : (toks : List Tok) (source : List Item) → begins_pending (map Pending toks ++ source) ≡ false → toks ≡ []
no_toks [] source h = refl
no_toks (t ∷ toks) source h = cc
