-- What texts that are read one over another stand for, and what is taken of them.
use Rattle.std.specs.Prelude.{◌≡◌, ◌++◌, Bool, true, false, ℕ, List, [], ◌∷◌, map, Option}
use Rattle.std.specs.Option.{option_map}
use Rattle.lb_base.specs.declared.token.Category.{Category}
use Rattle.lb_model.specs.declared.place.Got.{Got}
use Rattle.lb_model.specs.declared.place.Got.TheVariants.{Tok as GotTok, End as GotEnd}
use Rattle.lb_model.specs.declared.place.Place.{Place}
use Rattle.lb_model.specs.Settings.{Notes}
use Rattle.lb_model.specs.Sources.{Item, is_boundary, source_examined, source_token}
use Rattle.lb_model.specs.Sources.Item.{Pending, Text}
use Rattle.lb_model.specs.Tokens.{noted_codes}
use Rattle.lb_tokens.specs.declared.source.Layer.{Layer}
use Rattle.lb_tokens.specs.declared.source.Next.{Next}
use Rattle.lb_tokens.specs.declared.source.Next.TheVariants as next
use Rattle.lb_tokens.specs.declared.source.Pended.{Pended}
use Rattle.lb_tokens.specs.declared.source.Pended.TheVariants as pended

-- the texts, the innermost first, each with the tokens behind it
abbrev pub texts_of : List Layer → List Item
texts_of [] = []
texts_of (layer ∷ layers) = Text layer.text ∷ map Pending layer.under ++ texts_of layers

-- whether a pending token stands first
abbrev pub begins_pending : List Item → Bool
begins_pending (Pending tok ∷ source) = true
begins_pending source = false

-- whether it is a boundary
abbrev pub begins_bounded : List Item → Bool
begins_bounded (Pending tok ∷ source) = is_boundary tok
begins_bounded source = false

-- a source without the pending token that stands first
abbrev pub behind_pending : List Item → List Item
behind_pending (Pending tok ∷ source) = source
behind_pending source = source

-- a source without the text that stands first
abbrev pub behind_text : List Item → List Item
behind_text (Text x ∷ source) = source
behind_text source = source

-- where a text ended, one stands first
abbrev pub stands_at_text : Next → List Item → Type 0
stands_at_text next.End [] = ⊥
stands_at_text next.End (Pending tok ∷ source) = ⊥
stands_at_text next.End (Text x ∷ source) = Unit {0}
stands_at_text n source = Unit {0}

-- a source gave what stands next in it, and looked at the codes for that
pub record SourceGave (passes : Bool) (cats : ℕ → Category) (got : Got) (place_old : Option Place) (old : List Item) (notes_old : Option Notes) (place_new : Option Place) (new : List Item) (notes_new : Option Notes) : Type 0 where
  pub taken : source_token passes cats place_old old ≡ record { got = got; source = new; place = place_new }
  pub notes : notes_new ≡ option_map (noted_codes (source_examined passes cats old)) notes_old

-- what stands next in a source gave this, whatever else is read
abbrev pub StandsNext : Got → List Item → List Item → Type 0
StandsNext got old new = (passes : Bool) (cats : ℕ → Category) (place : Option Place) (n : Option Notes) → SourceGave passes cats got place old n place new n

-- a pending token was taken, or a boundary stands first, or no token is pending
abbrev pub Stands : Pended → List Item → List Item → Type 0
Stands (pended.Tok tok) old new = StandsNext (GotTok tok) old new
Stands pended.Boundary old new = StandsNext GotEnd old new
Stands pended.Nothing old new = (new ≡ old) × (begins_pending new ≡ false)

-- what is left of a source gives what the source gives
pub record SourceGoesOn (passes : Bool) (cats : ℕ → Category) (place_old : Option Place) (old : List Item) (notes_old : Option Notes) (place_new : Option Place) (new : List Item) (notes_new : Option Notes) : Type 0 where
  pub taken : source_token passes cats place_old old ≡ source_token passes cats place_new new
  pub notes : option_map (noted_codes (source_examined passes cats new)) notes_new ≡ option_map (noted_codes (source_examined passes cats old)) notes_old

-- the text that stands first gave this
abbrev pub Gave : (ℕ → Category) → Next → Option Place → List Item → Option Notes → Option Place → List Item → Option Notes → Type 0
Gave cats (next.Tok tok) place_old old notes_old place_new new notes_new = (passes : Bool) → SourceGave passes cats (GotTok tok) place_old old notes_old place_new new notes_new
Gave cats next.Nothing place_old old notes_old place_new new notes_new = (passes : Bool) → SourceGave passes cats GotEnd place_old old notes_old place_new new notes_new
Gave cats next.End place_old old notes_old place_new new notes_new =
    SourceGave false cats GotEnd place_old old notes_old place_new new notes_new × SourceGoesOn true cats place_old old notes_old place_new (behind_text new) notes_new
