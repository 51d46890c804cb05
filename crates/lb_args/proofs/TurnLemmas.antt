-- What is owed of an argument behind one more token, by what that token does to it.
use Rattle.std.proofs.Common.{◌≡◌, ◌∙◌, ◌++◌, ◌∷◌, [], Bool, ℕ, List, ap, sym, refl}
use Rattle.std.specs.Prelude.{Option, Some, length}
use Rattle.lb_base.specs.declared.token.Tok.{Tok}
use Rattle.lb_model.specs.declared.feed.Feed.{Ghosts}
use Rattle.lb_values.specs.declared.cell.Cell.{Cell}
use Rattle.lb_model.specs.Configs.{Config}
use Rattle.lb_model.specs.Readings.{Took}
use Rattle.lb_model_grammar.specs.declared.given.Given.{Given}
use Rattle.lb_model_grammar.specs.declared.class.Brace.{Brace}
use Rattle.lb_model_grammar.specs.Arguments.{brace_of, group, group_as, undelimited, undelimited_as}
use Rattle.lb_model_grammar.specs.Scans.{Meant}
use Rattle.lb_args.specs.Fits.{GoesOn, decided, settles}
use Rattle.lb_args.specs.Turns.{begun, turned}
use Rattle.lb_args.specs.declared.settling.Settled.{Settled}
use Rattle.lb_args.specs.declared.turns.First.{First}
use Rattle.lb_args.specs.declared.turns.Step.{Step}
use Rattle.lb_args.proofs.ReadingLemmas.{Fed, OwedOf, owed-token}
use Rattle.lb_args.proofs.WindowLemmas.{decided-pushed}

-- a group with this body, by its next token
abbrev pub group_behind : Bool → Option Step → List Tok → Tok → List Given → Meant (List Tok)
group_behind long turn body tok given = turned turn body tok (λ n b. group long n b given) given

pub group-token : {S : Type 0} (F : Ghosts S) (long : Bool) (level : ℕ) (body : List Tok) (tok : Tok) (brace : Brace) (turn : Option Step) (count : ℕ) {start : Config → Took (List Tok)} {start_looks : Config → List Cell} (new mid old : S)
    → OwedOf F (group long level body) start start_looks mid old → Fed F (Some tok) new mid → brace ≡ brace_of long tok → count ≡ length body
    → ((body : List Tok) (t : Tok) (more : ℕ → List Tok → Meant (List Tok)) (given : List Given) → length body ≡ count → group_as brace level body t more given ≡ turned turn body t more given)
    → OwedOf F (group_behind long turn body tok) start start_looks new old
group-token F long level body tok brace turn count new mid old owed fed is many turns =
    owed-token F (group long level body) (group_behind long turn body tok) tok new mid old owed refl fed
    (λ given. ap (λ b. group_as b level body tok (λ n b. group long n b given) given) (sym is) ∙ turns body tok (λ n b. group long n b given) given (sym many))

pub undelimited-token : {S : Type 0} (F : Ghosts S) (long : Bool) (tok : Tok) (brace : Brace) (first : First) {start : Config → Took (List Tok)} {start_looks : Config → List Cell} (new mid old : S)
    → OwedOf F (undelimited long) start start_looks mid old → Fed F (Some tok) new mid → brace ≡ brace_of long tok
    → ((long : Bool) (given : List Given) → undelimited_as brace long tok (undelimited long given) given ≡ begun first long tok given)
    → OwedOf F (begun first long tok) start start_looks new old
undelimited-token F long tok brace first new mid old owed fed is turns =
    owed-token F (undelimited long) (begun first long tok) tok new mid old owed refl fed
    (λ given. ap (λ b. undelimited_as b long tok (undelimited long given) given) (sym is) ∙ turns long given)

pub delimited-token : {S : Type 0} (F : Ghosts S) (long : Bool) (delimiter toks pushed : List Tok) (level count : ℕ) (tok : Tok) (settled : Settled) {start : Config → Took (List Tok)} {start_looks : Config → List Cell} (new mid old : S)
    → OwedOf F (decided long delimiter toks level count) start start_looks mid old → GoesOn long delimiter toks count level → Fed F (Some tok) new mid → pushed ≡ toks ++ tok ∷ []
    → ((given : List Given) → decided long delimiter pushed level count given ≡ settles settled long delimiter pushed given)
    → OwedOf F (settles settled long delimiter pushed) start start_looks new old
delimited-token F long delimiter toks pushed level count tok settled new mid old owed goes fed is settle =
    owed-token F (decided long delimiter toks level count) (settles settled long delimiter pushed) tok new mid old owed goes.window.more fed
    (λ given. decided-pushed long delimiter toks level count tok given goes.within ∙ ap (λ l. decided long delimiter l level count given) (sym is) ∙ settle given)
