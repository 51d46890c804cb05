-- A stage that goes on with nothing kept stands for one thing more.
use Rattle.std.proofs.Common.{◌≡◌, ◌∙◌, ◌++◌, ℕ, List, [], ◌∷◌, refl, sym, ap}
use Rattle.lb_model_grammar.specs.declared.given.Given.{Given}
use Rattle.lb_model_grammar.specs.declared.given.ScanKind.{ScanKind}
use Rattle.lb_model_grammar.specs.Dimensions.{meant}
use Rattle.lb_scan.specs.declared.stage.Stage.{Stage}
use Rattle.lb_scan.specs.Stages.{Stands, stage_after, within, word_of}

append_one : (l : List Given) (g : Given) (more : List Given) → (l ++ g ∷ []) ++ more ≡ l ++ g ∷ more
append_one [] g more = refl
append_one (x ∷ l) g more = ap (λ k. x ∷ k) (append_one l g more)

pub stands-on : (kind : ScanKind) (given before : List Given) (stage next : Stage) (g : Given) → Stands kind given before stage
    → ((word : List ℕ) (all left more : List Given) → stage_after word next left more ≡ stage_after word stage all (g ∷ more))
    → ((word : List ℕ) → within word next)
    → Stands kind (given ++ g ∷ []) before next
stands-on kind given before stage next g s goes w =
    record {
      now = s.more (g ∷ []) ∙ sym (goes (word_of kind) (before ++ g ∷ []) before []);
      more = λ more. ap (meant kind) (append_one given g more) ∙ s.more (g ∷ more) ∙ sym (goes (word_of kind) (before ++ g ∷ more) (before ++ more) more);
      within = w (word_of kind);
    }
