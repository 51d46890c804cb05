use Rattle.std.proofs.Common.{◌≡◌, ◌∙◌, refl, sym, ap}
use Rattle.lb_model_nest.specs.declared.turn.Went.{Went}
use Rattle.lb_model_nest.specs.declared.turn.Went.TheVariants as went
use Rattle.lb_model_nest.specs.Wholes.{Executed, Turn, and_as}
use Rattle.lb_model_engine.proofs.laws.notes_do_nothing.Goals as goal

-- what is done, without what is noted
abbrev done_as : Went → Turn → Turn → Turn
done_as went.On before behind = behind
done_as way before behind = before

is_done : (way : Went) (e more : Executed) → (and_as way e more).done ≡ done_as way e.done more.done
is_done went.On e more = refl
is_done went.Over e more = refl
is_done (went.Stopped kind) e more = refl
is_done (went.StoppedAt fault) e more = refl

pub returns-clause-looks : goal.returns-clause-looks
returns-clause-looks c = λ cells e. refl

pub returns-clause-behind : goal.returns-clause-behind
returns-clause-behind c = λ e f more same.
    is_done e.done.went e (more e.done.next) ∙ ap (λ (t : Turn). done_as t.went t (more t.next).done) same ∙ sym (is_done f.done.went f (more f.done.next))
