use Rattle.std.proofs.Common.{rules, ◌≡◌, ◌∙◌, ◌++◌, ◌∷◌, [], ap, refl, subst, sym}
use Rattle.lb_model.specs.Stacked.{Standing}
use Rattle.std.specs.Prelude.{if◌then◌else◌}
use Rattle.lb_model_paper.specs.Fonts.{metrics_of}
use Rattle.lb_model_nest.specs.Pages.{has_code}
use Rattle.lb_model_nest.specs.Words.{factor_behind}
use Rattle.lb_nest.proofs.LeadsLemmas.{same-left}
use Rattle.lb_nest.proofs.WordLemmas.{is-there, put-missing, put-there}
use Rattle.lb_nest.proofs.words.put_with.Goals as goal

pub returns-then-is_there : goal.returns-then-is_there
returns-then-is_there g c =
    let C = g.C.Cells in
    let a = c.args in
    let n = a.nest.now in
    let there = c.in_ok-is_there.ensures in
    let told = c.in_ok-of_code.ensures.tells in
    let level : c.follow.new.self ≡ record n.level { space_factor = factor_behind c.in_ok-of_code.of_code n.level.space_factor } = search rules in
    record {
      goes =
          λ left.
          record {
            narrows = told.narrows;
            passes =
                put-there C a.code a.font c.in_ok-of_code.of_code a.groups.now left n c.add_char.new.word c.follow.new.self (ap (λ f. has_code f a.code) (sym c.get.ensures) ∙ is-there c.in_ok-is_there.is_there (metrics_of c.get.result.now a.code) there.lacks ∙ c.if-is_there.true) told
                (there.word ∙ ap (λ b. if b then n.word ++ a.code ∷ [] else n.word) c.if-is_there.true) level;
            keeps = λ p h. let k = c.requires.keeps p (told.narrows p h) in record { standing = subst (Standing a.groups.now) (sym (told.stays p h)) k.standing; fonts = k.fonts };
            left = same-left left;
            made = told.made;
            loan = told.loan;
          };
    }

pub returns : goal.returns
returns g c =
    let C = g.C.Cells in
    let a = c.args in
    let n = a.nest.now in
    let there = c.in_ok-is_there.ensures in
    record {
      goes =
          λ left.
          record {
            narrows = λ p h. h;
            passes =
                put-missing C a.code a.font a.cells.now a.groups.now left n c.add_char.new.word c.push.new.self (ap (λ f. has_code f a.code) (sym c.get.ensures) ∙ is-there c.in_ok-is_there.is_there (metrics_of c.get.result.now a.code) there.lacks ∙ c.if-is_there.false)
                (there.word ∙ ap (λ b. if b then n.word ++ a.code ∷ [] else n.word) c.if-is_there.false) (search rules);
            keeps = λ p h. let k = c.requires.keeps p h in record { standing = k.standing; fonts = k.fonts };
            left = same-left left;
            made = refl;
            loan = refl;
          };
    }
