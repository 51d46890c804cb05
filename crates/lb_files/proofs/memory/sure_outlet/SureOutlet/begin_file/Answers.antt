use Rattle.std.proofs.Common.{◌≡◌, [], ◌∷◌, ◌++◌, length, map, sym, ◌∙◌, ap, ap₂, subst, List, ℕ, rules}
use Rattle.lb_model.specs.Journal.{Begun}
use Rattle.lb_files.specs.Steps.{entry_of, KeepsSteps}
use Rattle.lb_files.specs.declared.memory.sure_outlet.Step.{Step}
use Rattle.lb_files.specs.declared.memory.sure_outlet.Step.TheVariants.{Begun as BegunStep}
use Rattle.lb_files.proofs.Steps.{at_name, entries_again, entries_new, kept_again, kept_new, told_adds, told_fits}
use Rattle.lb_files.proofs.memory.sure_outlet.SureOutlet.begin_file.Goals as goal

pub invariant_of-self : goal.invariant_of-self
invariant_of-self c =
    let names = c.self.inside.names.texts in
    let found = at_name c.args.file.now c.as_slice.result.now names c.position.result c.as_slice.ensures c.position.ensures ∙ c.in-Some.is in
    let inv = c.self.invariant in
    let P : List Step → Type 0 = λ steps. KeepsSteps steps names c.empty.new.self.texts in
    let Q : List (List ℕ) → Type 0 = λ texts. KeepsSteps (c.self.inside.steps.items ++ BegunStep c.in-Some.at ∷ []) names texts in (
      (λ whole. subst P (sym c.push_reserved.ensures.items) (subst Q (sym c.empty.ensures.texts) (kept_again names c.self.inside.texts.texts c.self.inside.steps.items c.args.file.now c.in-Some.at found (inv.0 whole)))),
      inv.1,
      search rules,
      search rules,
      search rules,
      search rules,
      search rules,
    )

pub invariant_of-self-in-None : goal.invariant_of-self-in-None
invariant_of-self-in-None c =
    let names = c.self.inside.names.texts in
    let texts = c.self.inside.texts.texts in
    let steps = c.self.inside.steps.items in
    let file = c.args.file.now in
    let found = at_name file c.as_slice.result.now names c.position.result c.as_slice.ensures c.position.ensures ∙ c.in-None.is in
    let inv = c.self.invariant in
    let named : c.add-at.new.self.texts ≡ names ++ file ∷ [] = c.add-at.ensures.texts ∙ ap (λ t. names ++ t ∷ []) c.as_slice-in-None.ensures in
    let pushed : c.push_reserved-in-None.new.self.items ≡ steps ++ BegunStep (length names) ∷ [] = c.push_reserved-in-None.ensures.items ∙ ap (λ at. steps ++ BegunStep at ∷ []) c.add-at.ensures.at in
    let P : List Step → Type 0 = λ s. KeepsSteps s c.add-at.new.self.texts c.add.new.self.texts in
    let Q : List (List ℕ) → Type 0 = λ n. KeepsSteps (steps ++ BegunStep (length names) ∷ []) n c.add.new.self.texts in
    let R : List (List ℕ) → Type 0 = λ t. KeepsSteps (steps ++ BegunStep (length names) ∷ []) (names ++ file ∷ []) t in (
      (λ whole. subst P (sym pushed) (subst Q (sym named) (subst R (sym c.add.ensures.texts) (kept_new names texts steps file found (inv.0 whole))))),
      (λ lists. let on = c.is_list_on-self-inside.ensures lists in on.1 ∙ ap (λ l. l ++ file ∷ []) (inv.1 on.0) ∙ sym named),
      search rules,
      search rules,
      search rules,
      search rules,
      search rules,
    )

pub returns-in-Some-clause-adds : goal.returns-in-Some-clause-adds
returns-in-Some-clause-adds c =
    let names = c.self.inside.names.texts in
    let steps = c.self.inside.steps.items in
    let found = at_name c.args.file.now c.as_slice.result.now names c.position.result c.as_slice.ensures c.position.ensures ∙ c.in-Some.is in
    told_adds c.args.self.now.journal c.self.inside.is_whole c.self.inside.is_whole (map (entry_of names) steps) (map (entry_of names) c.push_reserved.new.self.items) (Begun c.args.file.now ∷ []) c.requires.told (ap (λ o. o.journal) c.self.view_is)
    (λ whole. ap (map (entry_of names)) c.push_reserved.ensures.items ∙ entries_again names steps c.args.file.now c.in-Some.at found)

pub returns-in-Some-clause-fits : goal.returns-in-Some-clause-fits
returns-in-Some-clause-fits c =
    let names = c.self.inside.names.texts in
    let steps = c.self.inside.steps.items in
    let found = at_name c.args.file.now c.as_slice.result.now names c.position.result c.as_slice.ensures c.position.ensures ∙ c.in-Some.is in
    told_fits c.args.self.now.journal c.self.inside.is_whole (map (entry_of names) steps) (map (entry_of names) c.push_reserved.new.self.items) (Begun c.args.file.now ∷ []) (ap (λ o. o.journal) c.self.view_is)
    (λ whole. ap (map (entry_of names)) c.push_reserved.ensures.items ∙ entries_again names steps c.args.file.now c.in-Some.at found)

pub returns-in-None-clause-adds : goal.returns-in-None-clause-adds
returns-in-None-clause-adds c =
    let names = c.self.inside.names.texts in
    let steps = c.self.inside.steps.items in
    told_adds c.args.self.now.journal c.self.inside.is_whole c.self.inside.is_whole (map (entry_of names) steps) (map (entry_of c.add-at.new.self.texts) c.push_reserved-in-None.new.self.items) (Begun c.args.file.now ∷ []) c.requires.told (ap (λ o. o.journal) c.self.view_is)
    (λ whole. ap₂ (λ n s. map (entry_of n) s) (c.add-at.ensures.texts ∙ ap (λ t. names ++ t ∷ []) c.as_slice-in-None.ensures) (c.push_reserved-in-None.ensures.items ∙ ap (λ at. steps ++ BegunStep at ∷ []) c.add-at.ensures.at) ∙ entries_new names steps c.args.file.now (c.self.invariant.0 whole).within)

pub returns-in-None-clause-fits : goal.returns-in-None-clause-fits
returns-in-None-clause-fits c =
    let names = c.self.inside.names.texts in
    let steps = c.self.inside.steps.items in
    told_fits c.args.self.now.journal c.self.inside.is_whole (map (entry_of names) steps) (map (entry_of c.add-at.new.self.texts) c.push_reserved-in-None.new.self.items) (Begun c.args.file.now ∷ []) (ap (λ o. o.journal) c.self.view_is)
    (λ whole. ap₂ (λ n s. map (entry_of n) s) (c.add-at.ensures.texts ∙ ap (λ t. names ++ t ∷ []) c.as_slice-in-None.ensures) (c.push_reserved-in-None.ensures.items ∙ ap (λ at. steps ++ BegunStep at ∷ []) c.add-at.ensures.at) ∙ entries_new names steps c.args.file.now (c.self.invariant.0 whole).within)
