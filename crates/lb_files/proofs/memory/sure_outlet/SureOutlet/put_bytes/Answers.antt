use Rattle.std.proofs.Common.{◌++◌, map, sym, ◌∙◌, ap, subst, List, ℕ, rules}
use Rattle.lb_model.specs.Journal.{appended}
use Rattle.lb_files.specs.Steps.{entry_of, KeepsSteps}
use Rattle.lb_files.specs.declared.memory.sure_outlet.Step.{Step}
use Rattle.lb_files.specs.declared.memory.sure_outlet.Step.TheVariants.{Byte}
use Rattle.lb_files.proofs.Steps.{at_name, entries_put, entries_stray, kept_put, kept_stray, never_begun, told_adds, begun_fits, stray_fits, was_whole, where_ok}
use Rattle.lb_files.proofs.memory.sure_outlet.SureOutlet.put_bytes.Goals as goal

pub invariant_of-self : goal.invariant_of-self
invariant_of-self c =
    let names = c.self.inside.names.texts in
    let found = at_name c.args.file.now c.as_slice.result.now names c.position.result c.as_slice.ensures c.position.ensures ∙ c.in-Some.is in
    let inv = c.self.invariant in
    let P : List Step → Type 0 = λ steps. KeepsSteps steps names c.extend.new.self.texts in
    let Q : List (List ℕ) → Type 0 = λ texts. KeepsSteps (c.self.inside.steps.items ++ map (λ b. Byte c.in-Some.at b) c.args.bytes.now) names texts in (
      (λ whole. subst P (sym c.push_bytes.ensures.steps) (subst Q (sym c.extend.ensures.texts) (kept_put names c.self.inside.texts.texts c.self.inside.steps.items c.args.file.now c.args.bytes.now c.in-Some.at found (inv.0 whole)))),
      inv.1,
      search rules,
      search rules,
      search rules,
      search rules,
      search rules,
    )

pub invariant_of-self-in-None : goal.invariant_of-self-in-None
invariant_of-self-in-None c =
    let names = c.self.inside.names.texts in
    let steps = c.self.inside.steps.items in
    let found = at_name c.args.file.now c.as_slice.result.now names c.position.result c.as_slice.ensures c.position.ensures ∙ c.in-None.is in
    let inv = c.self.invariant in
    let whole = was_whole c.args.self.now.journal c.self.inside.is_whole (map (entry_of names) steps) c.requires.told (ap (λ o. o.journal) c.self.view_is) in
    let P : List Step → Type 0 = λ s. KeepsSteps s names c.self.inside.texts.texts in (
      (λ ok. subst P (sym (where_ok c.push_strays.result c.is_ok-self-inside.result _ c.is_ok-self-inside.ensures.value c.push_strays.ensures.steps ok)) (kept_stray names c.self.inside.texts.texts steps c.args.file.now c.args.bytes.now found (inv.0 whole))),
      inv.1,
      search rules,
      search rules,
      search rules,
      search rules,
      search rules,
    )

pub returns-in-Some-clause-adds : goal.returns-in-Some-clause-adds
returns-in-Some-clause-adds c =
    let names = c.self.inside.names.texts in
    let steps = c.self.inside.steps.items in
    let found = at_name c.args.file.now c.as_slice.result.now names c.position.result c.as_slice.ensures c.position.ensures ∙ c.in-Some.is in
    told_adds c.args.self.now.journal c.self.inside.is_whole c.self.inside.is_whole (map (entry_of names) steps) (map (entry_of names) c.push_bytes.new.steps.items) (appended c.args.file.now c.args.bytes.now) c.requires.told (ap (λ o. o.journal) c.self.view_is)
    (λ whole. ap (map (entry_of names)) c.push_bytes.ensures.steps ∙ entries_put names steps c.args.file.now c.args.bytes.now c.in-Some.at found)

pub returns-in-Some-clause-fits : goal.returns-in-Some-clause-fits
returns-in-Some-clause-fits c =
    let names = c.self.inside.names.texts in
    let steps = c.self.inside.steps.items in
    let found = at_name c.args.file.now c.as_slice.result.now names c.position.result c.as_slice.ensures c.position.ensures ∙ c.in-Some.is in
    begun_fits c.args.self.now.journal c.self.inside.is_whole (map (entry_of names) steps) (map (entry_of names) c.push_bytes.new.steps.items) (appended c.args.file.now c.args.bytes.now) c.args.file.now (ap (λ o. o.journal) c.self.view_is)
    (λ whole. ap (map (entry_of names)) c.push_bytes.ensures.steps ∙ entries_put names steps c.args.file.now c.args.bytes.now c.in-Some.at found)

pub returns-in-None-clause-adds : goal.returns-in-None-clause-adds
returns-in-None-clause-adds c =
    let names = c.self.inside.names.texts in
    let steps = c.self.inside.steps.items in
    told_adds c.args.self.now.journal c.self.inside.is_whole c.is_ok-self-inside.result (map (entry_of names) steps) (map (entry_of names) c.push_strays.new.steps.items) (appended c.args.file.now c.args.bytes.now) c.requires.told (ap (λ o. o.journal) c.self.view_is)
    (λ ok. ap (map (entry_of names)) (where_ok c.push_strays.result c.is_ok-self-inside.result _ c.is_ok-self-inside.ensures.value c.push_strays.ensures.steps ok) ∙ entries_stray names steps c.args.file.now c.args.bytes.now)

pub returns-in-None-clause-fits : goal.returns-in-None-clause-fits
returns-in-None-clause-fits c =
    let names = c.self.inside.names.texts in
    let steps = c.self.inside.steps.items in
    let found = at_name c.args.file.now c.as_slice.result.now names c.position.result c.as_slice.ensures c.position.ensures ∙ c.in-None.is in
    stray_fits c.args.self.now.journal _ c.self.inside.is_whole (map (entry_of names) steps) (appended c.args.file.now c.args.bytes.now) c.args.file.now (ap (λ o. o.journal) c.self.view_is)
    (λ whole. never_begun names c.self.inside.texts.texts steps c.args.file.now found (c.self.invariant.0 whole))
