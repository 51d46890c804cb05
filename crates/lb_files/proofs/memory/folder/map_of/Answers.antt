use Rattle.std.proofs.Common.{◌≡◌, ◌++◌, ◌∷◌, [], ◌-◌, List, ℕ, take, sym, ◌∙◌, ap, append-nil, append_assoc}
use Rattle.std.specs.FinMap as map
use Rattle.lb_model.specs.Files.{name_cmp}
use Rattle.lb_files.proofs.memory.folder.map_of.Goals as goal

pub loop-name-init : goal.loop-name-init
loop-name-init c = ([], sym c.into_vec-rest.ensures ∙ sym (append-nil c.into_vec-rest.result.items), c.new-made.ensures)

pub loop-name-preserved : goal.loop-name-preserved
loop-name-preserved c =
    let done = c.loop-name.invariant.0 in
    let last : List ℕ × List ℕ = (c.in-Some.name, c.in-Some.bytes) in
    let items = c.in-Some.ensures.items in (
      last ∷ done,
      c.loop-name.invariant.1 ∙ ap (λ l. l ++ done) items ∙ append_assoc c.pop.new.self.items (last ∷ []) done,
      c.in_ok-insert.ensures.ok ∙ ap (map.insert c.loop-name.made c.in-Some.name) c.in_ok-shared.ensures ∙ ap (λ m. map.insert m c.in-Some.name c.in-Some.bytes) c.loop-name.invariant.2,
    )

pub returns : goal.returns
returns c =
    let rest = c.loop-name.rest.items in
    let none : rest ≡ [] = c.in_default.ensures.items ∙ append-nil c.pop.new.self.items ∙ c.in_default.ensures.rest ∙ ap (λ n. take (n - 1) rest) c.in_default.ensures.cases.0 in
    c.loop-name.invariant.2 ∙ ap (map.from_entries {R = name_cmp}) (sym (c.loop-name.invariant.1 ∙ ap (λ l. l ++ c.loop-name.invariant.0) none))
