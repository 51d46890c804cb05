use Rattle.std.proofs.Common.{◌≡◌, List, [], ◌++◌, ◌∙◌, ap}
use Rattle.std.specs.List.{flat_map}
use Rattle.lb_model.specs.Journal.{Entry, begun_with}
use Rattle.lb_run.specs.Writes.{entries_of}
use Rattle.lb_run.proofs.book.start_writes.Goals as goal

joined : (a b c x x' y y' z z' : List Entry) → a ≡ [] ++ x → b ≡ a ++ y → c ≡ b ++ z → x ≡ x' → y ≡ y' → z ≡ z' → c ≡ x' ++ y' ++ z'
joined a b c x x' y y' z z' e1 e2 e3 ex ey ez = e3 ∙ (λ i. (e2 ∙ (λ j. (e1 ∙ ex) j ++ ey j)) i ++ ez i)

pub returns : goal.returns
returns c =
    let files = c.args.files.now in
    joined _ _ _ _ _ _ _ _ _
    (c.in_ok-push_begun.ensures ∙ ap (λ l. flat_map entries_of l ++ begun_with files.log c.in_ok-log_start.field-0) c.new-writes.ensures.items) c.in_ok-push_begun-2.ensures c.in_ok-push_begun-3.ensures
    (ap (begun_with files.log) c.in_ok-log_start.ensures) (ap (begun_with files.dvi) c.in_ok-preamble.ensures) (ap (begun_with files.aux) c.in_ok-relax_line.ensures)
