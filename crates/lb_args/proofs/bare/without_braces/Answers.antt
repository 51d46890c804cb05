use Rattle.std.proofs.Common.{◌≡◌, ◌∙◌, true, sym, ap, take, drop}
use Rattle.lb_args.specs.Fits.{is_group}
use Rattle.lb_args.proofs.BareLemmas.{bare-of}
use Rattle.lb_args.proofs.bare.without_braces.Goals as goal

pub returns-then-is_group : goal.returns-then-is_group
returns-then-is_group c =
    let toks = c.args.toks in
    let bare = c.truncate.new.self.items in
    let is : bare ≡ take c.args.count toks = c.truncate.ensures.items ∙ ap (take c.args.count) c.into_vec-bare.ensures in
    let group : is_group bare ≡ true = ap is_group (sym c.as_slice.ensures.value) ∙ sym c.is_group.ensures ∙ c.if-is_group.true in
    c.from_vec.ensures ∙ c.remove_first.ensures ∙ ap (drop 1) c.truncate-then-is_group.ensures.items ∙ bare-of toks bare c.args.count c.requires is group
