use Rattle.std.proofs.Common.{◌∙◌, sym, subst, w32, to_z, of_z, FitsSigned, rules}
use Rattle.std.proofs.lemmas.Bool.{iff_false}
use Rattle.std.proofs.lemmas.Int.{to_z-of_z}
use Rattle.lb_base.specs.declared.glue.GlueSet.{GlueSet}
use Rattle.lb_model_paper.specs.Boxes.{IsSmallBox}
use Rattle.lb_nodes.specs.Setting.{AreSmallShifts}
use Rattle.lb_nodes.proofs.Plans.{asked_size_is, AreSmallLengths-from, excess_of_is, IsSmallBox-from, set_of_is}
use Rattle.lb_nodes.proofs.plan.plan_of.Goals as goal

pub returns-in_err-lengths-clause-large : goal.returns-in_err-lengths-clause-large
returns-in_err-lengths-clause-large c =
    let large : IsSmallBox c.args.axis c.args.nodes.now c.args.target → ⊥ = λ small. c.in_err-lengths.ensures.large (AreSmallLengths-from c.args.axis c.args.nodes.now c.in_ok-totals.totals c.args.target c.in_ok-totals.ensures.totals small) in
    search rules

pub are_small_shifts-requires : goal.are_small_shifts-requires
are_small_shifts-requires c =
    let fits : FitsSigned w32 c.whole-whole.result = search rules in
    to_z-of_z w32 c.whole-whole.result fits ∙ c.whole-whole.ensures c.args.axis c.args.nodes.now c.in_ok-totals.ensures.totals

pub returns-then-not-are_small_shifts-clause-large : goal.returns-then-not-are_small_shifts-clause-large
returns-then-not-are_small_shifts-clause-large c = λ small.
    let axis = c.args.axis in
    let nodes = c.args.nodes.now in
    let lengths = c.in_ok-lengths.lengths in
    let are = c.in_ok-totals.ensures.totals in
    let fits : FitsSigned w32 lengths.excess = search rules in
    let set = set_of_is axis nodes c.args.target (to_z w32 (of_z w32 lengths.excess)) c.glue_set-glue_set.result (c.glue_set-glue_set.ensures axis nodes are) (to_z-of_z w32 lengths.excess fits ∙ c.in_ok-lengths.ensures.excess ∙ excess_of_is axis nodes c.in_ok-totals.totals c.args.target are) in
    let P : GlueSet → Type 0 = λ s. AreSmallShifts s nodes in
    iff_false c.are_small_shifts.ensures c.if-not-are_small_shifts.true (subst P (sym set) small.shifts)

pub returns-clause-plan : goal.returns-clause-plan
returns-clause-plan c =
    let axis = c.args.axis in
    let nodes = c.args.nodes.now in
    let lengths = c.in_ok-lengths.lengths in
    let are = c.in_ok-totals.ensures.totals in
    let fits : FitsSigned w32 lengths.excess = search rules in
    let fits_along : FitsSigned w32 lengths.along = search rules in
    record {
      size = c.box_size-size.ensures nodes c.args.target are (to_z-of_z w32 lengths.along fits_along ∙ c.in_ok-lengths.ensures.along ∙ asked_size_is axis nodes c.in_ok-totals.totals c.args.target are);
      glue_set = set_of_is axis nodes c.args.target (to_z w32 (of_z w32 lengths.excess)) c.glue_set-glue_set.result (c.glue_set-glue_set.ensures axis nodes are) (to_z-of_z w32 lengths.excess fits ∙ c.in_ok-lengths.ensures.excess ∙ excess_of_is axis nodes c.in_ok-totals.totals c.args.target are);
    }

pub returns-clause-small : goal.returns-clause-small
returns-clause-small c =
    let axis = c.args.axis in
    let nodes = c.args.nodes.now in
    let lengths = c.in_ok-lengths.lengths in
    let are = c.in_ok-totals.ensures.totals in
    let fits : FitsSigned w32 lengths.excess = search rules in
    let set = set_of_is axis nodes c.args.target (to_z w32 (of_z w32 lengths.excess)) c.glue_set-glue_set.result (c.glue_set-glue_set.ensures axis nodes are) (to_z-of_z w32 lengths.excess fits ∙ c.in_ok-lengths.ensures.excess ∙ excess_of_is axis nodes c.in_ok-totals.totals c.args.target are) in
    let P : GlueSet → Type 0 = λ s. AreSmallShifts s nodes in
    IsSmallBox-from axis nodes c.in_ok-totals.totals c.args.target are c.in_ok-totals.ensures.sums c.in_ok-lengths.ensures.small (subst P set (c.are_small_shifts.ensures.0 c.if-not-are_small_shifts.false))
