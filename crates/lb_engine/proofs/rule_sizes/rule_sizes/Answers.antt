use Rattle.std.proofs.Common.{◌∙◌, ◌≡◌, ◌-◌, arith, ap, refl, rules, suc, sym, zero, Some, None}
use Rattle.std.specs.Prelude.{Ok}
use Rattle.lb_base.specs.declared.fault.Kind.TheVariants.{StepLimit}
use Rattle.lb_model_nest.specs.declared.turn.Went.TheVariants.{On, Stopped}
use Rattle.lb_model_nest.specs.Wholes.{executed}
use Rattle.lb_model_engine.specs.Items.{rule_sizes, sizes_in}
use Rattle.lb_engine.specs.Reads.{behind_reading}
use Rattle.lb_engine.specs.declared.reading.Reading.TheVariants as reading
use Rattle.lb_engine.proofs.JoinLemmas.{read-failed}
use Rattle.lb_engine.proofs.LeadsLemmas.{leads-after, passes-then}
use Rattle.lb_engine.proofs.RowLemmas.{passes-of, read-ends}
use Rattle.lb_engine.proofs.RuleLemmas.{further, goes-on}
use Rattle.lb_engine.proofs.rule_sizes.rule_sizes.Goals as goal

pub sizes-init : goal.sizes-init
sizes-init g c =
    record {
      narrows = λ p h. h;
      passes = λ row. record { done = λ p h. refl; notes = λ p h. refl };
      holds = c.requires.holds;
      made = refl;
      loan = refl;
    }

pub returns-in_err-given : goal.returns-in_err-given
returns-in_err-given g c =
    let l = c.sizes in
    let i = l.invariant in
    record {
      leads = λ row. read-failed c.from_residual.result c.from_residual.ensures.0 (leads-after _ i.narrows (i.passes row) i.made i.loan (c.in_err-given.ensures.leads (further l.turns l.size row)));
    }

pub returns-in-Stops : goal.returns-in-Stops
returns-in-Stops g c =
    let l = c.sizes in
    let i = l.invariant in
    record {
      leads = λ row.
          let f = further l.turns l.size row in
          leads-after _ i.narrows (i.passes row) i.made i.loan (read-ends (behind_reading f) (behind_reading row) (reading.Stops c.in-Stops.went) c.in-Stops.is refl (c.in_ok-given.ensures.leads f));
    }

pub returns-in_default : goal.returns-in_default
returns-in_default g c =
    let l = c.sizes in
    let i = l.invariant in
    record {
      leads = λ row.
          let f = further l.turns l.size row in
          leads-after _ i.narrows (i.passes row) i.made i.loan
          (read-ends (behind_reading f) (behind_reading row) (reading.Of l.size) c.in-Of.is (goes-on l.turns l.size row c.in-Of.given None (sym c.with_given.ensures ∙ c.in_default.is)) (c.in_ok-given.ensures.leads f));
    }

pub returns-in_default-checked_sub : goal.returns-in_default-checked_sub
returns-in_default-checked_sub g c =
    let l = c.sizes in
    let i = l.invariant in
    let last : l.turns ≡ zero = search rules in
    record {
      leads = λ row.
          let f = further l.turns l.size row in
          leads-after _ i.narrows (i.passes row) i.made i.loan
          (
          read-ends (behind_reading f) (behind_reading row) (reading.Stops (Stopped StepLimit)) c.in-Of.is
          (goes-on l.turns l.size row c.in-Of.given (Some c.in-Some.changed) (sym c.with_given.ensures ∙ c.in-Some.is) ∙ ap (λ n. sizes_in n c.in-Some.changed row) last) (c.in_ok-given.ensures.leads f)
          );
    }

pub sizes-preserved : goal.sizes-preserved
sizes-preserved g c =
    let l = c.sizes in
    let i = l.invariant in
    let any = c.in_ok-given.ensures.leads (λ x. executed On) in
    let less : l.turns ≡ suc c.in-Some-checked_sub.fewer = search rules in
    record {
      narrows = λ p h. i.narrows p (any.narrows p h);
      passes = λ row.
          let f = further l.turns l.size row in
          passes-then any.narrows (i.passes row)
          (
          passes-of (behind_reading f) (sizes_in (suc c.in-Some-checked_sub.fewer) c.in-Some.changed row) c.in-Of.is
          (goes-on l.turns l.size row c.in-Of.given (Some c.in-Some.changed) (sym c.with_given.ensures ∙ c.in-Some.is) ∙ ap (λ n. sizes_in n c.in-Some.changed row) less) (c.in_ok-given.ensures.leads f).passes
          );
      holds = any.keeps;
      made = any.made ∙ i.made;
      loan = any.loan ∙ i.loan;
    }
