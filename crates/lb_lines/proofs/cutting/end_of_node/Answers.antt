use Rattle.std.proofs.Common.{sym, ap, ◌∙◌}
use Rattle.lb_base.specs.declared.node.Discretionary.{Discretionary, out-Discretionary}
use Rattle.lb_model_paper.specs.Breaks.{is_there, post_in, pre_in}
use Rattle.lb_measure.proofs.Measures.{parts_of-disc, parts_of-other}
use Rattle.lb_lines.proofs.cutting.end_of_node.Goals as goal

pub returns-in-Disc-clause-pre : goal.returns-in-Disc-clause-pre
returns-in-Disc-clause-pre c = c.end_of_disc.ensures.pre ∙ ap (λ (d : Discretionary). (out-Discretionary d).pre_break) c.into_inner.ensures ∙ sym (ap pre_in (parts_of-disc c.args.node c.in-Disc.parts c.in-Disc.is))

pub returns-in-Disc-clause-post : goal.returns-in-Disc-clause-post
returns-in-Disc-clause-post c = c.end_of_disc.ensures.post ∙ ap (λ (d : Discretionary). (out-Discretionary d).post_break) c.into_inner.ensures ∙ sym (ap post_in (parts_of-disc c.args.node c.in-Disc.parts c.in-Disc.is))

pub returns-in-Disc-clause-broken : goal.returns-in-Disc-clause-broken
returns-in-Disc-clause-broken c = c.end_of_disc.ensures.broken ∙ sym (ap is_there (parts_of-disc c.args.node c.in-Disc.parts c.in-Disc.is))

pub returns : goal.returns
returns c =
    let none = parts_of-other c.args.node c.in_default.not-Disc in
    record {
      pre = c.no_end.ensures.pre ∙ sym (ap pre_in none);
      post = c.no_end.ensures.post ∙ sym (ap post_in none);
      broken = c.no_end.ensures.broken ∙ sym (ap is_there none);
    }
