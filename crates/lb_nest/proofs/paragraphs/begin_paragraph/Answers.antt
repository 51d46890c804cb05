use Rattle.lb_model_nest.specs.Paragraphs.{paragraph_begun, skip_added}
use Rattle.lb_nest.proofs.LeadsLemmas.{leads-ended, leads-looking, leads-then}
use Rattle.lb_nest.proofs.WorksLemmas.{works-leads}
use Rattle.lb_nest.specs.Paragraphs.{begun_by, opening}
use Rattle.lb_nest.proofs.paragraphs.begin_paragraph.Goals as goal

pub returns-in-On : goal.returns-in-On
unfolding paragraph_begun
returns-in-On g c =
    let b = c.in_ok-lengths.lengths in
    let first = c.in_ok-went.ensures.goes in
    record {
      goes =
          leads-looking (begun_by c.args.indent) b c.open_paragraph.result c.in_ok-lengths.ensures.looks
          (leads-then (skip_added b.skip) (opening c.args.indent b.indent) c.open_paragraph.result c.in-On.is first
          (works-leads g.C.Cells c.open_paragraph.result first.keeps (c.open_paragraph.ensures.works c.add_skip.new.left)));
    }

pub returns-in_default : goal.returns-in_default
unfolding paragraph_begun
returns-in_default g c =
    let b = c.in_ok-lengths.lengths in
    record {
      goes =
          leads-looking (begun_by c.args.indent) b _ c.in_ok-lengths.ensures.looks
          (leads-ended (skip_added b.skip) (opening c.args.indent b.indent) c.in_ok-went.went c.in_default.not-On c.in_ok-went.ensures.goes);
    }
