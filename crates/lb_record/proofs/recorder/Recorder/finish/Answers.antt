use Rattle.std.proofs.Common.{◌∙◌, ap, sym}
use Rattle.lb_record.specs.Recorded.{reads_of, setting_of}
use Rattle.lb_record.proofs.Noted.{pairs-of}
use Rattle.lb_record.proofs.recorder.Recorder.finish.Goals as goal

pub returns-clause-reads : goal.returns-clause-reads
returns-clause-reads c =
    let r = c.self.inside in
    sym (pairs-of (setting_of r.world.now r.guess.now) r.reads c.self.invariant.holds) ∙ ap reads_of c.self.view_is
