use Rattle.std.proofs.Common.{◌∙◌}
use Rattle.lb_record.proofs.Recordings.{recording-new}
use Rattle.lb_record.proofs.recorder.Recorder.over.Goals as goal

pub invariant_of-result : goal.invariant_of-result
invariant_of-result c =
    recording-new c.args.world.now c.args.guess.now c.new.result c.from_vec.result c.new-2.result c.new.ensures (c.from_vec.ensures ∙ c.in_ok-with_capacity.ensures.items) c.new-2.ensures.entries c.new-2.ensures.saves
