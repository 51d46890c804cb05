use Rattle.lb_engine.specs.Brackets.{bracket_rest}
use Rattle.lb_engine.proofs.BracketLemmas.{reads-some, reads-some-fails}
use Rattle.lb_engine.proofs.brackets.read_some.Goals as goal

pub returns-in-Ok : goal.returns-in-Ok
returns-in-Ok g c = record { reads = reads-some g.F.Feed bracket_rest c.in-Ok.toks c.read_rest.new.feed c.args.feed.now c.in-Ok.ensures.reads }

pub returns-in-Err : goal.returns-in-Err
returns-in-Err g c = record { reads = reads-some-fails g.F.Feed bracket_rest c.in-Err.stop c.read_rest.new.feed c.args.feed.now c.in-Err.ensures.reads }
