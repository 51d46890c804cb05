use Rattle.lb_engine.proofs.LeadsLemmas.{leads-read}
use Rattle.lb_engine.proofs.JoinLemmas.{read-failed}
use Rattle.lb_engine.specs.CopiedMeanings.{given_meaning}
use Rattle.lb_engine.proofs.CopyLemmas.{copied-fits}
use Rattle.lb_engine.proofs.copied_meanings.copy_meaning.Goals as goal

pub give_meaning-requires : goal.give_meaning-requires
give_meaning-requires g c = record {
  name = c.requires.name;
  fits = λ p h s. copied-fits p.world _ c.args.tok.now c.args.name.now c.in_ok-meaning.meaning c.requires.name s (c.in_ok-meaning.ensures.told p h);
  holds = (c.in_ok-meaning.ensures.leads (given_meaning c.args.reach c.args.name.now)).keeps;
}

pub returns : goal.returns
returns g c = record { goes = leads-read (given_meaning c.args.reach c.args.name.now) c.in_ok-meaning.meaning c.give_meaning.result (c.in_ok-meaning.ensures.leads (given_meaning c.args.reach c.args.name.now)) c.give_meaning.ensures.goes }

pub returns-in_err-meaning : goal.returns-in_err-meaning
returns-in_err-meaning g c = record { goes = read-failed c.from_residual.result c.from_residual.ensures.0 (c.in_err-meaning.ensures.leads (given_meaning c.args.reach c.args.name.now)) }
