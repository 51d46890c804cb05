use Rattle.std.proofs.Common.{◌∙◌, ap}
use Rattle.lb_model.specs.Ranges.{fits}
use Rattle.lb_model_nest.specs.Wholes.{change}
use Rattle.lb_engine.proofs.RowLemmas.{act-is}
use Rattle.lb_engine.proofs.CopyLemmas.{name-settable-to}
use Rattle.lb_engine.proofs.copied_meanings.give_meaning.Goals as goal

pub change-requires : goal.change-requires
change-requires g c = record {
  settable = name-settable-to c.args.name.now c.meaning_value-value.result c.requires.name;
  fits = λ p h s. ap (fits c.args.name.now) c.meaning_value-value.ensures ∙ c.requires.fits p h s;
  holds = c.requires.holds;
}

pub returns : goal.returns
returns g c = record { goes = act-is (λ v. change c.args.reach c.args.name.now v) c.change.result c.meaning_value-value.ensures c.change.ensures.goes }
