use Rattle.std.proofs.Common.{sym, ◌∙◌}
use Rattle.lb_tfm.proofs.SoundFiles.{info-within}
use Rattle.lb_tfm.proofs.tables.metrics_for.Goals as goal

pub metrics_in-requires-clause-right : goal.metrics_in-requires-clause-right
metrics_in-requires-clause-right c =
    rw (c.info_of.ensures, c.from.ensures) (info-within c.args.bytes.now c.args.counts c.args.code c.requires.sound (sym c.exists.ensures ∙ c.if-exists.true))
