use Rattle.std.proofs.Common.{sym, ◌∙◌}
use Rattle.lb_tfm.proofs.SoundFiles.{start-within}
use Rattle.lb_tfm.proofs.tables.start_for.Goals as goal

pub restarted-requires-clause-within : goal.restarted-requires-clause-within
restarted-requires-clause-within c =
    let tag = rw (c.byte.ensures, c.info_of-info.ensures, c.from.ensures) at c.if-byte-eq1.true in
    rw (c.byte-then-byte-eq1.ensures, c.info_of-info.ensures, c.from.ensures)
    (start-within c.args.bytes.now c.args.counts c.args.code c.requires.sound (sym c.exists.ensures ∙ c.if-not-exists.false) tag)
