use Rattle.std.proofs.Common.{◌≡◌, true, false, Err, sym, ◌∙◌, ap, subst}
use Rattle.lb_run.specs.Parts.{IsPlainFile}
use Rattle.lb_run.proofs.Bounds.{within_limits, stays_plain}
use Rattle.lb_run.proofs.chapter.page_bytes.Goals as goal

pub unreachable-requires : goal.unreachable-requires
unreachable-requires c =
    let passed = c.in-Err-PageLimit.ensures.limit_only (ap Err c.in-Err-PageLimit.field-0-is) in
    let within = within_limits c.args.writer.now c.args.page.now c.requires.file c.requires.plain c.requires.few in
    let clash : false ≡ true = sym within ∙ passed in
    cc

pub returns-in-Ok-clause-file : goal.returns-in-Ok-clause-file
returns-in-Ok-clause-file c =
    subst IsPlainFile (sym c.in-Ok.ensures.after) (stays_plain c.args.writer.now c.args.page.now c.requires.file c.requires.plain)
