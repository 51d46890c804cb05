use Rattle.std.proofs.Common.{length, sym, ◌∙◌, ap, subst, arith}
use Rattle.std.specs.List.{AllByRecursion}
use Rattle.std.specs.Prelude.{IsTrue}
use Rattle.lb_model_book.specs.PlainForm.{is_plain_chapter}
use Rattle.lb_run.proofs.PlainNames.{known_names}
use Rattle.lb_run.proofs.setting.set_world.Goals as goal

pub write_book-requires-clause-plain : goal.write_book-requires-clause-plain
write_book-requires-clause-plain g c =
    let known = known_names c.args.world.now c.in-Some.names (sym c.in-Ok-plain_names.ensures ∙ c.in-Some.is) in
    subst (AllByRecursion (λ name. IsTrue (is_plain_chapter c.args.world.now name))) (sym c.as_slice.ensures) known.plain

pub write_book-requires-clause-few : goal.write_book-requires-clause-few
write_book-requires-clause-few g c =
    let known = known_names c.args.world.now c.in-Some.names (sym c.in-Ok-plain_names.ensures ∙ c.in-Some.is) in
    omega (arith, ap length c.as_slice.ensures, known.few)
