use Rattle.std.proofs.Common.{◌+◌, sym, ◌∙◌}
use Rattle.lb_model_paper.specs.FontFiles.{end_of, first_extensible, first_kern, first_parameter, words}
use Rattle.lb_model_paper.specs.FontRules.{is_large, wrong_length}
use Rattle.lb_tfm.proofs.Searches.{find-first, find-second}
use Rattle.lb_tfm.proofs.rules.wrong_length.Goals as goal

pub returns-in-Some : goal.returns-in-Some
unfolding wrong_length
returns-in-Some c =
    let kerns = rw (c.first_kern.ensures, c.first_extensible.ensures) at c.first_large.ensures in
    find-first (is_large c.args.bytes.now) (words (first_kern c.args.counts) (first_extensible c.args.counts)) (words (first_parameter c.args.counts + 1) (end_of c.args.counts)) c.in-Some.word (sym c.in-Some.is ∙ kerns)

pub returns : goal.returns
unfolding wrong_length
returns c =
    let kerns = rw (c.first_kern.ensures, c.first_extensible.ensures) at c.first_large.ensures in
    let parameters = rw (c.first_parameter.ensures, c.end.ensures) at c.first_large-2.ensures in
    find-second (is_large c.args.bytes.now) (words (first_kern c.args.counts) (first_extensible c.args.counts)) (words (first_parameter c.args.counts + 1) (end_of c.args.counts)) c.first_large-2.result (sym kerns ∙ c.in_default.is) parameters
