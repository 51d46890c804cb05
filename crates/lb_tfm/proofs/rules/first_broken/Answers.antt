use Rattle.std.proofs.Common.{sym, ◌∙◌}
use Rattle.lb_tfm.proofs.BrokenRules.{broken-1, broken-2, broken-3, broken-4, broken-5-on, broken-later}
use Rattle.lb_tfm.proofs.WholeFiles.{is-whole}
use Rattle.lb_tfm.proofs.rules.first_broken.Goals as goal

pub returns-in-Some : goal.returns-in-Some
returns-in-Some c = broken-1 c.args.bytes.now c.in-Some.word (sym c.in-Some.is ∙ c.missing_counts.ensures)

pub returns-in-Some-large_count : goal.returns-in-Some-large_count
returns-in-Some-large_count c =
    broken-2 c.args.bytes.now c.in-Some-large_count.word (sym c.missing_counts.ensures ∙ c.in_default.is) (sym c.in-Some-large_count.is ∙ c.large_count.ensures)

pub returns-in-Some-wrong_count : goal.returns-in-Some-wrong_count
returns-in-Some-wrong_count c =
    broken-later c.args.bytes.now c.counts-counts.result _ c.counts-counts.ensures (sym c.missing_counts.ensures ∙ c.in_default.is) (sym c.large_count.ensures ∙ c.in_default-large_count.is)
    (broken-3 c.args.bytes.now c.counts-counts.result c.in-Some-wrong_count.word (sym c.in-Some-wrong_count.is ∙ c.wrong_count.ensures))

pub returns-in-Some-missing_words : goal.returns-in-Some-missing_words
returns-in-Some-missing_words c =
    broken-later c.args.bytes.now c.counts-counts.result _ c.counts-counts.ensures (sym c.missing_counts.ensures ∙ c.in_default.is) (sym c.large_count.ensures ∙ c.in_default-large_count.is)
    (broken-4 c.args.bytes.now c.counts-counts.result c.in-Some-missing_words.word (sym c.wrong_count.ensures ∙ c.in_default-wrong_count.is) (sym c.in-Some-missing_words.is ∙ c.missing_words.ensures))

pub broken_section-requires : goal.broken_section-requires
broken_section-requires c =
    is-whole c.args.bytes.now c.counts-counts.result c.counts-counts.ensures (sym c.large_count.ensures ∙ c.in_default-large_count.is) (sym c.wrong_count.ensures ∙ c.in_default-wrong_count.is)
    (sym c.missing_words.ensures ∙ c.in_default-missing_words.is)

pub returns : goal.returns
returns c =
    broken-later c.args.bytes.now c.counts-counts.result _ c.counts-counts.ensures (sym c.missing_counts.ensures ∙ c.in_default.is) (sym c.large_count.ensures ∙ c.in_default-large_count.is)
    (broken-5-on c.args.bytes.now c.counts-counts.result c.broken_section.result (sym c.wrong_count.ensures ∙ c.in_default-wrong_count.is) (sym c.missing_words.ensures ∙ c.in_default-missing_words.is) c.broken_section.ensures)
