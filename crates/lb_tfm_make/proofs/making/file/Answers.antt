use Rattle.std.proofs.Common.{◌≡◌, ◌++◌, [], length, ap, ◌∙◌, arith, rules}
use Rattle.std.specs.List.{concat}
use Rattle.lb_tfm_make.specs.FontBytes.{count_words, joined, lefts_of, sections}
use Rattle.lb_tfm_make.proofs.Counts.{few-lefts, few-programs, length-body, length-infos, length-steps, length-widths}
use Rattle.lb_tfm_make.proofs.WholeFiles.{file-from}
use Rattle.lb_tfm_make.proofs.making.file.Goals as goal

pub step_words-requires : goal.step_words-requires
step_words-requires c =
    let spec = c.args.spec.now in
    let starts : c.deref.result.now ≡ lefts_of spec = search rules in
    rw (starts, c.as_slice-3.ensures) (omega (arith, few-lefts spec (rw c.as_slice.ensures at c.in_ok-starts.ensures.last), few-programs spec))

pub body-requires-clause-short : goal.body-requires-clause-short
body-requires-clause-short c =
    let spec = c.args.spec.now in
    let starts : c.deref-2.result.now ≡ lefts_of spec = search rules in
    rw starts (few-lefts spec (rw c.as_slice.ensures at c.in_ok-starts.ensures.last))

pub push_counts-requires-clause-short : goal.push_counts-requires-clause-short
push_counts-requires-clause-short c =
    let spec = c.args.spec.now in
    let last = rw c.as_slice.ensures at c.in_ok-starts.ensures.last in
    let words : c.len-2.result ≡ length (joined (sections spec)) = search rules in
    let widths = ap length c.requires.widths in
    omega (arith, words, length-body spec, length-infos spec, length-widths spec, length-steps spec, few-lefts spec last, few-programs spec, widths)

pub returns-clause-bytes : goal.returns-clause-bytes
returns-clause-bytes c =
    let spec = c.args.spec.now in
    let counts : c.push_counts.new.out.items ≡ [] ++ concat (count_words spec) = c.in_ok-push_counts.ensures ∙ ap (λ x. x ++ concat (count_words spec)) c.new-out.ensures.items in
    let body : c.deref-4.result.now ≡ joined (sections spec) = search rules in
    c.from_vec.ensures ∙ file-from spec c.push_counts.new.out.items c.push_words.new.out.items c.deref-4.result.now counts body c.in_ok-push_words.ensures
