-- A file that keeps the first four rules has all its sections.
use Rattle.std.proofs.Common.{◌≡◌, ℕ, ◌+◌, ◌<◌, ◌≤◌, List, length, None, arith, refl}
use Rattle.lb_base.specs.declared.font.Counts.{Counts}
use Rattle.lb_model_paper.specs.FontFiles.{counts_of, end_of, half_at}
use Rattle.lb_model_paper.specs.FontRules.{has_large_count, large_count, missing_counts, missing_words, whole_words, wrong_count}
use Rattle.lb_tfm.specs.Wholes.{IsWhole}
use Rattle.lb_tfm.proofs.Searches.{none-at}
use Rattle.lb_tfm.proofs.Tests.{is-not-above, is-not-from, is-same, is-some, kept, kept-last, neither}

pub long-enough : (bytes : List ℕ) → missing_counts bytes ≡ None → 24 ≤ length bytes
long-enough bytes h =
    let six : 6 ≤ whole_words bytes = is-not-above (whole_words bytes) 6 (kept _ (whole_words bytes) None h).0 in
    omega arith

-- the counts that keep the third rule
record AreRight (c : Counts) : Type 0 where
  header : 2 ≤ c.lh
  codes : c.bc ≤ c.ec + 1
  last : c.ec ≤ 255
  widths : 0 < c.nw
  heights : 0 < c.nh
  depths : 0 < c.nd
  italics : 0 < c.ni
  sum : c.lf ≡ end_of c

are-right : (c : Counts) → wrong_count c ≡ None → AreRight c
unfolding wrong_count
are-right c h =
    let a = kept _ 0 _ h in
    let b = kept _ 1 _ a.1 in
    let d = kept _ 2 _ b.1 in
    let e = kept _ 3 _ d.1 in
    let codes = neither _ _ b.0 in
    let first = neither _ _ d.0 in
    let second = neither _ _ e.0 in
    record {
      header = is-not-above c.lh 2 a.0;
      codes = is-not-above (c.ec + 1) c.bc codes.0;
      last = is-not-above 255 c.ec codes.1;
      widths = is-some c.nw first.0;
      heights = is-some c.nh first.1;
      depths = is-some c.nd second.0;
      italics = is-some c.ni second.1;
      sum = is-same c.lf (end_of c) (kept-last _ 0 e.1);
    }

lf-small : (bytes : List ℕ) → large_count bytes ≡ None → half_at bytes 0 < 32768
unfolding large_count
lf-small bytes h =
    let low : 0 ≤ 0 = omega arith in
    let high : 0 < 6 = omega arith in
    is-not-from 32768 (half_at bytes 0) (neither _ _ (none-at (has_large_count bytes) 0 6 0 low high h)).0

pub is-whole : (bytes : List ℕ) (c : Counts) → c ≡ counts_of bytes → large_count bytes ≡ None → wrong_count c ≡ None → missing_words bytes c ≡ None → IsWhole bytes c
unfolding counts_of
is-whole bytes c is large wrong missing =
    let right = are-right c wrong in
    let words : c.lf ≤ whole_words bytes = is-not-above (whole_words bytes) c.lf (kept _ (whole_words bytes) None missing).0 in
    let lf : c.lf ≡ half_at bytes 0 = rw is refl in
    let few = lf-small bytes large in
    record {
      long = omega (arith, right.sum);
      small = omega (arith, right.sum);
      header = right.header;
      codes = right.codes;
      last = right.last;
      widths = right.widths;
      heights = right.heights;
      depths = right.depths;
      italics = right.italics;
    }
