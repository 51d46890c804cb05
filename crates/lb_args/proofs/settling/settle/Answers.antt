use Rattle.std.proofs.Common.{◌≡◌, ◌∙◌, ◌<◌, ◌-◌, [], ◌∷◌, length, take, drop, ap, sym, arith}
use Rattle.std.proofs.Math.Seq.{take-length}
use Rattle.std.proofs.lemmas.List.{length-drop}
use Rattle.lb_base.specs.declared.token.Tok.TheVariants.{Param}
use Rattle.lb_model_grammar.specs.declared.given.Given.TheVariants.{End as AnEnd}
use Rattle.lb_model_grammar.specs.Arguments.{at_base, begins}
use Rattle.lb_args.specs.Fits.{given_before}
use Rattle.lb_model_grammar.specs.Arguments.Begun.{May, Cut}
use Rattle.lb_args.proofs.WindowLemmas.{decided-as}
use Rattle.lb_args.proofs.settling.settle.Goals as goal

pub returns-in-Part-clause-goes : goal.returns-in-Part-clause-goes
returns-in-Part-clause-goes c =
    let l = c.tokens in
    let toks = c.args.toks.now in
    let fits = c.in-Part.ensures.fits in
    let within = c.tokens-test.true in
    let left = length-drop l.count toks in
    let window : take (length toks - l.count) (drop l.count toks) ≡ drop l.count toks = ap (λ n. take n (drop l.count toks)) (sym left) ∙ take-length (drop l.count toks) in
    let long = ap length window in
    let shorter : length (take (length toks - l.count) (drop l.count toks)) < length c.args.delimiter.now = c.in-Part.ensures.shorter in
    let may = ap (λ w. at_base l.level (begins c.args.delimiter.now (given_before w []))) (sym window) ∙ fits.0 in
    let cut = ap (λ w. at_base l.level (begins c.args.delimiter.now (given_before w (AnEnd ∷ [])))) (sym window) ∙ fits.1 in
    record {
      window = record {
        more = decided-as c.args.long c.args.delimiter.now toks l.level l.count (Param 0) [] May within may;
        cut = decided-as c.args.long c.args.delimiter.now toks l.level l.count (Param 0) (AnEnd ∷ []) Cut within cut;
      };
      within = omega (arith, within);
      short = omega (arith, within, left, long, shorter);
      small = l.invariant.small;
    }
