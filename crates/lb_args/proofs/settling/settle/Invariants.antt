use Rattle.std.proofs.Common.{◌≡◌, ◌≤◌, List}
use Rattle.lb_model_grammar.specs.declared.given.Given.{Given}
use Rattle.lb_args.specs.Fits.{decided}
use Rattle.lb_args.proofs.settling.settle.Given as goal

abbrev pub invariant-tokens : goal.invariant-tokens
invariant-tokens l =
    record {
      same : (given : List Given) → decided l.long l.delimiter l.toks l.depth l.from given ≡ decided l.long l.delimiter l.toks l.level l.count given;
      small : l.level ≤ l.count;
    }
