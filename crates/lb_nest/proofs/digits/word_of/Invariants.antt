use Rattle.std.proofs.Common.{◌≡◌, ◌++◌, drop}
use Rattle.std.specs.Prelude.{filter}
use Rattle.lb_model_nest.specs.Pages.{has_code}
use Rattle.lb_nest.specs.Appends.{missing_appends}
use Rattle.lb_nest.proofs.digits.word_of.Given as goal

abbrev pub invariant-loop-code : goal.invariant-loop-code
invariant-loop-code l =
    record {
      word : l.word ++ filter (has_code l.font) (drop l.code-index l.text) ≡ filter (has_code l.font) l.text;
      entries : l.entries ++ missing_appends l.font (drop l.code-index l.text) ≡ l.fn.entries ++ missing_appends l.font l.text;
    }
