use Rattle.std.proofs.Common.{◌≡◌, ◌≤◌, ◌-◌, ◌++◌, drop, take, length}
use Rattle.std.specs.Option.{option_map}
use Rattle.lb_model.specs.Settings.{Setting}
use Rattle.lb_model.specs.Tokens.{after_letters, categories, characters, letters, letters_examined, noted_codes}
use Rattle.lb_tokens.proofs.control.word_of_line.Given as goal

abbrev pub invariant-loop-end : goal.invariant-loop-end
invariant-loop-end g l =
    let C = g.C.Cells in
    let cats = λ (p : Setting). categories p (C.meaning l.fn.cats p) in
    record {
      narrows : (p : Setting) → C.agrees l.cats p → C.agrees l.fn.cats p;
      stays : (p : Setting) → C.agrees l.cats p → C.meaning l.cats p ≡ C.meaning l.fn.cats p;
      name : (p : Setting) → C.agrees l.cats p → take (l.end - l.start) (drop l.start l.line) ++ letters (characters (cats p) (drop l.end l.line)) ≡ take (l.from - l.start) (drop l.start l.line) ++ letters (characters (cats p) (drop l.from l.line));
      rest : (p : Setting) → C.agrees l.cats p → after_letters (drop l.end l.line) (characters (cats p) (drop l.end l.line)) ≡ after_letters (drop l.from l.line) (characters (cats p) (drop l.from l.line));
      notes : (p : Setting) → C.agrees l.cats p → option_map (noted_codes (letters_examined (characters (cats p) (drop l.end l.line)))) (C.notes l.cats) ≡ option_map (noted_codes (letters_examined (characters (cats p) (drop l.from l.line)))) (C.notes l.fn.cats);
      made : C.made l.cats ≡ C.made l.fn.cats;
      loan : C.loan l.cats ≡ C.loan l.fn.cats;
      goes_on : l.from ≤ l.end;
      within : l.end ≤ length l.line;
    }

abbrev pub decreases-loop-end : goal.decreases-loop-end
decreases-loop-end g l = length l.line - l.end
