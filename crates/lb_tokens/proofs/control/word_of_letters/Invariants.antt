use Rattle.std.proofs.Common.{◌≡◌, ◌≤◌, ◌-◌, ◌++◌, drop, length}
use Rattle.std.specs.Option.{option_map}
use Rattle.lb_model.specs.Settings.{Setting}
use Rattle.lb_model.specs.Tokens.{after_letters, categories, characters, letters, letters_examined, noted_codes}
use Rattle.lb_tokens.proofs.control.word_of_letters.Given as goal

abbrev pub invariant-loop-at : goal.invariant-loop-at
invariant-loop-at g l =
    let C = g.C.Cells in
    let cats = λ (p : Setting). categories p (C.meaning l.fn.cats p) in
    record {
      narrows : (p : Setting) → C.agrees l.cats p → C.agrees l.fn.cats p;
      stays : (p : Setting) → C.agrees l.cats p → C.meaning l.cats p ≡ C.meaning l.fn.cats p;
      name : (p : Setting) → C.agrees l.cats p → l.name.items ++ letters (characters (cats p) (drop l.at l.line)) ≡ l.fn.name.items ++ letters (characters (cats p) (drop l.from l.line));
      rest : (p : Setting) → C.agrees l.cats p → after_letters (drop l.at l.line) (characters (cats p) (drop l.at l.line)) ≡ after_letters (drop l.from l.line) (characters (cats p) (drop l.from l.line));
      notes : (p : Setting) → C.agrees l.cats p → option_map (noted_codes (letters_examined (characters (cats p) (drop l.at l.line)))) (C.notes l.cats) ≡ option_map (noted_codes (letters_examined (characters (cats p) (drop l.from l.line)))) (C.notes l.fn.cats);
      made : C.made l.cats ≡ C.made l.fn.cats;
      loan : C.loan l.cats ≡ C.loan l.fn.cats;
      goes_on : l.from ≤ l.at;
      within : l.at ≤ length l.line;
    }

abbrev pub decreases-loop-at : goal.decreases-loop-at
decreases-loop-at g l = length l.line - l.at
