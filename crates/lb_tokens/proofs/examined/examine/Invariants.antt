use Rattle.std.proofs.Common.{◌≡◌, ◌<◌, ◌≤◌, ◌+◌, ◌-◌, drop, length, get_or}
use Rattle.std.specs.Option.{option_map}
use Rattle.lb_model.specs.Settings.{Setting}
use Rattle.lb_model.specs.Tokens.{categories, character, noted_codes}
use Rattle.lb_tokens.specs.Parts.{first_character}
use Rattle.lb_tokens.proofs.Characters.{seen}
use Rattle.lb_tokens.proofs.examined.examine.Given as goal

abbrev pub invariant-loop-category : goal.invariant-loop-category
invariant-loop-category g l =
    let C = g.C.Cells in
    record {
      narrows : (p : Setting) → C.agrees l.cats p → C.agrees l.fn.cats p;
      stays : (p : Setting) → C.agrees l.cats p → C.meaning l.cats p ≡ C.meaning l.fn.cats p;
      same : (p : Setting) → C.agrees l.cats p → seen (character (categories p (C.meaning l.fn.cats p)) l.code (drop l.after l.line)) ≡ seen (first_character (categories p (C.meaning l.fn.cats p)) (drop l.at l.line));
      notes : (p : Setting) → C.agrees l.cats p → option_map (noted_codes (character (categories p (C.meaning l.fn.cats p)) l.code (drop l.after l.line)).examined) (C.notes l.cats) ≡ option_map (noted_codes (first_character (categories p (C.meaning l.fn.cats p)) (drop l.at l.line)).examined) (C.notes l.fn.cats);
      made : C.made l.cats ≡ C.made l.fn.cats;
      loan : C.loan l.cats ≡ C.loan l.fn.cats;
      grows : l.at < l.after;
      within : l.after ≤ length l.line;
      unmarked : l.after ≡ l.at + 1 → l.code ≡ get_or l.line l.at 0;
    }

abbrev pub decreases-loop-category : goal.decreases-loop-category
decreases-loop-category g l = length l.line - l.after
