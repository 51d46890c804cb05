use Rattle.std.proofs.Common.{◌≡◌, ◌≤◌, ◌-◌, drop, length}
use Rattle.std.specs.Option.{option_map}
use Rattle.lb_model.specs.Settings.{Setting}
use Rattle.lb_model.specs.Tokens.{categories, next_token, noted_codes}
use Rattle.lb_tokens.proofs.reader.step.Given as goal

abbrev pub invariant-loop-at : goal.invariant-loop-at
invariant-loop-at g l =
    let C = g.C.Cells in
    let cats = λ (p : Setting). categories p (C.meaning l.fn.cats p) in
    record {
      narrows : (p : Setting) → C.agrees l.cats p → C.agrees l.fn.cats p;
      stays : (p : Setting) → C.agrees l.cats p → C.meaning l.cats p ≡ C.meaning l.fn.cats p;
      read : (p : Setting) → C.agrees l.cats p → (next_token (cats p) l.state (drop l.from l.line)).read ≡ (next_token (cats p) l.state (drop l.at l.line)).read;
      state : (p : Setting) → C.agrees l.cats p → (next_token (cats p) l.state (drop l.from l.line)).state ≡ (next_token (cats p) l.state (drop l.at l.line)).state;
      rest : (p : Setting) → C.agrees l.cats p → (next_token (cats p) l.state (drop l.from l.line)).rest ≡ (next_token (cats p) l.state (drop l.at l.line)).rest;
      notes : (p : Setting) → C.agrees l.cats p → option_map (noted_codes (next_token (cats p) l.state (drop l.at l.line)).examined) (C.notes l.cats) ≡ option_map (noted_codes (next_token (cats p) l.state (drop l.from l.line)).examined) (C.notes l.fn.cats);
      made : C.made l.cats ≡ C.made l.fn.cats;
      loan : C.loan l.cats ≡ C.loan l.fn.cats;
      goes_on : l.from ≤ l.at;
      within : l.at ≤ length l.line;
    }

abbrev pub decreases-loop-at : goal.decreases-loop-at
decreases-loop-at g l = length l.line - l.at
