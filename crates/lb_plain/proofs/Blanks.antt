-- Blanks at the front of a line.
use Rattle.std.proofs.Common.{◌≡◌, ℕ, ◌+◌, ◌<◌, true, false, List, [], length, drop, get_or, refl, add-one, drop-cons}
use Rattle.lb_model_book.specs.OwnLines.{after_blanks, is_blank}

pub blank-more : (line : List ℕ) (n : ℕ) → n < length line → is_blank (get_or line n 0) ≡ true → after_blanks (drop n line) ≡ after_blanks (drop (n + 1) line)
unfolding after_blanks
blank-more line n inside h = rw (add-one, drop-cons line n 0 inside, h) refl

pub blank-end : (line : List ℕ) (n : ℕ) → n < length line → is_blank (get_or line n 0) ≡ false → after_blanks (drop n line) ≡ drop n line
unfolding after_blanks
blank-end line n inside h = rw (drop-cons line n 0 inside, h) refl

pub blank-none : after_blanks [] ≡ []
unfolding after_blanks
blank-none = refl
