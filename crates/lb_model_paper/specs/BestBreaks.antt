-- The best of all lists of breaks of a paragraph (The TeXbook, chapter 14; tex.web, part 38). A paragraph is given here by what each
-- of its lines adds. All its lists of breaks are compared; how the best one is found is another matter.
use Rattle.std.specs.Prelude.{◌≡◌, ℕ, zero, suc, ◌+◌, ◌-◌, ◌<◌, ◌⊎◌, ◌||◌, ◌&&◌, ◌++◌, min, length, List, [], ◌∷◌, map, filter, reverse, Bool, true, false, cond, if◌then◌else◌, nat_lt, nat_eq, int_lt, int_le, Option, Some, None, is_some, option_map, MatchOption, ℤ, pos, ◌+ℤ◌, ◌<ℤ◌}
use Rattle.std.specs.Option.{option_or}
use Rattle.lb_model_paper.specs.declared.paragraph.BreakEnd.{BreakEnd}
use Rattle.lb_model_paper.specs.declared.paragraph.BreakList.{BreakList}
use Rattle.lb_model_paper.specs.declared.paragraph.Fitness.{Fitness}
use Rattle.lb_model_paper.specs.declared.paragraph.Fitness.TheVariants.{VeryLoose, Loose, Decent, Tight}
use Rattle.lb_model_paper.specs.declared.paragraph.Judged.{Judged}
use Rattle.lb_model_paper.specs.declared.paragraph.Passes.{Passes}
use Rattle.lb_model_paper.specs.declared.paragraph.Passes.TheVariants.{First, Second, Both}

-- ---- a paragraph

-- Its breaks are numbered from 1; break 0 is its start, and the last one its end. A line is given by its class of widths and by the
-- breaks before and behind it. The first lines may each have a class of their own, from 0 on, and all further lines have the last class.
pub record Paragraph : Type 0 where
  pub count : ℕ
  pub first : ℕ
  -- what a line adds after one whose fitness is not next to its own
  pub adjacent : ℤ
  -- what a line adds, None where it may not be chosen, where no break within it bars it
  pub line : ℕ → ℕ → ℕ → Option Judged
  -- whether the break behind a line bars all longer lines from the same break
  pub stops : ℕ → ℕ → ℕ → Bool

-- whether a break between i and j bars the lines from i to j
abbrev pub is_stopped : Paragraph → ℕ → ℕ → ℕ → Bool
is_stopped p k i zero = false
is_stopped p k i (suc b) = is_stopped p k i b || (nat_lt i b && p.stops k i b)

-- what a line adds, None where it may not be chosen
unfoldable pub judge_of : Paragraph → ℕ → ℕ → ℕ → Option Judged
judge_of p k i j = cond (is_stopped p k i j) None (p.line k i j)

abbrev pub place_of_fitness : Fitness → ℕ
place_of_fitness VeryLoose = 0
place_of_fitness Loose = 1
place_of_fitness Decent = 2
place_of_fitness Tight = 3

-- what a line of one fitness adds after one of another
abbrev pub extra_of : Paragraph → Fitness → Fitness → ℤ
extra_of p last next =
    cond (nat_lt (place_of_fitness last + 1) (place_of_fitness next) || nat_lt (place_of_fitness next + 1) (place_of_fitness last)) p.adjacent (pos 0)

-- ---- a list of breaks, which is written from its last break back. The empty list is that of the paragraph's start.

abbrev pub last_of : List ℕ → ℕ
last_of [] = 0
last_of (j ∷ _) = j

-- the class of widths of the next line
abbrev pub line_of : Paragraph → List ℕ → ℕ
line_of p x = min (length x) p.first

-- what the last line of a list adds
abbrev pub last_line : Paragraph → ℕ → List ℕ → Option Judged
last_line p j rest = judge_of p (line_of p rest) (last_of rest) j

abbrev pub fitness_in : Option Judged → Fitness
fitness_in None = Decent
fitness_in (Some line) = line.fitness

abbrev pub demerits_in : Option Judged → ℤ
demerits_in None = pos 0
demerits_in (Some line) = line.demerits

abbrev pub is_bad_in : Option Judged → Bool
is_bad_in None = false
is_bad_in (Some line) = line.is_bad

abbrev pub bad_in : Option Judged → ℕ
bad_in None = 0
bad_in (Some line) = cond line.is_bad 1 0

abbrev pub IsAdmitted : Option Judged → Type 0
IsAdmitted None = ⊥
IsAdmitted (Some _) = Unit {0}

-- the fitness of the last line; the start is decent
abbrev pub fitness_of : Paragraph → List ℕ → Fitness
fitness_of p [] = Decent
fitness_of p (j ∷ rest) = fitness_in (judge_of p (line_of p rest) (last_of rest) j)

-- the number of bad lines
abbrev pub bad_of : Paragraph → List ℕ → ℕ
bad_of p [] = 0
bad_of p (j ∷ rest) = bad_in (judge_of p (line_of p rest) (last_of rest) j) + bad_of p rest

-- the sum of all demerits
abbrev pub demerits_of : Paragraph → List ℕ → ℤ
demerits_of p [] = pos 0
demerits_of p (j ∷ rest) =
    (demerits_in (judge_of p (line_of p rest) (last_of rest) j) +ℤ extra_of p (fitness_of p rest) (fitness_of p (j ∷ rest))) +ℤ demerits_of p rest

-- all lines of a list may be chosen
abbrev pub Admitted : Paragraph → List ℕ → Type 0
Admitted p [] = Unit {0}
Admitted p (j ∷ rest) = (last_of rest < j) × IsAdmitted (judge_of p (line_of p rest) (last_of rest) j) × Admitted p rest

-- ---- which list is better

-- m is below n, or they are equal and then the rest decides
abbrev pub Below : ℕ → ℕ → Type 0 → Type 0
Below m n R = (m < n) ⊎ ((m ≡ n) × R)

abbrev pub BelowInt : ℤ → ℤ → Type 0 → Type 0
BelowInt m n R = (m <ℤ n) ⊎ ((m ≡ n) × R)

-- the earlier last break, and so on going back; the start is the earliest
abbrev pub IsEarlier : List ℕ → List ℕ → Type 0
IsEarlier [] _ = Unit {0}
IsEarlier (_ ∷ _) [] = ⊥
IsEarlier (i ∷ xs) (j ∷ ys) = Below i j (IsEarlier xs ys)

-- fewer bad lines, then fewer demerits, then earlier
abbrev pub IsAsGood : Paragraph → List ℕ → List ℕ → Type 0
IsAsGood p x y = Below (bad_of p x) (bad_of p y) (BelowInt (demerits_of p x) (demerits_of p y) (IsEarlier x y))

-- the best of all lists to the last break
pub record IsBest (p : Paragraph) (x : List ℕ) : Type 0 where
  pub admitted : Admitted p x
  pub ends : last_of x ≡ p.count
  pub least : (y : List ℕ) → Admitted p y → last_of y ≡ p.count → IsAsGood p x y

-- ---- the best list as a function

-- all lists of some of the breaks 1 to n
abbrev pub lists_to : ℕ → List (List ℕ)
lists_to zero = [] ∷ []
lists_to (suc n) = lists_to n ++ map (λ x. suc n ∷ x) (lists_to n)

-- `Admitted` as a test
abbrev pub admits : Paragraph → List ℕ → Bool
admits p [] = true
admits p (j ∷ rest) = nat_lt (last_of rest) j && (is_some (judge_of p (line_of p rest) (last_of rest) j) && admits p rest)

-- the admitted lists to the last break
abbrev pub all_of : Paragraph → List (List ℕ)
all_of p = filter (λ x. admits p x && nat_eq (last_of x) p.count) (lists_to p.count)

-- the order as a test
abbrev pub is_earlier : List ℕ → List ℕ → Bool
is_earlier [] _ = true
is_earlier (_ ∷ _) [] = false
is_earlier (i ∷ xs) (j ∷ ys) = nat_lt i j || (nat_eq i j && is_earlier xs ys)

abbrev pub is_as_good : Paragraph → List ℕ → List ℕ → Bool
is_as_good p x y =
    nat_lt (bad_of p x) (bad_of p y)
    || (nat_eq (bad_of p x) (bad_of p y) && (int_lt (demerits_of p x) (demerits_of p y) || (int_le (demerits_of p x) (demerits_of p y) && is_earlier x y)))

abbrev pub better_of : Paragraph → List ℕ → Option (List ℕ) → List ℕ
better_of p x None = x
better_of p x (Some y) = cond (is_as_good p x y) x y

abbrev pub least_of : Paragraph → List (List ℕ) → Option (List ℕ)
least_of p [] = None
least_of p (x ∷ xs) = Some (better_of p x (least_of p xs))

-- the best list of breaks, None where no list is admitted
unfoldable pub best_of : Paragraph → Option (List ℕ)
best_of p = least_of p (all_of p)

-- the best is the best, and None says that no list is admitted
abbrev pub IsBestOf : Paragraph → Option (List ℕ) → Type 0
IsBestOf p best = MatchOption best ((y : List ℕ) → Admitted p y → last_of y ≡ p.count → ⊥) (IsBest p)

-- ---- the passes

-- the ends of the lines of a list, from the last one back; break j is behind item j − 1
abbrev pub ends_of : Paragraph → List ℕ → List BreakEnd
ends_of p [] = []
ends_of p (j ∷ rest) = record { item = j - 1; is_bad = is_bad_in (judge_of p (line_of p rest) (last_of rest) j) } ∷ ends_of p rest

-- what a pass finds, None where no list is admitted
unfoldable pub found_in : ℕ → Paragraph → Option BreakList
found_in pass p = option_map (λ x. record { pass = pass; ends = reverse (ends_of p x) }) (best_of p)

-- the first pass, which is taken where its tolerance is not below 0
unfoldable pub first_found : ℤ → Paragraph → Option BreakList
first_found pretolerance p = if int_le (pos 0) pretolerance then found_in 1 p else None

abbrev pub breaks_or_none : Option BreakList → BreakList
breaks_or_none None = record { pass = 0; ends = [] }
breaks_or_none (Some breaks) = breaks

-- what the passes that are taken find
abbrev pub found_by : Passes → Option BreakList → Option BreakList → Option BreakList
found_by First first second = first
found_by Second first second = second
found_by Both first second = option_or first second

unfoldable pub passes_of : Passes → ℤ → Paragraph → Paragraph → BreakList
passes_of passes pretolerance first second = breaks_or_none (found_by passes (first_found pretolerance first) (found_in 2 second))
