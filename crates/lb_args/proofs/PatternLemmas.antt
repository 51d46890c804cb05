-- Where the parameters of a pattern stand, and arguments behind those that are there.
use Rattle.std.proofs.Common.{◌≡◌, ◌∙◌, ◌++◌, Bool, ℕ, List, [], ◌∷◌, refl, ap, sym, take, drop}
use Rattle.std.specs.Prelude.{Option}
use Rattle.std.specs.Option.{option_map}
use Rattle.std.proofs.lemmas.List.{append_assoc}
use Rattle.lb_base.specs.declared.token.Tok.{Tok}
use Rattle.lb_base.specs.declared.token.Tok.TheVariants.{Char, Word, Active, Param}
use Rattle.lb_values.specs.declared.cell.Cell.{Cell}
use Rattle.lb_values.specs.declared.meaning.Pattern.{Pattern}
use Rattle.lb_model.specs.declared.feed.Feed.{Ghosts}
use Rattle.lb_model.specs.Arguments.{arguments, arguments_as, each_argument, looks_arguments, looks_arguments_as, looks_each, looks_plain_arguments, plain_arguments}
use Rattle.lb_model.specs.Configs.{Config, in_file, looks_in_file}
use Rattle.lb_model.specs.Settings.{noted_all}
use Rattle.lb_model.specs.Readings.{Outcome, Took, looks_taken, next_as, noting, taken, then_taken, whole}
use Rattle.lb_model.specs.Readings.Outcome.{Whole, Failed}
use Rattle.lb_model_grammar.specs.Arguments.{argument, front, parts_of}
use Rattle.lb_args.specs.Further.{AtParameter, further}
use Rattle.lb_args.proofs.ReadingLemmas.{Owed, looks_both, owed-as, took_both}

-- ---- Parameters

-- a parameter and what stands before the next one
pub parts-of-parameter : (rest : List Tok) (t : Tok) (behind delimiter next : List Tok) (count : ℕ) → rest ≡ t ∷ behind → AtParameter rest → parts_of behind ≡ (take count behind, (parts_of (drop count behind)).1)
    → delimiter ≡ take count behind → next ≡ drop count behind → (parts_of rest).1 ≡ delimiter ∷ (parts_of next).1
parts-of-parameter [] t behind delimiter next count e h parts f n = absurd (cc)
parts-of-parameter (Param k ∷ r) t behind delimiter next count e h parts f n =
    let same : r ≡ behind = cc in
    ap (λ l. (parts_of l).0 ∷ (parts_of l).1) same
    ∙ ap (λ (q : List Tok × List (List Tok)). q.0 ∷ q.1) parts
    ∙ ap (λ l. l ∷ (parts_of (drop count behind)).1) (sym f)
    ∙ ap (λ l. delimiter ∷ (parts_of l).1) (sym n)
parts-of-parameter (Char category code ∷ r) t behind delimiter next count e h parts f n = elim h [ ]
parts-of-parameter (Word name ∷ r) t behind delimiter next count e h parts f n = elim h [ ]
parts-of-parameter (Active code ∷ r) t behind delimiter next count e h parts f n = elim h [ ]

-- ---- Arguments behind others

next-next : {X Y Z : Type 0} (o : Outcome X) (c : Config) (f : X → Config → Took Y) (g : Y → Config → Took Z) → then_taken (next_as o c f) g ≡ next_as o c (λ x d. then_taken (f x d) g)
next-next (Whole x) c f g = refl
next-next (Failed k) c f g = refl

further-one : (so_far : List (List Tok)) (x : List Tok) (o : Outcome (List (List Tok))) (c : Config)
    → then_taken (next_as o c (λ xs e. whole (x ∷ xs) e)) (λ xs e. whole (so_far ++ xs) e) ≡ next_as o c (λ xs e. whole ((so_far ++ x ∷ []) ++ xs) e)
further-one so_far x (Whole xs) c = ap (λ l. whole l c) (sym (append_assoc so_far (x ∷ []) xs))
further-one so_far x (Failed k) c = refl

pub further-each : (so_far : List (List Tok)) (long : Bool) (delimiter : List Tok) (delimiters : List (List Tok)) (c : Config)
    → further so_far (each_argument long (delimiter ∷ delimiters)) c ≡ took_both (taken in_file (argument long delimiter)) (λ x. further (so_far ++ x ∷ []) (each_argument long delimiters)) c
further-each so_far long delimiter delimiters c =
    let t = taken in_file (argument long delimiter) c in
    next-next t.outcome t.next (λ x d. then_taken (each_argument long delimiters d) (λ xs e. whole (x ∷ xs) e)) (λ xs e. whole (so_far ++ xs) e)
    ∙ (λ i. next_as t.outcome t.next (λ x d. further-one so_far x (each_argument long delimiters d).outcome (each_argument long delimiters d).next i))

pub further-plain : (so_far : List (List Tok)) (pattern : Pattern) (c : Config)
    → further so_far (plain_arguments pattern) c ≡ took_both (taken in_file (front (parts_of pattern.tokens).0)) (λ x. further so_far (each_argument pattern.long (parts_of pattern.tokens).1)) c
further-plain so_far pattern c =
    let t = taken in_file (front (parts_of pattern.tokens).0) c in
    next-next t.outcome t.next (λ x d. each_argument pattern.long (parts_of pattern.tokens).1 d) (λ xs e. whole (so_far ++ xs) e)

-- the arguments of a macro, by whether it has an optional one
pub owed-arguments : {S : Type 0} (F : Ghosts S) (pattern : Pattern) (first : Option (List Tok)) (s : S) → pattern.first ≡ first
    → Owed F (arguments_as first pattern) (looks_arguments_as first pattern) (arguments pattern) (looks_arguments pattern) s s
owed-arguments F pattern first s e =
    record {
      narrows = λ p h. h;
      rest = λ p h. ap (λ f. noting (arguments_as f pattern) (looks_arguments_as f pattern) (F.configuration s p) (F.notes s)) e;
      stands = λ p h before. before;
      origin = refl;
    }

-- what is owed of a parameter and those behind it is its argument, and theirs behind it
pub owed-each : {S : Type 0} (F : Ghosts S) (so_far : List (List Tok)) (long : Bool) (rest delimiter next : List Tok) {start : Config → Took (List (List Tok))} {start_looks : Config → List Cell} (now old : S)
    → (parts_of rest).1 ≡ delimiter ∷ (parts_of next).1
    → Owed F (further so_far (each_argument long (parts_of rest).1)) (looks_each long (parts_of rest).1) start start_looks now old
    → Owed F (took_both (taken in_file (argument long delimiter)) (λ x. further (so_far ++ x ∷ []) (each_argument long (parts_of next).1)))
    (looks_both (taken in_file (argument long delimiter)) (looks_taken in_file looks_in_file (argument long delimiter)) (λ x. looks_each long (parts_of next).1)) start start_looks now old
owed-each F so_far long rest delimiter next now old parts o =
    let delimiters = (parts_of next).1 in
    record {
      narrows = o.narrows;
      rest =
          λ p h.
          let c = F.configuration now p in
          o.rest p h
          ∙ ap (λ ds. noting (further so_far (each_argument long ds)) (looks_each long ds) c (F.notes now)) parts
          ∙ ap (λ t. record { took = t; notes = option_map (noted_all (looks_each long (delimiter ∷ delimiters) c)) (F.notes now) }) (further-each so_far long delimiter delimiters c);
      stands = o.stands;
      origin = o.origin;
    }

-- more arguments are there
pub owed-added : {S : Type 0} (F : Ghosts S) (xs ys : List (List Tok)) (took : Config → Took (List (List Tok))) (looks : Config → List Cell) {start : Config → Took (List (List Tok))} {start_looks : Config → List Cell} (now old : S)
    → xs ≡ ys → Owed F (further xs took) looks start start_looks now old → Owed F (further ys took) looks start start_looks now old
owed-added F xs ys took looks now old e o = owed-as F (further xs took) (further ys took) looks now old (λ c. ap (λ l. further l took c) e) o

-- what is owed of a pattern without its optional argument is what stands before the first parameter, and the arguments behind that
pub owed-plain : {S : Type 0} (F : Ghosts S) (so_far : List (List Tok)) (pattern : Pattern) (before parameters : List Tok) (s : S)
    → (parts_of pattern.tokens).0 ≡ before → (parts_of pattern.tokens).1 ≡ (parts_of parameters).1
    → Owed F (took_both (taken in_file (front before)) (λ x. further so_far (each_argument pattern.long (parts_of parameters).1)))
    (looks_both (taken in_file (front before)) (looks_taken in_file looks_in_file (front before)) (λ x. looks_each pattern.long (parts_of parameters).1)) (further so_far (plain_arguments pattern))
    (looks_plain_arguments pattern) s s
owed-plain F so_far pattern before parameters s e f =
    record {
      narrows = λ p h. h;
      rest =
          λ p h.
          let c = F.configuration s p in
          ap (λ t. record { took = t; notes = option_map (noted_all (looks_plain_arguments pattern c)) (F.notes s) }) (further-plain so_far pattern c)
          ∙ (
          λ i. noting (took_both (taken in_file (front (e i))) (λ x. further so_far (each_argument pattern.long (f i))))
          (looks_both (taken in_file (front (e i))) (looks_taken in_file looks_in_file (front (e i))) (λ x. looks_each pattern.long (f i))) c (F.notes s)
          );
      stands = λ p h before. before;
      origin = refl;
    }
