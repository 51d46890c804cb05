-- How the texts of an outlet follow its journal.
use Rattle.std.proofs.Common.{◌≡◌, ℕ, ◌+◌, ◌<◌, Bool, true, false, cond, ◌||◌, List, [], ◌∷◌, ◌++◌, length, get_or, Option, None, Some, refl, sym, ◌∙◌, ap, subst, zero, suc, append_assoc, append-nil, arith, length-append, nat_eq, Result, Ok, Err, OnOk, IfSome}
use Rattle.std.specs.Option.{option_map}
use Rattle.std.specs.List.{list_any, position, position_from}
use Rattle.std.proofs.Math.ListN.{set, length-set}
use Rattle.std.proofs.lemmas.List.Quantifiers.{position-Some}
use Rattle.std.proofs.lemmas.Iterator.Adapters.{position_from-zero}
use Rattle.std.specs.Cmp.Lexicographic.{nat_list_eq_equiv, same_text}
use lib.Pointwise.{pointwise}
use Rattle.lb_model.specs.Journal.{Entry, Begun, Byte, appended, after_entry, content_from, content_of, begun_from, begun_names}
use Rattle.lb_files.specs.Texts.{text_of, Keeps}

abbrev pub is : List ℕ → List ℕ → Bool
is = pointwise nat_eq

turned : (x y : List ℕ) → is x y ≡ is y x
turned = nat_list_eq_equiv.symm

itself : (x : List ℕ) → is x x ≡ true
itself = nat_list_eq_equiv.refl

along : (x y z : List ℕ) → is x y ≡ true → is x z ≡ is y z
along = nat_list_eq_equiv.congr

-- a name at an index, and none that ties with it before
record FirstAt (file : List ℕ) (names : List (List ℕ)) (i : ℕ) : Type 0 where
  within : i < length names
  here : is file (get_or names i []) ≡ true
  before : (k : ℕ) → k < i → is file (get_or names k []) ≡ false

first_at : (file : List ℕ) (names : List (List ℕ)) (i : ℕ) → position (is file) names ≡ Some i → FirstAt file names i
first_at file names i e =
    let h = position-Some (is file) names i [] e in
    record { within = h.0; here = h.1; before = h.2 }

pub found_name : (file : List ℕ) (names : List (List ℕ)) (i : ℕ) → position (is file) names ≡ Some i → (i < length names) × (get_or names i [] ≡ file)
found_name file names i e = let at = first_at file names i e in (at.within, sym (same_text file (get_or names i []) (sym at.here)))

none_at : (p : List ℕ → Bool) (i : ℕ) (names : List (List ℕ)) → position_from p i names ≡ None → list_any p names ≡ false
none_at p i [] e = refl
none_at p i (name ∷ names) e =
    elim (p name) as (λ b. cond b (Some i) (position_from p (i + 1) names) ≡ None → (b || list_any p names) ≡ false) [
      | true ↦ λ none. cc
      | false ↦ λ rest. none_at p (i + 1) names rest
    ] e

absent : (file : List ℕ) (names : List (List ℕ)) → position (is file) names ≡ None → list_any (is file) names ≡ false
absent file names e = none_at (is file) 0 names (sym (position_from-zero (is file) names) ∙ e)

present : (file : List ℕ) (names : List (List ℕ)) (i : ℕ) → i < length names → is file (get_or names i []) ≡ true → list_any (is file) names ≡ true
present file [] i h e = absurd (omega arith)
present file (name ∷ names) zero h e = ap (λ b. b || list_any (is file) names) e
present file (name ∷ names) (suc i) h e =
    let rest : list_any (is file) names ≡ true = present file names i (omega arith) e in
    elim (is file name) as (λ b. (b || list_any (is file) names) ≡ true) [ true ↦ refl | false ↦ rest ]

swapped : (a b : Bool) (x y z : Option (List ℕ)) → (a ≡ true → b ≡ true → ⊥) → cond a x (cond b y z) ≡ cond b y (cond a x z)
swapped true true x y z apart = absurd (apart refl refl)
swapped true false x y z apart = refl
swapped false true x y z apart = refl
swapped false false x y z apart = refl

-- no query ties with both of two names that do not tie
apart : (q file name : List ℕ) → is file name ≡ false → is q name ≡ true → is q file ≡ true → ⊥
apart q file name differ a b = let ties : is file name ≡ true = sym (along q file name b) ∙ a in let e : false ≡ true = sym differ ∙ ties in cc

twice : (b : Bool) (x y z : Option (List ℕ)) → cond b x (cond b y z) ≡ cond b x z
twice true x y z = refl
twice false x y z = refl

neither : (a b : Bool) → (a || b) ≡ false → (a ≡ false) × (b ≡ false)
neither true b e = let no : true ≡ false = e in cc
neither false b e = (refl, e)

text_set : (file v q : List ℕ) (names texts : List (List ℕ)) (i : ℕ) → length names ≡ length texts → i < length names → is file (get_or names i []) ≡ true → ((k : ℕ) → k < i → is file (get_or names k []) ≡ false) → text_of q names (set texts i v) ≡ cond (is q file) (Some v) (text_of q names texts)
text_set file v q [] texts i e h here before = absurd (omega arith)
text_set file v q (name ∷ names) [] i e h here before = absurd (omega arith)
text_set file v q (name ∷ names) (text ∷ texts) zero e h here before =
    let same : is q name ≡ is q file = turned q name ∙ sym (along file name q here) ∙ turned file q in
    ap (λ b. cond b (Some v) (text_of q names texts)) same
    ∙ sym (twice (is q file) (Some v) (Some text) (text_of q names texts))
    ∙ ap (λ b. cond (is q file) (Some v) (cond b (Some text) (text_of q names texts))) (sym same)
text_set file v q (name ∷ names) (text ∷ texts) (suc i) e h here before =
    ap (cond (is q name) (Some text)) (text_set file v q names texts i (omega arith) (omega arith) here (λ k b. before (suc k) (omega arith)))
    ∙ swapped (is q name) (is q file) (Some text) (Some v) (text_of q names texts) (apart q file name (before 0 (omega arith)))

text_push : (file v q : List ℕ) (names texts : List (List ℕ)) → length names ≡ length texts → list_any (is file) names ≡ false → text_of q (names ++ file ∷ []) (texts ++ v ∷ []) ≡ cond (is q file) (Some v) (text_of q names texts)
text_push file v q [] [] e none = refl
text_push file v q [] (text ∷ texts) e none = absurd (omega arith)
text_push file v q (name ∷ names) [] e none = absurd (omega arith)
text_push file v q (name ∷ names) (text ∷ texts) e none =
    let parts = neither (is file name) (list_any (is file) names) none in
    ap (cond (is q name) (Some text)) (text_push file v q names texts (omega arith) parts.1)
    ∙ swapped (is q name) (is q file) (Some text) (Some v) (text_of q names texts) (apart q file name parts.0)

text_at : (file d : List ℕ) (names texts : List (List ℕ)) (i : ℕ) → length names ≡ length texts → i < length names → is file (get_or names i []) ≡ true → ((k : ℕ) → k < i → is file (get_or names k []) ≡ false) → text_of file names texts ≡ Some (get_or texts i d)
text_at file d [] texts i e h here before = absurd (omega arith)
text_at file d (name ∷ names) [] i e h here before = absurd (omega arith)
text_at file d (name ∷ names) (text ∷ texts) zero e h here before = ap (λ b. cond b (Some text) (text_of file names texts)) here
text_at file d (name ∷ names) (text ∷ texts) (suc i) e h here before =
    ap (λ b. cond b (Some text) (text_of file names texts)) (before 0 (omega arith)) ∙ text_at file d names texts i (omega arith) (omega arith) here (λ k b. before (suc k) (omega arith))

text_none : (file : List ℕ) (names texts : List (List ℕ)) → list_any (is file) names ≡ false → text_of file names texts ≡ None
text_none file [] texts none = refl
text_none file (name ∷ names) [] none = refl
text_none file (name ∷ names) (text ∷ texts) none =
    let parts = neither (is file name) (list_any (is file) names) none in
    ap (λ b. cond b (Some text) (text_of file names texts)) parts.0 ∙ text_none file names texts parts.1

-- what a journal's entries say, an entry more or a list of bytes more
content_more : (q : List ℕ) (old : Option (List ℕ)) (xs ys : List Entry) → content_from q old (xs ++ ys) ≡ content_from q (content_from q old xs) ys
content_more q old [] ys = refl
content_more q old (x ∷ xs) ys = content_more q (after_entry q x old) xs ys

begun_more : (seen : List (List ℕ)) (xs ys : List Entry) → begun_from seen (xs ++ ys) ≡ begun_from (begun_from seen xs) ys
begun_more seen [] ys = refl
begun_more seen (Begun file ∷ xs) ys = begun_more (cond (list_any (is file) seen) seen (seen ++ file ∷ [])) xs ys
begun_more seen (Byte file b ∷ xs) ys = begun_more seen xs ys

begun_same : (seen : List (List ℕ)) (file bytes : List ℕ) → begun_from seen (appended file bytes) ≡ seen
begun_same seen file [] = refl
begun_same seen file (b ∷ bytes) = begun_same seen file bytes

content_other : (q file : List ℕ) (old : Option (List ℕ)) (bytes : List ℕ) → is file q ≡ false → content_from q old (appended file bytes) ≡ old
content_other q file old [] differ = refl
content_other q file old (b ∷ bytes) differ =
    ap (λ t. content_from q (cond t (option_map (λ text. text ++ b ∷ []) old) old) (appended file bytes)) differ ∙ content_other q file old bytes differ

content_none : (q file : List ℕ) (bytes : List ℕ) → content_from q None (appended file bytes) ≡ None
content_none q file [] = refl
content_none q file (b ∷ bytes) =
    elim (is file q) as (λ t. content_from q (cond t None None) (appended file bytes) ≡ None) [ true ↦ content_none q file bytes | false ↦ content_none q file bytes ]

content_put : (q file text bytes : List ℕ) → is file q ≡ true → content_from q (Some text) (appended file bytes) ≡ Some (text ++ bytes)
content_put q file text [] ties = ap Some (sym (append-nil text))
content_put q file text (b ∷ bytes) ties =
    ap (λ t. content_from q (cond t (Some (text ++ b ∷ [])) (Some text)) (appended file bytes)) ties
    ∙ content_put q file (text ++ b ∷ []) bytes ties ∙ ap Some (append_assoc text (b ∷ []) bytes)

pub keeps_nothing : Keeps [] [] []
keeps_nothing = record { as_many = refl; names_are = refl; texts_are = λ q. refl }

begun_at_end : (q : List ℕ) (journal : List Entry) (file : List ℕ) → content_of q (journal ++ Begun file ∷ []) ≡ cond (is q file) (Some []) (content_of q journal)
begun_at_end q journal file = content_more q None journal (Begun file ∷ []) ∙ ap (λ t. cond t (Some []) (content_of q journal)) (turned file q)

pub begin_new : (journal : List Entry) (names texts : List (List ℕ)) (file : List ℕ) → position (is file) names ≡ None → Keeps journal names texts → Keeps (journal ++ Begun file ∷ []) (names ++ file ∷ []) (texts ++ [] ∷ [])
begin_new journal names texts file e k =
    let none = absent file names e in
    record {
      as_many = length-append names (file ∷ []) ∙ ap (λ n. n + 1) k.as_many ∙ sym (length-append texts ([] ∷ []));
      names_are = ap (λ l. l ++ file ∷ []) k.names_are
          ∙ sym (begun_more [] journal (Begun file ∷ []) ∙ ap (λ t. cond t (begun_names journal) (begun_names journal ++ file ∷ [])) (ap (list_any (is file)) (sym k.names_are) ∙ none));
      texts_are = λ q. text_push file [] q names texts k.as_many none ∙ ap (cond (is q file) (Some [])) (k.texts_are q) ∙ sym (begun_at_end q journal file);
    }

pub begin_again : (journal : List Entry) (names texts : List (List ℕ)) (file : List ℕ) (i : ℕ) → position (is file) names ≡ Some i → Keeps journal names texts → Keeps (journal ++ Begun file ∷ []) names (set texts i [])
begin_again journal names texts file i e k =
    let at = first_at file names i e in
    record {
      as_many = k.as_many ∙ sym (length-set texts i []);
      names_are = k.names_are
          ∙ sym (begun_more [] journal (Begun file ∷ []) ∙ ap (λ t. cond t (begun_names journal) (begun_names journal ++ file ∷ [])) (ap (list_any (is file)) (sym k.names_are) ∙ present file names i at.within at.here));
      texts_are = λ q. text_set file [] q names texts i k.as_many at.within at.here at.before ∙ ap (cond (is q file) (Some [])) (k.texts_are q) ∙ sym (begun_at_end q journal file);
    }

names_put : (journal : List Entry) (names : List (List ℕ)) (file bytes : List ℕ) → names ≡ begun_names journal → names ≡ begun_names (journal ++ appended file bytes)
names_put journal names file bytes e = e ∙ sym (begun_more [] journal (appended file bytes) ∙ begun_same (begun_names journal) file bytes)

unchanged_at : (q file bytes : List ℕ) (journal : List Entry) (b : Bool) → is file q ≡ b → (b ≡ true → content_of q journal ≡ None) → content_of q journal ≡ content_of q (journal ++ appended file bytes)
unchanged_at q file bytes journal true e h =
    h refl ∙ sym (content_more q None journal (appended file bytes) ∙ ap (λ o. content_from q o (appended file bytes)) (h refl) ∙ content_none q file bytes)
unchanged_at q file bytes journal false e h =
    sym (content_more q None journal (appended file bytes) ∙ content_other q file (content_of q journal) bytes e)

unchanged : (q : List ℕ) (journal : List Entry) (names texts : List (List ℕ)) (file bytes : List ℕ) → text_of file names texts ≡ None → text_of q names texts ≡ content_of q journal → text_of q names texts ≡ content_of q (journal ++ appended file bytes)
unchanged q journal names texts file bytes none is_text =
    is_text ∙ unchanged_at q file bytes journal (is file q) refl (λ t. sym is_text ∙ ap (λ n. text_of n names texts) (sym (same_text file q (sym t))) ∙ none)

pub put_nowhere : (journal : List Entry) (names texts : List (List ℕ)) (file bytes : List ℕ) → position (is file) names ≡ None → Keeps journal names texts → Keeps (journal ++ appended file bytes) names texts
put_nowhere journal names texts file bytes e k = record {
  as_many = k.as_many;
  names_are = names_put journal names file bytes k.names_are;
  texts_are = λ q. unchanged q journal names texts file bytes (text_none file names texts (absent file names e)) (k.texts_are q);
}

text_put : (q file bytes text : List ℕ) (journal : List Entry) (b : Bool) → is q file ≡ b → (b ≡ true → content_of q journal ≡ Some text) → cond b (Some (text ++ bytes)) (content_of q journal) ≡ content_of q (journal ++ appended file bytes)
text_put q file bytes text journal true e h =
    sym (content_more q None journal (appended file bytes) ∙ ap (λ o. content_from q o (appended file bytes)) (h refl) ∙ content_put q file text bytes (turned file q ∙ e))
text_put q file bytes text journal false e h =
    sym (content_more q None journal (appended file bytes) ∙ content_other q file (content_of q journal) bytes (turned file q ∙ e))

pub put_behind_text : (journal : List Entry) (names texts : List (List ℕ)) (file bytes d : List ℕ) (i : ℕ) → position (is file) names ≡ Some i → Keeps journal names texts → Keeps (journal ++ appended file bytes) names (set texts i (get_or texts i d ++ bytes))
put_behind_text journal names texts file bytes d i e k =
    let at = first_at file names i e in
    let text = get_or texts i d in
    record {
      as_many = k.as_many ∙ sym (length-set texts i (text ++ bytes));
      names_are = names_put journal names file bytes k.names_are;
      texts_are = λ q. text_set file (text ++ bytes) q names texts i k.as_many at.within at.here at.before
          ∙ ap (cond (is q file) (Some (text ++ bytes))) (k.texts_are q)
          ∙ text_put q file bytes text journal (is q file) refl (λ t. sym (k.texts_are q) ∙ ap (λ n. text_of n names texts) (same_text q file (sym t)) ∙ text_at file d names texts i k.as_many at.within at.here at.before);
    }

pub read_text : (journal : List Entry) (names texts : List (List ℕ)) (file d : List ℕ) (i : ℕ) → position (is file) names ≡ Some i → Keeps journal names texts → Some (get_or texts i d) ≡ content_of file journal
read_text journal names texts file d i e k =
    let at = first_at file names i e in
    sym (text_at file d names texts i k.as_many at.within at.here at.before) ∙ k.texts_are file

pub read_none : (journal : List Entry) (names texts : List (List ℕ)) (file : List ℕ) → position (is file) names ≡ None → Keeps journal names texts → None ≡ content_of file journal
read_none journal names texts file e k = sym (text_none file names texts (absent file names e)) ∙ k.texts_are file

-- what a call keeps where it is known what it made
pub kept_if_ok : {T E : Type 0} (r : Result T E) (journal_more : List Entry → List Entry) (names texts names' texts' new_names new_texts : List (List ℕ)) → OnOk r (new_names ≡ names') → OnOk r (new_texts ≡ texts') → ((journal : List Entry) → Keeps journal names texts → Keeps (journal_more journal) names' texts') → OnOk r ((journal : List Entry) → Keeps journal names texts → Keeps (journal_more journal) new_names new_texts)
kept_if_ok (Ok x) more names texts names' texts' new_names new_texts n t keeps = λ journal k.
    let Names : List (List ℕ) → Type 0 = λ l. Keeps (more journal) l new_texts in
    let Texts : List (List ℕ) → Type 0 = λ l. Keeps (more journal) names' l in
    subst Names (sym n) (subst Texts (sym t) (keeps journal k))
kept_if_ok (Err e) more names texts names' texts' new_names new_texts n t keeps = tt

-- what holds of a journal holds where that journal is told
pub where_told : (told : Option (List Entry)) (journal : List Entry) (P : List Entry → Type 0) → told ≡ Some journal → P journal → IfSome told P
where_told told journal P e h =
    let Q : Option (List Entry) → Type 0 = λ o. IfSome o P in
    subst Q (sym e) h
