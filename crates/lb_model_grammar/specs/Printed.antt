-- What rows print: numbers in their forms, dimensions and glue (TeXbook, chapter 20; tex.web, sections 65, 69, 103 and 177 to 178; source2e,
-- file ltcounts).
use Rattle.std.specs.Prelude.{◌+◌, ◌-◌, ◌++◌, ◌/◌, ◌%◌, ◌==◌, Bool, false, ℕ, zero, suc, ℤ, pos, negsuc, nat_eq, nat_le, nat_lt, List, [], ◌∷◌, map, codes, Option, Some, None, if◌then◌else◌}
use Rattle.std.specs.Fmt.{signed_decimal}
use Rattle.lb_base.specs.Decimals.{scaled_text}
use Rattle.lb_base.specs.declared.glue.Glue.{Glue}
use Rattle.lb_base.specs.declared.glue.Order.{Order}
use Rattle.lb_base.specs.declared.glue.Order.TheVariants.{Finite, Fil, Fill, Filll}
use Rattle.lb_base.specs.declared.token.Category.TheVariants as category
use Rattle.lb_base.specs.declared.token.Tok.{Tok}
use Rattle.lb_base.specs.declared.token.Tok.TheVariants.{Char, Word, Active, Param}
use Rattle.lb_model_grammar.specs.declared.given.Quantity.{Quantity}
use Rattle.lb_model_grammar.specs.declared.given.Quantity.TheVariants.{NotOne, Number, Dimen, Skip}

-- ---- Characters

-- a printed character is of category 12, but a space is a space
abbrev pub printed_as : ℕ → Tok
printed_as c = if c == 32 then Char category.Space 32 else Char category.Other c

abbrev pub printed : List ℕ → List Tok
printed text = map printed_as text

-- the characters of a token, with an escape before a control sequence
abbrev pub characters_of : Tok → List ℕ
characters_of (Char cat c) = c ∷ []
characters_of (Word name) = 92 ∷ name
characters_of (Active c) = c ∷ []
characters_of (Param n) = 35 ∷ (48 + n) ∷ []

-- ---- Forms of numbers

abbrev pub copies : ℕ → List ℕ → List ℕ
copies zero text = []
copies (suc n) text = text ++ copies n text

-- the letters of Roman numerals, the greatest first
abbrev pub numerals : List (ℕ × List ℕ)
numerals =
    (1000, codes "m") ∷ (900, codes "cm") ∷ (500, codes "d") ∷ (400, codes "cd") ∷ (100, codes "c") ∷ (90, codes "xc") ∷ (50, codes "l")
    ∷ (40, codes "xl") ∷ (10, codes "x") ∷ (9, codes "ix") ∷ (5, codes "v") ∷ (4, codes "iv") ∷ (1, codes "i") ∷ []

-- each as often as it goes into what is left
abbrev pub roman_by : List (ℕ × List ℕ) → ℕ → List ℕ
roman_by [] n = []
roman_by (r ∷ rows) n = copies (n / r.0) r.1 ++ roman_by rows (n % r.0)

abbrev pub roman : ℕ → List ℕ
roman n = roman_by numerals n

abbrev pub raised : ℕ → ℕ
raised c = c - 32

-- a number in Roman numerals, nothing below 1, and None over 100000
abbrev pub roman_form : (ℕ → ℕ) → ℤ → Option (List ℕ)
roman_form letter (pos n) = if nat_le n 100000 then Some (map letter (roman n)) else None
roman_form letter (negsuc n) = Some []

-- a number as a letter, nothing for 0, and None below it and over 26
abbrev pub alph_form : ℕ → ℤ → Option (List ℕ)
alph_form before (pos zero) = Some []
alph_form before (pos (suc n)) = if nat_lt n 26 then Some ((before + suc n) ∷ []) else None
alph_form before (negsuc n) = None

-- ---- Quantities

abbrev pub is_zero : ℤ → Bool
is_zero (pos n) = nat_eq n 0
is_zero (negsuc n) = false

abbrev pub unit_text : Order → List ℕ
unit_text Finite = codes "pt"
unit_text Fil = codes "fil"
unit_text Fill = codes "fill"
unit_text Filll = codes "filll"

-- what glue stretches or shrinks by, where that is not 0
abbrev pub part_text : List ℕ → ℤ → Order → List ℕ
part_text word n order = if is_zero n then [] else word ++ scaled_text n ++ unit_text order

abbrev pub glue_text : Glue → List ℕ
glue_text g = scaled_text g.width ++ codes "pt" ++ part_text (codes " plus ") g.stretch g.stretch_order ++ part_text (codes " minus ") g.shrink g.shrink_order

-- what `\the` prints of a quantity, None where there is none
abbrev pub quantity_text : Quantity → Option (List ℕ)
quantity_text (Number n) = Some (signed_decimal n)
quantity_text (Dimen n) = Some (scaled_text n ++ codes "pt")
quantity_text (Skip g) = Some (glue_text g)
quantity_text NotOne = None
