-- The refused names, without the escape character, each with its kind, in the order of their bytes: commands of TeX
-- (TeXbook, chapters 20 to 26) and LaTeX (LaTeX, appendix C) that are left out.
use Rattle.std.specs.Prelude.{ℕ, List, [], ◌∷◌, map, codes}
use Rattle.lb_rows.specs.declared.refusal.Refusal.{Refusal}
use Rattle.lb_rows.specs.declared.refusal.Refusal.TheVariants.{Math, Align, Package, Command}

unfoldable pub refused_rows : List (List ℕ × Refusal)
refused_rows =
    (codes "(", Math)
    ∷ (codes "RequirePackage", Package)
    ∷ (codes "[", Math)
    ∷ (codes "accent", Command)
    ∷ (codes "array", Align)
    ∷ (codes "cr", Align)
    ∷ (codes "displaymath", Math)
    ∷ (codes "ensuremath", Math)
    ∷ (codes "eqnarray", Math)
    ∷ (codes "equation", Math)
    ∷ (codes "figure", Command)
    ∷ (codes "font", Command)
    ∷ (codes "halign", Align)
    ∷ (codes "hangafter", Command)
    ∷ (codes "hangindent", Command)
    ∷ (codes "leaders", Command)
    ∷ (codes "looseness", Command)
    ∷ (codes "math", Math)
    ∷ (codes "noalign", Align)
    ∷ (codes "omit", Align)
    ∷ (codes "openin", Command)
    ∷ (codes "openout", Command)
    ∷ (codes "outer", Command)
    ∷ (codes "output", Command)
    ∷ (codes "parshape", Command)
    ∷ (codes "part", Command)
    ∷ (codes "read", Command)
    ∷ (codes "shipout", Command)
    ∷ (codes "span", Align)
    ∷ (codes "special", Command)
    ∷ (codes "tabbing", Align)
    ∷ (codes "table", Command)
    ∷ (codes "tabular", Align)
    ∷ (codes "usepackage", Package)
    ∷ (codes "valign", Align)
    ∷ (codes "verb", Command)
    ∷ (codes "verbatim", Command)
    ∷ (codes "vsplit", Command)
    ∷ (codes "write", Command)
    ∷ []

abbrev pub refused_names : List (List ℕ)
refused_names = map (λ row. row.0) refused_rows
