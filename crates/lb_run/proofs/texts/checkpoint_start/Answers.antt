use Rattle.std.proofs.Common.{◌≡◌, List, [], ◌∷◌, ◌++◌, ◌∙◌, ap, append_assoc, ℕ}
use Rattle.std.specs.Prelude.{codes, decimal}
use Rattle.lb_run.specs.Checkpoints.{checkpoint_front}
use Rattle.lb_run.proofs.texts.checkpoint_start.Goals as goal

joined : (a ch c lf d p dec e : List ℕ)
    → ((((a ++ ch) ++ (c ++ (lf ++ (d ++ (p ++ c))))) ++ dec) ++ (e ++ lf)) ≡ ((a ++ ch ++ c) ++ lf) ++ ((d ++ p ++ c ++ dec ++ e) ++ lf)
joined a ch c lf d p dec e = simp append_assoc

front : (chapter dec text0 text1 text2 text3 text4 slice bytes : List ℕ) (page : ℕ)
    → text0 ≡ codes "\\@setckpt{" → slice ≡ chapter → text1 ≡ text0 ++ slice → text2 ≡ text1 ++ codes "}{\n\\setcounter{page}{"
    → bytes ≡ decimal page → text3 ≡ text2 ++ bytes → text4 ≡ text3 ++ codes "}\n"
    → text4 ≡ checkpoint_front chapter page
front chapter dec text0 text1 text2 text3 text4 slice bytes page e0 s e1 e2 d e3 e4 =
    e4 ∙ ap (λ (l : List ℕ). l ++ codes "}\n") (e3 ∙ (λ i. (e2 ∙ ap (λ (l : List ℕ). l ++ codes "}{\n\\setcounter{page}{") (e1 ∙ (λ j. e0 j ++ s j))) i ++ d i))
    ∙ joined (codes "\\@setckpt{") chapter (codes "}{") (10 ∷ []) (codes "\\setcounter{") (codes "page") (decimal page) (codes "}")

pub returns : goal.returns
returns c =
    front c.args.chapter.now [] c.in_ok-text.text c.extend_from_slice.new.self c.extend_from_slice-2.new.self c.extend_from_slice-3.new.self c.extend_from_slice-4.new.self c.as_slice.result.now c.as_bytes.result.now c.args.page
    c.in_ok-text.ensures c.as_slice.ensures c.in_ok-extend_from_slice.ensures.ok c.in_ok-extend_from_slice-2.ensures.ok
    (c.as_bytes.ensures.value ∙ c.in_ok-to_string.ensures.ok) c.in_ok-extend_from_slice-3.ensures.ok c.in_ok-extend_from_slice-4.ensures.ok
