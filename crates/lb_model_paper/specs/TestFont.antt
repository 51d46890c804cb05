-- The test font: the codes 33 to 126, each 5pt wide, 7.5pt high and 2.5pt deep at 10pt, and a space of 3pt. The counts of words
-- come first, then the header, the characters, their widths, heights, depths and italics, and the parameters: 116 words.
use Rattle.std.specs.Prelude.{ℕ, List, [], ◌∷◌, ◌++◌, replicate}
use Rattle.std.specs.List.{flat_map}
use Rattle.lb_model_paper.specs.Dvi.{half, word}

unfoldable pub test_font : List ℕ
test_font =
    flat_map half (116 ∷ 2 ∷ 33 ∷ 126 ∷ 2 ∷ 2 ∷ 2 ∷ 1 ∷ 0 ∷ 0 ∷ 0 ∷ 7 ∷ [])
    ++ flat_map word (0 ∷ 0x00a00000 ∷ replicate 94 0x01110000)
    ++ flat_map word (0 ∷ 0x00080000 ∷ 0 ∷ 0x000c0000 ∷ 0 ∷ 0x00040000 ∷ 0 ∷ [])
    ++ flat_map word (0 ∷ 0x0004cccd ∷ 0x0001999a ∷ 0x0001999a ∷ 0x00080000 ∷ 0x00100000 ∷ 0x0001999a ∷ [])
