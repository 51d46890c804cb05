use Rattle.std.proofs.Common.{◌≡◌, ◌<◌, ◌^◌, ℤ, suc, pos, negsuc, arith}
use Rattle.std.specs.Prelude.{FitsSigned}
use Rattle.std.specs.Int.{w32}
use Rattle.std.proofs.lemmas.Int.{ints}
use Rattle.lb_base.specs.Decimals.{scaled_text, scaled_from_text}
use Rattle.lb_base.proofs.TextBack.{text_back_pos, text_back_negsuc}
use Rattle.lb_base.proofs.laws.text_reads_back.Goals as goal

text_back : (s : ℤ) → FitsSigned w32 s → scaled_from_text (scaled_text s) ≡ s
text_back (pos n) range = let fits : n < 2 ^ 64 = omega (arith, ints) in text_back_pos n fits
text_back (negsuc n) range = let fits : suc n < 2 ^ 64 = omega (arith, ints) in text_back_negsuc n fits

pub returns : goal.returns
returns c = text_back
