-- What the rules on characters and steps say of one of them.
use Rattle.std.proofs.Common.{◌≡◌, ℕ, ◌/◌, ◌%◌, ◌<◌, ◌≤◌, List, Bool, true, false, cond, arith}
use Rattle.std.specs.Prelude.{nat_lt, nat_le, ◌&&◌}
use Rattle.std.proofs.lemmas.Bool.{and_parts}
use Rattle.lb_base.specs.declared.font.Counts.{Counts}
use Rattle.lb_model_paper.specs.FontFiles.{byte_at, exists, first_info, first_kern, first_step, first_width, info_of}
use Rattle.lb_model_paper.specs.FontRules.{is_wrong_action, is_wrong_info, is_wrong_step, wrong_info, wrong_step}
use Rattle.lb_tfm.specs.Wholes.{AreWithin, IsSound}
use Rattle.lb_tfm.proofs.Searches.{none-at}
use Rattle.lb_tfm.proofs.Tests.{is-from, is-not-from, neither, same}

record IsCode (c : Counts) (code : ℕ) : Type 0 where
  low : c.bc ≤ code
  high : code ≤ c.ec

code-of : (bytes : List ℕ) (c : Counts) (code : ℕ) → exists bytes c code ≡ true → IsCode c code
code-of bytes c code h =
    let a = and_parts _ _ h in
    let b = and_parts _ _ a.1 in
    record { low = is-from c.bc code a.0; high = is-from code c.ec b.0 }

info-right : (bytes : List ℕ) (c : Counts) (code : ℕ) → IsSound bytes c → exists bytes c code ≡ true → is_wrong_info bytes c (info_of c code) ≡ false
unfolding wrong_info
info-right bytes c code sound h =
    let is = code-of bytes c code h in
    let whole = sound.whole in
    let low : first_info c ≤ info_of c code = omega arith in
    let high : info_of c code < first_width c = omega arith in
    none-at (is_wrong_info bytes c) (first_info c) (first_width c) (info_of c code) low high sound.infos

pub info-within : (bytes : List ℕ) (c : Counts) (code : ℕ) → IsSound bytes c → exists bytes c code ≡ true → AreWithin bytes c (info_of c code)
info-within bytes c code sound h =
    let is = code-of bytes c code h in
    let whole = sound.whole in
    let width = neither _ _ (info-right bytes c code sound h) in
    let height = neither _ _ width.1 in
    let depth = neither _ _ height.1 in
    let italic = neither _ _ depth.1 in
    record {
      place = omega arith;
      width = is-not-from c.nw (byte_at bytes (info_of c code) 0) width.0;
      height = is-not-from c.nh (byte_at bytes (info_of c code) 1 / 16) height.0;
      depth = is-not-from c.nd (byte_at bytes (info_of c code) 1 % 16) depth.0;
      italic = is-not-from c.ni (byte_at bytes (info_of c code) 2 / 4) italic.0;
    }

second-false : (a b : Bool) → a ≡ true → (a && b) ≡ false → b ≡ false
second-false true b h k = k
second-false false b h k = absurd cc

pub start-within : (bytes : List ℕ) (c : Counts) (code : ℕ) → IsSound bytes c → exists bytes c code ≡ true → byte_at bytes (info_of c code) 2 % 4 ≡ 1 → byte_at bytes (info_of c code) 3 < c.nl
start-within bytes c code sound h tag =
    let width = neither (nat_le c.nw (byte_at bytes (info_of c code) 0)) _ (info-right bytes c code sound h) in
    let height = neither (nat_le c.nh (byte_at bytes (info_of c code) 1 / 16)) _ width.1 in
    let depth = neither (nat_le c.nd (byte_at bytes (info_of c code) 1 % 16)) _ height.1 in
    let italic = neither (nat_le c.ni (byte_at bytes (info_of c code) 2 / 4)) _ depth.1 in
    is-not-from c.nl (byte_at bytes (info_of c code) 3) (second-false _ _ (same (byte_at bytes (info_of c code) 2 % 4) 1 tag) italic.1)

else-false : (b left right : Bool) → b ≡ false → cond b left right ≡ false → right ≡ false
else-false true left right h k = absurd cc
else-false false left right h k = k

pub action-right : (bytes : List ℕ) (c : Counts) (word : ℕ) → IsSound bytes c → first_step c ≤ word → word < first_kern c → nat_lt 128 (byte_at bytes word 0) ≡ false
    → is_wrong_action bytes c (byte_at bytes word 2) (byte_at bytes word 3) ≡ false
unfolding wrong_step
action-right bytes c word sound low high h =
    let right : is_wrong_step bytes c word ≡ false = none-at (is_wrong_step bytes c) (first_step c) (first_kern c) word low high sound.steps in
    (neither _ _ (else-false (nat_lt 128 (byte_at bytes word 0)) _ _ h right)).0
