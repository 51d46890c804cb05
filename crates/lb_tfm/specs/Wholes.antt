-- What the first four rules say of a file: all its sections are there.
use Rattle.std.specs.Prelude.{◌≡◌, ℕ, ◌+◌, ◌*◌, ◌/◌, ◌%◌, ◌≤◌, ◌<◌, List, length, None}
use Rattle.lb_base.specs.declared.font.Counts.{Counts}
use Rattle.lb_model_paper.specs.FontFiles.{byte_at, end_of}
use Rattle.lb_model_paper.specs.FontRules.{wrong_info, wrong_step}

pub record IsWhole (bytes : List ℕ) (c : Counts) : Type 0 where
  pub long : 4 * end_of c ≤ length bytes
  pub small : end_of c < 32768
  pub header : 2 ≤ c.lh
  pub codes : c.bc ≤ c.ec + 1
  pub last : c.ec ≤ 255
  pub widths : 0 < c.nw
  pub heights : 0 < c.nh
  pub depths : 0 < c.nd
  pub italics : 0 < c.ni

-- and its characters and steps keep their rules
pub record IsSound (bytes : List ℕ) (c : Counts) : Type 0 where
  pub whole : IsWhole bytes c
  pub infos : wrong_info bytes c ≡ None
  pub steps : wrong_step bytes c ≡ None

-- the indices in the word of a character are below the counts of what they index
pub record AreWithin (bytes : List ℕ) (c : Counts) (info : ℕ) : Type 0 where
  pub place : info < end_of c
  pub width : byte_at bytes info 0 < c.nw
  pub height : byte_at bytes info 1 / 16 < c.nh
  pub depth : byte_at bytes info 1 % 16 < c.nd
  pub italic : byte_at bytes info 2 / 4 < c.ni
