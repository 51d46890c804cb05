-- What the forms in memory tell.
use Rattle.std.specs.Prelude.{ℕ, Bool, List, Option, ◌+◌, ◌-◌, ◌^◌, min}
use Rattle.std.specs.Prelude.{refl}
use Rattle.std.specs.Coded.{Coded, code_by, coded×, coded_ℕ, coded_list}
use Rattle.std.specs.FinMap as map
use Rattle.lb_model.specs.Files.{Files}
use Rattle.lb_model.specs.Journal.{Entry}

-- a folder's files, and how often it has failed
pub record FolderForm : Type 0 where
  pub files : Files
  pub faults : ℕ

-- a folder's form is stored as the pair of its fields
abbrev pub folder_form_code : Coded FolderForm
folder_form_code =
    code_by (Files × ℕ) (coded× (map.code (coded_list coded_ℕ) (coded_list coded_ℕ)) coded_ℕ) (λ form. (form.files, form.faults)) (λ p. record { files = p.0; faults = p.1 }) (λ _. refl)

-- what was done to an outlet, and how often it has failed
pub record OutletForm : Type 0 where
  pub journal : List Entry
  pub faults : ℕ

-- what was said, and how often that has failed
pub record SaidForm : Type 0 where
  pub bytes : List ℕ
  pub faults : ℕ

-- What was said, where nothing was dropped, and how many bytes more there is room for.
pub record SureSaidForm : Type 0 where
  pub bytes : Option (List ℕ)
  pub room : ℕ

-- What was done, where nothing was dropped, how many entries more there is room for, and whether the names of the files
-- stand in the list that is lent.
pub record SureOutletForm : Type 0 where
  pub journal : Option (List Entry)
  pub room : ℕ
  pub is_listed : Bool

-- texts in one buffer, and for how many bytes and texts more there is room
pub record PoolForm : Type 0 where
  pub texts : List (List ℕ)
  pub room : ℕ
  pub places : ℕ

-- a count of faults after one more, which stops at the last number that the counter holds
abbrev pub one_more : ℕ → ℕ
one_more faults = min (faults + 1) (2 ^ 64 - 1)
