-- What is read of lines, by the grammar of groups.
use Rattle.std.specs.Prelude.{◌≡◌, ◌↔◌, ℕ, List, ◌++◌, Some, codes}
use Rattle.lb_values.specs.declared.value.LabelPair.{LabelPair}
use Rattle.lb_model_aux.specs.declared.line.Line.TheVariants.{Label}
use Rattle.lb_model_aux.specs.Forms.{label_of}
use Rattle.lb_model_aux.specs.Groups.{AreGroups, IsBalanced, group_of}
use Rattle.lb_model_journal.specs.Written.{braced}

-- a text begins with a group
pub record IsGroup (text inner rest : List ℕ) : Type 0 where
  pub parts : text ≡ braced inner ++ rest
  pub balanced : IsBalanced inner

-- a group is read exactly where there is one
abbrev pub GroupsAreRead : Type 0
GroupsAreRead = (text inner rest : List ℕ) → group_of text ≡ Some (inner, rest) ↔ IsGroup text inner rest

-- a label: its key, its text and its page, and any groups behind them
pub record IsLabel (text key : List ℕ) (pair : LabelPair) : Type 0 where
  pub more : List ℕ
  pub parts : text ≡ codes "\\newlabel" ++ braced key ++ braced (braced pair.text ++ (braced pair.page ++ more))
  pub key_balanced : IsBalanced key
  pub text_balanced : IsBalanced pair.text
  pub page_balanced : IsBalanced pair.page
  pub groups : AreGroups more

-- each label is read
abbrev pub LabelsAreRead : Type 0
LabelsAreRead = (text key : List ℕ) (pair : LabelPair) → IsLabel text key pair → label_of text ≡ Some (Label key pair)
