-- What is answered about a tree, and about a file.
use Rattle.std.specs.Prelude.{◌≡◌, ℕ, Bool, ◌||◌, if◌then◌else◌, nat_lt, ◌==◌, Option, Some, None, Result, Ok, Err, List, length}
use Rattle.serde_json.specs.Data.{Data}
use Rattle.event_script.specs.Json.{IsTree}
use Rattle.class_file.specs.declared.class.ClassFile.{ClassFile}
use Rattle.class_file.specs.declared.class.ClassCode.{ClassCode}
use Rattle.class_file.specs.declared.class.ClassCode.TheVariants.{NotClass, BadCount}
use Rattle.class_file.specs.Limits.{board_limit, loss_limit}
use Rattle.class_file.specs.Form.{class_of}

-- whether there are no boards, too many, or too many losses
abbrev pub miscounts : ClassFile → Bool
miscounts c = length c.boards == 0 || (nat_lt board_limit (length c.boards) || nat_lt loss_limit (length c.lose))

abbrev pub judged : ClassFile → Result ClassFile ClassCode
judged c = if miscounts c then Err BadCount else Ok c

abbrev pub judged_form : Option ClassFile → Result ClassFile ClassCode
judged_form None = Err NotClass
judged_form (Some c) = judged c

-- the bytes have a tree, about which this is to be answered
pub record Tells (bytes : List ℕ) (answer : Result ClassFile ClassCode) : Type 0 where
  pub tree : Data
  pub is : IsTree bytes tree
  pub judges : judged_form (class_of tree) ≡ answer
