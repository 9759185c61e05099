-- The form of a class: which trees are classes, and which class each is.
use Rattle.std.specs.Prelude.{ℕ, Option, Some, None, List, codes}
use Rattle.serde_json.specs.Data.{Data}
use Rattle.board_world.specs.Limits.{end_limit}
use Rattle.event_script.specs.Trees.{whole, text_of, has_members, only_if, list_of}
use Rattle.class_file.specs.Limits.{last_board}
use Rattle.class_file.specs.declared.class.Names.{Names}
use Rattle.class_file.specs.declared.class.Loss.{Loss}
use Rattle.class_file.specs.declared.class.ClassFile.{ClassFile}

abbrev pub names_with : Option (List ℕ) → Option (List ℕ) → Option Names
names_with (Some program) (Some script) = Some (record { program = program; script = script })
names_with _ _ = None

-- a board: `program` and `script` are texts, whatever they say
abbrev pub names_of : Data → Option Names
names_of d = only_if (has_members 2 d) (names_with (text_of (codes "program") d) (text_of (codes "script") d))

abbrev pub loss_with : Option ℕ → Option ℕ → Option ℕ → Option Loss
loss_with (Some at) (Some sender) (Some hearer) = Some (record { at = at; «from» = sender; to = hearer })
loss_with _ _ _ = None

-- a loss: `at` is a moment in milliseconds, up to the latest end; `from` and `to` are numbers of boards, up to the last one
abbrev pub loss_of : Data → Option Loss
loss_of d =
    only_if (has_members 3 d)
    (loss_with (whole end_limit (codes "at") d) (whole last_board (codes "from") d) (whole last_board (codes "to") d))

abbrev pub class_with : Option ℕ → Option (List Names) → Option (List Loss) → Option ClassFile
class_with (Some end) (Some boards) (Some lose) = Some (record { end = end; boards = boards; lose = lose })
class_with _ _ _ = None

-- the members are `end`, in milliseconds up to the latest end, `boards` and `lose`
abbrev pub class_of : Data → Option ClassFile
class_of d =
    only_if (has_members 3 d) (class_with (whole end_limit (codes "end") d) (list_of names_of (codes "boards") d)
    (list_of loss_of (codes "lose") d))
