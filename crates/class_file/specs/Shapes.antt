-- The trees of boards, losses and classes, member by member.
use Rattle.std.specs.Prelude.{ℕ, List, codes}
use Rattle.serde_json.specs.Data.{Data, string, array, object, Items, no_members, member}
use Rattle.event_script.specs.Shapes.{whole_number}

-- {"program": program, "script": script}
abbrev pub names_tree : List ℕ → List ℕ → Data
names_tree program script =
    object (member (codes "program") (string program) (member (codes "script") (string script) no_members))

-- {"at": at, "from": sender, "to": hearer}
abbrev pub loss_tree : ℕ → ℕ → ℕ → Data
loss_tree at sender hearer =
    object (member (codes "at") (whole_number at)
    (member (codes "from") (whole_number sender) (member (codes "to") (whole_number hearer) no_members)))

-- {"boards": boards, "end": end, "lose": lose}
abbrev pub class_tree : ℕ → Items → Items → Data
class_tree end boards lose =
    object (member (codes "boards") (array boards)
    (member (codes "end") (whole_number end) (member (codes "lose") (array lose) no_members)))
