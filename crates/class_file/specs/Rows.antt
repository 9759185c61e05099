-- Small classes, worked by hand: trees, and what each is.
use Rattle.std.specs.Prelude.{ℕ, zero, suc, List, [], ◌∷◌, codes}
use Rattle.serde_json.specs.Data.{Data, array, object, Items, no_items, item, no_members, member}
use Rattle.event_script.specs.Shapes.{whole_number}
use Rattle.class_file.specs.declared.class.Names.{Names}
use Rattle.class_file.specs.declared.class.ClassFile.{ClassFile}
use Rattle.class_file.specs.Shapes.{names_tree, loss_tree, class_tree}

-- so many boards of the same files
abbrev pub alike : ℕ → Items
alike zero = no_items
alike (suc n) = item (names_tree (codes "p.ts") (codes "s.json")) (alike n)

abbrev pub names_alike : ℕ → List Names
names_alike zero = []
names_alike (suc n) = record { program = codes "p.ts"; script = codes "s.json" } ∷ names_alike n

abbrev pub one_loss : Items
one_loss = item (loss_tree 0 0 1) no_items

-- {"boards": [{"program": "p.ts", "script": "s.json"}, ..], "end": 1000, "lose": [{"at": 0, "from": 0, "to": 1}]}
abbrev pub class_of_boards : ℕ → Data
class_of_boards n = class_tree 1000 (alike n) one_loss

abbrev pub read_of_boards : ℕ → ClassFile
read_of_boards n = record { end = 1000; boards = names_alike n; lose = record { at = 0; «from» = 0; to = 1 } ∷ [] }

-- a member more than there should be
abbrev pub with_more : Data
with_more =
    object (member (codes "boards") (array (alike 1)) (member (codes "end") (whole_number 5)
    (member (codes "lose") (array no_items) (member (codes "more") (whole_number 1) no_members))))
