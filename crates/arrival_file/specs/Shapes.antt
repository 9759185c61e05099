-- The trees of arrivals, member by member, and the names of their members.
use Rattle.std.specs.Prelude.{ℕ, List, [], ◌∷◌, codes}
use Rattle.serde_json.specs.Data.{Data, string, array, object, Items, no_items, item, no_members, member}
use Rattle.event_script.specs.Shapes.{whole_number}
use Rattle.event_script.specs.declared.script.Act.{Act}
use Rattle.event_script.specs.declared.script.Act.TheVariants.{Down, Up, Raise, Unplug}

-- {"after": after, "button": button, "do": how}
abbrev pub press_tree : ℕ → List ℕ → List ℕ → Data
press_tree after how button =
    object (member (codes "after") (whole_number after)
    (member (codes "button") (string button) (member (codes "do") (string how) no_members)))

-- {"after": after, "do": "raise", "source": source, "value": value}
abbrev pub raise_tree : ℕ → ℕ → ℕ → Data
raise_tree after source value =
    object (member (codes "after") (whole_number after) (member (codes "do") (string (codes "raise"))
    (member (codes "source") (whole_number source) (member (codes "value") (whole_number value) no_members))))

-- {"after": after, "do": "unplug", "port": port}
abbrev pub unplug_tree : ℕ → ℕ → Data
unplug_tree after port =
    object (member (codes "after") (whole_number after)
    (member (codes "do") (string (codes "unplug")) (member (codes "port") (whole_number port) no_members)))

-- {"arrivals": items}
abbrev pub arrivals_tree : Items → Data
arrivals_tree items = object (member (codes "arrivals") (array items) no_members)

abbrev pub two : Data → Data → Data
two first second = arrivals_tree (item first (item second no_items))

-- the members of an arrival, by what it does; an unplug is none
abbrev pub names_of : Act → List (List ℕ)
names_of (Down button) = codes "after" ∷ codes "do" ∷ codes "button" ∷ []
names_of (Up button) = codes "after" ∷ codes "do" ∷ codes "button" ∷ []
names_of (Raise event) = codes "after" ∷ codes "do" ∷ codes "source" ∷ codes "value" ∷ []
names_of (Unplug port) = []
