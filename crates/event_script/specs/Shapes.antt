-- The trees of entries and of scripts, member by member.
use Rattle.std.specs.Prelude.{ℕ, List, codes}
use Rattle.serde_json.specs.Data.{Data, unsigned, number, string, array, object, Items, no_members, member}

abbrev pub whole_number : ℕ → Data
whole_number n = number (unsigned n)

-- {"at": at, "button": button, "do": how}
abbrev pub press_tree : ℕ → List ℕ → List ℕ → Data
press_tree at how button =
    object (member (codes "at") (whole_number at)
    (member (codes "button") (string button) (member (codes "do") (string how) no_members)))

-- {"at": at, "do": "raise", "source": source, "value": value}
abbrev pub raise_tree : ℕ → ℕ → ℕ → Data
raise_tree at source value =
    object (member (codes "at") (whole_number at) (member (codes "do") (string (codes "raise"))
    (member (codes "source") (whole_number source) (member (codes "value") (whole_number value) no_members))))

-- {"at": at, "do": "unplug", "port": port}
abbrev pub unplug_tree : ℕ → ℕ → Data
unplug_tree at port =
    object (member (codes "at") (whole_number at)
    (member (codes "do") (string (codes "unplug")) (member (codes "port") (whole_number port) no_members)))

-- {"end": end, "events": events}
abbrev pub script_tree : ℕ → Items → Data
script_tree end events =
    object (member (codes "end") (whole_number end) (member (codes "events") (array events) no_members))
