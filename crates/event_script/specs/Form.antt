-- The form of a script: which trees are scripts, and which script each is.
use Rattle.std.specs.Prelude.{ℕ, pos, if◌then◌else◌, Option, Some, None, option_map, List, codes}
use Rattle.serde_json.specs.Data.{Data, Items}
use Rattle.board_world.specs.Limits.{end_limit, last_port}
use Rattle.event_script.specs.Limits.{greatest_number}
use Rattle.event_script.specs.Trees.{whole, says, has_members, only_if, items_of, list_of}
use Rattle.event_script.specs.declared.script.Act.{Act}
use Rattle.event_script.specs.declared.script.Act.TheVariants.{Down, Up, Raise, Unplug}
use Rattle.event_script.specs.declared.script.Entry.{Entry}
use Rattle.event_script.specs.declared.script.Script.{Script}

-- `button` is "A", which is 1, or "B", which is 2
abbrev pub button_of : Data → Option ℕ
button_of d =
    if says (codes "button") (codes "A") d then Some 1 else if says (codes "button") (codes "B") d then Some 2 else None

abbrev pub raised_with : Option ℕ → Option ℕ → Option Act
raised_with (Some source) (Some value) = Some (Raise (record { source = pos source; value = pos value }))
raised_with _ _ = None

-- `do` says what happens, and with `at` these are the members: `button`; `source` and `value`, up to the greatest number; `port`, up to the last one
abbrev pub act_of : Data → Option Act
act_of d =
    if says (codes "do") (codes "down") d then only_if (has_members 3 d) (option_map Down (button_of d))
    else if says (codes "do") (codes "up") d then only_if (has_members 3 d) (option_map Up (button_of d))
    else if says (codes "do") (codes "raise") d then only_if (has_members 4 d)
    (raised_with (whole greatest_number (codes "source") d) (whole greatest_number (codes "value") d))
    else if says (codes "do") (codes "unplug") d
    then only_if (has_members 3 d) (option_map Unplug (whole last_port (codes "port") d))
    else None

abbrev pub entry_with : Option ℕ → Option Act → Option Entry
entry_with (Some at) (Some act) = Some (record { at = at; act = act })
entry_with _ _ = None

-- `at` is the moment in milliseconds, up to the latest end
abbrev pub entry_of : Data → Option Entry
entry_of d = entry_with (whole end_limit (codes "at") d) (act_of d)

-- all entries of a list
abbrev pub entries_of : Items → Option (List Entry)
entries_of = items_of entry_of

abbrev pub script_with : Option ℕ → Option (List Entry) → Option Script
script_with (Some end) (Some entries) = Some (record { end = end; entries = entries })
script_with _ _ = None

-- the members are `end`, in milliseconds up to the latest end, and `events`, a list of entries
abbrev pub script_of : Data → Option Script
script_of d =
    only_if (has_members 2 d) (script_with (whole end_limit (codes "end") d) (list_of entry_of (codes "events") d))
