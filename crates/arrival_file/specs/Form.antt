-- The form of arrivals: which trees are lists of arrivals, and which list each is.
use Rattle.std.specs.Prelude.{ℕ, Bool, true, false, ◌&&◌, nat_lt, Option, Some, None, List, codes}
use Rattle.serde_json.specs.Data.{Data}
use Rattle.event_script.specs.Trees.{whole, has_members, only_if, list_of}
use Rattle.event_script.specs.Form.{act_of}
use Rattle.event_script.specs.declared.script.Act.{Act}
use Rattle.event_script.specs.declared.script.Act.TheVariants.{Unplug}
use Rattle.arrival_file.specs.Limits.{greatest_after}
use Rattle.arrival_file.specs.declared.arrival.Arrival.{Arrival}

-- what may arrive: all that an entry of a script does, but for an unplug
abbrev pub may_arrive : Act → Bool
may_arrive (Unplug port) = false
may_arrive _ = true

-- nothing arrives behind no instruction
abbrev pub arrival_with : Option ℕ → Option Act → Option Arrival
arrival_with (Some after) (Some act) =
    only_if (nat_lt 0 after && may_arrive act) (Some (record { after = after; act = act }))
arrival_with _ _ = None

-- `after` is the number of instructions behind which it comes, up to the greatest; the other members are those of an entry of a script, without `at`
abbrev pub arrival_of : Data → Option Arrival
arrival_of d = arrival_with (whole greatest_after (codes "after") d) (act_of d)

-- the one member is `arrivals`, a list
abbrev pub arrivals_of : Data → Option (List Arrival)
arrivals_of d = only_if (has_members 1 d) (list_of arrival_of (codes "arrivals") d)
