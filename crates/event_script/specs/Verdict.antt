-- What is answered about a tree, and about a file.
use Rattle.std.specs.Prelude.{◌≡◌, ℕ, Bool, false, ◌||◌, if◌then◌else◌, nat_lt, Option, Some, None, Result, Ok, Err, List, [], ◌∷◌, length}
use Rattle.serde_json.specs.Data.{Data}
use Rattle.event_script.specs.declared.script.Entry.{Entry}
use Rattle.event_script.specs.declared.script.Script.{Script}
use Rattle.event_script.specs.declared.script.ScriptCode.{ScriptCode}
use Rattle.event_script.specs.declared.script.ScriptCode.TheVariants.{NotScript, OutOfOrder, PastEnd, TooMany}
use Rattle.event_script.specs.Limits.{entry_limit}
use Rattle.event_script.specs.Order.{falls_by}
use Rattle.event_script.specs.Json.{IsTree}
use Rattle.event_script.specs.Form.{script_of}

-- whether some entry's moment is below that of the one before; the first has this moment before it
abbrev pub falls_from : ℕ → List Entry → Bool
falls_from = falls_by (λ e. e.at)

-- whether some entry's moment is above the end; one that equals it isn't
abbrev pub is_past : ℕ → List Entry → Bool
is_past end [] = false
is_past end (e ∷ es) = nat_lt end e.at || is_past end es

-- the rules over the whole list, in the order of their codes
abbrev pub judged : Script → Result Script ScriptCode
judged s =
    if falls_from 0 s.entries then Err OutOfOrder
    else if is_past s.end s.entries then Err PastEnd
    else if nat_lt entry_limit (length s.entries) then Err TooMany
    else Ok s

abbrev pub judged_form : Option Script → Result Script ScriptCode
judged_form None = Err NotScript
judged_form (Some s) = judged s

-- the bytes have a tree, about which this is to be answered
pub record Tells (bytes : List ℕ) (answer : Result Script ScriptCode) : Type 0 where
  pub tree : Data
  pub is : IsTree bytes tree
  pub judges : judged_form (script_of tree) ≡ answer
