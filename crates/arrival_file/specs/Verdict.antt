-- What is answered about a tree, and about a file.
use Rattle.std.specs.Prelude.{◌≡◌, ℕ, Bool, if◌then◌else◌, nat_lt, Option, Some, None, Result, Ok, Err, List, length}
use Rattle.serde_json.specs.Data.{Data}
use Rattle.event_script.specs.Json.{IsTree}
use Rattle.event_script.specs.Order.{falls_by}
use Rattle.arrival_file.specs.declared.arrival.Arrival.{Arrival}
use Rattle.arrival_file.specs.declared.arrival.ArrivalCode.{ArrivalCode}
use Rattle.arrival_file.specs.declared.arrival.ArrivalCode.TheVariants.{NotArrivals, OutOfOrder, TooMany}
use Rattle.arrival_file.specs.Limits.{arrival_limit}
use Rattle.arrival_file.specs.Form.{arrivals_of}

-- whether some arrival's number is below that of the one before
abbrev pub falls : List Arrival → Bool
falls = falls_by (λ a. a.after) 0

-- the rules over the whole list, in the order of their codes
abbrev pub judged : List Arrival → Result (List Arrival) ArrivalCode
judged arrivals =
    if falls arrivals then Err OutOfOrder
    else if nat_lt arrival_limit (length arrivals) then Err TooMany
    else Ok arrivals

abbrev pub judged_form : Option (List Arrival) → Result (List Arrival) ArrivalCode
judged_form None = Err NotArrivals
judged_form (Some arrivals) = judged arrivals

-- the bytes have a tree, about which this is to be answered
pub record Tells (bytes : List ℕ) (answer : Result (List Arrival) ArrivalCode) : Type 0 where
  pub tree : Data
  pub is : IsTree bytes tree
  pub judges : judged_form (arrivals_of tree) ≡ answer
