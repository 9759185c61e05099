-- The answer that a call is to give, and how a call ends.
use Rattle.std.specs.Prelude.{◌≡◌, ◌≤◌, ◌⊎◌, ◌++◌, ℕ, List, [], Option}
use Rattle.sts_base.specs.Faults.{Rose}
use Rattle.tool_io.specs.Putting.{Took, TookPart}
use Rattle.board_world.specs.Transcript.{lines}
use Rattle.board_outside.specs.Moves.{Move, seen_of}
use Rattle.board_outside.specs.Ports.{DevicesAfter}
use Rattle.board_outside.specs.Cuts.{Stopped}
use Rattle.run_tool.specs.declared.ending.Status.{Status}
use Rattle.run_tool.specs.declared.ending.Status.TheVariants.{Done, Usage, Panicked, OutOfBudget, Refused, ScriptRefused, ClassRefused, ArrivalsRefused, ImageRefused, Faulted, FolderFailed, Missing, TooLong}
use Rattle.run_tool.specs.declared.ending.Ending.{Ending}
use Rattle.run_tool.specs.declared.ending.Ending.TheVariants.{Gave, Cut, NoMemory}
use Rattle.board_ports.specs.Account.{Account}

-- What a call is to give behind the line that its command begins with: an output, over which the devices stay; or a run, by what it showed and
-- unplugged in order, and by what is written behind the lines of that.
pub data Answer : Type 0 where
  says : Status → List ℕ → Answer
  runs : Status → (moves : List Move) → (behind : List ℕ) → Answer

abbrev pub status_of : Answer → Status
status_of (says status output) = status
status_of (runs status moves behind) = status

abbrev pub output_of : Answer → List ℕ
output_of (says status output) = output
output_of (runs status moves behind) = lines (seen_of moves) ++ behind

-- the number of a status
abbrev pub status_number : Status → ℕ
status_number Done = 0
status_number Usage = 2
status_number Panicked = 3
status_number OutOfBudget = 4
status_number Refused = 10
status_number ScriptRefused = 11
status_number ClassRefused = 11
status_number ArrivalsRefused = 11
status_number ImageRefused = 12
status_number Faulted = 13
status_number FolderFailed = 20
status_number Missing = 21
status_number TooLong = 23

-- the number of an ending
abbrev pub ending_number : Ending → ℕ
ending_number (Gave status) = status_number status
ending_number Cut = 22
ending_number NoMemory = 30

-- Of a sink, before and after a call: what it had taken, where it tells, and how often it had failed.
pub record OfSink : Type 0 where
  pub taken_before : Option (List ℕ)
  pub taken_after : Option (List ℕ)
  pub faults_before : ℕ
  pub faults_after : ℕ

abbrev pub of_sink : {S : Type 0} → (taken : S → Option (List ℕ)) → (faults : S → ℕ) → S → S → OfSink
of_sink taken faults old new = record {
  taken_before = taken old;
  taken_after = taken new;
  faults_before = faults old;
  faults_after = faults new;
}

-- Of devices, before and after a call: which stood in which place; and what is known of each.
pub record OfDevices (B : Type 0) : Type 0 where
  pub account : B → Account
  pub before : List (Option B)
  pub after : List (Option B)

abbrev pub of_devices : {B : Type 0} → (B → Account) → List (Option B) → List (Option B) → OfDevices B
of_devices account before after = record { account = account; before = before; after = after }

-- The devices are as an answer leaves them.
abbrev pub Leaves : {B : Type 0} → OfDevices B → Answer → Type 0
Leaves devices (says status output) = devices.after ≡ devices.before
Leaves devices (runs status moves behind) = DevicesAfter devices.account moves devices.before devices.after

-- The sink stopped the output of an answer: in the line that the command begins with, before any device was touched, or behind it.
abbrev pub IsAnswerCut : {B : Type 0} → OfSink → OfDevices B → (lead : List ℕ) → Answer → Type 0
IsAnswerCut sink devices lead (says status output) =
    TookPart sink.taken_before sink.taken_after (lead ++ output) × (devices.after ≡ devices.before)
IsAnswerCut sink devices lead (runs status moves behind) =
    (TookPart sink.taken_before sink.taken_after lead × (devices.after ≡ devices.before))
    ⊎ Stopped devices.account lead moves behind sink.taken_before sink.taken_after devices.before devices.after

-- Nothing was written, or this line alone, and the devices are as they were.
abbrev pub WroteNothing : {B : Type 0} → OfSink → OfDevices B → (lead : List ℕ) → Type 0
WroteNothing sink devices lead =
    (Took sink.taken_before sink.taken_after [] ⊎ Took sink.taken_before sink.taken_after lead)
    × (devices.after ≡ devices.before)

-- A call that begins with this line and may give these answers ended so: one answer was given whole, or was cut short; or memory was wanting, before
-- anything was written or behind that line.
abbrev pub CommandEnds : {B : Type 0} → OfSink → OfDevices B
    → (lead : List ℕ) → (may : Answer → Type 0) → Ending → Type 0
CommandEnds sink devices lead may (Gave status) =
    (answer : Answer) × may answer × (status ≡ status_of answer)
    × Took sink.taken_before sink.taken_after (lead ++ output_of answer) × Leaves devices answer
CommandEnds sink devices lead may Cut = (answer : Answer) × may answer × IsAnswerCut sink devices lead answer
CommandEnds sink devices lead may NoMemory = WroteNothing sink devices lead

-- It ended so; the sink's count of faults didn't fall, and rose where the answer was cut short.
pub record Concludes {B : Type 0} (sink : OfSink) (devices : OfDevices B) (lead : List ℕ)
    (may : Answer → Type 0) (ending : Ending) : Type 0 where
  pub ends : CommandEnds sink devices lead may ending
  pub later : sink.faults_before ≤ sink.faults_after
  pub cut : ending ≡ Cut → Rose sink.faults_before sink.faults_after

-- The folder's count of faults is as it was before a call that ended so; or the answer says that the folder failed; or the sink cut it.
abbrev pub IsFailureTold : (before after : ℕ) → Ending → Type 0
IsFailureTold before after ending = (after ≡ before) ⊎ ((ending ≡ Gave FolderFailed) ⊎ (ending ≡ Cut))

-- one of these outputs behind the line that the command begins with
abbrev pub Led : List ℕ → (Answer → Type 0) → Answer → Type 0
Led lead may answer =
    (status : Status) × (output : List ℕ) × may (says status output) × (answer ≡ says status (lead ++ output))
