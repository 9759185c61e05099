-- The devices in their places, and what a word does to the place that it is sent to.
use Rattle.std.specs.Prelude.{◌≡◌, ◌≢◌, ◌≤◌, ◌<◌, ◌∷◌, [], ◌⊎◌, ℕ, List, length, Bool, true, false, Option, Some, None, slice_index_or, refl}
use Rattle.std.specs.Coded.{Coded, code_by, coded×, coded_list, coded_option, coded_bool}
use Rattle.board_ports.specs.Account.{Account, Received, FailedAmong, Failed}
use Rattle.board_ports.specs.Counts.{some_more}
use Rattle.sts_base.specs.Faults.{one_more}
use Rattle.board_ports.specs.declared.sent.Sent.{Sent}
use Rattle.board_ports.specs.declared.sent.Sent.TheVariants.{Went, Nobody, Lost}

-- A list of places, each with a device or none; the place in the list is the port. A mark stands for a port whose
-- device has failed.
pub record Plugged (B : Type 0) : Type 0 where
  pub places : List (Option B)
  pub marks : List Bool

-- it is stored as the pair of its fields
abbrev pub plugged_code : {B : Type 0} → Coded B → Coded (Plugged B)
plugged_code {B} code =
    code_by (List (Option B) × List Bool) (coded× (coded_list (coded_option code)) (coded_list coded_bool))
    (λ p. (p.places, p.marks))
    (λ p. record { places = p.0; marks = p.1 }) (λ _. refl)

-- the device at a place, if there is one
abbrev pub device_at : {B : Type 0} → List (Option B) → ℕ → Option B
device_at places port = slice_index_or places port None

-- whether the port's mark stands
abbrev pub mark_at : List Bool → ℕ → Bool
mark_at marks port = slice_index_or marks port false

-- Every place and every mark but this port's is as it was, and no place was added or taken away.
pub record OthersStay {B : Type 0} (port : ℕ) (old new : Plugged B) : Type 0 where
  pub places : (k : ℕ) → k ≢ port → device_at new.places k ≡ device_at old.places k
  pub marks : (k : ℕ) → k ≢ port → mark_at new.marks k ≡ mark_at old.marks k
  pub same_length : length new.places ≡ length old.places

-- What becomes of a word that is sent to a port, of the device there and of the port's mark, by the answer. Nobody:
-- there is no device, or the mark stands, and nothing changes. Went: the device took it. Lost: the device failed,
-- stays in its place, and is marked. Each device but where Nobody is answered was written to once.
abbrev pub Sends : {B : Type 0} → (B → Account) → ℕ × ℕ → Option B → Bool → Option B → Bool → Sent → Type 0
Sends account entry old mark new mark' Nobody = ((old ≡ None) ⊎ (mark ≡ true)) × (new ≡ old) × (mark' ≡ mark)
Sends account entry (Some old) false (Some new) mark' Went = (mark' ≡ false) × Received account (entry ∷ []) old new
Sends account entry (Some old) false (Some new) mark' Lost =
    (mark' ≡ true) × Failed account old new × ((account new).writes ≡ one_more (account old).writes)
Sends account entry old mark new mark' _ = ⊥

-- the same of all that is plugged in, before and after
abbrev pub SendsAt : {B : Type 0} → (B → Account) → ℕ × ℕ → ℕ → Plugged B → Plugged B → Sent → Type 0
SendsAt account entry port old new sent =
    Sends account entry (device_at old.places port) (mark_at old.marks port) (device_at new.places port)
    (mark_at new.marks port) sent

-- What becomes of a place whose device is sent these entries, one behind the other. A place without a device and one with a mark stay as they
-- are. The device took them all, and was written to so often; or it took the first of them, failed, was written to at most so often, and is marked.
abbrev pub SendsAll : {B : Type 0} → (B → Account) → List (ℕ × ℕ) → Option B → Bool → Option B → Bool → Type 0
SendsAll account entries None mark new mark' = (new ≡ None) × (mark' ≡ mark)
SendsAll account entries (Some old) true new mark' = (new ≡ Some old) × (mark' ≡ true)
SendsAll account entries (Some old) false (Some new) false = Received account entries old new
SendsAll account entries (Some old) false (Some new) true =
    FailedAmong account entries old new × ((account new).writes ≤ some_more (length entries) (account old).writes)
SendsAll account entries (Some old) false None mark' = ⊥

-- the same of all that is plugged in, before and after
abbrev pub SendsAllAt : {B : Type 0} → (B → Account) → List (ℕ × ℕ) → ℕ → Plugged B → Plugged B → Type 0
SendsAllAt account entries port old new =
    SendsAll account entries (device_at old.places port) (mark_at old.marks port) (device_at new.places port)
    (mark_at new.marks port)

-- What becomes of a place whose device hears that no more words come. A place without a device and one with a mark stay as they are.
-- The device holds none back any more and had no fault, or it failed and is marked. It wasn't written to.
abbrev pub Settles : {B : Type 0} → (B → Type 0) → (B → Account) → Option B → Bool → Option B → Bool → Type 0
Settles settled account None mark new mark' = (new ≡ None) × (mark' ≡ mark)
Settles settled account (Some old) true new mark' = (new ≡ Some old) × (mark' ≡ true)
Settles settled account (Some old) false (Some new) false =
    settled new × ((account new).log ≡ (account old).log) × ((account new).faults ≡ (account old).faults)
    × ((account new).writes ≡ (account old).writes)
Settles settled account (Some old) false (Some new) true =
    Failed account old new × ((account new).writes ≡ (account old).writes)
Settles settled account (Some old) false None mark' = ⊥

-- the same of all that is plugged in, before and after
abbrev pub SettlesAt : {B : Type 0} → (B → Type 0) → (B → Account) → ℕ → Plugged B → Plugged B → Type 0
SettlesAt settled account port old new =
    Settles settled account (device_at old.places port) (mark_at old.marks port) (device_at new.places port)
    (mark_at new.marks port)

-- What becomes of the list of places where no more words come: the place of each port settles. The ports are below 4; places above them stay,
-- and so does the list's length.
pub record SettlesAll {B : Type 0} (settled : B → Type 0) (account : B → Account) (old : Plugged B)
    (new : List (Option B)) : Type 0 where
  pub same_length : length new ≡ length old.places
  pub above : (k : ℕ) → 4 ≤ k → device_at new k ≡ device_at old.places k
  pub ports : (k : ℕ) → k < 4
      → (mark : Bool) × Settles settled account (device_at old.places k) (mark_at old.marks k) (device_at new k) mark
