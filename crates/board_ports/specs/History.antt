-- What a run's words and unplugs have made of the devices that were plugged in when it began.
use Rattle.std.specs.Prelude.{◌≡◌, ◌<◌, ◌≤◌, ◌==◌, ◌∷◌, [], ◌⊎◌, ℕ, List, length, Bool, true, false, if◌then◌else◌, Option, Some, None, flat_map, map}
use Rattle.std.specs.List.{list_any}
use Rattle.board_ports.specs.Account.{Account, Received, FailedAmong}
use Rattle.board_ports.specs.Plugged.{Plugged, device_at, mark_at}

-- a word is sent to a port at a moment, or the port's device is unplugged
pub data PortMove : Type 0 where
  Word : (port at word : ℕ) → PortMove
  Unplug : (port : ℕ) → PortMove

-- a word for each byte, all at a moment
abbrev pub words_sent : ℕ → ℕ → List ℕ → List PortMove
words_sent port now bytes = map (λ byte. Word port now byte) bytes

-- the moments and words that a move sends to a port
abbrev pub entries_of : ℕ → PortMove → List (ℕ × ℕ)
entries_of k (Word port at word) = if port == k then (at, word) ∷ [] else []
entries_of k (Unplug port) = []

-- whether a move unplugs a port's device
abbrev pub unplugs : ℕ → PortMove → Bool
unplugs k (Word port at word) = false
unplugs k (Unplug port) = port == k

-- the moments and words that the moves send to a port, in their order
abbrev pub entries_at : List PortMove → ℕ → List (ℕ × ℕ)
entries_at moves k = flat_map (entries_of k) moves

-- whether one of the moves unplugs the port's device
abbrev pub unplugged_at : List PortMove → ℕ → Bool
unplugged_at moves k = list_any (unplugs k) moves

-- What becomes of a device that is sent these entries: it took them all, each in one write and without a fault, or it failed among them.
abbrev pub Served : {B : Type 0} → (B → Account) → List (ℕ × ℕ) → B → B → Type 0
Served account entries old new = Received account entries old new ⊎ FailedAmong account entries old new

-- What a run leaves at a place, by its entries there and by whether it unplugged the place: a place without a device
-- has none, and one with a device is empty exactly where it was unplugged.
abbrev pub PlaceAfter : {B : Type 0} → (B → Account) → List (ℕ × ℕ) → Bool → Option B → Option B → Type 0
PlaceAfter account entries unplugged None new = new ≡ None
PlaceAfter account entries unplugged (Some old) None = unplugged ≡ true
PlaceAfter account entries unplugged (Some old) (Some new) = (unplugged ≡ false) × Served account entries old new

-- What a run leaves in the list of places, by its entries and its unplugs at each port. The ports are below 4; places
-- above them stay, and so does the list's length.
pub record PlacesAfter {B : Type 0} (account : B → Account) (entries : ℕ → List (ℕ × ℕ)) (unplugged : ℕ → Bool)
    (old new : List (Option B)) : Type 0 where
  pub same_length : length new ≡ length old
  pub above : (k : ℕ) → 4 ≤ k → device_at new k ≡ device_at old k
  pub ports : (k : ℕ) → k < 4 → PlaceAfter account (entries k) (unplugged k) (device_at old k) (device_at new k)

-- the same by the device's mark: with one it has failed
abbrev pub Taking : {B : Type 0} → (B → Account) → List (ℕ × ℕ) → Bool → B → B → Type 0
Taking account entries false old new = Received account entries old new
Taking account entries true old new = FailedAmong account entries old new

-- what has become of a place in the midst of a run, by its mark too
abbrev pub PlaceFollows : {B : Type 0} → (B → Account) → List (ℕ × ℕ) → Bool → Bool → Option B → Option B → Type 0
PlaceFollows account entries unplugged mark None new = new ≡ None
PlaceFollows account entries unplugged mark (Some old) None = unplugged ≡ true
PlaceFollows account entries unplugged mark (Some old) (Some new) =
    (unplugged ≡ false) × Taking account entries mark old new

-- What is plugged in now follows by these moves from the places at the start.
pub record FollowsMoves {B : Type 0} (account : B → Account) (moves : List PortMove) (start : List (Option B))
    (now : Plugged B) : Type 0 where
  pub same_length : length now.places ≡ length start
  pub above : (k : ℕ) → 4 ≤ k → device_at now.places k ≡ device_at start k
  pub ports : (k : ℕ) → k < 4 → PlaceFollows account (entries_at moves k) (unplugged_at moves k) (mark_at now.marks k)
      (device_at start k) (device_at now.places k)
