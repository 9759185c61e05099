-- What is known of a device, what it does with a list of entries, and how it fails.
use Rattle.std.specs.Prelude.{◌≡◌, ◌≤◌, ◌+◌, ℕ, List, length, Option}
use Rattle.sts_base.specs.Faults.{Rose}
use Rattle.board_ports.specs.Counts.{some_more}
use Rattle.board_ports.specs.Logs.{Logs, LogsFirst}

-- The moments and words that were written to a device, where it tells them, how often it has failed, and how often it was written to.
pub record Account : Type 0 where
  pub log : Option (List (ℕ × ℕ))
  pub faults : ℕ
  pub writes : ℕ

-- A device took these entries in their order, each in one write, and had no fault.
pub record Received {B : Type 0} (account : B → Account) (entries : List (ℕ × ℕ)) (old new : B) : Type 0 where
  pub logged : Logs (account old).log (account new).log entries
  pub kept : (account new).faults ≡ (account old).faults
  pub once : (account new).writes ≡ some_more (length entries) (account old).writes

-- A device took the first of these entries and then failed: its count of faults rose, and it was written to at most once for each.
pub record FailedAmong {B : Type 0} (account : B → Account) (entries : List (ℕ × ℕ)) (old new : B) : Type 0 where
  pub first : LogsFirst (account old).log (account new).log entries
  pub later : (account old).faults ≤ (account new).faults
  pub rose : Rose (account old).faults (account new).faults
  pub most : (account new).writes ≤ (account old).writes + length entries

-- A device failed to take a word, or to let go of those that it held back: its log stayed, and its count of faults rose.
pub record Failed {B : Type 0} (account : B → Account) (old new : B) : Type 0 where
  pub stays : (account new).log ≡ (account old).log
  pub later : (account old).faults ≤ (account new).faults
  pub rose : Rose (account old).faults (account new).faults
