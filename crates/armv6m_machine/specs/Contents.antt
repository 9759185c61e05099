-- The content of a memory, byte by byte.
use Rattle.std.specs.Prelude.{◌≡◌, ℕ, zero, suc, ◌+◌, ◌*◌, ◌/◌, ◌%◌, ◌^◌, ◌<◌, ◌≤◌, ◌⊎◌}
use Rattle.thumb_code.specs.Forms.{Access}
use Rattle.thumb_code.specs.Memory.{Memory}

-- The byte at an address, as a load of one byte gives it.
abbrev pub byte_at : {S : Type 0} → Memory S → S → ℕ → ℕ
byte_at m s x = (m.load s (record { at = x; bytes = 1 })).0

-- So many bytes from an address on as a number, low byte first (ARM DDI 0419, A3.3).
abbrev pub number_from : (ℕ → ℕ) → ℕ → ℕ → ℕ
number_from f at zero = 0
number_from f at (suc n) = f at + 256 * number_from f (at + 1) n

-- The bytes of an access become the low bytes of the word, and no other byte changes.
pub record StoresAlone {S : Type 0} (m : Memory S) (old new : S) (a : Access) (word : ℕ) : Type 0 where
  pub there : (i : ℕ) → i < a.bytes → byte_at m new (a.at + i) ≡ word / 256 ^ i % 256
  pub elsewhere : (x : ℕ) → (x < a.at) ⊎ (a.at + a.bytes ≤ x) → byte_at m new x ≡ byte_at m old x
