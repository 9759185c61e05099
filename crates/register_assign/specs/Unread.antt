-- Which results nobody reads, and which conditions nobody reads again.
use Rattle.std.specs.Prelude.{◌≡◌, ℕ, zero, suc, ◌<◌, ◌≤◌, Bool, true, false, not, ◌&&◌, ◌||◌, Option, Some, None, List, length, slice_get}
use Rattle.std.specs.List.{list_any}
use Rattle.flat_ir.specs.declared.ops.Op.{Op}
use Rattle.flat_ir.specs.declared.ops.Op.TheVariants.{Branch}
use Rattle.flat_ir.specs.declared.ops.Function.{Function}
use Rattle.flat_ir.specs.Ops.{reads, writes, goes_on}
use Rattle.flat_ir.specs.Liveness.{IsLiveAfter}
use Rattle.register_assign.specs.Marks.{is_among, is_the, is_marked}

-- the op at a place reads a temporary; or it doesn't write it, and a place where a run goes on passes a test
abbrev pub is_read_by : Option Op → ℕ → ℕ → (ℕ → Bool) → Bool
is_read_by None t at later = false
is_read_by (Some op) t at later =
    is_among t (reads op) || (not (is_the t (writes op)) && list_any later (goes_on at op))

-- from a place on a temporary is read within so many ops, before it is written
abbrev pub is_read_within : ℕ → List Op → ℕ → ℕ → Bool
is_read_within zero ops t at = false
is_read_within (suc n) ops t at = is_read_by (slice_get ops at) t at (is_read_within n ops t)

-- a temporary isn't read behind an op at a place. A path that passes no op twice has no more ops than there are.
abbrev pub is_left : List Op → ℕ → Op → ℕ → Bool
is_left ops at op t = not (list_any (is_read_within (length ops) ops t) (goes_on at op))

-- the temporary that an op writes, or that a branch tests
abbrev pub written_or_tested : Op → Option ℕ
written_or_tested (Branch when target) = Some when
written_or_tested op = writes op

abbrev pub is_left_by : List Op → ℕ → Op → Option ℕ → Bool
is_left_by ops at op None = false
is_left_by ops at op (Some t) = is_left ops at op t

abbrev pub is_unread_of : List Op → ℕ → Option Op → Bool
is_unread_of ops at None = false
is_unread_of ops at (Some op) = is_left_by ops at op (written_or_tested op)

-- nobody reads the result of the function's op at a place, nor, where a branch is there, what it tests after it
unfoldable pub is_unread : Function → ℕ → Bool
is_unread f at = is_unread_of f.ops at (slice_get f.ops at)

-- the same in the words of liveness: the op there writes a temporary, or tests it, that isn't live after it
pub record HasDeadResult (f : Function) (at : ℕ) : Type 0 where
  pub op : Op
  pub to : ℕ
  pub there : slice_get f.ops at ≡ Some op
  pub handles : written_or_tested op ≡ Some to
  pub dead : IsLiveAfter f.ops to at → ⊥

-- of the ops that write or test one of the first n temporaries it is noted whether nobody reads it after them, and of no others
pub record AreNoted (ops : List Op) (n : ℕ) (notes : List Bool) : Type 0 where
  pub long : length notes ≡ length ops
  pub noted : (at t : ℕ) (op : Op) → slice_get ops at ≡ Some op → written_or_tested op ≡ Some t → t < n
      → is_marked notes at ≡ is_left ops at op t
  pub others : (at : ℕ) (op : Op) → slice_get ops at ≡ Some op → ((t : ℕ) → written_or_tested op ≡ Some t → n ≤ t)
      → is_marked notes at ≡ false

-- those of the ops that write or test a temporary are noted anew, of ops up to one
pub record AreNotedAnew (ops : List Op) (t upto : ℕ) (old new : List Bool) : Type 0 where
  pub long : length new ≡ length old
  pub noted : (at : ℕ) (op : Op) → at < upto → slice_get ops at ≡ Some op → is_the t (written_or_tested op) ≡ true
      → is_marked new at ≡ is_left ops at op t
  pub others : (at : ℕ) (op : Op) → slice_get ops at ≡ Some op → is_the t (written_or_tested op) ≡ false
      → is_marked new at ≡ is_marked old at
