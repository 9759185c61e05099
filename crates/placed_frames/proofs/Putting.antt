-- Words that are put into places of the running function, and parameters that are moved to theirs.
use Rattle.std.specs.Prelude.{◌≡◌, ℕ, zero, suc, ◌+◌, ◌-◌, ◌≤◌, length, slice_index, slice_set}
use Rattle.flat_ir.specs.declared.ops.Function.{Function}
use Rattle.register_assign.specs.declared.places.Place.{Place}
use Rattle.register_assign.specs.declared.places.Place.TheVariants.{Reg, Slot, Incoming}
use Rattle.placed_frames.specs.Places.{Store, words, value}

-- a word put into a place of the running function, and the word there
abbrev pub put : Function → Place → ℕ → Store → Store
put f (Reg r) v s = record s { kept = slice_set s.kept (r - 4) v }
put f (Slot j) v s = record s { words = slice_set s.words (f.outgoing + j) v }
put f (Incoming j) v s = record s { words = slice_set s.words (words f + j) v }

abbrev pub get : Function → Place → Store → ℕ
get f p s = value f s.kept s.words 0 p

-- A parameter that doesn't stay where it comes in is moved to its place; so are those from t on, n of them.
abbrev pub move : Function → Place → ℕ → Store → Store
move f (Incoming j) t s = s
move f (Reg r) t s = put f (Reg r) (slice_index s.words (words f + t)) s
move f (Slot j) t s = put f (Slot j) (slice_index s.words (words f + t)) s

abbrev pub moved : Function → (ℕ → Place) → ℕ → ℕ → Store → Store
moved f place t zero s = s
moved f place t (suc n) s = moved f place (t + 1) n (move f (place t) t s)

-- the running function's frame, its four registers and its incoming words are there
pub record IsRoom (f : Function) (s : Store) : Type 0 where
  pub four : length s.kept ≡ 4
  pub long : words f + f.params ≤ length s.words
