-- The words of a record, of those for which there is room.
use Rattle.std.proofs.Common.{◌≡◌, ℕ, ◌<◌, ◌≤◌, List, length, take, slice_set, sym, ap, ◌∙◌, arith, length-take}
use Rattle.std.proofs.Math.Seq.{take-set-lt}

pub set_below : (n at w : ℕ) (words : List ℕ) → at < n → take n (slice_set words at w) ≡ slice_set (take n words) at w
set_below n at w words l = take-set-lt n words at w l

pub none_above : (n at : ℕ) (words : List ℕ) → n ≤ at → at < length (take n words) → ⊥
none_above n at words l m = let e = length-take n words in omega arith
