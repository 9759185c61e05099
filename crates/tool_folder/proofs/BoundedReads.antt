-- What a bounded read finds.
use Rattle.std.proofs.Common.{◌≡◌, ℕ, ◌<◌, ◌≤◌, ◌+◌, ◌-◌, List, ◌++◌, length, length-append, length-drop, length-take-le, take, drop, sym, ap, refl, subst, arith}
use Rattle.std.specs.Prelude.{Option, Some, None, IfSome}
use Rattle.std.specs.Io.KnownBytes.{Consumes}
use Rattle.std.proofs.KnownBytes.{Consumes-trans}
use Rattle.tool_folder.specs.Reading.{Gathers, ReadsUpTo}

-- a reader of which more was read than the limit had more than the limit
pub too-long-shown : (told now : Option (List ℕ)) (whole : List ℕ) (limit : ℕ) → limit < length whole → Consumes told now whole
    → IfSome told (λ left. (bytes : List ℕ) × (Some left ≡ Some bytes) × (limit < length bytes))
too-long-shown None now whole limit h r = tt
too-long-shown (Some xs) None whole limit h r = absurd r
too-long-shown (Some xs) (Some ys) whole limit h r =
    let n : length (whole ++ ys) ≡ length whole + length ys = length-append whole ys in
    let m : length xs ≡ length (whole ++ ys) = ap length r in
    (xs, refl, omega (arith, h, n, m))

-- a read behind those before
pub reads-then : (told mid now : Option (List ℕ)) (whole : List ℕ) (room most : ℕ) → length whole + room ≤ most → Consumes told mid whole → ReadsUpTo room mid now → ReadsUpTo most told now
reads-then told mid now whole room most h before r =
    let n : length (whole ++ r.0) ≡ length whole + length r.0 = length-append whole r.0 in
    (whole ++ r.0, Consumes-trans told mid now whole r.0 before r.1, omega (arith, h, n, r.2))

-- and what is gathered then
pub gathers-then : (told mid now : Option (List ℕ)) (whole whole' : List ℕ) (count : ℕ) → Consumes told mid whole → Gathers mid now count whole whole' → Consumes told now whole'
gathers-then told mid now whole whole' count before r = subst (λ x. Consumes told now x) (sym r.3) (Consumes-trans told mid now whole r.0 before r.1)

pub gathered-length : (mid now : Option (List ℕ)) (whole whole' : List ℕ) (count : ℕ) → Gathers mid now count whole whole' → length whole' ≡ length whole + count
gathered-length mid now whole whole' count r =
    let n : length (whole ++ r.0) ≡ length whole + length r.0 = length-append whole r.0 in
    let m : length whole' ≡ length (whole ++ r.0) = ap length r.3 in
    omega (arith, n, m, r.2)

-- a front that was read into leaves the length
pub same-length : (old front : List ℕ) (n : ℕ) → n ≤ length old → length front ≡ length (take n old) → length (front ++ drop n old) ≡ length old
same-length old front n h e =
    let whole : length (front ++ drop n old) ≡ length front + length (drop n old) = length-append front (drop n old) in
    let short : length (take n old) ≡ n = length-take-le n old h in
    let rest : length (drop n old) ≡ length old - n = length-drop n old in
    omega (arith, whole, short, rest, e, h)
