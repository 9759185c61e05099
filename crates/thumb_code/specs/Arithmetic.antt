-- Sums, shifts, the flags that they set (ARM DDI 0419, A2.2.1), and the conditions of a branch over these (A6.3, table
-- A6-1). The flags are a number of four bits: N is 8, Z is 4, C is 2, V is 1.
use Rattle.std.specs.Prelude.{ℕ, ◌+◌, ◌*◌, ◌/◌, ◌%◌, ◌^◌, ◌-◌, min, [], ◌∷◌, Bool, false, not, ◌&&◌, ◌==◌, nat_lt, if◌then◌else◌, slice_index_or}
use Rattle.thumb_code.specs.RegisterFile.{word, is_odd}

-- A truth as a bit.
abbrev pub bit_of : Bool → ℕ
bit_of b = if b then 1 else 0

-- Bit 31 of a word.
abbrev pub sign : ℕ → ℕ
sign v = v / 2 ^ 31

-- N and Z of a word; C and V stay.
abbrev pub nz : ℕ → ℕ → ℕ
nz flags v = sign v * 8 + bit_of (v == 0) * 4 + flags % 4

-- N and Z of a word, and C; V stays.
abbrev pub nzc : ℕ → ℕ → ℕ → ℕ
nzc flags v c = sign v * 8 + bit_of (v == 0) * 4 + c * 2 + flags % 2

-- C.
abbrev pub carry : ℕ → ℕ
carry flags = flags / 2 % 2

-- NOT of a word.
abbrev pub inverted : ℕ → ℕ
inverted y = 2 ^ 32 - 1 - y

-- The word of AddWithCarry.
abbrev pub sum_of : ℕ → ℕ → ℕ → ℕ
sum_of x y c = word (x + y + c)

-- The sum of two words with signs isn't a word with a sign: both signs are the same, and the sum's is the other. That
-- this is the manual's overflow of AddWithCarry, SInt(result) other than the sum with signs, is proved
-- (sums_overflow_where_signed_ones_do).
abbrev pub overflows : ℕ → ℕ → ℕ → Bool
overflows x y v = sign x == sign y && nat_lt (sign v + sign x) 2 && nat_lt 0 (sign v + sign x)

-- The flags of AddWithCarry.
abbrev pub sum_flags : ℕ → ℕ → ℕ → ℕ
sum_flags x y c =
    let v = sum_of x y c in
    sign v * 8 + bit_of (v == 0) * 4 + (x + y + c) / 2 ^ 32 * 2 + bit_of (overflows x y v)

-- A shift by n, at least 1, gives a word and the bit that was shifted out last: LSL_C, LSR_C, ASR_C and ROR_C.
abbrev pub lsl : ℕ → ℕ → ℕ × ℕ
lsl v n = (word (v * 2 ^ n), v * 2 ^ n / 2 ^ 32 % 2)

-- To the right, with zeros from the left.
abbrev pub lsr : ℕ → ℕ → ℕ × ℕ
lsr v n = (v / 2 ^ n, v / 2 ^ (n - 1) % 2)

-- From 32 places on every bit is the sign.
abbrev pub asr : ℕ → ℕ → ℕ × ℕ
asr v n = let m = min n 32 in (v / 2 ^ m + sign v * (2 ^ 32 - 2 ^ (32 - m)), v / 2 ^ (m - 1) % 2)

-- To the right, with the bits that are shifted out from the left.
abbrev pub ror : ℕ → ℕ → ℕ × ℕ
ror v n = let r = n % 32 in let x = v / 2 ^ r + word (v * 2 ^ (32 - r)) in (x, sign x)

-- The word and the flags after a shift by n. By 0 the word stays, and C too.
abbrev pub shifted : ℕ → (ℕ → ℕ → ℕ × ℕ) → ℕ → ℕ → ℕ × ℕ
shifted flags f v n = if n == 0 then (v, nz flags v) else ((f v n).0, nzc flags (f v n).0 (f v n).1)

-- An immediate shift to the right by 0 is by 32 (DecodeImmShift).
abbrev pub or_32 : ℕ → ℕ
or_32 n = if n == 0 then 32 else n

-- A number of so many bits, with its sign extended to a word (SignExtend).
abbrev pub signed : ℕ → ℕ → ℕ
signed bits v = if nat_lt v (2 ^ (bits - 1)) then v else v + (2 ^ 32 - 2 ^ bits)

-- The two bytes of a halfword, exchanged.
abbrev pub swapped : ℕ → ℕ
swapped v = v % 256 * 256 + v / 256 % 256

-- Both or neither.
abbrev pub is_same : Bool → Bool → Bool
is_same a b = if a then b else not b

-- The conditions of even numbers: EQ, CS, MI, VS, HI, GE, GT.
abbrev pub is_met : ℕ → ℕ → Bool
is_met flags cond =
    let n = is_odd (flags / 8) in let z = is_odd (flags / 4) in let c = is_odd (flags / 2) in let v = is_odd flags in
    slice_index_or (z ∷ c ∷ n ∷ v ∷ (c && not z) ∷ is_same n v ∷ (not z && is_same n v) ∷ []) (cond / 2) false

-- A condition of an odd number is the opposite of the one before it: NE, CC, PL, VC, LS, LT, LE.
abbrev pub holds : ℕ → ℕ → Bool
holds flags cond = if is_odd cond then not (is_met flags cond) else is_met flags cond
