-- The forms of branches, in rounds: all begin short, and in each round each branch that doesn't fit takes its next form.
use Rattle.std.specs.Prelude.{◌≡◌, ℕ, zero, suc, ◌+◌, ◌*◌, ◌≤◌, List, [], ◌∷◌, length, Bool, true, false, ◌&&◌, ◌==◌, nat_lt, if◌then◌else◌}
use Rattle.thumb_layout.specs.declared.pieces.Piece.{Piece}
use Rattle.thumb_layout.specs.declared.pieces.Piece.TheVariants.{Plain, Label, Go, CallTo}
use Rattle.thumb_layout.specs.Pieces.{always}
use Rattle.thumb_layout.specs.Layout.{Wait, Chunk, up, counts_from, end_of, nth, chunks, label_at}

-- A branch at an address reaches another: its offset counts from its address plus 4, and goes so far back and, but for two bytes, forth.
abbrev pub is_within : ℕ → ℕ → ℕ → Bool
is_within far at to = (if nat_lt (to + far) (at + 4) then false else true) && nat_lt to (at + 4 + far)

-- A branch of a form fits: BCond has 8 bits, counted in halfwords, and B has 11 (ARM DDI 0419, A6.7.10). A conditional branch of form 1
-- is a B behind the opposite condition, and of form 2 a BL there; a branch that is always taken has form 0, B, and 1, BL.
abbrev pub branch_fits : ℕ → ℕ → ℕ → ℕ → Bool
branch_fits cond form at to =
    if cond == always then (if form == 0 then is_within 2048 at to else true)
    else if form == 0 then is_within 256 at to
    else if form == 1 then is_within 2048 (at + 2) to
    else true

abbrev pub fits : (ℕ → ℕ) → Piece → Chunk → ℕ → Bool
fits to (Go cond label) c form = branch_fits cond form c.body (to label)
fits to _ c form = true

-- The forms after a round.
abbrev pub lengthened : (ℕ → ℕ) → List Piece → List Chunk → List ℕ → List ℕ
lengthened to [] cs fs = fs
lengthened to (x ∷ xs) [] fs = fs
lengthened to (x ∷ xs) (c ∷ cs) [] = []
lengthened to (x ∷ xs) (c ∷ cs) (f ∷ fs) = (if fits to x c f then f else f + 1) ∷ lengthened to xs cs fs

abbrev pub round : List Piece → List ℕ → List ℕ
round xs fs = lengthened (label_at xs (chunks xs fs)) xs (chunks xs fs) fs

abbrev pub rounds : List Piece → ℕ → List ℕ → List ℕ
rounds xs zero fs = fs
rounds xs (suc n) fs = rounds xs n (round xs fs)

-- All short.
abbrev pub short : List Piece → List ℕ
short [] = []
short (x ∷ xs) = 0 ∷ short xs

-- The forms at which all fit. No branch grows more than twice, so after so many rounds nothing changes.
abbrev pub forms : List Piece → List ℕ
forms xs = rounds xs (2 * length xs) (short xs)

-- What a round doesn't make smaller.
abbrev pub total : List ℕ → ℕ
total [] = 0
total (f ∷ fs) = f + total fs

-- Where the pieces stand at these forms, and how many bytes they take.
abbrev pub layout : List Piece → List Chunk
layout xs = chunks xs (forms xs)

abbrev pub bytes_of : List Piece → ℕ
bytes_of xs = end_of (nth (layout xs) (length xs))

-- Every branch fits.
abbrev pub AllFit : (ℕ → ℕ) → List Piece → List Chunk → List ℕ → Type 0
AllFit to (x ∷ xs) (c ∷ cs) (f ∷ fs) = (fits to x c f ≡ true) × AllFit to xs cs fs
AllFit to xs cs fs = Unit {0}

-- Each entry of a pool from an address on is at most 1020 bytes from where its load counts.
abbrev pub AllReach : ℕ → List Wait → Type 0
AllReach start [] = Unit {0}
AllReach start (w ∷ ws) = (start ≤ counts_from w.at + 1020) × AllReach (start + 4) ws

abbrev pub PoolsReach : List Chunk → Type 0
PoolsReach [] = Unit {0}
PoolsReach (c ∷ cs) = AllReach (up (c.at + 2)) c.before × AllReach (up c.behind) c.after × PoolsReach cs

-- The longest form of a piece.
abbrev pub limit : Piece → ℕ
limit (Go cond label) = if cond == always then 1 else 2
limit _ = 0

-- No form is past the longest.
abbrev pub IsLimited : List Piece → List ℕ → Type 0
IsLimited [] fs = Unit {0}
IsLimited (x ∷ xs) [] = Unit {0}
IsLimited (x ∷ xs) (f ∷ fs) = (f ≤ limit x) × IsLimited xs fs

-- At most so many bytes: a branch has at most 6, and a load brings its entry, two bytes of alignment and a branch over the pool.
abbrev pub most : Piece → ℕ
most (Plain instr) = 2
most (Label label) = 0
most (Go cond label) = 6
most (CallTo function) = 4
most _ = 10

abbrev pub total_most : List Piece → ℕ
total_most [] = 0
total_most (x ∷ xs) = most x + total_most xs

-- How many pieces have bytes. Each of them has two at least.
abbrev pub has_bytes : Piece → ℕ
has_bytes (Label label) = 0
has_bytes _ = 1

abbrev pub counted : List Piece → ℕ
counted [] = 0
counted (x ∷ xs) = has_bytes x + counted xs
