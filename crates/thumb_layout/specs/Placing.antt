-- What the code keeps of loads that wait, and of chunks.
use Rattle.std.specs.Prelude.{◌≡◌, ℕ, suc, ◌+◌, ◌*◌, List, [], ◌∷◌, ◌++◌, length, map, Bool, true, false, ◌==◌, nat_lt, if◌then◌else◌, Option, Some, None, unwrap_or}
use Rattle.std.specs.BTreeMap.{BTreeMap, get}
use Rattle.std.specs.Ordering.{nat_cmp}
use Rattle.thumb_layout.specs.declared.pieces.Piece.{Piece}
use Rattle.thumb_layout.specs.declared.pieces.Piece.TheVariants.{Label, Go}
use Rattle.thumb_layout.specs.declared.waits.Waits.{Waits}
use Rattle.thumb_layout.specs.declared.places.PieceOffsets.{PieceOffsets}
use Rattle.thumb_layout.specs.declared.places.Placed.{Placed}
use Rattle.thumb_layout.specs.Layout.{Wait, Chunk, size, loads_at, reaches, pool_behind, over_pool, chunks, end_of, nth, label_index}
use Rattle.thumb_layout.specs.Pieces.{goes_on}
use Rattle.thumb_layout.specs.Rounds.{IsLimited}
use Rattle.thumb_layout.specs.Cells.{pool_at, pools}

-- How many wait, and that a pool of them reaches exactly where it ends in time.
abbrev pub Counts : Waits → List Wait → Type 0
Counts w waits =
    (w.count ≡ length waits) × ((start : ℕ) → reaches start waits ≡ (if w.count == 0 then true
    else if nat_lt w.latest_end (start + 4 * w.count) then false else true))

abbrev pub place_of : Chunk → PieceOffsets
place_of c = record { at = c.at; body = c.body }

-- Where the pools of a chunk begin.
abbrev pub chunk_pools : Chunk → List ℕ
chunk_pools c = pool_at (c.at + 2) c.before ++ pool_at c.behind c.after

-- A pool stands before a piece that is entered at an address, where loads wait: one behind it would put an entry too far.
abbrev pub is_late : Piece → ℕ → List Wait → ℕ → Bool
is_late x form waits at =
    if reaches (pool_behind (goes_on x) (at + size x form)) (waits ++ loads_at x at) then false else true

abbrev pub pools_before : Piece → ℕ → List Wait → ℕ → List ℕ
pools_before x form waits at = if is_late x form waits at then pool_at (at + 2) waits else []

-- The piece stands here, and these loads wait with its own.
abbrev pub IsEntered : Piece → ℕ → List Wait → ℕ → ℕ → Waits → Type 0
IsEntered x form waits at body w =
    (body ≡ (if is_late x form waits at then over_pool (at + 2) waits else at))
    × Counts w ((if is_late x form waits at then [] else waits) ++ loads_at x body)

-- The next piece is entered here, and these loads wait there.
abbrev pub IsPassed : Chunk → PieceOffsets → ℕ → Waits → Type 0
IsPassed c place at w = (place ≡ place_of c) × (at ≡ end_of c) × Counts w c.waiting

-- A form for each piece, none past its longest.
pub record IsProper (xs : List Piece) (fs : List ℕ) : Type 0 where
  pub as_long : length fs ≡ length xs
  pub limited : IsLimited xs fs

-- The places, pools and end of the pieces' chunks.
pub record IsPlaced (xs : List Piece) (fs : List ℕ) (p : Placed) : Type 0 where
  pub places : p.places.items ≡ map place_of (chunks xs fs)
  pub pools : p.pools.items ≡ pools (chunks xs fs)
  pub end : p.end ≡ end_of (nth (chunks xs fs) (length xs))

-- The piece that a branch goes to.
abbrev pub target_of : List Piece → Piece → ℕ
target_of xs (Go cond label) = label_index xs label
target_of xs _ = 0

abbrev pub targets_of : List Piece → List ℕ
targets_of xs = map (target_of xs) xs

-- The first piece that is a label, where the first of these has this number.
abbrev pub found : ℕ → List Piece → ℕ → Option ℕ
found n [] label = None
found n (Label other ∷ xs) label = if other == label then Some n else found (suc n) xs label
found n (x ∷ xs) label = found (suc n) xs label

-- The map has the piece of each label among these, the first of which has this number.
abbrev pub Indexes : BTreeMap ℕ ℕ → ℕ → List Piece → Type 0
Indexes map n xs = (label : ℕ) → get nat_cmp map label ≡ found n xs label

-- The piece that a branch goes to, among these pieces; 0 where none is its label.
abbrev pub target_in : List Piece → Piece → ℕ
target_in xs (Go cond label) = unwrap_or (found 0 xs label) 0
target_in xs _ = 0
