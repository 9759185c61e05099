-- Where pieces stand, by the forms of their branches. Addresses are counted from the function's first byte.
use Rattle.std.specs.Prelude.{ℕ, zero, suc, ◌+◌, ◌*◌, ◌/◌, List, [], ◌∷◌, ◌++◌, length, Bool, true, false, ◌&&◌, ◌==◌, nat_lt, if◌then◌else◌}
use Rattle.thumb_layout.specs.declared.pieces.Piece.{Piece}
use Rattle.thumb_layout.specs.declared.pieces.Piece.TheVariants.{Label, Go, CallTo, Number, Address}
use Rattle.thumb_layout.specs.declared.pieces.Entry.{Entry}
use Rattle.thumb_layout.specs.declared.pieces.Entry.TheVariants.{Value, Of}
use Rattle.thumb_layout.specs.Pieces.{goes_on, is_small}

-- The bytes of a piece. A branch has form 0, the shortest, 1 or 2.
abbrev pub size : Piece → ℕ → ℕ
size (Label label) form = 0
size (Go cond label) form = 2 + 2 * form
size (CallTo function) form = 4
size _ form = 2

-- A load that waits for its entry in a pool: its address and its entry.
pub record Wait : Type 0 where
  pub at : ℕ
  pub entry : Entry

-- The load that a piece at an address is.
abbrev pub loads_at : Piece → ℕ → List Wait
loads_at (Number rd value) at = if is_small value then [] else record { at = at; entry = Value value } ∷ []
loads_at (Address rd what) at = record { at = at; entry = Of what } ∷ []
loads_at _ at = []

-- The next multiple of 4.
abbrev pub up : ℕ → ℕ
up n = (n + 3) / 4 * 4

-- The address that a load's offset counts from: PC as it is read, aligned (ARM DDI 0419, A6.7.27).
abbrev pub counts_from : ℕ → ℕ
counts_from at = (at + 4) / 4 * 4

-- A pool that begins at an address has no entry past 1020 bytes from where its load counts.
abbrev pub reaches : ℕ → List Wait → Bool
reaches start [] = true
reaches start (w ∷ ws) = (if nat_lt (counts_from w.at + 1020) start then false else true) && reaches (start + 4) ws

-- Where the pool behind a piece that ends at an address begins: where the piece goes on, behind a branch over it.
abbrev pub pool_behind : Bool → ℕ → ℕ
pool_behind goes_on at = if goes_on then up (at + 2) else up at

-- The address behind a pool, which stands only where a load waits.
abbrev pub over_pool : ℕ → List Wait → ℕ
over_pool at [] = at
over_pool at (w ∷ ws) = up at + 4 * length (w ∷ ws)

-- Where a piece stands: where it is entered, its own address, and the address behind it; the loads whose entries stand in the
-- pool before it, behind a branch over it, and in the pool after it; and the loads that wait behind these.
pub record Chunk : Type 0 where
  pub at : ℕ
  pub body : ℕ
  pub behind : ℕ
  pub before : List Wait
  pub after : List Wait
  pub waiting : List Wait

-- Where the next piece is entered.
abbrev pub end_of : Chunk → ℕ
end_of c = over_pool c.behind c.after

-- A piece put at an address, where loads wait. Where it doesn't go on, their pool stands behind it.
abbrev pub put : Bool → Piece → ℕ → ℕ → ℕ → List Wait → List Wait → Chunk
put goes_on x form at body before waits =
    let all = waits ++ loads_at x body in
    let behind = body + size x form in
    if goes_on then record { at = at; body = body; behind = behind; before = before; after = []; waiting = all }
    else record { at = at; body = body; behind = behind; before = before; after = all; waiting = [] }

-- A piece that is entered at an address, where loads wait. Their pool stands before it where one behind it would put an entry too far.
abbrev pub chunk : Piece → ℕ → List Wait → ℕ → Chunk
chunk x form waits at =
    if reaches (pool_behind (goes_on x) (at + size x form)) (waits ++ loads_at x at)
    then put (goes_on x) x form at at [] waits
    else put (goes_on x) x form at (over_pool (at + 2) waits) waits []

abbrev pub form_of : List ℕ → ℕ
form_of [] = 0
form_of (f ∷ fs) = f

abbrev pub rest_of : List ℕ → List ℕ
rest_of [] = []
rest_of (f ∷ fs) = fs

-- The chunks of pieces from an address on, where loads wait, and one for their end.
abbrev pub pass : List Piece → List ℕ → List Wait → ℕ → List Chunk
pass [] forms waits at = record { at = at; body = at; behind = at; before = []; after = waits; waiting = [] } ∷ []
pass (x ∷ xs) forms waits at =
    let c = chunk x (form_of forms) waits at in
    c ∷ pass xs (rest_of forms) c.waiting (end_of c)

-- The chunks of a function's pieces.
abbrev pub chunks : List Piece → List ℕ → List Chunk
chunks xs forms = pass xs forms [] 0

-- Chunk i.
abbrev pub nowhere : Chunk
nowhere = record { at = 0; body = 0; behind = 0; before = []; after = []; waiting = [] }

abbrev pub nth : List Chunk → ℕ → Chunk
nth [] i = nowhere
nth (c ∷ cs) zero = c
nth (c ∷ cs) (suc i) = nth cs i

-- Which piece a label is: the first that is this label.
abbrev pub label_index : List Piece → ℕ → ℕ
label_index [] label = 0
label_index (Label other ∷ xs) label = if other == label then 0 else suc (label_index xs label)
label_index (x ∷ xs) label = suc (label_index xs label)

-- The address of a label.
abbrev pub label_at : List Piece → List Chunk → ℕ → ℕ
label_at xs cs label = (nth cs (label_index xs label)).at
