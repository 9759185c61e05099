-- The bytes of a layout: what stands in it one after another, and what is open in it.
use Rattle.std.specs.Prelude.{ℕ, ◌+◌, ◌*◌, ◌/◌, ◌%◌, ◌^◌, ◌-◌, ℤ, pos, negsuc, List, [], ◌∷◌, ◌++◌, length, true, false, ◌==◌, nat_lt, if◌then◌else◌}
use Rattle.thumb_code.specs.declared.halfwords.Half.{Half}
use Rattle.thumb_code.specs.declared.halfwords.Half.TheVariants.{One, Two}
use Rattle.thumb_code.specs.declared.instructions.Instr.{Instr}
use Rattle.thumb_code.specs.declared.instructions.Instr.TheVariants.{MovImm, LdrPc, BCond, B, Bl}
use Rattle.thumb_code.specs.RegisterFile.{is_odd}
use Rattle.thumb_code.specs.Table.{half, Fits}
use Rattle.thumb_layout.specs.declared.pieces.What.TheVariants.{Function}
use Rattle.thumb_layout.specs.declared.pieces.Piece.{Piece}
use Rattle.thumb_layout.specs.declared.pieces.Piece.TheVariants.{Plain, Label, Go, CallTo, Number, Address}
use Rattle.thumb_layout.specs.declared.pieces.Entry.{Entry}
use Rattle.thumb_layout.specs.declared.pieces.Entry.TheVariants.{Value, Of}
use Rattle.thumb_layout.specs.declared.laid.Fix.{Fix}
use Rattle.thumb_layout.specs.declared.laid.Laid.{Laid}
use Rattle.thumb_layout.specs.Pieces.{always, is_small}
use Rattle.thumb_layout.specs.Layout.{Wait, Chunk, up, counts_from, form_of, rest_of, label_at}
use Rattle.thumb_layout.specs.Rounds.{forms, layout}

-- An instruction, a BL to a function, a word of a pool, or two bytes that align one.
pub data Cell : Type 0 where
  Ins : Instr → Cell
  Call : ℕ → Cell
  Word : Entry → Cell
  Gap : Cell

-- Bytes from the low one on.
abbrev pub half_bytes : ℕ → List ℕ
half_bytes n = n % 256 ∷ n / 256 ∷ []

abbrev pub word_bytes : ℕ → List ℕ
word_bytes n = n % 256 ∷ n / 2 ^ 8 % 256 ∷ n / 2 ^ 16 % 256 ∷ n / 2 ^ 24 % 256 ∷ []

abbrev pub spelled : Half → List ℕ
spelled (One a) = half_bytes a
spelled (Two a b) = half_bytes a ++ half_bytes b

-- The bytes of a cell. What is open is 0: the word of a thing, and the offset of a BL.
abbrev pub cell_bytes : Cell → List ℕ
cell_bytes (Ins instr) = spelled (half instr)
cell_bytes (Call function) = spelled (half (Bl (pos 0)))
cell_bytes (Word (Value value)) = word_bytes value
cell_bytes (Word (Of what)) = word_bytes 0
cell_bytes Gap = 0 ∷ 0 ∷ []

-- What is open at a cell.
abbrev pub cell_fixes : ℕ → Cell → List Fix
cell_fixes at (Call function) = record { at = at; what = Function function; call = true } ∷ []
cell_fixes at (Word (Of what)) = record { at = at; what = what; call = false } ∷ []
cell_fixes at _ = []

-- Laid code with cells behind it.
abbrev pub with_cell : Laid → Cell → Laid
with_cell l c = record { bytes = l.bytes ++ cell_bytes c; fixes = l.fixes ++ cell_fixes (length l.bytes) c }

abbrev pub with_cells : Laid → List Cell → Laid
with_cells l [] = l
with_cells l (c ∷ cs) = with_cells (with_cell l c) cs

-- Two bytes where an address is no multiple of 4.
abbrev pub gap : ℕ → List Cell
gap at = if at % 4 == 0 then [] else Gap ∷ []

abbrev pub entries : List Wait → List Entry
entries [] = []
entries (w ∷ ws) = w.entry ∷ entries ws

abbrev pub words : List Wait → List Cell
words [] = []
words (w ∷ ws) = Word w.entry ∷ words ws

-- The pool at an address, which stands only where a load waits.
abbrev pub pool : ℕ → List Wait → List Cell
pool at [] = []
pool at (w ∷ ws) = gap at ++ words (w ∷ ws)

-- The offset of a branch from an address to another.
abbrev pub offset : ℕ → ℕ → ℤ
offset at to = if nat_lt to (at + 4) then negsuc (at + 3 - to) else pos (to - (at + 4))

-- A branch over a pool, and the pool.
abbrev pub over : ℕ → ℕ → List Wait → List Cell
over at to [] = []
over at to (w ∷ ws) = Ins (B (offset at to)) ∷ pool (at + 2) (w ∷ ws)

-- The opposite condition.
abbrev pub opposite : ℕ → ℕ
opposite cond = if is_odd cond then cond - 1 else cond + 1

-- A branch from an address to another, by its form.
abbrev pub branch : ℕ → ℕ → ℕ → ℕ → List Cell
branch cond form at to =
    if cond == always then (if form == 0 then Ins (B (offset at to)) ∷ [] else Ins (Bl (offset at to)) ∷ [])
    else if form == 0 then Ins (BCond cond (offset at to)) ∷ []
    else if form == 1 then Ins (BCond (opposite cond) (offset at (at + 4))) ∷ Ins (B (offset (at + 2) to)) ∷ []
    else Ins (BCond (opposite cond) (offset at (at + 6))) ∷ Ins (Bl (offset (at + 2) to)) ∷ []

-- A load at an address of the entry at another.
abbrev pub load : ℕ → ℕ → ℕ → Cell
load rd at entry_at = Ins (LdrPc rd ((entry_at - counts_from at) / 4))

-- A piece at an address; a load's entry is at another.
abbrev pub piece_cells : (ℕ → ℕ) → Piece → ℕ → ℕ → ℕ → List Cell
piece_cells to (Plain instr) form at entry_at = Ins instr ∷ []
piece_cells to (Label label) form at entry_at = []
piece_cells to (Go cond label) form at entry_at = branch cond form at (to label)
piece_cells to (CallTo function) form at entry_at = Call function ∷ []
piece_cells to (Number rd value) form at entry_at =
    if is_small value then Ins (MovImm rd value) ∷ [] else load rd at entry_at ∷ []
piece_cells to (Address rd what) form at entry_at = load rd at entry_at ∷ []

-- Where the pools of chunks begin.
abbrev pub pool_at : ℕ → List Wait → List ℕ
pool_at at [] = []
pool_at at (w ∷ ws) = up at ∷ []

abbrev pub pools : List Chunk → List ℕ
pools [] = []
pools (c ∷ cs) = pool_at (c.at + 2) c.before ++ (pool_at c.behind c.after ++ pools cs)

abbrev pub first : List ℕ → ℕ
first [] = 0
first (n ∷ ns) = n

-- Where the entry of the last load that waits behind a chunk is: in the next pool, as its loads wait.
abbrev pub last_entry : Chunk → List Chunk → ℕ
last_entry c cs = first (pools cs) + 4 * (length c.waiting - 1)

-- The cells of pieces, by their forms and chunks.
abbrev pub cells : (ℕ → ℕ) → List Piece → List ℕ → List Chunk → List Cell
cells to xs fs [] = []
cells to [] fs (c ∷ cs) = pool c.behind c.after
cells to (x ∷ xs) fs (c ∷ cs) =
    over c.at c.body c.before ++ (piece_cells to x (form_of fs) c.body (last_entry c cs)
    ++ (pool c.behind c.after ++ cells to xs (rest_of fs) cs))

-- The pieces' code.
abbrev pub nothing : Laid
nothing = record { bytes = []; fixes = [] }

abbrev pub cells_of : List Piece → List Cell
cells_of xs = cells (label_at xs (layout xs)) xs (forms xs) (layout xs)

abbrev pub laid : List Piece → Laid
laid xs = with_cells nothing (cells_of xs)

-- Every instruction's fields are in range.
abbrev pub FitsCell : Cell → Type 0
FitsCell (Ins instr) = Fits instr
FitsCell _ = Unit {0}

abbrev pub CellsFit : List Cell → Type 0
CellsFit [] = Unit {0}
CellsFit (c ∷ cs) = FitsCell c × CellsFit cs
