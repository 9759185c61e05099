-- When a flash holds pieces at places, and what a machine then does at each.
use Rattle.std.specs.Prelude.{◌≡◌, ℕ, ◌+◌, ◌*◌, ◌%◌, ◌<◌, List, ℤ, true, false, Some, slice_get, slice_set}
use Rattle.std.specs.Int.{cast_unsigned, w32}
use Rattle.thumb_code.specs.declared.instructions.Instr.{Instr}
use Rattle.thumb_code.specs.declared.instructions.Instr.TheVariants.{MovImm, LdrPc, BCond, B, Bl}
use Rattle.thumb_code.specs.declared.register_file.Registers.{Registers}
use Rattle.thumb_code.specs.RegisterFile.{word, aligned}
use Rattle.thumb_code.specs.Effect.{Effect, effect, go, loads, unsigned}
use Rattle.thumb_code.specs.Memory.{Done}
use Rattle.thumb_code.specs.Step.{Fetched, Found, stepped_at, ran}
use Rattle.thumb_code.specs.Run.{Executor, Still, runs}
use Rattle.thumb_code.specs.Map.{flash_end, flash_word}
use Rattle.thumb_layout.specs.declared.pieces.Piece.{Piece}
use Rattle.thumb_layout.specs.declared.pieces.Piece.TheVariants.{Plain, Label, Go, CallTo, Number, Address}
use Rattle.thumb_layout.specs.Pieces.{Places, always, is_small, piece_effect, goes_on}
use Rattle.thumb_layout.specs.Cells.{opposite}

-- Where a branch at an address goes by its offset.
abbrev pub moved : ℕ → ℤ → ℕ
moved at offset = word (word (at + 4) + cast_unsigned w32 offset)

-- An instruction stands at an address, and this is the address behind it.
abbrev pub Stands : (ℕ → Fetched) → ℕ → Instr → ℕ → Type 0
Stands fetch at instr behind = fetch at ≡ Found instr behind

-- A piece that is entered at an address stands there, or a branch to it does.
pub data Enters (fetch : ℕ → Fetched) (at body : ℕ) : Type 0 where
  AtOnce : at ≡ body → Enters fetch at body
  Over : (offset : ℤ) (n : ℕ) → Stands fetch at (B offset) n → moved at offset ≡ body → Enters fetch at body

-- A branch from an address to another: one instruction, or the opposite condition over one. What LR is after it is told: BL changes it.
pub data Branches (fetch : ℕ → Fetched) (at cond to behind : ℕ) (link : ℕ → ℕ) : Type 0 where
  Short : (o : ℤ) → cond < always → Stands fetch at (BCond cond o) behind → moved at o ≡ to → ((lr : ℕ) → link lr ≡ lr)
      → Branches fetch at cond to behind link
  Middle : (o o' : ℤ) (n : ℕ) → cond < always → Stands fetch at (BCond (opposite cond) o) n → moved at o ≡ behind
      → Stands fetch n (B o') behind → moved n o' ≡ to → ((lr : ℕ) → link lr ≡ lr)
      → Branches fetch at cond to behind link
  Far : (o o' : ℤ) (n : ℕ) → cond < always → Stands fetch at (BCond (opposite cond) o) n → moved at o ≡ behind
      → Stands fetch n (Bl o') behind → moved n o' ≡ to → ((lr : ℕ) → link lr ≡ word (behind + 1))
      → Branches fetch at cond to behind link
  Always : (o : ℤ) → cond ≡ always → Stands fetch at (B o) behind → moved at o ≡ to → ((lr : ℕ) → link lr ≡ lr)
      → Branches fetch at cond to behind link
  AlwaysFar : (o : ℤ) → cond ≡ always → Stands fetch at (Bl o) behind → moved at o ≡ to
      → ((lr : ℕ) → link lr ≡ word (behind + 1)) → Branches fetch at cond to behind link

-- The address from which LDR at an address loads.
abbrev pub loaded_from : ℕ → ℕ → ℕ
loaded_from at imm = aligned (word (at + 4)) + imm * 4

-- A load of a word into a register from a pool.
pub record Loads (fetch : ℕ → Fetched) (flash : List ℕ) (at rd value behind : ℕ) : Type 0 where
  pub imm : ℕ
  pub stands : Stands fetch at (LdrPc rd imm) behind
  pub inside : word (loaded_from at imm) < flash_end
  pub whole : word (loaded_from at imm) % 4 ≡ 0
  pub entry : flash_word flash (word (loaded_from at imm)) ≡ value

-- A number into a register.
pub data Numbers (fetch : ℕ → Fetched) (flash : List ℕ) (at rd value behind : ℕ) : Type 0 where
  Small : is_small value ≡ true → Stands fetch at (MovImm rd value) behind → Numbers fetch flash at rd value behind
  Large : is_small value ≡ false → Loads fetch flash at rd value behind → Numbers fetch flash at rd value behind

-- Piece i stands at an address.
abbrev pub PieceAt : (ℕ → Fetched) → List ℕ → Places → ℕ → ℕ → Piece → Type 0
PieceAt fetch flash p i at (Plain instr) = Stands fetch at instr (p.behind i)
PieceAt fetch flash p i at (Label label) = (p.at i ≡ p.behind i) × (at ≡ p.behind i)
PieceAt fetch flash p i at (Go cond label) = Branches fetch at cond (p.at (p.label label)) (p.behind i) (p.link i)
PieceAt fetch flash p i at (CallTo function) =
    (o : ℤ) × Stands fetch at (Bl o) (p.behind i) × (moved at o ≡ p.entry function)
PieceAt fetch flash p i at (Number rd value) = Numbers fetch flash at rd value (p.behind i)
PieceAt fetch flash p i at (Address rd what) = Loads fetch flash at rd (p.word_of what) (p.behind i)

-- The pieces stand in flash at these places: each is entered, perhaps over a pool; where it goes on the next one is entered behind
-- it; and a label that is gone to is the piece that it is said to be.
pub record Holds (fetch : ℕ → Fetched) (flash : List ℕ) (p : Places) (xs : List Piece) : Type 0 where
  pub each : (i : ℕ) (x : Piece) → slice_get xs i ≡ Some x
      → (body : ℕ) × Enters fetch (p.at i) body × PieceAt fetch flash p i body x
  pub next : (i : ℕ) (x : Piece) → slice_get xs i ≡ Some x → goes_on x ≡ true → p.behind i ≡ p.at (i + 1)
  pub labels : (i cond label : ℕ) → slice_get xs i ≡ Some (Go cond label)
      → slice_get xs (p.label label) ≡ Some (Label label)

-- What is asked of a memory, at the states that belong to an SP: an instruction without accesses only goes on, a word of flash is
-- loaded, and of the registers what an effect comes to hangs on SP alone.
pub record Reads {S : Type 0} (over : Executor S) (flash : List ℕ) (At : ℕ → S → Type 0) : Type 0 where
  pub same : (s s' : Registers) (t : S) (e : Effect) → s.sp ≡ s'.sp → over s t e ≡ over s' t e
  pub goes : (next : ℕ) (s : Registers) (t : S) → At s.sp t → over s t (go next s) ≡ Done (record s { pc = next }) t
  pub loads : (next rd a : ℕ) (s : Registers) (t : S) → At s.sp t → word a < flash_end → word a % 4 ≡ 0 →
      over s t (loads next s rd unsigned a 4)
      ≡ Done (record s { r = slice_set s.r rd (flash_word flash (word a)); pc = next }) t

-- An instruction that does the same whatever PC is.
abbrev pub IgnoresPc : Instr → Type 0
IgnoresPc instr = (next pc : ℕ) (s : Registers) → effect next (record s { pc = pc }) instr ≡ effect next s instr

-- How many instructions a piece takes at most; a branch over a pool is counted.
abbrev pub cost : Piece → ℕ
cost (Label label) = 0
cost (Go cond label) = 3
cost _ = 2

-- So many instructions, none of which asks for a service or faults, from registers and a memory to others.
abbrev pub Silent : {S : Type 0} → Executor S → (ℕ → Fetched) → ℕ → Registers → S → Registers → S → Type 0
Silent over fetch n s t s' t' = runs over fetch n s t ≡ Still s' t'

-- A piece means its effect: from its place the machine comes, in fewer instructions than it costs, all of them silent and without a
-- change of memory, to one whose step is that effect. A plain piece's own instruction is found there, and what follows
-- that one is what is after the piece, though a branch over a pool may come before it.
pub record Means {S : Type 0} (over : Executor S) (fetch : ℕ → Fetched) (p : Places) (i : ℕ) (x : Piece) (s : Registers)
    (t : S) : Type 0 where
  pub before : ℕ
  pub few : before < cost x
  pub last : Registers
  pub silent : Silent over fetch before s t last t
  pub does : ran (over last t) last (fetch last.pc) ≡ stepped_at last.pc (over s t (piece_effect p i s x))
  pub finds : (y : Instr) → x ≡ Plain y → fetch last.pc ≡ Found y (p.behind i)
