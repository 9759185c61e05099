-- What pieces mean: each is an effect, as an instruction's is.
use Rattle.std.specs.Prelude.{ℕ, ◌+◌, Bool, true, false, ◌==◌, nat_lt, if◌then◌else◌}
use Rattle.thumb_code.specs.declared.instructions.Instr.{Instr}
use Rattle.thumb_code.specs.declared.instructions.Instr.TheVariants.{AddHigh, MovHigh, Bx, Pop}
use Rattle.thumb_code.specs.declared.register_file.Registers.{Registers}
use Rattle.thumb_code.specs.RegisterFile.{word}
use Rattle.thumb_code.specs.Arithmetic.{nz, holds}
use Rattle.thumb_code.specs.Effect.{Effect, effect, go, puts_with}
use Rattle.thumb_layout.specs.declared.pieces.What.{What}
use Rattle.thumb_layout.specs.declared.pieces.Piece.{Piece}
use Rattle.thumb_layout.specs.declared.pieces.Piece.TheVariants.{Plain, Label, Go, CallTo, Number, Address}

-- Where a function's pieces stand: the address at which piece i is entered and the one behind it, the piece that a label is,
-- the address at which a function is entered, the word for a function, text or class, and what LR is after the branch of piece i
-- is taken, given what it was.
pub record Places : Type 0 where
  pub at : ℕ → ℕ
  pub behind : ℕ → ℕ
  pub label : ℕ → ℕ
  pub entry : ℕ → ℕ
  pub word_of : What → ℕ
  pub link : ℕ → ℕ → ℕ

-- The condition of a branch that is always taken.
abbrev pub always : ℕ
always = 14

-- A branch is taken.
abbrev pub is_taken : ℕ → ℕ → Bool
is_taken flags cond = if cond == always then true else holds flags cond

-- A number from 0 to 255 is moved by MOVS, which sets N and Z; the load of another one leaves the flags.
abbrev pub is_small : ℕ → Bool
is_small value = nat_lt value 256

abbrev pub number_flags : Registers → ℕ → ℕ
number_flags s value = if is_small value then nz s.flags value else s.flags

-- What piece i does. Where a branch is taken, LR may change beside PC.
abbrev pub piece_effect : Places → ℕ → Registers → Piece → Effect
piece_effect p i s (Plain instr) = effect (p.behind i) s instr
piece_effect p i s (Label label) = go (p.behind i) s
piece_effect p i s (Go cond label) =
    if is_taken s.flags cond then go (p.at (p.label label)) (record s { lr = p.link i s.lr }) else go (p.behind i) s
piece_effect p i s (CallTo function) = go (p.entry function) (record s { lr = word (p.behind i + 1) })
piece_effect p i s (Number rd value) = puts_with (p.behind i) s rd value (number_flags s value)
piece_effect p i s (Address rd what) = puts_with (p.behind i) s rd (p.word_of what) s.flags

-- BX, POP with PC, and ADD or MOV into PC don't go on behind themselves.
abbrev pub goes_on_instr : Instr → Bool
goes_on_instr (Bx rm) = false
goes_on_instr (Pop list p) = if p then false else true
goes_on_instr (AddHigh rd rm) = if rd == 15 then false else true
goes_on_instr (MovHigh rd rm) = if rd == 15 then false else true
goes_on_instr _ = true

-- These and a branch that is always taken are the pieces behind which the next one is not gone on at.
abbrev pub goes_on : Piece → Bool
goes_on (Plain instr) = goes_on_instr instr
goes_on (Go cond label) = if cond == always then false else true
goes_on _ = true
