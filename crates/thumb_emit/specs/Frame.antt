-- A function's frame, and the registers in which its temporaries are read and written.
use Rattle.std.specs.Prelude.{ℕ, Bool, true, false, ◌+◌, ◌-◌, ◌*◌, ◌^◌, List, [], ◌∷◌, length, nat_lt, ◌==◌, if◌then◌else◌}
use Rattle.thumb_code.specs.declared.instructions.Instr.{Instr}
use Rattle.thumb_code.specs.declared.instructions.Instr.TheVariants.{MovHigh, LdrSp, StrSp, AddSpImm, SubSpImm}
use Rattle.thumb_layout.specs.declared.pieces.Piece.{Piece}
use Rattle.thumb_layout.specs.declared.pieces.Piece.TheVariants.{Plain, Label}
use Rattle.flat_ir.specs.declared.ops.Function.{Function}
use Rattle.register_assign.specs.declared.places.Place.{Place}
use Rattle.register_assign.specs.declared.places.Place.TheVariants.{Reg, Slot, Incoming}
use Rattle.register_assign.specs.Saving.{saves}

-- A frame's words from the lowest up: the outgoing words, the slots, four words for the caller's registers, and the return address. The incoming
-- words are the caller's outgoing words, right above.
abbrev pub own : Function → ℕ
own f = f.outgoing + f.locals + f.operands

abbrev pub words : Function → ℕ
words f = own f + 5

-- a place into a low register, and a low register into a place: one instruction each
abbrev pub from_instr : Function → ℕ → Place → Instr
from_instr f rd (Reg r) = MovHigh rd r
from_instr f rd (Slot j) = LdrSp rd (f.outgoing + j)
from_instr f rd (Incoming j) = LdrSp rd (words f + j)

abbrev pub to_instr : Function → ℕ → Place → Instr
to_instr f rs (Reg r) = MovHigh r rs
to_instr f rs (Slot j) = StrSp rs (f.outgoing + j)
to_instr f rs (Incoming j) = StrSp rs (words f + j)

abbrev pub from_place : Function → ℕ → Place → Piece
from_place f rd p = Plain (from_instr f rd p)

abbrev pub to_place : Function → ℕ → Place → Piece
to_place f rs p = Plain (to_instr f rs p)

-- A piece that takes nothing: a label to which nobody goes.
abbrev pub idle_piece : Function → Piece
idle_piece f = Label (3 * length f.ops + 1)

-- the register in which a temporary at a place is read or written: its own, or a scratch register for it
abbrev pub register_of : ℕ → Place → ℕ
register_of scratch (Reg r) = r
register_of scratch (Slot j) = scratch
register_of scratch (Incoming j) = scratch

-- a temporary comes into that register, unless that is its place
abbrev pub brings : Function → ℕ → Place → Piece
brings f scratch (Reg r) = idle_piece f
brings f scratch (Slot j) = from_place f scratch (Slot j)
brings f scratch (Incoming j) = from_place f scratch (Incoming j)

-- The register in which a result is made: its temporary's, where r0 is the scratch register. One that nobody reads is made in r0, and stays there.
abbrev pub result_in : Bool → Place → ℕ
result_in true p = 0
result_in false p = register_of 0 p

-- the result goes from there to its place, unless that is its place or nobody reads it
abbrev pub keeps : Function → Bool → Place → Piece
keeps f true p = idle_piece f
keeps f false (Reg r) = idle_piece f
keeps f false (Slot j) = to_place f 0 (Slot j)
keeps f false (Incoming j) = to_place f 0 (Incoming j)

-- a result that stands in r0 goes to its place, unless nobody reads it
abbrev pub lands : Function → Bool → Place → Piece
lands f true p = idle_piece f
lands f false p = to_place f 0 p

-- a copy from a place to another, the first of which is the target's: straight into its register, or straight from the source's
abbrev pub copies : Function → Bool → Place → Place → List Piece
copies f true to from = from_place f 0 from ∷ idle_piece f ∷ []
copies f false (Reg r) from = from_place f r from ∷ idle_piece f ∷ []
copies f false (Slot j) from = brings f 0 from ∷ to_place f (register_of 0 from) (Slot j) ∷ []
copies f false (Incoming j) from = brings f 0 from ∷ to_place f (register_of 0 from) (Incoming j) ∷ []

-- a word from one low register to another, unless it is there
abbrev pub carries : Function → ℕ → ℕ → Piece
carries f rd rs = if rd == rs then idle_piece f else Plain (MovHigh rd rs)

-- SP up and down by so many words. One instruction counts to 127.
abbrev pub raises : ℕ → List Piece
raises n = if nat_lt 127 n then Plain (AddSpImm 127) ∷ Plain (AddSpImm (n - 127)) ∷ [] else Plain (AddSpImm n) ∷ []

abbrev pub lowers : ℕ → List Piece
lowers n = if nat_lt 127 n then Plain (SubSpImm 127) ∷ Plain (SubSpImm (n - 127)) ∷ [] else Plain (SubSpImm n) ∷ []

-- The registers that a function saves stand in the highest of the four words. These are the words below them.
abbrev pub below_saved : Function → (ℕ → Place) → ℕ
below_saved f place = own f + (4 - saves f place)

-- the registers that a function saves, as the list of PUSH and POP, beside LR and PC: bit 4 for r4
abbrev pub saved_list : Function → (ℕ → Place) → ℕ
saved_list f place = 2 ^ (4 + saves f place) - 2 ^ 4
