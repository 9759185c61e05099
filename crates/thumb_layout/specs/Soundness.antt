-- Which pieces can be laid.
use Rattle.std.specs.Prelude.{◌≡◌, ℕ, ◌+◌, ◌^◌, ◌<◌, ◌≤◌, List, [], ◌∷◌, Bool, true, false, ◌==◌, ◌||◌, if◌then◌else◌, Some, slice_get}
use Rattle.thumb_code.specs.declared.instructions.Instr.{Instr}
use Rattle.thumb_code.specs.declared.instructions.Instr.TheVariants.{AddHigh, CmpHigh, MovHigh, LdrPc, Adr, BCond, B, Bl}
use Rattle.thumb_code.specs.Table.{Fits}
use Rattle.thumb_layout.specs.declared.pieces.Piece.{Piece}
use Rattle.thumb_layout.specs.declared.pieces.Piece.TheVariants.{Plain, Label, Go, CallTo, Number, Address}
use Rattle.thumb_layout.specs.Pieces.{always}

-- The instruction is a branch by an offset, or it reads PC: it does something else at another place.
abbrev pub is_bound_to_place : Instr → Bool
is_bound_to_place (BCond cond offset) = true
is_bound_to_place (B offset) = true
is_bound_to_place (Bl offset) = true
is_bound_to_place (LdrPc rt imm) = true
is_bound_to_place (Adr rd imm) = true
is_bound_to_place (AddHigh rd rm) = rd == 15 || rm == 15
is_bound_to_place (CmpHigh rd rm) = rd == 15 || rm == 15
is_bound_to_place (MovHigh rd rm) = rm == 15
is_bound_to_place _ = false

-- Each field is in range, and an instruction is spelled and may stand anywhere.
abbrev pub IsSoundPiece : Piece → Type 0
IsSoundPiece (Plain instr) = Fits instr × (is_bound_to_place instr ≡ false)
IsSoundPiece (Label label) = Unit {0}
IsSoundPiece (Go cond label) = cond ≤ always
IsSoundPiece (CallTo function) = Unit {0}
IsSoundPiece (Number rd value) = rd < 8
IsSoundPiece (Address rd what) = rd < 8

-- How often a label stands.
abbrev pub times : ℕ → List Piece → ℕ
times label [] = 0
times label (Label other ∷ xs) = (if other == label then 1 else 0) + times label xs
times label (x ∷ xs) = times label xs

-- Pieces are sound, and each label that is gone to stands once.
pub record IsSound (xs : List Piece) : Type 0 where
  pub each : (i : ℕ) (x : Piece) → slice_get xs i ≡ Some x → IsSoundPiece x
  pub labels : (i cond label : ℕ) → slice_get xs i ≡ Some (Go cond label) → times label xs ≡ 1

-- The numbers of pieces are words.
abbrev pub HasWords : List Piece → Type 0
HasWords xs = (i rd value : ℕ) → slice_get xs i ≡ Some (Number rd value) → value < 2 ^ 32
