-- Pieces that take one instruction or nothing: what brings an operand, keeps a result, or moves a word.
use Rattle.std.proofs.Common.{◌≡◌, ℕ, ◌≤◌, ◌==◌, Bool, true, false, List, ◌∷◌, refl, arith}
use Rattle.thumb_code.specs.declared.instructions.Instr.{Instr}
use Rattle.thumb_code.specs.declared.instructions.Instr.TheVariants.{MovHigh}
use Rattle.thumb_layout.specs.declared.pieces.Piece.{Piece}
use Rattle.thumb_layout.specs.declared.pieces.Piece.TheVariants.{Plain}
use Rattle.thumb_layout.specs.Holds.{cost}
use Rattle.thumb_layout.specs.Rounds.{most}
use Rattle.thumb_layout.specs.Openings.{called, named}
use Rattle.flat_ir.specs.declared.ops.Function.{Function}
use Rattle.register_assign.specs.declared.places.Place.{Place}
use Rattle.register_assign.specs.declared.places.Place.TheVariants.{Reg, Slot, Incoming}
use Rattle.thumb_emit.specs.Frame.{from_instr, to_instr, idle_piece, brings, keeps, lands, carries}
use Rattle.thumb_emit.proofs.Lists.{if_has}

-- a piece is nothing, or one plain instruction
pub data IsStill (f : Function) : Piece → Type 0 where
  Idle : IsStill f (idle_piece f)
  Single : (x : Instr) → IsStill f (Plain x)

pub brings_still : (f : Function) (scratch : ℕ) (p : Place) → IsStill f (brings f scratch p)
brings_still f scratch (Reg r) = Idle
brings_still f scratch (Slot j) = Single (from_instr f scratch (Slot j))
brings_still f scratch (Incoming j) = Single (from_instr f scratch (Incoming j))

pub keeps_still : (f : Function) (unread : Bool) (p : Place) → IsStill f (keeps f unread p)
keeps_still f true p = Idle
keeps_still f false (Reg r) = Idle
keeps_still f false (Slot j) = Single (to_instr f 0 (Slot j))
keeps_still f false (Incoming j) = Single (to_instr f 0 (Incoming j))

pub lands_still : (f : Function) (unread : Bool) (p : Place) → IsStill f (lands f unread p)
lands_still f true p = Idle
lands_still f false p = Single (to_instr f 0 p)

pub moves_still : (f : Function) (rd rs : ℕ) → IsStill f (carries f rd rs)
moves_still f rd rs = if_has (IsStill f) (rd == rs) _ _ Idle (Single (MovHigh rd rs))

-- what it takes, and that it names and calls nothing
pub still_takes : (f : Function) (x : Piece) → IsStill f x → cost x ≤ 2
still_takes f _ Idle = omega arith
still_takes f _ (Single x) = omega arith

pub still_fills : (f : Function) (x : Piece) → IsStill f x → most x ≤ 2
still_fills f _ Idle = omega arith
still_fills f _ (Single x) = omega arith

pub still_names : (f : Function) (x : Piece) (xs : List Piece) → IsStill f x → named (x ∷ xs) ≡ named xs
still_names f _ xs Idle = refl
still_names f _ xs (Single x) = refl

pub still_calls : (f : Function) (x : Piece) (xs : List Piece) → IsStill f x → called (x ∷ xs) ≡ called xs
still_calls f _ xs Idle = refl
still_calls f _ xs (Single x) = refl
