-- What a flash shows of a program: its functions, the division routine, its classes and its texts, each at an address.
use Rattle.std.specs.Prelude.{◌≡◌, ℕ, ◌+◌, ◌-◌, ◌*◌, ◌%◌, ◌^◌, ◌<◌, ◌≤◌, true, ◌==◌, if◌then◌else◌, List, length, Contains, Some, slice_get}
use Rattle.thumb_code.specs.RegisterFile.{is_odd}
use Rattle.thumb_code.specs.Map.{flash_end, flash_byte, flash_half, flash_word}
use Rattle.thumb_code.specs.Machine.{base_of, main_of, return_of}
use Rattle.board_world.specs.Observations.{ByteList}
use Rattle.bank_model.specs.Texts.{is_text, text_at}
use Rattle.thumb_layout.specs.declared.pieces.What.{What}
use Rattle.thumb_layout.specs.declared.pieces.What.TheVariants.{Function, Text, Class}
use Rattle.thumb_layout.specs.declared.pieces.Piece.{Piece}
use Rattle.thumb_layout.specs.Cells.{laid}
use Rattle.thumb_layout.specs.Flash.{HasCode}
use Rattle.thumb_layout.specs.Openings.{named}
use Rattle.thumb_divide.specs.Routine.{HasRoutine}
use Rattle.flat_ir.specs.declared.ops.FlatClass.{FlatClass}
use Rattle.flat_ir.specs.declared.ops.FlatCode.{FlatCode}
use Rattle.thumb_emit.specs.Emit.{division}

-- where a program's functions, classes and texts stand, by their numbers, and where the division routine does
pub record Addresses : Type 0 where
  pub function : ℕ → ℕ
  pub class : ℕ → ℕ
  pub text : ℕ → ℕ
  pub routine : ℕ

-- where a call goes: one number names the division routine
abbrev pub callee_at : Addresses → ℕ → ℕ
callee_at a f = if f == division then a.routine else a.function f

-- the word for a thing; a function's has bit 0 set
abbrev pub word_for : Addresses → What → ℕ
word_for a (Function f) = a.function f + 1
word_for a (Text i) = a.text i
word_for a (Class c) = a.class c

-- some body loads the address of the text
pub record IsNamed (bodies : List (List Piece)) (text : ℕ) : Type 0 where
  pub function : ℕ
  pub body : List Piece
  pub there : slice_get bodies function ≡ Some body
  pub among : Contains (named body) (Text text)

-- a function's code stands at an address, with what was open in it
pub record ShowsFunction (flash : List ℕ) (a : Addresses) (at : ℕ) (body : List Piece) : Type 0 where
  pub aligned : at % 4 ≡ 0
  pub inside : at + length (laid body).bytes ≤ flash_end
  pub code : HasCode flash at (callee_at a) (word_for a) (laid body)

-- A class's table: the words of an object, then the code address of the method in each slot.
pub record ShowsClass (flash : List ℕ) (a : Addresses) (at : ℕ) (class : FlatClass) : Type 0 where
  pub aligned : at % 4 ≡ 0
  pub positive : 0 < at
  pub inside : at + 4 + 4 * length class.slots ≤ flash_end
  pub fits : class.words < 2 ^ 32
  pub words : flash_word flash at ≡ class.words
  pub slots : (j g : ℕ) → slice_get class.slots j ≡ Some g → flash_word flash (at + 4 + 4 * j) ≡ a.function g + 1

-- a text stands at an address
pub record ShowsText (flash : List ℕ) (at : ℕ) (bytes : ByteList) : Type 0 where
  pub positive : 0 < at
  pub sound : is_text flash at ≡ true
  pub bytes_are : text_at flash at ≡ bytes

-- A flash shows a program whose functions have these bodies.
pub record InFlash (C : FlatCode) (bodies : List (List Piece)) (texts : List ByteList) (flash : List ℕ)
    (a : Addresses) : Type 0 where
  -- it is made of bytes
  pub bytes : (k : ℕ) → flash_byte flash k < 256
  -- word 0: every fiber's base is the end of the usable stack; word 1: main
  pub base : base_of flash ≡ 0x20003F80
  pub main : main_of flash ≡ a.function C.main + 1
  -- word 2: where a fiber's function returns to, SVC 0 stands
  pub return_odd : is_odd (return_of flash) ≡ true
  pub return_inside : return_of flash + 1 ≤ flash_end
  pub return_ends : flash_half flash (return_of flash - 1) ≡ 0xDF00
  -- each function has its body, and no function has the routine's number
  pub bodies_are : length bodies ≡ length C.functions
  pub few : length C.functions ≤ division
  pub functions : (f : ℕ) (body : List Piece) → slice_get bodies f ≡ Some body
      → ShowsFunction flash a (a.function f) body
  pub routine : HasRoutine flash a.routine
  pub classes : (c : ℕ) (class : FlatClass) → slice_get C.classes c ≡ Some class → ShowsClass flash a (a.class c) class
  -- each text that is named is there, and no two are at one address
  pub named_texts : (i : ℕ) → IsNamed bodies i
      → (bytes : ByteList) × (slice_get texts i ≡ Some bytes) × ShowsText flash (a.text i) bytes
  pub apart : (i j : ℕ) → IsNamed bodies i → IsNamed bodies j → a.text i ≡ a.text j → i ≡ j
