-- The image of laid code: what stands in it, and where.
use Rattle.std.specs.Prelude.{◌≡◌, ℕ, ◌+◌, ◌*◌, ◌<◌, ◌≤◌, List, [], ◌∷◌, ◌++◌, length, map, Bool, true, false, ◌==◌, Some, slice_get, slice_index}
use Rattle.std.specs.List.{enumerate_from, filter, list_any}
use Rattle.thumb_code.specs.declared.instructions.Instr.TheVariants.{Bl, Svc}
use Rattle.thumb_code.specs.Table.{half}
use Rattle.thumb_code.specs.Map.{flash_byte}
use Rattle.flat_ir.specs.declared.ops.FlatClass.{FlatClass}
use Rattle.flat_ir.specs.declared.ops.FlatCode.{FlatCode}
use Rattle.thumb_layout.specs.declared.pieces.What.{What}
use Rattle.thumb_layout.specs.declared.pieces.What.TheVariants.{Function, Text}
use Rattle.thumb_layout.specs.declared.laid.Fix.{Fix}
use Rattle.thumb_layout.specs.declared.laid.Laid.{Laid}
use Rattle.thumb_layout.specs.Layout.{up}
use Rattle.thumb_layout.specs.Cells.{word_bytes, spelled, offset}
use Rattle.thumb_layout.specs.Flash.{IsOutside}
use Rattle.thumb_divide.specs.Routine.{routine_bytes, routine_length}
use Rattle.thumb_emit.specs.InFlash.{Addresses, callee_at, word_for}

-- The base of a built image: the end of the stack that a fiber may use.
abbrev pub base : ℕ
base = 0x20003F80

-- Where the instruction stands to which a fiber's function returns.
abbrev pub return_at : ℕ
return_at = 12

-- An image begins with three words (the base, main's code address, and the one to which a fiber's function returns) and
-- the instruction that ends a fiber.
abbrev pub head_length : ℕ
head_length = 14

abbrev pub head : Addresses → ℕ → List ℕ
head a main =
    word_bytes base ++ (word_bytes (word_for a (Function main))
    ++ (word_bytes (return_at + 1) ++ spelled (half (Svc 0))))

-- The four bytes for what is open in code at an address: a BL to what is called, or the word for what is named.
abbrev pub opened : Addresses → ℕ → Bool → What → List ℕ
opened a at true (Function f) = spelled (half (Bl (offset at (callee_at a f))))
opened a at call what = word_bytes (word_for a what)

-- A class's table: a word with the words of its objects, and for each slot its method's code address.
abbrev pub slot_words : Addresses → List ℕ → List ℕ
slot_words a [] = []
slot_words a (f ∷ fs) = word_bytes (word_for a (Function f)) ++ slot_words a fs

abbrev pub class_table : Addresses → FlatClass → List ℕ
class_table a c = word_bytes c.words ++ slot_words a c.slots

-- A text with the word of its length before it.
abbrev pub text_bytes : List ℕ → List ℕ
text_bytes text = word_bytes (length text) ++ text

-- Which texts are in the image: those of which the word stands in some code.
abbrev pub is_this_text : ℕ → What → Bool
is_this_text i (Text j) = j == i
is_this_text i what = false

abbrev pub is_named : List Laid → ℕ → Bool
is_named laid i = list_any (λ l. list_any (λ f. is_this_text i f.what) l.fixes) laid

-- Bytes stand in an image from an address on.
abbrev pub HasBytes : List ℕ → ℕ → List ℕ → Type 0
HasBytes image at bytes = (k : ℕ) → k < length bytes → flash_byte image (at + k) ≡ slice_index bytes k

-- What is open in code that stands at an address has its four bytes, but for those that are open once more, further on
-- in the list.
abbrev pub AreFilled : List ℕ → Addresses → ℕ → List Fix → Type 0
AreFilled image a at [] = Unit {0}
AreFilled image a at (f ∷ fs) =
    ((j : ℕ) → j < 4 → IsOutside (f.at + j) fs
    → flash_byte image (at + (f.at + j)) ≡ slice_index (opened a (at + f.at) f.call f.what) j) × AreFilled image a at fs

-- A function's code stands at an address: its bytes, and what was open in it.
pub record HasFunction (image : List ℕ) (a : Addresses) (at : ℕ) (l : Laid) : Type 0 where
  pub bytes : (k : ℕ) → k < length l.bytes → IsOutside k l.fixes → flash_byte image (at + k) ≡ slice_index l.bytes k
  pub fixes : AreFilled image a at l.fixes

-- A section of an image: where it begins, and how many bytes it has.
pub record Section : Type 0 where
  pub at : ℕ
  pub long : ℕ

abbrev pub section : (at long : ℕ) → Section
section at long = record { at = at; long = long }

-- The sections in their order: each function's code, the division routine, each class's table, which is a word and one
-- a slot, and each text that code names, which is the word of its length and its bytes.
abbrev pub sections : Addresses → List Laid → List FlatClass → List (List ℕ) → List Section
sections a laid classes texts =
    map (λ (p : ℕ × Laid). section (a.function p.0) (length p.1.bytes)) (enumerate_from 0 laid)
    ++ (section a.routine routine_length
    ∷ (map (λ (p : ℕ × FlatClass). section (a.class p.0) (4 + 4 * length p.1.slots)) (enumerate_from 0 classes)
    ++ map (λ (p : ℕ × List ℕ). section (a.text p.0) (4 + length p.1))
    (filter (λ p. is_named laid p.0) (enumerate_from 0 texts))))

-- Sections stand one behind another, the first behind an end: each begins at the next multiple of 4, with zeros before
-- it, and the image ends with the last.
abbrev pub StandBehind : List ℕ → ℕ → List Section → Type 0
StandBehind image end [] = length image ≡ end
StandBehind image end (s ∷ ss) =
    (s.at ≡ up end) × ((k : ℕ) → end ≤ k → k < s.at → flash_byte image k ≡ 0) × StandBehind image (s.at + s.long) ss

-- Laid code, a program's flat code and its texts are linked to an image: each has its bytes in it, and nothing else
-- stands there.
pub record IsLinked (laid : List Laid) (code : FlatCode) (texts : List (List ℕ)) (image : List ℕ) : Type 0 where
  -- where each stands
  pub at : Addresses
  -- the words at reset, each function's code, the division routine, each class's table, and each text that code names
  pub begins : HasBytes image 0 (head at code.main)
  pub functions : (f : ℕ) (l : Laid) → slice_get laid f ≡ Some l → HasFunction image at (at.function f) l
  pub routine : HasBytes image at.routine routine_bytes
  pub classes : (c : ℕ) (class : FlatClass) → slice_get code.classes c ≡ Some class
      → HasBytes image (at.class c) (class_table at class)
  pub named_texts : (i : ℕ) (text : List ℕ) → slice_get texts i ≡ Some text → is_named laid i ≡ true
      → HasBytes image (at.text i) (text_bytes text)
  -- one behind another, in this order
  pub order : StandBehind image head_length (sections at laid code.classes texts)
  -- a number that no function, class or text has stands for address 0
  pub no_function : (f : ℕ) → length laid ≤ f → at.function f ≡ 0
  pub no_class : (c : ℕ) → length code.classes ≤ c → at.class c ≡ 0
  pub no_text : (i : ℕ) → length texts ≤ i → at.text i ≡ 0
