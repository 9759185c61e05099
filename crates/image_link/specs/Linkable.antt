-- What can be linked, and what is asked of a program so that its image shows it and fits into flash.
use Rattle.std.specs.Prelude.{◌≡◌, ◌⊎◌, ℕ, suc, ◌+◌, ◌*◌, ◌^◌, ◌%◌, ◌<◌, ◌≤◌, List, [], ◌∷◌, length, map, Bool, true, false, if◌then◌else◌, Some, slice_get}
use Rattle.std.specs.List.{AllByRecursion}
use Rattle.thumb_code.specs.Map.{flash_end}
use Rattle.board_world.specs.Observations.{ByteList}
use Rattle.bank_model.specs.Texts.{text_limit}
use Rattle.flat_ir.specs.declared.ops.Op.{Op}
use Rattle.flat_ir.specs.declared.ops.Op.TheVariants.{TextOf}
use Rattle.flat_ir.specs.declared.ops.Function as flat
use Rattle.flat_ir.specs.declared.ops.FlatClass.{FlatClass}
use Rattle.flat_ir.specs.declared.ops.FlatCode.{FlatCode}
use Rattle.flat_ir.specs.WellFormed.{IsWellFormed}
use Rattle.thumb_layout.specs.declared.pieces.What.{What}
use Rattle.thumb_layout.specs.declared.pieces.What.TheVariants.{Function, Text, Class}
use Rattle.thumb_layout.specs.declared.pieces.Piece.{Piece}
use Rattle.thumb_layout.specs.declared.laid.Fix.{Fix}
use Rattle.thumb_layout.specs.declared.laid.Laid.{Laid}
use Rattle.thumb_layout.specs.Cells.{laid}
use Rattle.thumb_layout.specs.Openings.{named}
use Rattle.thumb_layout.specs.Soundness.{IsSound}
use Rattle.thumb_emit.specs.Bounds.{bytes_of_text, bytes_of_weight}
use Rattle.thumb_emit.specs.Emit.{division}
use Rattle.thumb_emit.specs.InFlash.{IsNamed}
use Rattle.image_link.specs.Image.{IsLinked}

-- A call is of a function or of the division routine, and what a word stands for is there, among so many functions,
-- classes and texts.
abbrev pub IsThere : (functions classes texts : ℕ) → Bool → What → Type 0
IsThere functions classes texts true (Function f) = (f < functions) ⊎ (f ≡ division)
IsThere functions classes texts false (Function f) = f < functions
IsThere functions classes texts false (Text i) = i < texts
IsThere functions classes texts false (Class c) = c < classes
IsThere functions classes texts call what = ⊥

-- A fix stands wholly in its entry's bytes, of which there are so many, at an even place.
pub record IsFixOf (bytes : ℕ) (f : Fix) : Type 0 where
  pub even : f.at % 2 ≡ 0
  pub within : f.at + 4 ≤ bytes

-- The code is well formed, and there is laid code of each function, in order.
pub record IsLinkable (laid : List Laid) (code : FlatCode) (texts : ℕ) : Type 0 where
  pub formed : IsWellFormed code
  pub entries : length laid ≡ length code.functions
  pub fixes : AllByRecursion (λ l. AllByRecursion (IsFixOf (length l.bytes)) l.fixes) laid
  pub there : AllByRecursion (λ l. AllByRecursion
      (λ f. IsThere (length code.functions) (length code.classes) texts f.call f.what) l.fixes) laid

-- Every text that a function's ops name is one of the first so many.
abbrev pub NamesTextBelow : ℕ → Op → Type 0
NamesTextBelow texts (TextOf to text) = text < texts
NamesTextBelow texts op = Unit {0}

abbrev pub NamesTextsBelow : ℕ → flat.Function → Type 0
NamesTextsBelow texts f = AllByRecursion (NamesTextBelow texts) f.ops

-- There is a sound body of each function, and no function has the division routine's number. A class's word is a word.
-- Texts are bytes, and each that a body names is there, and no longer than a service may read. The bodies' code is
-- linked to the image, which fits into flash.
pub record IsImaged (C : FlatCode) (bodies : List (List Piece)) (texts : List ByteList) (image : List ℕ) : Type 0 where
  pub bodies_are : length bodies ≡ length C.functions
  pub sound : (f : ℕ) (body : List Piece) → slice_get bodies f ≡ Some body → IsSound body
  pub few : length C.functions ≤ division
  pub words : (c : ℕ) (class : FlatClass) → slice_get C.classes c ≡ Some class → class.words < 2 ^ 32
  pub texts_are : (i : ℕ) → IsNamed bodies i → (bytes : ByteList) × (slice_get texts i ≡ Some bytes)
      × (length bytes ≤ text_limit)
  pub bytes : AllByRecursion (AllByRecursion (λ b. b < 256)) texts
  pub linked : IsLinked (map laid bodies) C texts image
  pub room : length image ≤ flash_end

-- How many of some things are texts.
abbrev pub one_text : What → ℕ
one_text (Text i) = 1
one_text _ = 0

abbrev pub texts_among : List What → ℕ
texts_among [] = 0
texts_among (w ∷ ws) = one_text w + texts_among ws

-- The laid code of bodies keeps their weights: each weighs four at least, and has no more bytes than its weight allows,
-- with what the texts take that it names.
abbrev pub KeepWeights : List (List Piece) → List ℕ → Type 0
KeepWeights [] [] = Unit {0}
KeepWeights (body ∷ bodies) (w ∷ ws) =
    (4 ≤ w) × (length (laid body).bytes + bytes_of_text * texts_among (named body) ≤ bytes_of_weight * w)
    × KeepWeights bodies ws
KeepWeights bodies ws = ⊥

abbrev pub all_weights : List ℕ → ℕ
all_weights [] = 0
all_weights (w ∷ ws) = w + all_weights ws

-- The bytes of those texts, from text i on, that are used.
abbrev pub used_bytes : (ℕ → Bool) → ℕ → List ByteList → ℕ
used_bytes used i [] = 0
used_bytes used i (t ∷ ts) = (if used i then length t else 0) + used_bytes used (suc i) ts

-- A program within the limits: its functions weigh at most 3,600, those of the library 600, and the texts that are
-- used, among which are all that bodies name, have at most 16,384 bytes.
pub record IsLimited (C : FlatCode) (bodies : List (List Piece)) (texts : List ByteList) (weights : List ℕ)
    (used : ℕ → Bool) : Type 0 where
  pub keeps : KeepWeights bodies weights
  pub total : all_weights weights ≤ 3600 + 600
  pub classes : length C.classes ≤ 64
  pub slots : AllByRecursion (λ c. length c.slots ≤ 30) C.classes
  pub uses : (i : ℕ) → IsNamed bodies i → used i ≡ true
  pub bytes : used_bytes used 0 texts ≤ 16384
