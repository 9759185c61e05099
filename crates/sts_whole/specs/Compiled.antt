-- Images that are compiled from programs.
use Rattle.std.specs.Prelude.{◌≡◌, ℕ, ◌≤◌, List, length, map}
use Rattle.std.specs.List.{AllByRecursion}
use Rattle.thumb_code.specs.Map.{flash_end}
use Rattle.board_world.specs.Observations.{ByteList}
use Rattle.sts_syntax.specs.TypedTrees.{TypedProgram}
use Rattle.sts_implements.specs.Images.{ImageImplements}
use Rattle.sts_lower.specs.Lowered.{lowered}
use Rattle.flat_ir.specs.declared.ops.Function.{Function}
use Rattle.register_assign.specs.declared.places.Placed.{Placed}
use Rattle.register_assign.specs.Sound.{ArePlacesSound}
use Rattle.register_assign.specs.Chosen.{chosen_places}
use Rattle.thumb_layout.specs.declared.pieces.Piece.{Piece}
use Rattle.thumb_layout.specs.Cells.{laid}
use Rattle.thumb_emit.specs.Emit.{function_pieces}
use Rattle.image_link.specs.Image.{IsLinked}

-- the functions of functions with places, and their pieces
abbrev pub functions_of : List Placed → List Function
functions_of placed = map (λ p. p.function) placed

abbrev pub bodies_of : List Placed → List (List Piece)
bodies_of placed = map function_pieces placed

-- Each function of a program's flat code has sound places; its pieces are laid, and all are linked with the program's texts to an image that fits into flash.
pub record IsCompiled (P : TypedProgram) (texts : List ByteList) (image : List ℕ) : Type 0 where
  pub placed : List Placed
  pub functions : functions_of placed ≡ (lowered P).functions
  pub sound : AllByRecursion (λ p. ArePlacesSound p.function p.places) placed
  pub linked : IsLinked (map laid (bodies_of placed)) (lowered P) texts image
  pub room : length image ≤ flash_end

-- a function with the places that are chosen for its temporaries
abbrev pub with_chosen_places : Function → Placed
with_chosen_places f = record { function = f; places = chosen_places f }

-- THE IMAGE of a program with its texts, and no other (`images_are_one`): each function of the flat code with the places that are chosen, its pieces laid, and all linked.
pub record IsImageOf (P : TypedProgram) (texts : List ByteList) (image : List ℕ) : Type 0 where
  pub linked : IsLinked (map laid (bodies_of (map with_chosen_places (lowered P).functions))) (lowered P) texts image

-- It implements the program.
pub record IsBuiltFor (P : TypedProgram) (texts : List ByteList) (image : List ℕ) : Type 0 where
  pub is_the : IsImageOf P texts image
  pub implements : ImageImplements P texts image
