-- The law of images.
use Rattle.std.specs.Prelude.{◌≡◌, ℕ, List}
use Rattle.board_world.specs.Observations.{ByteList}
use Rattle.sts_syntax.specs.TypedTrees.{TypedProgram}
use Rattle.typed_laws.specs.Buildable.{IsBuildable}
use Rattle.sts_whole.specs.Compiled.{IsImageOf}

-- A program with its texts has one image, and has one where it can be built.
pub record OneImage : Type 0 where
  pub some : (P : TypedProgram) (texts : List ByteList) → IsBuildable P texts → (image : List ℕ) × IsImageOf P texts image
  pub one : (P : TypedProgram) (texts : List ByteList) (image other : List ℕ) → IsImageOf P texts image
      → IsImageOf P texts other → image ≡ other
