-- Images that are built of texts.
use Rattle.std.specs.Prelude.{◌≡◌, ℕ, ◌≤◌, List, length}
use Rattle.thumb_code.specs.Map.{flash_end}
use Rattle.sts_base.specs.declared.tables.Tables.{Tables}
use Rattle.sts_syntax.specs.TypedTrees.{TypedProgram}
use Rattle.typed_program.specs.Accepting.{Accepts}
use Rattle.sts_whole.specs.Compiled.{IsImageOf, IsBuiltFor}

-- An image is built of a text: it is the one of the program as which the text is accepted, implements it, and fits into the flash.
pub record Builds (text image : List ℕ) : Type 0 where
  pub tables : Tables
  pub program : TypedProgram
  pub accepted : Accepts text tables program
  pub built : IsBuiltFor program tables.texts image
  pub room : length image ≤ flash_end

-- An accepted text has one image: there is the image of its program, and what is built of it twice is the same.
pub record TextHasOneImage : Type 0 where
  pub some : (text : List ℕ) (tables : Tables) (P : TypedProgram) → Accepts text tables P
      → (image : List ℕ) × IsImageOf P tables.texts image
  pub one : (text image other : List ℕ) → Builds text image → Builds text other → image ≡ other
