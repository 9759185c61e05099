-- When an image implements a program.
use Rattle.std.specs.Prelude.{◌≡◌, ℕ, ◌+◌, ◌*◌, ◌≤◌, ◌<◌, false, List}
use Rattle.thumb_code.specs.Machine.{main_of}
use Rattle.board_world.specs.Observations.{ByteList}
use Rattle.board_world.specs.Board.{Entry, over}
use Rattle.board_world.specs.Implements.{Implements, boards_from}
use Rattle.sts_syntax.specs.TypedTrees.{TypedProgram}
use Rattle.sts_meaning.specs.Steps.{source, empty, source_run}
use Rattle.bank_model.specs.Fibers.{shared_at_reset}
use Rattle.bank_model.specs.BoardMachine.{fibers, bank_run}

-- Where an image has executed m instructions and goes on, and its source has made k counted steps, m < 512 * (k + 1).
abbrev pub instructions_of_a_step : ℕ
instructions_of_a_step = 512

-- The bank machine over the image does what the program's source does, whatever the free words are, on each script and whatever
-- arrives between two instructions, and without a fault. It executes m < 512 * (k + 1) instructions for k counted steps while it goes on,
-- so that a single step may take more where others took less.
abbrev pub ImageImplements : TypedProgram → List ByteList → List ℕ → Type 0
ImageImplements P texts image =
    (free : List ℕ) → Implements instructions_of_a_step (boards_from (source P texts) P.main (empty P texts))
    (boards_from (fibers image) (main_of image) (shared_at_reset free))

-- After m instructions the board of the image's run is that of the source's after k counted steps; and while it goes on, m is small for k.
pub record IsAfter (P : TypedProgram) (texts : List ByteList) (image : List ℕ) (until : ℕ) (script : List Entry)
    (free : List ℕ) (m k : ℕ) : Type 0 where
  pub at_most : k ≤ m
  pub board : (source_run P texts until script k).board ≡ (bank_run image until script free m).board
  pub in_time : over (bank_run image until script free m).board ≡ false → m < instructions_of_a_step * (k + 1)
