-- Runs of an image in which nothing arrives.
use Rattle.std.proofs.Common.{ℕ, List, [], subst}
use Rattle.board_world.specs.Observations.{ByteList}
use Rattle.board_world.specs.Board.{Entry}
use Rattle.board_world.specs.Activities.{World}
use Rattle.board_world.specs.Implements.{EndsByNoFault}
use Rattle.board_world.proofs.Laws.{PlainlyKept, kept_plainly, with_nothing}
use Rattle.sts_syntax.specs.TypedTrees.{TypedProgram}
use Rattle.sts_meaning.specs.Steps.{source, source_start, source_run}
use Rattle.bank_model.specs.Fibers.{Fiber, Shared}
use Rattle.bank_model.specs.BoardMachine.{fibers, bank_start, bank_run}
use Rattle.sts_implements.specs.Images.{instructions_of_a_step, ImageImplements}

module _ (P : TypedProgram) (texts : List ByteList) (image : List ℕ) (implements : ImageImplements P texts image) (until : ℕ) (script : List Entry) (free : List ℕ) where
  pub plainly : (m : ℕ) → PlainlyKept instructions_of_a_step (λ s. (source_run P texts until script s).board) (λ n. (bank_run image until script free n).board) m
  plainly m = kept_plainly (source P texts) (fibers image) instructions_of_a_step (source_start P texts until script) (bank_start image until script free) m ((implements free).keeps until script [] tt m)

  pub plain_faultless : (m : ℕ) → EndsByNoFault (bank_run image until script free m).board.end
  plain_faultless m =
      subst (λ (w : World Fiber Shared). EndsByNoFault w.board.end) (with_nothing (fibers image) m (bank_start image until script free)) ((implements free).no_fault until script [] tt m)
