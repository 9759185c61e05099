-- What a run writes ends with its image, which is the one that is built.
use Rattle.std.proofs.Common.{◌≡◌, ℕ, true, List, ◌++◌, sym, ap, ◌∙◌, append_assoc}
use Rattle.board_world.specs.Observations.{ByteList}
use Rattle.board_world.specs.Transcript.{lines, closing_line}
use Rattle.board_world.specs.Board.{Board, stats_of}
use Rattle.sts_syntax.specs.TypedTrees.{TypedProgram}
use Rattle.event_script.specs.declared.script.Script.{Script}
use Rattle.hex_image.specs.Writing.{hextext}
use Rattle.board_outside.specs.Moves.{seen_of}
use Rattle.sts_whole.specs.Laws.{OneImage}
use Rattle.sts_whole.specs.Programs.{source_after}
use Rattle.run_tool.specs.Answers.{Answer, output_of}
use Rattle.run_tool.specs.Programs.{WritesImage}
use Rattle.run_tool.specs.Run.{RunsProgram}
use Rattle.run_tool.specs.Runs.{instructions_line}
use Rattle.run_tool.specs.Laws.{EndsWithBuilt}

at-end : (a b c d e : List ℕ) → a ++ (b ++ (c ++ (d ++ e))) ≡ (a ++ (b ++ (c ++ d))) ++ e
at-end a b c d e =
    sym (append_assoc a (b ++ (c ++ d)) e ∙ (ap (λ x. a ++ x) (append_assoc b (c ++ d) e) ∙ ap (λ x. a ++ (b ++ x)) (append_assoc c d e)))

pub ends-built : OneImage → (P : TypedProgram) (texts : List ByteList) (script : Script) (budget : ℕ) (answer built : Answer)
    → RunsProgram P texts script budget true true answer → WritesImage P texts built → EndsWithBuilt answer built
ends-built images P texts script budget answer built r w =
    let b : Board = (source_after P texts script r.steps).board in
    let front = lines (seen_of r.moves) ++ (closing_line b.clock b.end ++ (stats_of b ++ instructions_line r.executed)) in
    let same : r.image ≡ w.0 = images.one P texts r.image w.0 r.built.is_the w.2.is_the in (
      front,
      ap output_of r.is ∙ (at-end (lines (seen_of r.moves)) (closing_line b.clock b.end) (stats_of b) (instructions_line r.executed) (hextext r.image)
          ∙ (ap (λ image. front ++ hextext image) same ∙ ap (λ a. front ++ output_of a) (sym w.3))),
    )
