-- The statuses of answers of `run-hex`.
use Rattle.std.proofs.Common.{◌≡◌, ℕ, List, inl, inr, ap, ◌∙◌}
use Rattle.std.specs.Prelude.{Option, Some, None}
use Rattle.board_world.specs.Observations.{End, Quietly, By_script, Panicked, Faulted}
use Rattle.hex_image.specs.declared.refused.HexCode.{HexCode}
use Rattle.hex_image.specs.Spells.{Spells, Breaks}
use Rattle.hex_image.proofs.Laws.{one_reading-of}
use Rattle.run_tool.specs.Files.{Telling, unfailing}
use Rattle.run_tool.specs.Answers.{Answer, status_of, status_number}
use Rattle.run_tool.specs.Runs.{run_status, RunsHex, IsImageStatus}
use Rattle.run_tool.specs.Laws.{HexStatuses}

pub run-number : (end : Option End) (number : ℕ) → number ≡ status_number (run_status end) → IsImageStatus number
run-number None number e = inr (inr (inl e))
run-number (Some Quietly) number e = inl e
run-number (Some By_script) number e = inl e
run-number (Some (Panicked code)) number e = inr (inl e)
run-number (Some (Faulted kind address)) number e = inr (inr (inr e))

spelled : (told : Telling) (budget : ℕ) (text image : List ℕ) (number : ℕ) (answer : Answer) → Spells text image → RunsHex (unfailing told) None budget text answer
    → number ≡ status_number (status_of answer) → IsImageStatus number
spelled told budget text image number answer s (inl h) e = run-number _ number (e ∙ ap (λ a. status_number (status_of a)) h.2.is)
spelled told budget text image number answer s (inr h) e = absurd ((one_reading-of text).not_both image h.0 s h.1)

broken : (told : Telling) (script : Option (List ℕ)) (budget : ℕ) (text : List ℕ) (code : HexCode) (number : ℕ) (answer : Answer) → Breaks text code
    → RunsHex (unfailing told) script budget text answer → number ≡ status_number (status_of answer) → number ≡ 12
broken told script budget text code number answer b (inl h) e = absurd ((one_reading-of text).not_both h.0 code h.1 b)
broken told script budget text code number answer b (inr h) e = e ∙ ap (λ a. status_number (status_of a)) h.2

pub statuses : (told : Telling) (budget : ℕ) (text : List ℕ) → HexStatuses told budget text
statuses told budget text = record {
  spelled = λ image number s is. spelled told budget text image number is.0 s is.1 is.2;
  broken = λ script code number b is. broken told script budget text code number is.0 b is.1 is.2;
}
