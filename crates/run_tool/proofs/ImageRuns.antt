-- Images that were read and run.
use Rattle.std.proofs.Common.{◌≡◌, ℕ, ◌<◌, ◌≤◌, List, [], ◌∷◌, ◌++◌, length, refl, sym, ap, subst, ◌∙◌, arith, inl, inr, append_assoc, codes, decimal}
use Rattle.std.proofs.lemmas.List.{length-map}
use Rattle.std.specs.Prelude.{Bool, Option, Some, None, unwrap_or}
use Rattle.std.specs.List.{AllByRecursion, range_with_len}
use Rattle.std.proofs.lemmas.List.FromFn.{length-range_with_len}
use Rattle.hex_image.specs.declared.refused.HexCode.{HexCode}
use Rattle.hex_image.specs.declared.refused.HexRefused.{HexRefused}
use Rattle.hex_image.specs.declared.refused.HexRefused.TheVariants.{Image}
use Rattle.hex_image.specs.Answers.{HasCause}
use Rattle.hex_image.specs.Codes.{number_of}
use Rattle.hex_image.specs.declared.flash.Base.TheVariants.{Zero}
use Rattle.hex_image.specs.Image.{Cell, given, byte_at, extent}
use Rattle.hex_image.specs.Spells.{flash_size, Spells, Breaks}
use Rattle.sts_base.specs.Faults.{Rose}
use Rattle.tool_io.specs.Putting.{Took}
use Rattle.board_world.specs.Observations.{End as RunEnd, Quietly, By_script}
use Rattle.board_world.specs.Transcript.{lines, closing_line}
use Rattle.board_world.specs.Board.{Board}
use Rattle.event_script.specs.declared.script.Script.{Script as ReadScript}
use Rattle.board_run.specs.declared.board.Stats.{Stats}
use Rattle.board_run.specs.declared.end.End.{End}
use Rattle.board_run.specs.declared.end.End.TheVariants.{Quiet, Script, Panic, Budget, Fault, SinkFault}
use Rattle.board_run.specs.Outside.{outside_of}
use Rattle.board_run.specs.Ran.{world_after, IsCut as IsRunCut}
use Rattle.sts_whole.specs.Runs.{RunsTo, RunsImage}
use Rattle.run_tool.specs.declared.ending.Status.TheVariants as status
use Rattle.run_tool.specs.declared.ending.Ending.TheVariants.{Gave, Cut}
use Rattle.run_tool.specs.Files.{ToldFiles, code_line}
use Rattle.run_tool.specs.Answers.{Answer, says, runs, Concludes, of_devices, of_sink}
use Rattle.run_tool.specs.Scripts.{AnswersScript, OverScript}
use Rattle.run_tool.specs.Run.{RunsProgram, RunsText}
use Rattle.run_tool.specs.Runs.{run_status, RunsBoard, RunsHex}
use Rattle.run_tool.specs.inner.{ending_of}
use Rattle.board_ports.specs.Account.{Account}
use Rattle.run_tool.proofs.Readings.{IsOnward, file-onwards}

extent-fits : (cells : List Cell) → AllByRecursion (λ cell. cell.at < flash_size) cells → extent cells ≤ flash_size
extent-fits [] h = omega arith
extent-fits (cell ∷ cells) h = let rest = extent-fits cells h.1 in let first : cell.at < flash_size = h.0 in omega (arith, rest, first)

-- an image that is spelled fits the flash
pub image-fits : (text image : List ℕ) → Spells text image → length image ≤ flash_size
image-fits text image s =
    let cells = given Zero s.records in
    let same : length image ≡ extent cells =
    ap length s.content ∙ length-map (range_with_len 0 (extent cells)) (λ at. unwrap_or (byte_at cells at) 0xFF) ∙ length-range_with_len 0 (extent cells) in
    omega (arith, same, extent-fits cells s.sound.in_flash)

three : (a b c : List ℕ) → a ++ b ++ c ≡ a ++ (b ++ c)
three a b c = append_assoc a b c

pub image-refusal-pieces : (printed code : ℕ) → printed ≡ code → [] ++ codes "image refused " ++ decimal printed ++ codes "\n" ≡ code_line (codes "image refused ") code
image-refusal-pieces printed code e = three (codes "image refused ") (decimal printed) (codes "\n") ∙ ap (code_line (codes "image refused ")) e

module _ {S B : Type 0} (taken : S → Option (List ℕ)) (faults : S → ℕ) (old new : S) (account : B → Account) (places places' : List (Option B))
    (image : List ℕ) (script : ReadScript) (budget : ℕ) (later : faults old ≤ faults new) where
  -- a run that came to its end, or to that of its budget
  pub run-gives : (end : Option RunEnd) (stats : Stats) → RunsTo account image script budget (outside_of taken faults old places) (outside_of taken faults new places') end stats
      → Concludes (of_sink taken faults old new) (of_devices account places places') [] (RunsBoard image script budget) (Gave (run_status end))
  run-gives end stats r =
      let b : Board = (world_after image script r.free r.executed).board in
      let closing = closing_line b.clock b.end in
      record {
        ends = (
          runs (run_status b.end) r.moves closing,
          record { free = r.free; executed = r.executed; moves = r.moves; is_executed = r.is_executed; met = r.met; is = refl },
          ap run_status (sym r.ended),
          subst (λ os. Took (taken old) (taken new) (lines os ++ closing)) r.met.seen r.written,
          r.devices,
        );
        later = later;
        cut = λ e. absurd (cc);
      }

  -- a run that the sink stopped
  pub run-cut : IsRunCut account (world_after image script) budget (outside_of taken faults old places) (outside_of taken faults new places') × Rose (faults old) (faults new)
      → Concludes (of_sink taken faults old new) (of_devices account places places') [] (RunsBoard image script budget) Cut
  run-cut r =
      let b : Board = (world_after image script r.0.free r.0.executed).board in
      record {
        ends = (
          runs (run_status b.end) r.0.moves (closing_line b.clock b.end),
          record { free = r.0.free; executed = r.0.executed; moves = r.0.moves; is_executed = r.0.is_executed; met = r.0.met; is = refl },
          inr r.0.stopped,
        );
        later = later;
        cut = λ e. r.1;
      }

  -- what a call that ran an image answered
  pub run-ends : (end : End) (stats : Stats) → RunsImage account image script budget (outside_of taken faults old places) (outside_of taken faults new places') end stats
      → Concludes (of_sink taken faults old new) (of_devices account places places') [] (RunsBoard image script budget) (ending_of end)
  run-ends Quiet stats r = run-gives (Some Quietly) stats r
  run-ends Script stats r = run-gives (Some By_script) stats r
  run-ends (Panic code) stats r = run-gives _ stats r
  run-ends (Fault fault address) stats r = run-gives _ stats r
  run-ends Budget stats r = run-gives None stats r
  run-ends SinkFault stats r = run-cut r

-- where a folder tells the same and failed no less
pub script-onwards : (files files' : ToldFiles) (name : Option (List ℕ)) (answers : ReadScript → Answer → Type 0) (answer : Answer)
    → IsOnward files files' → OverScript files name answers answer → OverScript files' name answers answer
script-onwards files files' None answers answer on h = h
script-onwards files files' (Some name) answers answer on h = file-onwards (AnswersScript answers) files files' name answer on h

pub hex-onwards : (files files' : ToldFiles) (script : Option (List ℕ)) (budget : ℕ) (text : List ℕ) (answer : Answer)
    → IsOnward files files' → RunsHex files script budget text answer → RunsHex files' script budget text answer
hex-onwards files files' script budget text answer on (inl h) = inl (h.0, h.1, script-onwards files files' script (λ read. RunsBoard h.0 read budget) answer on h.2)
hex-onwards files files' script budget text answer on (inr h) = inr h

pub program-onwards : (files files' : ToldFiles) (script : Option (List ℕ)) (budget : ℕ) (stats image : Bool) (text : List ℕ) (answer : Answer)
    → IsOnward files files' → RunsText files script budget stats image text answer → RunsText files' script budget stats image text answer
program-onwards files files' script budget stats image text answer on (inl h) =
    inl (h.0, h.1, script-onwards files files' script (λ read. RunsProgram h.0.1 h.0.0.texts read budget stats image) answer on h.2)
program-onwards files files' script budget stats image text answer on (inr h) = inr h

-- a text that spells no image is refused
pub broken-answer : (files : ToldFiles) (script : Option (List ℕ)) (text : List ℕ) (budget : ℕ) (code : HexCode) (why : HexRefused) → why ≡ Image code
    → HasCause why (Breaks text) → (answer : Answer) → answer ≡ says status.ImageRefused (code_line (codes "image refused ") (number_of code)) → RunsHex files script budget text answer
broken-answer files script text budget code why e cause answer h = inr (code, subst (λ x. HasCause x (Breaks text)) e cause, h)

pub script-refusal-pieces : (printed code : ℕ) → printed ≡ code → [] ++ codes "script refused " ++ decimal printed ++ codes "\n" ≡ code_line (codes "script refused ") code
script-refusal-pieces printed code e = three (codes "script refused ") (decimal printed) (codes "\n") ∙ ap (code_line (codes "script refused ")) e
