-- Runs of a program with arrivals.
use Rattle.std.proofs.Common.{◌≡◌, ◌≤◌, ℕ, List, [], ◌++◌, inl, inr, refl, sym, ap, ◌∙◌, subst, append_assoc, codes, decimal}
use Rattle.std.specs.Prelude.{Option, Some, None, Result, Ok, Err}
use Rattle.serde_json.specs.Data.{Data}
use Rattle.sts_base.specs.Faults.{Rose}
use Rattle.tool_io.specs.Putting.{Took}
use Rattle.board_world.specs.Observations.{ByteList, End as RunEnd, Quietly, By_script, Panicked}
use Rattle.board_world.specs.Transcript.{lines, closing_line}
use Rattle.board_world.specs.Board.{Board}
use Rattle.sts_syntax.specs.TypedTrees.{TypedProgram}
use Rattle.event_script.specs.Json.{IsTree}
use Rattle.event_script.specs.declared.script.Script.{Script}
use Rattle.arrival_file.specs.Verdict.{Tells}
use Rattle.arrival_file.specs.World.{world_arrivals}
use Rattle.arrival_file.specs.declared.arrival.Arrival.{Arrival}
use Rattle.arrival_file.specs.declared.arrival.ArrivalCode.{ArrivalCode}
use Rattle.arrival_file.specs.declared.arrival.ArrivalCode.TheVariants.{NotJson, NotArrivals, OutOfOrder, TooMany}
use Rattle.arrival_file.specs.declared.arrival.ArrivalRefused.{ArrivalRefused}
use Rattle.arrival_file.specs.declared.arrival.ArrivalRefused.TheVariants.{Arrivals as OfArrivals}
use Rattle.board_run.specs.declared.end.End.{End}
use Rattle.board_run.specs.declared.end.End.TheVariants as ended
use Rattle.board_run.specs.Outside.{outside_of}
use Rattle.hex_image.specs.Laws.{IsImage}
use Rattle.sts_whole.specs.Compiled.{IsBuiltFor}
use Rattle.irq_arrival.specs.SourceRuns.{source_at, RunsSourceTo, CutsSource, RunsSourceAt}
use Rattle.run_tool.specs.declared.ending.Ending.TheVariants.{Gave, Cut}
use Rattle.run_tool.specs.declared.fetched.Fetched.TheVariants.{Text}
use Rattle.run_tool.specs.Answers.{Answer, runs, Concludes, of_devices, of_sink}
use Rattle.run_tool.specs.Runs.{run_status}
use Rattle.run_tool.specs.inner.{ending_of, HasText, none_to_read}
use Rattle.run_tool.specs.Scripts.{AnswersScript}
use Rattle.run_tool.specs.Files.{AnswersFile, ToldFiles, code_line}
use Rattle.run_tool.specs.RunAt.{AnswersArrivals, RefusesArrivals, RunsProgramAt, RunsOnScript, RunsOutside, RunsTextAt}
use Rattle.run_tool.proofs.Readings.{IsOnward, file-onwards, file-more, program-more}
use Rattle.board_ports.specs.Account.{Account}

pub arrivals-refusal-pieces : (printed code : ℕ) → printed ≡ code → [] ++ codes "arrivals refused " ++ decimal printed ++ codes "\n" ≡ code_line (codes "arrivals refused ") code
arrivals-refusal-pieces printed code e = append_assoc (codes "arrivals refused ") (decimal printed) (codes "\n") ∙ ap (code_line (codes "arrivals refused ")) e

-- why arrivals are refused
pub refuses-arrivals : (text : List ℕ) (r : Result (List Arrival) ArrivalRefused) (code : ArrivalCode) → r ≡ Err (OfArrivals code)
    → (r ≡ Err (OfArrivals NotJson) → (tree : Data) → ¬ (IsTree text tree)) → (r ≡ Err (OfArrivals NotArrivals) → Tells text (Err NotArrivals)) → (r ≡ Err (OfArrivals OutOfOrder) → Tells text (Err OutOfOrder))
    → (r ≡ Err (OfArrivals TooMany) → Tells text (Err TooMany)) → RefusesArrivals text code
refuses-arrivals text r NotJson e a b c d = a e
refuses-arrivals text r NotArrivals e a b c d = b e
refuses-arrivals text r OutOfOrder e a b c d = c e
refuses-arrivals text r TooMany e a b c d = d e

-- where no arrivals were read, the answer is one of each command
pub no-arrivals : (files : ToldFiles) (name : List ℕ) (answers : List Arrival → Answer → Type 0) (answer : Answer) → AnswersFile files name (AnswersArrivals none_to_read) answer
    → AnswersFile files name (AnswersArrivals answers) answer
no-arrivals files name answers answer h = file-more (AnswersArrivals none_to_read) (AnswersArrivals answers) files name answer by_text h
  where
    by_text : (text : List ℕ) → AnswersArrivals none_to_read text answer → AnswersArrivals answers text answer
    by_text text (inl x) = absurd x.2
    by_text text (inr x) = inr x

-- the answers over the arrivals that are named
pub over-arrivals : (files : ToldFiles) (name : List ℕ) (answers : List Arrival → Answer → Type 0) (come : List Arrival) (answer : Answer) → HasText files name (λ text. Tells text (Ok come))
    → answers come answer → AnswersFile files name (AnswersArrivals answers) answer
over-arrivals files name answers come answer s h = (Text s.0, s.1, inl (come, s.2, h))

-- where a folder tells the same and failed no less
module _ (files files' : ToldFiles) (script arrivals : List ℕ) (budget : ℕ) (on : IsOnward files files') where
  pub script-runs-onwards : (P : TypedProgram) (texts : List ByteList) (read : Script) (answer : Answer) → RunsOnScript files arrivals budget P texts read answer → RunsOnScript files' arrivals budget P texts read answer
  script-runs-onwards P texts read answer h = file-onwards (AnswersArrivals (λ come. RunsProgramAt P texts read come budget)) files files' arrivals answer on h

  outside-onwards : (P : TypedProgram) (texts : List ByteList) (answer : Answer) → RunsOutside files script arrivals budget P texts answer → RunsOutside files' script arrivals budget P texts answer
  outside-onwards P texts answer h =
      file-more (AnswersScript (RunsOnScript files arrivals budget P texts)) (AnswersScript (RunsOnScript files' arrivals budget P texts)) files' script answer by_text
      (file-onwards (AnswersScript (RunsOnScript files arrivals budget P texts)) files files' script answer on h)
    where
      by_text : (text : List ℕ) → AnswersScript (RunsOnScript files arrivals budget P texts) text answer → AnswersScript (RunsOnScript files' arrivals budget P texts) text answer
      by_text text (inl x) = inl (x.0, x.1, script-runs-onwards P texts x.0 answer x.2)
      by_text text (inr x) = inr x

  pub text-runs-onwards : (text : List ℕ) (answer : Answer) → RunsTextAt files script arrivals budget text answer → RunsTextAt files' script arrivals budget text answer
  text-runs-onwards text answer h = program-more (RunsOutside files script arrivals budget) (RunsOutside files' script arrivals budget) text answer (λ P texts x. outside-onwards P texts answer x) h

-- what a call that ran an image with arrivals answered
module _ {S B : Type 0} (taken : S → Option (List ℕ)) (faults : S → ℕ) (old new : S) (account : B → Account) (places places' : List (Option B))
    (P : TypedProgram) (texts : List ByteList) (image : List ℕ) (is_image : IsImage image) (implements : IsBuiltFor P texts image) (script : Script) (come : List Arrival) (budget : ℕ) (later : faults old ≤ faults new) where
  -- a run that came to its end, or to that of its budget
  gives : (end : Option RunEnd) → RunsSourceTo account P texts image script (world_arrivals come) budget (outside_of taken faults old places) (outside_of taken faults new places') end
      → Concludes (of_sink taken faults old new) (of_devices account places places') [] (RunsProgramAt P texts script come budget) (Gave (run_status end))
  gives end r =
      let b : Board = (source_at P texts script r.meets.places r.meets.steps).board in
      let closing = closing_line b.clock b.end in
      record {
        ends = (
          runs (run_status b.end) r.meets.moves closing,
          record { image = image; is_image = is_image; built = implements; meets = r.meets; is = refl },
          ap run_status (sym r.ended),
          subst (λ os. Took (taken old) (taken new) (lines os ++ closing)) r.meets.met.seen r.written,
          r.devices,
        );
        later = later;
        cut = λ e. absurd (cc);
      }

  -- a run that the sink stopped
  stopped : CutsSource account P texts image script (world_arrivals come) budget (outside_of taken faults old places) (outside_of taken faults new places') × Rose (faults old) (faults new)
      → Concludes (of_sink taken faults old new) (of_devices account places places') [] (RunsProgramAt P texts script come budget) Cut
  stopped r =
      let b : Board = (source_at P texts script r.0.meets.places r.0.meets.steps).board in
      record {
        ends = (
          runs (run_status b.end) r.0.meets.moves (closing_line b.clock b.end),
          record { image = image; is_image = is_image; built = implements; meets = r.0.meets; is = refl },
          inr r.0.stopped,
        );
        later = later;
        cut = λ e. r.1;
      }

  pub at-ends : (end : End) → RunsSourceAt account P texts image script (world_arrivals come) budget (outside_of taken faults old places) (outside_of taken faults new places') end
      → Concludes (of_sink taken faults old new) (of_devices account places places') [] (RunsProgramAt P texts script come budget) (ending_of end)
  at-ends ended.Quiet r = gives (Some Quietly) r
  at-ends ended.Script r = gives (Some By_script) r
  at-ends (ended.Panic code) r = gives (Some (Panicked code)) r
  at-ends (ended.Fault fault address) r = absurd r
  at-ends ended.Budget r = gives None r
  at-ends ended.SinkFault r = stopped r
