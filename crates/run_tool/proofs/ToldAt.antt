-- What `run-at` comes to over files that are told.
use Rattle.std.proofs.Common.{◌≡◌, ◌≤◌, ◌⊎◌, ℕ, Bool, true, false, not, ◌&&◌, nat_le, List, [], ◌∷◌, ◌++◌, inl, inr, refl, sym, ap, ◌∙◌, subst, arith}
use Rattle.std.specs.Prelude.{Option, Some, Result, Ok, Err}
use Rattle.std.specs.List.{AllByRecursion}
use Rattle.std.proofs.lemmas.Bool.Decides.{nat_tests}
use Rattle.sts_base.specs.Faults.{Rose}
use Rattle.sts_base.specs.declared.tables.Tables.{Tables}
use Rattle.tool_io.specs.Putting.{Took}
use Rattle.board_world.specs.Transcript.{lines, closing_line}
use Rattle.board_world.specs.Board.{Board, over}
use Rattle.board_world.specs.Simulation.{Paired}
use Rattle.board_world.specs.Runs.{Arrival as WorldArrival, Placed, applied}
use Rattle.sts_syntax.specs.TypedTrees.{TypedProgram}
use Rattle.event_script.specs.declared.script.Script.{Script}
use Rattle.arrival_file.specs.Verdict as arrival
use Rattle.arrival_file.specs.World.{world_arrivals}
use Rattle.arrival_file.specs.Form.{arrivals_of}
use Rattle.arrival_file.specs.declared.arrival.Arrival.{Arrival}
use Rattle.arrival_file.specs.declared.arrival.ArrivalCode.{ArrivalCode}
use Rattle.arrival_file.specs.declared.arrival.ArrivalCode.TheVariants as arrival_code
use Rattle.event_script.specs.World.{world_entries}
use Rattle.irq_arrival.specs.Along.{world_with}
use Rattle.irq_arrival.specs.SourceRuns.{source_at}
use Rattle.typed_program.specs.Laws.{OneAnswer}
use Rattle.sts_words.specs.Orders.{Asked, run_at}
use Rattle.run_tool.specs.declared.ending.Ending.{Ending}
use Rattle.run_tool.specs.declared.ending.Ending.TheVariants.{Gave, Cut, NoMemory}
use Rattle.run_tool.specs.Files.{Telling, ToldFiles, unfailing}
use Rattle.run_tool.specs.Answers.{Answer, status_of, status_number, output_of, OfSink, OfDevices, Leaves, CommandEnds, Concludes, ending_number}
use Rattle.run_tool.specs.Runs.{run_status}
use Rattle.run_tool.specs.RunAt.{AnswersArrivals, RefusesArrivals, RunsProgramAt, RunsOnScript, RunsOutside, AreTold, WritesAt, IsRunOfImageAt, HeadlineAt}
use Rattle.run_tool.specs.Orders.{MayAnswer, lead_of}
use Rattle.run_tool.proofs.Completing.{onwards}
use Rattle.run_tool.proofs.Headlines.{one-tree, file-told, script-told, program-file-told, never}
use Rattle.run_tool.proofs.ProgramStatuses.{run-number}

-- arrivals have one verdict
one-list : (text : List ℕ) (a b : Result (List Arrival) ArrivalCode) → arrival.Tells text a → arrival.Tells text b → a ≡ b
one-list text a b s t = sym s.judges ∙ (ap (λ d. arrival.judged_form (arrivals_of d)) (one-tree text s.tree t.tree s.is t.is) ∙ t.judges)

pub not-both : {T C : Type 0} (read : T) (code : C) → Ok read ≡ Err code → ⊥
not-both read code e = cc

list-stands : (text : List ℕ) (come : List Arrival) (code : ArrivalCode) → arrival.Tells text (Ok come) → RefusesArrivals text code → ⊥
list-stands text come arrival_code.NotJson s r = r s.tree s.is
list-stands text come arrival_code.NotArrivals s r = not-both come arrival_code.NotArrivals (one-list text _ _ s r)
list-stands text come arrival_code.OutOfOrder s r = not-both come arrival_code.OutOfOrder (one-list text _ _ s r)
list-stands text come arrival_code.TooMany s r = not-both come arrival_code.TooMany (one-list text _ _ s r)

pub same-read : {T C : Type 0} (x y : T) (r : Result T C) → r ≡ Ok x → r ≡ Ok y → x ≡ y
same-read x y r e h = cc

-- those that are applied within some steps come within them
applied-within : (board : ℕ → Board) (list : List WorldArrival) (m most : ℕ) → m ≤ most → AllByRecursion (λ (a : WorldArrival). a.count ≤ most) (applied board list m)
applied-within board [] m most l = tt
applied-within board (a ∷ rest) m most l = by_test (nat_le a.count m && not (over (board a.count))) refl (applied-within board rest m most l)
  where
    by_test : (t : Bool) → (nat_le a.count m && not (over (board a.count))) ≡ t → AllByRecursion (λ (b : WorldArrival). b.count ≤ most) (applied board rest m)
        → AllByRecursion (λ (b : WorldArrival). b.count ≤ most) (applied board (a ∷ rest) m)
    by_test true e others = (let come : a.count ≤ m = grind (arith, nat_tests, e) in rw e (omega (arith, come, l), others))
    by_test false e others = rw e others

module _ (one : OneAnswer) (told : Telling) (name script_name arrivals_name : List ℕ) (budget : ℕ) (tables : Tables) (P : TypedProgram) (read : Script) (come : List Arrival)
    (n : AreTold told name script_name arrivals_name tables P read come) where
  -- the answer over these arrivals
  over-these : (answer : Answer) → AnswersArrivals (λ list. RunsProgramAt P tables.texts read list budget) n.arrivals.0 answer → RunsProgramAt P tables.texts read come budget answer
  over-these answer (inl x) =
      subst (λ list. RunsProgramAt P tables.texts read list budget answer) (same-read x.0 come (Ok come) (sym (one-list n.arrivals.0 (Ok x.0) (Ok come) x.1 n.arrivals.2.1)) refl) x.2
  over-these answer (inr x) = absurd (list-stands n.arrivals.0 come x.0 n.arrivals.2.1 x.1)

  pub due : (answer : Answer) → MayAnswer (unfailing told) (Some (run_at name script_name arrivals_name budget)) answer → RunsProgramAt P tables.texts read come budget answer
  due answer h =
      let files = unfailing told in
      let there : RunsOutside files script_name arrivals_name budget P tables.texts answer = program-file-told one (RunsOutside files script_name arrivals_name budget) files name tables P answer never n.program h in
      let on_it : RunsOnScript files arrivals_name budget P tables.texts read answer = script-told files (Some script_name) (RunsOnScript files arrivals_name budget P tables.texts) read answer never n.script there in
      over-these answer (file-told (AnswersArrivals (λ list. RunsProgramAt P tables.texts read list budget)) files arrivals_name n.arrivals.0 answer n.arrivals.1 n.arrivals.2.0 never on_it)

  module _ {B : Type 0} (sink : OfSink) (devices : OfDevices B) where
    -- it was written, and is the run of an image
    abbrev Wrote : ℕ → Type 0
    Wrote number = (w : WritesAt sink devices P tables.texts read come budget number) × IsRunOfImageAt P tables.texts read come budget w.comes

    writes : (answer : Answer) (number : ℕ) → RunsProgramAt P tables.texts read come budget answer → Took sink.taken_before sink.taken_after (output_of answer) → Leaves devices answer → number ≡ status_number (status_of answer)
        → Wrote number
    writes answer number r took leaves e =
        let b : Board = (source_at P tables.texts read r.meets.places r.meets.steps).board in
        let status : number ≡ status_number (run_status b.end) = e ∙ ap (λ a. status_number (status_of a)) r.is in (
          record {
            comes = record {
              steps = r.meets.steps;
              places = r.meets.places;
              moves = r.meets.moves;
              rises = r.meets.reaches.rises;
              placed = subst (λ xs. Paired (Placed 512) xs r.meets.places) r.meets.reaches.are_first r.meets.reaches.placed;
              within = subst (λ (xs : List WorldArrival). AllByRecursion (λ (a : WorldArrival). a.count ≤ budget) xs) r.meets.reaches.are_first (applied-within (λ n. (world_with r.image read.end (world_entries read.entries) (world_arrivals come) r.meets.free n).board) (world_arrivals come) r.meets.executed budget r.meets.reaches.is_executed.within);
              applies = r.meets.reaches.applies;
              at_most = r.meets.reaches.at_most;
              at_least = r.meets.reaches.at_least;
              met = r.meets.met;
            };
            written = subst (λ os. Took sink.taken_before sink.taken_after (lines os ++ closing_line b.clock b.end)) (sym r.meets.met.seen) (subst (λ a. Took sink.taken_before sink.taken_after (output_of a)) r.is took);
            met = subst (λ a. Leaves devices a) r.is leaves;
            status = status;
            ended = run-number b.end number r.meets.faultless status;
          },
          record {
            image = r.image;
            is_image = r.is_image;
            built = r.built;
            free = r.meets.free;
            executed = r.meets.executed;
            is_executed = r.meets.reaches.is_executed;
            board = r.meets.reaches.board;
            came = sym r.meets.reaches.are_first;
          },
        )

    by-ending : (rose : Type 0) (ending : Ending) (number : ℕ) → number ≡ ending_number ending
        → CommandEnds sink devices [] (MayAnswer (record { told = told; rose = rose }) (Some (run_at name script_name arrivals_name budget))) ending
        → (ending ≡ Cut → Rose sink.faults_before sink.faults_after) → ¬ rose → ¬ Rose sink.faults_before sink.faults_after
        → ((number ≡ 30) × Took sink.taken_before sink.taken_after [] × (devices.after ≡ devices.before)) ⊎ Wrote number
    by-ending rose (Gave given) number e s cut quiet calm =
        inr (writes s.0 number (due s.0 (onwards (record { told = told; rose = rose }) (unfailing told) (Some (run_at name script_name arrivals_name budget)) s.0 (λ file. refl, quiet) s.1)) s.3 s.4 (e ∙ ap status_number s.2))
    by-ending rose Cut number e s cut quiet calm = absurd (calm (cut refl))
    by-ending rose NoMemory number e (inl x, p) cut quiet calm = inl (e, x, p)
    by-ending rose NoMemory number e (inr x, p) cut quiet calm = inl (e, x, p)

-- what a call comes to that ended so
pub headline-at : (one : OneAnswer) {B : Type 0} {sink : OfSink} {devices : OfDevices B} (files : ToldFiles) (asked : Option Asked) (ending : Ending) (number : ℕ) → number ≡ ending_number ending
    → Concludes sink devices (lead_of asked) (MayAnswer files asked) ending → HeadlineAt files sink devices asked number
headline-at one {B} {sink} {devices} files asked ending number e s = λ name script_name arrivals_name budget tables P read come is n fine.
    by-ending one files.told name script_name arrivals_name budget tables P read come n sink devices files.rose ending number e
    (subst (λ o. CommandEnds sink devices (lead_of o) (MayAnswer files o) ending) is s.ends) s.cut fine.0 fine.1
