-- The statuses of calls in which nothing fails, and of commands.
use Rattle.std.proofs.Common.{◌≡◌, ◌⊎◌, codes, ℕ, List, [], inl, inr, refl, sym, subst, ap, ◌∙◌, arith}
use Rattle.std.specs.Prelude.{Option, Some, None, Bool, true, false, IsSomeAnd}
use Rattle.std.proofs.lemmas.Bool.{false≢true}
use Rattle.board_world.specs.Observations.{ByteList, End, Quietly, By_script, Panicked, Faulted}
use Rattle.board_world.specs.Board.{Board}
use Rattle.board_world.specs.Implements.{EndsByNoFault}
use Rattle.sts_syntax.specs.TypedTrees.{TypedProgram}
use Rattle.hex_image.specs.Writing.{hextext}
use Rattle.event_script.specs.declared.script.Script.{Script}
use Rattle.run_tool.specs.declared.ending.Status.{Status}
use Rattle.run_tool.specs.declared.ending.Status.TheVariants as status
use Rattle.run_tool.specs.declared.ending.Ending.{Ending}
use Rattle.run_tool.specs.declared.ending.Ending.TheVariants.{Gave, Cut, NoMemory}
use Rattle.run_tool.specs.declared.fetched.Fetched.{Fetched}
use Rattle.run_tool.specs.declared.fetched.Fetched.TheVariants.{Text, Absent, Long, Failed}
use Rattle.sts_base.specs.Faults.{Rose}
use Rattle.sts_words.specs.Orders.{Asked, check_program, build_program, run_program, run_image, run_at, run_class, run_big}
use Rattle.run_tool.specs.Files.{ToldFiles, unfailing, MayFetch, AnswersFetched, AnswersFile}
use Rattle.run_tool.specs.Answers.{Answer, says, status_of, status_number, OfSink, OfDevices, CommandEnds, Concludes, ending_number}
use Rattle.run_tool.specs.Scripts.{AnswersScript, OverScript, default_script}
use Rattle.run_tool.specs.Run.{RunsProgram, RunsText}
use Rattle.run_tool.specs.Runs.{run_status, RunsBoard, RunsHex}
use Rattle.run_tool.specs.Big.{big_text}
use Rattle.run_tool.specs.Programs.{OverProgram, ChecksText, WritesImage, BuildsText}
use Rattle.run_tool.specs.Orders.{MayAnswer, CompletesCommand, IsOfImage, NamesScript}
use Rattle.sts_whole.specs.Programs.{source_after}
use Rattle.sts_whole.proofs.Laws.{faultless}
use Rattle.run_tool.proofs.Readings.{SaysAccepted, IsOnward, quietly, file-onwards, file-more}
use Rattle.run_tool.proofs.ImageRuns.{program-onwards, hex-onwards}
use Rattle.arrival_file.specs.declared.arrival.Arrival.{Arrival}
use Rattle.irq_arrival.specs.SourceRuns.{source_at}
use Rattle.run_tool.specs.RunAt.{AnswersArrivals, RunsProgramAt, RunsOnScript, RunsOutside, RunsTextAt}
use Rattle.run_tool.specs.Class.{RunsClassText}
use Rattle.run_tool.proofs.RunsAt.{text-runs-onwards}
use Rattle.run_tool.proofs.ClassTexts.{class-text-onwards}
use Rattle.run_tool.proofs.ClassStatuses.{in-class}

-- what may be answered may be answered too where the folder tells the same and failed no less
pub onwards : (files files' : ToldFiles) (asked : Option Asked) (answer : Answer) → IsOnward files files' → MayAnswer files asked answer → MayAnswer files' asked answer
onwards files files' None answer on h = h
onwards files files' (Some (check_program name)) answer on h = file-onwards ChecksText files files' name answer on h
onwards files files' (Some (build_program name)) answer on h = file-onwards BuildsText files files' name answer on h
onwards files files' (Some (run_program name script budget stats image)) answer on h =
    file-onwards (RunsText files' script budget stats image) files files' name answer on
    (file-more (RunsText files script budget stats image) (RunsText files' script budget stats image) files name answer (λ text x. program-onwards files files' script budget stats image text answer on x) h)
onwards files files' (Some (run_image name script budget)) answer on h =
    file-onwards (RunsHex files' script budget) files files' name answer on
    (file-more (RunsHex files script budget) (RunsHex files' script budget) files name answer (λ text x. hex-onwards files files' script budget text answer on x) h)
onwards files files' (Some (run_at name script arrivals budget)) answer on h =
    file-onwards (RunsTextAt files' script arrivals budget) files files' name answer on
    (file-more (RunsTextAt files script arrivals budget) (RunsTextAt files' script arrivals budget) files name answer (λ text x. text-runs-onwards files files' script arrivals budget on text answer x) h)
onwards files files' (Some (run_class name budget)) answer on h =
    file-onwards (RunsClassText files' budget) files files' name answer on
    (file-more (RunsClassText files budget) (RunsClassText files' budget) files name answer (λ text x. class-text-onwards files files' budget on text answer x) h)
onwards files files' (Some (run_big size budget stats)) answer on h = program-onwards files files' None budget stats false (big_text size) answer on h

module _ {B : Type 0} (sink : OfSink) (devices : OfDevices B) (lead : List ℕ) where
  ends-complete : (files : ToldFiles) (asked : Option Asked) (ending : Ending) (number : ℕ)
      → number ≡ ending_number ending → CommandEnds sink devices lead (MayAnswer files asked) ending → (ending ≡ Cut → Rose sink.faults_before sink.faults_after) → CompletesCommand files sink asked number
  ends-complete files asked (Gave given) number e s cut = λ fine. inl (s.0, onwards files (unfailing files.told) asked s.0 (quietly files fine.0) s.1, e ∙ ap status_number s.2)
  ends-complete files asked Cut number e s cut = λ fine. absurd (fine.1 (cut refl))
  ends-complete files asked NoMemory number e s cut = λ fine. inr e

pub completes : {B : Type 0} {sink : OfSink} {devices : OfDevices B} {lead : List ℕ} (files : ToldFiles) (asked : Option Asked) (ending : Ending) (number : ℕ) → number ≡ ending_number ending
    → Concludes sink devices lead (MayAnswer files asked) ending → CompletesCommand files sink asked number
completes {B} {sink} {devices} {lead} files asked ending number e s = ends-complete sink devices lead files asked ending number e s.ends s.cut

-- the answer that was given, where the status is known
given-answer : {B : Type 0} {sink : OfSink} {devices : OfDevices B} {lead : List ℕ} (may : Answer → Type 0) (given : Status) (ending : Ending) → ending ≡ Gave given → Concludes sink devices lead may ending → (answer : Answer) × may answer × (status_of answer ≡ given)
given-answer {B} {sink} {devices} {lead} may given ending e s = (let known : Concludes sink devices lead may (Gave given) = subst (λ x. Concludes sink devices lead may x) e s in (known.ends.0, known.ends.1, sym known.ends.2))

-- kinds of statuses
abbrev of_image : Status → Bool
of_image status.ImageRefused = true
of_image status.Faulted = true
of_image other = false

abbrev of_refused : Status → Bool
of_refused status.Refused = true
of_refused other = false

abbrev of_script : Status → Bool
of_script status.ScriptRefused = true
of_script status.ClassRefused = true
of_script status.ArrivalsRefused = true
of_script other = false

abbrev of_folder : Status → Bool
of_folder status.FolderFailed = true
of_folder other = false

is-of : {X : Type 0} (t : Status → X) (answer : Answer) (given : Status) (output : List ℕ) (x : X) → answer ≡ says given output → t given ≡ x → t (status_of answer) ≡ x
is-of t answer given output x e h = ap (λ a. t (status_of a)) e ∙ h

two-ways : (b : Bool) → b ≡ false → b ≡ true → ⊥
two-ways b f t = false≢true (sym f ∙ t)

-- an output of another status
not-said : (t : Status → Bool) (answer : Answer) (given : Status) (output : List ℕ) → t (status_of answer) ≡ true → t given ≡ false → answer ≡ says given output → ⊥
not-said t answer given output i f e = two-ways (t (status_of answer)) (is-of t answer given output false e f) i

-- a run's status is no refusal, and no failure of the folder
abbrev of_run : Status → Bool
of_run status.Refused = false
of_run status.ScriptRefused = false
of_run status.ClassRefused = false
of_run status.ArrivalsRefused = false
of_run status.ImageRefused = false
of_run status.FolderFailed = false
of_run other = true

run-of : (end : Option End) → of_run (run_status end) ≡ true
run-of None = refl
run-of (Some Quietly) = refl
run-of (Some By_script) = refl
run-of (Some (Panicked code)) = refl
run-of (Some (Faulted kind address)) = refl

board-status : (image : List ℕ) (script : Script) (budget : ℕ) (answer : Answer) → RunsBoard image script budget answer → of_run (status_of answer) ≡ true
board-status image script budget answer r = ap (λ a. of_run (status_of a)) r.is ∙ run-of _

-- that of a program's run is no fault either
abbrev of_program : Status → Bool
of_program status.Faulted = false
of_program other = of_run other

program-of : (end : Option End) → EndsByNoFault end → of_program (run_status end) ≡ true
program-of None h = refl
program-of (Some Quietly) h = refl
program-of (Some By_script) h = refl
program-of (Some (Panicked code)) h = refl
program-of (Some (Faulted kind address)) h = absurd h

program-status : (P : TypedProgram) (texts : List ByteList) (script : Script) (budget : ℕ) (stats image : Bool) (answer : Answer) → RunsProgram P texts script budget stats image answer
    → of_program (status_of answer) ≡ true
program-status P texts script budget stats image answer r =
    let sound : EndsByNoFault (source_after P texts script r.steps).board.end =
    subst (λ (b : Board). EndsByNoFault b.end) (sym r.reaches.board) (faultless P texts r.image r.built.implements script r.free r.executed) in
    ap (λ a. of_program (status_of a)) r.is ∙ program-of (source_after P texts script r.steps).board.end sound

at-status : (P : TypedProgram) (texts : List ByteList) (script : Script) (come : List Arrival) (budget : ℕ) (answer : Answer) → RunsProgramAt P texts script come budget answer → of_program (status_of answer) ≡ true
at-status P texts script come budget answer r =
    let b = (source_at P texts script r.meets.places r.meets.steps).board in
    ap (λ a. of_program (status_of a)) r.is ∙ program-of b.end r.meets.faultless

-- a status of which runs have none
abbrev Misses : (Status → Bool) → (Status → Bool) → Type 0
Misses t kind = (s : Status) → kind s ≡ true → t s ≡ false

missed : (t kind : Status → Bool) (answer : Answer) → Misses t kind → kind (status_of answer) ≡ true → t (status_of answer) ≡ true → ⊥
missed t kind answer m r i = two-ways (t (status_of answer)) (m (status_of answer) r) i

image-program : Misses of_image of_program
image-program status.ImageRefused e = absurd (two-ways false refl e)
image-program status.Faulted e = absurd (two-ways false refl e)
image-program other e = refl

refused-run : Misses of_refused of_run
refused-run status.Refused e = absurd (two-ways false refl e)
refused-run other e = refl

script-run : Misses of_script of_run
script-run status.ScriptRefused e = absurd (two-ways false refl e)
script-run status.ClassRefused e = absurd (two-ways false refl e)
script-run status.ArrivalsRefused e = absurd (two-ways false refl e)
script-run other e = refl

folder-run : Misses of_folder of_run
folder-run status.FolderFailed e = absurd (two-ways false refl e)
folder-run other e = refl

run-program : (s : Status) → of_program s ≡ true → of_run s ≡ true
run-program status.Faulted e = refl
run-program other e = e

-- an accepted program is answered where the answer is no refusal of a text
accepted-one : (t : Status → Bool) (answers : TypedProgram → List ByteList → Answer → Type 0) (text : List ℕ) (answer : Answer) → t status.Refused ≡ false → t (status_of answer) ≡ true
    → OverProgram answers text answer → (P : TypedProgram) × (texts : List ByteList) × answers P texts answer
accepted-one t answers text answer f i (inl h) = (h.0.1, h.0.0.texts, h.2)
accepted-one t answers text answer f i (inr h) = absurd (not-said t answer status.Refused _ i f h.2.3)

-- a file of which the answer isn't told is a text
text-one : (t : Status → Bool) (answers : List ℕ → Answer → Type 0) (files : ToldFiles) (name : List ℕ) (answer : Answer) → t status.Missing ≡ false → t status.TooLong ≡ false
    → t status.FolderFailed ≡ false → t (status_of answer) ≡ true → (fetched : Fetched) → MayFetch files name fetched → AnswersFetched answers fetched answer
    → (text : List ℕ) × answers text answer
text-one t answers files name answer a b c i (Text bytes) m h = (bytes.items, h)
text-one t answers files name answer a b c i Absent m h = absurd (not-said t answer status.Missing _ i a h)
text-one t answers files name answer a b c i Long m h = absurd (not-said t answer status.TooLong _ i b h)
text-one t answers files name answer a b c i Failed m h = absurd (not-said t answer status.FolderFailed _ i c h)

-- the same of a script
script-one : (t : Status → Bool) (answers : Script → Answer → Type 0) (files : ToldFiles) (script : Option (List ℕ)) (answer : Answer) → t status.Missing ≡ false
    → t status.TooLong ≡ false → t status.FolderFailed ≡ false → t status.ScriptRefused ≡ false → t (status_of answer) ≡ true → OverScript files script answers answer
    → (read : Script) × answers read answer
script-one t answers files None answer a b c d i h = (default_script, h)
script-one t answers files (Some name) answer a b c d i h =
    (let r = text-one t (AnswersScript answers) files name answer a b c i h.0 h.1 h.2 in by_case r.0 r.1)
  where
    by_case : (text : List ℕ) → AnswersScript answers text answer → (read : Script) × answers read answer
    by_case text (inl x) = (x.0, x.2)
    by_case text (inr x) = absurd (not-said t answer status.ScriptRefused _ i d x.2)

-- the same of arrivals
arrivals-one : (t : Status → Bool) (answers : List Arrival → Answer → Type 0) (files : ToldFiles) (name : List ℕ) (answer : Answer) → t status.Missing ≡ false → t status.TooLong ≡ false
    → t status.FolderFailed ≡ false → t status.ArrivalsRefused ≡ false → t (status_of answer) ≡ true → AnswersFile files name (AnswersArrivals answers) answer → (come : List Arrival) × answers come answer
arrivals-one t answers files name answer a b c d i h =
    (let r = text-one t (AnswersArrivals answers) files name answer a b c i h.0 h.1 h.2 in by_case r.0 r.1)
  where
    by_case : (text : List ℕ) → AnswersArrivals answers text answer → (come : List Arrival) × answers come answer
    by_case text (inl x) = (x.0, x.2)
    by_case text (inr x) = absurd (not-said t answer status.ArrivalsRefused _ i d x.2)

-- a run of a program, and of an image, with such a status
no-program-run : (t : Status → Bool) (files : ToldFiles) (script : Option (List ℕ)) (budget : ℕ) (stats image : Bool) (text : List ℕ) (answer : Answer) → Misses t of_program
    → t status.Missing ≡ false → t status.TooLong ≡ false → t status.FolderFailed ≡ false → t status.ScriptRefused ≡ false → t status.Refused ≡ false → t (status_of answer) ≡ true
    → RunsText files script budget stats image text answer → ⊥
no-program-run t files script budget stats image text answer m a b c d f i h =
    let p = accepted-one t (λ P texts. OverScript files script (λ read. RunsProgram P texts read budget stats image)) text answer f i h in
    let r = script-one t (λ read. RunsProgram p.0 p.1 read budget stats image) files script answer a b c d i p.2 in
    missed t of_program answer m (program-status p.0 p.1 r.0 budget stats image answer r.1) i

no-run-at : (t : Status → Bool) (files : ToldFiles) (script arrivals : List ℕ) (budget : ℕ) (text : List ℕ) (answer : Answer) → Misses t of_program
    → t status.Missing ≡ false → t status.TooLong ≡ false → t status.FolderFailed ≡ false → t status.ScriptRefused ≡ false → t status.ArrivalsRefused ≡ false → t status.Refused ≡ false → t (status_of answer) ≡ true
    → RunsTextAt files script arrivals budget text answer → ⊥
no-run-at t files script arrivals budget text answer m a b c d e f i h =
    let p = accepted-one t (RunsOutside files script arrivals budget) text answer f i h in
    let r = script-one t (RunsOnScript files arrivals budget p.0 p.1) files (Some script) answer a b c d i p.2 in
    let s = arrivals-one t (λ come. RunsProgramAt p.0 p.1 r.0 come budget) files arrivals answer a b c e i r.1 in
    missed t of_program answer m (at-status p.0 p.1 r.0 s.0 budget answer s.1) i

no-image-run : (t : Status → Bool) (files : ToldFiles) (script : Option (List ℕ)) (budget : ℕ) (text : List ℕ) (answer : Answer) → Misses t of_run
    → t status.Missing ≡ false → t status.TooLong ≡ false → t status.FolderFailed ≡ false → t status.ScriptRefused ≡ false → t status.ImageRefused ≡ false → t (status_of answer) ≡ true
    → RunsHex files script budget text answer → ⊥
no-image-run t files script budget text answer m a b c d f i (inl h) =
    let r = script-one t (λ read. RunsBoard h.0 read budget) files script answer a b c d i h.2 in
    missed t of_run answer m (board-status h.0 r.0 budget answer r.1) i
no-image-run t files script budget text answer m a b c d f i (inr h) = not-said t answer status.ImageRefused _ i f h.2

-- `check` and `build`
no-output : (t : Status → Bool) (answers : TypedProgram → List ByteList → Answer → Type 0) (text : List ℕ) (answer : Answer) → t status.Refused ≡ false → t status.Done ≡ false → t (status_of answer) ≡ true
    → ((P : TypedProgram) (texts : List ByteList) → answers P texts answer → (output : List ℕ) × (answer ≡ says status.Done output)) → OverProgram answers text answer → ⊥
no-output t answers text answer f g i done h =
    let p = accepted-one t answers text answer f i h in
    let d = done p.0 p.1 p.2 in
    not-said t answer status.Done d.0 i g d.1

no-check : (t : Status → Bool) (text : List ℕ) (answer : Answer) → t status.Refused ≡ false → t status.Done ≡ false → t (status_of answer) ≡ true → ChecksText text answer → ⊥
no-check t text answer f g i h = no-output t SaysAccepted text answer f g i (λ P texts e. (codes "accepted\n", e)) h

no-build : (t : Status → Bool) (text : List ℕ) (answer : Answer) → t status.Refused ≡ false → t status.Done ≡ false → t (status_of answer) ≡ true → BuildsText text answer → ⊥
no-build t text answer f g i h = no-output t WritesImage text answer f g i (λ P texts e. (hextext e.0, e.3)) h

-- the file that an order names first, if it names one, and its answers over the text of that, or over none
abbrev file_of : Asked → Option (List ℕ)
file_of (check_program name) = Some name
file_of (build_program name) = Some name
file_of (run_program name script budget stats image) = Some name
file_of (run_image name script budget) = Some name
file_of (run_at name script arrivals budget) = Some name
file_of (run_class name budget) = Some name
file_of (run_big size budget stats) = None

abbrev AnswersText : ToldFiles → Asked → List ℕ → Answer → Type 0
AnswersText files (check_program name) text answer = ChecksText text answer
AnswersText files (build_program name) text answer = BuildsText text answer
AnswersText files (run_program name script budget stats image) text answer = RunsText files script budget stats image text answer
AnswersText files (run_image name script budget) text answer = RunsHex files script budget text answer
AnswersText files (run_at name script arrivals budget) text answer = RunsTextAt files script arrivals budget text answer
AnswersText files (run_class name budget) text answer = RunsClassText files budget text answer
AnswersText files (run_big size budget stats) text answer = RunsText files None budget stats false (big_text size) answer

abbrev AnswersNamed : ToldFiles → Option (List ℕ) → (List ℕ → Answer → Type 0) → Answer → Type 0
AnswersNamed files (Some name) answers answer = AnswersFile files name answers answer
AnswersNamed files None answers answer = answers [] answer

named : (files : ToldFiles) (asked : Asked) (answer : Answer) → MayAnswer files (Some asked) answer → AnswersNamed files (file_of asked) (AnswersText files asked) answer
named files (check_program name) answer h = h
named files (build_program name) answer h = h
named files (run_program name script budget stats image) answer h = h
named files (run_image name script budget) answer h = h
named files (run_at name script arrivals budget) answer h = h
named files (run_class name budget) answer h = h
named files (run_big size budget stats) answer h = h

-- only words of `run-hex` have answers with these
image-status : (files : ToldFiles) (asked : Asked) (text : List ℕ) (answer : Answer) → of_image (status_of answer) ≡ true → AnswersText files asked text answer → IsOfImage asked
image-status files (check_program name) text answer i h = absurd (no-check of_image text answer refl refl i h)
image-status files (build_program name) text answer i h = absurd (no-build of_image text answer refl refl i h)
image-status files (run_program name script budget stats image) text answer i h = absurd (no-program-run of_image files script budget stats image text answer image-program refl refl refl refl refl i h)
image-status files (run_image name script budget) text answer i h = tt
image-status files (run_at name script arrivals budget) text answer i h = absurd (no-run-at of_image files script arrivals budget text answer image-program refl refl refl refl refl refl i h)
image-status files (run_class name budget) text answer i h = absurd (two-ways false refl (in-class of_image refl refl refl refl refl refl refl refl files answer i budget text h).1)
image-status files (run_big size budget stats) text answer i h = absurd (no-program-run of_image files None budget stats false (big_text size) answer image-program refl refl refl refl refl i h)

-- a program is refused only where the words ask for one
refused-status : (files : ToldFiles) (asked : Asked) (text : List ℕ) (answer : Answer) → of_refused (status_of answer) ≡ true → AnswersText files asked text answer → ¬ IsOfImage asked
refused-status files (check_program name) text answer i h = λ x. x
refused-status files (build_program name) text answer i h = λ x. x
refused-status files (run_program name script budget stats image) text answer i h = λ x. x
refused-status files (run_image name script budget) text answer i h = λ x. no-image-run of_refused files script budget text answer refused-run refl refl refl refl refl i h
refused-status files (run_at name script arrivals budget) text answer i h = λ x. x
refused-status files (run_class name budget) text answer i h = λ x. x
refused-status files (run_big size budget stats) text answer i h = λ x. x

-- a script is refused only where it is named
program-script : (files : ToldFiles) (name : List ℕ) (script : Option (List ℕ)) (budget : ℕ) (stats image : Bool) (text : List ℕ) (answer : Answer)
    → of_script (status_of answer) ≡ true → RunsText files script budget stats image text answer → NamesScript (run_program name script budget stats image)
program-script files name (Some script) budget stats image text answer i h = refl
program-script files name None budget stats image text answer i h =
    let p = accepted-one of_script (λ P texts. OverScript files None (λ read. RunsProgram P texts read budget stats image)) text answer refl i h in
    absurd (missed of_script of_run answer script-run (run-program (status_of answer) (program-status p.0 p.1 default_script budget stats image answer p.2)) i)

hex-script : (files : ToldFiles) (name : List ℕ) (script : Option (List ℕ)) (budget : ℕ) (text : List ℕ) (answer : Answer) → of_script (status_of answer) ≡ true
    → RunsHex files script budget text answer → NamesScript (run_image name script budget)
hex-script files name (Some script) budget text answer i h = refl
hex-script files name None budget text answer i (inl h) = absurd (missed of_script of_run answer script-run (board-status h.0 default_script budget answer h.2) i)
hex-script files name None budget text answer i (inr h) = absurd (not-said of_script answer status.ImageRefused _ i refl h.2)

big-script : (files : ToldFiles) (budget : ℕ) (stats : Bool) (text : List ℕ) (answer : Answer) → of_script (status_of answer) ≡ true
    → RunsText files None budget stats false text answer → ⊥
big-script files budget stats text answer i h =
    let p = accepted-one of_script (λ P texts. OverScript files None (λ read. RunsProgram P texts read budget stats false)) text answer refl i h in
    missed of_script of_run answer script-run (run-program (status_of answer) (program-status p.0 p.1 default_script budget stats false answer p.2)) i

script-status : (files : ToldFiles) (asked : Asked) (text : List ℕ) (answer : Answer) → of_script (status_of answer) ≡ true → AnswersText files asked text answer → NamesScript asked
script-status files (check_program name) text answer i h = absurd (no-check of_script text answer refl refl i h)
script-status files (build_program name) text answer i h = absurd (no-build of_script text answer refl refl i h)
script-status files (run_program name script budget stats image) text answer i h = program-script files name script budget stats image text answer i h
script-status files (run_image name script budget) text answer i h = hex-script files name script budget text answer i h
script-status files (run_at name script arrivals budget) text answer i h = tt
script-status files (run_class name budget) text answer i h = tt
script-status files (run_big size budget stats) text answer i h = absurd (big-script files budget stats (big_text size) answer i h)

-- Of an answer to words, which is no answer to a file that isn't there or is too long, or to a folder that failed, something holds that holds of answers to texts.
module _ (t : Status → Bool) (a : t status.Missing ≡ false) (b : t status.TooLong ≡ false) (c : t status.FolderFailed ≡ false) (Holds : Asked → Type 0) (files : ToldFiles)
    (of_text : (asked : Asked) (text : List ℕ) (answer : Answer) → t (status_of answer) ≡ true → AnswersText files asked text answer → Holds asked) where
  of-named : (asked : Asked) (file : Option (List ℕ)) (answer : Answer) → t (status_of answer) ≡ true → AnswersNamed files file (AnswersText files asked) answer → Holds asked
  of-named asked (Some name) answer i h = (let r = text-one t (AnswersText files asked) files name answer a b c i h.0 h.1 h.2 in of_text asked r.0 answer i r.1)
  of-named asked None answer i h = of_text asked [] answer i h

  of-words : (asked : Asked) (answer : Answer) → t (status_of answer) ≡ true → MayAnswer files (Some asked) answer → Holds asked
  of-words asked answer i r = of-named asked (file_of asked) answer i (named files asked answer r)

image-answer : (files : ToldFiles) (asked : Option Asked) (answer : Answer) → of_image (status_of answer) ≡ true → MayAnswer files asked answer → IsSomeAnd asked IsOfImage
image-answer files None answer i r = absurd (not-said of_image answer status.Usage _ i refl r)
image-answer files (Some asked) answer i r = of-words of_image refl refl refl IsOfImage files (image-status files) asked answer i r

refused-answer : (files : ToldFiles) (asked : Option Asked) (answer : Answer) → of_refused (status_of answer) ≡ true → MayAnswer files asked answer → IsSomeAnd asked (λ order. ¬ IsOfImage order)
refused-answer files None answer i r = not-said of_refused answer status.Usage _ i refl r
refused-answer files (Some asked) answer i r = of-words of_refused refl refl refl (λ order. ¬ IsOfImage order) files (refused-status files) asked answer i r

script-answer : (files : ToldFiles) (asked : Option Asked) (answer : Answer) → of_script (status_of answer) ≡ true → MayAnswer files asked answer → IsSomeAnd asked NamesScript
script-answer files None answer i r = absurd (not-said of_script answer status.Usage _ i refl r)
script-answer files (Some asked) answer i r = of-words of_script refl refl refl NamesScript files (script-status files) asked answer i r

-- the folder's failure is told only where its count of faults rose
failed-file : (answers : List ℕ → Answer → Type 0) (files : ToldFiles) (name : List ℕ) (answer : Answer) → of_folder (status_of answer) ≡ true
    → ((text : List ℕ) → answers text answer → files.rose) → (fetched : Fetched) → MayFetch files name fetched → AnswersFetched answers fetched answer → files.rose
failed-file answers files name answer i f (Text bytes) m h = f bytes.items h
failed-file answers files name answer i f Absent m h = absurd (not-said of_folder answer status.Missing _ i refl h)
failed-file answers files name answer i f Long m h = absurd (not-said of_folder answer status.TooLong _ i refl h)
failed-file answers files name answer i f Failed m h = m

failed-script : (rose : Type 0) (answers : Script → Answer → Type 0) (answer : Answer) → of_folder (status_of answer) ≡ true → ((read : Script) → answers read answer → ⊥) → (text : List ℕ) → AnswersScript answers text answer → rose
failed-script rose answers answer i f text (inl h) = absurd (f h.0 h.2)
failed-script rose answers answer i f text (inr h) = absurd (not-said of_folder answer status.ScriptRefused _ i refl h.2)

failed-over : (files : ToldFiles) (script : Option (List ℕ)) (answers : Script → Answer → Type 0) (answer : Answer) → of_folder (status_of answer) ≡ true
    → ((read : Script) → answers read answer → ⊥) → OverScript files script answers answer → files.rose
failed-over files None answers answer i f h = absurd (f default_script h)
failed-over files (Some name) answers answer i f h = failed-file (AnswersScript answers) files name answer i (λ text x. failed-script files.rose answers answer i f text x) h.0 h.1 h.2

failed-run : (files : ToldFiles) (script : Option (List ℕ)) (budget : ℕ) (stats image : Bool) (text : List ℕ) (answer : Answer) → of_folder (status_of answer) ≡ true
    → RunsText files script budget stats image text answer → files.rose
failed-run files script budget stats image text answer i h =
    let p = accepted-one of_folder (λ P texts. OverScript files script (λ read. RunsProgram P texts read budget stats image)) text answer refl i h in
    failed-over files script (λ read. RunsProgram p.0 p.1 read budget stats image) answer i
    (λ read r. missed of_folder of_run answer folder-run (run-program (status_of answer) (program-status p.0 p.1 read budget stats image answer r)) i) p.2

failed-hex : (files : ToldFiles) (script : Option (List ℕ)) (budget : ℕ) (text : List ℕ) (answer : Answer) → of_folder (status_of answer) ≡ true
    → RunsHex files script budget text answer → files.rose
failed-hex files script budget text answer i (inl h) =
    failed-over files script (λ read. RunsBoard h.0 read budget) answer i (λ read r. missed of_folder of_run answer folder-run (board-status h.0 read budget answer r) i) h.2
failed-hex files script budget text answer i (inr h) = absurd (not-said of_folder answer status.ImageRefused _ i refl h.2)

failed-arrivals : (files : ToldFiles) (name : List ℕ) (answers : List Arrival → Answer → Type 0) (answer : Answer) → of_folder (status_of answer) ≡ true
    → ((come : List Arrival) → answers come answer → ⊥) → AnswersFile files name (AnswersArrivals answers) answer → files.rose
failed-arrivals files name answers answer i f h = failed-file (AnswersArrivals answers) files name answer i by_case h.0 h.1 h.2
  where
    by_case : (text : List ℕ) → AnswersArrivals answers text answer → files.rose
    by_case text (inl x) = absurd (f x.0 x.2)
    by_case text (inr x) = absurd (not-said of_folder answer status.ArrivalsRefused _ i refl x.2)

failed-run-at : (files : ToldFiles) (script arrivals : List ℕ) (budget : ℕ) (text : List ℕ) (answer : Answer) → of_folder (status_of answer) ≡ true
    → RunsTextAt files script arrivals budget text answer → files.rose
failed-run-at files script arrivals budget text answer i h =
    (let p = accepted-one of_folder (RunsOutside files script arrivals budget) text answer refl i h in
    failed-file (AnswersScript (RunsOnScript files arrivals budget p.0 p.1)) files script answer i (λ bytes x. by_case p.0 p.1 bytes x) p.2.0 p.2.1 p.2.2)
  where
    by_case : (P : TypedProgram) (texts : List ByteList) (bytes : List ℕ) → AnswersScript (RunsOnScript files arrivals budget P texts) bytes answer → files.rose
    by_case P texts bytes (inl x) =
        failed-arrivals files arrivals (λ come. RunsProgramAt P texts x.0 come budget) answer i
        (λ come r. missed of_folder of_run answer folder-run (run-program (status_of answer) (at-status P texts x.0 come budget answer r)) i) x.2
    by_case P texts bytes (inr x) = absurd (not-said of_folder answer status.ScriptRefused _ i refl x.2)

failed-text : (files : ToldFiles) (asked : Asked) (text : List ℕ) (answer : Answer) → of_folder (status_of answer) ≡ true → AnswersText files asked text answer → files.rose
failed-text files (check_program name) text answer i h = absurd (no-check of_folder text answer refl refl i h)
failed-text files (build_program name) text answer i h = absurd (no-build of_folder text answer refl refl i h)
failed-text files (run_program name script budget stats image) text answer i h = failed-run files script budget stats image text answer i h
failed-text files (run_image name script budget) text answer i h = failed-hex files script budget text answer i h
failed-text files (run_at name script arrivals budget) text answer i h = failed-run-at files script arrivals budget text answer i h
failed-text files (run_class name budget) text answer i h = (in-class of_folder refl refl refl refl refl refl refl refl files answer i budget text h).0
failed-text files (run_big size budget stats) text answer i h = failed-run files None budget stats false (big_text size) answer i h

failed-named : (files : ToldFiles) (asked : Asked) (file : Option (List ℕ)) (answer : Answer) → of_folder (status_of answer) ≡ true
    → AnswersNamed files file (AnswersText files asked) answer → files.rose
failed-named files asked (Some name) answer i h = failed-file (AnswersText files asked) files name answer i (λ text x. failed-text files asked text answer i x) h.0 h.1 h.2
failed-named files asked None answer i h = failed-text files asked [] answer i h

failed-answer : (files : ToldFiles) (asked : Option Asked) (answer : Answer) → of_folder (status_of answer) ≡ true → MayAnswer files asked answer → files.rose
failed-answer files None answer i r = absurd (not-said of_folder answer status.Usage _ i refl r)
failed-answer files (Some asked) answer i r = failed-named files asked (file_of asked) answer i (named files asked answer r)

-- the numbers 10, 12, 13 and 20 stand for one status each, and 11 for three; 22 stands for an answer that was cut
refused-10 : (ending : Ending) → 10 ≡ ending_number ending → ending ≡ Gave status.Refused
refused-10 (Gave status.Refused) e = refl
refused-10 (Gave other) e = absurd (omega (arith, e))
refused-10 Cut e = absurd (omega (arith, e))
refused-10 NoMemory e = absurd (omega (arith, e))

script-11 : (ending : Ending) → 11 ≡ ending_number ending → (ending ≡ Gave status.ScriptRefused) ⊎ ((ending ≡ Gave status.ClassRefused) ⊎ (ending ≡ Gave status.ArrivalsRefused))
script-11 (Gave status.ScriptRefused) e = inl refl
script-11 (Gave status.ClassRefused) e = inr (inl refl)
script-11 (Gave status.ArrivalsRefused) e = inr (inr refl)
script-11 (Gave other) e = absurd (omega (arith, e))
script-11 Cut e = absurd (omega (arith, e))
script-11 NoMemory e = absurd (omega (arith, e))

refused-12 : (ending : Ending) → 12 ≡ ending_number ending → ending ≡ Gave status.ImageRefused
refused-12 (Gave status.ImageRefused) e = refl
refused-12 (Gave other) e = absurd (omega (arith, e))
refused-12 Cut e = absurd (omega (arith, e))
refused-12 NoMemory e = absurd (omega (arith, e))

faulted-13 : (ending : Ending) → 13 ≡ ending_number ending → ending ≡ Gave status.Faulted
faulted-13 (Gave status.Faulted) e = refl
faulted-13 (Gave other) e = absurd (omega (arith, e))
faulted-13 Cut e = absurd (omega (arith, e))
faulted-13 NoMemory e = absurd (omega (arith, e))

failed-20 : (ending : Ending) → 20 ≡ ending_number ending → ending ≡ Gave status.FolderFailed
failed-20 (Gave status.FolderFailed) e = refl
failed-20 (Gave other) e = absurd (omega (arith, e))
failed-20 Cut e = absurd (omega (arith, e))
failed-20 NoMemory e = absurd (omega (arith, e))

cut-22 : (ending : Ending) → 22 ≡ ending_number ending → ending ≡ Cut
cut-22 (Gave status.Done) e = absurd (omega (arith, e))
cut-22 (Gave other) e = absurd (omega (arith, e))
cut-22 Cut e = refl
cut-22 NoMemory e = absurd (omega (arith, e))

module _ {B : Type 0} {sink : OfSink} {devices : OfDevices B} {lead : List ℕ} (files : ToldFiles) (asked : Option Asked) (ending : Ending) (number : ℕ) (n : number ≡ ending_number ending)
    (s : Concludes sink devices lead (MayAnswer files asked) ending) where
  pub refused : number ≡ 10 → IsSomeAnd asked (λ order. ¬ IsOfImage order)
  refused is = (let k = given-answer (MayAnswer files asked) status.Refused ending (refused-10 ending (sym is ∙ n)) s in refused-answer files asked k.0 (ap of_refused k.2) k.1)

  pub script-refused : number ≡ 11 → IsSomeAnd asked NamesScript
  script-refused is = elim (script-11 ending (sym is ∙ n)) [
    | inl e ↦ (let k = given-answer (MayAnswer files asked) status.ScriptRefused ending e s in script-answer files asked k.0 (ap of_script k.2) k.1)
    | inr (inl e) ↦ (let k = given-answer (MayAnswer files asked) status.ClassRefused ending e s in script-answer files asked k.0 (ap of_script k.2) k.1)
    | inr (inr e) ↦ (let k = given-answer (MayAnswer files asked) status.ArrivalsRefused ending e s in script-answer files asked k.0 (ap of_script k.2) k.1)
  ]

  pub image-refused : number ≡ 12 → IsSomeAnd asked IsOfImage
  image-refused is = (let k = given-answer (MayAnswer files asked) status.ImageRefused ending (refused-12 ending (sym is ∙ n)) s in image-answer files asked k.0 (ap of_image k.2) k.1)

  pub faulted : number ≡ 13 → IsSomeAnd asked IsOfImage
  faulted is = (let k = given-answer (MayAnswer files asked) status.Faulted ending (faulted-13 ending (sym is ∙ n)) s in image-answer files asked k.0 (ap of_image k.2) k.1)

  pub folder-failed : number ≡ 20 → files.rose
  folder-failed is = (let k = given-answer (MayAnswer files asked) status.FolderFailed ending (failed-20 ending (sym is ∙ n)) s in failed-answer files asked k.0 (ap of_folder k.2) k.1)

  pub sink-failed : number ≡ 22 → Rose sink.faults_before sink.faults_after
  sink-failed is = s.cut (cut-22 ending (sym is ∙ n))
