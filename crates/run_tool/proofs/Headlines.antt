-- The claim of the whole, from how a call ends.
use Rattle.std.proofs.Common.{◌≡◌, ◌<◌, ◌≤◌, ◌⊎◌, ◌++◌, ◌==◌, ◌+◌, ◌-◌, ℕ, suc, Bool, true, false, ◌||◌, List, [], ◌∷◌, length, inl, inr, refl, sym, ap, subst, ◌∙◌, arith}
use Rattle.std.specs.Prelude.{Option, Some, None, Result, Ok, Err, flat_map}
use Rattle.std.specs.List.{list_any}
use Rattle.std.proofs.lemmas.Bool.{cases_lt}
use Rattle.std.proofs.lemmas.Option.{none-some, same_Some}
use Rattle.std.proofs.lemmas.Grind.{flat_map-append}
use Rattle.std.proofs.lemmas.List.Folds.{list_any-append}
use Rattle.sts_base.specs.Faults.{Rose}
use Rattle.sts_base.specs.declared.tables.Tables.{Tables}
use Rattle.board_world.specs.Observations.{ByteList, Observation, Show, Serial, Pin, Radio}
use Rattle.board_world.specs.Transcript.{lines, closing_line}
use Rattle.board_world.specs.Board.{Board, over}
use Rattle.board_world.specs.Kinds.{Kind}
use Rattle.board_world.specs.Activities.{World}
use Rattle.board_world.specs.Runs.{run}
use Rattle.board_world.proofs.Laws.{run_over, run_sum}
use Rattle.board_ports.specs.History.{PortMove, entries_of, entries_at, unplugs, unplugged_at, words_sent}
use Rattle.board_ports.proofs.Laws.{places_as}
use Rattle.tool_io.specs.Putting.{Took}
use Rattle.board_outside.specs.Moves.{Move, Seen, Unplugged, seen_of, unplugged_of}
use Rattle.board_outside.specs.Ports.{serial_port, words_of, port_moves, DevicesAfter}
use Rattle.sts_syntax.specs.TypedTrees.{TypedProgram}
use Rattle.sts_meaning.specs.Steps.{source, source_start}
use Rattle.event_script.specs.declared.script.Script.{Script}
use Rattle.event_script.specs.declared.script.ScriptCode.{ScriptCode}
use Rattle.event_script.specs.declared.script.ScriptCode.TheVariants.{NotJson}
use Rattle.serde_json.specs.Data.{Data}
use Rattle.event_script.specs.Json.{IsTree}
use Rattle.event_script.specs.Form.{script_of}
use Rattle.event_script.specs.World.{world_entries}
use Rattle.event_script.specs.Verdict.{Tells, judged_form}
use Rattle.typed_program.specs.Accepting.{Accepts}
use Rattle.typed_program.specs.Laws.{OneAnswer}
use Rattle.sts_words.specs.Orders.{Asked, run_program, run_big}
use Rattle.run_tool.specs.declared.ending.Status.{Status}
use Rattle.run_tool.specs.declared.ending.Ending.{Ending}
use Rattle.run_tool.specs.declared.ending.Ending.TheVariants.{Gave, Cut, NoMemory}
use Rattle.run_tool.specs.declared.fetched.Fetched.{Fetched}
use Rattle.run_tool.specs.declared.fetched.Fetched.TheVariants.{Text, Absent, Long, Failed}
use Rattle.run_tool.specs.Answers.{Answer, status_of, output_of, status_number, ending_number, OfSink, OfDevices, Leaves, CommandEnds, Concludes, WroteNothing}
use Rattle.run_tool.specs.Files.{ToldFiles, MayFetch, limit, AnswersFetched, AnswersFile}
use Rattle.run_tool.specs.Programs.{OverProgram, IsToldProgram}
use Rattle.run_tool.specs.Scripts.{AnswersScript, OverScript, RefusesScript, IsToldScript}
use Rattle.run_tool.specs.Big.{big_text}
use Rattle.run_tool.specs.Run.{RunsProgram}
use Rattle.run_tool.specs.Runs.{asked_behind}
use Rattle.run_tool.specs.Orders.{MayAnswer, lead_of}
use Rattle.run_tool.specs.Headline.{AskedRun, AsksForRun, source_board, IsTranscript, IsRunOfImage, Headline}

-- the bytes of a file stand for one script, and then break no rule
abbrev script_or : Script → Result Script ScriptCode → Script
script_or other (Ok script) = script
script_or other (Err code) = other

-- a text has one tree at most
pub one-tree : (text : List ℕ) (a b : Data) → IsTree text a → IsTree text b → a ≡ b
one-tree text a b s t = same_Some a b (sym s.reads ∙ t.reads)

same-verdict : (text : List ℕ) (a b : Result Script ScriptCode) → Tells text a → Tells text b → a ≡ b
same-verdict text a b s t = sym s.judges ∙ ap (λ tree. judged_form (script_of tree)) (one-tree text s.tree t.tree s.is t.is) ∙ t.judges

pub one-script : (text : List ℕ) (a b : Script) → Tells text (Ok a) → Tells text (Ok b) → a ≡ b
one-script text a b s t = ap (script_or a) (same-verdict text (Ok a) (Ok b) s t)

script-no-code : (a : Script) (code : ScriptCode) (r : Result Script ScriptCode) → r ≡ Ok a → r ≡ Err code → ⊥
script-no-code a code r e f = absurd (cc)

pub not-refused : (text : List ℕ) (a : Script) (code : ScriptCode) → Tells text (Ok a) → RefusesScript text code → ⊥
not-refused text a NotJson s r = r s.tree s.is
not-refused text a code s r = script-no-code a code (Ok a) refl (same-verdict text (Ok a) (Err code) s r)

-- a file that is told is answered by its text
text-told : (answers : List ℕ → Answer → Type 0) (files : ToldFiles) (name text : List ℕ) (answer : Answer) → files.told name ≡ Some (Some text) → length text ≤ limit → ¬ files.rose
    → (fetched : Fetched) → MayFetch files name fetched → AnswersFetched answers fetched answer → answers text answer
text-told answers files name text answer e short calm (Text bytes) m h = subst (λ t. answers t answer) (sym (same_Some text bytes.items (m.0 (Some text) e))) h
text-told answers files name text answer e short calm Absent m h = absurd (none-some text (sym (m (Some text) e)))
text-told answers files name text answer e short calm Long m h =
    (let l = m (Some text) e in
    let long : limit < length text = subst (λ t. limit < length t) (sym (same_Some text l.0 l.1)) l.2 in
    absurd (omega (arith, short, long)))
text-told answers files name text answer e short calm Failed m h = absurd (calm m)

pub file-told : (answers : List ℕ → Answer → Type 0) (files : ToldFiles) (name text : List ℕ) (answer : Answer) → files.told name ≡ Some (Some text) → length text ≤ limit → ¬ files.rose
    → AnswersFile files name answers answer → answers text answer
file-told answers files name text answer e short calm h = text-told answers files name text answer e short calm h.0 h.1 h.2

-- and the script that a file stands for by the answers over it
pub never : ¬ ⊥
never x = x

text-scripts : (answers : Script → Answer → Type 0) (text : List ℕ) (script : Script) (answer : Answer) → Tells text (Ok script) → AnswersScript answers text answer → answers script answer
text-scripts answers text script answer s (inl h) = subst (λ r. answers r answer) (one-script text h.0 script h.1 s) h.2
text-scripts answers text script answer s (inr h) = absurd (not-refused text script h.0 s h.1)

pub script-told : (files : ToldFiles) (name : Option (List ℕ)) (answers : Script → Answer → Type 0) (script : Script) (answer : Answer) → ¬ files.rose
    → IsToldScript files.told name script → OverScript files name answers answer → answers script answer
script-told files None answers script answer calm s h = subst (λ r. answers r answer) (sym s) h
script-told files (Some name) answers script answer calm s h =
    text-scripts answers s.0 script answer s.2.1 (file-told (AnswersScript answers) files name s.0 answer s.1 s.2.0 calm h)

-- the text of a program that is accepted is answered over that program, and isn't too long for a file
pub program-told : (one : OneAnswer) (answers : TypedProgram → List ByteList → Answer → Type 0) (text : List ℕ) (tables : Tables) (P : TypedProgram) (answer : Answer) → Accepts text tables P
    → OverProgram answers text answer → answers P tables.texts answer
program-told one answers text tables P answer a (inl h) =
    (let same = one.program text h.0.0 tables h.0.1 P h.1 a in
    subst (λ Q. answers Q tables.texts answer) same.1 (subst (λ (ts : Tables). answers h.0.1 ts.texts answer) same.0 h.2))
program-told one answers text tables P answer a (inr h) = absurd (one.either text tables P h.0.0 h.0.1 a h.1)

pub program-fits : (text : List ℕ) (tables : Tables) (P : TypedProgram) → Accepts text tables P → length text ≤ limit
program-fits text tables P a = (let short : length text ≤ 65536 = a.read.tokenization.short in omega (arith, short))

-- what is answered to the file of such a program
pub program-file-told : (one : OneAnswer) (answers : TypedProgram → List ByteList → Answer → Type 0) (files : ToldFiles) (name : List ℕ) (tables : Tables) (P : TypedProgram) (answer : Answer) → ¬ files.rose
    → IsToldProgram files.told name tables P → AnswersFile files name (OverProgram answers) answer → answers P tables.texts answer
program-file-told one answers files name tables P answer calm p h =
    program-told one answers p.0 tables P answer p.2 (file-told (OverProgram answers) files name p.0 answer p.1 (program-fits p.0 tables P p.2) calm h)

-- the words and the unplugs of moves are those of what was seen and unplugged
abbrev all_sent : List Observation → List PortMove
all_sent seen = flat_map words_of seen

abbrev is_unplugged : List (ℕ × ℕ) → ℕ → Bool
is_unplugged unplugs port = list_any (λ unplug. unplug.0 == port) unplugs

words-met : (moves : List Move) (k : ℕ) → entries_at (all_sent (seen_of moves)) k ≡ entries_at (port_moves moves) k
words-met [] k = refl
words-met (Seen o ∷ moves) k =
    flat_map-append (entries_of k) (words_of o) (all_sent (seen_of moves)) ∙ ap (λ es. flat_map (entries_of k) (words_of o) ++ es) (words-met moves k)
    ∙ sym (flat_map-append (entries_of k) (words_of o) (port_moves moves))
words-met (Unplugged port ∷ moves) k = words-met moves k

bytes-unplug-none : (at : ℕ) (bytes : ByteList) (k : ℕ) → list_any (unplugs k) (words_sent serial_port at bytes) ≡ false
bytes-unplug-none at [] k = refl
bytes-unplug-none at (b ∷ bytes) k = bytes-unplug-none at bytes k

words-unplug-none : (o : Observation) (k : ℕ) → list_any (unplugs k) (words_of o) ≡ false
words-unplug-none (Show at frame) k = refl
words-unplug-none (Serial at bytes) k = bytes-unplug-none at bytes k
words-unplug-none (Pin at pin level) k = refl
words-unplug-none (Radio at number) k = refl

unplugs-met : (n : ℕ) (moves : List Move) (k : ℕ) → is_unplugged (unplugged_of n moves) k ≡ unplugged_at (port_moves moves) k
unplugs-met n [] k = refl
unplugs-met n (Seen o ∷ moves) k =
    unplugs-met (suc n) moves k ∙ sym (list_any-append (unplugs k) (words_of o) (port_moves moves) ∙ ap (λ b. b || unplugged_at (port_moves moves) k) (words-unplug-none o k))
unplugs-met n (Unplugged port ∷ moves) k = ap (λ b. (port == k) || b) (unplugs-met n moves k)

-- A run that is over stays so: what it shows after more steps is what it showed where it ended.
module _ {A S : Type 0} (K : Kind A S) (w : World A S) where
  stays-over : (n steps : ℕ) → over (run K n w).board ≡ true → n ≤ steps → run K steps w ≡ run K n w
  stays-over n steps o le =
      let sum : steps - n + n ≡ steps = omega (arith, le) in
      subst (λ m. run K m w ≡ run K n w) sum (run_sum K n (steps - n) w ∙ run_over K (steps - n) (run K n w) o)

  shown-whole : (n steps : ℕ) → over (run K n w).board ≡ true → (n ≤ steps) ⊎ (over (run K steps w).board ≡ true) → (run K steps w).board ≡ (run K n w).board
  shown-whole n steps o (inl le) = ap (λ (u : World A S). u.board) (stays-over n steps o le)
  shown-whole n steps o (inr ended) =
      elim (cases_lt n steps) [
        | inl less ↦ ap (λ (u : World A S). u.board) (stays-over n steps o (omega (arith, less)))
        | inr more ↦ sym (ap (λ (u : World A S). u.board) (stays-over steps n ended more))
      ]

-- a run as the words ask for it
abbrev RunsAsked : AskedRun → Answer → Type 0
RunsAsked t answer = RunsProgram t.program t.tables.texts t.script t.budget t.with_stats t.with_image answer

recast : (t : AskedRun) (budget : ℕ) (stats image : Bool) (answer : Answer) → t.budget ≡ budget → t.with_stats ≡ stats → t.with_image ≡ image
    → RunsProgram t.program t.tables.texts t.script budget stats image answer → RunsAsked t answer
recast t budget stats image answer b c d r =
    subst (λ x. RunsProgram t.program t.tables.texts t.script x t.with_stats t.with_image answer) (sym b)
    (subst (λ x. RunsProgram t.program t.tables.texts t.script budget x t.with_image answer) (sym c)
    (subst (λ x. RunsProgram t.program t.tables.texts t.script budget stats x answer) (sym d) r))

-- what may be answered where words ask for a run is that
module _ (one : OneAnswer) (files : ToldFiles) (calm : ¬ files.rose) where
  asked-answer : (asked : Option Asked) (t : AskedRun) → AsksForRun files.told asked t → (t.lead ≡ lead_of asked) × ((answer : Answer) → MayAnswer files asked answer → RunsAsked t answer)
  asked-answer (Some (run_program name script budget stats image)) t a = (
    a.3,
    λ answer h. recast t budget stats image answer a.2 a.4 a.5
        (script-told files script (λ read. RunsProgram t.program t.tables.texts read budget stats image) t.script answer calm a.1
        (program-file-told one (λ P texts. OverScript files script (λ read. RunsProgram P texts read budget stats image)) files name t.tables t.program answer calm a.0 h)),
  )
  asked-answer (Some (run_big size budget stats)) t a = (
    a.3,
    λ answer h. recast t budget stats false answer a.2 a.4 a.5
        (subst (λ read. RunsProgram t.program t.tables.texts read budget stats false answer) (sym a.1)
        (program-told one (λ P texts. OverScript files None (λ read. RunsProgram P texts read budget stats false)) (big_text size) t.tables t.program answer a.0 h)),
  )
  asked-answer other t a = absurd a

module _ {B : Type 0} (sink : OfSink) (devices : OfDevices B) (t : AskedRun) (number : ℕ) where
  abbrev Left : Type 0
  Left =
      ((number ≡ 30) × WroteNothing sink devices t.lead) ⊎ ((steps executed : ℕ) × (image : List ℕ) × IsTranscript t sink devices number steps executed image × IsRunOfImage t steps executed image)

  -- a run that was answered whole
  given : (answer : Answer) (status : Status) → number ≡ status_number status → status ≡ status_of answer → Took sink.taken_before sink.taken_after (t.lead ++ output_of answer) → Leaves devices answer
      → RunsAsked t answer → Left
  given answer status n s took left r =
      let b : Board = source_board t r.steps in
      let behind = closing_line b.clock b.end ++ asked_behind t.with_stats t.with_image b r.executed r.image in
      let whole : Took sink.taken_before sink.taken_after (t.lead ++ (lines (seen_of r.moves) ++ behind)) = subst (λ a. Took sink.taken_before sink.taken_after (t.lead ++ output_of a)) r.is took in
      let moved : DevicesAfter devices.account r.moves devices.before devices.after = subst (λ a. Leaves devices a) r.is left in
      inr (
        r.steps,
        r.executed,
        r.image,
        record {
          written = subst (λ seen. Took sink.taken_before sink.taken_after (t.lead ++ (lines seen ++ behind))) (sym r.met.seen) whole;
          at_most = r.reaches.at_most;
          whole = λ m within o. shown-whole (source t.program t.tables.texts) (source_start t.program t.tables.texts t.script.end (world_entries t.script.entries)) m r.steps o (r.reaches.at_least m within);
          at_least = r.reaches.at_least;
          status = n ∙ ap status_number (s ∙ ap status_of r.is);
          met = places_as devices.account (entries_at (port_moves r.moves)) (entries_at (all_sent b.seen)) (unplugged_at (port_moves r.moves)) (is_unplugged b.unplugged) devices.before devices.after
              (λ k. ap (λ seen. entries_at (all_sent seen) k) r.met.seen ∙ words-met r.moves k) (λ k. ap (λ us. is_unplugged us k) r.met.unplugged ∙ unplugs-met 0 r.moves k) moved;
        },
        record { is_image = r.is_image; built = r.built; free = r.free; is_executed = r.reaches.is_executed; board = r.reaches.board },
      )

  -- there was no memory
  unmade : number ≡ 30 → (Took sink.taken_before sink.taken_after [] ⊎ Took sink.taken_before sink.taken_after t.lead) → devices.after ≡ devices.before → Left
  unmade n took same = inl (n, (took, same))

  ended : (may : Answer → Type 0) (ending : Ending) → number ≡ ending_number ending → CommandEnds sink devices t.lead may ending → (ending ≡ Cut → Rose sink.faults_before sink.faults_after) → ¬ Rose sink.faults_before sink.faults_after
      → ((answer : Answer) → may answer → RunsAsked t answer) → Left
  ended may (Gave status) n s cut calm runs = given s.0 status n s.2 s.3 s.4 (runs s.0 s.1)
  ended may Cut n s cut calm runs = absurd (calm (cut refl))
  ended may NoMemory n s cut calm runs = unmade n s.0 s.1

-- how a call ends leaves what the claim says
pub headline : {B : Type 0} {sink : OfSink} {devices : OfDevices B} (files : ToldFiles) (asked : Option Asked) (number : ℕ) (one : OneAnswer) (ending : Ending) → number ≡ ending_number ending
    → Concludes sink devices (lead_of asked) (MayAnswer files asked) ending → Headline files sink devices asked number
headline {B} {sink} {devices} files asked number one ending n s = λ t ask fine. (
    let answer = asked-answer one files fine.0 asked t ask in
    ended sink devices t number (MayAnswer files asked) ending n (subst (λ lead. CommandEnds sink devices lead (MayAnswer files asked) ending) (sym answer.0) s.ends) s.cut fine.1 answer.1)
