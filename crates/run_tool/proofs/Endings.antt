-- Endings that are handed on.
use Rattle.std.proofs.Common.{◌≡◌, ◌≤◌, ℕ, List, [], inl, inr, refl, subst, arith, ◌++◌, ap, sym, ◌∙◌, append_assoc, ◌⊎◌}
use Rattle.std.proofs.lemmas.List.{append-nil}
use Rattle.std.specs.Prelude.{Option, Some, None, Result, Ok, Err, IfOk, IfErr}
use Rattle.serde_json.specs.Data.{Data}
use Rattle.event_script.specs.declared.script.ScriptCode.{ScriptCode}
use Rattle.event_script.specs.declared.script.ScriptCode.TheVariants.{NotJson, NotScript, OutOfOrder, PastEnd, TooMany}
use Rattle.event_script.specs.declared.script.ScriptRefused.{ScriptRefused}
use Rattle.event_script.specs.declared.script.ScriptRefused.TheVariants.{Script as OfScript}
use Rattle.event_script.specs.Json.{IsTree}
use Rattle.event_script.specs.Verdict.{Tells}
use Rattle.tool_io.specs.Putting.{Puts, Took, TookPart}
use Rattle.tool_io.specs.declared.sink.PutFailed.{PutFailed}
use Rattle.board_world.specs.Transcript.{lines}
use Rattle.board_outside.specs.Moves.{seen_of}
use Rattle.run_tool.specs.declared.ending.Status.{Status}
use Rattle.std.specs.declared.vec.Vec.{Vec}
use Rattle.std.specs.declared.alloc.Global.{Global}
use Rattle.sts_base.specs.Faults.{Rose}
use Rattle.sts_base.specs.Numbers.{number_of}
use Rattle.sts_base.specs.Places.{IsPlace}
use Rattle.sts_base.specs.declared.refused.Code.{Code}
use Rattle.tool_io.proofs.Laws.{took-nothing, took-then, part-then, part-more}
use Rattle.run_tool.specs.declared.ending.Ending.{Ending}
use Rattle.run_tool.specs.declared.ending.Ending.TheVariants.{Gave, Cut, NoMemory}
use Rattle.run_tool.specs.declared.fetched.Fetched.{Fetched}
use Rattle.run_tool.specs.declared.fetched.Fetched.TheVariants.{Text, Absent, Long, Failed}
use Rattle.run_tool.specs.Files.{ToldFiles, MayFetch, AnswersFetched, AnswersFile}
use Rattle.run_tool.specs.Answers.{Answer, says, runs, status_of, output_of, ending_number, OfSink, of_sink, OfDevices, of_devices, IsAnswerCut, CommandEnds, Concludes, IsFailureTold, Led}
use Rattle.run_tool.specs.inner.{SaysAnswer, GivesOneOf, none_to_read, ending_by, IsScriptOf}
use Rattle.run_tool.specs.declared.ending.Status.TheVariants.{Refused}
use Rattle.run_tool.specs.Programs.{AnswersRefusal, refused_line, OverProgram}
use Rattle.board_world.specs.Observations.{ByteList}
use Rattle.sts_syntax.specs.TypedTrees.{TypedProgram}
use Rattle.run_tool.specs.Built.{Builds}
use Rattle.sts_words.specs.Orders.{Asked}
use Rattle.run_tool.specs.Orders.{MayAnswer, lead_of}
use Rattle.run_tool.specs.Scripts.{AnswersScript, OverScript, RefusesScript}
use Rattle.event_script.specs.declared.script.Script.{Script}
use Rattle.board_ports.specs.Account.{Account}

-- an ending where more answers may be given
pub says-more : (may more : Answer → Type 0) (a b : Option (List ℕ)) (ending : Ending) → ((answer : Answer) → may answer → more answer)
    → SaysAnswer may a b ending → SaysAnswer more a b ending
says-more may more a b (Gave status) f s = (s.0, f (says status s.0) s.1, s.2)
says-more may more a b Cut f s = (s.0, s.1, f (says s.0 s.1) s.2, s.3)
says-more may more a b NoMemory f s = s

-- the same of a call
pub gives-more : {S : Type 0} {taken : S → Option (List ℕ)} {faults : S → ℕ} {old new : S} (may more : Answer → Type 0) (ending : Ending)
    → ((answer : Answer) → may answer → more answer) → GivesOneOf taken faults old new may ending → GivesOneOf taken faults old new more ending
gives-more {S} {taken} {faults} {old} {new} may more ending f s =
    record { ends = says-more may more (taken old) (taken new) ending f s.ends; later = s.later; cut = s.cut }

-- the same behind puts that took nothing
pub says-after : (may : Answer → Type 0) (a b c : Option (List ℕ)) (ending : Ending) → Took a b [] → SaysAnswer may b c ending → SaysAnswer may a c ending
says-after may a b c (Gave status) t s = (s.0, s.1, took-then [] s.0 t s.2)
says-after may a b c Cut t s = (s.0, s.1, s.2, part-then [] s.1 t s.3)
says-after may a b c NoMemory t s = took-then [] [] t s

-- behind a call that took nothing
pub gives-after : {S : Type 0} {taken : S → Option (List ℕ)} {faults : S → ℕ} {old between new : S} (may : Answer → Type 0) (ending : Ending)
    → Took (taken old) (taken between) [] → faults old ≤ faults between → GivesOneOf taken faults between new may ending → GivesOneOf taken faults old new may ending
gives-after {S} {taken} {faults} {old} {between} {new} may ending t later s =
    record {
      ends = says-after may (taken old) (taken between) (taken new) ending t s.ends;
      later = omega (arith, later, s.later);
      cut = λ e. let rose = s.cut e in omega (arith, later, rose);
    }

-- a text that was fetched is answered, and nothing was written before
pub text-gives : {S : Type 0} {taken : S → Option (List ℕ)} {faults : S → ℕ} {old between new : S} (answers : List ℕ → Answer → Type 0) (files : ToldFiles)
    (name : List ℕ) (bytes : Vec ℕ Global) (text : List ℕ) (ending : Ending) → taken between ≡ taken old → faults old ≤ faults between → text ≡ bytes.items
    → MayFetch files name (Text bytes) → GivesOneOf taken faults between new (answers text) ending → GivesOneOf taken faults old new (AnswersFile files name answers) ending
text-gives {S} {taken} {faults} {old} {between} {new} answers files name bytes text ending same later f m s =
    gives-after (AnswersFile files name answers) ending (subst (λ x. Took x (taken between) []) same (took-nothing (taken between))) later
    (gives-more (answers text) (AnswersFile files name answers) ending (λ answer h. (Text bytes, m, subst (λ t. answers t answer) f h)) s)

-- where no text was fetched, the answer is one of each command
no-text : (answers : List ℕ → Answer → Type 0) (files : ToldFiles) (name : List ℕ) (answer : Answer) (fetched : Fetched)
    → MayFetch files name fetched → AnswersFetched none_to_read fetched answer → AnswersFile files name answers answer
no-text answers files name answer (Text bytes) m h = absurd h
no-text answers files name answer Absent m h = (Absent, m, h)
no-text answers files name answer Long m h = (Long, m, h)
no-text answers files name answer Failed m h = (Failed, m, h)

pub no-text-gives : {S : Type 0} {taken : S → Option (List ℕ)} {faults : S → ℕ} {old new : S} (answers : List ℕ → Answer → Type 0) (files : ToldFiles)
    (name : List ℕ) (ending : Ending) → GivesOneOf taken faults old new (AnswersFile files name none_to_read) ending → GivesOneOf taken faults old new (AnswersFile files name answers) ending
no-text-gives answers files name ending s =
    gives-more (AnswersFile files name none_to_read) (AnswersFile files name answers) ending (λ answer h. no-text answers files name answer h.0 h.1 h.2) s

-- the same over devices
module _ {B : Type 0} (sink : OfSink) (devices : OfDevices B) (lead : List ℕ) where
  ends-more : (may more : Answer → Type 0) (ending : Ending) → ((answer : Answer) → may answer → more answer) → CommandEnds sink devices lead may ending → CommandEnds sink devices lead more ending
  ends-more may more (Gave status) f s = (s.0, f s.0 s.1, s.2, s.3, s.4)
  ends-more may more Cut f s = (s.0, f s.0 s.1, s.2)
  ends-more may more NoMemory f s = s

pub concludes-more : {B : Type 0} {sink : OfSink} {devices : OfDevices B} {lead : List ℕ} (may more : Answer → Type 0) (ending : Ending) → ((answer : Answer) → may answer → more answer)
    → Concludes sink devices lead may ending → Concludes sink devices lead more ending
concludes-more {B} {sink} {devices} {lead} may more ending f s = record { ends = ends-more sink devices lead may more ending f s.ends; later = s.later; cut = s.cut }

-- over a sink that took nothing before, in the first part of a call
module _ {S B : Type 0} (devices : OfDevices B) (lead : List ℕ) (taken : S → Option (List ℕ)) (faults : S → ℕ) (old between new : S) where
  cut-after : (answer : Answer) → Took (taken old) (taken between) [] → IsAnswerCut (of_sink taken faults between new) devices lead answer → IsAnswerCut (of_sink taken faults old new) devices lead answer
  cut-after (says status output) t x = (part-then [] (lead ++ output) t x.0, x.1)
  cut-after (runs status moves behind) t (inl x) = inl (part-then [] lead t x.0, x.1)
  cut-after (runs status moves behind) t (inr x) = inr (record {
    done = x.done;
    left = x.left;
    split = x.split;
    text = x.text;
    due = x.due;
    written = record { told = λ had e. (let r = x.written.told (had ++ []) (t.told had e) in (r.0, r.1, r.2 ∙ ap Some (ap (λ l. l ++ ((lead ++ lines (seen_of x.done)) ++ r.0)) (append-nil had)))) };
    devices = x.devices;
  })

  ends-after : (may : Answer → Type 0) (ending : Ending) → Took (taken old) (taken between) [] → CommandEnds (of_sink taken faults between new) devices lead may ending → CommandEnds (of_sink taken faults old new) devices lead may ending
  ends-after may (Gave status) t s = (s.0, s.1, s.2, took-then [] (lead ++ output_of s.0) t s.3, s.4)
  ends-after may Cut t s = (s.0, s.1, cut-after s.0 t s.2)
  ends-after may NoMemory t (inl x, p) = (inl (took-then [] [] t x), p)
  ends-after may NoMemory t (inr x, p) = (inr (took-then [] lead t x), p)

pub concludes-after : {S B : Type 0} {devices : OfDevices B} {lead : List ℕ} (taken : S → Option (List ℕ)) (faults : S → ℕ) (old between new : S) (may : Answer → Type 0) (ending : Ending)
    → Took (taken old) (taken between) [] → faults old ≤ faults between → Concludes (of_sink taken faults between new) devices lead may ending → Concludes (of_sink taken faults old new) devices lead may ending
concludes-after {S} {B} {devices} {lead} taken faults old between new may ending t later s = record {
  ends = ends-after devices lead taken faults old between new may ending t s.ends;
  later = omega (arith, later, s.later);
  cut = λ e. let rose = s.cut e in omega (arith, later, rose);
}

module _ {B : Type 0} (account : B → Account) (places places' : List (Option B)) (same : places' ≡ places) where
  ends-said : (may : Answer → Type 0) (sink : OfSink) (ending : Ending) → SaysAnswer may sink.taken_before sink.taken_after ending → CommandEnds sink (of_devices account places places') [] may ending
  ends-said may sink (Gave status) s = (says status s.0, s.1, refl, s.2, same)
  ends-said may sink Cut s = (says s.0 s.1, s.2, (s.3, same))
  ends-said may sink NoMemory s = (inl s, same)

  -- an output that was given, over devices
  pub says-concludes : {S : Type 0} {taken : S → Option (List ℕ)} {faults : S → ℕ} {old new : S} (may : Answer → Type 0) (ending : Ending) → GivesOneOf taken faults old new may ending
      → Concludes (of_sink taken faults old new) (of_devices account places places') [] may ending
  says-concludes {S} {taken} {faults} {old} {new} may ending s = record { ends = ends-said may (of_sink taken faults old new) ending s.ends; later = s.later; cut = s.cut }

  ends-led : (lead : List ℕ) (may : Answer → Type 0) (sink : OfSink) (ending : Ending) → SaysAnswer (Led lead may) sink.taken_before sink.taken_after ending → CommandEnds sink (of_devices account places places') lead may ending
  ends-led lead may sink (Gave given) s = (let l = s.1 in (says l.0 l.1, l.2, ap status_of l.3, subst (λ x. Took sink.taken_before sink.taken_after x) (ap output_of l.3) s.2, same))
  ends-led lead may sink Cut s = (let l = s.2 in (says l.0 l.1, l.2, (subst (λ x. TookPart sink.taken_before sink.taken_after x) (ap output_of l.3) s.3, same)))
  ends-led lead may sink NoMemory s = (inl s, same)

  -- the same behind the line that the command begins with
  pub led-concludes : {S : Type 0} {taken : S → Option (List ℕ)} {faults : S → ℕ} {old new : S} (lead : List ℕ) (may : Answer → Type 0) (ending : Ending)
      → GivesOneOf taken faults old new (Led lead may) ending → Concludes (of_sink taken faults old new) (of_devices account places places') lead may ending
  led-concludes {S} {taken} {faults} {old} {new} lead may ending s = record { ends = ends-led lead may (of_sink taken faults old new) ending s.ends; later = s.later; cut = s.cut }

  cut-in-lead : (lead : List ℕ) (answer : Answer) (sink : OfSink) → TookPart sink.taken_before sink.taken_after lead → IsAnswerCut sink (of_devices account places places') lead answer
  cut-in-lead lead (says status output) sink t = (part-more lead output t, same)
  cut-in-lead lead (runs status moves behind) sink t = inl (t, same)

  -- the sink stopped that line, and an answer is due
  pub lead-concludes : (sink : OfSink) (lead : List ℕ) (may : Answer → Type 0) (answer : Answer) → may answer → TookPart sink.taken_before sink.taken_after lead → sink.faults_before ≤ sink.faults_after → Rose sink.faults_before sink.faults_after
      → Concludes sink (of_devices account places places') lead may Cut
  lead-concludes sink lead may answer due t later rose = record { ends = (answer, due, cut-in-lead lead answer sink t); later = later; cut = λ e. rose }

-- a run behind the line that the command begins with
module _ {S B : Type 0} (devices : OfDevices B) (taken : S → Option (List ℕ)) (faults : S → ℕ) (old between new : S) (lead : List ℕ) where
  cut-behind : (answer : Answer) → Took (taken old) (taken between) lead → IsAnswerCut (of_sink taken faults between new) devices [] answer → IsAnswerCut (of_sink taken faults old new) devices lead answer
  cut-behind (says status output) t x = (part-then lead output t x.0, x.1)
  cut-behind (runs status moves behind) t (inl x) = inl (subst (λ l. TookPart (taken old) (taken new) l) (append-nil lead) (part-then lead [] t x.0), x.1)
  cut-behind (runs status moves behind) t (inr x) = inr (record {
    done = x.done;
    left = x.left;
    split = x.split;
    text = x.text;
    due = x.due;
    written = record {
      told = λ had e. (
          let r = x.written.told (had ++ lead) (t.told had e) in
          let whole = lines (seen_of x.done) in
          (r.0, r.1, r.2 ∙ ap Some (append_assoc had lead (whole ++ r.0) ∙ ap (λ l. had ++ l) (sym (append_assoc lead whole r.0)))));
    };
    devices = x.devices;
  })

  ends-behind : (may : Answer → Type 0) (ending : Ending) → Took (taken old) (taken between) lead → CommandEnds (of_sink taken faults between new) devices [] may ending → CommandEnds (of_sink taken faults old new) devices lead may ending
  ends-behind may (Gave status) t s = (s.0, s.1, s.2, took-then lead (output_of s.0) t s.3, s.4)
  ends-behind may Cut t s = (s.0, s.1, cut-behind s.0 t s.2)
  ends-behind may NoMemory t (inl x, p) = (inr (subst (λ l. Took (taken old) (taken new) l) (append-nil lead) (took-then lead [] t x)), p)
  ends-behind may NoMemory t (inr x, p) = (inr (subst (λ l. Took (taken old) (taken new) l) (append-nil lead) (took-then lead [] t x)), p)

pub concludes-behind : {S B : Type 0} {devices : OfDevices B} (taken : S → Option (List ℕ)) (faults : S → ℕ) (old between new : S) (lead : List ℕ) (may : Answer → Type 0) (ending : Ending)
    → Took (taken old) (taken between) lead → faults old ≤ faults between → Concludes (of_sink taken faults between new) devices [] may ending → Concludes (of_sink taken faults old new) devices lead may ending
concludes-behind {S} {B} {devices} taken faults old between new lead may ending t later s = record {
  ends = ends-behind devices taken faults old between new lead may ending t s.ends;
  later = omega (arith, later, s.later);
  cut = λ e. let rose = s.cut e in omega (arith, later, rose);
}

-- a text that was fetched is answered over devices, and nothing was written before
pub text-concludes : {S B : Type 0} {devices : OfDevices B} (taken : S → Option (List ℕ)) (faults : S → ℕ) (old between new : S)
    (answers : List ℕ → Answer → Type 0) (files : ToldFiles) (name : List ℕ) (bytes : Vec ℕ Global) (text : List ℕ) (ending : Ending) → taken between ≡ taken old → faults old ≤ faults between
    → text ≡ bytes.items → MayFetch files name (Text bytes) → Concludes (of_sink taken faults between new) devices [] (answers text) ending
    → Concludes (of_sink taken faults old new) devices [] (AnswersFile files name answers) ending
text-concludes taken faults old between new answers files name bytes text ending same later f m s =
    concludes-after taken faults old between new (AnswersFile files name answers) ending (subst (λ x. Took x (taken between) []) same (took-nothing (taken between))) later
    (concludes-more (answers text) (AnswersFile files name answers) ending (λ answer h. (Text bytes, m, subst (λ t. answers t answer) f h)) s)

-- where no script was read, the answer is one of each command
no-script-text : (answers : Script → Answer → Type 0) (text : List ℕ) (answer : Answer) → AnswersScript none_to_read text answer → AnswersScript answers text answer
no-script-text answers text answer (inl h) = absurd h.2
no-script-text answers text answer (inr h) = inr h

no-script-fetched : (answers : Script → Answer → Type 0) (fetched : Fetched) (answer : Answer) → AnswersFetched (AnswersScript none_to_read) fetched answer → AnswersFetched (AnswersScript answers) fetched answer
no-script-fetched answers (Text bytes) answer h = no-script-text answers bytes.items answer h
no-script-fetched answers Absent answer h = h
no-script-fetched answers Long answer h = h
no-script-fetched answers Failed answer h = h

pub no-script : (files : ToldFiles) (name : Option (List ℕ)) (answers : Script → Answer → Type 0) (answer : Answer) → OverScript files name none_to_read answer
    → OverScript files name answers answer
no-script files None answers answer h = absurd h
no-script files (Some name) answers answer h = (h.0, h.1, no-script-fetched answers h.0 answer h.2)

-- the answers over the script that is named
pub over-script : (files : ToldFiles) (name : Option (List ℕ)) (answers : Script → Answer → Type 0) (script : Script) (answer : Answer) → IsScriptOf files name script
    → answers script answer → OverScript files name answers answer
over-script files None answers script answer s h = subst (λ x. answers x answer) s h
over-script files (Some name) answers script answer s h = (Text s.0, s.1, inl (script, s.2, h))

-- an order that was read is the one that the words give
pub order-concludes : {B : Type 0} {sink : OfSink} {devices : OfDevices B} (files : ToldFiles) (order : Option Asked) (asked : Asked) (ending : Ending) → Some asked ≡ order
    → Concludes sink devices (lead_of (Some asked)) (MayAnswer files (Some asked)) ending → Concludes sink devices (lead_of order) (MayAnswer files order) ending
order-concludes {B} {sink} {devices} files order asked ending e s = subst (λ o. Concludes sink devices (lead_of o) (MayAnswer files o) ending) e s

-- a fact of what was read, or of how the call ended
pub if-ok : {T E : Type 0} {P Q : T → Type 0} (r : Result T E) → ((x : T) → P x → Q x) → IfOk r P → IfOk r Q
if-ok (Ok x) f p = f x p
if-ok (Err x) f p = tt

pub if-err : {T E : Type 0} {P Q : E → Type 0} (r : Result T E) → ((x : E) → P x → Q x) → IfErr r P → IfErr r Q
if-err (Ok x) f p = tt
if-err (Err x) f p = f x p

-- why a script is refused
pub refuses-script : (text : List ℕ) (r : Result Script ScriptRefused) (code : ScriptCode) → r ≡ Err (OfScript code)
    → (r ≡ Err (OfScript NotJson) → (tree : Data) → ¬ (IsTree text tree)) → (r ≡ Err (OfScript NotScript) → Tells text (Err NotScript)) → (r ≡ Err (OfScript OutOfOrder) → Tells text (Err OutOfOrder))
    → (r ≡ Err (OfScript PastEnd) → Tells text (Err PastEnd)) → (r ≡ Err (OfScript TooMany) → Tells text (Err TooMany)) → RefusesScript text code
refuses-script text r NotJson e a b c d f = a e
refuses-script text r NotScript e a b c d f = b e
refuses-script text r OutOfOrder e a b c d f = c e
refuses-script text r PastEnd e a b c d f = d e
refuses-script text r TooMany e a b c d f = f e

-- puts of the whole output of one answer
pub puts-give : {S : Type 0} {taken : S → Option (List ℕ)} {faults : S → ℕ} {old new : S} (status : Status) (output : List ℕ) (put : Result (Unit {0}) PutFailed)
    → Puts (taken old) (taken new) (faults old) (faults new) output put → GivesOneOf taken faults old new (λ answer. answer ≡ says status output) (ending_by status put)
puts-give status output (Ok x) p = record { ends = (output, refl, p.took); later = p.later; cut = λ e. absurd (cc) }
puts-give status output (Err x) p = record { ends = (status, output, refl, p.part); later = p.later; cut = λ e. p.failed }

-- puts of the line of a refusal, behind the line that the command begins with
pub refused-led : {S : Type 0} {taken : S → Option (List ℕ)} {faults : S → ℕ} {old new : S} (lead text : List ℕ) (code : Code) (at line column : ℕ) (put : Result (Unit {0}) PutFailed) → IsPlace text at line column
    → Puts (taken old) (taken new) (faults old) (faults new) (lead ++ refused_line (number_of code) line column) put → GivesOneOf taken faults old new (Led lead (AnswersRefusal text code at)) (ending_by Refused put)
refused-led lead text code at line column put here p =
    gives-more (λ answer. answer ≡ says Refused (lead ++ refused_line (number_of code) line column)) (Led lead (AnswersRefusal text code at)) (ending_by Refused put)
    (λ answer e. (Refused, refused_line (number_of code) line column, (line, column, here, refl), e)) (puts-give Refused (lead ++ refused_line (number_of code) line column) put p)

-- the same without such a line
pub refused-given : {S : Type 0} {taken : S → Option (List ℕ)} {faults : S → ℕ} {old new : S} (text : List ℕ) (code : Code) (at line column : ℕ) (put : Result (Unit {0}) PutFailed) → IsPlace text at line column
    → Puts (taken old) (taken new) (faults old) (faults new) (refused_line (number_of code) line column) put → GivesOneOf taken faults old new (AnswersRefusal text code at) (ending_by Refused put)
refused-given text code at line column put here p =
    gives-more (λ answer. answer ≡ says Refused (refused_line (number_of code) line column)) (AnswersRefusal text code at) (ending_by Refused put)
    (λ answer e. (line, column, here, e)) (puts-give Refused (refused_line (number_of code) line column) put p)

-- where no program was accepted, the answer is one of each command
pub no-program : (answers : TypedProgram → List ByteList → Answer → Type 0) (text : List ℕ) (answer : Answer) → OverProgram (λ P. none_to_read) text answer → OverProgram answers text answer
no-program answers text answer (inl h) = absurd h.2
no-program answers text answer (inr h) = inr h

pub no-program-gives : {S : Type 0} {taken : S → Option (List ℕ)} {faults : S → ℕ} {old new : S} (answers : TypedProgram → List ByteList → Answer → Type 0) (text : List ℕ) (ending : Ending)
    → GivesOneOf taken faults old new (OverProgram (λ P. none_to_read) text) ending → GivesOneOf taken faults old new (OverProgram answers text) ending
no-program-gives answers text ending s = gives-more (OverProgram (λ P. none_to_read) text) (OverProgram answers text) ending (no-program answers text) s

-- the answers to the program as which a text is accepted
pub of-program : (answers : TypedProgram → List ByteList → Answer → Type 0) (text image : List ℕ) (b : Builds text image) (answer : Answer) → answers b.program b.tables.texts answer → OverProgram answers text answer
of-program answers text image b answer h = inl ((b.tables, b.program), b.accepted, h)

-- the same of outputs behind a line
pub led-more : (lead : List ℕ) (may more : Answer → Type 0) → ((answer : Answer) → may answer → more answer) → (answer : Answer) → Led lead may answer → Led lead more answer
led-more lead may more f answer l = (l.0, l.1, f (says l.0 l.1) l.2, l.3)

-- a failure that is told of the last part of a call is told of the whole, where the folder hadn't failed before
pub told-on : (before mid after : ℕ) (ending : Ending) → mid ≡ before → IsFailureTold mid after ending → IsFailureTold before after ending
told-on before mid after ending e h = subst (λ n. IsFailureTold n after ending) e h

-- and by the number of the ending
pub told-number : (before after : ℕ) (ending : Ending) (number : ℕ) → number ≡ ending_number ending → IsFailureTold before after ending → (after ≡ before) ⊎ ((number ≡ 20) ⊎ (number ≡ 22))
told-number before after ending number e (inl h) = inl h
told-number before after ending number e (inr (inl h)) = inr (inl (e ∙ ap ending_number h))
told-number before after ending number e (inr (inr h)) = inr (inr (e ∙ ap ending_number h))
