-- The statuses of answers over a program.
use Rattle.std.proofs.Common.{◌≡◌, ℕ, Bool, List, inl, inr, ap, sym, subst, ◌∙◌}
use Rattle.std.specs.Prelude.{Option, Some, None}
use Rattle.sts_base.specs.declared.refused.Code.{Code}
use Rattle.sts_base.specs.declared.tables.Tables.{Tables}
use Rattle.board_world.specs.Observations.{ByteList, End, Quietly, By_script, Panicked, Faulted}
use Rattle.board_world.specs.Board.{Board}
use Rattle.board_world.specs.Implements.{EndsByNoFault}
use Rattle.sts_syntax.specs.TypedTrees.{TypedProgram}
use Rattle.event_script.specs.declared.script.Script.{Script}
use Rattle.typed_program.specs.Accepting.{Accepts, IsRefusedFor}
use Rattle.typed_program.specs.Laws.{OneAnswer}
use Rattle.sts_whole.proofs.Laws.{faultless}
use Rattle.run_tool.specs.Files.{Telling, unfailing}
use Rattle.run_tool.specs.Answers.{Answer, status_of, status_number}
use Rattle.run_tool.specs.Run.{RunsProgram}
use Rattle.run_tool.specs.Runs.{run_status, IsProgramStatus}
use Rattle.run_tool.specs.Scripts.{OverScript, default_script}
use Rattle.run_tool.specs.Programs.{OverProgram, WritesImage}
use Rattle.run_tool.specs.RunAt.{RunsOutside}
use Rattle.run_tool.specs.Laws.{ProgramStatuses}
use Rattle.run_tool.proofs.Readings.{SaysAccepted}

abbrev number_of : Answer → ℕ
number_of answer = status_number (status_of answer)

pub run-number : (end : Option End) (number : ℕ) → EndsByNoFault end → number ≡ status_number (run_status end) → IsProgramStatus number
run-number None number s e = inr (inr e)
run-number (Some Quietly) number s e = inl e
run-number (Some By_script) number s e = inl e
run-number (Some (Panicked code)) number s e = inr (inl e)
run-number (Some (Faulted kind address)) number s e = absurd s

-- a run of a program ends by no fault
pub program-number : (P : TypedProgram) (texts : List ByteList) (script : Script) (budget : ℕ) (stats image : Bool) (answer : Answer) (number : ℕ) → RunsProgram P texts script budget stats image answer
    → number ≡ number_of answer → IsProgramStatus number
program-number P texts script budget stats image answer number r e =
    run-number _ number (subst (λ (b : Board). EndsByNoFault b.end) (sym r.reaches.board) (faultless P texts r.image r.built.implements script r.free r.executed)) (e ∙ ap number_of r.is)

module _ (one : OneAnswer) (text : List ℕ) (answers : TypedProgram → List ByteList → Answer → Type 0) (answer : Answer) where
  -- what is accepted isn't refused
  over : (tables : Tables) (P : TypedProgram) → Accepts text tables P → OverProgram answers text answer → (Q : TypedProgram) × (texts : List ByteList) × answers Q texts answer
  over tables P a (inl h) = (h.0.1, h.0.0.texts, h.2)
  over tables P a (inr h) = absurd (one.either text tables P h.0.0 h.0.1 a h.1)

  -- and what is refused isn't accepted
  denied : (code : Code) (at number : ℕ) → IsRefusedFor text code at → OverProgram answers text answer → number ≡ number_of answer → number ≡ 10
  denied code at number r (inl h) e = absurd (one.either text h.0.0 h.0.1 code at h.1 r)
  denied code at number r (inr h) e = e ∙ ap number_of h.2.3

pub statuses : (one : OneAnswer) (told : Telling) (text : List ℕ) → ProgramStatuses told text
statuses one told text = record {
  checked = λ tables P number a is. is.2 ∙ ap number_of (over one text SaysAccepted is.0 tables P a is.1).2;
  built = λ tables P number a is. is.2 ∙ ap number_of (over one text WritesImage is.0 tables P a is.1).2.3;
  ran = λ tables P budget stats image number a is.
      (let o = over one text (λ Q texts. OverScript (unfailing told) None (λ read. RunsProgram Q texts read budget stats image)) is.0 tables P a is.1 in program-number o.0 o.1 default_script budget stats image is.0 number o.2 is.2);
  not_checked = λ code at number r is. denied one text SaysAccepted is.0 code at number r is.1 is.2;
  not_built = λ code at number r is. denied one text WritesImage is.0 code at number r is.1 is.2;
  not_run = λ code at script budget stats image number r is.
      denied one text (λ Q texts. OverScript (unfailing told) script (λ read. RunsProgram Q texts read budget stats image)) is.0 code at number r is.1 is.2;
  not_run_at = λ code at script arrivals budget number r is. denied one text (RunsOutside (unfailing told) script arrivals budget) is.0 code at number r is.1 is.2;
}
