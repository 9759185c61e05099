-- The statuses of calls in whose way nothing stands.
use Rattle.std.proofs.Common.{◌≡◌, ◌⊎◌, ℕ, false, List, inl, inr, ap, subst, ◌∙◌}
use Rattle.std.specs.Prelude.{Option, Some, None}
use Rattle.hex_image.specs.Spells.{Spells}
use Rattle.hex_image.proofs.Laws.{one_reading-of}
use Rattle.typed_program.specs.Laws.{OneAnswer}
use Rattle.sts_words.specs.Orders.{Asked, check_program, build_program, run_program, run_image, run_at, run_class, run_big}
use Rattle.run_tool.specs.Files.{Telling, ToldFiles, unfailing}
use Rattle.run_tool.specs.Answers.{Answer, OfSink, status_of, status_number}
use Rattle.run_tool.specs.Scripts.{OverScript, default_script}
use Rattle.run_tool.specs.Big.{big_text}
use Rattle.run_tool.specs.Programs.{WritesImage}
use Rattle.run_tool.specs.Run.{RunsProgram}
use Rattle.run_tool.specs.Runs.{IsImageStatus, RunsBoard, RunsHex}
use Rattle.run_tool.specs.Orders.{MayAnswer, IsStatusOf, CompletesCommand}
use Rattle.run_tool.specs.Laws.{HoldsScript, HoldsFiles, MayEndWith, IsComplete}
use Rattle.run_tool.proofs.Readings.{SaysAccepted}
use Rattle.run_tool.proofs.Headlines.{file-told, script-told, program-told, program-file-told, never}
use Rattle.run_tool.proofs.ProgramStatuses.{program-number, run-number as program-end}
use Rattle.run_tool.proofs.ToldAt.{due}
use Rattle.run_tool.proofs.ToldClass.{class-due}
use Rattle.run_tool.proofs.ClassStatuses.{class-number}
use Rattle.run_tool.proofs.Statuses.{run-number}

abbrev number_of : Answer → ℕ
number_of answer = status_number (status_of answer)

module _ (one : OneAnswer) (told : Telling) where
  image-status : (script : Option (List ℕ)) (budget : ℕ) (text image : List ℕ) (number : ℕ) (answer : Answer) → Spells text image → HoldsScript told script → RunsHex (unfailing told) script budget text answer
      → number ≡ number_of answer → IsImageStatus number
  image-status script budget text image number answer spelled s (inl h) n =
      (let r = script-told (unfailing told) script (λ read. RunsBoard h.0 read budget) s.0 answer never s.1 h.2 in run-number _ number (n ∙ ap number_of r.is))
  image-status script budget text image number answer spelled s (inr h) n = absurd ((one_reading-of text).not_both image h.0 spelled h.1)

  status : (order : Asked) (number : ℕ) (answer : Answer) → HoldsFiles told order → MayAnswer (unfailing told) (Some order) answer → number ≡ number_of answer → MayEndWith order number
  status (check_program name) number answer h m n = n ∙ ap number_of (program-file-told one SaysAccepted (unfailing told) name h.0 h.1 answer never h.2 m)
  status (build_program name) number answer h m n = (let built = program-file-told one WritesImage (unfailing told) name h.0 h.1 answer never h.2 m in n ∙ ap number_of built.3)
  status (run_program name script budget stats image) number answer h m n =
      (let p = h.0 in
      let runs = program-file-told one (λ P texts. OverScript (unfailing told) script (λ read. RunsProgram P texts read budget stats image)) (unfailing told) name p.0 p.1 answer never p.2 m in
      program-number p.1 p.0.texts h.1.0 budget stats image answer number (script-told (unfailing told) script (λ read. RunsProgram p.1 p.0.texts read budget stats image) h.1.0 answer never h.1.1 runs) n)
  status (run_image name script budget) number answer h m n =
      (let t = h.0 in image-status script budget t.1.0 t.0 number answer t.1.2.1 h.1 (file-told (RunsHex (unfailing told) script budget) (unfailing told) name t.1.0 answer t.1.1 t.1.2.0 never m) n)
  status (run_at name script arrivals budget) number answer h m n =
      (let r = due one told name script arrivals budget h.0 h.1 h.2 h.3 h.4 answer m in program-end _ number r.meets.faultless (n ∙ ap number_of r.is))
  status (run_class name budget) number answer h m n = class-number h.0 h.1 budget answer number (class-due one told name budget h.0 h.1 h.2 answer m) n
  status (run_big size budget stats) number answer h m n =
      program-number h.1 h.0.texts default_script budget stats false answer number
      (program-told one (λ P texts. OverScript (unfailing told) None (λ read. RunsProgram P texts read budget stats false)) (big_text size) h.0 h.1 answer h.2 m) n

  either : (asked : Option Asked) (order : Asked) (number : ℕ) → asked ≡ Some order → HoldsFiles told order → IsStatusOf (MayAnswer (unfailing told) asked) number ⊎ (number ≡ 30) → MayEndWith order number ⊎ (number ≡ 30)
  either asked order number e h (inl is) = inl (status order number is.0 h (subst (λ o. MayAnswer (unfailing told) o is.0) e is.1) is.2)
  either asked order number e h (inr is) = inr is

pub complete : (one : OneAnswer) (files : ToldFiles) (sink : OfSink) (asked : Option Asked) (number : ℕ) → CompletesCommand files sink asked number → IsComplete files sink asked number
complete one files sink asked number c = λ order e h fine. either one files.told asked order number e h (c fine)
