-- What a run that was asked for is answered with.
use Rattle.std.specs.Prelude.{◌≡◌, ◌++◌, ℕ, List, [], codes, decimal, length, Option, Some}
use Rattle.board_ports.specs.Account.{Account}
use Rattle.run_tool.specs.Answers.{OfSink}
use Rattle.run_tool.specs.Posted.{RanPosted}

-- a sink that had taken nothing and has taken these bytes, whose count of faults was 0 and is this
abbrev pub sink_with : (written : List ℕ) (faults : ℕ) → OfSink
sink_with written faults =
    record { taken_before = Some []; taken_after = Some written; faults_before = 0; faults_after = faults }

-- The body: the status and the number of bytes that were written, in decimal digits, these bytes, and a view of them.
abbrev pub run_body : (status : ℕ) (written view : List ℕ) → List ℕ
run_body status written view =
    decimal status ++ (codes " " ++ (decimal (length written) ++ (codes "\n" ++ (written ++ view))))

-- A body tells what the run of a text on a script within a budget wrote and answered.
pub record TellsRun {B : Type 0} (account : B → Account) (text : List ℕ) (script : Option (List ℕ)) (budget : ℕ)
    (body : List ℕ) : Type 0 where
  pub status : ℕ
  pub written : List ℕ
  pub view : List ℕ
  pub faults : ℕ
  pub ran : RanPosted account text script budget (sink_with written faults) status
  pub is : body ≡ run_body status written view
