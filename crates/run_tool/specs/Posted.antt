-- A run of texts that were handed over, as `run` does it with files.
use Rattle.std.specs.Prelude.{◌≡◌, ℕ, List, [], false, if◌then◌else◌, codes, Option, Some, None}
use Rattle.std.specs.Option.{option_map}
use Rattle.std.specs.Str.{bytes_eq}
use Rattle.board_ports.specs.Account.{Account}
use Rattle.sts_words.specs.Orders.{Asked, run_program}
use Rattle.run_tool.specs.declared.ending.Ending.{Ending}
use Rattle.run_tool.specs.Answers.{OfSink, Concludes, ending_number, of_devices}
use Rattle.run_tool.specs.Files.{Telling, unfailing}
use Rattle.run_tool.specs.Orders.{MayAnswer}
use Rattle.run_tool.specs.Headline.{Headline}

-- two files, of a text and of a script, if there is one, and no other
abbrev pub posted_files : (text : List ℕ) (script : Option (List ℕ)) → Telling
posted_files text script name =
    if bytes_eq name (codes "program") then Some (Some text)
    else if bytes_eq name (codes "script") then Some script
    else Some None

-- what the words `run program script --budget B` ask for, or without a script `run program --budget B`
abbrev pub posted_run : (script : Option (List ℕ)) (budget : ℕ) → Option Asked
posted_run script budget =
    Some (run_program (codes "program") (option_map (λ bytes. codes "script") script) budget false false)

-- The call wrote to the sink and answered what `sts` does with these words over the two files, in a folder that doesn't fail, without devices: what is claimed of the whole, and how it ended.
pub record RanPosted {B : Type 0} (account : B → Account) (text : List ℕ) (script : Option (List ℕ)) (budget : ℕ)
    (sink : OfSink) (status : ℕ) : Type 0 where
  pub devices : List (Option B)
  pub headline : Headline (unfailing (posted_files text script)) sink (of_devices account [] devices)
      (posted_run script budget) status
  pub ending : Ending
  pub is : status ≡ ending_number ending
  pub ends : Concludes sink (of_devices account [] devices) []
      (MayAnswer (unfailing (posted_files text script)) (posted_run script budget)) ending
