-- What a run of texts that were handed over comes to, by what a run over their folder does.
use Rattle.std.proofs.Common.{◌≡◌, ℕ, List, [], false, codes, inl, refl, sym, subst, arith}
use Rattle.std.specs.Prelude.{Option, Some, None}
use Rattle.std.specs.Borrow.{Bor}
use Rattle.std.specs.Option.{option_map}
use Rattle.tool_io.proofs.Laws.{took-nothing}
use Rattle.board_ports.specs.Account.{Account}
use Rattle.typed_program.specs.Laws.{OneAnswer}
use Rattle.sts_words.specs.Orders.{run_program}
use Rattle.run_tool.specs.declared.ending.Ending.{Ending}
use Rattle.run_tool.specs.declared.ending.Ending.TheVariants.{Cut, NoMemory}
use Rattle.run_tool.specs.Answers.{Answer, OfSink, Concludes, ending_number, of_devices}
use Rattle.run_tool.specs.Files.{Telling, ToldFiles, unfailing}
use Rattle.run_tool.specs.Orders.{MayAnswer}
use Rattle.run_tool.specs.Posted.{RanPosted, posted_files, posted_run}
use Rattle.run_tool.proofs.Completing.{onwards}
use Rattle.run_tool.proofs.Endings.{concludes-more}
use Rattle.run_tool.proofs.Headlines.{headline}

-- a call without devices leaves some, or none
pub without : {B : Type 0} {sink : OfSink} (account : B → Account) (before after : List (Option B)) (may : Answer → Type 0) (ending : Ending) → before ≡ []
    → Concludes sink (of_devices account before after) [] may ending → (devices : List (Option B)) × Concludes sink (of_devices account [] devices) [] may ending
without {B} {sink} account before after may ending e h = (after, subst (λ (b : List (Option B)). Concludes sink (of_devices account b after) [] may ending) e h)

-- the name of a script's file hangs on whether there is one alone
pub named : (o : Option (Bor (List ℕ))) → option_map (λ bytes. codes "script") o ≡ option_map (λ bytes. codes "script") (option_map (λ (b : Bor (List ℕ)). b.now) o)
named None = refl
named (Some b) = refl

module _ {B : Type 0} (account : B → Account) (one : OneAnswer) (text : List ℕ) (script : Option (List ℕ)) (budget : ℕ) where
  pub posted : {sink : OfSink} (held : Telling) (rose : Type 0) (name : Option (List ℕ)) (ending : Ending) (status : ℕ) → ((file : List ℕ) → held file ≡ posted_files text script file) → ¬ rose
      → name ≡ option_map (λ bytes. codes "script") script → status ≡ ending_number ending
      → ((devices : List (Option B)) × Concludes sink (of_devices account [] devices) [] (MayAnswer (record { told = held; rose = rose }) (Some (run_program (codes "program") name budget false false))) ending)
      → RanPosted account text script budget sink status
  posted {sink} held rose name ending status is calm same n s =
      (let files : ToldFiles = record { told = held; rose = rose } in
      let both : ToldFiles = unfailing (posted_files text script) in
      let asked = posted_run script budget in
      let ends : Concludes sink (of_devices account [] s.0) [] (MayAnswer both asked) ending =
      concludes-more (MayAnswer files (Some (run_program (codes "program") name budget false false))) (MayAnswer both asked) ending
      (λ answer h. onwards files both asked answer (is, calm) (subst (λ (o : Option (List ℕ)). MayAnswer files (Some (run_program (codes "program") o budget false false)) answer) same h)) s.1 in
      record { devices = s.0; headline = headline both asked status one ending n ends; ending = ending; is = n; ends = ends })

  -- and where there is no memory for the folder, nothing
  pub nothing-posted : (taken : Option (List ℕ)) (faults status : ℕ) → status ≡ ending_number NoMemory
      → RanPosted account text script budget (record { taken_before = taken; taken_after = taken; faults_before = faults; faults_after = faults }) status
  nothing-posted taken faults status n =
      (let sink : OfSink = record { taken_before = taken; taken_after = taken; faults_before = faults; faults_after = faults } in
      let both : ToldFiles = unfailing (posted_files text script) in
      let asked = posted_run script budget in
      let ends : Concludes sink (of_devices account [] []) [] (MayAnswer both asked) NoMemory = record { ends = (inl (took-nothing taken), refl); later = omega arith; cut = λ e. absurd (cc) } in
      record { devices = []; headline = headline both asked status one NoMemory n ends; ending = NoMemory; is = n; ends = ends })
