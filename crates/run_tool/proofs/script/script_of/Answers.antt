use Rattle.std.proofs.Common.{subst, sym, IfOk, IfErr, Ok, List, ℕ, ◌≡◌, ◌++◌, ◌∷◌, [], OnOk}
use Rattle.std.specs.Option.{option_to_list, option_map}
use Rattle.std.specs.declared.option.Option.{Option}
use Rattle.std.specs.Borrow.{Bor}
use Rattle.sts_words.specs.Views.{spoken}
use Rattle.event_script.specs.Verdict.{Tells}
use Rattle.run_tool.specs.inner.{GivesOneOf, IsScriptOf, wants_never, none_to_read}
use Rattle.run_tool.specs.Scripts.{AnswersScript, OverScript, scripts}
use Rattle.run_tool.proofs.Endings.{if-ok, if-err, text-gives}
use Rattle.run_tool.specs.declared.ending.Ending.TheVariants.{NoMemory}
use Rattle.run_tool.specs.Wanted.{HasAsked, Onwards, WantsFile, WantsScript}
use Rattle.run_tool.proofs.Wanting.{asked-more, file-fetched, file-missed, no-more, on-ok-all}
use Rattle.run_tool.proofs.WantedReadings.{script-stops}
use Rattle.run_tool.specs.Files.{told_by}
use Rattle.run_tool.proofs.script.script_of.Goals as goal

pub returns-in-Ok-clause-script : goal.returns-in-Ok-clause-script
returns-in-Ok-clause-script g c =
    let files = told_by g.F.Folder.holds g.F.Folder.faults c.args.folder.now c.text_of.new.folder in
    subst (λ (o : Option (Bor (List ℕ))). IfOk c.script_in.result (IsScriptOf files (option_map spoken o))) (sym c.in-Some.is)
    (if-ok c.script_in.result (λ script h. (c.in-Ok.text, c.in-Ok.ensures.text, subst (λ t. Tells t (Ok script)) c.deref.ensures.value h)) c.script_in.ensures.script)

pub returns-in-Ok-clause-none : goal.returns-in-Ok-clause-none
returns-in-Ok-clause-none g c =
    let files = told_by g.F.Folder.holds g.F.Folder.faults c.args.folder.now c.text_of.new.folder in
    subst (λ (o : Option (Bor (List ℕ))). IfErr c.script_in.result (GivesOneOf g.K.Sink.taken g.K.Sink.faults c.args.out.now c.script_in.new.out (OverScript files (option_map spoken o) none_to_read))) (sym c.in-Some.is)
    (if-err c.script_in.result (λ ending h. text-gives (AnswersScript none_to_read) files c.in-Some.name.now c.in-Ok.text c.deref.result.now ending c.in-Ok.ensures.unwritten c.in-Ok.ensures.later
    c.deref.ensures.value c.in-Ok.ensures.text h) c.script_in.ensures.none)

pub returns-in-None-clause-asked : goal.returns-in-None-clause-asked
returns-in-None-clause-asked g c =
    let before = g.F.Folder.asked c.args.folder.now in
    subst (λ (o : Option (Bor (List ℕ))). before ≡ before ++ option_to_list (option_map spoken o)) (sym c.in-None.is) (no-more before)

pub returns-in-Ok-clause-asked : goal.returns-in-Ok-clause-asked
returns-in-Ok-clause-asked g c =
    let asked = g.F.Folder.asked in
    subst (λ (o : Option (Bor (List ℕ))). OnOk c.script_in.result (asked c.text_of.new.folder ≡ asked c.args.folder.now ++ option_to_list (option_map spoken o))) (sym c.in-Some.is)
    (on-ok-all c.script_in.result c.in-Ok.ensures.asked)

pub returns-in-Ok-clause-stopped : goal.returns-in-Ok-clause-stopped
returns-in-Ok-clause-stopped g c =
    let asked = g.F.Folder.asked in
    let holds = g.F.Folder.holds in
    let faults = g.F.Folder.faults in
    let old = c.args.folder.now in
    let new = c.text_of.new.folder in
    let files = told_by holds faults old new in
    let name = c.in-Some.name.now in
    let text = c.deref.result.now in
    subst (λ (o : Option (Bor (List ℕ))). IfErr c.script_in.result (λ ending. HasAsked asked old new (WantsScript files (ending ≡ NoMemory) (option_map spoken o) wants_never))) (sym c.in-Some.is)
    (if-err c.script_in.result (λ ending h. (
      name ∷ [],
      c.in-Ok.ensures.asked,
      file-fetched files (ending ≡ NoMemory) name (Onwards scripts (λ script. wants_never)) c.in-Ok.text text [] c.deref.ensures.value c.in-Ok.ensures.text (script-stops text ending (λ script. wants_never) h),
    )) c.script_in.ensures.none)

pub returns-in-Err-clause-stopped : goal.returns-in-Err-clause-stopped
returns-in-Err-clause-stopped g c =
    let asked = g.F.Folder.asked in
    let holds = g.F.Folder.holds in
    let faults = g.F.Folder.faults in
    let old = c.args.folder.now in
    let new = c.text_of.new.folder in
    let files = told_by holds faults old new in
    let name = c.in-Some.name.now in
    let lacking = c.in-Err.ending ≡ NoMemory in
    subst (λ (o : Option (Bor (List ℕ))). HasAsked asked old new (WantsScript files lacking (option_map spoken o) wants_never)) (sym c.in-Some.is)
    (asked-more asked old new (WantsFile files lacking name (λ text. wants_never)) (WantsFile files lacking name (Onwards scripts (λ script. wants_never)))
    (λ names h. file-missed files lacking name (Onwards scripts (λ script. wants_never)) names h) c.in-Err.ensures.stopped)
