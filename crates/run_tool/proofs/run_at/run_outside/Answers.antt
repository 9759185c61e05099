use Rattle.std.proofs.Common.{subst, refl, [], Some, ◌≡◌}
use Rattle.tool_io.specs.Putting.{Took}
use Rattle.tool_io.proofs.Laws.{took-nothing}
use Rattle.run_tool.specs.Scripts.{OverScript}
use Rattle.run_tool.specs.inner.{none_to_read, wants_never}
use Rattle.run_tool.specs.RunAt.{RunsOnScript, RunsOutside}
use Rattle.run_tool.proofs.Endings.{gives-more, concludes-more, concludes-after, says-concludes, no-script, over-script, told-on}
use Rattle.run_tool.proofs.RunsAt.{script-runs-onwards}
use Rattle.run_tool.specs.declared.ending.Ending.TheVariants.{NoMemory}
use Rattle.run_tool.specs.Wanted.{WantsFile, WantsOutside, WantsScript, wants_none}
use Rattle.run_tool.proofs.Wanting.{asked-behind, asked-more, file-more, script-more}
use Rattle.run_tool.proofs.WantedReadings.{script-then, script-kept}
use Rattle.run_tool.proofs.Readings.{first-part, last-part}
use Rattle.run_tool.specs.Files.{told_by}
use Rattle.run_tool.proofs.run_at.run_outside.Goals as goal

pub returns-in-Ok-clause-answer : goal.returns-in-Ok-clause-answer
returns-in-Ok-clause-answer g c = λ P texts implements.
    let holds = g.F.Folder.holds in
    let faults = g.F.Folder.faults in
    let old = c.args.folder.now in
    let mid = c.script_of.new.folder in
    let new = c.run_on_script.new.folder in
    let files = told_by holds faults old new in
    let files_mid = told_by holds faults mid new in
    let on = last-part holds faults old mid new c.in-Ok.ensures.stays c.in-Ok.ensures.folder_later in
    let script = c.args.asked.outside.script.now in
    let arrivals = c.args.asked.outside.arrivals.now in
    let budget = c.args.asked.budget in
    let may = RunsOutside files script arrivals budget P texts in
    concludes-after g.K.Sink.taken g.K.Sink.faults c.args.out.now c.script_of.new.out c.run_on_script.new.out may c.run_on_script.result
    (subst (λ x. Took x (g.K.Sink.taken c.script_of.new.out) []) c.in-Ok.ensures.unwritten (took-nothing (g.K.Sink.taken c.script_of.new.out))) c.in-Ok.ensures.later
    (concludes-more (RunsOnScript files_mid arrivals budget P texts c.in-Ok.script) may c.run_on_script.result
    (λ answer h. over-script files (Some script) (RunsOnScript files arrivals budget P texts) c.in-Ok.script answer c.in-Ok.ensures.script
    (script-runs-onwards files_mid files script arrivals budget on
    P texts c.in-Ok.script answer h)) (c.run_on_script.ensures.answer P texts implements))

pub returns-in-Err-clause-answer : goal.returns-in-Err-clause-answer
returns-in-Err-clause-answer g c = λ P texts implements.
    let files = told_by g.F.Folder.holds g.F.Folder.faults c.args.folder.now c.script_of.new.folder in
    let script = c.args.asked.outside.script.now in
    let answers = RunsOnScript files c.args.asked.outside.arrivals.now c.args.asked.budget P texts in
    let may = RunsOutside files script c.args.asked.outside.arrivals.now c.args.asked.budget P texts in
    says-concludes g.D.Device.account c.args.places.now.items c.args.places.now.items refl may c.in-Err.ending
    (gives-more (OverScript files (Some script) none_to_read) may c.in-Err.ending (λ answer h. no-script files (Some script) answers answer h) c.in-Err.ensures.none)

pub returns-in-Ok-clause-asked : goal.returns-in-Ok-clause-asked
returns-in-Ok-clause-asked g c =
    let asked = g.F.Folder.asked in
    let holds = g.F.Folder.holds in
    let faults = g.F.Folder.faults in
    let old = c.args.folder.now in
    let new = c.run_on_script.new.folder in
    let files = told_by holds faults old new in
    let mid = c.script_of.new.folder in
    let files_mid = told_by holds faults mid new in
    let on = last-part holds faults old mid new c.in-Ok.ensures.stays c.in-Ok.ensures.folder_later in
    let lacking = c.run_on_script.result ≡ NoMemory in
    let script = c.args.asked.outside.script.now in
    let arrivals = c.args.asked.outside.arrivals.now in
    let kept = script-kept (told_by holds faults old mid) files script c.in-Ok.script (first-part holds faults old mid new c.run_on_script.ensures.folder_later) c.in-Ok.ensures.script in
    asked-behind asked old mid new script (WantsFile files_mid lacking arrivals (λ text. wants_none)) (WantsOutside files lacking script arrivals) c.in-Ok.ensures.asked
    (λ names h. script-then files lacking script c.in-Ok.script (WantsFile files lacking arrivals (λ text. wants_none)) names kept
    (file-more files_mid files lacking lacking on (λ l. l) arrivals (λ text. wants_none) (λ text. wants_none) names (λ text names x. x) h)) c.run_on_script.ensures.asked

pub returns-in-Err-clause-asked : goal.returns-in-Err-clause-asked
returns-in-Err-clause-asked g c =
    let asked = g.F.Folder.asked in
    let holds = g.F.Folder.holds in
    let faults = g.F.Folder.faults in
    let old = c.args.folder.now in
    let new = c.script_of.new.folder in
    let files = told_by holds faults old new in
    let lacking = c.in-Err.ending ≡ NoMemory in
    let script = c.args.asked.outside.script.now in
    let next = WantsFile files lacking c.args.asked.outside.arrivals.now (λ text. wants_none) in
    asked-more asked old new (WantsScript files lacking (Some script) wants_never) (WantsOutside files lacking script c.args.asked.outside.arrivals.now)
    (λ names h. script-more files files lacking lacking (λ file. refl, λ r. r) (λ l. l) (Some script) wants_never next names (λ names x. absurd x) h) c.in-Err.ensures.stopped

pub returns-in-Ok-clause-failure : goal.returns-in-Ok-clause-failure
returns-in-Ok-clause-failure g c = told-on (g.F.Folder.faults c.args.folder.now) (g.F.Folder.faults c.script_of.new.folder) (g.F.Folder.faults c.run_on_script.new.folder) c.run_on_script.result c.in-Ok.ensures.unfailed c.run_on_script.ensures.failure
