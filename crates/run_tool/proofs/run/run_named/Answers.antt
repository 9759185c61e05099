use Rattle.std.proofs.Common.{subst, refl, [], ◌≡◌}
use Rattle.std.specs.Option.{option_to_list, option_map}
use Rattle.sts_words.specs.Views.{spoken}
use Rattle.tool_io.specs.Putting.{Took}
use Rattle.tool_io.proofs.Laws.{took-nothing}
use Rattle.run_tool.specs.Run.{RunsProgram}
use Rattle.run_tool.specs.Scripts.{OverScript}
use Rattle.run_tool.specs.inner.{none_to_read, wants_never}
use Rattle.run_tool.proofs.Endings.{gives-more, concludes-more, concludes-after, says-concludes, no-script, over-script}
use Rattle.run_tool.specs.declared.ending.Ending.TheVariants.{NoMemory}
use Rattle.run_tool.specs.Wanted.{WantsScript, wants_none}
use Rattle.run_tool.proofs.Wanting.{asked-more, script-more}
use Rattle.run_tool.proofs.WantedReadings.{script-read}
use Rattle.run_tool.specs.Files.{told_by}
use Rattle.run_tool.proofs.run.run_named.Goals as goal

pub returns-in-Ok-clause-answer : goal.returns-in-Ok-clause-answer
returns-in-Ok-clause-answer g c = λ P texts implements.
    let files = told_by g.F.Folder.holds g.F.Folder.faults c.args.folder.now c.script_of.new.folder in
    let name = option_map spoken c.args.asked.script in
    let m = c.args.asked.options in
    let may = OverScript files name (λ read. RunsProgram P texts read m.budget m.behind.stats m.behind.image) in
    concludes-after g.K.Sink.taken g.K.Sink.faults c.args.out.now c.script_of.new.out c.run_program.new.out may c.run_program.result
    (subst (λ x. Took x (g.K.Sink.taken c.script_of.new.out) []) c.in-Ok.ensures.unwritten (took-nothing (g.K.Sink.taken c.script_of.new.out))) c.in-Ok.ensures.later
    (concludes-more (RunsProgram P texts c.in-Ok.script m.budget m.behind.stats m.behind.image) may c.run_program.result
    (λ answer h. over-script files name (λ read. RunsProgram P texts read m.budget m.behind.stats m.behind.image) c.in-Ok.script answer c.in-Ok.ensures.script h) (c.run_program.ensures P texts implements))

pub returns-in-Err-clause-answer : goal.returns-in-Err-clause-answer
returns-in-Err-clause-answer g c = λ P texts implements.
    let files = told_by g.F.Folder.holds g.F.Folder.faults c.args.folder.now c.script_of.new.folder in
    let name = option_map spoken c.args.asked.script in
    let m = c.args.asked.options in
    let may = OverScript files name (λ read. RunsProgram P texts read m.budget m.behind.stats m.behind.image) in
    says-concludes g.D.Device.account c.args.places.now.items c.args.places.now.items refl may c.in-Err.ending
    (gives-more (OverScript files name none_to_read) may c.in-Err.ending (λ answer h. no-script files name (λ read. RunsProgram P texts read m.budget m.behind.stats m.behind.image) answer h) c.in-Err.ensures.none)

pub returns-in-Ok-clause-asked : goal.returns-in-Ok-clause-asked
returns-in-Ok-clause-asked g c =
    let asked = g.F.Folder.asked in
    let holds = g.F.Folder.holds in
    let faults = g.F.Folder.faults in
    let old = c.args.folder.now in
    let new = c.script_of.new.folder in
    let files = told_by holds faults old new in
    let name = option_map spoken c.args.asked.script in
    (option_to_list name, c.in-Ok.ensures.asked, script-read files (c.run_program.result ≡ NoMemory) name c.in-Ok.script c.in-Ok.ensures.script)

pub returns-in-Err-clause-asked : goal.returns-in-Err-clause-asked
returns-in-Err-clause-asked g c =
    let asked = g.F.Folder.asked in
    let holds = g.F.Folder.holds in
    let faults = g.F.Folder.faults in
    let old = c.args.folder.now in
    let new = c.script_of.new.folder in
    let files = told_by holds faults old new in
    let name = option_map spoken c.args.asked.script in
    let lacking = c.in-Err.ending ≡ NoMemory in
    asked-more asked old new (WantsScript files lacking name wants_never) (WantsScript files lacking name wants_none)
    (λ names h. script-more files files lacking lacking (λ file. refl, λ r. r) (λ l. l) name wants_never wants_none names (λ names x. absurd x) h) c.in-Err.ensures.stopped
