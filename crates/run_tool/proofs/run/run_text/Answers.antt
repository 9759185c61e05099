use Rattle.std.proofs.Common.{List, subst, refl, [], ◌≡◌, inl}
use Rattle.std.specs.Option.{option_map}
use Rattle.sts_words.specs.Views.{spoken}
use Rattle.tool_io.specs.Putting.{Took}
use Rattle.tool_io.proofs.Laws.{took-nothing}
use Rattle.board_world.specs.Observations.{ByteList}
use Rattle.sts_syntax.specs.TypedTrees.{TypedProgram}
use Rattle.run_tool.specs.Run.{RunsProgram, RunsText}
use Rattle.run_tool.specs.Scripts.{OverScript}
use Rattle.run_tool.proofs.Endings.{concludes-more, concludes-after, says-concludes, no-program-gives, of-program}
use Rattle.run_tool.specs.declared.ending.Ending.TheVariants.{NoMemory}
use Rattle.run_tool.specs.Wanted.{Onwards, OrLacks, WantsScript, wants_none}
use Rattle.run_tool.proofs.Wanting.{asked-more, asked-none}
use Rattle.run_tool.proofs.WantedReadings.{accepted, program-stops}
use Rattle.run_tool.specs.Programs.{programs}
use Rattle.run_tool.specs.Files.{told_by}
use Rattle.run_tool.proofs.run.run_text.Goals as goal

pub returns-in-Ok-clause-answer : goal.returns-in-Ok-clause-answer
returns-in-Ok-clause-answer g c =
    let files = told_by g.F.Folder.holds g.F.Folder.faults c.args.folder.now c.run_named.new.folder in
    let name = option_map spoken c.args.asked.script in
    let m = c.args.asked.options in
    let answers = λ (P : TypedProgram) (texts : List ByteList). OverScript files name (λ read. RunsProgram P texts read m.budget m.behind.stats m.behind.image) in
    let b = c.in-Ok.ensures.built in
    let may = RunsText files name m.budget m.behind.stats m.behind.image c.args.text.now in
    concludes-after g.K.Sink.taken g.K.Sink.faults c.args.out.now c.image_of.new.out c.run_named.new.out may c.run_named.result
    (subst (λ x. Took x (g.K.Sink.taken c.image_of.new.out) []) c.in-Ok.ensures.unwritten (took-nothing (g.K.Sink.taken c.image_of.new.out))) c.in-Ok.ensures.later
    (concludes-more (answers b.program b.tables.texts) may c.run_named.result
    (of-program answers c.args.text.now c.in-Ok.image.items b) (c.run_named.ensures.answer b.program b.tables.texts b.built))

pub returns-in-Err-clause-answer : goal.returns-in-Err-clause-answer
returns-in-Err-clause-answer g c =
    let files = told_by g.F.Folder.holds g.F.Folder.faults c.args.folder.now c.args.folder.now in
    let name = option_map spoken c.args.asked.script in
    let m = c.args.asked.options in
    let answers = λ (P : TypedProgram) (texts : List ByteList). OverScript files name (λ read. RunsProgram P texts read m.budget m.behind.stats m.behind.image) in
    says-concludes g.D.Device.account c.args.places.now.items c.args.places.now.items refl (RunsText files name m.budget m.behind.stats m.behind.image c.args.text.now) c.in-Err.ending
    (no-program-gives answers c.args.text.now c.in-Err.ending c.in-Err.ensures.none)

pub returns-in-Ok-clause-asked : goal.returns-in-Ok-clause-asked
returns-in-Ok-clause-asked g c =
    let asked = g.F.Folder.asked in
    let holds = g.F.Folder.holds in
    let faults = g.F.Folder.faults in
    let old = c.args.folder.now in
    let new = c.run_named.new.folder in
    let files = told_by holds faults old new in
    let text = c.args.text.now in
    let lacking = c.run_named.result ≡ NoMemory in
    let next = WantsScript files lacking (option_map spoken c.args.asked.script) wants_none in
    asked-more asked old new next (OrLacks lacking (Onwards programs (λ read. next) text)) (λ names h. inl (accepted text c.in-Ok.image.items c.in-Ok.ensures.built (λ read. next) names h)) c.run_named.ensures.asked

pub returns-in-Err-clause-asked : goal.returns-in-Err-clause-asked
returns-in-Err-clause-asked g c =
    let asked = g.F.Folder.asked in
    let holds = g.F.Folder.holds in
    let faults = g.F.Folder.faults in
    let old = c.args.folder.now in
    let new = c.args.folder.now in
    let files = told_by holds faults old new in
    let text = c.args.text.now in
    let lacking = c.in-Err.ending ≡ NoMemory in
    let next = WantsScript files lacking (option_map spoken c.args.asked.script) wants_none in
    asked-none asked old (OrLacks lacking (Onwards programs (λ read. next) text)) (program-stops text c.in-Err.ending (λ read. next) c.in-Err.ensures.none)
