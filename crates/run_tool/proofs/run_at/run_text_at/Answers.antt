use Rattle.std.proofs.Common.{subst, refl, [], ◌≡◌, inl}
use Rattle.tool_io.specs.Putting.{Took}
use Rattle.tool_io.proofs.Laws.{took-nothing}
use Rattle.run_tool.specs.RunAt.{RunsOutside, RunsTextAt}
use Rattle.run_tool.proofs.Endings.{concludes-more, concludes-after, says-concludes, no-program-gives, of-program}
use Rattle.run_tool.specs.declared.ending.Ending.TheVariants.{NoMemory}
use Rattle.run_tool.specs.Wanted.{Onwards, OrLacks, WantsOutside}
use Rattle.run_tool.proofs.Wanting.{asked-more, asked-none}
use Rattle.run_tool.proofs.WantedReadings.{accepted, program-stops}
use Rattle.run_tool.specs.Programs.{programs}
use Rattle.run_tool.specs.Files.{told_by}
use Rattle.run_tool.proofs.run_at.run_text_at.Goals as goal

pub returns-in-Ok-clause-answer : goal.returns-in-Ok-clause-answer
returns-in-Ok-clause-answer g c =
    let files = told_by g.F.Folder.holds g.F.Folder.faults c.args.folder.now c.run_outside.new.folder in
    let answers = RunsOutside files c.args.asked.outside.script.now c.args.asked.outside.arrivals.now c.args.asked.budget in
    let b = c.in-Ok.ensures.built in
    let may = RunsTextAt files c.args.asked.outside.script.now c.args.asked.outside.arrivals.now c.args.asked.budget c.args.text.now in
    concludes-after g.K.Sink.taken g.K.Sink.faults c.args.out.now c.image_of.new.out c.run_outside.new.out may c.run_outside.result
    (subst (λ x. Took x (g.K.Sink.taken c.image_of.new.out) []) c.in-Ok.ensures.unwritten (took-nothing (g.K.Sink.taken c.image_of.new.out))) c.in-Ok.ensures.later
    (concludes-more (answers b.program b.tables.texts) may c.run_outside.result
    (of-program answers c.args.text.now c.in-Ok.image.items b) (c.run_outside.ensures.answer b.program b.tables.texts b.built))

pub returns-in-Err-clause-answer : goal.returns-in-Err-clause-answer
returns-in-Err-clause-answer g c =
    let files = told_by g.F.Folder.holds g.F.Folder.faults c.args.folder.now c.args.folder.now in
    let answers = RunsOutside files c.args.asked.outside.script.now c.args.asked.outside.arrivals.now c.args.asked.budget in
    says-concludes g.D.Device.account c.args.places.now.items c.args.places.now.items refl
    (RunsTextAt files c.args.asked.outside.script.now c.args.asked.outside.arrivals.now c.args.asked.budget c.args.text.now) c.in-Err.ending
    (no-program-gives answers c.args.text.now c.in-Err.ending c.in-Err.ensures.none)

pub returns-in-Ok-clause-asked : goal.returns-in-Ok-clause-asked
returns-in-Ok-clause-asked g c =
    let asked = g.F.Folder.asked in
    let holds = g.F.Folder.holds in
    let faults = g.F.Folder.faults in
    let old = c.args.folder.now in
    let new = c.run_outside.new.folder in
    let files = told_by holds faults old new in
    let text = c.args.text.now in
    let lacking = c.run_outside.result ≡ NoMemory in
    let next = WantsOutside files lacking c.args.asked.outside.script.now c.args.asked.outside.arrivals.now in
    asked-more asked old new next (OrLacks lacking (Onwards programs (λ read. next) text)) (λ names h. inl (accepted text c.in-Ok.image.items c.in-Ok.ensures.built (λ read. next) names h)) c.run_outside.ensures.asked

pub returns-in-Err-clause-asked : goal.returns-in-Err-clause-asked
returns-in-Err-clause-asked g c =
    let asked = g.F.Folder.asked in
    let holds = g.F.Folder.holds in
    let faults = g.F.Folder.faults in
    let old = c.args.folder.now in
    let new = c.args.folder.now in
    let files = told_by holds faults old new in
    let text = c.args.text.now in
    let lacking = c.in-Err.ending ≡ NoMemory in
    let next = WantsOutside files lacking c.args.asked.outside.script.now c.args.asked.outside.arrivals.now in
    asked-none asked old (OrLacks lacking (Onwards programs (λ read. next) text)) (program-stops text c.in-Err.ending (λ read. next) c.in-Err.ensures.none)
