use Rattle.std.proofs.Common.{subst, [], inl, ◌≡◌}
use Rattle.tool_io.specs.Putting.{Took}
use Rattle.tool_io.proofs.Laws.{took-nothing}
use Rattle.class_file.specs.declared.class.ClassFile.{ClassFile}
use Rattle.run_tool.specs.ClassBoards.{AnswersClassFile, classes}
use Rattle.run_tool.specs.inner.{none_to_read}
use Rattle.run_tool.specs.Class.{RunsFile, RunsClassText}
use Rattle.run_tool.proofs.Endings.{gives-more, gives-after}
use Rattle.run_tool.proofs.ClassAnswers.{no-class}
use Rattle.run_tool.specs.declared.ending.Ending.TheVariants.{NoMemory}
use Rattle.run_tool.specs.Wanted.{OrLacks, WantsBoards, wants_none, Onwards}
use Rattle.run_tool.proofs.Wanting.{asked-more, asked-none}
use Rattle.run_tool.proofs.WantedReadings.{class-stops}
use Rattle.run_tool.specs.Files.{told_by}
use Rattle.run_tool.proofs.class.run_text.Goals as goal

pub returns-in-Ok-clause-answer : goal.returns-in-Ok-clause-answer
returns-in-Ok-clause-answer g c =
    let files = told_by g.F.Folder.holds g.F.Folder.faults c.args.folder.now c.run_file.new.folder in
    let may = RunsClassText files c.args.budget c.args.text.now in
    gives-after may c.run_file.result (subst (λ x. Took x (g.K.Sink.taken c.class_in.new.out) []) c.in-Ok.ensures.unwritten (took-nothing (g.K.Sink.taken c.class_in.new.out))) c.in-Ok.ensures.later
    (gives-more (RunsFile files c.args.budget c.in-Ok.class) may c.run_file.result (λ answer h. inl (c.in-Ok.class, c.in-Ok.ensures.class, h)) c.run_file.ensures.answer)

pub returns-in-Err-clause-answer : goal.returns-in-Err-clause-answer
returns-in-Err-clause-answer g c =
    let files = told_by g.F.Folder.holds g.F.Folder.faults c.args.folder.now c.args.folder.now in
    let answers = RunsFile files c.args.budget in
    gives-more (AnswersClassFile none_to_read c.args.text.now) (AnswersClassFile answers c.args.text.now) c.in-Err.ending (λ answer h. no-class answers c.args.text.now answer h) c.in-Err.ensures.none

pub returns-in-Ok-clause-asked : goal.returns-in-Ok-clause-asked
returns-in-Ok-clause-asked g c =
    let asked = g.F.Folder.asked in
    let holds = g.F.Folder.holds in
    let faults = g.F.Folder.faults in
    let old = c.args.folder.now in
    let new = c.run_file.new.folder in
    let files = told_by holds faults old new in
    let lacking = c.run_file.result ≡ NoMemory in
    let class = c.in-Ok.class in
    asked-more asked old new (WantsBoards files lacking class.end class.boards wants_none) (OrLacks lacking (Onwards classes (λ file. WantsBoards files lacking file.end file.boards wants_none) c.args.text.now))
    (λ names h. inl (inl (class, c.in-Ok.ensures.class, h))) c.run_file.ensures.asked

pub returns-in-Err-clause-asked : goal.returns-in-Err-clause-asked
returns-in-Err-clause-asked g c =
    let asked = g.F.Folder.asked in
    let holds = g.F.Folder.holds in
    let faults = g.F.Folder.faults in
    let old = c.args.folder.now in
    let new = c.args.folder.now in
    let files = told_by holds faults old new in
    let lacking = c.in-Err.ending ≡ NoMemory in
    let next = λ (file : ClassFile). WantsBoards files lacking file.end file.boards wants_none in
    asked-none asked old (OrLacks lacking (Onwards classes next c.args.text.now)) (class-stops c.args.text.now c.in-Err.ending next c.in-Err.ensures.none)
