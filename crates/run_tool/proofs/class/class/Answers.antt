use Rattle.class_file.specs.declared.class.ClassFile.{ClassFile}
use Rattle.run_tool.specs.Class.{RunsClassText}
use Rattle.run_tool.proofs.Endings.{gives-more, text-gives, no-text-gives, told-on}
use Rattle.run_tool.proofs.ClassTexts.{class-text-onwards}
use Rattle.std.proofs.Common.{◌≡◌}
use Rattle.run_tool.specs.declared.ending.Ending.TheVariants.{NoMemory}
use Rattle.run_tool.specs.Wanted.{OrLacks, WantsFile, Onwards, WantsBoards, wants_none}
use Rattle.run_tool.specs.inner.{wants_never}
use Rattle.run_tool.proofs.Wanting.{asked-more, boards-more, file-missed, onwards-more, or-more, then-behind}
use Rattle.run_tool.specs.ClassBoards.{classes}
use Rattle.run_tool.proofs.Readings.{last-part}
use Rattle.run_tool.specs.Files.{told_by}
use Rattle.run_tool.proofs.class.class.Goals as goal

pub returns-in-Ok-clause-answer : goal.returns-in-Ok-clause-answer
returns-in-Ok-clause-answer g c =
    let holds = g.F.Folder.holds in
    let faults = g.F.Folder.faults in
    let old = c.args.folder.now in
    let mid = c.text_of.new.folder in
    let new = c.run_text.new.folder in
    let files = told_by holds faults old new in
    let files_mid = told_by holds faults mid new in
    let on = last-part holds faults old mid new c.in-Ok.ensures.stays c.in-Ok.ensures.folder_later in
    text-gives (RunsClassText files c.args.budget) files c.args.name.now c.in-Ok.text c.deref.result.now c.run_text.result c.in-Ok.ensures.unwritten c.in-Ok.ensures.later
    c.deref.ensures.value c.in-Ok.ensures.text
    (gives-more (RunsClassText files_mid c.args.budget c.deref.result.now) (RunsClassText files c.args.budget c.deref.result.now) c.run_text.result
    (λ answer h. class-text-onwards files_mid files c.args.budget on
    c.deref.result.now answer h) c.run_text.ensures.answer)

pub returns-in-Err-clause-answer : goal.returns-in-Err-clause-answer
returns-in-Err-clause-answer g c =
    let files = told_by g.F.Folder.holds g.F.Folder.faults c.args.folder.now c.text_of.new.folder in
    no-text-gives (RunsClassText files c.args.budget) files c.args.name.now c.in-Err.ending c.in-Err.ensures.none

pub returns-in-Ok-clause-asked : goal.returns-in-Ok-clause-asked
returns-in-Ok-clause-asked g c =
    let asked = g.F.Folder.asked in
    let holds = g.F.Folder.holds in
    let faults = g.F.Folder.faults in
    let old = c.args.folder.now in
    let new = c.run_text.new.folder in
    let files = told_by holds faults old new in
    let mid = c.text_of.new.folder in
    let files_mid = told_by holds faults mid new in
    let on = last-part holds faults old mid new c.in-Ok.ensures.stays c.in-Ok.ensures.folder_later in
    let lacking = c.run_text.result ≡ NoMemory in
    let text = c.deref.result.now in
    let next = λ (file : ClassFile). WantsBoards files lacking file.end file.boards wants_none in
    let next_mid = λ (file : ClassFile). WantsBoards files_mid lacking file.end file.boards wants_none in
    then-behind asked holds faults old mid new lacking c.args.name.now (Onwards classes next) c.in-Ok.text text c.in-Ok.ensures.asked c.in-Ok.ensures.text c.deref.ensures.value c.run_text.ensures.folder_later
    (asked-more asked mid new (OrLacks lacking (Onwards classes next_mid text)) (OrLacks lacking (Onwards classes next text))
    (λ names h. or-more lacking lacking (Onwards classes next_mid text) (Onwards classes next text) names (λ l. l)
    (λ x. onwards-more classes next_mid next text names (λ file y. boards-more files_mid files lacking lacking on (λ l. l) file.end file.boards wants_none wants_none names (λ names z. z) y) x) h) c.run_text.ensures.asked)

pub returns-in-Err-clause-asked : goal.returns-in-Err-clause-asked
returns-in-Err-clause-asked g c =
    let asked = g.F.Folder.asked in
    let holds = g.F.Folder.holds in
    let faults = g.F.Folder.faults in
    let old = c.args.folder.now in
    let new = c.text_of.new.folder in
    let files = told_by holds faults old new in
    let lacking = c.in-Err.ending ≡ NoMemory in
    asked-more asked old new (WantsFile files lacking c.args.name.now (λ text. wants_never)) (WantsFile files lacking c.args.name.now (Onwards classes (λ file. WantsBoards files lacking file.end file.boards wants_none)))
    (λ names h. file-missed files lacking c.args.name.now (Onwards classes (λ file. WantsBoards files lacking file.end file.boards wants_none)) names h) c.in-Err.ensures.stopped

pub returns-in-Ok-clause-failure : goal.returns-in-Ok-clause-failure
returns-in-Ok-clause-failure g c = told-on (g.F.Folder.faults c.args.folder.now) (g.F.Folder.faults c.text_of.new.folder) (g.F.Folder.faults c.run_text.new.folder) c.run_text.result c.in-Ok.ensures.unfailed c.run_text.ensures.failure
