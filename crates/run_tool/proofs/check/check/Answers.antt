use Rattle.run_tool.specs.Programs.{ChecksText}
use Rattle.run_tool.proofs.Endings.{text-gives, no-text-gives}
use Rattle.std.proofs.Common.{◌≡◌, refl, inl, le_refl}
use Rattle.run_tool.specs.declared.ending.Ending.TheVariants.{NoMemory}
use Rattle.run_tool.specs.Wanted.{OrLacks, WantsFile, wants_none}
use Rattle.run_tool.specs.inner.{wants_never}
use Rattle.run_tool.proofs.Wanting.{asked-more, asked-none, file-missed, then-behind}
use Rattle.run_tool.specs.Files.{told_by}
use Rattle.run_tool.proofs.check.check.Goals as goal

pub returns-in-Ok-clause-answer : goal.returns-in-Ok-clause-answer
returns-in-Ok-clause-answer g c =
    text-gives ChecksText (told_by g.F.Folder.holds g.F.Folder.faults c.args.folder.now c.text_of.new.folder) c.args.name.now
    c.in-Ok.text c.deref.result.now c.check_text.result c.in-Ok.ensures.unwritten c.in-Ok.ensures.later c.deref.ensures.value c.in-Ok.ensures.text c.check_text.ensures

pub returns-in-Err-clause-answer : goal.returns-in-Err-clause-answer
returns-in-Err-clause-answer g c =
    no-text-gives ChecksText (told_by g.F.Folder.holds g.F.Folder.faults c.args.folder.now c.text_of.new.folder) c.args.name.now
    c.in-Err.ending c.in-Err.ensures.none

pub returns-in-Ok-clause-asked : goal.returns-in-Ok-clause-asked
returns-in-Ok-clause-asked g c =
    let asked = g.F.Folder.asked in
    let holds = g.F.Folder.holds in
    let faults = g.F.Folder.faults in
    let old = c.args.folder.now in
    let new = c.text_of.new.folder in
    let files = told_by holds faults old new in
    let lacking = c.check_text.result ≡ NoMemory in
    then-behind asked holds faults old new new lacking c.args.name.now (λ text. wants_none) c.in-Ok.text c.deref.result.now c.in-Ok.ensures.asked c.in-Ok.ensures.text c.deref.ensures.value (le_refl (faults new))
    (asked-none asked new (OrLacks lacking wants_none) (inl refl))

pub returns-in-Err-clause-asked : goal.returns-in-Err-clause-asked
returns-in-Err-clause-asked g c =
    let asked = g.F.Folder.asked in
    let holds = g.F.Folder.holds in
    let faults = g.F.Folder.faults in
    let old = c.args.folder.now in
    let new = c.text_of.new.folder in
    let files = told_by holds faults old new in
    let lacking = c.in-Err.ending ≡ NoMemory in
    asked-more asked old new (WantsFile files lacking c.args.name.now (λ text. wants_never)) (WantsFile files lacking c.args.name.now (λ text. wants_none))
    (λ names h. file-missed files lacking c.args.name.now (λ text. wants_none) names h) c.in-Err.ensures.stopped
