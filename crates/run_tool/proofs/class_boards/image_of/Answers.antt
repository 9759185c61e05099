use Rattle.std.proofs.Common.{subst, ◌≡◌, ◌∷◌, []}
use Rattle.run_tool.specs.Built.{Builds}
use Rattle.run_tool.specs.ClassBoards.{OverBoardProgram}
use Rattle.run_tool.specs.inner.{none_to_read, wants_never}
use Rattle.run_tool.proofs.Endings.{if-ok, if-err, text-gives, no-text-gives}
use Rattle.run_tool.specs.declared.ending.Ending.TheVariants.{NoMemory}
use Rattle.run_tool.specs.Wanted.{Onwards, WantsFile}
use Rattle.run_tool.proofs.Wanting.{asked-more, file-fetched, file-missed, on-ok-all}
use Rattle.run_tool.proofs.WantedReadings.{board-program-stops}
use Rattle.run_tool.specs.Programs.{programs}
use Rattle.run_tool.specs.Files.{told_by}
use Rattle.run_tool.proofs.class_boards.image_of.Goals as goal

pub returns-in-Ok-clause-image : goal.returns-in-Ok-clause-image
returns-in-Ok-clause-image g c =
    if-ok c.image_in.result (λ image h. (c.in-Ok.text, c.in-Ok.ensures.text, subst (λ t. Builds t image.items) c.deref.ensures.value h)) c.image_in.ensures.built

pub returns-in-Ok-clause-none : goal.returns-in-Ok-clause-none
returns-in-Ok-clause-none g c =
    let files = told_by g.F.Folder.holds g.F.Folder.faults c.args.folder.now c.text_of.new.folder in
    if-err c.image_in.result (λ ending h. text-gives (OverBoardProgram c.args.number (λ tables. none_to_read)) files c.args.name.now c.in-Ok.text c.deref.result.now ending c.in-Ok.ensures.unwritten c.in-Ok.ensures.later
    c.deref.ensures.value c.in-Ok.ensures.text h) c.image_in.ensures.none

pub returns-in-Err-clause-none : goal.returns-in-Err-clause-none
returns-in-Err-clause-none g c =
    let files = told_by g.F.Folder.holds g.F.Folder.faults c.args.folder.now c.text_of.new.folder in
    no-text-gives (OverBoardProgram c.args.number (λ tables. none_to_read)) files c.args.name.now c.in-Err.ending c.in-Err.ensures.none

pub returns-in-Ok-clause-asked : goal.returns-in-Ok-clause-asked
returns-in-Ok-clause-asked g c = on-ok-all c.image_in.result c.in-Ok.ensures.asked

pub returns-in-Ok-clause-stopped : goal.returns-in-Ok-clause-stopped
returns-in-Ok-clause-stopped g c =
    let asked = g.F.Folder.asked in
    let holds = g.F.Folder.holds in
    let faults = g.F.Folder.faults in
    let old = c.args.folder.now in
    let new = c.text_of.new.folder in
    let files = told_by holds faults old new in
    let text = c.deref.result.now in
    if-err c.image_in.result (λ ending h. (
      c.args.name.now ∷ [],
      c.in-Ok.ensures.asked,
      file-fetched files (ending ≡ NoMemory) c.args.name.now (Onwards programs (λ read. wants_never)) c.in-Ok.text text [] c.deref.ensures.value c.in-Ok.ensures.text (board-program-stops text ending c.args.number (λ read. wants_never) h),
    )) c.image_in.ensures.none

pub returns-in-Err-clause-stopped : goal.returns-in-Err-clause-stopped
returns-in-Err-clause-stopped g c =
    let asked = g.F.Folder.asked in
    let holds = g.F.Folder.holds in
    let faults = g.F.Folder.faults in
    let old = c.args.folder.now in
    let new = c.text_of.new.folder in
    let files = told_by holds faults old new in
    let lacking = c.in-Err.ending ≡ NoMemory in
    let next = Onwards programs (λ read. wants_never) in
    asked-more asked old new (WantsFile files lacking c.args.name.now (λ text. wants_never)) (WantsFile files lacking c.args.name.now next)
    (λ names h. file-missed files lacking c.args.name.now next names h) c.in-Err.ensures.stopped
