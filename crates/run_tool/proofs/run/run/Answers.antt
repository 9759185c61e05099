use Rattle.std.proofs.Common.{refl, ◌≡◌}
use Rattle.std.specs.Option.{option_map}
use Rattle.sts_words.specs.Views.{spoken}
use Rattle.run_tool.specs.Run.{RunsText}
use Rattle.run_tool.specs.Files.{AnswersFile, told_by}
use Rattle.run_tool.proofs.Endings.{no-text-gives, concludes-more, text-concludes, says-concludes, told-on}
use Rattle.run_tool.proofs.ImageRuns.{program-onwards}
use Rattle.run_tool.specs.declared.ending.Ending.TheVariants.{NoMemory}
use Rattle.run_tool.specs.Wanted.{Onwards, OrLacks, WantsFile, WantsScript, wants_none}
use Rattle.run_tool.specs.inner.{wants_never}
use Rattle.run_tool.proofs.Wanting.{asked-more, file-missed, onwards-more, or-more, then-behind, script-more}
use Rattle.run_tool.proofs.Readings.{last-part}
use Rattle.run_tool.specs.Programs.{programs}
use Rattle.run_tool.proofs.run.run.Goals as goal

pub returns-in-Ok-clause-answer : goal.returns-in-Ok-clause-answer
returns-in-Ok-clause-answer g c =
    let holds = g.F.Folder.holds in
    let faults = g.F.Folder.faults in
    let old = c.args.folder.now in
    let mid = c.text_of.new.folder in
    let new = c.run_text.new.folder in
    let files = told_by holds faults old new in
    let files_mid = told_by holds faults mid new in
    let on = last-part holds faults old mid new c.in-Ok.ensures.stays c.in-Ok.ensures.folder_later in
    let name = option_map spoken c.args.asked.script in
    let m = c.args.asked.options in
    text-concludes g.K.Sink.taken g.K.Sink.faults c.args.out.now c.text_of.new.out c.run_text.new.out (RunsText files name m.budget m.behind.stats m.behind.image) files c.args.name.now
    c.in-Ok.text c.deref.result.now c.run_text.result c.in-Ok.ensures.unwritten c.in-Ok.ensures.later c.deref.ensures.value c.in-Ok.ensures.text
    (concludes-more (RunsText files_mid name m.budget m.behind.stats m.behind.image c.deref.result.now)
    (RunsText files name m.budget m.behind.stats m.behind.image c.deref.result.now) c.run_text.result
    (λ answer h. program-onwards files_mid files name m.budget m.behind.stats m.behind.image c.deref.result.now answer on h) c.run_text.ensures.answer)

pub returns-in-Err-clause-answer : goal.returns-in-Err-clause-answer
returns-in-Err-clause-answer g c =
    let files = told_by g.F.Folder.holds g.F.Folder.faults c.args.folder.now c.text_of.new.folder in
    let m = c.args.asked.options in
    let answers = RunsText files (option_map spoken c.args.asked.script) m.budget m.behind.stats m.behind.image in
    says-concludes g.D.Device.account c.args.places.now.items c.args.places.now.items refl (AnswersFile files c.args.name.now answers) c.in-Err.ending
    (no-text-gives answers files c.args.name.now c.in-Err.ending c.in-Err.ensures.none)

pub returns-in-Ok-clause-asked : goal.returns-in-Ok-clause-asked
returns-in-Ok-clause-asked g c =
    let asked = g.F.Folder.asked in
    let holds = g.F.Folder.holds in
    let faults = g.F.Folder.faults in
    let old = c.args.folder.now in
    let new = c.run_text.new.folder in
    let files = told_by holds faults old new in
    let mid = c.text_of.new.folder in
    let files_mid = told_by holds faults mid new in
    let on = last-part holds faults old mid new c.in-Ok.ensures.stays c.in-Ok.ensures.folder_later in
    let lacking = c.run_text.result ≡ NoMemory in
    let text = c.deref.result.now in
    let next = WantsScript files lacking (option_map spoken c.args.asked.script) wants_none in
    let next_mid = WantsScript files_mid lacking (option_map spoken c.args.asked.script) wants_none in
    then-behind asked holds faults old mid new lacking c.args.name.now (Onwards programs (λ read. next)) c.in-Ok.text text c.in-Ok.ensures.asked c.in-Ok.ensures.text c.deref.ensures.value
    c.run_text.ensures.folder_later
    (asked-more asked mid new (OrLacks lacking (Onwards programs (λ read. next_mid) text)) (OrLacks lacking (Onwards programs (λ read. next) text))
    (λ names h. or-more lacking lacking (Onwards programs (λ read. next_mid) text) (Onwards programs (λ read. next) text) names (λ l. l)
    (λ x. onwards-more programs (λ read. next_mid) (λ read. next) text names (λ read y. script-more files_mid files lacking lacking on (λ l. l) (option_map spoken c.args.asked.script) wants_none wants_none names (λ names z. z) y) x) h) c.run_text.ensures.asked)

pub returns-in-Err-clause-asked : goal.returns-in-Err-clause-asked
returns-in-Err-clause-asked g c =
    let asked = g.F.Folder.asked in
    let holds = g.F.Folder.holds in
    let faults = g.F.Folder.faults in
    let old = c.args.folder.now in
    let new = c.text_of.new.folder in
    let files = told_by holds faults old new in
    let lacking = c.in-Err.ending ≡ NoMemory in
    let next = WantsScript files lacking (option_map spoken c.args.asked.script) wants_none in
    asked-more asked old new (WantsFile files lacking c.args.name.now (λ text. wants_never)) (WantsFile files lacking c.args.name.now (Onwards programs (λ read. next)))
    (λ names h. file-missed files lacking c.args.name.now (Onwards programs (λ read. next)) names h) c.in-Err.ensures.stopped

pub returns-in-Ok-clause-failure : goal.returns-in-Ok-clause-failure
returns-in-Ok-clause-failure g c = told-on (g.F.Folder.faults c.args.folder.now) (g.F.Folder.faults c.text_of.new.folder) (g.F.Folder.faults c.run_text.new.folder) c.run_text.result c.in-Ok.ensures.unfailed c.run_text.ensures.failure
