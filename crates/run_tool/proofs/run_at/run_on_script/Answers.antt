use Rattle.std.proofs.Common.{subst, refl, [], ◌≡◌}
use Rattle.tool_io.specs.Putting.{Took}
use Rattle.tool_io.proofs.Laws.{took-nothing}
use Rattle.run_tool.specs.Files.{AnswersFile, told_by}
use Rattle.run_tool.specs.RunAt.{AnswersArrivals, RunsProgramAt, RunsOnScript}
use Rattle.run_tool.specs.inner.{none_to_read}
use Rattle.run_tool.proofs.Endings.{gives-more, concludes-more, concludes-after, says-concludes}
use Rattle.run_tool.proofs.RunsAt.{no-arrivals, over-arrivals}
use Rattle.std.specs.Prelude.{IsErrOf}
use Rattle.run_tool.specs.declared.ending.Ending.TheVariants.{NoMemory}
use Rattle.run_tool.specs.Wanted.{WantsFile, wants_none}
use Rattle.run_tool.proofs.Wanting.{asked-more, file-more}
use Rattle.run_tool.proofs.run_at.run_on_script.Goals as goal

pub returns-in-Ok-clause-answer : goal.returns-in-Ok-clause-answer
returns-in-Ok-clause-answer g c = λ P texts implements.
    let files = told_by g.F.Folder.holds g.F.Folder.faults c.args.folder.now c.arrivals_of.new.folder in
    let name = c.args.asked.outside.arrivals.now in
    let budget = c.args.asked.budget in
    let may = RunsOnScript files name budget P texts c.args.setup.script in
    concludes-after g.K.Sink.taken g.K.Sink.faults c.args.out.now c.arrivals_of.new.out c.run_board_at.new.out may c.run_board_at.result
    (subst (λ x. Took x (g.K.Sink.taken c.arrivals_of.new.out) []) c.in-Ok.ensures.unwritten (took-nothing (g.K.Sink.taken c.arrivals_of.new.out))) c.in-Ok.ensures.later
    (concludes-more (RunsProgramAt P texts c.args.setup.script c.in-Ok.arrivals budget) may c.run_board_at.result
    (λ answer h. over-arrivals files name (λ come. RunsProgramAt P texts c.args.setup.script come budget) c.in-Ok.arrivals answer c.in-Ok.ensures.arrivals h) (c.run_board_at.ensures P texts implements))

pub returns-in-Err-clause-answer : goal.returns-in-Err-clause-answer
returns-in-Err-clause-answer g c = λ P texts implements.
    let files = told_by g.F.Folder.holds g.F.Folder.faults c.args.folder.now c.arrivals_of.new.folder in
    let name = c.args.asked.outside.arrivals.now in
    let budget = c.args.asked.budget in
    let may = RunsOnScript files name budget P texts c.args.setup.script in
    says-concludes g.D.Device.account c.args.places.now.items c.args.places.now.items refl may c.in-Err.ending
    (gives-more (AnswersFile files name (AnswersArrivals none_to_read)) may c.in-Err.ending (λ answer h. no-arrivals files name (λ come. RunsProgramAt P texts c.args.setup.script come budget) answer h) c.in-Err.ensures.none)

pub returns-in-Ok-clause-asked : goal.returns-in-Ok-clause-asked
returns-in-Ok-clause-asked g c =
    let asked = g.F.Folder.asked in
    let holds = g.F.Folder.holds in
    let faults = g.F.Folder.faults in
    let old = c.args.folder.now in
    let new = c.arrivals_of.new.folder in
    let files = told_by holds faults old new in
    let name = c.args.asked.outside.arrivals.now in
    let stopped = IsErrOf c.arrivals_of.result NoMemory in
    let lacking = c.run_board_at.result ≡ NoMemory in
    asked-more asked old new (WantsFile files stopped name (λ text. wants_none)) (WantsFile files lacking name (λ text. wants_none))
    (λ names h. file-more files files stopped lacking (λ file. refl, λ r. r) (λ e. let is = c.in-Ok.is in absurd (cc)) name (λ text. wants_none) (λ text. wants_none) names (λ text names x. x) h) c.arrivals_of.ensures.asked

pub returns-in-Err-clause-asked : goal.returns-in-Err-clause-asked
returns-in-Err-clause-asked g c =
    let asked = g.F.Folder.asked in
    let holds = g.F.Folder.holds in
    let faults = g.F.Folder.faults in
    let old = c.args.folder.now in
    let new = c.arrivals_of.new.folder in
    let files = told_by holds faults old new in
    let name = c.args.asked.outside.arrivals.now in
    let stopped = IsErrOf c.arrivals_of.result NoMemory in
    let lacking = c.in-Err.ending ≡ NoMemory in
    asked-more asked old new (WantsFile files stopped name (λ text. wants_none)) (WantsFile files lacking name (λ text. wants_none))
    (λ names h. file-more files files stopped lacking (λ file. refl, λ r. r) (λ e. let is = c.in-Err.is in cc) name (λ text. wants_none) (λ text. wants_none) names (λ text names x. x) h) c.arrivals_of.ensures.asked
