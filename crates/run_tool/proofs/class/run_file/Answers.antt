use Rattle.std.proofs.Common.{subst, [], List, ◌≡◌, ◌++◌, refl}
use Rattle.tool_io.specs.Putting.{Took}
use Rattle.tool_io.proofs.Laws.{took-nothing}
use Rattle.class_file.specs.declared.class.Names.{Names}
use Rattle.run_tool.specs.inner.{GivesOneOf, none_to_read, AreReady, names_of_boards, wants_never}
use Rattle.run_tool.specs.ClassBoards.{OverBoards}
use Rattle.run_tool.specs.Class.{RunsClass, RunsFile}
use Rattle.run_tool.proofs.Endings.{gives-more, gives-after}
use Rattle.run_tool.proofs.ClassTexts.{ready-runs, not-ready}
use Rattle.run_tool.specs.declared.ending.Ending.TheVariants.{NoMemory}
use Rattle.run_tool.specs.Wanted.{HasAsked, WantsBoards, wants_none}
use Rattle.run_tool.proofs.Wanting.{asked-more, boards-more}
use Rattle.run_tool.proofs.WantedReadings.{all-read}
use Rattle.run_tool.specs.Files.{told_by}
use Rattle.run_tool.proofs.class.run_file.Goals as goal

pub returns-in-Ok-clause-answer : goal.returns-in-Ok-clause-answer
returns-in-Ok-clause-answer g c =
    let files = told_by g.F.Folder.holds g.F.Folder.faults c.args.folder.now c.boards_of.new.folder in
    let may = RunsFile files c.args.budget c.args.class in
    let ready : AreReady files c.args.class.end c.args.class.boards c.in-Ok.boards = subst (λ (names : List Names). AreReady files c.args.class.end names c.in-Ok.boards) c.as_slice.ensures c.in-Ok.ensures.ready in
    gives-after may c.run_boards.result (subst (λ x. Took x (g.K.Sink.taken c.boards_of.new.out) []) c.in-Ok.ensures.unwritten (took-nothing (g.K.Sink.taken c.boards_of.new.out))) c.in-Ok.ensures.later
    (gives-more (RunsClass c.args.class ready.sources c.args.budget) may c.run_boards.result (λ answer h. ready-runs files c.args.budget c.args.class c.in-Ok.boards ready answer h)
    (c.run_boards.ensures ready.sources ready.made))

pub returns-in-Err-clause-answer : goal.returns-in-Err-clause-answer
returns-in-Err-clause-answer g c =
    let files = told_by g.F.Folder.holds g.F.Folder.faults c.args.folder.now c.boards_of.new.folder in
    gives-more (OverBoards files c.args.class.end 0 c.args.class.boards none_to_read) (RunsFile files c.args.budget c.args.class) c.in-Err.ending (λ answer h. not-ready files c.args.budget c.args.class answer h)
    (subst (λ (names : List Names). GivesOneOf g.K.Sink.taken g.K.Sink.faults c.args.out.now c.boards_of.new.out (OverBoards files c.args.class.end 0 names none_to_read) c.in-Err.ending) c.as_slice.ensures c.in-Err.ensures.none)

pub returns-in-Ok-clause-asked : goal.returns-in-Ok-clause-asked
returns-in-Ok-clause-asked g c =
    let asked = g.F.Folder.asked in
    let holds = g.F.Folder.holds in
    let faults = g.F.Folder.faults in
    let old = c.args.folder.now in
    let new = c.boards_of.new.folder in
    let files = told_by holds faults old new in
    let lacking = c.run_boards.result ≡ NoMemory in
    let class = c.args.class in
    let ready : AreReady files class.end class.boards c.in-Ok.boards = subst (λ (names : List Names). AreReady files class.end names c.in-Ok.boards) c.as_slice.ensures c.in-Ok.ensures.ready in (
      names_of_boards class.boards,
      subst (λ (names : List Names). asked new ≡ asked old ++ names_of_boards names) c.as_slice.ensures c.in-Ok.ensures.asked,
      all-read files lacking class.end class.boards ready.sources ready.are,
    )

pub returns-in-Err-clause-asked : goal.returns-in-Err-clause-asked
returns-in-Err-clause-asked g c =
    let asked = g.F.Folder.asked in
    let holds = g.F.Folder.holds in
    let faults = g.F.Folder.faults in
    let old = c.args.folder.now in
    let new = c.boards_of.new.folder in
    let files = told_by holds faults old new in
    let lacking = c.in-Err.ending ≡ NoMemory in
    let class = c.args.class in
    asked-more asked old new (WantsBoards files lacking class.end class.boards wants_never) (WantsBoards files lacking class.end class.boards wants_none)
    (λ names h. boards-more files files lacking lacking (λ file. refl, λ r. r) (λ l. l) class.end class.boards wants_never wants_none names (λ names x. absurd x) h)
    (subst (λ (names : List Names). HasAsked asked old new (WantsBoards files lacking class.end names wants_never)) c.as_slice.ensures c.in-Err.ensures.stopped)
