use Rattle.std.proofs.Common.{◌≡◌, ◌≤◌, ◌∙◌, refl, sym, subst, rules, arith, [], ◌++◌, ◌∷◌, List, ℕ, inr, inl}
use Rattle.std.specs.Prelude.{Some, Ok}
use Rattle.event_script.specs.Verdict.{Tells}
use Rattle.run_tool.specs.Built.{Builds}
use Rattle.tool_io.specs.Putting.{Took}
use Rattle.tool_io.proofs.Laws.{took-nothing}
use Rattle.run_tool.specs.Files.{AnswersFile, told_by}
use Rattle.run_tool.specs.inner.{GivesOneOf, none_to_read, HasText, IsScriptOf, wants_never}
use Rattle.run_tool.specs.ClassBoards.{OverBoardProgram, OverBoardScript, OverBoard, board_scripts}
use Rattle.run_tool.proofs.Endings.{if-err, gives-more, gives-after, told-on}
use Rattle.run_tool.proofs.ClassAnswers.{on-oks, image-onwards, board-refused, script-answered}
use Rattle.run_tool.specs.declared.ending.Ending.TheVariants.{NoMemory}
use Rattle.run_tool.specs.Wanted.{HasAsked, Onwards, WantsFile}
use Rattle.run_tool.proofs.Wanting.{asked-more, more-behind, on-ok-all, read-more}
use Rattle.run_tool.proofs.WantedReadings.{script-asked}
use Rattle.run_tool.proofs.Readings.{first-part, last-part, text-kept}
use Rattle.run_tool.specs.Programs.{programs}
use Rattle.run_tool.proofs.class_boards.Boards.add.Goals as goal

pub returns-in-Ok-script_of-clause-added : goal.returns-in-Ok-script_of-clause-added
returns-in-Ok-script_of-clause-added g c =
    let holds = g.F.Folder.holds in
    let faults = g.F.Folder.faults in
    let old = c.args.folder.now in
    let mid = c.image_of.new.folder in
    let new = c.script_of.new.folder in
    let before = told_by holds faults old mid in
    let files = told_by holds faults old new in
    let files_mid = told_by holds faults mid new in
    let was = first-part holds faults old mid new c.script_of.ensures.folder_later in
    let on = last-part holds faults old mid new c.in-Ok.ensures.stays c.in-Ok.ensures.folder_later in
    let names = c.args.names.now in
    let until = c.args.board.end in
    let program : c.name_text-program.result.now ≡ names.program = c.name_text-program.ensures ∙ c.as_slice.ensures in
    let script : c.name_text-script.result.now ≡ names.script = c.name_text-script.ensures ∙ c.as_slice-2.ensures in
    let image = subst (λ n. HasText before n (λ text. Builds text c.in-Ok.image.items)) program c.in-Ok.ensures.image in
    let read = subst (λ n. IsScriptOf files_mid (Some n) c.in-Ok-script_of.read) script c.in-Ok-script_of.ensures.script in
    on-oks c.push.result (λ images scripts. record {
      image = c.in-Ok.image;
      script = c.in-Ok-script_of.read;
      built = image-onwards before files was names.program c.in-Ok.image.items image;
      flashed = record { fits = image.2.room; bytes = c.push.ensures.bytes };
      read = text-kept files_mid files on names.script (λ text. Tells text (Ok c.in-Ok-script_of.read)) read;
      sound = c.in-Ok-script_of.ensures.sound;
      ends = c.in-Ok-script_of.ensures.ends;
      images = images;
      scripts = scripts;
    }) c.push.ensures.images c.push.ensures.scripts

pub returns-in-Ok-script_of-clause-unwritten : goal.returns-in-Ok-script_of-clause-unwritten
returns-in-Ok-script_of-clause-unwritten g c = on-ok-all c.push.result (c.in-Ok-script_of.ensures.unwritten ∙ c.in-Ok.ensures.unwritten)

pub returns-in-Ok-script_of-clause-none : goal.returns-in-Ok-script_of-clause-none
returns-in-Ok-script_of-clause-none g c =
    let files = told_by g.F.Folder.holds g.F.Folder.faults c.args.folder.now c.script_of.new.folder in
    let taken = g.K.Sink.taken c.script_of.new.out in
    let may = OverBoard files c.args.board.end c.args.board.number c.args.names.now none_to_read in
    if-err c.push.result
    (λ ending e. subst (λ x. GivesOneOf g.K.Sink.taken g.K.Sink.faults c.args.out.now c.script_of.new.out may x) (sym e)
    (record {
      ends = subst (λ x. Took x taken []) (c.in-Ok-script_of.ensures.unwritten ∙ c.in-Ok.ensures.unwritten) (took-nothing taken);
      later = omega (arith, c.in-Ok.ensures.later, c.in-Ok-script_of.ensures.later);
      cut = λ i. absurd (cc);
    })) c.push.ensures.memory

pub returns-in-Err-script_of-clause-none : goal.returns-in-Err-script_of-clause-none
returns-in-Err-script_of-clause-none g c =
    let holds = g.F.Folder.holds in
    let faults = g.F.Folder.faults in
    let old = c.args.folder.now in
    let mid = c.image_of.new.folder in
    let new = c.script_of.new.folder in
    let before = told_by holds faults old mid in
    let files = told_by holds faults old new in
    let files_mid = told_by holds faults mid new in
    let was = first-part holds faults old mid new c.script_of.ensures.folder_later in
    let on = last-part holds faults old mid new c.in-Ok.ensures.stays c.in-Ok.ensures.folder_later in
    let names = c.args.names.now in
    let board = c.args.board in
    let program : c.name_text-program.result.now ≡ names.program = c.name_text-program.ensures ∙ c.as_slice.ensures in
    let script : c.name_text-script.result.now ≡ names.script = c.name_text-script.ensures ∙ c.as_slice-2.ensures in
    let image = subst (λ n. HasText before n (λ text. Builds text c.in-Ok.image.items)) program c.in-Ok.ensures.image in
    let may = OverBoard files board.end board.number names none_to_read in
    gives-after may c.in-Err-script_of.ending
    (subst (λ x. Took x (g.K.Sink.taken c.image_of.new.out) []) c.in-Ok.ensures.unwritten (took-nothing (g.K.Sink.taken c.image_of.new.out))) c.in-Ok.ensures.later
    (gives-more (OverBoardScript files_mid board.end board.number c.name_text-script.result.now none_to_read) may c.in-Err-script_of.ending
    (λ answer x. script-answered before files_mid files board.end on board.number names c.in-Ok.image.items image was answer
    (subst (λ n. OverBoardScript files_mid board.end board.number n none_to_read answer) script x)) c.in-Err-script_of.ensures.none)

pub returns-in-Err-clause-none : goal.returns-in-Err-clause-none
returns-in-Err-clause-none g c =
    let files = told_by g.F.Folder.holds g.F.Folder.faults c.args.folder.now c.image_of.new.folder in
    let names = c.args.names.now in
    let board = c.args.board in
    let program : c.name_text-program.result.now ≡ names.program = c.name_text-program.ensures ∙ c.as_slice.ensures in
    gives-more (AnswersFile files c.name_text-program.result.now (OverBoardProgram board.number (λ tables. none_to_read))) (OverBoard files board.end board.number names none_to_read) c.in-Err.ending
    (λ answer h. board-refused files board.end board.number names answer (subst (λ n. AnswersFile files n (OverBoardProgram board.number (λ tables. none_to_read)) answer) program h)) c.in-Err.ensures.none

pub returns-in-Ok-script_of-clause-asked : goal.returns-in-Ok-script_of-clause-asked
returns-in-Ok-script_of-clause-asked g c =
    let asked = g.F.Folder.asked in
    let old = c.args.folder.now in
    let mid = c.image_of.new.folder in
    let new = c.script_of.new.folder in
    let names = c.args.names.now in
    let program : c.name_text-program.result.now ≡ names.program = c.name_text-program.ensures ∙ c.as_slice.ensures in
    let script : c.name_text-script.result.now ≡ names.script = c.name_text-script.ensures ∙ c.as_slice-2.ensures in
    on-ok-all c.push.result (more-behind (asked old) (asked mid) (asked new) (names.program ∷ []) (names.script ∷ [])
    (subst (λ (n : List ℕ). asked mid ≡ asked old ++ n ∷ []) program c.in-Ok.ensures.asked) (subst (λ (n : List ℕ). asked new ≡ asked mid ++ n ∷ []) script c.in-Ok-script_of.ensures.asked))

pub returns-in-Ok-script_of-clause-stopped : goal.returns-in-Ok-script_of-clause-stopped
returns-in-Ok-script_of-clause-stopped g c =
    let asked = g.F.Folder.asked in
    let holds = g.F.Folder.holds in
    let faults = g.F.Folder.faults in
    let old = c.args.folder.now in
    let mid = c.image_of.new.folder in
    let new = c.script_of.new.folder in
    let before = told_by holds faults old mid in
    let files = told_by holds faults old new in
    let files_mid = told_by holds faults mid new in
    let was = first-part holds faults old mid new c.script_of.ensures.folder_later in
    let on = last-part holds faults old mid new c.in-Ok.ensures.stays c.in-Ok.ensures.folder_later in
    let names = c.args.names.now in
    let program : c.name_text-program.result.now ≡ names.program = c.name_text-program.ensures ∙ c.as_slice.ensures in
    let script : c.name_text-script.result.now ≡ names.script = c.name_text-script.ensures ∙ c.as_slice-2.ensures in
    let image = image-onwards before files was names.program c.in-Ok.image.items (subst (λ n. HasText before n (λ text. Builds text c.in-Ok.image.items)) program c.in-Ok.ensures.image) in
    if-err c.push.result
    (λ ending e. script-asked asked old mid new files_mid files on (ending ≡ NoMemory) c.args.board.end names c.in-Ok.image.items image
    (subst (λ (n : List ℕ). asked mid ≡ asked old ++ n ∷ []) program c.in-Ok.ensures.asked)
    (names.script ∷ [], subst (λ (n : List ℕ). asked new ≡ asked mid ++ n ∷ []) script c.in-Ok-script_of.ensures.asked, (refl, inr (e, refl)))) c.push.ensures.memory

pub returns-in-Err-script_of-clause-stopped : goal.returns-in-Err-script_of-clause-stopped
returns-in-Err-script_of-clause-stopped g c =
    let asked = g.F.Folder.asked in
    let holds = g.F.Folder.holds in
    let faults = g.F.Folder.faults in
    let old = c.args.folder.now in
    let mid = c.image_of.new.folder in
    let new = c.script_of.new.folder in
    let before = told_by holds faults old mid in
    let files = told_by holds faults old new in
    let files_mid = told_by holds faults mid new in
    let was = first-part holds faults old mid new c.script_of.ensures.folder_later in
    let on = last-part holds faults old mid new c.in-Ok.ensures.stays c.in-Ok.ensures.folder_later in
    let names = c.args.names.now in
    let until = c.args.board.end in
    let lacking = c.in-Err-script_of.ending ≡ NoMemory in
    let program : c.name_text-program.result.now ≡ names.program = c.name_text-program.ensures ∙ c.as_slice.ensures in
    let script : c.name_text-script.result.now ≡ names.script = c.name_text-script.ensures ∙ c.as_slice-2.ensures in
    let image = image-onwards before files was names.program c.in-Ok.image.items (subst (λ n. HasText before n (λ text. Builds text c.in-Ok.image.items)) program c.in-Ok.ensures.image) in
    script-asked asked old mid new files_mid files on lacking until names c.in-Ok.image.items image
    (subst (λ (n : List ℕ). asked mid ≡ asked old ++ n ∷ []) program c.in-Ok.ensures.asked)
    (subst (λ (n : List ℕ). HasAsked asked mid new (WantsFile files_mid lacking n (Onwards (board_scripts until) (λ script. wants_never)))) script c.in-Err-script_of.ensures.stopped)

pub returns-in-Err-clause-stopped : goal.returns-in-Err-clause-stopped
returns-in-Err-clause-stopped g c =
    let asked = g.F.Folder.asked in
    let old = c.args.folder.now in
    let new = c.image_of.new.folder in
    let files = told_by g.F.Folder.holds g.F.Folder.faults old new in
    let lacking = c.in-Err.ending ≡ NoMemory in
    let names = c.args.names.now in
    let program : c.name_text-program.result.now ≡ names.program = c.name_text-program.ensures ∙ c.as_slice.ensures in
    let never = Onwards programs (λ read. wants_never) in
    let next = WantsFile files lacking names.script (Onwards (board_scripts c.args.board.end) (λ script. wants_never)) in
    asked-more asked old new (WantsFile files lacking names.program never) (WantsFile files lacking names.program (Onwards programs (λ read. next)))
    (λ more h. read-more files files lacking lacking (λ file. refl, λ r. r) (λ l. l) programs names.program (λ read. wants_never) (λ read. next) more (λ read names x. absurd x) h)
    (subst (λ (n : List ℕ). HasAsked asked old new (WantsFile files lacking n never)) program c.in-Err.ensures.stopped)

pub returns-in-Err-script_of-clause-failure : goal.returns-in-Err-script_of-clause-failure
returns-in-Err-script_of-clause-failure g c = told-on (g.F.Folder.faults c.args.folder.now) (g.F.Folder.faults c.image_of.new.folder) (g.F.Folder.faults c.script_of.new.folder) c.in-Err-script_of.ending c.in-Ok.ensures.unfailed c.in-Err-script_of.ensures.failure

pub returns-in-Ok-script_of-clause-unfailed : goal.returns-in-Ok-script_of-clause-unfailed
returns-in-Ok-script_of-clause-unfailed g c = on-ok-all c.push.result (c.in-Ok-script_of.ensures.unfailed ∙ c.in-Ok.ensures.unfailed)

pub returns-in-Ok-script_of-clause-failure : goal.returns-in-Ok-script_of-clause-failure
returns-in-Ok-script_of-clause-failure g c =
    if-err c.push.result (λ ending e. inl (c.in-Ok-script_of.ensures.unfailed ∙ c.in-Ok.ensures.unfailed)) c.push.ensures.memory
