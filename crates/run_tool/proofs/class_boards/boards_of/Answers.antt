use Rattle.std.proofs.Common.{◌∷◌, ◌≡◌, ◌∙◌, sym, refl, ap, subst, arith, [], take, length, List, ◌++◌}
use Rattle.std.proofs.Math.Seq.{take-length}
use Rattle.tool_io.specs.Putting.{Took}
use Rattle.tool_io.proofs.Laws.{took-nothing}
use Rattle.class_file.specs.declared.class.Names.{Names}
use Rattle.class_file.specs.Within.{AreTexts}
use Rattle.run_tool.specs.ClassBoards.{OverBoard, OverBoards}
use Rattle.run_tool.specs.inner.{none_to_read, AreReady, names_of_boards}
use Rattle.run_tool.proofs.Endings.{gives-more, gives-after, told-on}
use Rattle.run_tool.proofs.ClassRuns.{none-ready, next-ready, next-answered}
use Rattle.run_tool.specs.declared.ending.Ending.TheVariants.{NoMemory}
use Rattle.run_tool.proofs.Wanting.{more-behind, no-more}
use Rattle.run_tool.proofs.WantedReadings.{next-wanted, next-names}
use Rattle.run_tool.proofs.Readings.{first-part, last-part}
use Rattle.run_tool.specs.Files.{told_by}
use Rattle.run_tool.proofs.class_boards.boards_of.Goals as goal

pub add-requires : goal.add-requires
add-requires g c = subst AreTexts (sym c.index-names-at.is) (c.requires.texts c.loop-at.at c.index-names-at.result c.loop-at-test.true)

pub loop-at-init : goal.loop-at-init
loop-at-init g c = (
  none-ready (told_by g.F.Folder.holds g.F.Folder.faults c.args.folder.now c.args.folder.now) c.args.end c.none-boards.result c.none-boards.ensures.images c.none-boards.ensures.scripts,
  refl,
  λ file. refl,
  omega arith,
  omega arith,
  no-more (g.F.Folder.asked c.args.folder.now),
  refl,
)

pub loop-at-preserved : goal.loop-at-preserved
loop-at-preserved g c =
    let i = c.loop-at.invariant in
    let holds = g.F.Folder.holds in
    let faults = g.F.Folder.faults in
    let old = c.args.folder.now in
    let mid = c.loop-at.folder in
    let new = c.add.new.folder in
    let before = told_by holds faults old mid in
    let files = told_by holds faults old new in
    let files_mid = told_by holds faults mid new in
    let was = first-part holds faults old mid new c.add.ensures.folder_later in
    let on = last-part holds faults old mid new i.2 i.3 in (
      next-ready before files_mid files c.args.end was on c.args.names.now c.loop-at.at c.index-names-at.result c.loop-at.boards i.0 c.loop-at-test.true c.index-names-at.is c.add.new.self c.in-Ok.ensures.added,
      c.in-Ok.ensures.unwritten ∙ i.1,
      λ file. c.add.ensures.stays file ∙ i.2 file,
      omega (arith, i.3, c.add.ensures.folder_later),
      omega (arith, i.4, c.add.ensures.later),
      more-behind (g.F.Folder.asked c.args.folder.now) (g.F.Folder.asked c.loop-at.folder) (g.F.Folder.asked c.add.new.folder) (names_of_boards (take c.loop-at.at c.args.names.now))
          (names_of_boards (c.index-names-at.result ∷ [])) i.5 c.in-Ok.ensures.asked ∙ ap (λ x. g.F.Folder.asked c.args.folder.now ++ x) (sym (next-names c.args.names.now c.loop-at.at c.index-names-at.result c.loop-at-test.true c.index-names-at.is)),
      c.in-Ok.ensures.unfailed ∙ i.6,
    )

pub returns-in-Err-clause-none : goal.returns-in-Err-clause-none
returns-in-Err-clause-none g c =
    let i = c.loop-at.invariant in
    let holds = g.F.Folder.holds in
    let faults = g.F.Folder.faults in
    let old = c.args.folder.now in
    let mid = c.loop-at.folder in
    let new = c.add.new.folder in
    let before = told_by holds faults old mid in
    let files = told_by holds faults old new in
    let files_mid = told_by holds faults mid new in
    let was = first-part holds faults old mid new c.add.ensures.folder_later in
    let on = last-part holds faults old mid new i.2 i.3 in
    let may = OverBoards files c.args.end 0 c.args.names.now none_to_read in
    gives-after may c.in-Err.ending (subst (λ x. Took x (g.K.Sink.taken c.loop-at.out) []) i.1 (took-nothing (g.K.Sink.taken c.loop-at.out))) i.4
    (gives-more (OverBoard files_mid c.args.end c.loop-at.at c.index-names-at.result none_to_read) may c.in-Err.ending
    (λ answer h. next-answered before files_mid files c.args.end was on c.args.names.now c.loop-at.at c.index-names-at.result c.loop-at.boards i.0 c.loop-at-test.true c.index-names-at.is answer h) c.in-Err.ensures.none)

pub returns-clause-ready : goal.returns-clause-ready
returns-clause-ready g c =
    let far : c.loop-at.at ≡ length c.args.names.now = omega (arith, c.loop-at-test.false, c.loop-at.auto.at-end) in
    let all : take c.loop-at.at c.args.names.now ≡ c.args.names.now = ap (λ n. take n c.args.names.now) far ∙ take-length c.args.names.now in
    subst (λ (names : List Names). AreReady (told_by g.F.Folder.holds g.F.Folder.faults c.args.folder.now c.loop-at.folder) c.args.end names c.loop-at.boards) all c.loop-at.invariant.0

pub returns-in-Err-clause-stopped : goal.returns-in-Err-clause-stopped
returns-in-Err-clause-stopped g c =
    let asked = g.F.Folder.asked in
    let holds = g.F.Folder.holds in
    let faults = g.F.Folder.faults in
    let old = c.args.folder.now in
    let new = c.add.new.folder in
    let mid = c.loop-at.folder in
    let i = c.loop-at.invariant in
    let done = names_of_boards (take c.loop-at.at c.args.names.now) in
    let h = c.in-Err.ensures.stopped in (
      done ++ h.0,
      more-behind (asked old) (asked mid) (asked new) done h.0 i.5 h.1,
      next-wanted (told_by holds faults old mid) (told_by holds faults mid new) (told_by holds faults old new) c.args.end (first-part holds faults old mid new c.add.ensures.folder_later)
          (last-part holds faults old mid new i.2 i.3) c.args.names.now c.loop-at.at c.index-names-at.result c.loop-at.boards i.0 c.loop-at-test.true c.index-names-at.is (c.in-Err.ending ≡ NoMemory) h.0 h.2,
    )

pub returns-clause-asked : goal.returns-clause-asked
returns-clause-asked g c =
    let asked = g.F.Folder.asked in
    let far : c.loop-at.at ≡ length c.args.names.now = omega (arith, c.loop-at-test.false, c.loop-at.auto.at-end) in
    let all : take c.loop-at.at c.args.names.now ≡ c.args.names.now = ap (λ n. take n c.args.names.now) far ∙ take-length c.args.names.now in
    subst (λ (names : List Names). asked c.loop-at.folder ≡ asked c.args.folder.now ++ names_of_boards names) all c.loop-at.invariant.5

pub returns-in-Err-clause-failure : goal.returns-in-Err-clause-failure
returns-in-Err-clause-failure g c = told-on (g.F.Folder.faults c.args.folder.now) (g.F.Folder.faults c.loop-at.folder) (g.F.Folder.faults c.add.new.folder) c.in-Err.ending c.loop-at.invariant.6 c.in-Err.ensures.failure

pub returns-clause-unfailed : goal.returns-clause-unfailed
returns-clause-unfailed g c = c.loop-at.invariant.6
