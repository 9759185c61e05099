use Rattle.std.proofs.Common.{◌≡◌, ◌≤◌, ◌++◌, ℕ, List, take}
use Rattle.run_tool.specs.inner.{AreReady, names_of_boards}
use Rattle.run_tool.proofs.class_boards.boards_of.Given as goal
use Rattle.run_tool.specs.Files.{told_by}

-- those before are ready, nothing was written, the folder tells what it told, it was asked for the files of those before, and hasn't failed
abbrev pub invariant-loop-at : goal.invariant-loop-at
invariant-loop-at g l =
    AreReady (told_by g.F.Folder.holds g.F.Folder.faults l.fn.folder l.folder) l.end (take l.at l.names) l.boards
    × (g.K.Sink.taken l.out ≡ g.K.Sink.taken l.fn.out) × ((file : List ℕ) → g.F.Folder.holds l.folder file ≡ g.F.Folder.holds l.fn.folder file)
    × (g.F.Folder.faults l.fn.folder ≤ g.F.Folder.faults l.folder) × (g.K.Sink.faults l.fn.out ≤ g.K.Sink.faults l.out)
    × (g.F.Folder.asked l.folder ≡ g.F.Folder.asked l.fn.folder ++ names_of_boards (take l.at l.names))
    × (g.F.Folder.faults l.folder ≡ g.F.Folder.faults l.fn.folder)
