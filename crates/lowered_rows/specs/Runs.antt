-- What flat code of programs writes.
use Rattle.std.specs.Prelude.{ℕ, List, [], ◌++◌, length}
use Rattle.board_world.specs.Observations.{ByteList}
use Rattle.board_world.specs.Board.{Board, Entry, transcript_of, stats_of}
use Rattle.sts_syntax.specs.TypedTrees.{TypedProgram}
use Rattle.flat_meaning.specs.Steps.{flat_run}
use Rattle.sts_lower.specs.Lowered.{lowered}

-- the board after n ops of a program's flat code
abbrev pub after_ops : ℕ → TypedProgram → List ByteList → ℕ → List Entry → Board
after_ops n P texts until script = (flat_run (lowered P) texts (length P.globals) until script n).board

-- what is written in n ops; the script has no entry and ends at 1000 ms
abbrev pub flat_written : ℕ → TypedProgram → ByteList
flat_written n P = transcript_of (after_ops n P [] 1000 [])

-- the same on a script
abbrev pub flat_written_on : ℕ → TypedProgram → ℕ → List Entry → ByteList
flat_written_on n P until script = transcript_of (after_ops n P [] until script)

-- the same on an empty script that ends earlier
abbrev pub flat_written_until : ℕ → TypedProgram → ℕ → ByteList
flat_written_until n P until = transcript_of (after_ops n P [] until [])

-- and the line of statistics behind it
abbrev pub flat_counted : ℕ → TypedProgram → ByteList
flat_counted n P = (let end = after_ops n P [] 1000 [] in transcript_of end ++ stats_of end)

-- of a program with these texts
abbrev pub flat_written_with : ℕ → List ByteList → TypedProgram → ByteList
flat_written_with n texts P = transcript_of (after_ops n P texts 1000 [])
