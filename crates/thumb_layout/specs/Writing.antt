-- The cells that the code writes at a step, from the entries that wait.
use Rattle.std.specs.Prelude.{ℕ, ◌+◌, List, [], ◌∷◌, ◌++◌, ◌==◌, if◌then◌else◌}
use Rattle.thumb_code.specs.declared.instructions.Instr.TheVariants.{B}
use Rattle.thumb_layout.specs.declared.pieces.Entry.{Entry}
use Rattle.thumb_layout.specs.Cells.{Cell, Ins, Word, gap, offset}

-- The words of a pool.
abbrev pub entry_words : List Entry → List Cell
entry_words [] = []
entry_words (e ∷ es) = Word e ∷ entry_words es

-- The pool at an address.
abbrev pub entry_pool : ℕ → List Entry → List Cell
entry_pool at [] = []
entry_pool at (e ∷ es) = gap at ++ entry_words (e ∷ es)

abbrev pub pools_in : List Entry → ℕ
pools_in [] = 0
pools_in (e ∷ es) = 1

-- From an address to where a piece stands: nothing, or a branch and a pool.
abbrev pub entered_cells : ℕ → ℕ → List Entry → List Cell
entered_cells at body es = if at == body then [] else Ins (B (offset at body)) ∷ entry_pool (at + 2) es
