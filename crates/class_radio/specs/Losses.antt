-- What is lost between the boards of a class.
use Rattle.std.specs.Prelude.{ℕ, Bool, false, ◌&&◌, ◌||◌, ◌==◌, List, [], ◌∷◌}
use Rattle.class_file.specs.declared.class.Loss.{Loss}

-- whether what board i sends at a moment is lost for board j, by a list of losses; one of a board that isn't there loses nothing
abbrev pub lost_by : List Loss → (at i j : ℕ) → Bool
lost_by [] at i j = false
lost_by (l ∷ ls) at i j = ((l.at == at) && ((l.from == i) && (l.to == j))) || lost_by ls at i j
