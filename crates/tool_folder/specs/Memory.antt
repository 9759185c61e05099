-- The folder in memory.
use Rattle.std.specs.Prelude.{ℕ, List, Option}
use Rattle.std.specs.Option.{option_map}
use Rattle.std.specs.declared.string.String.{String}
use Rattle.std.specs.declared.vec.Vec.{Vec}
use Rattle.std.specs.declared.alloc.Global.{Global}
use Rattle.std.specs.BTreeMap.{BTreeMap, get_by_text}

-- the bytes of the file of that name
abbrev pub bytes_named : BTreeMap (String Global) (Vec ℕ Global) → List ℕ → Option (List ℕ)
bytes_named files name = option_map (λ bytes. bytes.items) (get_by_text files name)
