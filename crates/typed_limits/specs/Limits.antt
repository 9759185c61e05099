-- The counted limits of a typed program, as a test.
use Rattle.std.specs.Prelude.{ℕ, Bool, ◌&&◌, List, length, nat_le}
use Rattle.std.specs.List.{list_all}
use Rattle.sts_syntax.specs.TypedTrees.{TypedRoutine, ClassEntry, TypedProgram}
use Rattle.sts_syntax.specs.Measures.{pending_words}
use Rattle.sts_syntax.specs.Weights.{weight}
use Rattle.sts_syntax.specs.Nodes.{text_bytes, text_weight}

-- parameters with `this`, locals, pending values and weight of a function
abbrev pub routine_fits : TypedRoutine → Bool
routine_fits r =
    nat_le (length r.params) 8 && nat_le (length r.locals) 64 && nat_le (pending_words r) 64 && nat_le (weight r) 1200

-- fields and slots of a class, inherited ones included
abbrev pub class_fits : ClassEntry → Bool
class_fits class = nat_le (length class.fields) 30 && nat_le (length class.slots) 30

abbrev pub program_fits : List (List ℕ) → TypedProgram → Bool
program_fits texts p =
    nat_le (length p.globals) 256 && nat_le (length p.classes) 64 && list_all class_fits p.classes
    && list_all routine_fits p.functions
    && nat_le (text_weight p) 3600 && nat_le (text_bytes texts p) 16384
