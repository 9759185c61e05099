-- What ops take of the bytes that a unit of weight allows.
use Rattle.std.specs.Prelude.{ℕ, ◌+◌, ◌*◌}
use Rattle.flat_ir.specs.declared.ops.Op.{Op}
use Rattle.flat_ir.specs.declared.ops.Op.TheVariants.{TextOf}
use Rattle.thumb_emit.specs.Bounds.{op_bytes, bytes_of_text}

-- what an item of an array leaves of the bytes of a unit for the op by which it goes into the array
abbrev pub bytes_of_room : ℕ
bytes_of_room = 10

-- how many texts an op names
abbrev pub texts_named : Op → ℕ
texts_named (TextOf to text) = 1
texts_named op = 0

-- what an op takes at most, with what its text takes
abbrev pub full_bytes : Op → ℕ
full_bytes op = op_bytes op + bytes_of_text * texts_named op
