-- What ops name: what they load the address of, and which functions they call.
use Rattle.std.specs.Prelude.{◌≡◌, ℕ, ◌⊎◌, List, [], ◌∷◌, ◌++◌, Contains}
use Rattle.thumb_layout.specs.declared.pieces.What.{What}
use Rattle.thumb_layout.specs.declared.pieces.What.TheVariants.{Function, Text, Class}
use Rattle.flat_ir.specs.declared.ops.Op.{Op}
use Rattle.flat_ir.specs.declared.ops.Op.TheVariants.{TextOf, MakeObject, Call, HandlerOf}
use Rattle.thumb_emit.specs.Emit.{division}

-- the text, class or function whose address an op loads; and those of some ops, in their order
abbrev pub name_of : Op → List What
name_of (TextOf to text) = Text text ∷ []
name_of (MakeObject to class) = Class class ∷ []
name_of (HandlerOf to function) = Function function ∷ []
name_of op = []

abbrev pub names_of : List Op → List What
names_of [] = []
names_of (op ∷ ops) = name_of op ++ names_of ops

-- the function that an op calls, and those that some ops call
abbrev pub call_of : Op → List ℕ
call_of (Call to function args) = function ∷ []
call_of op = []

abbrev pub calls_of : List Op → List ℕ
calls_of [] = []
calls_of (op ∷ ops) = call_of op ++ calls_of ops

-- what the pieces of ops call: the division routine, or a function that the ops call
abbrev pub IsCalledBy : List Op → What → Type 0
IsCalledBy ops (Function f) = (f ≡ division) ⊎ Contains (calls_of ops) f
IsCalledBy ops _ = ⊥
