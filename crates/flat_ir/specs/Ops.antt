-- What an op reads, writes and names, and where it goes on.
use Rattle.std.specs.Prelude.{ℕ, suc, Option, Some, None, List, [], ◌∷◌}
use Rattle.flat_ir.specs.declared.ops.Op.{Op}
use Rattle.flat_ir.specs.declared.ops.Op.TheVariants.{Const, Copy, Unary, Binary, GlobalGet, GlobalSet, FieldGet, FieldSet, ItemGet, ItemSet, Length, Pop, TextOf, MakeObject, MakeArray, Call, CallSlot, HandlerOf, Ask, Jump, Branch, Return}

-- the temporaries that an op reads
abbrev pub reads : Op → List ℕ
reads (Copy to from) = from ∷ []
reads (Unary to op from) = from ∷ []
reads (Binary to op left right) = left ∷ right ∷ []
reads (GlobalSet slot from) = from ∷ []
reads (FieldGet to object field) = object ∷ []
reads (FieldSet object field from) = object ∷ from ∷ []
reads (ItemGet to array index) = array ∷ index ∷ []
reads (ItemSet array index from) = array ∷ index ∷ from ∷ []
reads (Length to array) = array ∷ []
reads (Pop to array) = array ∷ []
reads (Call to function args) = args
reads (CallSlot to slot args) = args
reads (Ask to service args) = args
reads (Branch when target) = when ∷ []
reads (Return from) = from ∷ []
reads _ = []

-- the temporary that it writes
abbrev pub writes : Op → Option ℕ
writes (Const to value) = Some to
writes (Copy to from) = Some to
writes (Unary to op from) = Some to
writes (Binary to op left right) = Some to
writes (GlobalGet to slot) = Some to
writes (FieldGet to object field) = Some to
writes (ItemGet to array index) = Some to
writes (Length to array) = Some to
writes (Pop to array) = Some to
writes (TextOf to text) = Some to
writes (MakeObject to class) = Some to
writes (MakeArray to room) = Some to
writes (Call to function args) = Some to
writes (CallSlot to slot args) = Some to
writes (HandlerOf to function) = Some to
writes (Ask to service args) = Some to
writes _ = None

-- where a jump or a branch may go
abbrev pub target_of : Op → Option ℕ
target_of (Jump target) = Some target
target_of (Branch when target) = Some target
target_of op = None

-- the places at which a run of the function may go on behind an op at a place
abbrev pub goes_on : ℕ → Op → List ℕ
goes_on at (Jump target) = target ∷ []
goes_on at (Branch when target) = target ∷ suc at ∷ []
goes_on at (Return from) = []
goes_on at op = suc at ∷ []
