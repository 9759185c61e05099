-- Activities of flat code.
use Rattle.std.specs.Prelude.{ℕ, ◌+◌, List, [], ◌∷◌, Option, Some, None, get_or}
use Rattle.flat_ir.specs.declared.ops.Op.{Op}
use Rattle.flat_ir.specs.declared.ops.Op.TheVariants.{Call, CallSlot}
use Rattle.flat_ir.specs.declared.ops.Function.{Function}
use Rattle.flat_ir.specs.declared.ops.FlatCode.{FlatCode}
use Rattle.sts_syntax.specs.TypeRules.{entry}
use Rattle.sts_meaning.specs.Values.{Value, Outcome, Gives, Stuck, with_entry, default}

-- a frame: a function, a place in its ops, and the values of the temporaries. A frame that waits stands at its call.
pub record FlatFrame : Type 0 where
  pub function : ℕ
  pub place : ℕ
  pub temps : ℕ → Value

-- An activity begins with the call of its function, at a depth in words. Then it is the frame that runs, those that wait for it, the
-- latest caller first, and the depth at which it began.
pub data FlatActivity : Type 0 where
  Enters : (function base : ℕ) → FlatActivity
  Stands : (frame : FlatFrame) (callers : List FlatFrame) (base : ℕ) → FlatActivity

-- the words of a function's frame
abbrev pub function_words : Function → ℕ
function_words f = 5 + f.locals + f.operands + f.outgoing

abbrev pub words_of : Option Function → ℕ
words_of None = 0
words_of (Some f) = function_words f

abbrev pub op_of : Option Function → ℕ → Option Op
op_of None place = None
op_of (Some f) place = entry f.ops place

-- a frame as it begins: the arguments are the first temporaries, and all others are 0
abbrev pub entered : ℕ → List Value → FlatFrame
entered f args = record { function = f; place = 0; temps = λ i. get_or args i default }

-- a frame that goes on at a place; and behind its op, with a value in a temporary
abbrev pub going_on_at : ℕ → FlatFrame → FlatFrame
going_on_at place f = record { function = f.function; place = place; temps = f.temps }

abbrev pub given : ℕ → Value → FlatFrame → FlatFrame
given to v f = record { function = f.function; place = f.place + 1; temps = with_entry to v f.temps }

-- the temporary that waits for a call's value
abbrev pub result_of : Option Op → Outcome ℕ
result_of (Some (Call to function args)) = Gives to
result_of (Some (CallSlot to slot args)) = Gives to
result_of _ = Stuck

module _ (C : FlatCode) where
  abbrev pub words : ℕ → ℕ
  words f = words_of (entry C.functions f)

  -- the op at which a frame stands
  abbrev pub op_at : FlatFrame → Option Op
  op_at f = op_of (entry C.functions f.function) f.place

  -- the words of some frames
  abbrev pub depth_of : List FlatFrame → ℕ
  depth_of [] = 0
  depth_of (f ∷ fs) = words f.function + depth_of fs
