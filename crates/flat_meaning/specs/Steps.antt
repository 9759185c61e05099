-- The step of an activity of flat code, and flat code as a kind of activity.
use Rattle.std.specs.Prelude.{ℕ, zero, suc, ◌+◌, Bool, if◌then◌else◌, nat_lt, ◌==◌, List, [], ◌∷◌, map, Option, Some, None, get_or}
use Rattle.board_services.specs.declared.numbers.TheConstants.{PUSH}
use Rattle.board_world.specs.Limits.{depth_limit}
use Rattle.board_world.specs.Panics.{depth_panic}
use Rattle.board_world.specs.Observations.{ByteList}
use Rattle.board_world.specs.Board.{Entry}
use Rattle.board_world.specs.Font.{glyph_of}
use Rattle.board_world.specs.Kinds.{Kind, Turn, Goes, Takes, Ends, Panics}
use Rattle.board_world.specs.Requests.{Asker, asked}
use Rattle.board_world.specs.Activities.{World}
use Rattle.board_world.specs.World.{start}
use Rattle.board_world.specs.Runs.{run}
use Rattle.flat_ir.specs.declared.ops.Op.{Op}
use Rattle.flat_ir.specs.declared.ops.Op.TheVariants.{Const, Copy, Unary, Binary, GlobalGet, GlobalSet, FieldGet, FieldSet, ItemGet, ItemSet, Length, Pop, TextOf, MakeObject, MakeArray, Call, CallSlot, HandlerOf, Ask, Jump, Branch, Return}
use Rattle.flat_ir.specs.declared.ops.FlatCode.{FlatCode}
use Rattle.sts_syntax.specs.Measures.{array_words}
use Rattle.sts_syntax.specs.TypeRules.{entry}
use Rattle.sts_meaning.specs.Values.{Value, Whole, Object, Text, Code, default, Outcome, then_gives, there, applied, decided}
use Rattle.sts_meaning.specs.Heaps.{FlatHeap, Fields, Items, with_cell, write_global, object_at, read_field, write_field, read_item, write_item, length_at, pushed, popped}
use Rattle.sts_meaning.specs.Services.{requested}
use Rattle.sts_meaning.specs.Frames.{stuck, after, grown, answered}
use Rattle.flat_meaning.specs.Operators.{prefixed_by, answers, zeros, exactly}
use Rattle.flat_meaning.specs.Frames.{FlatFrame, FlatActivity, Enters, Stands, entered, going_on_at, given, result_of, words, op_at, depth_of}

-- the turn of an activity over flat code's heap
abbrev pub FlatTurn : Type 0
FlatTurn = Turn FlatActivity FlatHeap

-- with exactly two values
abbrev pub with_pair : List Value → (Value → Value → FlatTurn) → FlatTurn
with_pair (a ∷ (b ∷ [])) go = go a b
with_pair _ go = stuck

-- An activity of flat code with these texts.
module _ (C : FlatCode) (texts : List ByteList) where
  -- where an activity began, and the frames that wait for a call
  module _ (h : FlatHeap) (base : ℕ) (waiting : List FlatFrame) where
    -- a frame begins above those that wait for it; past the greatest depth it is a panic
    abbrev pub entering : FlatFrame → FlatTurn
    entering frame =
        if nat_lt depth_limit (base + depth_of C waiting + words C frame.function) then Panics depth_panic
        else Goes (Stands frame waiting base) h

    -- a call, with as many arguments as the function has parameters
    abbrev pub called : ℕ → List Value → FlatTurn
    called f args =
        after (there (entry C.functions f)) (λ r. after (exactly r.params args) (λ _. entering (entered f args)))

    -- the end of a function: its value goes to the frame that waits for it; behind the last one the activity ends
    abbrev pub ended : Value → List FlatFrame → FlatTurn
    ended v [] = Ends (λ g. Enters g base) h
    ended v (f ∷ fs) = after (result_of (op_at C f)) (λ to. Goes (Stands (given to v f) fs base) h)

  -- a frame that stands at an op, those that wait for it, and the depth at which the activity began
  module _ (h : FlatHeap) (f : FlatFrame) (callers : List FlatFrame) (base : ℕ) where
    -- it goes on behind its op with a value in a temporary; and at a place
    abbrev pub gives : ℕ → Value → FlatActivity
    gives to v = Stands (given to v f) callers base

    abbrev pub goes_to : ℕ → FlatActivity
    goes_to place = Stands (going_on_at place f) callers base

    -- an op that gives what an operation gives; and one that changes the heap
    abbrev pub puts : ℕ → Outcome Value → FlatTurn
    puts to o = after o (λ v. Goes (gives to v) h)

    abbrev pub changes : Outcome FlatHeap → FlatTurn
    changes o = after o (λ h'. Goes (goes_to (f.place + 1)) h')

    -- an object is a word for its class, and its fields
    abbrev pub makes : ℕ → ℕ → ℕ → FlatTurn
    makes to class zero = stuck
    makes to class (suc n) = Takes (suc n) (λ at. (gives to (Object at), with_cell at (Fields class (zeros n)) h))

    abbrev pub flat_asker : ℕ → Bool → Asker FlatActivity FlatHeap
    flat_asker to answers = record {
      text = λ n. get_or texts n [];
      glyph = glyph_of;
      push = λ array value. stuck;
      above = λ g. Enters g (base + depth_of C (f ∷ callers));
      again = λ g. Enters g base;
      next = λ answer. (gives to (answered answers answer), h);
    }

    -- service 19 puts a value behind the items of an array; each other asks the world
    abbrev pub asks : ℕ → ℕ → List Value → FlatTurn
    asks to service args =
        if service == PUSH then with_pair args (λ a v. after (pushed h a v) (λ x. grown x.0 x.1 (gives to default)))
        else after (requested service args) (λ r. asked (flat_asker to (answers service)) r)

    -- the function in a slot of the first argument's class
    abbrev pub slot_function : ℕ → List Value → Outcome ℕ
    slot_function slot args =
        then_gives (there (entry args 0)) (λ o. then_gives (object_at h o)
        (λ c. then_gives (there (entry C.classes c.0)) (λ class. there (entry class.slots slot))))

    -- one op
    abbrev pub act : Op → FlatTurn
    act (Const to value) = Goes (gives to (Whole value)) h
    act (Copy to from) = Goes (gives to (f.temps from)) h
    act (Unary to op from) = puts to (prefixed_by op (f.temps from))
    act (Binary to op left right) = puts to (applied op (f.temps left) (f.temps right))
    act (GlobalGet to slot) = puts to (there (entry h.globals slot))
    act (GlobalSet slot from) = changes (write_global h slot (f.temps from))
    act (FieldGet to object field) = puts to (read_field h (f.temps object) field)
    act (FieldSet object field from) = changes (write_field h (f.temps object) field (f.temps from))
    act (ItemGet to array index) = puts to (read_item h (f.temps array) (f.temps index))
    act (ItemSet array index from) = changes (write_item h (f.temps array) (f.temps index) (f.temps from))
    act (Length to array) = puts to (length_at h (f.temps array))
    act (Pop to array) = after (popped h (f.temps array)) (λ x. Goes (gives to x.0) x.1)
    act (TextOf to text) = Goes (gives to (Text text)) h
    act (MakeObject to class) = after (there (entry C.classes class)) (λ c. makes to class c.words)
    act (MakeArray to room) = Takes (array_words room) (λ at. (gives to (Object at), with_cell at (Items tt room []) h))
    act (Call to function args) = called h base (f ∷ callers) function (map f.temps args)
    act (CallSlot to slot args) =
        after (slot_function slot (map f.temps args)) (λ g. called h base (f ∷ callers) g (map f.temps args))
    act (HandlerOf to function) = Goes (gives to (Code function)) h
    act (Ask to service args) = asks to service (map f.temps args)
    act (Jump target) = Goes (goes_to target) h
    act (Branch when target) =
        after (decided (f.temps when)) (λ b. Goes (goes_to (if b then target else f.place + 1)) h)
    act (Return from) = ended h base callers (f.temps from) callers

    abbrev pub act_at : Option Op → FlatTurn
    act_at None = stuck
    act_at (Some op) = act op

  abbrev pub step : FlatActivity → FlatHeap → FlatTurn
  step (Enters f base) h = called h base [] f []
  step (Stands f callers base) h = act_at h f callers base (op_at C f)

  -- the depth of an activity, less that at which it began
  abbrev pub depth : FlatActivity → ℕ
  depth (Enters f base) = 0
  depth (Stands f callers base) = depth_of C (f ∷ callers)

  -- flat code as a kind of activity
  abbrev pub flat : Kind FlatActivity FlatHeap
  flat = record { begin = λ f. Enters f 0; step = step; depth = depth }

  -- what is shared as a run begins: so many globals, each 0, and no objects and arrays
  abbrev pub flat_empty : ℕ → FlatHeap
  flat_empty globals = record { globals = zeros globals; cells = λ n. None }

  -- the world after n ops, or its end
  abbrev pub flat_run : (globals until : ℕ) → List Entry → ℕ → World FlatActivity FlatHeap
  flat_run globals until script n = run flat n (start flat C.main (flat_empty globals) until script)
