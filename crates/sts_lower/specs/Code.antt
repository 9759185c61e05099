-- The ops of an expression.
use Rattle.std.specs.Prelude.{ℕ, zero, suc, ◌+◌, ℤ, pos, negsuc, Bool, true, false, List, [], ◌∷◌, ◌++◌, length, Some, None}
use Rattle.board_services.specs.declared.numbers.TheConstants.{SPAWN, PUSH}
use Rattle.flat_ir.specs.declared.operators.TheConstants.{INCREMENT, DECREMENT}
use Rattle.flat_ir.specs.declared.ops.Op.{Op}
use Rattle.flat_ir.specs.declared.ops.Op.TheVariants.{Const, Copy, Unary, Binary, GlobalGet, GlobalSet, FieldGet, FieldSet, ItemGet, ItemSet, Length, Pop, TextOf, MakeObject, MakeArray, Call, CallSlot, HandlerOf, Ask, Jump, Branch}
use Rattle.sts_syntax.specs.declared.typed.Spot.{Spot}
use Rattle.sts_syntax.specs.declared.typed.Spot.TheVariants.{Param, Local, Global}
use Rattle.sts_syntax.specs.declared.typed.Callee.{Callee}
use Rattle.sts_syntax.specs.declared.typed.Callee.TheVariants as c
use Rattle.sts_syntax.specs.TypedTrees as e
use Rattle.sts_syntax.specs.TypedTrees.{TypedTree, TypedTrees, ClassEntry}
use Rattle.sts_syntax.specs.BoardTable.{BoardAction, Service, Library, Repeats, row_of, arranged}
use Rattle.sts_lower.specs.Sizes.{Target, ToName, ToField, ToItem, ToNothing, target, size, reach_size}

-- n numbers from t on, in front of others
abbrev pub span : ℕ → ℕ → List ℕ → List ℕ
span t zero rest = rest
span t (suc n) rest = span t n ((t + n) ∷ rest)

-- The parameters are the temporaries from 0 on, and the locals follow.
module _ (params : ℕ) where
  abbrev pub get_op : ℕ → Spot → Op
  get_op to (Param i) = Copy to i
  get_op to (Local i) = Copy to (params + i)
  get_op to (Global g) = GlobalGet to g

  abbrev pub set_op : ℕ → Spot → Op
  set_op from (Param i) = Copy i from
  set_op from (Local i) = Copy (params + i) from
  set_op from (Global g) = GlobalSet g from

abbrev pub truth_number : Bool → ℤ
truth_number true = pos 1
truth_number false = pos 0

-- `++` gives one more, and `--` one less; its old value is made of the new one by the other.
abbrev pub bump_op : ℤ → ℕ
bump_op (pos n) = INCREMENT
bump_op (negsuc n) = DECREMENT

abbrev pub unbump_op : ℤ → ℕ
unbump_op (pos n) = DECREMENT
unbump_op (negsuc n) = INCREMENT

-- the value of `++` or `--`: the old one where the mark stands behind its target, of the new one in a temporary
abbrev pub bumped_op : ℤ → Bool → ℕ → ℕ → Op
bumped_op by true to from = Unary to (unbump_op by) from
bumped_op by false to from = Copy to from

-- an argument of a call: how many ops it has, and the ops, with so many operands pending and at a place
pub record Part : Type 0 where
  pub size : ℕ
  pub ops : ℕ → ℕ → List Op

-- the class's constructor
abbrev pub maker_of : List ClassEntry → ℕ → ℕ
maker_of [] k = 0
maker_of (class ∷ rest) zero = class.maker
maker_of (class ∷ rest) (suc k) = maker_of rest k

-- the function whose calls `forever` repeats
abbrev pub handler_in : TypedTree → ℕ
handler_in (e.Handler u f) = f
handler_in _ = 0

abbrev pub handler_of : TypedTrees → ℕ
handler_of e.none = 0
handler_of (e.more a rest) = handler_in a

-- Of a program: its classes, and the number of the function that repeats the calls of another one. Of a function: how
-- many parameters it has, and the temporary at which its operands begin.
module _ (classes : List ClassEntry) (repeating : ℕ → ℕ) (params base : ℕ) where
  -- a number as an argument
  abbrev pub number_part : ℤ → Part
  number_part n = record { size = 1; ops = λ d at. Const (base + d) n ∷ [] }

  -- what a call passes: a service has numbers of its own between the written arguments
  abbrev pub arguments : Callee → List Part → List Part
  arguments (c.Board call) each = arranged number_part (row_of call).action each
  arguments _ each = each

  -- the ops of arguments, one above the other
  abbrev pub parts_code : List Part → (d at : ℕ) → List Op
  parts_code [] d at = []
  parts_code (p ∷ ps) d at = p.ops d at ++ parts_code ps (suc d) (at + p.size)

  -- a call's ops behind its n arguments, which are the operands from d on
  abbrev pub action_code : BoardAction → (handler d n : ℕ) → List Op
  action_code (Service number places) handler d n = Ask (base + d) number (span (base + d) n []) ∷ []
  action_code (Library function) handler d n = Const (base + d) (pos 0) ∷ []
  action_code Repeats handler d n =
      HandlerOf (base + d) (repeating handler) ∷ (Ask (base + d) SPAWN ((base + d) ∷ []) ∷ [])

  abbrev pub call_code : Callee → (handler d n : ℕ) → List Op
  call_code (c.Function f) handler d n = Call (base + d) f (span (base + d) n []) ∷ []
  call_code (c.Slot s) handler d n = CallSlot (base + d) s (span (base + d) n []) ∷ []
  call_code c.Push handler d n = Ask (base + d) PUSH (span (base + d) n []) ∷ []
  call_code c.Pop handler d n = Pop (base + d) (base + d) ∷ []
  call_code (c.Board call) handler d n = action_code (row_of call).action handler d n

  -- the operand that is stored in a target, where d is the first that the target has
  abbrev pub stored_at : Target → ℕ → ℕ
  stored_at (ToName x) d = d
  stored_at (ToField f) d = suc d
  stored_at ToItem d = suc (suc d)
  stored_at ToNothing d = d

  -- the target is read; the value that is stored becomes the only operand
  abbrev pub read_code : Target → ℕ → Op
  read_code (ToName x) d = get_op params (base + d) x
  read_code (ToField f) d = FieldGet (base + suc d) (base + d) f
  read_code ToItem d = ItemGet (base + suc (suc d)) (base + d) (base + suc d)
  read_code ToNothing d = Const (base + d) (pos 0)

  abbrev pub store_code : Target → ℕ → List Op
  store_code (ToName x) d = set_op params (base + d) x ∷ []
  store_code (ToField f) d = FieldSet (base + d) f (base + suc d) ∷ (Copy (base + d) (base + suc d) ∷ [])
  store_code ToItem d =
      ItemSet (base + d) (base + suc d) (base + suc (suc d)) ∷ (Copy (base + d) (base + suc (suc d)) ∷ [])
  store_code ToNothing d = []

  -- `++` and `--` of a name that is a temporary, and of a global
  abbrev pub bump_temporary : ℤ → Bool → (t d : ℕ) → List Op
  bump_temporary by late t d = Unary t (bump_op by) t ∷ (bumped_op by late (base + d) t ∷ [])

  abbrev pub bump_global : ℤ → Bool → (g d : ℕ) → List Op
  bump_global by true g d =
      GlobalGet (base + d) g ∷ (Unary (base + d) (bump_op by) (base + d)
      ∷ (GlobalSet g (base + d) ∷ (bumped_op by true (base + d) (base + d) ∷ [])))
  bump_global by false g d =
      GlobalGet (base + d) g ∷ (Unary (base + d) (bump_op by) (base + d) ∷ (GlobalSet g (base + d) ∷ []))

  abbrev pub bump_code : Target → ℤ → Bool → ℕ → List Op
  bump_code (ToName (Param i)) by late d = bump_temporary by late i d
  bump_code (ToName (Local i)) by late d = bump_temporary by late (params + i) d
  bump_code (ToName (Global g)) by late d = bump_global by late g d
  bump_code (ToField f) by late d =
      FieldGet (base + suc d) (base + d) f ∷ (Unary (base + suc d) (bump_op by) (base + suc d)
      ∷ (FieldSet (base + d) f (base + suc d) ∷ (bumped_op by late (base + d) (base + suc d) ∷ [])))
  bump_code ToItem by late d =
      ItemGet (base + suc (suc d)) (base + d) (base + suc d)
      ∷ (Unary (base + suc (suc d)) (bump_op by) (base + suc (suc d))
      ∷ (ItemSet (base + d) (base + suc d) (base + suc (suc d))
      ∷ (bumped_op by late (base + d) (base + suc (suc d)) ∷ [])))
  bump_code ToNothing by late d = Const (base + d) (pos 0) ∷ []

  -- each item becomes the operand above the array, and goes into it
  abbrev pub items_code : List Part → (d at : ℕ) → List Op
  items_code [] d at = []
  items_code (p ∷ ps) d at =
      p.ops (suc d) at ++ (Ask (base + suc d) PUSH ((base + d) ∷ ((base + suc d) ∷ []))
      ∷ items_code ps d (at + p.size + 1))

  abbrev mutual
    -- An expression's ops at a place: with d operands pending its value becomes the next one, and what comes after it
    -- stands at next.
    pub code : TypedTree → (d at next : ℕ) → List Op
    code (e.Num u n) d at next = Const (base + d) n ∷ []
    code (e.Text u n) d at next = TextOf (base + d) n ∷ []
    code (e.Truth u b) d at next = Const (base + d) (truth_number b) ∷ []
    code (e.Null u) d at next = Const (base + d) (pos 0) ∷ []
    code (e.This u) d at next = Copy (base + d) 0 ∷ []
    code (e.Name u x) d at next = get_op params (base + d) x ∷ []
    code (e.Unary u op a) d at next = code a d at (at + size a) ++ Unary (base + d) op (base + d) ∷ []
    code (e.Binary u op a b) d at next =
        code a d at (at + size a)
        ++ (code b (suc d) (at + size a) (at + size a + size b)
        ++ Binary (base + d) op (base + d) (base + suc d) ∷ [])
    code (e.Both u a b) d at next =
        code a d at (at + size a)
        ++ (Branch (base + d) (at + size a + 1 + 1) ∷ (Jump next ∷ code b d (at + size a + 1 + 1) next))
    code (e.Either u a b) d at next =
        code a d at (at + size a)
        ++ (Branch (base + d) next ∷ code b d (at + size a + 1) next)
    code (e.Choice u test a b) d at next =
        code test d at (at + size test)
        ++ (Branch (base + d) (at + size test + 1 + size b + 1)
        ∷ (code b d (at + size test + 1) next
        ++ (Jump next
        ∷ code a d (at + size test + 1 + size b + 1) next)))
    code (e.Set u None x r) d at next =
        reach_code x d at
        ++ (code r (stored_at (target x) d) (at + reach_size x) (at + reach_size x + size r)
        ++ store_code (target x) d)
    code (e.Set u (Some op) x r) d at next =
        (let s = stored_at (target x) d in
        reach_code x d at
        ++ (read_code (target x) d
        ∷ (code r (suc s) (at + reach_size x + 1) (at + reach_size x + 1 + size r)
        ++ (Binary (base + s) op (base + s) (base + suc s) ∷ store_code (target x) d))))
    code (e.Bump u x by late) d at next = reach_code x d at ++ bump_code (target x) by late d
    code (e.Field u a f) d at next = code a d at (at + size a) ++ FieldGet (base + d) (base + d) f ∷ []
    code (e.Length u a) d at next = code a d at (at + size a) ++ Length (base + d) (base + d) ∷ []
    code (e.Item u a i) d at next =
        code a d at (at + size a)
        ++ (code i (suc d) (at + size a) (at + size a + size i)
        ++ ItemGet (base + d) (base + d) (base + suc d) ∷ [])
    code (e.Call u f args) d at next =
        (let all = arguments f (parts args) in parts_code all d at ++ call_code f (handler_of args) d (length all))
    code (e.SuperCall u f args) d at next =
        (let all = parts args in Copy (base + d) 0 ∷ (parts_code all (suc d) (at + 1)
        ++ Call (base + d) f (span (base + d) (suc (length all)) []) ∷ []))
    code (e.Make u class args) d at next =
        (let all = parts args in
        parts_code all d at
        ++ (MakeObject (base + (length all + d)) class
        ∷ (Call (base + d) (maker_of classes class) ((base + (length all + d)) ∷ span (base + d) (length all) [])
        ∷ [])))
    code (e.Items u items) d at next =
        (let all = parts items in MakeArray (base + d) (length all) ∷ items_code all d (at + 1))
    code (e.Handler u f) d at next = HandlerOf (base + d) f ∷ []

    pub parts : TypedTrees → List Part
    parts e.none = []
    parts (e.more a rest) = record { size = size a; ops = λ d at. code a d at (at + size a) } ∷ parts rest

    -- what is evaluated of a target before anything is read from it or stored in it
    pub reach_code : TypedTree → (d at : ℕ) → List Op
    reach_code (e.Field u a f) d at = code a d at (at + size a)
    reach_code (e.Item u a i) d at = code a d at (at + size a) ++ code i (suc d) (at + size a) (at + size a + size i)
    reach_code _ d at = []
