-- Well-formed flat code.
use Rattle.std.specs.Prelude.{ℕ, ◌+◌, ◌<◌, ◌≤◌, List, [], ◌∷◌, ◌++◌, length}
use Rattle.std.specs.Option.{option_to_list}
use Rattle.std.specs.List.{AllByRecursion}
use Rattle.flat_ir.specs.declared.ops.Op.{Op}
use Rattle.flat_ir.specs.declared.ops.Op.TheVariants.{GlobalGet, GlobalSet, MakeObject, Call, CallSlot, HandlerOf, Ask, Jump, Return}
use Rattle.flat_ir.specs.declared.ops.Function.{Function}
use Rattle.flat_ir.specs.declared.ops.FlatClass.{FlatClass}
use Rattle.flat_ir.specs.declared.ops.FlatCode.{FlatCode}
use Rattle.flat_ir.specs.Ops.{reads, writes, target_of}

-- how many temporaries a function has
abbrev pub temporaries : Function → ℕ
temporaries f = f.params + f.locals + f.operands

-- every temporary that an op names is below n
abbrev pub NamesBelow : ℕ → Op → Type 0
NamesBelow n op = AllByRecursion (λ t. t < n) (option_to_list (writes op) ++ reads op)

-- where it may jump to, there is an op
abbrev pub GoesBelow : ℕ → Op → Type 0
GoesBelow places op = AllByRecursion (λ p. p < places) (option_to_list (target_of op))

-- its globals, slots and services are there, and it passes no more arguments than there is room for
abbrev pub IsInRange : ℕ → Op → Type 0
IsInRange outgoing (GlobalGet to slot) = slot < 256
IsInRange outgoing (GlobalSet slot from) = slot < 256
IsInRange outgoing (Call to function args) = length args ≤ outgoing
IsInRange outgoing (CallSlot to slot args) = (slot < 30) × (length args ≤ outgoing)
IsInRange outgoing (Ask to service args) = (service < 24) × (length args ≤ 4)
IsInRange outgoing op = Unit {0}

-- the last op of a function is a jump or a return
abbrev pub IsLast : Op → Type 0
IsLast (Jump target) = Unit {0}
IsLast (Return from) = Unit {0}
IsLast op = ⊥

abbrev pub EndsFrom : Op → List Op → Type 0
EndsFrom op [] = IsLast op
EndsFrom op (next ∷ rest) = EndsFrom next rest

abbrev pub Ends : List Op → Type 0
Ends [] = ⊥
Ends (op ∷ rest) = EndsFrom op rest

-- an op of a function that has so many temporaries and ops, and room for so many arguments
pub record IsOpWithin (temporaries places outgoing : ℕ) (op : Op) : Type 0 where
  pub names : NamesBelow temporaries op
  pub goes : GoesBelow places op
  pub ranges : IsInRange outgoing op

-- what can be told of a function from it alone
pub record IsWellFormedFunction (f : Function) : Type 0 where
  pub params : f.params ≤ 8
  pub locals : f.locals ≤ 64
  pub operands : f.operands ≤ 64
  pub outgoing : f.outgoing ≤ 8
  pub ops : AllByRecursion (IsOpWithin (temporaries f) (length f.ops) f.outgoing) f.ops
  pub ends : Ends f.ops

-- the functions and classes that an op names are there, among so many
abbrev pub NamesParts : (functions classes : ℕ) → Op → Type 0
NamesParts functions classes (MakeObject to class) = class < classes
NamesParts functions classes (Call to function args) = function < functions
NamesParts functions classes (HandlerOf to function) = function < functions
NamesParts functions classes op = Unit {0}

-- a function of a program that has so many functions and classes
pub record IsFunctionAmong (functions classes : ℕ) (f : Function) : Type 0 where
  pub alone : IsWellFormedFunction f
  pub names : AllByRecursion (NamesParts functions classes) f.ops

-- a class of such a program: the methods in its slots are there, and every slot is below 30
pub record IsClassAmong (functions : ℕ) (class : FlatClass) : Type 0 where
  pub few : length class.slots ≤ 30
  pub methods : AllByRecursion (λ function. function < functions) class.slots

-- a whole program
pub record IsWellFormed (code : FlatCode) : Type 0 where
  pub main : code.main < length code.functions
  pub functions : AllByRecursion (IsFunctionAmong (length code.functions) (length code.classes)) code.functions
  pub classes : AllByRecursion (IsClassAmong (length code.functions)) code.classes
