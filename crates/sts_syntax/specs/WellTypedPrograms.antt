-- Well-typed programs: their functions and classes.
use Rattle.std.specs.Prelude.{◌≡◌, ℕ, zero, suc, ◌≤◌, Bool, true, false, ◌||◌, ◌==◌, List, [], ◌∷◌, ◌++◌, length, All, Option, Some, None}
use Rattle.sts_syntax.specs.declared.typed.Spot.{Spot}
use Rattle.sts_syntax.specs.declared.typed.Spot.TheVariants.{Local}
use Rattle.sts_syntax.specs.Types as t
use Rattle.sts_syntax.specs.Types.{ValueType}
use Rattle.sts_syntax.specs.TypedTrees as e
use Rattle.sts_syntax.specs.TypedTrees.{TypedStatement, TypedStatements, OptionalTypedStatement, TypedDeclaration, TypedRoutine, ClassEntry, TypedProgram}
use Rattle.sts_syntax.specs.Measures.{pending_words}
use Rattle.sts_syntax.specs.Weights.{weight}
use Rattle.sts_syntax.specs.Nodes.{is_among, text_bytes, text_weight}
use Rattle.sts_syntax.specs.TypeRules.{entry, HasClass, HasRoutine, Climbs, HasField, IsMember, HasMethod, MayBegin}
use Rattle.sts_syntax.specs.WellTyped.{Setting, AreSound, AreGiven, parameters_of}

-- whether a function is some class's constructor
abbrev pub is_maker : List ClassEntry → ℕ → Bool
is_maker [] f = false
is_maker (class ∷ rest) f = class.maker == f || is_maker rest f

-- whether a function stands in some class's slot
abbrev pub is_method : List ClassEntry → ℕ → Bool
is_method [] f = false
is_method (class ∷ rest) f = is_among class.slots f || is_method rest f

-- The locals that are declared in some statements, in text order. A `for of` has two more behind its own: the list, and the next index.
abbrev pub declared_local : Spot → List ℕ
declared_local (Local i) = i ∷ []
declared_local _ = []

abbrev pub declared_names : List TypedDeclaration → List ℕ
declared_names [] = []
declared_names (d ∷ rest) = declared_local d.name ++ declared_names rest

abbrev pub declared_by_loop : Spot → List ℕ
declared_by_loop (Local i) = i ∷ suc i ∷ suc (suc i) ∷ []
declared_by_loop _ = []

abbrev mutual
  pub declared : TypedStatement → List ℕ
  declared (e.Block all) = all_declared all
  declared (e.Let fixed each) = declared_names each
  declared (e.IfOnly test a) = declared a
  declared (e.IfElse test a o) = declared a ++ declared o
  declared (e.While test a) = declared a
  declared (e.DoWhile a test) = declared a
  declared (e.For first test step a) = first_declared first ++ declared a
  declared (e.ForOf fixed x list a) = declared_by_loop x ++ declared a
  declared _ = []

  pub first_declared : OptionalTypedStatement → List ℕ
  first_declared e.omitted = []
  first_declared (e.written a) = declared a

  pub all_declared : TypedStatements → List ℕ
  all_declared e.done = []
  all_declared (e.also a rest) = declared a ++ all_declared rest

-- so many numbers from one on
abbrev pub numbers : ℕ → ℕ → List ℕ
numbers from zero = []
numbers from (suc n) = from ∷ numbers (suc from) n

module _ (P : TypedProgram) where
  -- a function as its statements see it
  abbrev pub setting : ℕ → TypedRoutine → Setting
  setting f r = record {
    routine = r;
    this = is_maker P.classes f || is_method P.classes f;
    maker = is_maker P.classes f;
    main = f == P.main;
  }

  -- The statements of a constructor begin with `super(..)` where its class has a base: the base's constructor is called.
  abbrev pub IsBodyOf : Option ℕ → Setting → TypedStatements → Type 0
  IsBodyOf None S all = AreSound P S all false []
  IsBodyOf (Some base) S (e.also (e.Plain (e.SuperCall u f args)) rest) =
      (above : ClassEntry) × (params : List ValueType)
      × HasClass P base above × (f ≡ above.maker) × IsMember P base f params (t.Object base)
      × AreGiven P S [] (parameters_of params) args × (u ≡ t.Object base)
      × AreSound P S rest false []
  IsBodyOf (Some base) S all = ⊥

  -- The base of the class whose constructor a function is.
  abbrev pub base_of_maker : List ClassEntry → ℕ → Option ℕ
  base_of_maker [] f = None
  base_of_maker (class ∷ rest) f = elim (class.maker == f) [ true ↦ class.base | false ↦ base_of_maker rest f ]

  pub record IsRoutine (f : ℕ) (r : TypedRoutine) : Type 0 where
    pub body : IsBodyOf (base_of_maker P.classes f) (setting f r) r.all
    pub locals : all_declared r.all ≡ numbers 0 (length r.locals)

  -- A class: its chain of bases doesn't come back; each field of its base is one of its own, in its place and of its type; in each
  -- slot of its base it has a method with the same parameters and result; and its constructor gives an object of it.
  pub record IsClass (c : ℕ) (class : ClassEntry) : Type 0 where
    pub base : (b : ℕ) → class.base ≡ Some b → (above : ClassEntry) × HasClass P b above
    pub chain : (n : ℕ) → Climbs P (suc n) c c → ⊥
    pub fields : (b f : ℕ) (u : ValueType) → class.base ≡ Some b → HasField P b f u → HasField P c f u
    pub methods : (b s : ℕ) (params : List ValueType) (u : ValueType) → class.base ≡ Some b → HasMethod P b s params u
        → HasMethod P c s params u
    pub slots : (s f : ℕ) → entry class.slots s ≡ Some f
        → (params : List ValueType) × (u : ValueType) × IsMember P c f params u
    pub maker : (params : List ValueType) × (r : TypedRoutine) × HasRoutine P class.maker r
        × (r.params ≡ t.Object c ∷ params) × (r.gives ≡ t.Object c)

  -- a well-typed program
  pub record IsWellTyped : Type 0 where
    pub classes : (c : ℕ) (class : ClassEntry) → HasClass P c class → IsClass c class
    pub functions : (f : ℕ) (r : TypedRoutine) → HasRoutine P f r → IsRoutine f r
    pub main : MayBegin P P.main

  -- a function within the counted limits
  pub record IsWithinLimits (r : TypedRoutine) : Type 0 where
    pub params : length r.params ≤ 8
    pub locals : length r.locals ≤ 64
    pub pending : pending_words r ≤ 64
    pub weight : weight r ≤ 1200

  -- a class within them, with what it has of its bases
  pub record IsClassWithinLimits (class : ClassEntry) : Type 0 where
    pub fields : length class.fields ≤ 30
    pub slots : length class.slots ≤ 30

  -- a program within them; these are the texts that its trees name
  pub record IsProgramWithinLimits (texts : List (List ℕ)) : Type 0 where
    pub globals : length P.globals ≤ 256
    pub classes : length P.classes ≤ 64
    pub each_class : All IsClassWithinLimits P.classes
    pub functions : All IsWithinLimits P.functions
    pub weight : text_weight P ≤ 3600
    pub bytes : text_bytes texts P ≤ 16384
