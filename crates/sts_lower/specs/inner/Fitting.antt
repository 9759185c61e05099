-- What the code that lowers needs of a tree: places and temporaries have numbers below 2^32, and what is assigned to is a name, a field or an item.
use Rattle.std.specs.Prelude.{ℕ, suc, ◌+◌, ◌<◌, ◌≤◌, ◌^◌, Option, Some, None, List, [], ◌∷◌, length}
use Rattle.sts_syntax.specs.declared.typed.Spot.{Spot}
use Rattle.sts_syntax.specs.declared.typed.Spot.TheVariants.{Param, Local, Global}
use Rattle.sts_syntax.specs.TypedTrees as e
use Rattle.sts_syntax.specs.TypedTrees.{TypedTree, TypedTrees, TypedStatement, TypedStatements, OptionalTypedStatement, TypedDeclaration, TypedRoutine, ClassEntry}
use Rattle.sts_syntax.specs.BoardTable.{placed}
use Rattle.sts_syntax.specs.Measures.{hold, holds, target_hold, stacked, greatest, total, greatest_in, greatest_of, greatest_first, pending_words}
use Rattle.sts_syntax.specs.Weights.{weight}
use Rattle.sts_lower.specs.Sizes.{Target, ToName, ToField, ToItem, ToNothing, size, sizes, reach_size, items_size, declared_size, statement_size, statements_size}
use Rattle.sts_lower.specs.inner.Works.{Layout, Work, Put, Value, Reach, Arguments, Elements, Expand, ExpandAll, ExpandDeclarations}

-- in a function with so many parameters
module _ (params : ℕ) where
  abbrev pub LocalFits : Spot → Type 0
  LocalFits (Param i) = Unit {0}
  LocalFits (Local i) = params + i < 2 ^ 32
  LocalFits (Global g) = Unit {0}

  abbrev pub TargetFits : Target → Type 0
  TargetFits (ToName x) = LocalFits x
  TargetFits (ToField f) = Unit {0}
  TargetFits ToItem = Unit {0}
  TargetFits ToNothing = ⊥

  abbrev mutual
    pub IsLowerable : TypedTree → Type 0
    IsLowerable (e.Name u x) = LocalFits x
    IsLowerable (e.Unary u op a) = IsLowerable a
    IsLowerable (e.Binary u op a b) = IsLowerable a × IsLowerable b
    IsLowerable (e.Both u a b) = IsLowerable a × IsLowerable b
    IsLowerable (e.Either u a b) = IsLowerable a × IsLowerable b
    IsLowerable (e.Choice u test a b) = IsLowerable test × IsLowerable a × IsLowerable b
    IsLowerable (e.Set u op x r) = IsTarget x × IsLowerable r
    IsLowerable (e.Bump u x by late) = IsTarget x
    IsLowerable (e.Field u a f) = IsLowerable a
    IsLowerable (e.Length u a) = IsLowerable a
    IsLowerable (e.Item u a i) = IsLowerable a × IsLowerable i
    IsLowerable (e.Call u f args) = AreLowerable args
    IsLowerable (e.SuperCall u f args) = AreLowerable args
    IsLowerable (e.Make u class args) = AreLowerable args
    IsLowerable (e.Items u items) = AreLowerable items
    IsLowerable _ = Unit {0}

    pub AreLowerable : TypedTrees → Type 0
    AreLowerable e.none = Unit {0}
    AreLowerable (e.more a rest) = IsLowerable a × AreLowerable rest

    pub IsTarget : TypedTree → Type 0
    IsTarget (e.Name u x) = LocalFits x
    IsTarget (e.Field u a f) = IsLowerable a
    IsTarget (e.Item u a i) = IsLowerable a × IsLowerable i
    IsTarget _ = ⊥

  abbrev pub IsLowerableIfAny : Option TypedTree → Type 0
  IsLowerableIfAny None = Unit {0}
  IsLowerableIfAny (Some a) = IsLowerable a

  abbrev pub AreDeclared : List TypedDeclaration → Type 0
  AreDeclared [] = Unit {0}
  AreDeclared (d ∷ rest) = LocalFits d.name × IsLowerableIfAny d.first × AreDeclared rest

  -- the name of a loop over items has two locals behind it
  abbrev pub LoopFits : Spot → Type 0
  LoopFits (Param i) = Unit {0}
  LoopFits (Local i) = params + suc (suc i) < 2 ^ 32
  LoopFits (Global g) = Unit {0}

  abbrev mutual
    pub IsStatement : TypedStatement → Type 0
    IsStatement (e.Block all) = AreStatements all
    IsStatement (e.Let fixed each) = AreDeclared each
    IsStatement (e.IfOnly test a) = IsLowerable test × IsStatement a
    IsStatement (e.IfElse test a o) = IsLowerable test × IsStatement a × IsStatement o
    IsStatement (e.While test a) = IsLowerable test × IsStatement a
    IsStatement (e.DoWhile a test) = IsStatement a × IsLowerable test
    IsStatement (e.For first test step a) =
        IsFirst first × IsLowerableIfAny test × IsLowerableIfAny step × IsStatement a
    IsStatement (e.ForOf fixed x list a) = LoopFits x × IsLowerable list × IsStatement a
    IsStatement (e.Return value) = IsLowerableIfAny value
    IsStatement (e.Plain a) = IsLowerable a
    IsStatement _ = Unit {0}

    pub IsFirst : OptionalTypedStatement → Type 0
    IsFirst e.omitted = Unit {0}
    IsFirst (e.written a) = IsStatement a

    pub AreStatements : TypedStatements → Type 0
    AreStatements e.done = Unit {0}
    AreStatements (e.also a rest) = IsStatement a × AreStatements rest

module _ (L : Layout) where
  -- The numbers that a piece of work needs fit: the places of its ops, and its temporaries.
  abbrev pub WorkFits : Work → Type 0
  WorkFits (Put op) = Unit {0}
  WorkFits (Value a d at next) = (at + size a < 2 ^ 32) × (L.base + d + hold a < 2 ^ 32) × IsLowerable L.params a
  WorkFits (Reach x d at) =
      (at + reach_size x < 2 ^ 32) × (L.base + d + target_hold x 0 0 < 2 ^ 32) × IsTarget L.params x
  WorkFits (Arguments places args d at) =
      (at + total (placed (λ n. 1) places (sizes args)) < 2 ^ 32)
      × (L.base + stacked d (placed (λ n. 1) places (holds args)) < 2 ^ 32)
      × (L.base + d + length (placed (λ n. 1) places (holds args)) < 2 ^ 32) × AreLowerable L.params args
  WorkFits (Elements items d at) =
      (at + items_size (sizes items) < 2 ^ 32) × (L.base + suc d + greatest (holds items) < 2 ^ 32)
      × AreLowerable L.params items
  WorkFits (Expand a at next out again) =
      (at + statement_size L.maker a < 2 ^ 32) × (L.base + 1 + greatest_in hold a < 2 ^ 32) × IsStatement L.params a
  WorkFits (ExpandAll all at next out again) =
      (at + statements_size L.maker all < 2 ^ 32) × (L.base + 1 + greatest_of hold all < 2 ^ 32)
      × AreStatements L.params all
  WorkFits (ExpandDeclarations each at) =
      (at + declared_size each < 2 ^ 32) × (L.base + 1 + greatest_first hold each < 2 ^ 32) × AreDeclared L.params each

-- a function whose numbers fit
pub record IsLowerableRoutine (r : TypedRoutine) : Type 0 where
  pub params : length r.params ≤ 8
  pub locals : length r.locals ≤ 64
  pub pending : pending_words r ≤ 64
  pub weight : weight r ≤ 1200
  pub statements : AreStatements (length r.params) r.all

-- a class within the limit of fields
abbrev pub HasFewFields : ClassEntry → Type 0
HasFewFields class = length class.fields ≤ 30
