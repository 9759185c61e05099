-- When what is left to do in a function fits the values that are pending.
use Rattle.std.specs.Prelude.{◌≡◌, ℕ, suc, Bool, true, false, List, [], ◌∷◌, length, Some}
use Rattle.sts_syntax.specs.declared.typed.Spot.{Spot}
use Rattle.sts_syntax.specs.declared.typed.Spot.TheVariants.{Param, Local, Global}
use Rattle.sts_syntax.specs.Types as t
use Rattle.sts_syntax.specs.Types.{ValueType}
use Rattle.sts_syntax.specs.TypedTrees.{TypedRoutine, ClassEntry, TypedProgram}
use Rattle.sts_syntax.specs.TypeRules.{entry, Prefixes, HasClass, HasRoutine, IsBelow, Works, HasField, HasMethod, MayBegin}
use Rattle.sts_syntax.specs.WellTyped.{Setting, IsSound}
use Rattle.sts_meaning.specs.Heaps.{Heap}
use Rattle.sts_meaning.specs.Continuation.{Continuation, Put, Get, Store, Drop, Unary, Apply, Choose, Both, Either, Read, Peek, Write, At, PeekAt, SetAt, Bump, BumpField, BumpAt, Measure, Push, Pop, Open, Append, New, Build, Invoke, Send, Ask, Repeat, Again, Each, Leave, Give, Round}
use Rattle.meaning_sound.specs.Sorts.{Sort, Of, Begins, of_types, above, IsA, Suits, Asks}

-- what a call of the board gives: a number or truth value, or nothing
abbrev pub Answers : Bool → ValueType → Type 0
Answers true t.Number = Unit {0}
Answers true t.Boolean = Unit {0}
Answers false t.Nothing = Unit {0}
Answers b u = ⊥

module _ (P : TypedProgram) where
  -- a value of a sort is given, which may be taken for one of a wider sort
  abbrev pub Given : (List Sort → Type 0) → Sort → List Sort → Type 0
  Given Next s ss = (r : Sort) × Suits P s r × Next (r ∷ ss)

  module _ (S : Setting) where
    -- where the value of a name is, and its type
    abbrev pub IsStored : Spot → ValueType → Type 0
    IsStored (Param i) u = entry S.routine.params i ≡ Some u
    IsStored (Local i) u = entry S.routine.locals i ≡ Some u
    IsStored (Global g) u = entry P.globals g ≡ Some u

    -- what is left to do, above values of these sorts, the latest first
    abbrev pub FitsValues : Continuation → List Sort → Type 0
    FitsValues (Put v k) ss = (s : Sort) × ((h : Heap) → IsA P h s v) × FitsValues k (s ∷ ss)
    FitsValues (Get x k) ss = (u : ValueType) × IsStored x u × Given (FitsValues k) (Of u) ss
    FitsValues (Store x k) (s ∷ ss) = (u : ValueType) × IsStored x u × Suits P s (Of u) × Given (FitsValues k) (Of u) ss
    FitsValues (Drop k) (s ∷ ss) = FitsValues k ss
    FitsValues (Unary op k) (Of u ∷ ss) = (w : ValueType) × Prefixes op u w × Given (FitsValues k) (Of w) ss
    FitsValues (Apply op k) (Of v ∷ (Of u ∷ ss)) = (w : ValueType) × Works P op u v w × Given (FitsValues k) (Of w) ss
    FitsValues (Choose so otherwise) (Of t.Boolean ∷ ss) = FitsValues so ss × FitsValues otherwise ss
    FitsValues (Both so otherwise) (Of t.Boolean ∷ ss) =
        FitsValues so ss × Given (FitsValues otherwise) (Of t.Boolean) ss
    FitsValues (Either so otherwise) (Of t.Boolean ∷ ss) =
        Given (FitsValues so) (Of t.Boolean) ss × FitsValues otherwise ss
    FitsValues (Read f k) (Of (t.Object c) ∷ ss) = (u : ValueType) × HasField P c f u × Given (FitsValues k) (Of u) ss
    FitsValues (Peek f k) (Of (t.Object c) ∷ ss) =
        (u : ValueType) × HasField P c f u × FitsValues k (Of u ∷ (Of (t.Object c) ∷ ss))
    FitsValues (Write f k) (s ∷ (Of (t.Object c) ∷ ss)) =
        (u : ValueType) × HasField P c f u × Suits P s (Of u) × Given (FitsValues k) (Of u) ss
    FitsValues (At k) (Of t.Number ∷ (Of (t.ListOf u) ∷ ss)) = Given (FitsValues k) (Of u) ss
    FitsValues (PeekAt k) (Of t.Number ∷ (Of (t.ListOf u) ∷ ss)) =
        FitsValues k (Of u ∷ (Of t.Number ∷ (Of (t.ListOf u) ∷ ss)))
    FitsValues (SetAt k) (s ∷ (Of t.Number ∷ (Of (t.ListOf u) ∷ ss))) =
        Suits P s (Of u) × Given (FitsValues k) (Of u) ss
    FitsValues (Bump x by late k) ss = IsStored x t.Number × Given (FitsValues k) (Of t.Number) ss
    FitsValues (BumpField f by late k) (Of (t.Object c) ∷ ss) =
        HasField P c f t.Number × Given (FitsValues k) (Of t.Number) ss
    FitsValues (BumpAt by late k) (Of t.Number ∷ (Of (t.ListOf t.Number) ∷ ss)) = Given (FitsValues k) (Of t.Number) ss
    FitsValues (Measure k) (Of (t.ListOf u) ∷ ss) = Given (FitsValues k) (Of t.Number) ss
    FitsValues (Push k) (s ∷ (Of (t.ListOf u) ∷ ss)) = Suits P s (Of u) × Given (FitsValues k) (Of t.Nothing) ss
    FitsValues (Pop k) (Of (t.ListOf u) ∷ ss) = Given (FitsValues k) (Of u) ss
    FitsValues (Open u room k) ss = Given (FitsValues k) (Of (t.ListOf u)) ss
    FitsValues (Append k) (s ∷ (Of (t.ListOf u) ∷ ss)) = Suits P s (Of u) × Given (FitsValues k) (Of (t.ListOf u)) ss
    FitsValues (New c k) ss = (class : ClassEntry) × HasClass P c class × Given (FitsValues k) (Of (t.Object c)) ss
    FitsValues (Build c n k) (Of (t.Object d) ∷ ss) =
        (before : List Sort) × (class : ClassEntry) × (r : TypedRoutine) × (o : ℕ) × (params : List ValueType)
        × HasClass P c class × HasRoutine P class.maker r × (r.params ≡ t.Object o ∷ params) × IsBelow P d o
        × (ss ≡ above (of_types params) before) × (n ≡ length params) × Given (FitsValues k) (Of r.gives) before
    FitsValues (Invoke f n k) ss = (before : List Sort) × (r : TypedRoutine)
        × HasRoutine P f r × (ss ≡ above (of_types r.params) before) × (n ≡ length r.params)
        × Given (FitsValues k) (Of r.gives) before
    FitsValues (Send s n k) ss = (before : List Sort) × (c : ℕ) × (params : List ValueType) × (u : ValueType)
        × HasMethod P c s params u × (ss ≡ above (Of (t.Object c) ∷ of_types params) before) × (n ≡ suc (length params))
        × Given (FitsValues k) (Of u) before
    FitsValues (Ask service n answers k) ss = (these before : List Sort) × (u : ValueType)
        × (ss ≡ above these before) × (n ≡ length these) × Asks P service these × Answers answers u
        × Given (FitsValues k) (Of u) before
    FitsValues (Repeat k) (Begins ∷ ss) = Given (FitsValues k) (Of t.Nothing) ss
    FitsValues (Again s k) ss =
        (ss ≡ []) × (looped : Bool) × (known : List ℕ) × IsSound P S s looped known × FitsValues k []
    FitsValues (Each i s k) ss = (ss ≡ []) × (known : List ℕ) × IsSound P S s true known × FitsValues k []
        × (u : ValueType) × IsStored (Local i) u × IsStored (Local (suc i)) (t.ListOf u)
        × IsStored (Local (suc (suc i))) t.Number
    FitsValues (Leave to) ss = FitsValues to ss
    FitsValues Give (s ∷ ss) = Suits P s (Of S.routine.gives)
    FitsValues (Round f) ss = (ss ≡ []) × MayBegin P f
    FitsValues k ss = ⊥
