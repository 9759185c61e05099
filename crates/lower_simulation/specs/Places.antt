-- Which ops stand at a place for what is left to do.
use Rattle.std.specs.Prelude.{◌≡◌, ℕ, zero, suc, ◌+◌, ◌<◌, ◌⊎◌, Bool, false, ◌==◌, List, [], ◌∷◌, ◌++◌, length, Option, Some, None}
use Rattle.std.specs.List.{AllZip}
use Rattle.board_services.specs.declared.numbers.TheConstants.{PUSH}
use Rattle.board_world.specs.declared.requests.Request.{Request}
use Rattle.board_world.specs.declared.requests.Request.TheVariants.{Spawn, Listen}
use Rattle.flat_ir.specs.declared.ops.Op.{Op}
use Rattle.flat_ir.specs.declared.ops.Op.TheVariants as o
use Rattle.sts_syntax.specs.declared.typed.Spot.{Spot}
use Rattle.sts_syntax.specs.declared.typed.Spot.TheVariants.{Local}
use Rattle.sts_syntax.specs.TypedTrees as e
use Rattle.sts_syntax.specs.TypedTrees.{TypedStatement, ClassEntry}
use Rattle.sts_syntax.specs.TypeRules.{IsOneOf, IsOne}
use Rattle.sts_meaning.specs.Values.{Value, Whole, Object, Text, Code, Gives}
use Rattle.sts_meaning.specs.Services.{requested}
use Rattle.sts_meaning.specs.Frames.{taken}
use Rattle.sts_meaning.specs.Continuation.{Continuation, Put, Get, Store, Drop, Unary, Apply, Choose, Both, Either, Read, Peek, Write, At, PeekAt, SetAt, Bump, BumpField, BumpAt, Measure, Push, Pop, Open, Append, New, Build, Invoke, Send, Ask, Repeat, Again, Each, Leave, Give, Round, Impossible}
use Rattle.flat_meaning.specs.Operators.{answers}
use Rattle.sts_lower.specs.Sizes.{ToName, ToField, ToItem, bump_size, item_size}
use Rattle.sts_lower.specs.Code.{get_op, set_op, bump_code, maker_of, span}
use Rattle.sts_lower.specs.Statements.{statement_code, item_code}
use Rattle.sts_lower.specs.Lowered.{repeating_ops}
use Rattle.lowered_code.specs.Fine.{IsThere, FineStatement}

-- What is known of each pending value, the latest first: that it is a function, by its number, or nothing.
abbrev pub Marks : Type 0
Marks = List (Option ℕ)

abbrev pub Marked : Option ℕ → Value → Type 0
Marked None v = Unit {0}
Marked (Some f) v = v ≡ Code f

-- p is q with n marks on it
abbrev pub IsAbove : ℕ → Marks → Marks → Type 0
IsAbove zero p q = p ≡ q
IsAbove (suc n) p q = (m : Option ℕ) × IsAbove n p (m ∷ q)

-- A request names a function of the program, if any: among so many.
abbrev pub NamesAmong : ℕ → Request → Type 0
NamesAmong functions (Spawn f) = f < functions
NamesAmong functions (Listen l) = l.handler < functions
NamesAmong functions r = Unit {0}

-- so does each request of a service with the n latest of values that are marked so
abbrev pub IsProper : ℕ → Marks → (service n : ℕ) → Type 0
IsProper functions p service n =
    (vs these rest : List Value) (r : Request) → AllZip Marked p vs → taken n vs ≡ Gives (these, rest)
    → requested service these ≡ Gives r → NamesAmong functions r

-- the op that gives a value
abbrev pub IsPut : Value → ℕ → Option Op → Type 0
IsPut (Whole n) to op = op ≡ Some (o.Const to n)
IsPut (Text n) to op = op ≡ Some (o.TextOf to n)
IsPut (Code f) to op = op ≡ Some (o.HandlerOf to f)
IsPut (Object n) to op = ⊥

abbrev pub mark_of : Value → Option ℕ
mark_of (Code f) = Some f
mark_of _ = None

-- a property of the marks below the latest one, the two latest ones, and the three latest ones
abbrev pub One : (Marks → Type 0) → Marks → Type 0
One R [] = ⊥
One R (m ∷ p) = R p

abbrev pub Two : (Marks → Type 0) → Marks → Type 0
Two R p = One (One R) p

abbrev pub Three : (Marks → Type 0) → Marks → Type 0
Three R p = One (One (One R)) p

-- a property of a function that is known to be the latest value, and of the marks below it
abbrev pub KnownAs : (ℕ → Marks → Type 0) → Marks → Type 0
KnownAs R (Some f ∷ p) = R f p
KnownAs R _ = ⊥

-- these ops stand at a place
abbrev pub HasAt : (ℕ → Option Op) → ℕ → List Op → Type 0
HasAt fetch pc [] = Unit {0}
HasAt fetch pc (op ∷ ops) = (fetch pc ≡ Some op) × HasAt fetch (pc + 1) ops

-- a loop that turns back, which has no first part any more
abbrev pub TurnsBack : TypedStatement → Type 0
TurnsBack (e.While test a) = Unit {0}
TurnsBack (e.DoWhile a test) = Unit {0}
TurnsBack (e.For e.omitted test step a) = Unit {0}
TurnsBack _ = ⊥

-- Of a program: its classes, how many functions it has, the number of the function that repeats the calls of another
-- one, and those for which there is one. Of a function: how many parameters and locals it has, its ops, and whether it
-- is a constructor.
module _ (classes : List ClassEntry) (functions : ℕ) (repeating : ℕ → ℕ) (repeated : List ℕ) (params locals : ℕ)
    (fetch : ℕ → Option Op) (maker : Bool) where
  abbrev pub base : ℕ
  base = params + locals

  -- the temporary of the value above those that are marked so
  abbrev pub height : Marks → ℕ
  height p = base + length p

  -- the temporaries of the two values above that
  abbrev pub second : Marks → ℕ
  second p = base + suc (length p)

  abbrev pub third : Marks → ℕ
  third p = base + suc (suc (length p))

  -- this op stands there, by what is fetched
  abbrev pub Fetches : ℕ → Op → Type 0
  Fetches pc op = fetch pc ≡ Some op

  -- it stands there, or where a jump there goes
  abbrev pub Near : (ℕ → Marks → Type 0) → ℕ → Marks → Type 0
  Near R pc p = R pc p ⊎ ((t : ℕ) × Fetches pc (o.Jump t) × R t p)

  -- it stands so behind an op that gives a value
  abbrev pub Next : (ℕ → Marks → Type 0) → ℕ → Marks → Type 0
  Next R pc p = Near R (pc + 1) (None ∷ p)

  abbrev pub IsName : Spot → Type 0
  IsName x = IsThere functions repeated params locals x

  abbrev mutual
    -- what is left to do lies at a place, with such values pending
    pub Lies : Continuation → ℕ → Marks → Type 0
    Lies (Put v k) pc p = IsPut v (height p) (fetch pc) × Near (Lies k) (pc + 1) (mark_of v ∷ p)
    Lies (Get x k) pc p = Fetches pc (get_op params (height p) x) × IsName x × Next (Lies k) pc p
    Lies (Store x k) pc p = One (λ q. Fetches pc (set_op params (height q) x) × IsName x × Next (Lies k) pc q) p
    Lies (Drop k) pc p = One (λ q. Lies k pc q) p
    Lies (Unary op k) pc p = One (λ q. Fetches pc (o.Unary (height q) op (height q)) × Next (Lies k) pc q) p
    Lies (Apply op k) pc p = Two (λ q. Fetches pc (o.Binary (height q) op (height q) (second q)) × Next (Lies k) pc q) p
    Lies (Choose so otherwise) pc p =
        One (λ q. (t : ℕ) × Fetches pc (o.Branch (height q) t) × Near (Lies so) t q
        × Near (Lies otherwise) (pc + 1) q) p
    Lies (Both so otherwise) pc p =
        One (λ q. (t : ℕ) × Fetches pc (o.Branch (height q) t) × Near (Lies so) t q
        × Near (Lies otherwise) (pc + 1) (None ∷ q)) p
    Lies (Either so otherwise) pc p =
        One (λ q. (t : ℕ) × Fetches pc (o.Branch (height q) t) × Near (Lies so) t (None ∷ q)
        × Near (Lies otherwise) (pc + 1) q) p
    Lies (Read f k) pc p = One (λ q. Fetches pc (o.FieldGet (height q) (height q) f) × Next (Lies k) pc q) p
    Lies (Peek f k) pc p =
        One (λ q. Fetches pc (o.FieldGet (second q) (height q) f) × Near (Lies k) (pc + 1) (None ∷ (None ∷ q))) p
    Lies (Write f k) pc p =
        Two (λ q. Fetches pc (o.FieldSet (height q) f (second q)) × Fetches (pc + 1) (o.Copy (height q) (second q))
        × Near (Lies k) (pc + 1 + 1) (None ∷ q)) p
    Lies (At k) pc p = Two (λ q. Fetches pc (o.ItemGet (height q) (height q) (second q)) × Next (Lies k) pc q) p
    Lies (PeekAt k) pc p =
        Two (λ q. Fetches pc (o.ItemGet (third q) (height q) (second q))
        × Near (Lies k) (pc + 1) (None ∷ (None ∷ (None ∷ q)))) p
    Lies (SetAt k) pc p =
        Three (λ q. Fetches pc (o.ItemSet (height q) (second q) (third q))
        × Fetches (pc + 1) (o.Copy (height q) (third q))
        × Near (Lies k) (pc + 1 + 1) (None ∷ q)) p
    Lies (Bump x by late k) pc p =
        HasAt fetch pc (bump_code classes repeating params base (ToName x) by late (length p)) × IsName x × IsOne by
        × Near (Lies k) (pc + bump_size (ToName x) late) (None ∷ p)
    Lies (BumpField f by late k) pc p =
        One (λ q. HasAt fetch pc (bump_code classes repeating params base (ToField f) by late (length q)) × IsOne by
        × Near (Lies k) (pc + 1 + 1 + 1 + 1) (None ∷ q)) p
    Lies (BumpAt by late k) pc p =
        Two (λ q. HasAt fetch pc (bump_code classes repeating params base ToItem by late (length q)) × IsOne by
        × Near (Lies k) (pc + 1 + 1 + 1 + 1) (None ∷ q)) p
    Lies (Measure k) pc p = One (λ q. Fetches pc (o.Length (height q) (height q)) × Next (Lies k) pc q) p
    Lies (Push k) pc p = Two (λ q. Fetches pc (o.Ask (height q) 19 (height q ∷ second q ∷ [])) × Next (Lies k) pc q) p
    Lies (Pop k) pc p = One (λ q. Fetches pc (o.Pop (height q) (height q)) × Next (Lies k) pc q) p
    Lies (Open item room k) pc p = Fetches pc (o.MakeArray (height p) room) × Next (Lies k) pc p
    Lies (Append k) pc p = Two (λ q. Fetches pc (o.Ask (second q) 19 (height q ∷ second q ∷ [])) × Next (Lies k) pc q) p
    Lies (New class k) pc p = Fetches pc (o.MakeObject (height p) class) × Next (Lies k) pc p
    Lies (Build class n k) pc p =
        One (λ r. (q : Marks) × IsAbove n r q
        × Fetches pc (o.Call (height q) (maker_of classes class) (height r ∷ span (height q) n []))
        × Next (Lies k) pc q) p
    Lies (Invoke f n k) pc p =
        (q : Marks) × IsAbove n p q × Fetches pc (o.Call (height q) f (span (height q) n [])) × Next (Lies k) pc q
    Lies (Send s n k) pc p =
        (q : Marks) × IsAbove n p q × Fetches pc (o.CallSlot (height q) s (span (height q) n [])) × Next (Lies k) pc q
    Lies (Ask service n gives k) pc p =
        (q : Marks) × IsAbove n p q × Fetches pc (o.Ask (height q) service (span (height q) n []))
        × (service == PUSH ≡ false) × (gives ≡ answers service) × IsProper functions p service n × Next (Lies k) pc q
    Lies (Repeat k) pc p =
        KnownAs (λ f q. IsOneOf f repeated × Fetches pc (o.HandlerOf (height q) (repeating f))
        × Fetches (pc + 1) (o.Ask (height q) 4 (height q ∷ []))
        × Near (Lies k) (pc + 1 + 1) (None ∷ q)) p
    Lies (Again loop k) pc p =
        (p ≡ []) × (t : ℕ) × Fetches pc (o.Jump t) × TurnsBack loop × FineStatement functions repeated params locals loop
        × (next : ℕ) × HasAt fetch t (statement_code classes repeating params base maker loop t next next next)
        × Lies k next []
    Lies (Each i a k) pc p =
        (p ≡ []) × IsName (Local (suc (suc i))) × FineStatement functions repeated params locals a × (next : ℕ)
        × HasAt fetch pc (item_code classes repeating params base i pc next
        ++ (statement_code classes repeating params base maker a (pc + item_size) pc next pc ++ o.Jump pc ∷ []))
        × Lies k next []
    Lies (Leave to) pc p = (t : ℕ) × Fetches pc (o.Jump t) × Lies to t p
    Lies Give pc p = One (λ q. Fetches pc (o.Return (height q))) p
    Lies (Round f) pc p =
        (p ≡ []) × (params ≡ 0) × (locals ≡ 0) × Fetches pc (o.Jump 0) × HasAt fetch 0 (repeating_ops f)
    Lies Impossible pc p = Unit {0}
