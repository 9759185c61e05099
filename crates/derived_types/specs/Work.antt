-- The work list: what is left of it, and who waits for what.
use Rattle.std.specs.Prelude.{◌≡◌, ◌≢◌, ℕ, suc, ◌+◌, ◌*◌, ◌-◌, ◌<◌, ◌≤◌, ◌⊎◌, Bool, true, false, Some, None, List, [], ◌∷◌, length, take, get_or, slice_get}
use Rattle.std.specs.List.{All, Contains}
use Rattle.std.specs.declared.vec.Vec.{Vec}
use Rattle.std.specs.declared.alloc.Global.{Global}
use Rattle.derived_types.specs.declared.work.Work.{Work}

-- how many marks aren't set
abbrev pub unasked : List Bool → ℕ
unasked [] = 0
unasked (true ∷ rest) = unasked rest
unasked (false ∷ rest) = suc (unasked rest)

-- those that wait for the type of a declaration
abbrev pub waiters : List (Vec ℕ Global) → ℕ → List ℕ
waiters waiting e = elim (slice_get waiting e) [ None ↦ [] | Some all ↦ all.items ]

-- of so many declarations none was asked for
pub record IsUntouched (count : ℕ) (work : Work) : Type 0 where
  pub none : All (λ b. b ≡ false) work.asked.items
  pub all : length work.asked.items ≡ count
  pub lists : length work.waiting.items ≡ count
  pub pending : work.pending.items ≡ []
  pub woken : work.woken.items ≡ []
  pub next : work.next ≡ 0

-- whether a declaration was asked for; one that isn't there counts as such
abbrev pub is_asked : Work → ℕ → Bool
is_asked work e = get_or work.asked.items e true

-- Declarations were asked for: each that is pending now and wasn't has its mark now and had none; each whose mark is new is pending.
pub record AsksFor (old new : Work) : Type 0 where
  pub marked : unasked new.asked.items + length new.pending.items ≡ unasked old.asked.items + length old.pending.items
  pub longer : length old.pending.items ≤ length new.pending.items
  pub all : length new.asked.items ≡ length old.asked.items
  pub stays : (e : ℕ) → is_asked old e ≡ true → is_asked new e ≡ true
  pub comes : (e : ℕ) → is_asked old e ≡ false → is_asked new e ≡ true → Contains new.pending.items e
  pub kept : (e : ℕ) → Contains old.pending.items e → Contains new.pending.items e
  pub woken : new.woken.items ≡ old.woken.items
  pub next : new.next ≡ old.next

-- A declaration waits now for each of some others that was asked for before, and for no further one; nobody else begins to wait or stops.
pub record BeginsToWait (d : ℕ) (others : List ℕ) (old new : Work) : Type 0 where
  pub lists : length new.waiting.items ≡ length old.waiting.items
  pub waits : All (λ e. is_asked old e ≡ true → e < length old.asked.items → e < length old.waiting.items
      → Contains (waiters new.waiting.items e) d) others
  pub only : (e w : ℕ) → Contains (waiters new.waiting.items e) w
      → Contains (waiters old.waiting.items e) w ⊎ ((w ≡ d) × Contains others e)
  pub kept : (e w : ℕ) → Contains (waiters old.waiting.items e) w → Contains (waiters new.waiting.items e) w

-- A declaration asked for some others: each of these was asked for now, and is pending, or before, and is waited for.
pub record Hears (d : ℕ) (others : List ℕ) (old new : Work) : Type 0 where
  pub asks : AsksFor old new
  pub asked : All (λ e. is_asked new e ≡ true) others
  pub waits : BeginsToWait d others old new

-- whether a declaration is marked as woken; one that isn't there counts as such
abbrev pub is_woken : Work → ℕ → Bool
is_woken work w = get_or work.is_woken.items w true

-- Some declarations are woken, and no others: each of them that had no mark has one now, and is among the woken.
pub record Wakes (who : List ℕ) (old new : Work) : Type 0 where
  pub marked : All (λ w. is_woken new w ≡ true) who
  pub stays : (w : ℕ) → is_woken old w ≡ true → is_woken new w ≡ true
  pub comes : (w : ℕ) → is_woken old w ≡ false → is_woken new w ≡ true → Contains new.woken.items w
  pub kept : (w : ℕ) → Contains old.woken.items w → Contains new.woken.items w
  pub only : (w : ℕ) → Contains new.woken.items w → Contains old.woken.items w ⊎ Contains who w
  pub rest : new ≡ record old { woken = new.woken; is_woken = new.is_woken }

-- A declaration is done: nobody waits for it any more, those that wait for others still do, and what was pending last isn't.
pub record HasAnswered (d : ℕ) (old new : Work) : Type 0 where
  pub gone : waiters new.waiting.items d ≡ []
  pub others : (e : ℕ) → e ≢ d → waiters new.waiting.items e ≡ waiters old.waiting.items e
  pub pending : new.pending.items ≡ take (length old.pending.items - 1) old.pending.items

-- What is left to do, which each step makes less until a type is said: two steps for each declaration that wasn't asked for and for each that was woken, one for each that is pending, and one for each whose turn comes.
abbrev pub effort : Work → ℕ
effort work =
    2 * unasked work.asked.items + 2 * length work.woken.items + length work.pending.items
    + (length work.asked.items - work.next)

-- something is pending, was woken, or has its turn still
abbrev pub IsOpen : Work → Type 0
IsOpen work = 1 ≤ length work.pending.items + length work.woken.items + (length work.asked.items - work.next)
