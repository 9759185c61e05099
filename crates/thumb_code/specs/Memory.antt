-- An instruction's effect over a memory, whatever that is.
use Rattle.std.specs.Prelude.{ℕ, min, List, [], ◌∷◌, map, Bool, true, false, if◌then◌else◌, Option, Some, None}
use Rattle.std.specs.Option.{option_or}
use Rattle.thumb_code.specs.declared.register_file.Registers.{Registers}
use Rattle.thumb_code.specs.Faults.{stack_range}
use Rattle.thumb_code.specs.Effect.{Outcome, Goes, Asks, Stops, Access, Effect}

-- A memory says of each access whether it is a fault, where true stands for a store. It answers loads and
-- takes stores of accesses that aren't, and it says which SP is in range.
pub record Memory (S : Type 0) : Type 0 where
  pub fault : S → Bool → Access → Option ℕ
  pub load : S → Access → ℕ × S
  pub store : S → Access → ℕ → S
  pub has_sp : S → ℕ → Bool

-- What an instruction comes to: it went on, it asks for a service and would go on, or it is a fault.
pub data Executed (S : Type 0) : Type 0 where
  Done : Registers → S → Executed S
  Asked : ℕ → Registers → S → Executed S
  Stopped : ℕ → Executed S

-- An outcome over the memory after the stores, with the SP that the instruction leaves.
abbrev pub finished : {S : Type 0} → S → ℕ → Outcome → Executed S
finished t sp (Goes r) = Done (record r { sp = sp }) t
finished t sp (Asks n r) = Asked n (record r { sp = sp }) t
finished t sp (Stops k) = Stopped k

-- A fault, or else what follows.
abbrev pub or_else : {S : Type 0} → Option ℕ → Executed S → Executed S
or_else (Some k) o = Stopped k
or_else None o = o

-- The end of an instruction, with SP where it left it.
abbrev pub after_move : {S : Type 0} → (S → ℕ → S) → Executed S → Executed S
after_move move (Done r t) = Done r (move t r.sp)
after_move move (Asked n r t) = Asked n r (move t r.sp)
after_move move (Stopped k) = Stopped k

module _ {S : Type 0} (m : Memory S) where
  -- The first fault of these accesses.
  abbrev pub first_fault : S → Bool → List Access → Option ℕ
  first_fault t b [] = None
  first_fault t b (a ∷ as') = option_or (m.fault t b a) (first_fault t b as')

  -- What these accesses load, and the memory after it.
  abbrev pub load_all : S → List Access → List ℕ × S
  load_all t [] = ([], t)
  load_all t (a ∷ as') = let r = m.load t a in let q = load_all r.1 as' in (r.0 ∷ q.0, q.1)

  -- The memory after these stores.
  abbrev pub store_all : S → List (Access × ℕ) → S
  store_all t [] = t
  store_all t (p ∷ ps) = store_all (m.store t p.0 p.1) ps

  -- An effect's accesses, all tried before the first is done, and its outcome.
  abbrev pub accessed : S → Effect → Executed S
  accessed t e =
      let q = load_all t e.loads in
      or_else (first_fault t false e.loads) (or_else (first_fault t true (map (λ p. p.0) e.stores))
      (finished (store_all q.1 e.stores) e.sp (e.after q.0)))

  -- An effect over a memory. The SP that it leaves is tried before its accesses, and these before a fault of its own.
  abbrev pub execute : S → Effect → Executed S
  execute t e = if m.has_sp t e.sp then accessed t e else Stopped stack_range

  -- The same over a memory that is told where SP goes: for the accesses to the lower of its values before and
  -- after the instruction, and then to the value after it. A fault moves nothing.
  abbrev pub execute_moving : (S → ℕ → S) → S → ℕ → Effect → Executed S
  execute_moving move t sp e =
      if m.has_sp t e.sp then after_move move (accessed (move t (min sp e.sp)) e) else Stopped stack_range
