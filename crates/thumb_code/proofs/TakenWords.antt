-- When a memory that takes words from a list of free words does what another does.
use Rattle.std.proofs.Common.{◌≡◌, ℕ, ◌%◌, List, ◌++◌, Bool, true, false, None}
use Rattle.thumb_code.specs.Effect.{Access}
use Rattle.thumb_code.specs.Memory.{Memory, execute}
use Rattle.thumb_code.specs.Run.{Executor}

-- The effect over a memory.
abbrev pub over : {S : Type 0} → Memory S → Executor S
over m r t e = execute m t e

-- R at s u says that s and u belong together with SP at this number. Faults and ranges are then the same; a
-- load gives the same for some used free words, whatever follows them; a store is the same; and where SP goes
-- to a place in range, some used free words keep them together.
pub record Refines {S U : Type 0} (m : Memory S) (w : Memory (U × List ℕ)) (moved : U × List ℕ → ℕ → U × List ℕ)
    (R : ℕ → S → U → Type 0) : Type 0 where
  pub fault : (at : ℕ) (s : S) (u : U) (free : List ℕ) → R at s u → (b : Bool) (a : Access)
      → w.fault (u, free) b a ≡ m.fault s b a
  pub has_sp : (at : ℕ) (s : S) (u : U) (free : List ℕ) → R at s u → (n : ℕ) → w.has_sp (u, free) n ≡ m.has_sp s n
  pub sp_in : (at : ℕ) (s : S) (u : U) → R at s u → (m.has_sp s at ≡ true) × (at % 4 ≡ 0)
  pub load : (at : ℕ) (s : S) (u : U) → R at s u → (a : Access) → m.fault s false a ≡ None →
      (used : List ℕ) × ((rest : List ℕ) → w.load (u, used ++ rest) a ≡ ((m.load s a).0, (u, rest)))
  pub loads_same : (s : S) (a : Access) → (m.load s a).1 ≡ s
  pub store : (at : ℕ) (s : S) (u : U) → R at s u → (a : Access) (v : ℕ) → m.fault s true a ≡ None →
      (u' : U) × ((rest : List ℕ) → w.store (u, rest) a v ≡ (u', rest)) × R at (m.store s a v) u'
  pub store_keeps : (s : S) (a : Access) (v : ℕ) (b : Bool) (x : Access) → m.fault (m.store s a v) b x ≡ m.fault s b x
  pub store_keeps_sp : (s : S) (a : Access) (v n : ℕ) → m.has_sp (m.store s a v) n ≡ m.has_sp s n
  pub move : (at : ℕ) (s : S) (u : U) → R at s u → (n : ℕ) → m.has_sp s n ≡ true → n % 4 ≡ 0 →
      (used : List ℕ) × (u' : U) × ((rest : List ℕ) → moved (u, used ++ rest) n ≡ (u', rest)) × R n s u'
