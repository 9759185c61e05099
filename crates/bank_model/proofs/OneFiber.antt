-- The steps of a world with one fiber.
use Rattle.std.proofs.Common.{◌≡◌, ℕ, pos, true, false, None, List, [], ◌∷◌, ◌++◌, refl, ap}
use Rattle.board_world.specs.Observations.{Observation, Serial, Quietly, Panicked, Faulted}
use Rattle.board_world.specs.Kinds.{Turn, Goes, Asks, Ends, Panics, Faults, Writes}
use Rattle.board_world.specs.World.{tick, acted, idled}
use Rattle.thumb_code.specs.Machine.{main_of}
use Rattle.bank_model.specs.Fibers.{Fiber, Shared, begins, shared_at_reset}
use Rattle.bank_model.specs.BoardMachine.{fibers, fiber_turn, bank_start}
use Rattle.bank_model.specs.Runs.{single, ended}

module _ (flash : List ℕ) (until : ℕ) (seen : List Observation) (f : Fiber) (s : Shared) where
  by_turn : (x y : Turn Fiber Shared) → x ≡ y
      → idled (fibers flash) (acted (fibers flash) (record { self = f; value = pos 0; listener = None; seated = true; suspended = false }) [] (single until seen f s) x)
      ≡ idled (fibers flash) (acted (fibers flash) (record { self = f; value = pos 0; listener = None; seated = true; suspended = false }) [] (single until seen f s) y)
  by_turn x y e = ap (λ turn. idled (fibers flash) (acted (fibers flash) (record { self = f; value = pos 0; listener = None; seated = true; suspended = false }) [] (single until seen f s) turn)) e

  pub single_goes : (g : Fiber) (t : Shared) → fiber_turn flash f s ≡ Goes g t → tick (fibers flash) (single until seen f s) ≡ single until seen g t
  single_goes g t e = by_turn _ _ e

  pub single_writes : (g : Fiber) (t : Shared) (c : ℕ) (cs : List ℕ) → fiber_turn flash f s ≡ Asks (Writes (c ∷ cs)) (λ answer. (g, t))
      → tick (fibers flash) (single until seen f s) ≡ single until (seen ++ Serial 0 (c ∷ cs) ∷ []) g t
  single_writes g t c cs e = by_turn _ _ e

  pub single_ends : (again : ℕ → Fiber) (t : Shared) → fiber_turn flash f s ≡ Ends again t → (tick (fibers flash) (single until seen f s)).board ≡ ended until seen 0 Quietly
  single_ends again t e = ap (λ w. w.board) (by_turn _ _ e)

  pub single_panics : (code : ℕ) → fiber_turn flash f s ≡ Panics code → (tick (fibers flash) (single until seen f s)).board ≡ ended until seen 1 (Panicked code)
  single_panics code e = ap (λ w. w.board) (by_turn _ _ e)

  pub single_faults : (kind address : ℕ) → fiber_turn flash f s ≡ Faults kind address → (tick (fibers flash) (single until seen f s)).board ≡ ended until seen 1 (Faulted kind address)
  single_faults kind address e = ap (λ w. w.board) (by_turn _ _ e)

-- A run with one fiber begins so.
pub single_start : (flash : List ℕ) (until : ℕ) (free : List ℕ) → bank_start flash until [] free ≡ single until [] (begins flash (main_of flash)) (shared_at_reset free)
single_start flash until free = refl
