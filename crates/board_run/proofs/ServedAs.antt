-- What is served by a turn is served by an equal one.
use Rattle.std.proofs.Common.{◌≡◌, ◌≢◌, ℕ, ◌≤◌, ◌==◌, false, List, refl, sym, subst, arith}
use Rattle.std.proofs.lemmas.Bool.Decides.{nat_tests}
use Rattle.thumb_code.specs.Faults.{bad_service}
use Rattle.board_world.specs.Kinds.{Turn, Faults}
use Rattle.board_world.specs.World.{acted, stops}
use Rattle.bank_model.specs.Fibers.{Fiber, Shared}
use Rattle.bank_model.specs.BoardMachine.{fibers}
use Rattle.bank_model.specs.Standing.{fiber_on}
use Rattle.bank_model.specs.AllServices.{service}
use Rattle.board_run.specs.declared.engine.Engine.{Engine}
use Rattle.board_run.specs.declared.engine.Served.{Served}
use Rattle.board_run.specs.declared.engine.Served.TheVariants.{Goes, Stops}
use Rattle.board_run.specs.Represents.{behind, state_of, end_of}
use Rattle.board_outside.specs.Outputs.{moves_of}
use Rattle.board_run.specs.Serving.{IsServed}
use Rattle.board_run.proofs.FiberGoesOn.{current}
use Rattle.board_run.proofs.Acting.{Leaves}

pub served_as : (T U : List ℕ → Fiber → Shared → Turn Fiber Shared) (r : Served) (old new : Engine) → ((image : List ℕ) (s : Shared) → T image (fiber_on old.runtime.machine) s ≡ U image (fiber_on old.runtime.machine) s)
    → IsServed T r old new → IsServed U r old new
served_as T U (Goes output) old new same x = λ image t runs w h.
    subst (λ (turn : Turn Fiber Shared). Leaves image (state_of old) t runs w h (state_of new) (moves_of old.runtime.machine.memory.flash old.clock output) (acted (fibers image) (current (state_of old) t h.mark) (behind image (state_of old)) w turn)) (same image w.shared) (x image t runs w h)
served_as T U (Stops stop) old new same x = (
  x.0,
  λ image t runs w h.
      subst (λ (turn : Turn Fiber Shared). acted (fibers image) (current (state_of old) t h.mark) (behind image (state_of old)) w turn ≡ stops (end_of stop) w) (same image w.shared) (x.1 image t runs w h),
)

pub served_at : (n number at : ℕ) (r : Served) (old new : Engine) → number ≡ n → IsServed (λ image. service image at n) r old new → IsServed (λ image. service image at number) r old new
served_at n number at r old new is x = subst (λ k. IsServed (λ image. service image at k) r old new) (sym is) x

-- there are no other services
pub no_service : (n : ℕ) → 16 ≤ n → n ≢ 16 → n ≢ 17 → n ≢ 18 → n ≢ 19 → n ≢ 20 → n ≢ 21 → n ≢ 22 → n ≢ 23 → (image : List ℕ) (at : ℕ) (f : Fiber) (s : Shared) → service image at n f s ≡ Faults bad_service at
no_service n l a b c d e g h i image at f s =
    rw (other 0 (omega (arith, l)), other 1 (omega (arith, l)), other 2 (omega (arith, l)), other 3 (omega (arith, l)), other 4 (omega (arith, l)), other 5 (omega (arith, l)), other 6 (omega (arith, l)), other 7 (omega (arith, l)), other 8 (omega (arith, l)), other 9 (omega (arith, l)), other 10 (omega (arith, l)), other 11 (omega (arith, l)), other 12 (omega (arith, l)), other 13 (omega (arith, l)), other 14 (omega (arith, l)), other 15 (omega (arith, l)), other 16 a, other 17 b, other 18 c, other 19 d, other 20 e, other 21 g, other 22 h, other 23 i) refl
  where
    other : (k : ℕ) → n ≢ k → (n == k) ≡ false
    other k z = grind (arith, nat_tests, z)
