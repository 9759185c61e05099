-- Instructions one after another, up to a request, a fault, or so many; and when a memory that takes words from a list
-- of free words, and is told where SP goes, does what another does.
use Rattle.std.specs.Prelude.{◌≡◌, ℕ, zero, suc, List}
use Rattle.thumb_code.specs.declared.register_file.Registers.{Registers}
use Rattle.thumb_code.specs.Effect.{Effect}
use Rattle.thumb_code.specs.Memory.{Memory, Executed, Done, Asked, Stopped, execute_moving}
use Rattle.thumb_code.specs.Step.{Stepped, On, Served, Faulted, Fetched, ran}

-- What an effect comes to, from the registers and the memory before it.
abbrev pub Executor : Type 0 → Type 0
Executor S = Registers → S → Effect → Executed S

-- Still running; what is asked for, and how many instructions are left; or a fault and its address.
pub data Ran (S : Type 0) : Type 0 where
  Still : Registers → S → Ran S
  AskedAfter : ℕ → ℕ → Registers → S → Ran S
  Broke : ℕ → ℕ → Ran S

-- After one step the rest of the run, or what stopped it.
abbrev pub from_step : {S : Type 0} → (Registers → S → Ran S) → ℕ → Stepped S → Ran S
from_step go n (On r t) = go r t
from_step go n (Served k r t) = AskedAfter n k r t
from_step go n (Faulted k at) = Broke k at

-- At most n instructions, by what is fetched at each PC.
abbrev pub runs : {S : Type 0} → Executor S → (ℕ → Fetched) → ℕ → Registers → S → Ran S
runs over fetch zero r t = Still r t
runs over fetch (suc n) r t = from_step (runs over fetch n) n (ran (over r t) r (fetch r.pc))

-- The effect over a memory that is told where SP goes.
abbrev pub over_moving : {S : Type 0} → Memory S → (S → ℕ → S) → Executor S
over_moving m move r t e = execute_moving m move t r.sp e

-- The second does what the first did, and leaves the rest of the free words. R at s u says that s and u belong together
-- with SP at this number.
abbrev pub DoesTheSame : {S U : Type 0} → (ℕ → S → U → Type 0) → Executed S → (List ℕ → Executed (U × List ℕ)) → Type 0
DoesTheSame R (Done r s) f = (u : _) × R r.sp s u × ((rest : List ℕ) → f rest ≡ Done r (u, rest))
DoesTheSame R (Asked n r s) f = (u : _) × R r.sp s u × ((rest : List ℕ) → f rest ≡ Asked n r (u, rest))
DoesTheSame R (Stopped k) f = (rest : List ℕ) → f rest ≡ Stopped k

-- The same of a run.
abbrev pub RunsTheSame : {S U : Type 0} → (ℕ → S → U → Type 0) → Ran S → (List ℕ → Ran (U × List ℕ)) → Type 0
RunsTheSame R (Still r s) f = (u : _) × R r.sp s u × ((rest : List ℕ) → f rest ≡ Still r (u, rest))
RunsTheSame R (AskedAfter n k r s) f = (u : _) × R r.sp s u × ((rest : List ℕ) → f rest ≡ AskedAfter n k r (u, rest))
RunsTheSame R (Broke k at) f = (rest : List ℕ) → f rest ≡ Broke k at
