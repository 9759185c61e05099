-- An instruction that asks for a service changes PC alone.
use Rattle.std.proofs.Common.{ℕ, ◌+◌, ◌*◌, ◌-◌, length, if◌then◌else◌, List, Bool, true, false, cond, Option, Some, None, refl, map}
use Rattle.thumb_code.specs.declared.instructions.Instr.{Instr}
use Rattle.thumb_code.specs.declared.instructions.Instr.TheVariants.{Bx, Blx, Pop, BCond, Svc}
use Rattle.thumb_code.specs.declared.register_file.Registers.{Registers}
use Rattle.thumb_code.specs.RegisterFile.{is_odd, listed, filled, word}
use Rattle.thumb_code.specs.Arithmetic.{holds}
use Rattle.thumb_code.specs.Effect.{effect, Effect, Outcome, Goes, Asks, Stops, jumps, go, target}
use Rattle.thumb_code.specs.Memory.{Memory, Executed, Done, Asked, Stopped, or_else, first_fault, load_all, finished, execute}
use Rattle.thumb_code.specs.Step.{Fetched, Found, Missed, fetched, stepped_at, ran, AsksOnly, ServesOnly}
use Rattle.thumb_code.specs.Machine.{State, step, ram_memory}

abbrev NeverAsks : Outcome → Type 0
NeverAsks (Goes r) = Unit {0}
NeverAsks (Asks n r) = ⊥
NeverAsks (Stops k) = Unit {0}

jumps_calm : (s : Registers) (v : ℕ) → NeverAsks (jumps s v)
jumps_calm s v = by_odd (is_odd v)
  where
    by_odd : (b : Bool) → NeverAsks (if b then Goes (record s { pc = v - 1 }) else Stops 4)
    by_odd true = tt
    by_odd false = tt

-- The registers behind a pop with PC.
abbrev popped : ℕ → Registers → ℕ → List ℕ → Registers
popped next s list ws = record s { r = filled s.r (listed list) ws; sp = word (s.sp + 4 * (length (listed list) + 1)); pc = next }

module _ {S : Type 0} (w : Memory S) (s : Registers) (m : S) where
  finish_calm : (t : S) (sp : ℕ) (o : Outcome) → NeverAsks o → AsksOnly s m (finished t sp o)
  finish_calm t sp (Goes r) h = tt
  finish_calm t sp (Asks n r) h = absurd h
  finish_calm t sp (Stops k) h = tt

  else_calm : (o : Option ℕ) (x : Executed S) → AsksOnly s m x → AsksOnly s m (or_else o x)
  else_calm (Some k) x h = tt
  else_calm None x h = h

  range_calm : (b : Bool) (x : Executed S) (k : ℕ) → AsksOnly s m x → AsksOnly s m (cond b x (Stopped k))
  range_calm true x k h = h
  range_calm false x k h = tt

  calm : (e : Effect) → ((ws : List ℕ) → NeverAsks (e.after ws)) → AsksOnly s m (execute w m e)
  calm e h =
      range_calm (w.has_sp m e.sp) _ _ (else_calm (first_fault w m false e.loads) _ (else_calm (first_fault w m true (map (λ p. p.0) e.stores)) _
      (finish_calm _ e.sp (e.after (load_all w m e.loads).0) (h (load_all w m e.loads).0))))

  either_effect : (b : Bool) (x y : Effect) → AsksOnly s m (execute w m x) → AsksOnly s m (execute w m y) → AsksOnly s m (execute w m (cond b x y))
  either_effect true x y p q = p
  either_effect false x y p q = q

  -- an instruction over any memory
  pub asks_only : (i : Instr) (next : ℕ) → AsksOnly s m (execute w m (effect next s i))
  asks_only (Svc imm) next = range_calm (w.has_sp m s.sp) _ _ (refl, refl)
  asks_only (Bx rm) next = calm (effect next s (Bx rm)) (λ ws. jumps_calm s _)
  asks_only (Blx rm) next = calm (effect next s (Blx rm)) (λ ws. jumps_calm (record s { lr = _ }) _)
  asks_only (Pop list true) next = calm (effect next s (Pop list true)) (λ ws. jumps_calm (popped next s list ws) _)
  asks_only (Pop list false) next = calm (effect next s (Pop list false)) (λ ws. tt)
  asks_only (BCond c offset) next = either_effect (holds s.flags c) (go (target s offset) s) (go next s) (calm (go (target s offset) s) (λ ws. tt)) (calm (go next s) (λ ws. tt))
  asks_only i next = calm (effect next s i) (λ ws. tt)

  placed_asks : (x : Executed S) → AsksOnly s m x → ServesOnly s m (stepped_at s.pc x)
  placed_asks (Done r t) h = tt
  placed_asks (Asked n r t) h = h
  placed_asks (Stopped k) h = tt

  fetched_asks : (x : Fetched) → ServesOnly s m (ran (execute w m) s x)
  fetched_asks (Found i next) = placed_asks (execute w m (effect next s i)) (asks_only i next)
  fetched_asks (Missed k at) = tt

-- a step of the machine with one RAM
pub step_asks_only : (s : State) → ServesOnly s.registers s.memory (step s)
step_asks_only s = fetched_asks ram_memory s.registers s.memory (fetched s.memory.flash s.memory.base s.registers.pc)
