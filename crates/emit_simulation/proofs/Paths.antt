-- Silent instructions are a path of the kind of fibers: what the world's simulation asks for.
use Rattle.std.proofs.Common.{zero, suc, ◌≡◌, ℕ, ◌-◌, ◌/◌, List, [], ◌∷◌, Bool, true, false, cond, Option, Some, None, refl, sym, ap, ◌∙◌, subst, arith, min, nat_lt, drop, map}
use Rattle.board_world.specs.Simulation.{Path, one}
use Rattle.thumb_code.specs.declared.register_file.Registers.{Registers}
use Rattle.thumb_code.specs.Forms.{Access, Effect, Outcome, Goes as GoesOn, Asks, Stops}
use Rattle.thumb_code.specs.Memory.{Executed, Done, Asked, Stopped, load_all, store_all, first_fault, finished, or_else, accessed, after_move}
use Rattle.thumb_code.specs.Step.{Fetched, Found, Missed, Stepped, On, Served, Faulted, fetched, stepped_at, ran}
use Rattle.thumb_code.specs.Run.{runs, Ran, Still, from_step}
use Rattle.thumb_code.specs.Map.{sp_in_range, globals_at, arena_at, stack_at, part, flash_word, word_in, changed}
use Rattle.thumb_code.specs.RegisterFile.{aligned}
use Rattle.thumb_code.specs.Faults.{stack_range}
use Rattle.thumb_code.specs.Effect.{effect}
use Rattle.bank_model.specs.Bank.{Bank, bank_sp, next_free, lowered, is_own, bank_load, bank_store, bank_move, bank_memory}
use Rattle.bank_model.specs.Fibers.{Fiber, Shared}
use Rattle.bank_model.specs.BoardMachine.{fibers, turn_of, memory_of, fiber_of, shared_in}
use Rattle.emit_simulation.proofs.Laid.{Fm, over}

-- flash and base stay
abbrev Keeps : Fm → Fm → Type 0
Keeps t u = (u.0.flash ≡ t.0.flash) × (u.0.base ≡ t.0.base)

keeps_trans : (t u w : Fm) → Keeps t u → Keeps u w → Keeps t w
keeps_trans t u w a b = (b.0 ∙ a.0, b.1 ∙ a.1)

if_load : (c : Bool) (t : Fm) (x y : ℕ × Fm) → Keeps t x.1 → Keeps t y.1 → Keeps t (cond c x y).1
if_load true t x y a b = a
if_load false t x y a b = b

load_keeps : (t : Fm) (a : Access) → Keeps t (bank_load t.0 t.1 a).1
load_keeps t a =
    let w = part a (next_free t.1).0 in
    let x4 : ℕ × Fm = (w, (t.0, (next_free t.1).1)) in
    let o : ℕ × Fm = (part a (word_in t.0.words (bank_sp t.0) a.at), t) in
    let x3 : ℕ × Fm = cond (is_own t.0 a.at) o x4 in
    let r : ℕ × Fm = (part a (word_in t.0.arena arena_at a.at), t) in
    let x2 : ℕ × Fm = cond (nat_lt a.at stack_at) r x3 in
    let g : ℕ × Fm = (part a (word_in t.0.globals globals_at a.at), t) in
    let x1 : ℕ × Fm = cond (nat_lt a.at arena_at) g x2 in
    let f : ℕ × Fm = (part a (flash_word t.0.flash (aligned a.at)), t) in
    if_load (nat_lt a.at globals_at) t f x1 (refl, refl) (if_load (nat_lt a.at arena_at) t g x2 (refl, refl)
    (if_load (nat_lt a.at stack_at) t r x3 (refl, refl) (if_load (is_own t.0 a.at) t o x4 (refl, refl) (refl, refl))))

if_store : (c : Bool) (b x y : Bank) (free : List ℕ) → Keeps (b, free) (x, free) → Keeps (b, free) (y, free) → Keeps (b, free) (cond c x y, free)
if_store true b x y free p q = p
if_store false b x y free p q = q

store_keeps : (t : Fm) (a : Access) (v : ℕ) → Keeps t (bank_store t.0 a v, t.1)
store_keeps t a v =
    let x1 : Bank = record t.0 { globals = changed t.0.globals globals_at a v } in
    let x2 : Bank = record t.0 { arena = changed t.0.arena arena_at a v } in
    let x3 : Bank = record t.0 { words = changed t.0.words (bank_sp t.0) a v } in
    let y3 : Bank = cond (is_own t.0 a.at) x3 t.0 in
    let y2 : Bank = cond (nat_lt a.at stack_at) x2 y3 in
    if_store (nat_lt a.at arena_at) t.0 x1 y2 t.1 (refl, refl) (if_store (nat_lt a.at stack_at) t.0 x2 y3 t.1 (refl, refl)
    (if_store (is_own t.0 a.at) t.0 x3 t.0 t.1 (refl, refl) (refl, refl)))

if_move : (c : Bool) (t x y : Fm) → Keeps t x → Keeps t y → Keeps t (cond c x y)
if_move true t x y p q = p
if_move false t x y p q = q

move_keeps : (t : Fm) (sp : ℕ) → Keeps t (bank_move t sp)
move_keeps t sp =
    let q = lowered ((bank_sp t.0 - sp) / 4) t.0.words t.1 in
    if_move (nat_lt sp (bank_sp t.0)) t (record t.0 { words = q.0 }, q.1) (record t.0 { words = drop ((sp - bank_sp t.0) / 4) t.0.words }, t.1) (refl, refl)
    (refl, refl)

loads_keep : (t : Fm) (as' : List Access) → Keeps t (load_all bank_memory t as').1
loads_keep t [] = (refl, refl)
loads_keep t (a ∷ as') = keeps_trans t (bank_load t.0 t.1 a).1 (load_all bank_memory (bank_load t.0 t.1 a).1 as').1 (load_keeps t a)
    (loads_keep (bank_load t.0 t.1 a).1 as')

stores_keep : (t : Fm) (ps : List (Access × ℕ)) → Keeps t (store_all bank_memory t ps)
stores_keep t [] = (refl, refl)
stores_keep t (p ∷ ps) = keeps_trans t (bank_store t.0 p.0 p.1, t.1) (store_all bank_memory (bank_store t.0 p.0 p.1, t.1) ps) (store_keeps t p.0 p.1)
    (stores_keep (bank_store t.0 p.0 p.1, t.1) ps)

abbrev KeepsX : Fm → Executed Fm → Type 0
KeepsX t (Done r u) = Keeps t u
KeepsX t (Asked n r u) = Keeps t u
KeepsX t (Stopped k) = Unit {0}

finished_keeps : (t u : Fm) (sp : ℕ) (o : Outcome) → Keeps t u → KeepsX t (finished u sp o)
finished_keeps t u sp (GoesOn r) k = k
finished_keeps t u sp (Asks n r) k = k
finished_keeps t u sp (Stops n) k = tt

or_keeps : (t : Fm) (o : Option ℕ) (x : Executed Fm) → KeepsX t x → KeepsX t (or_else o x)
or_keeps t None x k = k
or_keeps t (Some n) x k = tt

accessed_keeps : (t : Fm) (e : Effect) → KeepsX t (accessed bank_memory t e)
accessed_keeps t e =
    let q = load_all bank_memory t e.loads in
    let z = finished (store_all bank_memory q.1 e.stores) e.sp (e.after q.0) in
    let y = first_fault bank_memory t true (map (λ p. p.0) e.stores) in
    or_keeps t (first_fault bank_memory t false e.loads) (or_else y z) (or_keeps t y z
    (finished_keeps t (store_all bank_memory q.1 e.stores) e.sp (e.after q.0)
    (keeps_trans t q.1 (store_all bank_memory q.1 e.stores) (loads_keep t e.loads) (stores_keep q.1 e.stores))))

moved_keeps : (t u : Fm) (x : Executed Fm) → Keeps t u → KeepsX u x → KeepsX t (after_move bank_move x)
moved_keeps t u (Done r w) k x = keeps_trans t w (bank_move w r.sp) (keeps_trans t u w k x) (move_keeps w r.sp)
moved_keeps t u (Asked n r w) k x = keeps_trans t w (bank_move w r.sp) (keeps_trans t u w k x) (move_keeps w r.sp)
moved_keeps t u (Stopped n) k x = tt

if_keeps : (c : Bool) (t : Fm) (x y : Executed Fm) → KeepsX t x → KeepsX t y → KeepsX t (cond c x y)
if_keeps true t x y p q = p
if_keeps false t x y p q = q

over_keeps : (r : Registers) (t : Fm) (e : Effect) → KeepsX t (over r t e)
over_keeps r t e = if_keeps (sp_in_range t.0.base e.sp) t (after_move bank_move (accessed bank_memory (bank_move t (min r.sp e.sp)) e)) (Stopped stack_range)
    (moved_keeps t (bank_move t (min r.sp e.sp)) (accessed bank_memory (bank_move t (min r.sp e.sp)) e) (move_keeps t (min r.sp e.sp))
    (accessed_keeps (bank_move t (min r.sp e.sp)) e)) tt

abbrev KeepsS : Fm → Stepped Fm → Type 0
KeepsS t (On r u) = Keeps t u
KeepsS t _ = Unit {0}

placed_keeps : (t : Fm) (at : ℕ) (x : Executed Fm) → KeepsX t x → KeepsS t (stepped_at at x)
placed_keeps t at (Done r u) k = k
placed_keeps t at (Asked n r u) k = tt
placed_keeps t at (Stopped n) k = tt

ran_keeps : (r : Registers) (t : Fm) (x : Fetched) → KeepsS t (ran (over r t) r x)
ran_keeps r t (Found i next) = placed_keeps t r.pc (over r t (effect next r i)) (over_keeps r t (effect next r i))
ran_keeps r t (Missed k a) = tt

abbrev still_fiber : Fiber → Ran Fm → Fiber
still_fiber f (Still q t) = fiber_of q t
still_fiber f _ = f

abbrev still_shared : ℕ → Shared → Ran Fm → Shared
still_shared used s (Still q t) = shared_in used t
still_shared used s _ = s

abbrev is_still : Ran Fm → Type 0
is_still (Still q t) = Unit {0}
is_still _ = ⊥

module _ (flash : List ℕ) (used : ℕ) where
  abbrev IsPath : ℕ → ℕ → Fiber → Shared → Type 0
  IsPath n base f s = (q : Registers) (t' : Fm) → f.base ≡ base → s.used ≡ used → runs over (fetched flash base) n f.registers (memory_of flash f s) ≡ Still q
      t' → Path (fibers flash) one n n f s (fiber_of q t') (shared_in used t')

  by_step : (n base : ℕ) (f : Fiber) (s : Shared) (x : Stepped Fm) → ((g : Fiber) (u : Shared) → IsPath n base g u) → (q : Registers) (t' : Fm) → f.base ≡ base
      → s.used ≡ used → ran (over f.registers (memory_of flash f s)) f.registers (fetched flash base f.registers.pc) ≡ x
      → KeepsS (memory_of flash f s) x → from_step (runs over (fetched flash base) n) n x ≡ Still q t' → Path (fibers flash) one (suc n) (suc n) f s
      (fiber_of q t') (shared_in used t')
  by_step n base f s (On r m) go q t' b u e k h =
      let z : memory_of flash (fiber_of r m) (shared_in used m) ≡ m = λ i. (
        record
            { flash = sym k.0 i; globals = m.0.globals; arena = m.0.arena; base = m.0.base; words = m.0.words },
        m.1,
      ) in (
        fiber_of r m,
        shared_in used m,
        n,
        ap (turn_of flash s.used f.registers.pc) (ap (λ c. ran (over f.registers (memory_of flash f s)) f.registers (fetched flash c f.registers.pc)) b ∙ e) ∙
            ap (λ n. turn_of flash n f.registers.pc (On r m)) u,
        (omega arith),
        go (fiber_of r m) (shared_in used m) q t' (k.1 ∙ b) refl (ap (runs over (fetched flash base) n r) z ∙ h),
      )
  by_step n base f s (Served j r m) go q t' b u e k h = elim (subst is_still (sym h) tt) [ ]
  by_step n base f s (Faulted j a) go q t' b u e k h = elim (subst is_still (sym h) tt) [ ]

  -- SO MANY SILENT INSTRUCTIONS are as many steps of the fiber, each of weight 1
  pub path : (n base : ℕ) (f : Fiber) (s : Shared) → IsPath n base f s
  path zero base f s q t' b u h = (ap (still_fiber f) h, (ap (λ n. record s { used = n }) u ∙ ap (still_shared used (record s { used = used })) h), refl)
  path (suc n) base f s q t' b u h = by_step n base f s (ran (over f.registers (memory_of flash f s)) f.registers (fetched flash base f.registers.pc))
      (λ g w. path n base g w) q t' b u refl (ran_keeps f.registers (memory_of flash f s) (fetched flash base f.registers.pc)) h
