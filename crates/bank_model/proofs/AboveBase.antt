-- One step over one RAM keeps the stack region from the base on.
use Rattle.std.proofs.Common.{◌≡◌, ℕ, ◌-◌, ◌/◌, ◌%◌, ◌<◌, ◌≤◌, List, [], ◌∷◌, Bool, true, false, cond, ◌==◌, nat_lt, Option, Some, None, set, refl, sym, ap, ◌∙◌, arith, length-set, map, slice_index}
use Rattle.std.proofs.lemmas.List.{drop-set-lt}
use Rattle.std.proofs.lemmas.Bool.Decides.{nat_tests}
use Rattle.thumb_code.specs.declared.register_file.Registers.{Registers}
use Rattle.thumb_code.specs.Effect.{effect, Access, Effect, Outcome, Goes, Asks, Stops}
use Rattle.std.specs.Option.{option_or}
use Rattle.thumb_code.specs.Memory.{Executed, Done, Asked, Stopped, or_else, first_fault, load_all, store_all, finished, execute}
use Rattle.thumb_code.specs.Faults.{above_base, out_of_map, unaligned}
use Rattle.thumb_code.specs.Map.{stack_at, arena_at, globals_at, ram_end, access_fault, merged, in_ram, is_base}
use Rattle.thumb_code.specs.Step.{Fetched, Found, Missed, fetched, stepped_at, ran}
use Rattle.thumb_code.specs.Machine.{State, step, Ram, ram_memory, ram_store}
use Rattle.bank_model.specs.Standing.{KeepsAbove, StepKeepsAbove}

-- What the test of a base says: it is a multiple of 4 from the start of the stack region to its end.
pub record IsBase (base : ℕ) : Type 0 where
  pub aligned : base % 4 ≡ 0
  pub low : stack_at ≤ base
  pub high : base ≤ ram_end

-- An access that is no fault is below the base, where it is in the stack region.
abbrev fault_by : Bool → Bool → Bool → Option ℕ
fault_by u v z = cond u (cond v (cond z (Some above_base) None) (Some out_of_map)) (Some unaligned)

below_base : (base at : ℕ) (x y z u v : Bool) → x ≡ nat_lt at stack_at → y ≡ nat_lt at base → z ≡ cond x false (cond y false true) → fault_by u v z ≡ None → x ≡ false → at < base
below_base base at x true z u v p q r e f = grind (arith, nat_tests)
below_base base at x false z u v p q r e f = absurd (let t : z ≡ true = r ∙ ap (λ b. cond b false true) f in by_uv u v (ap (fault_by u v) (sym t) ∙ e))
  where
    by_uv : (u v : Bool) → fault_by u v true ≡ None → ⊥
    by_uv true true e = absurd (cc)
    by_uv true false e = absurd (cc)
    by_uv false v e = absurd (cc)

module _ (m : Ram) (b : IsBase m.base) where
  stored_above : (t : Ram) (a : Access) (v : ℕ) → access_fault m.base true a ≡ None → KeepsAbove m t → KeepsAbove m (ram_store t a v)
  stored_above t a v e h = by_region (nat_lt a.at arena_at) (nat_lt a.at stack_at) refl
    where
      at_stack : nat_lt a.at stack_at ≡ false → a.at < m.base
      at_stack f = below_base m.base a.at (nat_lt a.at stack_at) (nat_lt a.at m.base) _ (a.at % a.bytes == 0) (in_ram a.at) refl refl refl e f

      by_region : (x y : Bool) → nat_lt a.at stack_at ≡ y
          → KeepsAbove m (cond x (record t { globals = set t.globals ((a.at - globals_at) / 4) (merged a v (slice_index t.globals ((a.at - globals_at) / 4))) }) (cond y (record t { arena = set t.arena ((a.at - arena_at) / 4) (merged a v (slice_index t.arena ((a.at - arena_at) / 4))) })
          (record t { stack = set t.stack ((a.at - stack_at) / 4) (merged a v (slice_index t.stack ((a.at - stack_at) / 4))) })))
      by_region true y f = record { flash = h.flash; base = h.base; size = h.size; above = h.above }
      by_region false true f = record { flash = h.flash; base = h.base; size = h.size; above = h.above }
      by_region false false f =
          let l = at_stack f in
          let low : stack_at ≤ a.at = grind (arith, nat_tests) in
          let p : (a.at - stack_at) / 4 < (m.base - stack_at) / 4 = omega (arith, l, low, b.aligned, b.low) in
          record {
            flash = h.flash;
            base = h.base;
            size = length-set t.stack ((a.at - stack_at) / 4) _ ∙ h.size;
            above = drop-set-lt ((m.base - stack_at) / 4) t.stack ((a.at - stack_at) / 4) _ p ∙ h.above;
          }

  none_first : (o p : Option ℕ) → option_or o p ≡ None → (o ≡ None) × (p ≡ None)
  none_first None p e = (refl, e)
  none_first (Some k) p e = absurd (cc)

  stores_above : (ps : List (Access × ℕ)) (t : Ram) → first_fault ram_memory m true (map (λ p. p.0) ps) ≡ None → KeepsAbove m t → KeepsAbove m (store_all ram_memory t ps)
  stores_above [] t e h = h
  stores_above (p ∷ ps) t e h =
      let s = none_first _ _ e in
      stores_above ps (ram_store t p.0 p.1) s.1 (stored_above t p.0 p.1 s.0 h)

  loads_above : (xs : List Access) (t : Ram) → (load_all ram_memory t xs).1 ≡ t
  loads_above [] t = refl
  loads_above (x ∷ xs) t = loads_above xs t

  abbrev ExecutedKeeps : Executed Ram → Type 0
  ExecutedKeeps (Done r t) = KeepsAbove m t
  ExecutedKeeps (Asked n r t) = KeepsAbove m t
  ExecutedKeeps (Stopped k) = Unit {0}

  finish_above : (t : Ram) (sp : ℕ) (o : Outcome) → KeepsAbove m t → ExecutedKeeps (finished t sp o)
  finish_above t sp (Goes r) h = h
  finish_above t sp (Asks n r) h = h
  finish_above t sp (Stops k) h = tt

  else_above : (o : Option ℕ) (x : Executed Ram) → (o ≡ None → ExecutedKeeps x) → ExecutedKeeps (or_else o x)
  else_above (Some k) x h = tt
  else_above None x h = h refl

  range_above : (c : Bool) (x : Executed Ram) (k : ℕ) → ExecutedKeeps x → ExecutedKeeps (cond c x (Stopped k))
  range_above true x k h = h
  range_above false x k h = tt

  execute_above : (e : Effect) → ExecutedKeeps (execute ram_memory m e)
  execute_above e =
      range_above (ram_memory.has_sp m e.sp) _ _ (else_above (first_fault ram_memory m false e.loads) _ (λ _. else_above (first_fault ram_memory m true (map (λ p. p.0) e.stores)) _ (λ none.
      finish_above (store_all ram_memory (load_all ram_memory m e.loads).1 e.stores) e.sp (e.after (load_all ram_memory m e.loads).0)
      (let l = loads_above e.loads m in rw l (stores_above e.stores m none (record { flash = refl; base = refl; size = refl; above = refl }))))))

is_base_good : (base : ℕ) (t1 t2 t3 : Bool) → (base % 4 == 0) ≡ t1 → nat_lt base stack_at ≡ t2 → nat_lt ram_end base ≡ t3 → is_base base ≡ true → IsBase base
is_base_good base true false false e1 e2 e3 h = record { aligned = grind (arith, nat_tests); low = grind (arith, nat_tests); high = grind (arith, nat_tests) }
is_base_good base true false true e1 e2 e3 h = let k : false ≡ true = rw (e1, e2, e3) at h in absurd (cc)
is_base_good base true true t3 e1 e2 e3 h = let k : false ≡ true = rw (e1, e2) at h in absurd (cc)
is_base_good base false t2 t3 e1 e2 e3 h = let k : false ≡ true = rw e1 at h in absurd (cc)

pub base_good : (base : ℕ) → is_base base ≡ true → IsBase base
base_good base h = is_base_good base _ _ _ refl refl refl h

pub good_base : (base : ℕ) → IsBase base → is_base base ≡ true
good_base base b = let a : (base % 4 == 0) ≡ true = grind (arith, nat_tests, b.aligned) in let l : nat_lt base stack_at ≡ false = grind (arith, nat_tests, b.low) in let h : nat_lt ram_end base ≡ false = grind (arith, nat_tests, b.high) in rw (a, l, h) refl

placed_keeps : (m : Ram) (b : IsBase m.base) (at : ℕ) (x : Executed Ram) → ExecutedKeeps m b x → StepKeepsAbove m (stepped_at at x)
placed_keeps m b at (Done r t) h = (h, good_base m.base b)
placed_keeps m b at (Asked n r t) h = (h, good_base m.base b)
placed_keeps m b at (Stopped k) h = tt

fetched_keeps : (m : Ram) (r : Registers) (b : IsBase m.base) (x : Fetched) → StepKeepsAbove m (ran (execute ram_memory m) r x)
fetched_keeps m r b (Found i next) = placed_keeps m b r.pc (execute ram_memory m (effect next r i)) (execute_above m b (effect next r i))
fetched_keeps m r b (Missed k at) = tt

at_base : (m : Ram) (r : Registers) (c : Bool) → is_base m.base ≡ c → StepKeepsAbove m (ran (execute ram_memory m) r (fetched m.flash m.base r.pc))
at_base m r true e = fetched_keeps m r (base_good m.base e) (fetched m.flash m.base r.pc)
at_base m r false e = rw e tt

pub step_keeps : (s : State) → StepKeepsAbove s.memory (step s)
step_keeps s = at_base s.memory s.registers (is_base s.memory.base) refl
