-- What steps leave of SP.
use Rattle.std.proofs.Common.{◌≡◌, ℕ, ◌+◌, ◌*◌, ◌/◌, ◌%◌, List, [], ◌∷◌, Bool, true, false, cond, nat_lt, Option, Some, None, refl, ap, ◌∙◌, arith, ◌==◌, slice_set, ◌⊎◌, inl, inr}
use Rattle.std.proofs.lemmas.Bool.Decides.{nat_tests}
use Rattle.thumb_code.specs.declared.instructions.Instr.{Instr}
use Rattle.thumb_code.specs.declared.instructions.Instr.TheVariants.{AddHigh, MovHigh, AddSpImm, SubSpImm, Push, Pop, BCond}
use Rattle.thumb_code.specs.declared.register_file.Registers.{Registers}
use Rattle.thumb_code.specs.RegisterFile.{put_reg, reg, word}
use Rattle.thumb_code.specs.Forms.{Access, Effect, Outcome, Goes, Asks, Stops}
use Rattle.thumb_code.specs.Effect.{effect}
use Rattle.thumb_code.specs.Map.{is_base, sp_in_range}
use Rattle.thumb_code.specs.Memory.{Executed, Done, Asked, Stopped, or_else, first_fault, load_all, store_all, finished, accessed, execute}
use Rattle.thumb_code.specs.Step.{Fetched, Found, Missed, fetched, ran, stepped_at}
use Rattle.thumb_code.specs.Machine.{State, step, Ram, ram_memory, ram_store}
use Rattle.armv6m_machine.specs.Steps.{OnGoing, IsStackPointer}
use Rattle.thumb_code.proofs.Laws.{store_keeps_base}

cond_sp : (b : Bool) (x y : Effect) → x.sp % 4 ≡ 0 → y.sp % 4 ≡ 0 → (cond b x y).sp % 4 ≡ 0
cond_sp true x y p q = p
cond_sp false x y p q = q

chosen : (b1 b2 b3 : Bool) (x y z w : Registers) → x.sp % 4 ≡ 0 → y.sp % 4 ≡ 0 → z.sp % 4 ≡ 0 → w.sp % 4 ≡ 0 → (cond b1 x (cond b2 y (cond b3 z w))).sp % 4 ≡ 0
chosen true b2 b3 x y z w p q r t = p
chosen false true b3 x y z w p q r t = q
chosen false false true x y z w p q r t = r
chosen false false false x y z w p q r t = t

put_aligned : (s : Registers) (k v : ℕ) → s.sp % 4 ≡ 0 → (put_reg s k v).sp % 4 ≡ 0
put_aligned s k v h = chosen (nat_lt k 13) (k == 13) (k == 14) (record s { r = slice_set s.r k v }) (record s { sp = v / 4 * 4 }) (record s { lr = v }) (record s { pc = v / 2 * 2 }) h (omega arith) h h

-- An instruction leaves SP a multiple of 4.
aligned_sp : (i : Instr) (next : ℕ) (s : Registers) → s.sp % 4 ≡ 0 → (effect next s i).sp % 4 ≡ 0
aligned_sp (AddHigh a b) next s h = put_aligned (record s { pc = next }) a (word (reg s a + reg s b)) h
aligned_sp (MovHigh a b) next s h = put_aligned (record s { pc = next }) a (reg s b) h
aligned_sp (AddSpImm a) next s h = omega arith
aligned_sp (SubSpImm a) next s h = omega arith
aligned_sp (Push a b) next s h = omega arith
aligned_sp (Pop a b) next s h = omega arith
aligned_sp (BCond a b) next s h = cond_sp _ _ _ h h
aligned_sp _ next s h = h

loads_leave : (xs : List Access) (t : Ram) → (load_all ram_memory t xs).1 ≡ t
loads_leave [] t = refl
loads_leave (x ∷ xs) t = loads_leave xs t

stores_leave : (ps : List (Access × ℕ)) (t : Ram) → (store_all ram_memory t ps).base ≡ t.base
stores_leave [] t = refl
stores_leave (p ∷ ps) t = stores_leave ps (ram_store t p.0 p.1) ∙ store_keeps_base t p.0 p.1

-- What an instruction that isn't a fault leaves: this SP and this base.
abbrev Leaves : ℕ → ℕ → Executed Ram → Type 0
Leaves sp base (Done r t) = (r.sp ≡ sp) × (t.base ≡ base)
Leaves sp base (Asked n r t) = (r.sp ≡ sp) × (t.base ≡ base)
Leaves sp base (Stopped k) = Unit {0}

finish_leaves : (t : Ram) (sp base : ℕ) (o : Outcome) → t.base ≡ base → Leaves sp base (finished t sp o)
finish_leaves t sp base (Goes r) h = (refl, h)
finish_leaves t sp base (Asks n r) h = (refl, h)
finish_leaves t sp base (Stops k) h = tt

else_leaves : (sp base : ℕ) (o : Option ℕ) (x : Executed Ram) → Leaves sp base x → Leaves sp base (or_else o x)
else_leaves sp base (Some k) x h = tt
else_leaves sp base None x h = h

accessed_leaves : (m : Ram) (e : Effect) → Leaves e.sp m.base (accessed ram_memory m e)
accessed_leaves m e =
    else_leaves e.sp m.base (first_fault ram_memory m false e.loads) _ (else_leaves e.sp m.base _ _
    (finish_leaves (store_all ram_memory (load_all ram_memory m e.loads).1 e.stores) e.sp m.base (e.after (load_all ram_memory m e.loads).0)
    (stores_leave e.stores (load_all ram_memory m e.loads).1 ∙ ap (λ (t : Ram). t.base) (loads_leave e.loads m))))

abbrev Good : Executed Ram → Type 0
Good (Done r t) = IsStackPointer r t
Good (Asked n r t) = IsStackPointer r t
Good (Stopped k) = Unit {0}

good : (sp base : ℕ) (x : Executed Ram) → sp_in_range base sp ≡ true → sp % 4 ≡ 0 → Leaves sp base x → Good x
good sp base (Done r t) p d h = let a = h.0 in let b = h.1 in (rw (a, b) p, rw a d)
good sp base (Asked n r t) p d h = let a = h.0 in let b = h.1 in (rw (a, b) p, rw a d)
good sp base (Stopped k) p d h = tt

in_range : (m : Ram) (e : Effect) (b : Bool) → sp_in_range m.base e.sp ≡ b → e.sp % 4 ≡ 0 → Good (cond b (accessed ram_memory m e) (Stopped 5))
in_range m e true p d = good e.sp m.base (accessed ram_memory m e) p d (accessed_leaves m e)
in_range m e false p d = tt

placed_good : (pc : ℕ) (x : Executed Ram) → Good x → OnGoing (stepped_at pc x) IsStackPointer
placed_good pc (Done r t) h = h
placed_good pc (Asked n r t) h = h
placed_good pc (Stopped k) h = tt

base_is : (base : ℕ) → is_base base ≡ true → base % 4 ≡ 0
base_is base h = grind (arith, nat_tests)

at_fetched : (s : State) → s.registers.sp % 4 ≡ 0 → (x : Fetched) → OnGoing (ran (execute ram_memory s.memory) s.registers x) IsStackPointer
at_fetched s d (Missed k at) = tt
at_fetched s d (Found i next) =
    let e = effect next s.registers i in
    placed_good s.registers.pc (execute ram_memory s.memory e) (in_range s.memory e (sp_in_range s.memory.base e.sp) refl (aligned_sp i next s.registers d))

-- Where the base isn't one, the step is a fault.
by_base : (s : State) (b : Bool) → is_base s.memory.base ≡ b → (s.registers.sp % 4 ≡ 0) ⊎ (s.registers.sp ≡ s.memory.base) → OnGoing (step s) IsStackPointer
by_base s false e h = rw e tt
by_base s true e (inl d) = at_fetched s d (fetched s.memory.flash s.memory.base s.registers.pc)
by_base s true e (inr q) = at_fetched s (rw q (base_is s.memory.base e)) (fetched s.memory.flash s.memory.base s.registers.pc)

pub steps_keep : (s : State) → (s.registers.sp % 4 ≡ 0) ⊎ (s.registers.sp ≡ s.memory.base) → OnGoing (step s) IsStackPointer
steps_keep s h = by_base s (is_base s.memory.base) refl h
