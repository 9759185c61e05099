-- The steps of the machine with one RAM are a run over that RAM.
use Rattle.std.proofs.Common.{zero, suc, ◌≡◌, ℕ, List, [], ◌∷◌, Bool, true, false, cond, nat_lt, Option, Some, None, refl, ap, ◌∙◌}
use Rattle.thumb_code.specs.declared.register_file.Registers.{Registers}
use Rattle.thumb_code.specs.Forms.{Access, Effect, Outcome, Goes, Asks, Stops}
use Rattle.thumb_code.specs.Effect.{effect}
use Rattle.thumb_code.specs.Map.{arena_at, stack_at}
use Rattle.thumb_code.specs.Memory.{Executed, Done, Asked, Stopped, or_else, first_fault, load_all, store_all, finished, execute}
use Rattle.thumb_code.specs.Step.{Fetched, Found, Missed, fetched, ran, stepped_at}
use Rattle.thumb_code.specs.Machine.{State, Ram, ram_memory, ram_store}
use Rattle.thumb_code.specs.Run.{runs, from_step}
use Rattle.thumb_code.proofs.Laws.{over}
use Rattle.bank_model.specs.Standing.{ram_steps}

-- Flash and the base are the same.
pub record SameMap (m t : Ram) : Type 0 where
  pub flash : t.flash ≡ m.flash
  pub base : t.base ≡ m.base

chosen : (m x y z : Ram) (a b : Bool) → SameMap m x → SameMap m y → SameMap m z → SameMap m (cond a x (cond b y z))
chosen m x y z true b p q r = p
chosen m x y z false true p q r = q
chosen m x y z false false p q r = r

stored : (m t : Ram) (a : Access) (v : ℕ) → SameMap m t → SameMap m (ram_store t a v)
stored m t a v h = let f = h.flash in let b = h.base in chosen m _ _ _ (nat_lt a.at arena_at) (nat_lt a.at stack_at) (record { flash = f; base = b }) (record { flash = f; base = b }) (record { flash = f; base = b })

loads_leave : (xs : List Access) (t : Ram) → (load_all ram_memory t xs).1 ≡ t
loads_leave [] t = refl
loads_leave (x ∷ xs) t = loads_leave xs t

stores_leave : (ps : List (Access × ℕ)) (m t : Ram) → SameMap m t → SameMap m (store_all ram_memory t ps)
stores_leave [] m t h = h
stores_leave (p ∷ ps) m t h = stores_leave ps m (ram_store t p.0 p.1) (stored m t p.0 p.1 h)

abbrev pub Leaves : Ram → Executed Ram → Type 0
Leaves m (Done r t) = SameMap m t
Leaves m (Asked n r t) = SameMap m t
Leaves m (Stopped k) = Unit {0}

finish_leaves : (m t : Ram) (sp : ℕ) (o : Outcome) → SameMap m t → Leaves m (finished t sp o)
finish_leaves m t sp (Goes r) h = h
finish_leaves m t sp (Asks n r) h = h
finish_leaves m t sp (Stops k) h = tt

else_leaves : (m : Ram) (o : Option ℕ) (x : Executed Ram) → Leaves m x → Leaves m (or_else o x)
else_leaves m (Some k) x h = tt
else_leaves m None x h = h

range_leaves : (m : Ram) (b : Bool) (x : Executed Ram) (k : ℕ) → Leaves m x → Leaves m (cond b x (Stopped k))
range_leaves m true x k h = h
range_leaves m false x k h = tt

-- An instruction leaves flash and the base.
pub execute_leaves : (m : Ram) (e : Effect) → Leaves m (execute ram_memory m e)
execute_leaves m e =
    range_leaves m (ram_memory.has_sp m e.sp) _ _ (else_leaves m (first_fault ram_memory m false e.loads) _ (else_leaves m _ _
    (finish_leaves m (store_all ram_memory (load_all ram_memory m e.loads).1 e.stores) e.sp (e.after (load_all ram_memory m e.loads).0)
    (let l = loads_leave e.loads m in rw l (stores_leave e.stores m m (record { flash = refl; base = refl }))))))

after_turn : (n pc : ℕ) (m : Ram) (f : ℕ → Fetched) → ((r : Registers) (t : Ram) → SameMap m t → ram_steps n (record { registers = r; memory = t }) ≡ runs (over ram_memory) f n r t)
    → (y : Executed Ram) → Leaves m y → from_step (λ r t. ram_steps n (record { registers = r; memory = t })) n (stepped_at pc y) ≡ from_step (runs (over ram_memory) f n) n (stepped_at pc y)
after_turn n pc m f go (Done r t) h = go r t h
after_turn n pc m f go (Asked k r t) h = refl
after_turn n pc m f go (Stopped k) h = refl

at_fetched : (n : ℕ) (s : State) (f : ℕ → Fetched) → ((r : Registers) (t : Ram) → SameMap s.memory t → ram_steps n (record { registers = r; memory = t }) ≡ runs (over ram_memory) f n r t)
    → (x : Fetched) → from_step (λ r t. ram_steps n (record { registers = r; memory = t })) n (ran (execute ram_memory s.memory) s.registers x)
    ≡ from_step (runs (over ram_memory) f n) n (ran (execute ram_memory s.memory) s.registers x)
at_fetched n s f go (Missed k at) = refl
at_fetched n s f go (Found i next) =
    after_turn n s.registers.pc s.memory f go (execute ram_memory s.memory (effect next s.registers i)) (execute_leaves s.memory (effect next s.registers i))

same_fetched : (f g : List ℕ) (b c pc : ℕ) → f ≡ g → b ≡ c → fetched f b pc ≡ fetched g c pc
same_fetched f g b c pc p q = ap (λ x. fetched x b pc) p ∙ ap (λ x. fetched g x pc) q

-- So many steps are so long a run.
pub steps_run : (n : ℕ) (s : State) (flash : List ℕ) (base : ℕ) → s.memory.flash ≡ flash → s.memory.base ≡ base → ram_steps n s ≡ runs (over ram_memory) (fetched flash base) n s.registers s.memory
steps_run zero s flash base p q = refl
steps_run (suc n) s flash base p q =
    ap (λ x. from_step (λ r t. ram_steps n (record { registers = r; memory = t })) n (ran (execute ram_memory s.memory) s.registers x)) (same_fetched s.memory.flash flash s.memory.base base s.registers.pc p q)
    ∙ at_fetched n s (fetched flash base) (λ r t h. steps_run n (record { registers = r; memory = t }) flash base (h.flash ∙ p) (h.base ∙ q)) (fetched flash base s.registers.pc)
