-- An instruction that loads no free word and doesn't lower SP, over a bank and any free words.
use Rattle.std.proofs.Common.{◌≡◌, ℕ, zero, ◌-◌, ◌/◌, ◌≤◌, List, [], ◌∷◌, length, drop, map, Bool, true, false, ◌&&◌, ◌||◌, nat_lt, cond, Option, Some, None, refl, ap, ◌∙◌, arith, length-set}
use Rattle.std.proofs.lemmas.Bool.Decides.{nat_tests}
use Rattle.std.specs.List.{list_all}
use Rattle.thumb_code.specs.declared.register_file.Registers.{Registers}
use Rattle.thumb_code.specs.Effect.{Access, Effect, Outcome, Goes, Asks, Stops}
use Rattle.thumb_code.specs.Map.{globals_at, arena_at, stack_at}
use Rattle.thumb_code.specs.Memory.{Executed, Done, Asked, Stopped, first_fault, load_all, store_all, or_else, finished, after_move, accessed}
use Rattle.bank_model.specs.Bank.{Bank, bank_sp, is_own, bank_load, bank_store, bank_move, bank_memory}
use Rattle.bank_model.specs.Runs.{is_plain}

abbrev pub value : Bank → Access → ℕ
value b a = (bank_load b [] a).0

abbrev choice : Bool → Bool → Bool → Bool → ℕ → ℕ → ℕ → ℕ → ℕ → Bank × List ℕ → Bank × List ℕ → ℕ × (Bank × List ℕ)
choice t1 t2 t3 t4 v1 v2 v3 v4 w m r = cond t1 (v1, m) (cond t2 (v2, m) (cond t3 (v3, m) (cond t4 (v4, m) (w, r))))

four : (t1 t2 t3 t4 : Bool) (v1 v2 v3 v4 w w' : ℕ) (m m' r r' : Bank × List ℕ) → (t3 || t4) ≡ true
    → choice t1 t2 t3 t4 v1 v2 v3 v4 w m r ≡ ((choice t1 t2 t3 t4 v1 v2 v3 v4 w' m' r').0, m)
four true t2 t3 t4 v1 v2 v3 v4 w w' m m' r r' h = refl
four false true t3 t4 v1 v2 v3 v4 w w' m m' r r' h = refl
four false false true t4 v1 v2 v3 v4 w w' m m' r r' h = refl
four false false false true v1 v2 v3 v4 w w' m m' r r' h = refl
four false false false false v1 v2 v3 v4 w w' m m' r r' h = absurd (cc)

load_plain : (b : Bank) (free : List ℕ) (a : Access) → is_plain b a ≡ true → bank_load b free a ≡ (value b a, (b, free))
load_plain b free a h = four (nat_lt a.at globals_at) (nat_lt a.at arena_at) (nat_lt a.at stack_at) (is_own b a.at) _ _ _ _ _ _ (b, free) (b, []) _ _ h

both : (x y : Bool) → (x && y) ≡ true → (x ≡ true) × (y ≡ true)
both true true e = (refl, refl)
both true false e = absurd (cc)
both false y e = absurd (cc)

pub loads_plain : (b : Bank) (free : List ℕ) (as' : List Access) → list_all (is_plain b) as' ≡ true → load_all bank_memory (b, free) as' ≡ (map (value b) as', (b, free))
loads_plain b free [] h = refl
loads_plain b free (a ∷ as') h =
    let p = both (is_plain b a) (list_all (is_plain b) as') h in
    let e = load_plain b free a p.0 in
    let i = loads_plain b free as' p.1 in
    rw (e, i) refl

-- Stores, and what is a fault, don't heed the free words.
pub stores_same : (ps : List (Access × ℕ)) (b : Bank) (free : List ℕ) → store_all bank_memory (b, free) ps ≡ ((store_all bank_memory (b, []) ps).0, free)
stores_same [] b free = refl
stores_same (p ∷ ps) b free = stores_same ps (bank_store b p.0 p.1) free

pub faults_same : (is_store : Bool) (as' : List Access) (b c : Bank) (x y : List ℕ) → b.base ≡ c.base → first_fault bank_memory (b, x) is_store as' ≡ first_fault bank_memory (c, y) is_store as'
faults_same is_store [] b c x y e = refl
faults_same is_store (a ∷ as') b c x y e = let i = faults_same is_store as' b c x y e in rw (e, i) refl

-- Stores leave the base, and how many words the bank has.
pub record SameSize (b c : Bank) : Type 0 where
  pub base : c.base ≡ b.base
  pub size : length c.words ≡ length b.words

store_size : (b : Bank) (a : Access) (v : ℕ) (t2 t3 t4 : Bool) → nat_lt a.at arena_at ≡ t2 → nat_lt a.at stack_at ≡ t3 → is_own b a.at ≡ t4 → SameSize b (bank_store b a v)
store_size b a v true t3 t4 e2 e3 e4 = rw e2 (record { base = refl; size = refl })
store_size b a v false true t4 e2 e3 e4 = rw (e2, e3) (record { base = refl; size = refl })
store_size b a v false false true e2 e3 e4 = rw (e2, e3, e4) (record { base = refl; size = length-set b.words _ _ })
store_size b a v false false false e2 e3 e4 = rw (e2, e3, e4) (record { base = refl; size = refl })

pub stores_size : (ps : List (Access × ℕ)) (b : Bank) → SameSize b (store_all bank_memory (b, []) ps).0
stores_size [] b = record { base = refl; size = refl }
stores_size (p ∷ ps) b =
    let s = store_size b p.0 p.1 (nat_lt p.0.at arena_at) (nat_lt p.0.at stack_at) (is_own b p.0.at) refl refl refl in
    let i = stores_size ps (bank_store b p.0 p.1) in
    record { base = i.base ∙ s.base; size = i.size ∙ s.size }

-- A move to the bank's own SP or above it uses no free word.
pub move_up : (b : Bank) (free : List ℕ) (sp : ℕ) → bank_sp b ≤ sp → bank_move (b, free) sp ≡ (record b { words = drop ((sp - bank_sp b) / 4) b.words }, free)
move_up b free sp h = let t : nat_lt sp (bank_sp b) ≡ false = grind (arith, nat_tests) in rw t refl

pub move_nowhere : (b : Bank) (free : List ℕ) → bank_move (b, free) (bank_sp b) ≡ (b, free)
move_nowhere b free = move_up b free (bank_sp b) (omega arith) ∙ ap (λ n. (record b { words = drop n b.words }, free)) (let z : (bank_sp b - bank_sp b) / 4 ≡ zero = omega arith in z)

-- What an instruction comes to over one bank, with these free words left.
pub data Steady : Type 0 where
  Went : Registers → Bank → Steady
  Asked_for : ℕ → Registers → Bank → Steady
  Failed : ℕ → Steady

abbrev pub with_free : List ℕ → Steady → Executed (Bank × List ℕ)
with_free free (Went r b) = Done r (b, free)
with_free free (Asked_for n r b) = Asked n r (b, free)
with_free free (Failed k) = Stopped k

abbrev pub ends : Bank → ℕ → Outcome → Steady
ends b sp (Goes r) = Went (record r { sp = sp }) (record b { words = drop ((sp - bank_sp b) / 4) b.words })
ends b sp (Asks n r) = Asked_for n (record r { sp = sp }) (record b { words = drop ((sp - bank_sp b) / 4) b.words })
ends b sp (Stops k) = Failed k

abbrev pub unless : Option ℕ → Steady → Steady
unless (Some k) x = Failed k
unless None x = x

pub unless_free : (free : List ℕ) (o : Option ℕ) (x : Steady) → or_else o (with_free free x) ≡ with_free free (unless o x)
unless_free free (Some k) x = refl
unless_free free None x = refl

ends_free : (b : Bank) (free : List ℕ) (sp : ℕ) (o : Outcome) → bank_sp b ≤ sp → after_move bank_move (finished (b, free) sp o) ≡ with_free free (ends b sp o)
ends_free b free sp (Goes r) h = ap (λ m. Done (record r { sp = sp }) m) (move_up b free sp h)
ends_free b free sp (Asks n r) h = ap (λ m. Asked n (record r { sp = sp }) m) (move_up b free sp h)
ends_free b free sp (Stops k) h = refl

pub after_else : (o : Option ℕ) (x : Executed (Bank × List ℕ)) → after_move bank_move (or_else o x) ≡ or_else o (after_move bank_move x)
after_else (Some k) x = refl
after_else None x = refl

abbrev pub stored : Bank → Effect → Bank
stored b e = (store_all bank_memory (b, []) e.stores).0

abbrev pub outcome : Bank → Effect → Steady
outcome b e =
    unless (first_fault bank_memory (b, []) false e.loads) (unless (first_fault bank_memory (b, []) true (map (λ p. p.0) e.stores)) (ends (stored b e) e.sp (e.after (map (value b) e.loads))))

-- An effect that leaves SP at the bank's own or above it.
pub up_free : (b : Bank) (free : List ℕ) (e : Effect) → list_all (is_plain b) e.loads ≡ true → bank_sp b ≤ e.sp → after_move bank_move (accessed bank_memory (b, free) e) ≡ with_free free (outcome b e)
up_free b free e h l =
    let q = loads_plain b free e.loads h in
    let t = stores_same e.stores b free in
    let f = faults_same false e.loads b b free [] refl in
    let g = faults_same true (map (λ p. p.0) e.stores) b b free [] refl in
    let s = stores_size e.stores b in
    let at : bank_sp (stored b e) ≤ e.sp = omega (arith, s.base, s.size) in
    let last = ends_free (stored b e) free e.sp (e.after (map (value b) e.loads)) at in
    rw (q, f, g, t) (
    after_else (first_fault bank_memory (b, []) false e.loads) _
    ∙ ap (λ x. or_else (first_fault bank_memory (b, []) false e.loads) x) (after_else (first_fault bank_memory (b, []) true (map (λ p. p.0) e.stores)) _
    ∙ ap (λ x. or_else (first_fault bank_memory (b, []) true (map (λ p. p.0) e.stores)) x) last
    ∙ unless_free free (first_fault bank_memory (b, []) true (map (λ p. p.0) e.stores)) (ends (stored b e) e.sp (e.after (map (value b) e.loads))))
    ∙ unless_free free (first_fault bank_memory (b, []) false e.loads) _)
