-- The bank does what one RAM does.
use Rattle.std.proofs.Common.{zero, suc, ◌≡◌, ℕ, ◌+◌, ◌-◌, ◌/◌, ◌%◌, ◌<◌, ◌≤◌, List, [], ◌∷◌, ◌++◌, length, drop, slice_index, Bool, true, false, nat_lt, ◌==◌, Option, Some, None, refl, ap, ◌∙◌, subst, arith, inl, length-set, length-drop}
use Rattle.std.proofs.lemmas.Bool.Decides.{nat_tests}
use Rattle.thumb_code.specs.Faults.{unaligned, out_of_map, above_base}
use Rattle.thumb_code.specs.Forms.{Access}
use Rattle.thumb_code.specs.Map.{globals_at, arena_at, stack_at, ram_end, in_ram, place, merged, changed, word_in, access_fault, sp_in_range}
use Rattle.thumb_code.specs.Machine.{Ram, ram_load, ram_store, ram_memory}
use Rattle.thumb_code.proofs.Laws.{Refines}
use Rattle.bank_model.specs.Bank.{Bank, bank_sp, is_own, lowered, bank_load, bank_store, bank_move, bank_memory}
use Rattle.bank_model.specs.Standing.{Shows, IsPart}
use Rattle.bank_model.proofs.Parts.{part_set_out, part_drop, part_cons, part_changed}

lt_true : (a b : ℕ) → nat_lt a b ≡ true → a < b
lt_true a b e = grind (arith, nat_tests)

lt_false : (a b : ℕ) → nat_lt a b ≡ false → b ≤ a
lt_false a b e = grind (arith, nat_tests)

own_true : (b : Bank) (at : ℕ) → is_own b at ≡ true → (bank_sp b ≤ at) × (at < b.base)
own_true b at e = grind (arith, nat_tests)

abbrev Loads : Ram → Bank → Access → Type 0
Loads s u a = (used : List ℕ) × ((rest : List ℕ) → bank_load u (used ++ rest) a ≡ (ram_load s a, (u, rest)))

load_cases : (at : ℕ) (s : Ram) (u : Bank) (a : Access) → Shows at s u → (t1 t2 t3 t4 : Bool) → nat_lt a.at globals_at ≡ t1 → nat_lt a.at arena_at ≡ t2 → nat_lt a.at stack_at ≡ t3 → is_own u a.at ≡ t4 → Loads s u a
load_cases at s u a h true t2 t3 t4 e1 e2 e3 e4 = ([], λ rest. let f = h.flash in rw (e1, f) refl)
load_cases at s u a h false true t3 t4 e1 e2 e3 e4 = ([], λ rest. let f = h.globals in rw (e1, e2, f) refl)
load_cases at s u a h false false true t4 e1 e2 e3 e4 = ([], λ rest. let f = h.arena in rw (e1, e2, e3, f) refl)
load_cases at s u a h false false false true e1 e2 e3 e4 =
    let l = lt_false _ _ e3 in let o = own_true u a.at e4 in
    let q = h.words.same (place (bank_sp u) a.at) (omega (arith, h.low, h.base, h.aligned)) in
    let p : place stack_at (bank_sp u) + place (bank_sp u) a.at ≡ place stack_at a.at = omega (arith, h.low, h.base, h.aligned) in
    ([], λ rest. rw (e1, e2, e3, e4, q, p) refl)
load_cases at s u a h false false false false e1 e2 e3 e4 =
    (word_in s.stack stack_at a.at ∷ [], λ rest. rw (e1, e2, e3, e4) refl)

pub record CanStore (base at : ℕ) : Type 0 where
  pub high : at < ram_end
  pub own : stack_at ≤ at → at < base

ram_true : (at : ℕ) → in_ram at ≡ true → at < ram_end
ram_true at e = grind (arith, nat_tests)

can_store_cases : (base : ℕ) (a : Access) → (t1 t2 t3 t4 : Bool) → (a.at % a.bytes == 0) ≡ t1 → in_ram a.at ≡ t2 → nat_lt a.at stack_at ≡ t3 → nat_lt a.at base ≡ t4 → access_fault base true a ≡ None → CanStore base a.at
can_store_cases base a false t2 t3 t4 e1 e2 e3 e4 h = let k : ◌≡◌ {A = Option ℕ} (Some unaligned) None = rw e1 at h in cc
can_store_cases base a true false t3 t4 e1 e2 e3 e4 h = let k : ◌≡◌ {A = Option ℕ} (Some out_of_map) None = rw (e1, e2) at h in cc
can_store_cases base a true true true t4 e1 e2 e3 e4 h =
    let r = ram_true a.at e2 in let l = lt_true _ _ e3 in record { high = r; own = λ q. omega arith }
can_store_cases base a true true false true e1 e2 e3 e4 h =
    let r = ram_true a.at e2 in let l = lt_true _ _ e4 in record { high = r; own = λ q. l }
can_store_cases base a true true false false e1 e2 e3 e4 h = let k : ◌≡◌ {A = Option ℕ} (Some above_base) None = rw (e1, e2, e3, e4) at h in cc

below_sp : (b : Bank) (at : ℕ) → at < b.base → is_own b at ≡ false → at < bank_sp b
below_sp b at h e = grind (arith, nat_tests)

abbrev Stores : ℕ → Ram → Bank → Access → ℕ → Type 0
Stores at s u a v = Shows at (ram_store s a v) (bank_store u a v)

store_cases : (at : ℕ) (s : Ram) (u : Bank) (a : Access) (v : ℕ) → Shows at s u → CanStore s.base a.at → (t2 t3 t4 : Bool) → nat_lt a.at arena_at ≡ t2 → nat_lt a.at stack_at ≡ t3 → is_own u a.at ≡ t4 → Stores at s u a v
store_cases at s u a v h n true t3 t4 e2 e3 e4 =
    rw e2 (record {
      flash = h.flash;
      globals = ap (λ ws. changed ws globals_at a v) h.globals;
      arena = h.arena;
      base = h.base;
      aligned = h.aligned;
      low = h.low;
      high = h.high;
      size = h.size;
      sp_is = h.sp_is;
      words = h.words;
    })
store_cases at s u a v h n false true t4 e2 e3 e4 =
    rw (e2, e3) (record {
      flash = h.flash;
      globals = h.globals;
      arena = ap (λ ws. changed ws arena_at a v) h.arena;
      base = h.base;
      aligned = h.aligned;
      low = h.low;
      high = h.high;
      size = h.size;
      sp_is = h.sp_is;
      words = h.words;
    })
store_cases at s u a v h n false false true e2 e3 e4 =
    let l = lt_false _ _ e3 in
    let o = own_true u a.at e4 in
    let p = place stack_at a.at in
    let k = place (bank_sp u) a.at in
    let w = merged a v (slice_index s.stack p) in
    let n' = length-set u.words k (merged a v (slice_index u.words k)) in
    let b = h.base in let al = h.aligned in let lo = h.low in
    rw (e2, e3, e4) (record {
      flash = h.flash;
      globals = h.globals;
      arena = h.arena;
      base = h.base;
      aligned = h.aligned;
      low = omega arith;
      high = h.high;
      size = length-set s.stack p w ∙ h.size;
      sp_is = rw n' h.sp_is;
      words = rw n' (part_changed (merged a v) s.stack u.words (place stack_at (bank_sp u)) k p h.words (omega arith) (omega arith));
    })
store_cases at s u a v h n false false false e2 e3 e4 =
    let l = lt_false _ _ e3 in
    let p = place stack_at a.at in
    let w = merged a v (slice_index s.stack p) in
    let b = h.base in let al = h.aligned in let lo = h.low in
    let below : a.at < bank_sp u = below_sp u a.at (omega (arith, n.own l)) e4 in
    rw (e2, e3, e4) (record {
      flash = h.flash;
      globals = h.globals;
      arena = h.arena;
      base = h.base;
      aligned = h.aligned;
      low = h.low;
      high = h.high;
      size = length-set s.stack p w ∙ h.size;
      sp_is = h.sp_is;
      words = part_set_out s.stack u.words _ p w h.words (inl (omega arith));
    })

-- The words below a place, going down.
abbrev down : List ℕ → ℕ → ℕ → List ℕ
down xs p zero = []
down xs p (suc k) = slice_index xs (p - 1) ∷ down xs (p - 1) k

lower_follow : (k : ℕ) (xs ys : List ℕ) (p : ℕ) → IsPart xs p ys → k ≤ p
    → (ys' : List ℕ) × ((rest : List ℕ) → lowered k ys (down xs p k ++ rest) ≡ (ys', rest)) × IsPart xs (p - k) ys' × (length ys' ≡ k + length ys)
lower_follow zero xs ys p h l = (ys, (λ rest. refl), subst (λ i. IsPart xs i ys) (omega arith) h, omega arith)
lower_follow (suc k) xs ys p h l =
    let c = part_cons xs ys p (p - 1) h (omega arith) in
    let i = lower_follow k xs (slice_index xs (p - 1) ∷ ys) (p - 1) c (omega arith) in
    (i.0, i.1, subst (λ j. IsPart xs j i.0) (omega arith) i.2, omega (arith, i.3))

abbrev CanMove : ℕ → ℕ → Type 0
CanMove base n = (stack_at ≤ n) × (n ≤ base)

range_true : (base n : ℕ) → sp_in_range base n ≡ true → CanMove base n
range_true base n e = grind (arith, nat_tests)

range_is : (base n : ℕ) → stack_at ≤ n → n ≤ base → sp_in_range base n ≡ true
range_is base n h k = grind (arith, nat_tests)

abbrev Moves : Ram → Bank → ℕ → Type 0
Moves s u n = (used : List ℕ) × (u' : Bank) × ((rest : List ℕ) → bank_move (u, used ++ rest) n ≡ (u', rest)) × Shows n s u'

move_cases : (at : ℕ) (s : Ram) (u : Bank) (n : ℕ) → Shows at s u → CanMove s.base n → n % 4 ≡ 0 → (t : Bool) → nat_lt n (bank_sp u) ≡ t → Moves s u n
move_cases at s u n h r d true e =
    let l = lt_true _ _ e in
    let b = h.base in let al = h.aligned in let lo = h.low in
    let k = (bank_sp u - n) / 4 in
    let f = lower_follow k s.stack u.words (place stack_at (bank_sp u)) h.words (omega arith) in
    let len = f.3 in (
      down s.stack (place stack_at (bank_sp u)) k,
      record u { words = f.0 },
      (λ rest. let g = f.1 rest in rw (e, g) refl),
      record {
        flash = h.flash;
        globals = h.globals;
        arena = h.arena;
        base = h.base;
        aligned = h.aligned;
        low = omega arith;
        high = h.high;
        size = h.size;
        sp_is = omega arith;
        words = subst (λ j. IsPart s.stack j f.0) (omega arith) f.2;
      },
    )
move_cases at s u n h r d false e =
    let l = lt_false _ _ e in
    let b = h.base in let al = h.aligned in let lo = h.low in
    let k = (n - bank_sp u) / 4 in
    let len = length-drop k u.words in (
      [],
      record u { words = drop k u.words },
      (λ rest. rw e refl),
      record {
        flash = h.flash;
        globals = h.globals;
        arena = h.arena;
        base = h.base;
        aligned = h.aligned;
        low = omega arith;
        high = h.high;
        size = h.size;
        sp_is = omega arith;
        words = part_drop s.stack u.words (place stack_at (bank_sp u)) k _ h.words (omega arith) (omega arith);
      },
    )

base_cases : (s : Ram) (a : Access) (v : ℕ) (t2 t3 : Bool) → nat_lt a.at arena_at ≡ t2 → nat_lt a.at stack_at ≡ t3 → (ram_store s a v).base ≡ s.base
base_cases s a v true t3 e2 e3 = rw e2 refl
base_cases s a v false true e2 e3 = rw (e2, e3) refl
base_cases s a v false false e2 e3 = rw (e2, e3) refl

-- A store leaves the base.
pub store_keeps_base : (s : Ram) (a : Access) (v : ℕ) → (ram_store s a v).base ≡ s.base
store_keeps_base s a v = base_cases s a v (nat_lt a.at arena_at) (nat_lt a.at stack_at) refl refl

-- The bank refines the RAM.
pub bank_refines : Refines ram_memory bank_memory bank_move Shows
bank_refines = record {
  fault = λ at s u free h b a. let e = h.base in rw e refl;
  has_sp = λ at s u free h n. let e = h.base in rw e refl;
  sp_in = λ at s u h. (range_is s.base at (omega (arith, h.low, h.base, h.sp_is)) (omega (arith, h.sp_is, h.base)), omega (arith, h.sp_is, h.low, h.base, h.aligned));
  load = λ at s u h a n. load_cases at s u a h (nat_lt a.at globals_at) (nat_lt a.at arena_at) (nat_lt a.at stack_at) (is_own u a.at) refl refl refl refl;
  loads_same = λ s a. refl;
  store = λ at s u h a v n.
      let c = can_store_cases s.base a (a.at % a.bytes == 0) (in_ram a.at) (nat_lt a.at stack_at) (nat_lt a.at s.base) refl refl refl refl n in
      (bank_store u a v, (λ rest. refl), store_cases at s u a v h c (nat_lt a.at arena_at) (nat_lt a.at stack_at) (is_own u a.at) refl refl refl);
  store_keeps = λ s a v b x. ap (λ n. access_fault n b x) (store_keeps_base s a v);
  store_keeps_sp = λ s a v n. ap (λ k. sp_in_range k n) (store_keeps_base s a v);
  move = λ at s u h n r d. move_cases at s u n h (range_true s.base n r) d (nat_lt n (bank_sp u)) refl;
}
