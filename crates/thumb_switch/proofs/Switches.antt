-- A switch that holds the routine's bytes.
use Rattle.std.proofs.Common.{zero, suc, ◌≡◌, ◌≢◌, ℕ, ◌+◌, ◌*◌, ◌-◌, ◌/◌, ◌%◌, ◌^◌, ◌<◌, ◌≤◌, List, [], ◌∷◌, length, take, drop, replicate, Option, Some, None, is_some, IsSome, IfSome, true, false, nat_lt, inl, inr, refl, sym, ap, ◌∙◌, subst, arith, slice_index, slice_index_or, slice_set, length-append, length-take, length-drop, min, cond}
use Rattle.std.proofs.lemmas.List.{ext_get_or, get_or-take, get_or-drop, length-replicate, set-get_or}
use Rattle.std.proofs.lemmas.Bool.Decides.{nat_tests}
use Rattle.std.proofs.lemmas.Bool.{false≢true}
use Rattle.slab.specs.Slab.{Slab, get, slab_len, ContainsKey, with_value, Updates}
use Rattle.std.proofs.lemmas.List.Sums.{sum_by-set}
use Rattle.slab.proofs.SlabLemmas.{ContainsKey-within}
use Rattle.thumb_code.specs.Map.{stack_at, ram_end, place}
use Rattle.thumb_code.specs.Machine.{State as Machine}
use Rattle.bank_model.specs.Standing.{words_in, IsInside}
use Rattle.fiber_pool.specs.Kept.{Kept, kept_at, or_unused, sized}
use Rattle.fiber_queues.specs.Lists.{ListsOf, Leads}
use Rattle.fiber_runtime.specs.declared.turning.Turning.{Turning}
use Rattle.fiber_runtime.specs.declared.blocking.Why.{Why}
use Rattle.fiber_runtime.specs.State.{State, ReachesBase, kept_of}
use Rattle.fiber_runtime.specs.Moves.{Blocked, Put, Resumed, joined, turning_of, Taken}
use Rattle.fiber_runtime.proofs.Laws.{taken_is_resumed}
use Rattle.thumb_switch.specs.Routine.{routine_bytes, routine_steps}
use Rattle.thumb_switch.specs.Space.{Space, record_at, switched}
use Rattle.thumb_switch.specs.Copies.{word_at, IsPlace, AreRanges, AreCopied, Copies}
use Rattle.thumb_switch.specs.Switching.{Held, counted, depth, over, out_by, in_by, with_stack, BlockedBy, ResumedBy}
use Rattle.thumb_switch.proofs.Whole.{copies}

zeros : (k : ℕ) (z : List ℕ) → z ≡ replicate k 0 → length z ≡ k
zeros k z e = ap length e ∙ length-replicate k 0

pub length_sized : (n : ℕ) (words : List ℕ) → length (sized n words) ≡ n
length_sized n words =
    let z : List ℕ = replicate (n - length words) 0 in
    length-append (take n words) z ∙ joined_sizes (length (take n words)) (length z) (length words) n (length-take n words) (zeros (n - length words) z refl)
  where
    joined_sizes : (a b l n : ℕ) → a ≡ min n l → b ≡ n - l → a + b ≡ n
    joined_sizes a b l n e f = omega arith

-- a word of the stack region
stack_place : (t : Space) (i : ℕ) → i < 1024 → IsPlace t (stack_at + 4 * i)
stack_place t i l = record {
  aligned = omega arith;
  there = inl (let a : nat_lt (stack_at + 4 * i) stack_at ≡ false = grind (arith, nat_tests) in let b : nat_lt (stack_at + 4 * i) ram_end ≡ true = grind (arith, nat_tests) in rw (a, b) refl);
  low = omega arith;
}

stack_word : (t : Space) (i : ℕ) → i < 1024 → word_at t (stack_at + 4 * i) ≡ slice_index t.stack i
stack_word t i l =
    let a : nat_lt (stack_at + 4 * i) stack_at ≡ false = grind (arith, nat_tests) in
    let b : nat_lt (stack_at + 4 * i) record_at ≡ true = grind (arith, nat_tests) in
    let c : (stack_at + 4 * i - stack_at) / 4 ≡ i = omega arith in
    rw (a, b) (ap (slice_index t.stack) c)

-- a word of the record
record_place : (t : Space) (i : ℕ) → i < length t.words → i < 1024 → IsPlace t (record_at + 4 * i)
record_place t i l m = record {
  aligned = omega arith;
  there = inr (
    (let a : nat_lt (record_at + 4 * i) stack_at ≡ false = grind (arith, nat_tests) in let b : nat_lt (record_at + 4 * i) ram_end ≡ false = grind (arith, nat_tests) in rw (a, b) refl),
    (let a : nat_lt (record_at + 4 * i) record_at ≡ false = grind (arith, nat_tests) in let b : nat_lt (record_at + 4 * i) (record_at + 4 * length t.words) ≡ true = grind (arith, nat_tests) in rw (a, b) refl),
  );
  low = omega arith;
}

record_word : (t : Space) (i : ℕ) → i < 1024 → word_at t (record_at + 4 * i) ≡ slice_index t.words i
record_word t i l =
    let a : nat_lt (record_at + 4 * i) stack_at ≡ false = grind (arith, nat_tests) in
    let b : nat_lt (record_at + 4 * i) record_at ≡ false = grind (arith, nat_tests) in
    let c : (record_at + 4 * i - record_at) / 4 ≡ i = omega arith in
    rw (a, b) (ap (slice_index t.words) c)

-- the words from SP to the base, one by one
length_between : (stack : List ℕ) (sp base : ℕ) → length stack ≡ 1024 → IsInside sp base → length (words_in stack sp base) ≡ (base - sp) / 4
length_between stack sp base size i =
    let a = length-take ((base - sp) / 4) (drop (place stack_at sp) stack) in
    let b = length-drop (place stack_at sp) stack in
    let l = i.low in let w = i.within in let h = i.high in let p = i.sp_aligned in let q = i.aligned in
    omega arith

between_word : (stack : List ℕ) (sp base j : ℕ) → j < (base - sp) / 4 → slice_index (words_in stack sp base) j ≡ slice_index stack (place stack_at sp + j)
between_word stack sp base j l = get_or-take ((base - sp) / 4) (drop (place stack_at sp) stack) j 0 l ∙ get_or-drop (place stack_at sp) stack j 0

from_sp : (t : Space) (sp j : ℕ) → sp % 4 ≡ 0 → stack_at ≤ sp → place stack_at sp + j < 1024 → word_at t (sp + 4 * j) ≡ slice_index t.stack (place stack_at sp + j)
from_sp t sp j a l m = (let e : sp + 4 * j ≡ stack_at + 4 * (place stack_at sp + j) = omega arith in ap (word_at t) e ∙ stack_word t (place stack_at sp + j) m)

-- the ranges of a block and of a resume
module _ (t : Space) (sp base : ℕ) (i : IsInside sp base) (size : length t.words ≡ (base - sp) / 4) where
  abbrev n : ℕ
  n = (base - sp) / 4

  few : (j : ℕ) → j < n → place stack_at sp + j < 1024
  few j l = (let a = i.low in let b = i.within in let h = i.high in let p = i.sp_aligned in let q = i.aligned in omega arith)

  on_stack : (j : ℕ) → j < n → IsPlace t (sp + 4 * j)
  on_stack j l =
      let m = few j l in let a = i.low in let p = i.sp_aligned in
      let e : stack_at + 4 * (place stack_at sp + j) ≡ sp + 4 * j = omega arith in
      subst (IsPlace t) e (stack_place t (place stack_at sp + j) m)

  in_words : (j : ℕ) → j < n → IsPlace t (record_at + 4 * j)
  in_words j l = (let m = few j l in record_place t j (omega arith) (omega arith))

  pub out_ranges : AreRanges t sp record_at n
  out_ranges = record { sources = on_stack; targets = in_words; apart = λ j k l m e. (let a = few j l in let h = i.high in let b = i.low in let p = i.sp_aligned in omega arith) }

  pub in_ranges : AreRanges t record_at sp n
  in_ranges = record { sources = in_words; targets = on_stack; apart = λ j k l m e. (let a = few k m in let h = i.high in let b = i.low in let p = i.sp_aligned in omega arith) }

module _ (t u : Space) (sp base : ℕ) (i : IsInside sp base) (stack : length t.stack ≡ 1024) (size : length t.words ≡ (base - sp) / 4) where
  -- behind a block the stack region is as it was, and the record has the words
  pub out_stack : AreCopied sp record_at ((base - sp) / 4) t u → u.stack ≡ t.stack
  out_stack c = ext_get_or 0 u.stack t.stack c.stack (λ j l.
      let m : j < 1024 = (let s = c.stack in omega arith) in
      sym (stack_word u j m) ∙ (c.elsewhere (stack_at + 4 * j) (stack_place t j m) (λ k o e. omega arith) ∙ stack_word t j m))

  pub out_words : AreCopied sp record_at ((base - sp) / 4) t u → u.words ≡ words_in t.stack sp base
  out_words c =
      let s = c.words in
      let b = length_between t.stack sp base stack i in
      ext_get_or 0 u.words (words_in t.stack sp base) (omega arith) (λ j l.
      let m = few t sp base i size j (omega arith) in
      sym (record_word u j (omega arith)) ∙ (c.there j (omega arith) ∙ (from_sp t sp j i.sp_aligned i.low m ∙ sym (between_word t.stack sp base j (omega arith)))))

  -- behind a resume the record is as it was, and its words stand in the stack region
  pub in_words_stay : AreCopied record_at sp ((base - sp) / 4) t u → u.words ≡ t.words
  in_words_stay c = ext_get_or 0 u.words t.words c.words (λ j l.
      let s = c.words in
      let m = few t sp base i size j (omega arith) in
      let h = i.high in let a = i.low in
      sym (record_word u j (omega arith)) ∙ (c.elsewhere (record_at + 4 * j) (record_place t j (omega arith) (omega arith)) (λ k o e. (let f = few t sp base i size k o in omega arith)) ∙ record_word t j (omega arith)))

  pub in_put : AreCopied record_at sp ((base - sp) / 4) t u → (words_in u.stack sp base ≡ t.words) × (take (place stack_at sp) u.stack ≡ take (place stack_at sp) t.stack) × (drop (place stack_at base) u.stack ≡ drop (place stack_at base) t.stack)
  in_put c =
      let s = c.stack in
      let us : length u.stack ≡ 1024 = s ∙ stack in
      let b = length_between u.stack sp base us i in
      let lo = i.low in let hi = i.high in let w = i.within in let p = i.sp_aligned in let q = i.aligned in
      let other : (j : ℕ) → j < 1024 → ((k : ℕ) → k < (base - sp) / 4 → stack_at + 4 * j ≢ sp + 4 * k) → slice_index u.stack j ≡ slice_index t.stack j =
      (λ j m o. sym (stack_word u j m) ∙ (c.elsewhere (stack_at + 4 * j) (stack_place t j m) o ∙ stack_word t j m)) in
      let lt = length-take (place stack_at sp) u.stack in
      let lt' = length-take (place stack_at sp) t.stack in
      let ld = length-drop (place stack_at base) u.stack in
      let ld' = length-drop (place stack_at base) t.stack in (
        ext_get_or 0 (words_in u.stack sp base) t.words (omega arith) (λ j l.
            let m = few t sp base i size j (omega arith) in
            between_word u.stack sp base j (omega arith) ∙ (sym (from_sp u sp j i.sp_aligned i.low m) ∙ (c.there j (omega arith) ∙ record_word t j (omega arith)))),
        ext_get_or 0 (take (place stack_at sp) u.stack) (take (place stack_at sp) t.stack) (omega arith) (λ j l.
            get_or-take (place stack_at sp) u.stack j 0 (omega arith) ∙ (other j (omega arith) (λ k o e. omega arith) ∙ sym (get_or-take (place stack_at sp) t.stack j 0 (omega arith)))),
        ext_get_or 0 (drop (place stack_at base) u.stack) (drop (place stack_at base) t.stack) (omega arith) (λ j l.
            get_or-drop (place stack_at base) u.stack j 0 ∙ (other (place stack_at base + j) (omega arith) (λ k o e. omega arith) ∙ sym (get_or-drop (place stack_at base) t.stack j 0))),
      )

back : (a b c : ℕ) → a + c ≡ b + 1 → c ≡ 1 → a ≡ b
back a b c e f = omega arith

-- how many records are live, where a live one is changed
pub len_same : (pool : Slab Kept) (key : ℕ) (k : Kept) → ContainsKey pool key → slab_len (with_value pool key k) ≡ slab_len pool
len_same pool key k l = by_slot (get pool key) refl l
  where
    by_slot : (o : Option Kept) → get pool key ≡ o → IsSome o → slab_len (with_value pool key k) ≡ slab_len pool
    by_slot None e s = absurd (false≢true s)
    by_slot (Some x) e s =
        let one : cond (is_some (slice_index_or pool.slots key None)) 1 0 ≡ 1 = ap (λ o. cond (is_some o) 1 0) e in
        let w = sum_by-set (λ (o : Option Kept). cond (is_some o) 1 0) pool.slots key (Some k) None (ContainsKey-within pool key l) in
        back (slab_len (with_value pool key k)) (slab_len pool) _ w one

-- how the routine executes where a fiber blocks
module _ (m : Machine) (words : List ℕ) (size : length m.memory.stack ≡ 1024) (i : IsInside m.registers.sp m.memory.base) where
  abbrev before : Space
  before = over routine_bytes m.memory.stack (sized (depth m) words)

  pub out_copies : Copies m.registers.sp record_at (depth m) before
  out_copies =
      let ls = length_sized (depth m) words in
      let few : depth m < 2 ^ 12 = (let h = i.high in let l = i.low in omega arith) in
      copies m.registers.sp record_at (depth m) before refl size (out_ranges before m.registers.sp m.memory.base i ls) few

  pub out_steps : (bytes : List ℕ) (steps : ℕ) (u : Space) → bytes ≡ routine_bytes → out_by bytes m words ≡ (steps, u) → steps ≡ routine_steps (depth m)
  out_steps bytes steps u held x =
      let c = out_copies in
      let same : (c.steps, c.left) ≡ (steps, u) = sym c.executes ∙ (ap (λ b. out_by b m words) (sym held) ∙ x) in
      ap (λ (e : ℕ × Space). e.0) (sym same) ∙ c.exact

pub blocked_by_routine : (key now : ℕ) (t : Turning) (why : Why) (h h' : Held) (old new : State) → h.bytes ≡ routine_bytes → length old.machine.memory.stack ≡ 1024
    → IsInside old.machine.registers.sp old.machine.memory.base → BlockedBy key t why now h h' old new → Blocked key t why now old new
blocked_by_routine key now t why h h' old new held size i b =
    let m = old.machine in
    let n = depth m in
    let words = (kept_at old.pool key).words in
    let s = over routine_bytes m.memory.stack (sized n words) in
    let ls = length_sized n words in
    let c = out_copies m words size i in
    let same : (c.steps, c.left) ≡ (b.steps, b.left) = sym c.executes ∙ (ap (λ bytes. out_by bytes m words) (sym held) ∙ b.executes) in
    let left : c.left ≡ b.left = ap (λ (e : ℕ × Space). e.1) same in
    let copied = subst (AreCopied m.registers.sp record_at n s) left c.copied in
    let stack : b.left.stack ≡ m.memory.stack = out_stack s b.left m.registers.sp m.memory.base i size ls copied in
    let kept : b.left.words ≡ words_in m.memory.stack m.registers.sp m.memory.base = out_words s b.left m.registers.sp m.memory.base i size ls copied in
    record {
      updates = subst (λ ws. Updates old.pool new.pool key (Some (record (kept_of m t) { words = ws }))) kept b.updates;
      live = b.live;
      rest = b.rest ∙ ap (λ (ws : List ℕ). record old { machine = with_stack m ws; pool = new.pool; running = None; lists = joined why now key old.lists }) stack;
    }

-- what a record has at its key is there already
kept_there : (pool : Slab Kept) (key : ℕ) (k : Kept) → get pool key ≡ Some k → with_value pool key k ≡ pool
kept_there pool key k e =
    let same : slice_set pool.slots key (Some k) ≡ pool.slots = ap (slice_set pool.slots key) (sym e) ∙ set-get_or pool.slots key None in
    ap (λ (s : List (Option Kept)). record pool { slots = s }) same

-- what an execution leaves that resumes
pub record Left (k : Kept) (stack : List ℕ) (left : Space) : Type 0 where
  pub words : left.words ≡ k.words
  pub put : Put k stack left.stack

no_words : (xs : List ℕ) → length xs ≡ 0 → xs ≡ []
no_words [] e = refl
no_words (x ∷ xs) e = absurd (omega arith)

module _ (k : Kept) (stack : List ℕ) (fits : ReachesBase k) (size : length stack ≡ 1024) where
  abbrev s : Space
  s = over routine_bytes stack k.words

  none_left : (u : Space) → length k.words ≡ 0 → AreCopied record_at k.registers.sp (length k.words) s u → Left k stack u
  none_left u e c =
      let us : u.stack ≡ stack = ext_get_or 0 u.stack stack c.stack (λ j l.
      let m : j < 1024 = (let q = c.stack in omega arith) in
      sym (stack_word u j m) ∙ (c.elsewhere (stack_at + 4 * j) (stack_place s j m) (λ i o h. absurd (omega arith)) ∙ stack_word s j m)) in
      let z : (k.base - k.registers.sp) / 4 ≡ 0 = (let f = fits.span in omega arith) in
      let cw = c.words in
      record {
        words = no_words u.words (omega arith) ∙ sym (no_words k.words e);
        put = record {
          words = ap (λ j. take j (drop (place stack_at k.registers.sp) u.stack)) z ∙ sym (no_words k.words e);
          below = ap (take (place stack_at k.registers.sp)) us;
          above = λ l. absurd (omega arith);
          size = c.stack;
        };
      }

  some_left : (u : Space) → (i : IsInside k.registers.sp k.base) → length k.words ≡ (k.base - k.registers.sp) / 4 → AreCopied record_at k.registers.sp ((k.base - k.registers.sp) / 4) s u → Left k stack u
  some_left u i n c =
      let p = in_put s u k.registers.sp k.base i size n c in
      record {
        words = in_words_stay s u k.registers.sp k.base i size n c;
        put = record { words = p.0; below = p.1; above = λ l. p.2; size = c.stack };
      }

  none_moved : (a b : ℕ) → AreRanges s a b 0
  none_moved a b = record { sources = λ i l. absurd (omega arith); targets = λ i l. absurd (omega arith); apart = λ i j l m. absurd (omega arith) }

  pub came : (n : ℕ) → length k.words ≡ n → (steps : ℕ) × (u : Space) × (switched record_at k.registers.sp (length k.words) s ≡ (steps, u)) × (steps ≡ routine_steps (length k.words)) × Left k stack u
  came zero e =
      let c = copies record_at k.registers.sp (length k.words) s refl size (subst (AreRanges s record_at k.registers.sp) (sym e) (none_moved record_at k.registers.sp)) (omega arith) in
      (c.steps, c.left, c.executes, c.exact, none_left c.left e c.copied)
  came (suc n) e =
      let i = fits.inside (omega arith) in
      let span = fits.span in
      let m : length k.words ≡ (k.base - k.registers.sp) / 4 = omega arith in
      let few : length k.words < 2 ^ 12 = (let h = i.high in let l = i.low in omega arith) in
      let c = copies record_at k.registers.sp (length k.words) s refl size (subst (AreRanges s record_at k.registers.sp) (sym m) (in_ranges s k.registers.sp k.base i m)) few in
      (c.steps, c.left, c.executes, c.exact, some_left c.left i m (subst (λ j. AreCopied record_at k.registers.sp j s c.left) m c.copied))

pub resumed_by_routine : (h h' : Held) (old new : State) → h.bytes ≡ routine_bytes → length old.machine.memory.stack ≡ 1024 → ResumedBy h h' old new → Resumed old new
resumed_by_routine h h' old new held size r =
    let k = r.kept in
    let stack = old.machine.memory.stack in
    let c = came k stack r.fits size (length k.words) refl in
    let same : (c.0, c.1) ≡ (r.steps, r.left) = sym c.2 ∙ (ap (λ bytes. in_by bytes stack k) (sym held) ∙ r.executes) in
    let left : c.1 ≡ r.left = ap (λ (e : ℕ × Space). e.1) same in
    let l = subst (Left k stack) left c.4 in
    let pool : with_value old.pool r.key (record k { words = r.left.words }) ≡ old.pool = ap (λ ws. with_value old.pool r.key (record k { words = ws })) l.words ∙ kept_there old.pool r.key k r.found in
    let machine : new.machine ≡ record { registers = k.registers; memory = record old.machine.memory { base = k.base; stack = r.left.stack } } = ap (λ (s : State). s.machine) r.rest in
    let taken : Taken (record old { machine = with_stack old.machine r.left.stack }) new = record {
      key = r.key;
      kept = k;
      next = record {
        first = r.first;
        found = r.found;
        rest = r.rest
            ∙ (ap (λ p. record old { machine = record { registers = k.registers; memory = record old.machine.memory { base = k.base; stack = r.left.stack } }; pool = p; running = Some (turning_of r.key k); lists = new.lists }) pool
            ∙ ap (λ (m : Machine). record old { machine = m; running = Some (turning_of r.key k); lists = new.lists }) (sym machine));
      };
      machine = machine;
    } in
    taken_is_resumed old new r.left.stack taken r.fits l.put

-- and counts the routine's instructions
pub block_counts : (key now : ℕ) (t : Turning) (why : Why) (h h' : Held) (old new : State) → h.bytes ≡ routine_bytes → length old.machine.memory.stack ≡ 1024
    → IsInside old.machine.registers.sp old.machine.memory.base → BlockedBy key t why now h h' old new → h' ≡ counted h (routine_steps (depth old.machine))
block_counts key now t why h h' old new held size i b = b.counts ∙ ap (counted h) (out_steps old.machine (kept_at old.pool key).words size i h.bytes b.steps b.left held b.executes)

pub resume_counts : (h h' : Held) (old new : State) → h.bytes ≡ routine_bytes → length old.machine.memory.stack ≡ 1024 → (r : ResumedBy h h' old new) → h' ≡ counted h (routine_steps (length r.kept.words))
resume_counts h h' old new held size r =
    let k = r.kept in
    let stack = old.machine.memory.stack in
    let c = came k stack r.fits size (length k.words) refl in
    let same : (c.0, c.1) ≡ (r.steps, r.left) = sym c.2 ∙ (ap (λ bytes. in_by bytes stack k) (sym held) ∙ r.executes) in
    let steps : r.steps ≡ routine_steps (length k.words) = ap (λ (e : ℕ × Space). e.0) (sym same) ∙ c.3 in
    r.counts ∙ ap (counted h) steps

-- whoever runs and has a record
pub who_blocks : (o : Option Turning) → IsSome o → IfSome o (λ t. IsSome t.key) → (t : Turning) × (key : ℕ) × (o ≡ Some t) × (t.key ≡ Some key)
who_blocks None r k = absurd (false≢true r)
who_blocks (Some t) r k = by_key t.key refl k
  where
    by_key : (o : Option ℕ) → t.key ≡ o → IsSome o → (u : Turning) × (key : ℕ) × (Some t ≡ Some u) × (u.key ≡ Some key)
    by_key (Some key) e s = (t, key, refl, e)
    by_key None e s = absurd (false≢true s)

-- the words of the first ready fiber
pub first_words : (h h' : Held) (old new : State) (r : ResumedBy h h' old new) (key : ℕ) → Leads key old.lists.ready → length r.kept.words ≡ length (kept_at old.pool key).words
first_words h h' old new r key leads =
    let e : key ≡ r.key = subst (Leads key) (ap (λ (q : ListsOf ℕ). q.ready) r.first) leads in
    sym (ap (λ j. length (kept_at old.pool j).words) e ∙ ap (λ o. length (or_unused o).words) r.found)
