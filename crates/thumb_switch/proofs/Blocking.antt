-- What a switch's bytes leave of a runtime where a fiber blocks.
use Rattle.std.proofs.Common.{◌≡◌, ℕ, zero, suc, ◌+◌, ◌*◌, ◌-◌, ◌/◌, ◌≤◌, ◌==◌, List, length, Option, Some, None, is_some, IfSome, Bool, true, false, nat_lt, refl, sym, ap, ◌∙◌, subst, arith}
use Rattle.std.proofs.lemmas.List.{length-set}
use Rattle.slab.specs.Slab.{Slab, ContainsKey, Updates}
use Rattle.slab.proofs.SlabLemmas.{Updates-with_value}
use Rattle.thumb_code.specs.declared.register_file.Registers.{Registers}
use Rattle.thumb_code.specs.Forms.{Access}
use Rattle.thumb_code.specs.Effect.{effect}
use Rattle.thumb_code.specs.Memory.{Executed, Done, Asked, Stopped, execute}
use Rattle.thumb_code.specs.Step.{Fetched, Found, Missed, Stepped, On, Served, Faulted, stepped_at, ran}
use Rattle.fiber_pool.specs.Kept.{Kept, kept_at, or_unused, sized, with_words}
use Rattle.fiber_runtime.specs.declared.turning.Turning.{Turning}
use Rattle.fiber_runtime.specs.declared.blocking.Why.{Why}
use Rattle.fiber_runtime.specs.Moves.{BlocksWith, Parked}
use Rattle.fiber_runtime.specs.State.{State, running_key}
use Rattle.thumb_switch.specs.Space.{Space, space_memory, fetched_in, step_in, executed, behind_step, back_at, record_at, called, switched, most_instructions}
use Rattle.thumb_switch.specs.Desk.{words_of, on_desk}
use Rattle.thumb_switch.specs.Running.{put, IsKnown}
use Rattle.thumb_switch.specs.Switching.{Held, counted, depth, over, BlockedBy}
use Rattle.thumb_switch.specs.declared.desk.Desk.{Desk}
use Rattle.thumb_switch.proofs.Mapped.{OnMemory, IsSeen, execute_keeps, words_set}
use Rattle.bank_model.specs.Standing.{IsInside}
use Rattle.thumb_switch.proofs.Switches.{len_same, length_sized}

steps_at_most : (n : ℕ) (go : Registers → Space → ℕ × Space) (t : Space) (x : Stepped Space) → ((q : Registers) (u : Space) → (go q u).0 ≤ n) → (behind_step go t x).0 ≤ suc n
steps_at_most n go t (On q u) h = (let l = h q u in omega arith)
steps_at_most n go t (Served k q u) h = omega arith
steps_at_most n go t (Faulted k at) h = omega arith

-- no more are executed than may be
pub at_most : (n : ℕ) (r : Registers) (t : Space) → (executed n r t).0 ≤ n
unfolding executed
at_most zero r t = omega arith
at_most (suc n) r t = by_test (at_most n) (r.pc == back_at) refl
  where
    by_test : ((q : Registers) (u : Space) → (executed n q u).0 ≤ n) → (b : Bool) → (r.pc == back_at) ≡ b → (executed (suc n) r t).0 ≤ suc n
    by_test l true e = rw e (omega arith)
    by_test l false e = rw e (steps_at_most n (executed n) t (step_in t r) l)

-- so many words in the stack region and the record
abbrev pub HasSizes : ℕ → ℕ → Space → Type 0
HasSizes a b u = (length u.stack ≡ a) × (length u.words ≡ b)

module _ (a b : ℕ) where
  stored_sizes : (t : Space) (x : Access) (v : ℕ) → HasSizes a b t → HasSizes a b (space_memory.store t x v)
  stored_sizes t x v h = by_test (nat_lt x.at record_at) refl
    where
      by_test : (c : Bool) → nat_lt x.at record_at ≡ c → HasSizes a b (space_memory.store t x v)
      by_test true e = rw e (length-set t.stack _ _ ∙ h.0, h.1)
      by_test false e = rw e (h.0, length-set t.words _ _ ∙ h.1)

  itself : IsSeen space_memory space_memory (λ t. t) (HasSizes a b)
  itself = record { fault = λ d c x. refl; load = λ d x. refl; loads = λ u x. refl; store = λ d x v k. refl; lives = stored_sizes; has_sp = λ d sp. refl }

  abbrev OnStep : Stepped Space → Type 0
  OnStep (On q u) = HasSizes a b u
  OnStep (Served n q u) = Unit {0}
  OnStep (Faulted k at) = Unit {0}

  placed_sizes : (at : ℕ) (x : Executed Space) → OnMemory (HasSizes a b) x → OnStep (stepped_at at x)
  placed_sizes at (Done q u) h = h
  placed_sizes at (Asked n q u) h = tt
  placed_sizes at (Stopped k) h = tt

  ran_sizes : (t : Space) (r : Registers) (f : Fetched) → HasSizes a b t → OnStep (ran (execute space_memory t) r f)
  ran_sizes t r (Found i next) h = placed_sizes r.pc (execute space_memory t (effect next r i)) (execute_keeps space_memory space_memory (λ u. u) (HasSizes a b) itself t (effect next r i) h)
  ran_sizes t r (Missed k at) h = tt

  behind_sizes : (go : Registers → Space → ℕ × Space) (t : Space) (x : Stepped Space) → HasSizes a b t → OnStep x → ((q : Registers) (u : Space) → HasSizes a b u → HasSizes a b (go q u).1) → HasSizes a b (behind_step go t x).1
  behind_sizes go t (On q u) h s f = f q u s
  behind_sizes go t (Served n q u) h s f = h
  behind_sizes go t (Faulted k at) h s f = h

  pub sizes : (n : ℕ) (r : Registers) (t : Space) → HasSizes a b t → HasSizes a b (executed n r t).1
  unfolding executed
  sizes zero r t h = h
  sizes (suc n) r t h = by_test (sizes n) (r.pc == back_at) refl
    where
      by_test : ((q : Registers) (u : Space) → HasSizes a b u → HasSizes a b (executed n q u).1) → (c : Bool) → (r.pc == back_at) ≡ c → HasSizes a b (executed (suc n) r t).1
      by_test l true e = rw e h
      by_test l false e = rw e (behind_sizes (executed n) t (step_in t r) h (ran_sizes t r (fetched_in t r.pc) h) l)

-- a record's size is set
abbrev pub resized : State → ℕ → ℕ → State
resized s key n = record s { pool = with_words s.pool key (sized n (kept_at s.pool key).words) }

pub still_live : (pool : Slab Kept) (key : ℕ) (ws : List ℕ) → ContainsKey pool key → ContainsKey (with_words pool key ws) key
still_live pool key ws l = ap (λ o. is_some o) (words_set pool key ws l)

-- the bytes are executed over a desk of the sized record, and then the fiber is parked
pub blocked_by : (d e : Desk) (s new : State) (t : Turning) (why : Why) (now steps : ℕ) (h : Held) → h.bytes ≡ d.code.now → ContainsKey s.pool d.key → d.runtime.now ≡ resized s d.key (depth s.machine)
    → executed (8 * depth s.machine + 40) (called s.machine.registers.sp record_at (depth s.machine)) (on_desk d) ≡ (steps, on_desk e) → IsKnown d e
    → Parked d.key t why now e.runtime.now new → BlockedBy d.key t why now h (counted h steps) s new
blocked_by d e s new t why now steps h held live is ran' k parked =
    let n : ℕ = depth s.machine in
    let ws : List ℕ = sized n (kept_at s.pool d.key).words in
    let one : State = resized s d.key n in
    let left : Space = on_desk e in
    let two : State = put one d.key left in
    let there : ContainsKey one.pool d.key = still_live s.pool d.key ws live in
    let came : e.runtime.now ≡ two = k.runtime ∙ ap (λ x. put x d.key left) is in
    let p : Parked d.key t why now two new = subst (λ x. Parked d.key t why now x new) came parked in
    let found = words_set one.pool d.key left.words there in
    let b : BlocksWith left.words d.key t why now two new = subst (λ ws. BlocksWith ws d.key t why now two new) (ap (λ o. (or_unused o).words) found) p in
    let u = b.updates in
    let first : Updates s.pool one.pool d.key _ = Updates-with_value s.pool d.key (record (kept_at s.pool d.key) { words = ws }) live in
    let second : Updates one.pool two.pool d.key _ = Updates-with_value one.pool d.key (record (kept_at one.pool d.key) { words = left.words }) there in
    let words : words_of d.runtime.now d.key ≡ ws = ap (λ x. words_of x d.key) is ∙ ap (λ o. (or_unused o).words) (words_set s.pool d.key ws live) in
    let stack : d.runtime.now.machine.memory.stack ≡ s.machine.memory.stack = ap (λ (x : State). x.machine.memory.stack) is in
    record {
      steps = steps;
      left = left;
      executes = ap (λ v. switched s.machine.registers.sp record_at n (over v s.machine.memory.stack ws)) held
          ∙ (ap (λ v. switched s.machine.registers.sp record_at n (over d.code.now s.machine.memory.stack v)) (sym words)
          ∙ (ap (λ v. switched s.machine.registers.sp record_at n (over d.code.now v (words_of d.runtime.now d.key))) (sym stack) ∙ ran'));
      counts = refl;
      updates = record { changed = u.changed; others = λ o x. u.others o x ∙ (second.others o x ∙ first.others o x) };
      live = b.live ∙ (len_same one.pool d.key (record (kept_at one.pool d.key) { words = left.words }) there ∙ len_same s.pool d.key (record (kept_at s.pool d.key) { words = ws }) live);
      rest = b.rest;
    }

-- the same in the code's words
pub blocked_from : (d e : Desk) (s new : State) (h : Held) (key : ℕ) (t : Turning) (why : Why) (now steps sp base : ℕ) (r : Registers) → ContainsKey s.pool d.key
    → sp ≡ s.machine.registers.sp → base ≡ s.machine.memory.base → d.runtime.now ≡ resized s d.key ((base - sp) / 4) → r ≡ called sp record_at ((base - sp) / 4)
    → executed (8 * ((base - sp) / 4) + 40) r (on_desk d) ≡ (steps, on_desk e) → IsKnown d e
    → h.bytes ≡ d.code.now → key ≡ d.key → Parked key t why now e.runtime.now new → BlockedBy key t why now h (counted h steps) s new
blocked_from d e s new h key t why now steps sp base r live sp_is base_is is r_is x k held key_is p =
    let n_is : (base - sp) / 4 ≡ depth s.machine = ap (λ a. (base - a) / 4) sp_is ∙ ap (λ a. (a - s.machine.registers.sp) / 4) base_is in
    let is' : d.runtime.now ≡ resized s d.key (depth s.machine) = is ∙ ap (resized s d.key) n_is in
    let r_is' : r ≡ called s.machine.registers.sp record_at (depth s.machine) = r_is ∙ (ap (λ a. called a record_at ((base - sp) / 4)) sp_is ∙ ap (called s.machine.registers.sp record_at) n_is) in
    let x' : executed (8 * depth s.machine + 40) (called s.machine.registers.sp record_at (depth s.machine)) (on_desk d) ≡ (steps, on_desk e)
    = ap (λ q. executed (8 * depth s.machine + 40) q (on_desk d)) (sym r_is') ∙ (ap (λ n. executed (8 * n + 40) r (on_desk d)) (sym n_is) ∙ x) in
    subst (λ j. BlockedBy j t why now h (counted h steps) s new) (sym key_is)
    (blocked_by d e s new t why now steps h held live is' x' k (subst (λ j. Parked j t why now e.runtime.now new) key_is p))

pub key_same : (o : Option Turning) (r : Option ℕ) (key k : ℕ) (t : Turning) → o ≡ Some t → t.key ≡ Some key → r ≡ running_key o → r ≡ Some k → key ≡ k
key_same o r key k t e f g h = Some-injective' (sym f ∙ (ap running_key (sym e) ∙ (sym g ∙ h)))
  where
    value : Option ℕ → ℕ
    value (Some n) = n
    value None = 0

    Some-injective' : {a b : ℕ} → Some a ≡ Some b → a ≡ b
    Some-injective' p = ap value p

-- behind the execution the record has as many words as lie from SP to the base
pub sized_left : (d e : Desk) (s : State) (steps sp base : ℕ) (r : Registers) (o : Option ℕ) → ContainsKey s.pool d.key → IsInside s.machine.registers.sp s.machine.memory.base
    → sp ≡ s.machine.registers.sp → base ≡ s.machine.memory.base → d.runtime.now ≡ resized s d.key ((base - sp) / 4)
    → executed (8 * ((base - sp) / 4) + 40) r (on_desk d) ≡ (steps, on_desk e) → IsKnown d e → o ≡ running_key s.running → o ≡ Some d.key
    → IfSome (running_key e.runtime.now.running) (λ key. e.runtime.now.machine.registers.sp + 4 * length (kept_at e.runtime.now.pool key).words ≡ e.runtime.now.machine.memory.base)
sized_left d e s steps sp base r o live i sp_is base_is is x k at_o o_is =
    let n : ℕ = (base - sp) / 4 in
    let one : State = resized s d.key n in
    let two : State = put one d.key (on_desk e) in
    let there : ContainsKey one.pool d.key = still_live s.pool d.key (sized n (kept_at s.pool d.key).words) live in
    let came : e.runtime.now ≡ two = k.runtime ∙ ap (λ y. put y d.key (on_desk e)) is in
    let words : length (on_desk d).words ≡ n = ap (λ y. length (words_of y d.key)) is ∙ (ap (λ q. length (or_unused q).words) (words_set s.pool d.key (sized n (kept_at s.pool d.key).words) live) ∙ length_sized n (kept_at s.pool d.key).words) in
    let h : HasSizes (length (on_desk d).stack) n (on_desk e) = subst (λ (y : ℕ × Space). HasSizes (length (on_desk d).stack) n y.1) x (sizes (length (on_desk d).stack) n (8 * n + 40) r (on_desk d) (refl, words)) in
    let kept : length (kept_at two.pool d.key).words ≡ n = ap (λ q. length (or_unused q).words) (words_set one.pool d.key (on_desk e).words there) ∙ h.1 in
    let a = i.sp_aligned in let b = i.aligned in let w = i.within in
    let all : s.machine.registers.sp + 4 * length (kept_at two.pool d.key).words ≡ s.machine.memory.base = omega arith in
    let key : running_key two.running ≡ Some d.key = sym at_o ∙ o_is in
    subst (λ (y : State). IfSome (running_key y.running) (λ j. y.machine.registers.sp + 4 * length (kept_at y.pool j).words ≡ y.machine.memory.base)) (sym came)
    (subst (λ q. IfSome q (λ j. two.machine.registers.sp + 4 * length (kept_at two.pool j).words ≡ two.machine.memory.base)) (sym key) all)

pub runs_on : (d e : Desk) (s : State) (n : ℕ) (t : Turning) → d.runtime.now ≡ resized s d.key n → IsKnown d e → s.running ≡ Some t → e.runtime.now.running ≡ Some t
runs_on d e s n t is k r = ap (λ (x : State). x.running) (k.runtime ∙ ap (λ x. put x d.key (on_desk e)) is) ∙ r

pub few_steps : (steps sp base : ℕ) (s : State) (r : Registers) (t u : Space) → IsInside s.machine.registers.sp s.machine.memory.base → sp ≡ s.machine.registers.sp → base ≡ s.machine.memory.base
    → executed (8 * ((base - sp) / 4) + 40) r t ≡ (steps, u) → (steps ≤ most_instructions (depth s.machine)) × (steps ≤ 8232)
few_steps steps sp base s r t u i p q x =
    let n_is : (base - sp) / 4 ≡ depth s.machine = ap (λ a. (base - a) / 4) p ∙ ap (λ a. (a - s.machine.registers.sp) / 4) q in
    let l : steps ≤ 8 * ((base - sp) / 4) + 40 = subst (λ (e : ℕ × Space). e.0 ≤ 8 * ((base - sp) / 4) + 40) x (at_most (8 * ((base - sp) / 4) + 40) r t) in
    let a = i.low in let b = i.high in (subst (λ n. steps ≤ 8 * n + 40) n_is l, omega arith)

pub live_resized : (x s : State) (key n : ℕ) → ContainsKey s.pool key → x ≡ resized s key n → ContainsKey x.pool key
live_resized x s key n l e = subst (λ (y : State). ContainsKey y.pool key) (sym e) (still_live s.pool key (sized n (kept_at s.pool key).words) l)
