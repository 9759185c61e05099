-- What a switch's bytes leave of a runtime where a fiber is resumed.
use Rattle.std.proofs.Common.{◌≡◌, ℕ, ◌+◌, ◌*◌, ◌≤◌, List, ◌∷◌, length, Some, is_some, refl, sym, ap, ◌∙◌, subst, arith}
use Rattle.slab.specs.Slab.{Slab, get, with_value, ContainsKey}
use Rattle.thumb_code.specs.declared.register_file.Registers.{Registers}
use Rattle.fiber_pool.specs.Kept.{Kept, kept_at, or_unused}
use Rattle.fiber_queues.specs.Lists.{ListsOf, Leads}
use Rattle.fiber_runtime.specs.State.{State, ReachesBase}
use Rattle.fiber_runtime.specs.Moves.{turning_of, Taken}
use Rattle.thumb_switch.specs.Space.{Space, executed, record_at, called, most_instructions}
use Rattle.thumb_switch.specs.Desk.{words_of, on_desk}
use Rattle.thumb_switch.specs.Running.{put, IsKnown}
use Rattle.thumb_switch.specs.Switching.{Held, counted, over, in_by, ResumedBy}
use Rattle.thumb_code.specs.Machine.{State as Machine}
use Rattle.thumb_switch.specs.declared.desk.Desk.{Desk}
use Rattle.thumb_switch.proofs.Blocking.{at_most}

module _ (s one : State) (key : ℕ) (p : Taken s one) (leads : Leads key s.lists.ready) where
  pub key_is : p.key ≡ key
  key_is = (let e : key ≡ p.key = subst (Leads key) (ap (λ (q : ListsOf ℕ). q.ready) p.next.first) leads in sym e)

  pub found : get s.pool key ≡ Some p.kept
  found = subst (λ j. get s.pool j ≡ Some p.kept) key_is p.next.found

  pub kept_is : kept_at s.pool key ≡ p.kept
  kept_is = ap or_unused found

  pub pool_is : one.pool ≡ s.pool
  pool_is = ap (λ (x : State). x.pool) p.next.rest

  pub taken_live : ContainsKey one.pool key
  taken_live = ap (λ o. is_some o) (ap (λ (o : Slab Kept). get o key) pool_is ∙ found)

  pub words_kept : (kept_at one.pool key).words ≡ p.kept.words
  words_kept = ap (λ (o : Slab Kept). (kept_at o key).words) pool_is ∙ ap (λ (x : Kept). x.words) kept_is

-- the bytes are executed over a desk of the fiber that was taken
pub resumed_by : (d e : Desk) (s : State) (h : Held) (steps words : ℕ) (r : Registers) (p : Taken s d.runtime.now) → Leads d.key s.lists.ready → ReachesBase (kept_at s.pool d.key)
    → words ≡ length (words_of d.runtime.now d.key) → r ≡ called record_at d.runtime.now.machine.registers.sp words
    → executed (8 * words + 40) r (on_desk d) ≡ (steps, on_desk e) → IsKnown d e → h.bytes ≡ d.code.now → ResumedBy h (counted h steps) s e.runtime.now
resumed_by d e s h steps words r p leads fits words_is r_is x known held =
    let one : State = d.runtime.now in
    let k : Kept = p.kept in
    let left : Space = on_desk e in
    let key : p.key ≡ d.key = key_is s one d.key p leads in
    let kept : kept_at s.pool d.key ≡ k = kept_is s one d.key p leads in
    let ws : words_of one d.key ≡ k.words = words_kept s one d.key p leads in
    let stack : one.machine.memory.stack ≡ s.machine.memory.stack = ap (λ (m : Machine). m.memory.stack) p.machine in
    let sp : one.machine.registers.sp ≡ k.registers.sp = ap (λ (m : Machine). m.registers.sp) p.machine in
    let n : words ≡ length k.words = words_is ∙ ap (λ (v : List ℕ). length v) ws in
    let lists : e.runtime.now.lists ≡ one.lists = ap (λ (q : State). q.lists) known.runtime in
    let m : ℕ = 8 * words + 40 in
    record {
      key = d.key;
      kept = k;
      first = p.next.first ∙ (ap (λ j. record one.lists { ready = j ∷ one.lists.ready }) key ∙ ap (λ (q : ListsOf ℕ). record q { ready = d.key ∷ q.ready }) (sym lists));
      found = found s one d.key p leads;
      fits = subst ReachesBase kept fits;
      steps = steps;
      left = left;
      executes = ap (λ v. in_by v s.machine.memory.stack k) held
          ∙ (ap (λ j. executed (8 * j + 40) (called record_at k.registers.sp j) (over d.code.now s.machine.memory.stack k.words)) (sym n)
          ∙ (ap (λ a. executed m (called record_at a words) (over d.code.now s.machine.memory.stack k.words)) (sym sp)
          ∙ (ap (λ q. executed m q (over d.code.now s.machine.memory.stack k.words)) (sym r_is)
          ∙ (ap (λ v. executed m r (over d.code.now v k.words)) (sym stack)
          ∙ (ap (λ v. executed m r (over d.code.now one.machine.memory.stack v)) (sym ws) ∙ x)))));
      counts = refl;
      rest = known.runtime
          ∙ (ap (λ (q : State). put q d.key left) (p.next.rest ∙ ap (λ (m : Machine). record s { machine = m; running = Some (turning_of p.key k); lists = one.lists }) p.machine)
          ∙ (ap (λ (j : ℕ). record s {
            machine = record { registers = k.registers; memory = record s.machine.memory { base = k.base; stack = left.stack } };
            pool = with_value s.pool d.key (record (kept_at s.pool d.key) { words = left.words });
            running = Some (turning_of j k);
            lists = one.lists;
          }) key
          ∙ (ap (λ (v : Kept). record s {
            machine = record { registers = k.registers; memory = record s.machine.memory { base = k.base; stack = left.stack } };
            pool = with_value s.pool d.key (record v { words = left.words });
            running = Some (turning_of d.key k);
            lists = one.lists;
          }) kept
          ∙ ap (λ (q : ListsOf ℕ). record s {
            machine = record { registers = k.registers; memory = record s.machine.memory { base = k.base; stack = left.stack } };
            pool = with_value s.pool d.key (record k { words = left.words });
            running = Some (turning_of d.key k);
            lists = q;
          }) (sym lists))));
    }

-- no more are executed than may be
pub few_in : (steps words n : ℕ) (r : Registers) (t u : Space) → words ≡ n → words ≤ 1024 → executed (8 * words + 40) r t ≡ (steps, u) → (steps ≤ most_instructions n) × (steps ≤ 8232)
few_in steps words n r t u e most x =
    let l : steps ≤ 8 * words + 40 = subst (λ (q : ℕ × Space). q.0 ≤ 8 * words + 40) x (at_most (8 * words + 40) r t) in
    (subst (λ j. steps ≤ 8 * j + 40) e l, omega arith)
