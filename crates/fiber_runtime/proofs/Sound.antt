-- The runtime's moves keep each live key standing once.
use Rattle.std.proofs.Common.{◌≡◌, ◌≢◌, ℕ, zero, suc, ◌+◌, ◌<◌, ◌≤◌, ◌⊎◌, inl, inr, Bool, true, false, List, [], ◌∷◌, ◌++◌, length, map, Option, Some, None, is_some, refl, sym, ap, ◌∙◌, subst, arith, nat_le, length-append}
use Rattle.std.proofs.lemmas.List.{map-append}
use Rattle.std.proofs.lemmas.Bool.{cases_eq}
use Rattle.slab.specs.Slab.{Slab, get, slab_len, Updates}
use Rattle.thumb_code.specs.Machine.{State as Machine}
use Rattle.board_world.specs.declared.events.Event.{Event}
use Rattle.board_world.specs.Waiting.{chosen, hears}
use Rattle.board_world.specs.Limits.{raiser_limit}
use Rattle.fiber_pool.specs.Kept.{Kept}
use Rattle.fiber_queues.specs.Lists.{ListsOf}
use Rattle.fiber_queues.specs.Calls.{due_woken, all_woken}
use Rattle.thumb_code.specs.Arithmetic.{bit_of}
use Rattle.fiber_runtime.specs.declared.turning.Turning.{Turning}
use Rattle.fiber_runtime.specs.declared.turning.Raiser.{Raiser}
use Rattle.fiber_runtime.specs.declared.blocking.Why.{Why}
use Rattle.fiber_runtime.specs.declared.blocking.Why.TheVariants.{Pause, Wait}
use Rattle.fiber_runtime.specs.State.{State, key_of, running_key, keys_suspended, keys_on, ReachesBase, kept_of}
use Rattle.fiber_runtime.specs.Sound.{IsSound}
use Rattle.fiber_queues.specs.Keys.{listed, how_often}
use Rattle.fiber_runtime.specs.Moves.{joined, IsIdle, Spawned, Blocked, Adopted, Resumed, Ended, Woken, fresh, started, suspended, reinstated, raiser_of}
use Rattle.board_world.proofs.Laws.{length_chosen_left}
use Rattle.fiber_queues.proofs.Laws.{how_often-append, how_often-same, how_often-other, how_often-parted, how_often-listed, length-listed}

-- the keys of who runs
abbrev pub key_running : Option Turning → List ℕ
key_running running = key_of (running_key running)

pub once_most : (b : Bool) → bit_of b ≤ 1
once_most true = omega arith
once_most false = omega arith

how_often-joined : (key k now : ℕ) (why : Why) (q : ListsOf ℕ) → how_often key (listed (joined why now k q)) ≡ how_often key (listed q) + how_often key (k ∷ [])
how_often-joined key k now (Pause n) q =
    let a = how_often-listed key (joined (Pause n) now k q) in
    let b = how_often-listed key q in
    let m : how_often key (map (λ p. p.1) (joined (Pause n) now k q).sleepers) ≡ how_often key (map (λ p. p.1) q.sleepers) + how_often key (k ∷ []) = ap (how_often key) (map-append (λ p. p.1) q.sleepers _) ∙ how_often-append key (map (λ p. p.1) q.sleepers) (k ∷ []) in
    omega arith
how_often-joined key k now (Wait e) q =
    let a = how_often-listed key (joined (Wait e) now k q) in
    let b = how_often-listed key q in
    let m : how_often key (map (λ p. p.1) (joined (Wait e) now k q).waiters) ≡ how_often key (map (λ p. p.1) q.waiters) + how_often key (k ∷ []) = ap (how_often key) (map-append (λ p. p.1) q.waiters _) ∙ how_often-append key (map (λ p. p.1) q.waiters) (k ∷ []) in
    omega arith

length-joined : (k now : ℕ) (why : Why) (q : ListsOf ℕ) → length (listed (joined why now k q)) ≡ length (listed q) + 1
length-joined k now (Pause n) q =
    let a = length-listed (joined (Pause n) now k q) in
    let b = length-listed q in
    let m : length (joined (Pause n) now k q).sleepers ≡ length q.sleepers + 1 = length-append q.sleepers _ in
    omega arith
length-joined k now (Wait e) q =
    let a = length-listed (joined (Wait e) now k q) in
    let b = length-listed q in
    let m : length (joined (Wait e) now k q).waiters ≡ length q.waiters + 1 = length-append q.waiters _ in
    omega arith

-- what runs, and what is suspended
pub how_often-on : (key : ℕ) (s : State) → how_often key (keys_on s) ≡ how_often key (key_running s.running) + how_often key (keys_suspended s.raisers)
how_often-on key s = how_often-append key (key_running s.running) (keys_suspended s.raisers)

length-on : (s : State) → length (keys_on s) ≡ length (key_running s.running) + length (keys_suspended s.raisers)
length-on s = length-append (key_running s.running) (keys_suspended s.raisers)

-- what a slot says of a key
updated : (old new : Slab Kept) (key : ℕ) (slot : Option Kept) → Updates old new key slot → (other : ℕ) → other ≡ key → bit_of (is_some (get new other)) ≡ bit_of (is_some slot)
updated old new key slot u other same = ap (λ o. bit_of (is_some (get new o))) same ∙ ap (λ x. bit_of (is_some x)) u.changed

stayed : (old new : Slab Kept) (key : ℕ) (slot : Option Kept) → Updates old new key slot → (other : ℕ) → other ≢ key → bit_of (is_some (get new other)) ≡ bit_of (is_some (get old other))
stayed old new key slot u other differs = ap (λ x. bit_of (is_some x)) (u.others other differs)

one_at : (key other : ℕ) → other ≡ key → how_often other (key ∷ []) ≡ 1
one_at key other same = subst (λ o. how_often o (key ∷ []) ≡ 1) (sym same) (how_often-same key)

none_at : (key other : ℕ) → other ≢ key → how_often other (key ∷ []) ≡ 0
none_at key other differs = how_often-other other key (λ q. differs (sym q))

-- who runs, with this key or with none
abbrev RunsAt : State → List ℕ → Type 0
RunsAt s keys = key_running s.running ≡ keys

pub runs_at : (s : State) (t : Turning) (k : Option ℕ) → s.running ≡ Some t → t.key ≡ k → key_running s.running ≡ key_of k
runs_at s t k e f = ap key_running e ∙ ap key_of f

module _ (old : State) (h : IsSound old) (keys : List ℕ) (runs : key_running old.running ≡ keys) where
  -- each key before
  each_before : (key : ℕ) → how_often key keys + how_often key (keys_suspended old.raisers) + how_often key (listed old.lists) ≡ bit_of (is_some (get old.pool key))
  each_before key = let a = how_often-on key old in let b = ap (how_often key) runs in omega (arith, h.each key, a, b)

  count_before : length keys + length (keys_suspended old.raisers) + length (listed old.lists) ≡ slab_len old.pool
  count_before = let a = length-on old in let b : length (key_running old.running) ≡ length keys = ap length runs in omega (arith, h.count, a, b)

  fits_before : (key : ℕ) (k : Kept) → get old.pool key ≡ Some k → (1 ≤ how_often key keys + how_often key (keys_suspended old.raisers)) ⊎ ReachesBase k
  fits_before key k f = elim (h.fits key k f) [ inl one ↦ inl (let a = how_often-on key old in let b = ap (how_often key) runs in omega (arith, a, b)) | inr fit ↦ inr fit ]

  -- A state with the same keys on RAM and in lists, over the same records. This is a state in which another one runs, or in which a
  -- fiber was suspended.
  pub sound_turned : (machine : Machine) (running : Option Turning) (raisers : List Raiser)
      → ((key : ℕ) → how_often key (key_running running) + how_often key (keys_suspended raisers) ≡ how_often key keys + how_often key (keys_suspended old.raisers))
      → length (key_running running) + length (keys_suspended raisers) ≡ length keys + length (keys_suspended old.raisers)
      → length raisers ≤ raiser_limit
      → IsSound (record old { machine = machine; running = running; raisers = raisers })
  sound_turned machine running raisers same size room = record {
    each = λ key. let a = how_often-append key (key_running running) (keys_suspended raisers) in omega (arith, each_before key, same key, a);
    count = let a : length (key_running running ++ keys_suspended raisers) ≡ length (key_running running) + length (keys_suspended raisers) = length-append (key_running running) (keys_suspended raisers) in omega (arith, count_before, size, a);
    most = h.most;
    fits = λ key k f. elim (fits_before key k f) [ inl one ↦ inl (let a = how_often-append key (key_running running) (keys_suspended raisers) in omega (arith, same key, a)) | inr fit ↦ inr fit ];
    suspended = room;
  }

-- another fiber without a record runs, or the one without a record ends
pub sound_keyless : (old : State) (machine : Machine) (running : Option Turning) → IsSound old → key_running old.running ≡ [] → key_running running ≡ [] → IsSound (record old { machine = machine; running = running })
sound_keyless old machine running h e f =
    sound_turned old h [] e machine running old.raisers (λ key. ap (λ ks. how_often key ks + how_often key (keys_suspended old.raisers)) f) (ap (λ (ks : List ℕ). length ks + length (keys_suspended old.raisers)) f) h.suspended

-- nobody has a record
pub sound_idle : (machine : Machine) (s : State) → IsIdle machine s → IsSound s
sound_idle machine s h = subst IsSound (sym h.rest) (record {
  each = λ key. sym (ap (λ o. bit_of (is_some o)) (h.empty key));
  count = sym h.live;
  most = omega (arith, h.live);
  fits = λ key k f. absurd (let g : ◌≡◌ {A = Option Kept} None (Some k) = sym (h.empty key) ∙ f in cc);
  suspended = omega arith;
})

pub sound_started : (entry base : ℕ) (t : Turning) (old : State) → IsSound old → old.running ≡ None → t.key ≡ None → IsSound (started entry base t old)
sound_started entry base t old h e k = sound_keyless old _ (Some t) h (ap key_running e) (ap key_of k)

pub sound_suspended : (t : Turning) (old : State) → IsSound old → old.running ≡ Some t → length old.raisers < raiser_limit → IsSound (suspended t old)
sound_suspended t old h e room =
    sound_turned old h (key_of t.key) (ap key_running e) old.machine None (raiser_of old.machine t ∷ old.raisers)
    (λ key. let a = how_often-append key (key_of t.key) (keys_suspended old.raisers) in omega (arith, a))
    (let a : length (key_of t.key ++ keys_suspended old.raisers) ≡ length (key_of t.key) + length (keys_suspended old.raisers) = length-append (key_of t.key) (keys_suspended old.raisers) in omega (arith, a))
    (omega arith)

pub sound_reinstated : (r : Raiser) (rs : List Raiser) (old : State) → IsSound old → old.running ≡ None → old.raisers ≡ r ∷ rs → IsSound (reinstated r rs old)
sound_reinstated r rs old h e f =
    let keys : keys_suspended old.raisers ≡ key_of r.turning.key ++ keys_suspended rs = ap keys_suspended f in
    sound_turned old h [] (ap key_running e) _ (Some r.turning) rs
    (λ key. let a = how_often-append key (key_of r.turning.key) (keys_suspended rs) in let b = ap (how_often key) keys in omega (arith, a, b))
    (let a : length (key_of r.turning.key ++ keys_suspended rs) ≡ length (key_of r.turning.key) + length (keys_suspended rs) = length-append (key_of r.turning.key) (keys_suspended rs) in
    let b : length (keys_suspended old.raisers) ≡ length (key_of r.turning.key ++ keys_suspended rs) = ap length keys in omega (arith, a, b))
    (let a : length old.raisers ≡ suc (length rs) = ap length f in omega (arith, h.suspended))

-- what is known of who runs is set, but for its key
pub sound_named : (t t' : Turning) (old : State) (machine : Machine) → IsSound old → old.running ≡ Some t → t'.key ≡ t.key → IsSound (record old { machine = machine; running = Some t' })
sound_named t t' old machine h e k =
    sound_turned old h (key_of t.key) (ap key_running e) machine (Some t') old.raisers (λ key. ap (λ x. how_often key (key_of x) + how_often key (keys_suspended old.raisers)) k) (ap (λ x. length (key_of x) + length (keys_suspended old.raisers)) k) h.suspended

-- the machine is any
pub sound_machine : (old : State) (machine : Machine) → IsSound old → IsSound (record old { machine = machine })
sound_machine old machine h = record { each = h.each; count = h.count; most = h.most; fits = h.fits; suspended = h.suspended }

-- the running fiber's record holds what fits, and it joins a list
pub sound_laid : (key now : ℕ) (t : Turning) (why : Why) (old new : State) (x : Kept) → IsSound old → old.running ≡ Some t → t.key ≡ Some key → ReachesBase x → Updates old.pool new.pool key (Some x) → slab_len new.pool ≡ slab_len old.pool
    → new ≡ record old { pool = new.pool; running = None; lists = joined why now key old.lists } → IsSound new
sound_laid key now t why old new x0 h e k i updates live rest =
    let runs = runs_at old t (Some key) e k in
    let before = each_before old h (key ∷ []) runs in
    subst IsSound (sym rest) (record {
      each = λ other.
          let j = how_often-joined other key now why old.lists in
          elim (cases_eq other key) [
            | inl same ↦ (let n = updated old.pool new.pool key _ updates other same in let o = one_at key other same in omega (arith, j, n, o, before other, once_most (is_some (get old.pool other))))
            | inr differs ↦ (let n = stayed old.pool new.pool key _ updates other differs in let o = none_at key other differs in omega (arith, j, n, o, before other))
          ];
      count = omega (arith, count_before old h (key ∷ []) runs, length-joined key now why old.lists, live);
      most = omega (arith, h.most, live);
      fits = λ other x f. elim (cases_eq other key) [
        | inl same ↦ inr (let g : Some x0 ≡ Some x = sym updates.changed ∙ ap (get new.pool) (sym same) ∙ f in let q : x0 ≡ x = cc in subst ReachesBase q i)
        | inr differs ↦ elim (fits_before old h (key ∷ []) runs other x (sym (updates.others other differs) ∙ f)) [
          | inl one ↦ inl (let o = none_at key other differs in omega (arith, o))
          | inr fit ↦ inr fit
        ]
      ];
      suspended = h.suspended;
    })

pub sound_blocked : (key now : ℕ) (t : Turning) (why : Why) (old new : State) → IsSound old → old.running ≡ Some t → t.key ≡ Some key → ReachesBase (kept_of old.machine t) → Blocked key t why now old new → IsSound new
sound_blocked key now t why old new h e k i m = sound_laid key now t why old new (kept_of old.machine t) h e k i m.updates m.live m.rest

pub sound_adopted : (key : ℕ) (t : Turning) (old new : State) → IsSound old → old.running ≡ Some t → t.key ≡ None → Adopted key t old new → IsSound new
sound_adopted key t old new h e k m =
    let runs = runs_at old t None e k in
    let before = each_before old h [] runs in
    let after = λ (other : ℕ). how_often-append other (key ∷ []) (keys_suspended old.raisers) in
    subst IsSound (sym m.rest) (record {
      each = λ other. elim (cases_eq other key) [
        | inl same ↦
            (let n = updated old.pool new.pool key _ m.claims.updates other same in let o = one_at key other same in
            let was : bit_of (is_some (get old.pool other)) ≡ 0 = ap (λ y. bit_of (is_some (get old.pool y))) same ∙ ap (λ x. bit_of (is_some x)) m.claims.free in
            omega (arith, n, o, was, before other, after other))
        | inr differs ↦ (let n = stayed old.pool new.pool key _ m.claims.updates other differs in let o = none_at key other differs in omega (arith, n, o, before other, after other))
      ];
      count = omega (arith, count_before old h [] runs, m.claims.live);
      most = omega (arith, m.claims.live, m.claims.room);
      fits = λ other x f. elim (cases_eq other key) [
        | inl same ↦ inl (let o = one_at key other same in omega (arith, o, after other))
        | inr differs ↦ elim (fits_before old h [] runs other x (sym (m.claims.updates.others other differs) ∙ f)) [ inl one ↦ inl (omega (arith, after other)) | inr fit ↦ inr fit ]
      ];
      suspended = h.suspended;
    })

pub sound_resumed : (old new : State) → IsSound old → old.running ≡ None → old.raisers ≡ [] → Resumed old new → IsSound new
sound_resumed old new h e f m =
    let before = each_before old h [] (ap key_running e) in
    let count = count_before old h [] (ap key_running e) in
    let nobody = λ (other : ℕ). ap (λ rs. how_often other (keys_suspended rs)) f in
    let after = λ (other : ℕ). how_often-append other (m.key ∷ []) (keys_suspended old.raisers) in
    let moved = λ (other : ℕ). (let t : how_often other (listed old.lists) ≡ how_often other (m.key ∷ listed new.lists) = ap (λ q. how_often other (listed q)) m.next.first in t ∙ how_often-append other (m.key ∷ []) (listed new.lists)) in
    subst IsSound (sym m.next.rest) (record {
      each = λ other. omega (arith, before other, after other, moved other);
      count = let t : length (listed old.lists) ≡ suc (length (listed new.lists)) = ap (λ q. length (listed q)) m.next.first in omega (arith, count);
      most = h.most;
      fits = λ other k g. elim (fits_before old h [] (ap key_running e) other k g) [ inl one ↦ absurd (omega (arith, nobody other)) | inr fit ↦ inr fit ];
      suspended = h.suspended;
    })

pub sound_ended : (key : ℕ) (t : Turning) (old new : State) → IsSound old → old.running ≡ Some t → t.key ≡ Some key → Ended key old new → IsSound new
sound_ended key t old new h e k m =
    let runs = runs_at old t (Some key) e k in
    let before = each_before old h (key ∷ []) runs in
    subst IsSound (sym m.rest) (record {
      each = λ other. elim (cases_eq other key) [
        | inl same ↦ (let n = updated old.pool new.pool key _ m.updates other same in let o = one_at key other same in omega (arith, n, o, before other, once_most (is_some (get old.pool other))))
        | inr differs ↦ (let n = stayed old.pool new.pool key _ m.updates other differs in let o = none_at key other differs in omega (arith, n, o, before other))
      ];
      count = omega (arith, count_before old h (key ∷ []) runs, m.live);
      most = omega (arith, m.live, h.most);
      fits = λ other x f. elim (cases_eq other key) [
        | inl same ↦ absurd (let g : ◌≡◌ {A = Option Kept} None (Some x) = sym m.updates.changed ∙ ap (get new.pool) (sym same) ∙ f in cc)
        | inr differs ↦ elim (fits_before old h (key ∷ []) runs other x (sym (m.updates.others other differs) ∙ f)) [
          | inl one ↦ inl (let o = none_at key other differs in omega (arith, o))
          | inr fit ↦ inr fit
        ]
      ];
      suspended = h.suspended;
    })

pub sound_spawned : (entry base : ℕ) (old new : State) → IsSound old → Spawned entry base old new → IsSound new
sound_spawned entry base old new h m =
    let a = λ (other : ℕ). how_often-listed other (record old.lists { ready = old.lists.ready ++ m.key ∷ [] }) in
    let b = λ (other : ℕ). how_often-listed other old.lists in
    let r = λ (other : ℕ). how_often-append other old.lists.ready (m.key ∷ []) in
    subst IsSound (sym m.rest) (record {
      each = λ other. elim (cases_eq other m.key) [
        | inl same ↦
            (let n = updated old.pool new.pool m.key _ m.claims.updates other same in let o = one_at m.key other same in
            let was : bit_of (is_some (get old.pool other)) ≡ 0 = ap (λ y. bit_of (is_some (get old.pool y))) same ∙ ap (λ x. bit_of (is_some x)) m.claims.free in
            omega (arith, h.each other, n, o, was, a other, b other, r other))
        | inr differs ↦ (let n = stayed old.pool new.pool m.key _ m.claims.updates other differs in let o = none_at m.key other differs in omega (arith, h.each other, n, o, a other, b other, r other))
      ];
      count = omega (arith, h.count, m.claims.live, length-listed old.lists, length-listed (record old.lists { ready = old.lists.ready ++ m.key ∷ [] }), length-append old.lists.ready (m.key ∷ []));
      most = omega (arith, m.claims.live, m.claims.room);
      fits = λ other k f. elim (cases_eq other m.key) [
        | inl same ↦ inr (let g : Some (fresh old.machine.memory.flash base entry) ≡ Some k = sym m.claims.updates.changed ∙ ap (get new.pool) (sym same) ∙ f in let q : fresh old.machine.memory.flash base entry ≡ k = cc in subst ReachesBase q (record { span = omega arith; inside = λ some. absurd (omega arith) }))
        | inr differs ↦ h.fits other k (sym (m.claims.updates.others other differs) ∙ f)
      ];
      suspended = h.suspended;
    })

-- lists with the same keys do as well
sound_relisted : (s : State) (pool : Slab Kept) (q : ListsOf ℕ) → IsSound s → ((key : ℕ) → how_often key (listed q) ≡ how_often key (listed s.lists)) → length (listed q) ≡ length (listed s.lists) → slab_len pool ≡ slab_len s.pool
    → ((key : ℕ) → is_some (get pool key) ≡ is_some (get s.pool key)) → ((key : ℕ) (k : Kept) → get pool key ≡ Some k → (j : Kept) × (get s.pool key ≡ Some j) × (ReachesBase j → ReachesBase k)) → IsSound (record s { pool = pool; lists = q })
sound_relisted s pool q h t n l o f = record {
  each = λ key. omega (arith, t key, h.each key, ap bit_of (o key));
  count = omega (arith, h.count);
  most = omega (arith, h.most);
  fits = λ key k g. let w = f key k g in elim (h.fits key w.0 w.1) [ inl one ↦ inl one | inr fit ↦ inr (w.2 fit) ];
  suspended = h.suspended;
}

pub sound_awake : (s : State) (now : ℕ) → IsSound s → IsSound (record s { lists = due_woken now s.lists })
sound_awake s now h =
    let due = λ (wake : ℕ). nat_le wake now in
    let q = s.lists in
    sound_relisted s s.pool (due_woken now q) h
    (λ key. let a = how_often-listed key (due_woken now q) in let b = how_often-listed key q in let c = how_often-append key q.ready (chosen due q.sleepers) in let d = how_often-parted due key q.sleepers in omega arith)
    (let a = length-listed (due_woken now q) in let b = length-listed q in let c = length-append q.ready (chosen due q.sleepers) in let d = length_chosen_left due q.sleepers in omega arith)
    refl (λ key. refl) (λ key k g. (k, g, λ x. x))

pub sound_woken : (e : Event) (old new : State) → IsSound old → Woken e old new → IsSound new
sound_woken e old new h m =
    let q = old.lists in
    let q' : ListsOf ℕ = all_woken e q in
    subst IsSound (sym m.rest) (sound_relisted old new.pool q' h
    (λ key. let a = how_often-listed key q' in let b = how_often-listed key q in let c = how_often-append key q.ready (chosen (hears e) q.waiters) in let d = how_often-parted (hears e) key q.waiters in omega arith)
    (let a = length-listed q' in let b = length-listed q in let c = length-append q.ready (chosen (hears e) q.waiters) in let d = length_chosen_left (hears e) q.waiters in omega arith)
    m.live
    (λ key. by_old key (get old.pool key) refl (how_often key (chosen (hears e) q.waiters)) refl)
    (λ key k g. back key k g (get old.pool key) refl (how_often key (chosen (hears e) q.waiters)) refl))
  where
    by_old : (key : ℕ) (o : Option Kept) → get old.pool key ≡ o → (n : ℕ) → how_often key (chosen (hears e) old.lists.waiters) ≡ n → is_some (get new.pool key) ≡ is_some (get old.pool key)
    by_old key o g zero t = ap is_some (m.others key t)
    by_old key (Some k) g (suc n) t = ap is_some (m.changed key k g (omega arith)) ∙ ap is_some (sym g)
    by_old key None g (suc n) t = absurd (
        let a = how_often-listed key old.lists in let d = how_often-parted (hears e) key old.lists.waiters in
        let z : bit_of (is_some (get old.pool key)) ≡ 0 = ap (λ x. bit_of (is_some x)) g in
        omega (arith, h.each key))

    back : (key : ℕ) (k : Kept) → get new.pool key ≡ Some k → (o : Option Kept) → get old.pool key ≡ o → (n : ℕ) → how_often key (chosen (hears e) old.lists.waiters) ≡ n → (j : Kept) × (get old.pool key ≡ Some j) × (ReachesBase j → ReachesBase k)
    back key k f o g zero t = (k, sym (m.others key t) ∙ f, λ x. x)
    back key k f (Some j) g (suc n) t =
        let c : Some (record j { value = e.value }) ≡ Some k = sym (m.changed key j g (omega arith)) ∙ f in
        let s : record j { value = e.value } ≡ k = cc in
        (j, g, λ x. subst ReachesBase s (record { span = x.span; inside = x.inside }))
    back key k f None g (suc n) t = absurd (
        let a = how_often-listed key old.lists in let d = how_often-parted (hears e) key old.lists.waiters in
        let z : bit_of (is_some (get old.pool key)) ≡ 0 = ap (λ x. bit_of (is_some x)) g in
        omega (arith, h.each key))

-- the running fiber's key stands in no list, and no raiser has it
pub own_key_once : (s : State) (t : Turning) (key : ℕ) → IsSound s → s.running ≡ Some t → t.key ≡ Some key → how_often key (listed s.lists) ≡ 0
own_key_once s t key h e k = let b = each_before s h (key ∷ []) (runs_at s t (Some key) e k) key in omega (arith, b, how_often-same key, once_most (is_some (get s.pool key)))

-- a key that isn't live stands in no list
pub free_key_nowhere : (s : State) (key : ℕ) → IsSound s → get s.pool key ≡ None → how_often key (listed s.lists) ≡ 0
free_key_nowhere s key h f = let z : bit_of (is_some (get s.pool key)) ≡ 0 = ap (λ x. bit_of (is_some x)) f in omega (arith, h.each key, z)

pub updates_twice : (a b d : Slab Kept) (key : ℕ) (x y : Option Kept) → Updates a b key x → Updates b d key y → Updates a d key y
updates_twice a b d key x y u v = record { changed = v.changed; others = λ other n. v.others other n ∙ u.others other n }

-- the first ready key has a record that can be copied in
pub record NextFits (pool : Slab Kept) (key : ℕ) : Type 0 where
  pub kept : Kept
  pub found : get pool key ≡ Some kept
  pub fits : ReachesBase kept

pub next_fits : (s : State) (key : ℕ) (ready : List ℕ) → IsSound s → s.running ≡ None → s.raisers ≡ [] → s.lists.ready ≡ key ∷ ready → NextFits s.pool key
next_fits s key ready h e f r = by_slot (get s.pool key) refl
  where
    nobody : how_often key (keys_on s) ≡ 0
    nobody = (let a = how_often-on key s in let b : how_often key (key_running s.running) ≡ 0 = ap (λ x. how_often key (key_running x)) e in let d : how_often key (keys_suspended s.raisers) ≡ 0 = ap (λ x. how_often key (keys_suspended x)) f in omega (arith, a, b, d))

    by_slot : (o : Option Kept) → get s.pool key ≡ o → NextFits s.pool key
    by_slot (Some k) g = record { kept = k; found = g; fits = elim (h.fits key k g) [ inl one ↦ absurd (omega (arith, one, nobody)) | inr fit ↦ fit ] }
    by_slot None g = absurd (
        let t = how_often-listed key s.lists in
        let u = ap (how_often key) r in
        let v = how_often-append key (key ∷ []) ready in
        let z : bit_of (is_some (get s.pool key)) ≡ 0 = ap (λ x. bit_of (is_some x)) g in
        omega (arith, how_often-same key, h.each key, t, u, v, z))

once_live : (b : Bool) → 1 ≤ bit_of b → b ≡ true
once_live true h = refl
once_live false h = absurd (omega arith)

pub live_waiter : (e : Event) (s : State) (key : ℕ) → IsSound s → 1 ≤ how_often key (chosen (hears e) s.lists.waiters) → is_some (get s.pool key) ≡ true
live_waiter e s key h n =
    let l = how_often-listed key s.lists in
    let p = how_often-parted (hears e) key s.lists.waiters in
    once_live (is_some (get s.pool key)) (omega (arith, h.each key))
