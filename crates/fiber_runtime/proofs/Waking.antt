-- Waking one waiter after another.
use Rattle.std.proofs.Common.{◌≡◌, ℕ, zero, suc, ◌≤◌, inl, inr, [], ◌∷◌, ◌++◌, List, Option, Some, None, IsSome, is_some, refl, sym, ap, ◌∙◌, subst, arith, append_assoc}
use Rattle.std.proofs.lemmas.List.{append-nil}
use Rattle.std.proofs.lemmas.Bool.{cases_eq}
use Rattle.slab.specs.Slab.{Slab, get, slab_len, Updates, ContainsKey}
use Rattle.board_world.specs.declared.events.Event.{Event}
use Rattle.board_world.specs.Waiting.{chosen, left, hears}
use Rattle.fiber_queues.proofs.Laws.{left-all, same_lists}
use Rattle.fiber_pool.specs.Kept.{Kept}
use Rattle.fiber_queues.specs.Lists.{ListsOf}
use Rattle.fiber_queues.specs.Calls.{all_woken}
use Rattle.fiber_queues.specs.Keys.{how_often}
use Rattle.fiber_queues.proofs.Laws.{how_often-append, how_often-same, how_often-other}

-- Some of the waiters who hear an event have been woken.
pub record IsWaking (e : Event) (q0 q : ListsOf ℕ) (p0 p : Slab Kept) : Type 0 where
  pub woken : List ℕ
  pub ready : q.ready ≡ q0.ready ++ woken
  pub sleepers : q.sleepers ≡ q0.sleepers
  pub rest : woken ++ chosen (hears e) q.waiters ≡ chosen (hears e) q0.waiters
  pub stay : left (hears e) q.waiters ≡ left (hears e) q0.waiters
  pub changed : (key : ℕ) (k : Kept) → get p0 key ≡ Some k → 1 ≤ how_often key woken
      → get p key ≡ Some (record k { value = e.value })
  pub others : (key : ℕ) → how_often key woken ≡ 0 → get p key ≡ get p0 key
  pub live : slab_len p ≡ slab_len p0

module _ (e : Event) (q0 : ListsOf ℕ) (p0 : Slab Kept) where
  pub waking_start : IsWaking e q0 q0 p0 p0
  waking_start = record { woken = []; ready = sym (append-nil q0.ready); sleepers = refl; rest = refl; stay = refl; changed = λ key k g n. absurd (omega arith); others = λ key n. refl; live = refl }

  -- the next one's record
  pub record Next (p : Slab Kept) (key : ℕ) : Type 0 where
    pub kept : Kept
    pub first : get p0 key ≡ Some kept
    pub now : (k : Kept) × (get p key ≡ Some k) × (record k { value = e.value } ≡ record kept { value = e.value })

  pub next_waiter : (q q' : ListsOf ℕ) (p : Slab Kept) (key : ℕ) → ((k : ℕ) → 1 ≤ how_often k (chosen (hears e) q0.waiters) → ContainsKey p0 k) → IsWaking e q0 q p0 p → chosen (hears e) q.waiters ≡ key ∷ chosen (hears e) q'.waiters → Next p key
  next_waiter q q' p key live w c =
      let r = ap (how_often key) w.rest in
      let s = how_often-append key w.woken (chosen (hears e) q.waiters) in
      let t = ap (how_often key) c in
      let u = how_often-append key (key ∷ []) (chosen (hears e) q'.waiters) in
      by_slot (get p0 key) refl (live key (omega (arith, how_often-same key)))
    where
      by_woken : (k : Kept) → get p0 key ≡ Some k → (n : ℕ) → how_often key w.woken ≡ n → Next p key
      by_woken k g zero n = record { kept = k; first = g; now = (k, w.others key n ∙ g, refl) }
      by_woken k g (suc m) n = record { kept = k; first = g; now = (record k { value = e.value }, w.changed key k g (omega arith), refl) }

      by_slot : (o : Option Kept) → get p0 key ≡ o → ContainsKey p0 key → Next p key
      by_slot (Some k) g h = by_woken k g (how_often key w.woken) refl
      by_slot None g h = absurd (let i : IsSome (get p0 key) = h in let j = ap is_some (sym g) ∙ i in cc)

  pub waking_more : (q q' : ListsOf ℕ) (p p' : Slab Kept) (key : ℕ) (w : IsWaking e q0 q p0 p) (x : Next p key)
      → q'.ready ≡ q.ready ++ key ∷ [] → q'.sleepers ≡ q.sleepers → chosen (hears e) q.waiters ≡ key ∷ chosen (hears e) q'.waiters → left (hears e) q'.waiters ≡ left (hears e) q.waiters
      → Updates p p' key (Some (record x.now.0 { value = e.value })) → slab_len p' ≡ slab_len p → IsWaking e q0 q' p0 p'
  waking_more q q' p p' key w x r s c l u n = record {
    woken = w.woken ++ key ∷ [];
    ready = r ∙ ap (λ y. y ++ key ∷ []) w.ready ∙ append_assoc q0.ready w.woken (key ∷ []);
    sleepers = s ∙ w.sleepers;
    rest = append_assoc w.woken (key ∷ []) (chosen (hears e) q'.waiters) ∙ ap (λ y. w.woken ++ y) (sym c) ∙ w.rest;
    stay = l ∙ w.stay;
    changed = λ other k g m. elim (cases_eq other key) [
      | inl same ↦
          let both : Some x.kept ≡ Some k = sym x.first ∙ ap (get p0) (sym same) ∙ g in
          let k_is : x.kept ≡ k = cc in
          ap (get p') same ∙ u.changed ∙ ap Some (x.now.2 ∙ ap (λ (y : Kept). record y { value = e.value }) k_is)
      | inr differs ↦
          let z = how_often-other other key (λ y. differs (sym y)) in
          let t = how_often-append other w.woken (key ∷ []) in
          u.others other differs ∙ w.changed other k g (omega arith)
    ];
    others = λ other m.
        let t = how_often-append other w.woken (key ∷ []) in
        elim (cases_eq other key) [
          | inl same ↦ absurd (let one : how_often other (key ∷ []) ≡ 1 = subst (λ o. how_often o (key ∷ []) ≡ 1) (sym same) (how_often-same key) in omega arith)
          | inr differs ↦ u.others other differs ∙ w.others other (omega arith)
        ];
    live = n ∙ w.live;
  }

  woken-whole : (q : ListsOf ℕ) (p : Slab Kept) (w : IsWaking e q0 q p0 p) → chosen (hears e) q.waiters ≡ [] → w.woken ≡ chosen (hears e) q0.waiters
  woken-whole q p w n = sym (append-nil w.woken) ∙ ap (λ y. w.woken ++ y) (sym n) ∙ w.rest

  pub waking_done : (q : ListsOf ℕ) (p : Slab Kept) (w : IsWaking e q0 q p0 p) → chosen (hears e) q.waiters ≡ [] → q ≡ all_woken e q0
  waking_done q p w n = same_lists _ _ _ _ _ _ (w.ready ∙ ap (λ y. q0.ready ++ y) (woken-whole q p w n)) w.sleepers (sym (left-all (hears e) q.waiters n) ∙ w.stay)
