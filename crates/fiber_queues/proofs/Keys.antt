-- How often a key stands in lists, and what stands for the keys of lists.
use Rattle.std.proofs.Common.{◌≡◌, ◌≢◌, ℕ, suc, ◌+◌, ◌≤◌, Bool, true, false, if◌then◌else◌, List, [], ◌∷◌, ◌++◌, length, map, refl, sym, ap, ◌∙◌, arith, ◌==◌, length-append}
use Rattle.std.proofs.lemmas.Bool.{eq-eqb, eqb-true}
use Rattle.std.proofs.lemmas.List.{map-append, length-map}
use Rattle.board_world.specs.declared.events.Event.{Event}
use Rattle.board_world.specs.Waiting.{chosen, left, hears}
use Rattle.fiber_queues.specs.Lists.{ListsOf}
use Rattle.fiber_queues.specs.Keys.{listed, how_often, IsOnce}
use Rattle.fiber_queues.specs.Calls.{keyed, meant, all_woken}
use Rattle.fiber_queues.proofs.ChosenKeys.{chosen-keyed, left-keyed}
use Rattle.fiber_queues.proofs.Calls.{same_lists}

pub how_often-append : (key : ℕ) (xs ys : List ℕ) → how_often key (xs ++ ys) ≡ how_often key xs + how_often key ys
how_often-append key [] ys = omega arith
how_often-append key (x ∷ xs) ys = by_test (x == key) (how_often-append key xs ys)
  where
    by_test : (b : Bool) → how_often key (xs ++ ys) ≡ how_often key xs + how_often key ys
        → (if b then suc (how_often key (xs ++ ys)) else how_often key (xs ++ ys)) ≡ (if b then suc (how_often key xs) else how_often key xs) + how_often key ys
    by_test true h = omega (arith, h)
    by_test false h = h

pub how_often-same : (key : ℕ) → how_often key (key ∷ []) ≡ 1
how_often-same key = let e : (key == key) ≡ true = eq-eqb key key refl in rw e refl

pub how_often-other : (key x : ℕ) → x ≢ key → how_often key (x ∷ []) ≡ 0
how_often-other key x d = by_test (x == key) refl
  where
    by_test : (b : Bool) → (x == key) ≡ b → ◌≡◌ {A = ℕ} (if b then suc (how_often key []) else how_often key []) 0
    by_test true e = absurd (d (eqb-true x key e))
    by_test false e = refl

-- each key stands among those who pass or among those who are left
pub how_often-parted : {Z : Type 0} (test : Z → Bool) (key : ℕ) (ps : List (Z × ℕ)) → how_often key (chosen test ps) + how_often key (map (λ p. p.1) (left test ps)) ≡ how_often key (map (λ p. p.1) ps)
how_often-parted test key [] = refl
how_often-parted test key (p ∷ ps) = by_test (test p.0) (how_often-parted test key ps)
  where
    by_test : (b : Bool) → how_often key (chosen test ps) + how_often key (map (λ p. p.1) (left test ps)) ≡ how_often key (map (λ p. p.1) ps)
        → how_often key (if b then p.1 ∷ chosen test ps else chosen test ps) + how_often key (map (λ p. p.1) (if b then left test ps else p ∷ left test ps)) ≡ how_often key (p.1 ∷ map (λ p. p.1) ps)
    by_test true h = let a = how_often-append key (p.1 ∷ []) (chosen test ps) in let b = how_often-append key (p.1 ∷ []) (map (λ p. p.1) ps) in omega (arith, a, b, h)
    by_test false h = let a = how_often-append key (p.1 ∷ []) (map (λ p. p.1) (left test ps)) in let b = how_often-append key (p.1 ∷ []) (map (λ p. p.1) ps) in omega (arith, a, b, h)

pub how_often-listed : (key : ℕ) (q : ListsOf ℕ) → how_often key (listed q) ≡ how_often key q.ready + (how_often key (map (λ p. p.1) q.sleepers) + how_often key (map (λ p. p.1) q.waiters))
how_often-listed key q = how_often-append key q.ready _ ∙ ap (λ n. how_often key q.ready + n) (how_often-append key (map (λ p. p.1) q.sleepers) _)

pub length-listed : (q : ListsOf ℕ) → length (listed q) ≡ length q.ready + (length q.sleepers + length q.waiters)
length-listed q = simp (length-append, length-map)

-- what stands for keys goes by each of them
module _ {Y : Type 0} (f f' : ℕ → Y) where
  pub map-each : (g : Y → Y) (keys : List ℕ) → ((key : ℕ) → 1 ≤ how_often key keys → f' key ≡ g (f key)) → map f' keys ≡ map g (map f keys)
  map-each g [] h = refl
  map-each g (k ∷ ks) h =
      let here : f' k ≡ g (f k) = h k (let s = how_often-append k (k ∷ []) ks in omega (arith, s, how_often-same k)) in
      let others : map f' ks ≡ map g (map f ks) = map-each g ks (λ key n. h key (let s = how_often-append key (k ∷ []) ks in omega (arith, n, s))) in
      rw (here, others) refl

  pub map-same : (keys : List ℕ) → ((key : ℕ) → 1 ≤ how_often key keys → f' key ≡ f key) → map f' keys ≡ map f keys
  map-same [] h = refl
  map-same (k ∷ ks) h =
      let here : f' k ≡ f k = h k (let s = how_often-append k (k ∷ []) ks in omega (arith, s, how_often-same k)) in
      let others : map f' ks ≡ map f ks = map-same ks (λ key n. h key (let s = how_often-append key (k ∷ []) ks in omega (arith, n, s))) in
      rw (here, others) refl

  pub keyed-same : {Z : Type 0} (ps : List (Z × ℕ)) → ((key : ℕ) → 1 ≤ how_often key (map (λ p. p.1) ps) → f' key ≡ f key) → keyed f' ps ≡ keyed f ps
  keyed-same [] h = refl
  keyed-same (p ∷ ps) h =
      let here : f' p.1 ≡ f p.1 = h p.1 (let s = how_often-append p.1 (p.1 ∷ []) (map (λ p. p.1) ps) in omega (arith, s, how_often-same p.1)) in
      let others : keyed f' ps ≡ keyed f ps = keyed-same ps (λ key n. h key (let s = how_often-append key (p.1 ∷ []) (map (λ p. p.1) ps) in omega (arith, n, s))) in
      rw (here, others) refl

  pub meant-same : (q : ListsOf ℕ) → ((key : ℕ) → 1 ≤ how_often key (listed q) → f' key ≡ f key) → meant f' q ≡ meant f q
  meant-same q h =
      let at = λ (key : ℕ). how_often-listed key q in
      same_lists _ _ _ _ _ _
      (map-same q.ready (λ key n. h key (omega (arith, n, at key))))
      (keyed-same q.sleepers (λ key n. h key (omega (arith, n, at key))))
      (keyed-same q.waiters (λ key n. h key (omega (arith, n, at key))))

  -- those who hear an event become ready; what stands for them changes, and what stands for the others stays
  pub meant-woken : (g : Y → Y) (e : Event) (q : ListsOf ℕ) → IsOnce q → ((key : ℕ) → 1 ≤ how_often key (chosen (hears e) q.waiters) → f' key ≡ g (f key)) → ((key : ℕ) → how_often key (chosen (hears e) q.waiters) ≡ 0 → f' key ≡ f key)
      → meant f' (all_woken e q) ≡ (let p = meant f q in record p { ready = p.ready ++ map g (chosen (hears e) p.waiters); waiters = left (hears e) p.waiters })
  meant-woken g e q once woke others =
      let heard = chosen (hears e) q.waiters in
      let waits = left (hears e) q.waiters in
      let at = λ (key : ℕ). how_often-listed key q in
      let parted = λ (key : ℕ). how_often-parted (hears e) key q.waiters in
      let ready : map f' q.ready ≡ map f q.ready = map-same q.ready (λ key n. others key (omega (arith, n, once key, at key, parted key))) in
      let new : map f' heard ≡ map g (chosen (hears e) (keyed f q.waiters)) = map-each g heard woke ∙ ap (map g) (sym (chosen-keyed (hears e) f q.waiters)) in
      same_lists _ _ _ _ _ _
      (map-append f' q.ready heard ∙ rw (ready, new) refl)
      (keyed-same q.sleepers (λ key n. others key (omega (arith, n, once key, at key, parted key))))
      (keyed-same waits (λ key n. others key (omega (arith, n, once key, at key, parted key))) ∙ sym (left-keyed (hears e) f q.waiters))
