-- Who stands behind the running fiber, when something changes.
use Rattle.std.proofs.Common.{◌≡◌, ℕ, zero, suc, ◌<◌, ◌≤◌, ℤ, true, List, [], ◌∷◌, map, Some, refl, sym, ap, ◌∙◌, arith}
use Rattle.slab.specs.Slab.{Slab, get}
use Rattle.board_world.specs.declared.events.Event.{Event}
use Rattle.board_world.specs.Waiting.{Hearing, handler_of}
use Rattle.board_world.specs.Activities.{woken}
use Rattle.fiber_pool.specs.Kept.{Kept, or_unused}
use Rattle.fiber_queues.specs.Calls.{keyed}
use Rattle.fiber_runtime.specs.declared.turning.Raiser.{Raiser}
use Rattle.bank_model.specs.Standing.{SameFrom}
use Rattle.fiber_runtime.specs.Sound.{IsNested}
use Rattle.fiber_queues.specs.Keys.{how_often}
use Rattle.bank_model.proofs.Laws.{same_words, same_above}
use Rattle.fiber_queues.proofs.Laws.{how_often-append, how_often-same}
use Rattle.board_run.specs.Shown.{PendingDispatch, ArePlaces, acting, of_raiser, of_kept, of_key, begun_as, standing}
use Rattle.message_bus.specs.Numbers.{IsRising}

-- the same raiser, where its words are
pub same_raiser : (at : ℕ) (old new : List ℕ) (r : Raiser) → SameFrom at old new → at ≤ r.registers.sp → of_raiser new r ≡ of_raiser old r
same_raiser at old new r h l = ap (λ ws. acting (record { registers = r.registers; base = r.base; bank = ws }) r.turning true) (same_words at r.registers.sp r.base old new h l)

-- The raisers' words stand above an address at which the stack regions agree: so all who stand behind are the same.
pub standing_same : (image : List ℕ) (hs : List Hearing) (at : ℕ) (old new : List ℕ) (rs : List Raiser) (ps : List PendingDispatch) → IsNested at rs → SameFrom at old new
    → standing image hs new rs ps ≡ standing image hs old rs ps
standing_same image hs at old new rs [] n h = refl
standing_same image hs at old new [] (p ∷ ps) n h = refl
standing_same image hs at old new (r ∷ rs) (p ∷ ps) n h =
    let a = same_raiser at old new r h n.0 in
    let up : at ≤ r.base = omega (arith, n.0, n.1.within) in
    let b = standing_same image hs r.base old new rs ps n.2 (same_above at r.base old new h up) in
    rw (a, b) refl

-- handlers of listeners that stand, when others come or hold other events
pub unbegun_same : (image : List ℕ) (base : ℕ) (e : Event) (hs hs' : List Hearing) (n k : ℕ) (is : List ℕ) → ((i : ℕ) → i < n → handler_of i hs' ≡ handler_of i hs) → IsRising k is n
    → map (begun_as image base e hs') is ≡ map (begun_as image base e hs) is
unbegun_same image base e hs hs' n k [] h r = refl
unbegun_same image base e hs hs' n k (i ∷ is) h r = rw (h i r.1, unbegun_same image base e hs hs' n (suc i) is h r.2) refl

pub standing_heard : (image : List ℕ) (stack : List ℕ) (hs hs' : List Hearing) (n : ℕ) (rs : List Raiser) (ps : List PendingDispatch) → ((i : ℕ) → i < n → handler_of i hs' ≡ handler_of i hs) → ArePlaces n rs ps
    → standing image hs' stack rs ps ≡ standing image hs stack rs ps
standing_heard image stack hs hs' n rs [] h a = refl
standing_heard image stack hs hs' n [] (p ∷ []) h a = unbegun_same image _ p.event hs hs' n zero p.left h a
standing_heard image stack hs hs' n [] (p ∷ (q ∷ ps)) h a = absurd a
standing_heard image stack hs hs' n (r ∷ rs) (p ∷ ps) h a = rw (unbegun_same image r.registers.sp p.event hs hs' n zero p.left h a.0, standing_heard image stack hs hs' n rs ps h a.1) refl

pub rising_more : (k : ℕ) (is : List ℕ) (n m : ℕ) → n ≤ m → IsRising k is n → IsRising k is m
rising_more k [] n m l h = tt
rising_more k (i ∷ is) n m l h = (h.0, omega (arith, h.1), rising_more (suc i) is n m l h.2)

pub rising_from : (k j : ℕ) (is : List ℕ) (n : ℕ) → j ≤ k → IsRising k is n → IsRising j is n
rising_from k j [] n l h = tt
rising_from k j (i ∷ is) n l h = (omega (arith, h.0), h.1, h.2)

pub places_more : (n m : ℕ) (rs : List Raiser) (ps : List PendingDispatch) → n ≤ m → ArePlaces n rs ps → ArePlaces m rs ps
places_more n m [] [] l h = h
places_more n m [] (p ∷ []) l h = rising_more zero p.left n m l h
places_more n m [] (p ∷ (q ∷ ps)) l h = h
places_more n m (r ∷ rs) [] l h = h
places_more n m (r ∷ rs) (p ∷ ps) l h = (rising_more zero p.left n m l h.0, places_more n m rs ps l h.1)

-- what is kept at other keys
pub key_same : (old new : Slab Kept) (key : ℕ) → get new key ≡ get old key → of_key new key ≡ of_key old key
key_same old new key e = ap (λ o. of_kept (or_unused o)) e

pub key_is : (pool : Slab Kept) (key : ℕ) (k : Kept) → get pool key ≡ Some k → of_key pool key ≡ of_kept k
key_is pool key k e = ap (λ o. of_kept (or_unused o)) e

pub keys_same : (old new : Slab Kept) (keys : List ℕ) → ((key : ℕ) → 1 ≤ how_often key keys → get new key ≡ get old key) → map (of_key new) keys ≡ map (of_key old) keys
keys_same old new [] h = refl
keys_same old new (k ∷ ks) h =
    let a = key_same old new k (h k (let t = how_often-same k in let s = how_often-append k (k ∷ []) ks in omega (arith, t, s))) in
    let b = keys_same old new ks (λ key n. h key (let s = how_often-append key (k ∷ []) ks in omega (arith, n, s))) in
    rw (a, b) refl

pub keyed_same : {Z : Type 0} (old new : Slab Kept) (ps : List (Z × ℕ)) → ((key : ℕ) → 1 ≤ how_often key (map (λ p. p.1) ps) → get new key ≡ get old key) → keyed (of_key new) ps ≡ keyed (of_key old) ps
keyed_same old new [] h = refl
keyed_same old new (p ∷ ps) h =
    let a = key_same old new p.1 (h p.1 (let t = how_often-same p.1 in let s = how_often-append p.1 (p.1 ∷ []) (map (λ p. p.1) ps) in omega (arith, t, s))) in
    let b = keyed_same old new ps (λ key n. h key (let s = how_often-append key (p.1 ∷ []) (map (λ p. p.1) ps) in omega (arith, n, s))) in
    rw (a, b) refl

-- the records of those who are woken by an event get its value
pub keys_woken : (old new : Slab Kept) (value : ℤ) (keys : List ℕ) → ((key : ℕ) → 1 ≤ how_often key keys → (k : Kept) × (get old key ≡ Some k) × (get new key ≡ Some (record k { value = value })))
    → map (of_key new) keys ≡ map (woken value) (map (of_key old) keys)
keys_woken old new value [] h = refl
keys_woken old new value (k ∷ ks) h =
    let x = h k (let t = how_often-same k in let s = how_often-append k (k ∷ []) ks in omega (arith, t, s)) in
    let a : of_key new k ≡ woken value (of_key old k) = key_is new k _ x.2 ∙ sym (ap (woken value) (key_is old k _ x.1)) in
    let b = keys_woken old new value ks (λ key n. h key (let s = how_often-append key (k ∷ []) ks in omega (arith, n, s))) in
    rw (a, b) refl
