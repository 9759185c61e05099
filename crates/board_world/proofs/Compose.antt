-- Two simulations, one behind the other.
use Rattle.std.proofs.Common.{◌≡◌, ℕ, zero, suc, ◌+◌, ◌≤◌, ℤ, refl, sym, ◌∙◌, subst, arith}
use Rattle.board_world.specs.declared.events.Event.{Event}
use Rattle.board_world.specs.declared.events.Listener.{Listener}
use Rattle.board_world.specs.Limits.{arena_limit}
use Rattle.board_world.specs.Kinds.{Kind, Turn, Goes, Asks, Takes, Pauses, Waits, Spawns, Listens, RaisesNow, Ends, Panics, Faults, Question}
use Rattle.board_world.specs.Panicking.{MayPanic}
use Rattle.board_world.specs.Simulation.{Ties, Onward, Going, Listening, Begins, Matches, Path, Follows, Simulation}
use Rattle.board_world.specs.Composed.{seen, joined_seen}
use Rattle.board_world.specs.Sound.{NoFault, PartialSimulation}
use Rattle.board_world.proofs.Lift.{same_size}

module _ {C D : Type 0} (M : Kind C D) (weight : C → D → ℕ) where
  -- a path of any number of steps
  abbrev pub Way : ℕ → C → D → C → D → Type 0
  Way cost b t c u = (n : ℕ) × Path M weight n cost b t c u

  pub way_on : (n c d : ℕ) (b : C) (t : D) (b' : C) (t' : D) (e : C) (u : D) → Path M weight n c b t b' t' → Way d b' t' e u → Way (c + d) b t e u
  way_on zero c d b t b' t' e u p q = (
    q.0,
    subst (λ (x : C). Path M weight q.0 (c + d) x t e u) (sym p.0)
        (subst (λ (x : D). Path M weight q.0 (c + d) b' x e u) (sym p.1)
        (subst (λ (k : ℕ). Path M weight q.0 k b' t' e u) ((let z : c ≡ 0 = p.2 in let same : d ≡ c + d = omega arith in same)) q.1)),
  )
  way_on (suc n) c d b t b' t' e u p q =
      (let rest : Way (p.2 + d) p.0 p.1 e u = way_on n p.2 d p.0 p.1 b' t' e u p.5 q in
      let short : c ≡ weight b t + p.2 = p.4 in
      let sum : c + d ≡ weight b t + (p.2 + d) = omega arith in
      (suc rest.0, (p.0, p.1, p.2 + d, p.3, sum, rest.1)))

  -- one step
  pub way_step : (b : C) (t : D) (c : C) (u : D) → M.step b t ≡ Goes c u → Way (weight b t) b t c u
  way_step b t c u e = (1, (c, u, 0, e, omega arith, (refl, refl, refl)))

-- what isn't a fault is matched by what isn't
pub no_fault_below : {A S C D : Type 0} (K : Kind A S) (L : Kind C D) (T : Ties A S C D) (used : ℕ) (s : S) (t : D) (x : Turn A S) (y : Turn C D) → Matches K L T used s t x y → NoFault x → NoFault y
no_fault_below K L T used s t (Goes a s') (Goes b t') h p = tt
no_fault_below K L T used s t (Asks q f) (Asks r g) h p = tt
no_fault_below K L T used s t (Takes q f) (Takes r g) h p = tt
no_fault_below K L T used s t (Pauses n a s') (Pauses m b t') h p = tt
no_fault_below K L T used s t (Waits n a s') (Waits m b t') h p = tt
no_fault_below K L T used s t (Spawns n a s') (Spawns m b t') h p = tt
no_fault_below K L T used s t (Listens n a s') (Listens m b t') h p = tt
no_fault_below K L T used s t (RaisesNow n f a s') (RaisesNow m g b t') h p = tt
no_fault_below K L T used s t (Ends f s') (Ends g t') h p = tt
no_fault_below K L T used s t (Panics c) (Panics d) h p = tt
no_fault_below K L T used s t (Faults c x) y h p = absurd p
no_fault_below K L T used s t _ _ h p = absurd h

-- what may panic is matched by what may
pub may_panic_below : {A S C D : Type 0} (K : Kind A S) (L : Kind C D) (T : Ties A S C D) (used : ℕ) (s : S) (t : D) (x : Turn A S) (y : Turn C D)
    → Matches K L T used s t x y → MayPanic x → MayPanic y
may_panic_below K L T used s t (Goes a s') y h p = absurd p
may_panic_below K L T used s t (Asks q f) y h p = absurd p
may_panic_below K L T used s t (Ends f s') y h p = absurd p
may_panic_below K L T used s t (Faults c a) y h p = absurd p
may_panic_below K L T used s t (Takes n f) (Takes m g) h p = tt
may_panic_below K L T used s t (Pauses n a s') (Pauses m b t') h p = tt
may_panic_below K L T used s t (Waits n a s') (Waits m b t') h p = tt
may_panic_below K L T used s t (Spawns f a s') (Spawns g b t') h p = tt
may_panic_below K L T used s t (Listens l a s') (Listens m b t') h p = tt
may_panic_below K L T used s t (RaisesNow e f a s') (RaisesNow d g b t') h p = tt
may_panic_below K L T used s t (Panics c) (Panics d) h p = tt
may_panic_below K L T used s t _ _ h p = absurd h

module _ {A B C S R D : Type 0} (K : Kind A S) (L : Kind B R) (M : Kind C D) (down : S → R) (Fine : ℕ → S → Type 0) (Act : S → A → B → Type 0) (Code : ℕ → ℕ → Type 0)
    (At : A → B → Type 0) (U : Ties B R C D) where
  abbrev T : Ties A S B R
  T = seen down Fine Act Code At

  abbrev tied : Ties A S C D
  tied = joined_seen down Fine Act Code At U

  -- from s to s' for the two upper ones, and from t to u' for the lower one, t having been reached from s
  pub onward_on : (used used' : ℕ) (s s' : S) (t t' : R) (u u' v : D) → Onward T used s s' (down s) t' → Onward U used' (down s) t u v → Onward U used t t' v u' → Onward tied used s s' u u'
  onward_on used used' s s' t t' u u' v x between y =
      record {
        shared = (x.shared.1, subst (λ (z : R). U.Shared used z u') (sym x.shared.0) y.shared);
        others = λ c d h. (h.0, x.others c h.0 h.1, subst (λ (z : R). U.Active z u' h.0 d) (sym x.shared.0) (y.others h.0 d (between.others h.0 d h.2)));
      }

  pub going_on : (used used' : ℕ) (s : S) (t : R) (u v : D) (x : A × S) (y : B × R) (z : C × D) → Going T used s (down s) x y → Onward U used' (down s) t u v → Going U used t v y z → Going tied used s u x z
  going_on used used' s t u v x y z h between k =
      record {
        self = (y.0, h.self, subst (λ (q : R). U.Active q z.1 y.0 z.0) (sym h.onward.shared.0) k.self);
        onward = onward_on used used' s x.1 t y.1 u z.1 v h.onward between k.onward;
      }

  module _ (used : ℕ) (s : S) (t : R) (u v : D) (between : Onward U used (down s) t u v) where
    Joins : Turn A S → Turn B R → Turn C D → Type 0
    Joins x y z = Matches K L T used s (down s) x y → Matches L M U used t v y z → Matches K M tied used s u x z

    listening_on : (l m n : Listener) → Listening T l m → Listening U m n → Listening tied l n
    listening_on l m n h k = record { source = h.source ∙ k.source; value = h.value ∙ k.value; code = (m.handler, h.code, k.code); mode = h.mode ∙ k.mode }

    goes_on' : (x : A × S) (y : B × R) (z : Turn C D) → Matches K L T used s (down s) (Goes x.0 x.1) (Goes y.0 y.1) → Matches L M U used t v (Goes y.0 y.1) z → Matches K M tied used s u (Goes x.0 x.1) z
    goes_on' x y (Goes c w) h k = going_on used used s t u v (x.0, x.1) (y.0, y.1) (c, w) h between k
    goes_on' x y _ h k = absurd k

    asks_on : (q p : Question) (f : ℤ → A × S) (g : ℤ → B × R) (z : Turn C D) → Matches K L T used s (down s) (Asks q f) (Asks p g) → Matches L M U used t v (Asks p g) z → Matches K M tied used s u (Asks q f) z
    asks_on q p f g (Asks r i) h k = (h.0 ∙ k.0, λ n. going_on used used s t u v (f n) (g n) (i n) (h.1 n) between (k.1 n))
    asks_on q p f g _ h k = absurd k

    takes_on : (q p : ℕ) (f : ℕ → A × S) (g : ℕ → B × R) (z : Turn C D) → Matches K L T used s (down s) (Takes q f) (Takes p g) → Matches L M U used t v (Takes p g) z → Matches K M tied used s u (Takes q f) z
    takes_on q p f g (Takes r i) h k =
        (h.0 ∙ k.0, λ fits. going_on (used + q) used s t u v (f used) (g used) (i used) (h.1 fits) between (subst (λ (n : ℕ). used + n ≤ arena_limit → Going U (used + n) t v (g used) (i used)) (sym (same_size used q p h.0 fits)) k.1 fits))
    takes_on q p f g _ h k = absurd k

    pauses_on : (n m : ℤ) (x : A × S) (y : B × R) (z : Turn C D) → Matches K L T used s (down s) (Pauses n x.0 x.1) (Pauses m y.0 y.1) → Matches L M U used t v (Pauses m y.0 y.1) z → Matches K M tied used s u (Pauses n x.0 x.1) z
    pauses_on n m x y (Pauses r c w) h k = (h.0 ∙ k.0, h.1 ∙ k.1, going_on used used s t u v (x.0, x.1) (y.0, y.1) (c, w) h.2 between k.2)
    pauses_on n m x y _ h k = absurd k

    waits_on : (n m : Event) (x : A × S) (y : B × R) (z : Turn C D) → Matches K L T used s (down s) (Waits n x.0 x.1) (Waits m y.0 y.1) → Matches L M U used t v (Waits m y.0 y.1) z → Matches K M tied used s u (Waits n x.0 x.1) z
    waits_on n m x y (Waits r c w) h k = (h.0 ∙ k.0, h.1 ∙ k.1, going_on used used s t u v (x.0, x.1) (y.0, y.1) (c, w) h.2 between k.2)
    waits_on n m x y _ h k = absurd k

    spawns_on : (f g : ℕ) (x : A × S) (y : B × R) (z : Turn C D) → Matches K L T used s (down s) (Spawns f x.0 x.1) (Spawns g y.0 y.1) → Matches L M U used t v (Spawns g y.0 y.1) z → Matches K M tied used s u (Spawns f x.0 x.1) z
    spawns_on f g x y (Spawns r c w) h k = ((g, h.0, k.0), going_on used used s t u v (x.0, x.1) (y.0, y.1) (c, w) h.1 between k.1)
    spawns_on f g x y _ h k = absurd k

    listens_on : (l m : Listener) (x : A × S) (y : B × R) (z : Turn C D) → Matches K L T used s (down s) (Listens l x.0 x.1) (Listens m y.0 y.1) → Matches L M U used t v (Listens m y.0 y.1) z → Matches K M tied used s u (Listens l x.0 x.1) z
    listens_on l m x y (Listens r c w) h k = (listening_on l m r h.0 k.0, going_on used used s t u v (x.0, x.1) (y.0, y.1) (c, w) h.1 between k.1)
    listens_on l m x y _ h k = absurd k

    begins_on : (s' : S) (t' : R) (w : D) (f : ℕ → A) (g : ℕ → B) (i : ℕ → C) → down s' ≡ t' → Begins T s' t' f g → Begins U t' w g i → Begins tied s' w f i
    begins_on s' t' w f g i e h k = record { each = λ x z c. (g c.0, h.each x c.0 c.1, subst (λ (q : R). U.Active q w (g c.0) (i z)) (sym e) (k.each c.0 z c.2)) }

    raises_on : (n m : Event) (f : ℕ → A) (g : ℕ → B) (x : A × S) (y : B × R) (z : Turn C D) → Matches K L T used s (down s) (RaisesNow n f x.0 x.1) (RaisesNow m g y.0 y.1) → Matches L M U used t v (RaisesNow m g y.0 y.1) z → Matches K M tied used s u (RaisesNow n f x.0 x.1) z
    raises_on n m f g x y (RaisesNow r i c w) h k = (h.0 ∙ k.0, begins_on x.1 y.1 w f g i h.2.onward.shared.0 h.1 k.1, going_on used used s t u v (x.0, x.1) (y.0, y.1) (c, w) h.2 between k.2)
    raises_on n m f g x y _ h k = absurd k

    ends_on : (f : ℕ → A) (g : ℕ → B) (s' : S) (t' : R) (z : Turn C D) → Matches K L T used s (down s) (Ends f s') (Ends g t') → Matches L M U used t v (Ends g t') z → Matches K M tied used s u (Ends f s') z
    ends_on f g s' t' (Ends i w) h k = (begins_on s' t' w f g i h.1.shared.0 h.0 k.0, onward_on used used s s' t t' u w v h.1 between k.1)
    ends_on f g s' t' _ h k = absurd k

    panics_on : (c d : ℕ) (z : Turn C D) → Matches K L T used s (down s) (Panics c) (Panics d) → Matches L M U used t v (Panics d) z → Matches K M tied used s u (Panics c) z
    panics_on c d (Panics e) h k = h ∙ k
    panics_on c d _ h k = absurd k

    faults_on : (c a d b : ℕ) (z : Turn C D) → Matches K L T used s (down s) (Faults c a) (Faults d b) → Matches L M U used t v (Faults d b) z → Matches K M tied used s u (Faults c a) z
    faults_on c a d b (Faults e f) h k = (h.0 ∙ k.0, h.1 ∙ k.1)
    faults_on c a d b _ h k = absurd k

    pub matches_on : (x : Turn A S) (y : Turn B R) (z : Turn C D) → Matches K L T used s (down s) x y → Matches L M U used t v y z → Matches K M tied used s u x z
    matches_on (Goes a s') (Goes b t') z h k = goes_on' (a, s') (b, t') z h k
    matches_on (Asks q f) (Asks p g) z h k = asks_on q p f g z h k
    matches_on (Takes q f) (Takes p g) z h k = takes_on q p f g z h k
    matches_on (Pauses n a s') (Pauses m b t') z h k = pauses_on n m (a, s') (b, t') z h k
    matches_on (Waits n a s') (Waits m b t') z h k = waits_on n m (a, s') (b, t') z h k
    matches_on (Spawns n a s') (Spawns m b t') z h k = spawns_on n m (a, s') (b, t') z h k
    matches_on (Listens n a s') (Listens m b t') z h k = listens_on n m (a, s') (b, t') z h k
    matches_on (RaisesNow n f a s') (RaisesNow m g b t') z h k = raises_on n m f g (a, s') (b, t') z h k
    matches_on (Ends f s') (Ends g t') z h k = ends_on f g s' t' z h k
    matches_on (Panics c) (Panics d) z h k = panics_on c d z h k
    matches_on (Faults c a) (Faults d b) z h k = faults_on c a d b z h k
    matches_on _ _ z h k = absurd h

  -- what a turn that only goes on is matched by
  pub goes_matched : (used : ℕ) (t : R) (u : D) (b : B) (t' : R) (z : Turn C D) → Matches L M U used t u (Goes b t') z → (c : C) × (u' : D) × (z ≡ Goes c u') × Going U used t u (b, t') (c, u')
  goes_matched used t u b t' (Goes c u') h = (c, u', refl, h)
  goes_matched used t u b t' _ h = absurd h

  pub onward_trans : (used : ℕ) (s t t' : R) (u v v' : D) → Onward U used s t u v → Onward U used t t' v v' → Onward U used s t' u v'
  onward_trans used s t t' u v v' x y = record { shared = y.shared; others = λ c d h. y.others c d (x.others c d h) }

  -- the upper kind is followed where its turn is a P, and the middle one where its turn is a Q
  module _ (weight : B → R → ℕ) (weight' : C → D → ℕ) (bound : A → S → ℕ) (P : Turn A S → Type 0) (Q : Turn B R → Type 0)
      (goes : (b : B) (t : R) → Q (Goes b t)) (passes : (used : ℕ) (s : S) (t : R) (x : Turn A S) (y : Turn B R) → Matches K L T used s t x y → P x → Q y)
      (upper : (used : ℕ) (s : S) (t : R) (a : A) (b : B) → T.Shared used s t → T.Active s t a b → P (K.step a s) → Follows K L T weight (bound a s) used s t a b t)
      (lower : (used : ℕ) (s : R) (t : D) (b : B) (c : C) → U.Shared used s t → U.Active s t b c → Q (L.step b s) → Follows L M U weight' (weight b s) used s t b c t) where
    -- along a path of the middle one the lower one follows
    record Walked (used : ℕ) (s t : R) (u : D) (b : B) (c : C) (cost : ℕ) : Type 0 where
      pub at : C
      pub memory : D
      pub spent : ℕ
      pub cheap : spent ≤ cost
      pub way : Way M weight' spent c u at memory
      pub active : U.Active t memory b at
      pub onward : Onward U used s t u memory

    walk : (n : ℕ) (used : ℕ) (s : R) (u : D) (b : B) (c : C) (cost : ℕ) (b' : B) (t : R) → U.Shared used s u → U.Active s u b c → Path L weight n cost b s b' t → Walked used s t u b' c cost
    walk zero used s u b c cost b' t h k p =
        record {
          at = c;
          memory = u;
          spent = 0;
          cheap = omega arith;
          way = (0, (refl, refl, refl));
          active = subst (λ (x : B). U.Active t u x c) p.0 (subst (λ (x : R). U.Active x u b c) p.1 k);
          onward = subst (λ (x : R). Onward U used s x u u) p.1 (record { shared = h; others = λ x y q. q });
        }
    walk (suc n) used s u b c cost b' t h k p =
        (let f : Follows L M U weight' (weight b s) used s u b c u = lower used s u b c h k (subst Q (sym p.3) (goes p.0 p.1)) in
        let g = goes_matched used s u p.0 p.1 (M.step f.last f.memory) (subst (λ (x : Turn B R). Matches L M U used s u x (M.step f.last f.memory)) p.3 f.match) in
        let r : Walked used p.1 t g.1 b' g.0 p.2 = walk n used p.1 g.1 p.0 g.0 p.2 b' t g.3.onward.shared g.3.self p.5 in
        let first : Way M weight' (f.cost + weight' f.last f.memory) c u g.0 g.1 = way_on M weight' f.steps f.cost (weight' f.last f.memory) c u f.last f.memory g.0 g.1 f.path (way_step M weight' f.last f.memory g.0 g.1 g.2) in
        let light : f.cost + weight' f.last f.memory ≤ weight b s = f.light in
        let less : r.spent ≤ p.2 = r.cheap in
        let short : cost ≡ weight b s + p.2 = p.4 in
        record {
          at = r.at;
          memory = r.memory;
          spent = (f.cost + weight' f.last f.memory) + r.spent;
          cheap = omega arith;
          way = way_on M weight' first.0 (f.cost + weight' f.last f.memory) r.spent c u g.0 g.1 r.at r.memory first.1 r.way;
          active = r.active;
          onward = onward_trans used s p.1 t u g.1 r.memory g.3.onward r.onward;
        })

    joined_follows : (used : ℕ) (s : S) (u : D) (a : A) (c : C) → tied.Shared used s u → tied.Active s u a c → P (K.step a s) → Follows K M tied weight' (bound a s) used s u a c u
    joined_follows used s u a c h k p =
        (let f : Follows K L T weight (bound a s) used s (down s) a k.0 (down s) = upper used s (down s) a k.0 (refl, h.0) k.1 p in
        let r : Walked used (down s) f.memory u f.last c f.cost = walk f.steps used (down s) u k.0 c f.cost f.last f.memory h.1 k.2 f.path in
        let g : Follows L M U weight' (weight f.last f.memory) used f.memory r.memory f.last r.at r.memory = lower used f.memory r.memory f.last r.at r.onward.shared r.active (passes used s (down s) (K.step a s) (L.step f.last f.memory) f.match p) in
        let way : Way M weight' (r.spent + g.cost) c u g.last g.memory = way_on M weight' r.way.0 r.spent g.cost c u r.at r.memory g.last g.memory r.way.1 (g.steps, g.path) in
        let l1 : f.cost + weight f.last f.memory ≤ bound a s = f.light in
        let l2 : g.cost + weight' g.last g.memory ≤ weight f.last f.memory = g.light in
        let l3 : r.spent ≤ f.cost = r.cheap in
        record {
          steps = way.0;
          cost = r.spent + g.cost;
          last = g.last;
          memory = g.memory;
          path = way.1;
          light = omega arith;
          match = matches_on used s f.memory u r.memory r.onward (K.step a s) (L.step f.last f.memory) (M.step g.last g.memory) f.match g.match;
          stands = λ m. (f.last, f.stands m, g.stands (may_panic_below K L T used s (down s) (K.step a s) (L.step f.last f.memory) f.match m));
        })

  pub begins_joined : (used : ℕ) (s : S) (u : D) (f h : ℕ)
      → ((g : ℕ) → T.Shared used s (down s) → T.Code f g → T.Active s (down s) (K.begin f) (L.begin g)) → ((g : ℕ) → U.Shared used (down s) u → U.Code g h → U.Active (down s) u (L.begin g) (M.begin h))
      → tied.Shared used s u → tied.Code f h → tied.Active s u (K.begin f) (M.begin h)
  begins_joined used s u f h upper lower x y = (L.begin y.0, upper y.0 (refl, x.0) y.1, lower y.0 x.1 y.2)

  module _ (weight : B → R → ℕ) (weight' : C → D → ℕ) (bound : A → S → ℕ) where
    pub compose : Simulation K L T weight bound → Simulation L M U weight' weight → Simulation K M tied weight' bound
    compose upper lower =
        record {
          begins = λ used s u f h x y. begins_joined used s u f h (λ g. upper.begins used s (down s) f g) (λ g. lower.begins used (down s) u g h) x y;
          follows = λ used s u a c h k.
              joined_follows weight weight' bound (λ x. Unit {0}) (λ y. Unit {0}) (λ b t. tt) (λ n s t x y m p. tt)
              (λ n s t a b h k p. upper.follows n s t a b h k) (λ n s t b c h k p. lower.follows n s t b c h k) used s u a c h k tt;
        }

    pub partial_compose : PartialSimulation K L T weight bound → PartialSimulation L M U weight' weight → PartialSimulation K M tied weight' bound
    partial_compose upper lower =
        record {
          begins = λ used s u f h x y. begins_joined used s u f h (λ g. upper.begins used s (down s) f g) (λ g. lower.begins used (down s) u g h) x y;
          follows = joined_follows weight weight' bound NoFault NoFault (λ b t. tt) (λ n s t x y m p. no_fault_below K L T n s t x y m p) upper.follows lower.follows;
        }
