-- Simulations that trail: those that trail by nothing, on typed states, and behind one another.
use Rattle.std.proofs.Common.{◌≡◌, ℕ, zero, suc, ◌+◌, ◌≤◌, refl, sym, subst, arith}
use Rattle.board_world.specs.Kinds.{Kind, Turn, Goes, Asks, Takes, Pauses, Waits, Spawns, Listens, RaisesNow, Ends, Panics, Faults}
use Rattle.board_world.specs.Simulation.{Ties, Onward, Matches, Path, Follows, Simulation}
use Rattle.board_world.specs.Composed.{seen, joined_seen}
use Rattle.board_world.specs.Sound.{NoFault, PartialSimulation}
use Rattle.board_world.specs.Trailing.{Comes, Completes, TrailsWithin, PartialTrailingSimulation}
use Rattle.board_world.proofs.Trailing.{TrailingSimulation}
use Rattle.board_world.proofs.Compose.{Way, way_on, way_step, no_fault_below, may_panic_below, goes_matched, onward_trans, matches_on, begins_joined}

module _ {C D : Type 0} (L : Kind C D) (weight : C → D → ℕ) (r : ℕ) where
  -- where nothing is left to do
  stays : (x : C × D) → Comes L weight r x x
  stays x = record { steps = 0; cost = 0; few = omega arith; path = (refl, refl, refl) }

  pub is_complete : (used : ℕ) (u : Turn C D) → Completes L weight r used u u
  is_complete used (Goes c t) = (c, t, refl, stays (c, t))
  is_complete used (Asks q f) = (f, refl, λ n. stays (f n))
  is_complete used (Takes n f) = (f, refl, λ fits. stays (f used))
  is_complete used (Spawns f c t) = (c, t, refl, stays (c, t))
  is_complete used (Listens l c t) = (c, t, refl, stays (c, t))
  is_complete used (Pauses n c t) = refl
  is_complete used (Waits e c t) = refl
  is_complete used (RaisesNow e f c t) = refl
  is_complete used (Ends f t) = refl
  is_complete used (Panics code) = refl
  is_complete used (Faults kind address) = refl

  -- only a turn that goes on is completed by one that does
  goes_completed : (used : ℕ) (u : Turn C D) (c : C) (t : D) → Completes L weight r used u (Goes c t) → (b : C) × (v : D) × (u ≡ Goes b v) × Comes L weight r (b, v) (c, t)
  goes_completed used (Goes b v) c t (d, w, same, comes) = (b, v, refl, (let one : d ≡ c = cc in let two : w ≡ t = cc in subst (λ (x : C). Comes L weight r (b, v) (x, t)) one (subst (λ (x : D). Comes L weight r (b, v) (d, x)) two comes)))
  goes_completed used (Asks q f) c t h = cc
  goes_completed used (Takes n f) c t h = cc
  goes_completed used (Spawns f b v) c t h = cc
  goes_completed used (Listens l b v) c t h = cc
  goes_completed used (Pauses n b v) c t h = cc
  goes_completed used (Waits e b v) c t h = cc
  goes_completed used (RaisesNow e f b v) c t h = cc
  goes_completed used (Ends f v) c t h = cc
  goes_completed used (Panics code) c t h = cc
  goes_completed used (Faults kind address) c t h = cc

module _ {A S C D : Type 0} (K : Kind A S) (L : Kind C D) (T : Ties A S C D) (weight : C → D → ℕ) where
  follows_trail : (bound used : ℕ) (s : S) (t : D) (a : A) (b : C) → Follows K L T weight bound used s t a b t → TrailsWithin K L T weight 0 bound used s t a b
  follows_trail bound used s t a b f =
      record {
        room = bound;
        fits = omega arith;
        trails = record {
          steps = f.steps;
          cost = f.cost;
          last = f.last;
          memory = f.memory;
          path = f.path;
          light = f.light;
          turn = L.step f.last f.memory;
          completes = is_complete L weight 0 used (L.step f.last f.memory);
          match = f.match;
          stands = f.stands;
        };
      }

  -- a simulation trails by nothing
  pub trails_by_nothing : (bound : A → S → ℕ) → Simulation K L T weight bound → TrailingSimulation K L T weight 0 bound
  trails_by_nothing bound sim = record { begins = sim.begins; follows = λ used s t a b h k. follows_trail (bound a s) used s t a b (sim.follows used s t a b h k) }

  pub partial_trails_by_nothing : (bound : A → S → ℕ) → PartialSimulation K L T weight bound → PartialTrailingSimulation K L T weight 0 bound
  partial_trails_by_nothing bound sim = record { begins = sim.begins; follows = λ used s t a b h k n. follows_trail (bound a s) used s t a b (sim.follows used s t a b h k n) }

-- one behind the other: the upper one owes nothing behind its turns, the lower one trails
module _ {A B C S R D : Type 0} (K : Kind A S) (L : Kind B R) (M : Kind C D) (down : S → R) (Fine : ℕ → S → Type 0) (Act : S → A → B → Type 0) (Code : ℕ → ℕ → Type 0)
    (At : A → B → Type 0) (U : Ties B R C D)
    (weight : B → R → ℕ) (weight' : C → D → ℕ) (r : ℕ) (bound : A → S → ℕ) where
  abbrev T : Ties A S B R
  T = seen down Fine Act Code At

  abbrev tied : Ties A S C D
  tied = joined_seen down Fine Act Code At U

  module _ (upper : PartialSimulation K L T weight bound) (lower : PartialTrailingSimulation L M U weight' r weight) where
    -- along a path of the middle one the lower one follows
    record Walked (used : ℕ) (s t : R) (u : D) (b : B) (c : C) (cost : ℕ) : Type 0 where
      pub at : C
      pub memory : D
      pub spent : ℕ
      pub cheap : spent ≤ cost
      pub way : Way M weight' spent c u at memory
      pub active : U.Active t memory b at
      pub onward : Onward U used s t u memory

    walk : (n : ℕ) (used : ℕ) (s : R) (u : D) (b : B) (c : C) (cost : ℕ) (b' : B) (t : R) → U.Shared used s u → U.Active s u b c → Path L weight n cost b s b' t → Walked used s t u b' c cost
    walk zero used s u b c cost b' t h k p =
        record {
          at = c;
          memory = u;
          spent = 0;
          cheap = omega arith;
          way = (0, (refl, refl, refl));
          active = subst (λ (x : B). U.Active t u x c) p.0 (subst (λ (x : R). U.Active x u b c) p.1 k);
          onward = subst (λ (x : R). Onward U used s x u u) p.1 (record { shared = h; others = λ x y q. q });
        }
    walk (suc n) used s u b c cost b' t h k p =
        (let x = lower.follows used s u b c h k (subst NoFault (sym p.3) tt) in
        let f = x.trails in
        let g = goes_matched K L M down Fine Act Code At U used s u p.0 p.1 f.turn (subst (λ (y : Turn B R). Matches L M U used s u y f.turn) p.3 f.match) in
        let z = goes_completed M weight' r used (M.step f.last f.memory) g.0 g.1 (subst (λ (y : Turn C D). Completes M weight' r used (M.step f.last f.memory) y) g.2 f.completes) in
        let e = z.3 in
        let w : Walked used p.1 t g.1 b' g.0 p.2 = walk n used p.1 g.1 p.0 g.0 p.2 b' t g.3.onward.shared g.3.self p.5 in
        let turned : Way M weight' (f.cost + weight' f.last f.memory) c u z.0 z.1 = way_on M weight' f.steps f.cost (weight' f.last f.memory) c u f.last f.memory z.0 z.1 f.path (way_step M weight' f.last f.memory z.0 z.1 z.2) in
        let first : Way M weight' ((f.cost + weight' f.last f.memory) + e.cost) c u g.0 g.1 = way_on M weight' turned.0 (f.cost + weight' f.last f.memory) e.cost c u z.0 z.1 g.0 g.1 turned.1 (e.steps, e.path) in
        let light : f.cost + weight' f.last f.memory ≤ x.room = f.light in
        let fits : x.room + r ≤ weight b s = x.fits in
        let few : e.cost ≤ r = e.few in
        let less : w.spent ≤ p.2 = w.cheap in
        let short : cost ≡ weight b s + p.2 = p.4 in
        record {
          at = w.at;
          memory = w.memory;
          spent = ((f.cost + weight' f.last f.memory) + e.cost) + w.spent;
          cheap = omega arith;
          way = way_on M weight' first.0 ((f.cost + weight' f.last f.memory) + e.cost) w.spent c u g.0 g.1 w.at w.memory first.1 w.way;
          active = w.active;
          onward = onward_trans K L M down Fine Act Code At U used s p.1 t u g.1 w.memory g.3.onward w.onward;
        })

    joined_trails : (used : ℕ) (s : S) (u : D) (a : A) (c : C) → tied.Shared used s u → tied.Active s u a c → NoFault (K.step a s) → TrailsWithin K M tied weight' r (bound a s) used s u a c
    joined_trails used s u a c h k p =
        (let f : Follows K L T weight (bound a s) used s (down s) a k.0 (down s) = upper.follows used s (down s) a k.0 (refl, h.0) k.1 p in
        let w : Walked used (down s) f.memory u f.last c f.cost = walk f.steps used (down s) u k.0 c f.cost f.last f.memory h.1 k.2 f.path in
        let x = lower.follows used f.memory w.memory f.last w.at w.onward.shared w.active (no_fault_below K L T used s (down s) (K.step a s) (L.step f.last f.memory) f.match p) in
        let g = x.trails in
        let way : Way M weight' (w.spent + g.cost) c u g.last g.memory = way_on M weight' w.way.0 w.spent g.cost c u w.at w.memory g.last g.memory w.way.1 (g.steps, g.path) in
        let l1 : f.cost + weight f.last f.memory ≤ bound a s = f.light in
        let l2 : g.cost + weight' g.last g.memory ≤ x.room = g.light in
        let l3 : w.spent ≤ f.cost = w.cheap in
        let l4 : x.room + r ≤ weight f.last f.memory = x.fits in
        record {
          room = w.spent + x.room;
          fits = omega arith;
          trails = record {
            steps = way.0;
            cost = w.spent + g.cost;
            last = g.last;
            memory = g.memory;
            path = way.1;
            light = omega arith;
            turn = g.turn;
            completes = g.completes;
            match = matches_on K L M down Fine Act Code At U used s f.memory u w.memory w.onward (K.step a s) (L.step f.last f.memory) g.turn f.match g.match;
            stands = λ m. (f.last, f.stands m, g.stands (may_panic_below K L T used s (down s) (K.step a s) (L.step f.last f.memory) f.match m));
          };
        })

    pub partial_trailing_compose : PartialTrailingSimulation K M tied weight' r bound
    partial_trailing_compose =
        record {
          begins = λ used s u f h x y. begins_joined K L M down Fine Act Code At U used s u f h (λ g. upper.begins used s (down s) f g) (λ g. lower.begins used (down s) u g h) x y;
          follows = joined_trails;
        }
