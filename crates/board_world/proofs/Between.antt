-- A run on its way behind another: the lower one makes the steps that lead to the upper one's turn, and those that it owes from the turn before.
use Rattle.std.proofs.Common.{◌≡◌, ℕ, zero, suc, ◌+◌, ◌*◌, ◌≤◌, ◌<◌, ◌⊎◌, inl, inr, Bool, true, false, if◌then◌else◌, nat_le, nat_lt, List, [], ◌∷◌, ◌++◌, length, refl, ap, sym, ◌∙◌, subst, arith}
use Rattle.std.proofs.lemmas.Bool.Decides.{nat_tests}
use Rattle.board_world.specs.Limits.{arena_limit, seat_limit, listener_limit}
use Rattle.board_world.specs.Panics.{arena_panic, seat_panic, listener_panic}
use Rattle.board_world.specs.Observations.{Panicked}
use Rattle.board_world.specs.Board.{Board, over}
use Rattle.board_world.specs.Kinds.{Kind, Turn, Goes, Asks, Takes, Pauses, Waits, Spawns, Listens, RaisesNow, Ends, Panics, Faults, answer}
use Rattle.board_world.specs.Panicking.{MayPanic, HasPanicked, FirstsAre}
use Rattle.board_world.specs.Activities.{Activity, World}
use Rattle.board_world.specs.World.{idled, idle_bound, goes_on, stops, acted, stepped, tick}
use Rattle.board_world.specs.Runs.{run}
use Rattle.board_world.specs.Simulation.{Paired, Kept, Ties, Same, Rest, Alike, Matches, Path, one, always}
use Rattle.board_world.specs.Trailing.{Comes, Completes, Trails}
use Rattle.board_world.proofs.Trailing.{TrailingSimulation}
use Rattle.board_world.proofs.Stays.{over_stays, busy_stays}
use Rattle.board_world.proofs.Pairs.{paired_weaken}
use Rattle.board_world.proofs.Panicking.{going_calm, panics_here, tick_is}
use Rattle.board_world.proofs.Compose.{Way, way_on}
use Rattle.board_world.proofs.Lift.{at_board, by_board, acted_alike, idled_alike}

module _ {A S C D : Type 0} (K : Kind A S) (L : Kind C D) (bound : ℕ) (positive : 0 < bound) (T : Ties A S C D) (r : ℕ) (sim : TrailingSimulation K L T one r (always bound)) where
  -- the two first activities: the lower one is on its way to the turn of the upper one, d steps from where it began
  abbrev pub Heads : ℕ → ℕ → S → D → D → List (Activity A) → List (Activity C) → Type 0
  Heads d used s t₀ t [] [] = Unit {0}
  Heads d used s t₀ t [] (y ∷ ys) = ⊥
  Heads d used s t₀ t (x ∷ xs) [] = ⊥
  Heads d used s t₀ t (x ∷ xs) (y ∷ ys) = Kept x y × Paired (Same T s t₀) xs ys × (room : ℕ) × (d + room ≤ bound) × Trails K L T one r room used s t₀ x.self y.self t

  pub record Midway (d : ℕ) (w : World A S) (v : World C D) : Type 0 where
    pub began : D
    pub near : d < bound
    pub rest : Rest T w.shared began w v
    pub heads : Heads d w.board.used w.shared began v.shared w.ready v.ready

  -- the lower world is d steps past the upper one
  pub record Between (d : ℕ) (w : World A S) (v : World C D) : Type 0 where
    pub board : w.board ≡ v.board
    pub midway : over w.board ≡ false → Midway d w v

  heads_begin : (used : ℕ) (s : S) (t : D) → T.Shared used s t → (xs : List (Activity A)) (ys : List (Activity C)) → Paired (Same T s t) xs ys → Heads 0 used s t t xs ys
  heads_begin used s t h [] [] p = tt
  heads_begin used s t h [] (y ∷ ys) p = absurd p
  heads_begin used s t h (x ∷ xs) [] p = absurd p
  heads_begin used s t h (x ∷ xs) (y ∷ ys) p =
      (let f = sim.follows used s t x.self y.self h p.0.self in
      let fits : f.room + r ≤ bound = f.fits in
      let small : 0 + f.room ≤ bound = omega (arith, fits) in
      (p.0.kept, p.1, f.room, small, f.trails))

  pub alike_between : (w : World A S) (v : World C D) → Alike T w v → Between 0 w v
  alike_between w v h =
      record {
        board = h.board;
        midway = λ o. (let r = h.related o in
            record { began = v.shared; near = positive; rest = r.rest; heads = heads_begin w.board.used w.shared v.shared r.shared w.ready v.ready r.ready });
      }

  -- behind a step of the lower one: it is on its way still, or the upper one has made its step too
  abbrev Next : ℕ → World A S → World A S → World C D → Type 0
  Next d w w' v' = Between (suc d) w v' ⊎ Between 0 w' v'

  -- it is on its way
  goes_heads : (d : ℕ) (w : World A S) (v : World C D) (began : D) (x : Activity A) (xs : List (Activity A)) (y : Activity C) (ys : List (Activity C)) → w.board ≡ v.board → Rest T w.shared began w v
      → (room : ℕ) → d + room ≤ bound → (n cost : ℕ) (last : C) (memory : D) → Path L one (suc n) cost y.self v.shared last memory → cost + 1 ≤ room → (turn : Turn C D) → Completes L one r w.board.used (L.step last memory) turn → Matches K L T w.board.used w.shared began (K.step x.self w.shared) turn
      → (MayPanic (K.step x.self w.shared) → T.Placed x.self last)
      → Kept x y → Paired (Same T w.shared began) xs ys → Between (suc d) (record w { ready = x ∷ xs }) (stepped L (y ∷ ys) v)
  goes_heads d w v began x xs y ys e rest room fits n cost last memory path light turn completes match stands kept tail =
      (let b : C = path.0 in
      let t : D = path.1 in
      let more : ℕ = path.2 in
      let short : cost ≡ 1 + more = path.4 in
      let v' : World C D = goes_on y ys (b, t) v.board v in
      let is : stepped L (y ∷ ys) v ≡ v' = ap (λ (u : Turn C D). idled L (acted L y ys v u)) path.3 ∙ busy_stays L (idle_bound v'.board) (record y { self = b; suspended = false }) ys v' in
      let small : suc d < bound = omega (arith, light, short, fits) in
      let small' : suc d + (more + 1) ≤ bound = omega (arith, light, short, fits) in
      let same : Between (suc d) (record w { ready = x ∷ xs }) v' =
      record {
        board = e;
        midway = λ _. record {
          began = began;
          near = small;
          rest = record { listeners = rest.listeners; sleepers = rest.sleepers; waiters = rest.waiters };
          heads = (
            record { value = kept.value; listener = kept.listener; seated = kept.seated },
            tail,
            more + 1,
            small',
            record { steps = n; cost = more; last = last; memory = memory; path = path.5; light = omega arith; turn = turn; completes = completes; match = match; stands = stands },
          );
        };
      } in
      subst (λ (u : World C D). Between (suc d) (record w { ready = x ∷ xs }) u) (sym is) same)

  -- A world whose first activity has steps of its own still to make, up to one that is like the upper one.
  trails_ready : (w : World A S) (v : World C D) (y : Activity C) (ys : List (Activity C)) (m : D) (b : C) (t : D) → Comes L one r (b, t) (y.self, m) → w.board ≡ v.board → T.Shared w.board.used w.shared m
      → Rest T w.shared m w v → (xs : List (Activity A)) → Paired (Same T w.shared m) xs (y ∷ ys) → Between 0 (idled K (record w { ready = xs })) (idled L (record v { ready = record y { self = b } ∷ ys; shared = t }))
  trails_ready w v y ys m b t c e shared rest [] p = absurd p
  trails_ready w v y ys m b t c e shared rest (x ∷ xs) p =
      (let w' : World A S = record w { ready = x ∷ xs } in
      let v' : World C D = record v { ready = record y { self = b } ∷ ys; shared = t } in
      let f = sim.follows w.board.used w.shared m x.self y.self shared p.0.self in
      let g = f.trails in
      let fits : f.room + r ≤ bound = f.fits in
      let few : c.cost ≤ r = c.few in
      let light : g.cost + 1 ≤ f.room = g.light in
      let way : Way L one (c.cost + g.cost) b t g.last g.memory = way_on L one c.steps c.cost g.cost b t y.self m g.last g.memory c.path (g.steps, g.path) in
      let light' : (c.cost + g.cost) + 1 ≤ c.cost + f.room = omega (arith, light) in
      let fits' : 0 + (c.cost + f.room) ≤ bound = omega (arith, fits, few) in
      let same : Between 0 w' v' =
      record {
        board = e;
        midway = λ _. record {
          began = m;
          near = positive;
          rest = record { listeners = rest.listeners; sleepers = rest.sleepers; waiters = rest.waiters };
          heads = (
            record { value = p.0.kept.value; listener = p.0.kept.listener; seated = p.0.kept.seated },
            p.1,
            c.cost + f.room,
            fits',
            record {
              steps = way.0;
              cost = c.cost + g.cost;
              last = g.last;
              memory = g.memory;
              path = way.1;
              light = light';
              turn = g.turn;
              completes = g.completes;
              match = g.match;
              stands = g.stands;
            },
          );
        };
      } in
      let k = busy_stays K (idle_bound w'.board) x xs w' in
      let l = busy_stays L (idle_bound v'.board) (record y { self = b }) ys v' in
      subst (λ (u : World C D). Between 0 (idled K w') u) (sym l) (subst (λ (u : World A S). Between 0 u v') (sym k) same))

  trails_between : (w : World A S) (v : World C D) (y : Activity C) (ys : List (Activity C)) (m : D) (b : C) (t : D) → Comes L one r (b, t) (y.self, m) → Alike T w (record v { ready = y ∷ ys; shared = m })
      → Between 0 (idled K w) (idled L (record v { ready = record y { self = b } ∷ ys; shared = t }))
  trails_between w v y ys m b t c h = by_end (over w.board) refl
    where
      v' : World C D
      v' = record v { ready = record y { self = b } ∷ ys; shared = t }

      by_end : (e : Bool) → over w.board ≡ e → Between 0 (idled K w) (idled L v')
      by_end true o =
          (let k = over_stays K (idle_bound w.board) w.ready w o in
          let l = busy_stays L (idle_bound v'.board) (record y { self = b }) ys v' in
          subst (λ (u : World C D). Between 0 (idled K w) u) (sym l)
          (subst (λ (u : World A S). Between 0 u v') (sym k) (record { board = h.board; midway = λ o'. cc })))
      by_end false o =
          (let p = h.related o in
          trails_ready w v y ys m b t c h.board p.shared (record { listeners = p.rest.listeners; sleepers = p.rest.sleepers; waiters = p.rest.waiters }) w.ready p.ready)

  -- the first activity goes on where a test holds, and else both runs end
  goes_between : (c : Bool) (w : World A S) (v z : World C D) (y : Activity C) (ys : List (Activity C)) (b : Board) (p q : C × D) → (c ≡ true → Comes L one r p q)
      → Alike T w (if c then goes_on y ys q b v else z) → Between 0 (idled K w) (idled L (if c then goes_on y ys p b v else z))
  goes_between true w v z y ys b p q comes h = trails_between w (record v { board = b }) (record y { self = q.0; suspended = false }) ys q.1 p.0 p.1 (comes refl) h
  goes_between false w v z y ys b p q comes h = alike_between _ _ (idled_alike K L T sim.begins w z h)

  same_between : (w : World A S) (v : World C D) (y : Activity C) (ys : List (Activity C)) (u u' : Turn C D) → u ≡ u' → Alike T w (acted L y ys v u') → Between 0 (idled K w) (idled L (acted L y ys v u))
  same_between w v y ys u u' e h = alike_between _ _ (idled_alike K L T sim.begins w (acted L y ys v u) (subst (λ (z : Turn C D). Alike T w (acted L y ys v z)) (sym e) h))

  -- a turn that has been completed
  completed_between : (w : World A S) (v : World C D) (y : Activity C) (ys : List (Activity C)) (u u' : Turn C D) → Completes L one r v.board.used u u' → Alike T w (acted L y ys v u') → Between 0 (idled K w) (idled L (acted L y ys v u))
  completed_between w v y ys (Goes c t) u' k h =
      goes_between true w v v y ys v.board (c, t) (k.0, k.1) (λ _. k.3) (subst (λ (z : Turn C D). Alike T w (acted L y ys v z)) k.2 h)
  completed_between w v y ys (Asks q f) u' k h =
      (let a = answer q y.value v.board in
      goes_between true w v v y ys a.0 (f a.1) (k.0 a.1) (λ _. k.2 a.1) (subst (λ (z : Turn C D). Alike T w (acted L y ys v z)) k.1 h))
  completed_between w v y ys (Takes n f) u' k h =
      goes_between (nat_le (v.board.used + n) arena_limit) w v (stops (Panicked arena_panic) v) y ys (record v.board { used = v.board.used + n }) (f v.board.used) (k.0 v.board.used)
      (λ test. k.2 (grind (arith, nat_tests))) (subst (λ (z : Turn C D). Alike T w (acted L y ys v z)) k.1 h)
  completed_between w v y ys (Spawns g c t) u' k h =
      goes_between (nat_lt v.board.seats seat_limit) w v (stops (Panicked seat_panic) v) y _ _ (c, t) (k.0, k.1) (λ _. k.3) (subst (λ (z : Turn C D). Alike T w (acted L y ys v z)) k.2 h)
  completed_between w v y ys (Listens l c t) u' k h =
      goes_between (nat_lt (length v.listeners) listener_limit) w (record v { listeners = v.listeners ++ record { listener = l; held = [] } ∷ [] }) (stops (Panicked listener_panic) v) y ys v.board (c, t) (k.0, k.1) (λ _. k.3)
      (subst (λ (z : Turn C D). Alike T w (acted L y ys v z)) k.2 h)
  completed_between w v y ys (Pauses n c t) u' k h = same_between w v y ys (Pauses n c t) u' k h
  completed_between w v y ys (Waits n c t) u' k h = same_between w v y ys (Waits n c t) u' k h
  completed_between w v y ys (RaisesNow n f c t) u' k h = same_between w v y ys (RaisesNow n f c t) u' k h
  completed_between w v y ys (Ends f t) u' k h = same_between w v y ys (Ends f t) u' k h
  completed_between w v y ys (Panics n) u' k h = same_between w v y ys (Panics n) u' k h
  completed_between w v y ys (Faults n a) u' k h = same_between w v y ys (Faults n a) u' k h

  -- it makes the turn of the upper one
  turn_heads : (w : World A S) (v : World C D) (began : D) (x : Activity A) (xs : List (Activity A)) (y : Activity C) (ys : List (Activity C)) → w.board ≡ v.board → Rest T w.shared began w v
      → (turn : Turn C D) → Completes L one r w.board.used (L.step y.self v.shared) turn → Matches K L T w.board.used w.shared began (K.step x.self w.shared) turn
      → Kept x y → Paired (Same T w.shared began) xs ys → Paired (Kept) w.ready v.ready → Between 0 (stepped K (x ∷ xs) w) (stepped L (y ∷ ys) v)
  turn_heads w v began x xs y ys e rest turn completes match kept tail all =
      by_board K L T (λ (z : World C D). Between 0 (idled K (acted K x xs w (K.step x.self w.shared))) (idled L (acted L y ys z (L.step y.self v.shared)))) w.board v e
      (completed_between (acted K x xs w (K.step x.self w.shared)) (at_board K L T w.board v) y ys (L.step y.self v.shared) turn completes
      (acted_alike K L T sim.begins w.board w v w.shared began x y xs ys (record { kept = kept; tail = tail; rest = rest; all = all }) (K.step x.self w.shared) turn match))

  step_heads : (d : ℕ) (w : World A S) (v : World C D) (began : D) (xs : List (Activity A)) (ys : List (Activity C)) → w.board ≡ v.board → Rest T w.shared began w v → Heads d w.board.used w.shared began v.shared xs ys → Next d (record w { ready = xs }) (stepped K xs (record w { ready = xs })) (stepped L ys (record v { ready = ys }))
  step_heads d w v began [] [] e rest heads =
      inr (record { board = e; midway = λ _. record { began = began; near = positive; rest = record { listeners = rest.listeners; sleepers = rest.sleepers; waiters = rest.waiters }; heads = tt } })
  step_heads d w v began [] (y ∷ ys) e rest heads = absurd heads
  step_heads d w v began (x ∷ xs) [] e rest heads = absurd heads
  step_heads d w v began (x ∷ xs) (y ∷ ys) e rest heads = by_path heads.4.steps heads.4.path
    where
      rest' : Rest T w.shared began (record w { ready = x ∷ xs }) (record v { ready = y ∷ ys })
      rest' = record { listeners = rest.listeners; sleepers = rest.sleepers; waiters = rest.waiters }

      by_path : (n : ℕ) → Path L one n heads.4.cost y.self v.shared heads.4.last heads.4.memory → Next d (record w { ready = x ∷ xs }) (stepped K (x ∷ xs) (record w { ready = x ∷ xs })) (stepped L (y ∷ ys) (record v { ready = y ∷ ys }))
      by_path zero p =
          inr (turn_heads (record w { ready = x ∷ xs }) (record v { ready = y ∷ ys }) began x xs y ys e rest' heads.4.turn
          (rw (p.0, p.1) heads.4.completes) heads.4.match heads.0 heads.1
          (heads.0, paired_weaken (Same T w.shared began) (Kept) (λ i j k. k.kept) xs ys heads.1))
      by_path (suc n) p =
          inl (goes_heads d (record w { ready = x ∷ xs }) (record v { ready = y ∷ ys }) began x xs y ys e rest' heads.2 heads.3 n heads.4.cost heads.4.last heads.4.memory p heads.4.light heads.4.turn heads.4.completes heads.4.match heads.4.stands heads.0 heads.1)

  next_between : (d : ℕ) (w : World A S) (v : World C D) → over w.board ≡ false → Between d w v → Next d w (tick K w) (tick L v)
  next_between d w v o h =
      (let m = h.midway o in
      let o' : over v.board ≡ false = sym (ap over h.board) ∙ o in
      rw (o, o') (step_heads d w v m.began w.ready v.ready h.board m.rest m.heads))

  -- where the run has ended by a panic, those who panicked are at places that belong together
  abbrev pub Stood : World A S → World C D → Type 0
  Stood w v = HasPanicked v.board.end → FirstsAre T.Placed w.ready v.ready

  pub goes_stood : (w : World A S) (v : World C D) → over v.board ≡ false → Stood w v
  goes_stood w v o p = absurd (going_calm L v o p)

  -- the step by which both end
  stepped_stood : (d : ℕ) (began : D) (w : World A S) (v : World C D) (xs : List (Activity A)) (ys : List (Activity C)) → w.ready ≡ xs → v.ready ≡ ys → over w.board ≡ false → over v.board ≡ false
      → Heads d w.board.used w.shared began v.shared xs ys → (stepped K xs w).board ≡ (stepped L ys v).board → Stood (stepped K xs w) (stepped L ys v)
  stepped_stood d began w v [] [] e f o o' heads same p = absurd (going_calm L v o' p)
  stepped_stood d began w v [] (y ∷ ys) e f o o' heads same p = absurd heads
  stepped_stood d began w v (x ∷ xs) [] e f o o' heads same p = absurd heads
  stepped_stood d began w v (x ∷ xs) (y ∷ ys) e f o o' heads same p =
      subst (λ (zs : List (Activity A)). FirstsAre T.Placed zs (stepped L (y ∷ ys) v).ready) (sym (ap (λ (z : World A S). z.ready) upper.2 ∙ e))
      (subst (λ (zs : List (Activity C)). FirstsAre T.Placed (x ∷ xs) zs) (sym (ap (λ (z : World C D). z.ready) lower.2 ∙ f)) (placed heads.4.steps heads.4.path))
    where
      upper : MayPanic (K.step x.self w.shared) × (code : ℕ) × (stepped K (x ∷ xs) w ≡ stops (Panicked code) w)
      upper = panics_here K (x ∷ xs) w o (subst (λ (b : Board). HasPanicked b.end) (sym same) p)

      lower : MayPanic (L.step y.self v.shared) × (code : ℕ) × (stepped L (y ∷ ys) v ≡ stops (Panicked code) v)
      lower = panics_here L (y ∷ ys) v o' p

      placed : (n : ℕ) → Path L one n heads.4.cost y.self v.shared heads.4.last heads.4.memory → T.Placed x.self y.self
      placed zero q = subst (λ (c : C). T.Placed x.self c) (sym q.0) (heads.4.stands upper.0)
      placed (suc n) q = absurd (subst MayPanic q.3 lower.0)

  tick_stood : (d : ℕ) (w : World A S) (v : World C D) → over w.board ≡ false → Between d w v → (tick K w).board ≡ (tick L v).board → Stood (tick K w) (tick L v)
  tick_stood d w v o h e p =
      (let o' : over v.board ≡ false = sym (ap over h.board) ∙ o in
      let s = tick_is K w o in
      let t = tick_is L v o' in
      let m = h.midway o in
      let same : (stepped K w.ready w).board ≡ (stepped L v.ready v).board = ap (λ (z : World A S). z.board) (sym s) ∙ e ∙ ap (λ (z : World C D). z.board) t in
      subst (λ (z : World A S). FirstsAre T.Placed z.ready (tick L v).ready) (sym s)
      (subst (λ (z : World C D). FirstsAre T.Placed (stepped K w.ready w).ready z.ready) (sym t)
      (stepped_stood d m.began w v w.ready v.ready refl refl o o' m.heads same (subst (λ (z : World C D). HasPanicked z.board.end) t p))))

  -- from e steps past it, a run of the lower world for m steps is with a run of the upper one for k steps
  pub record Along (m e : ℕ) (w : World A S) (v : World C D) : Type 0 where
    pub k : ℕ
    pub d : ℕ
    pub at_most : k ≤ m
    pub between : Between d (run K k w) (run L m v)
    pub counted : over (run K k w).board ≡ false → m + e ≤ bound * k + d
    pub stood : Stood w v → Stood (run K k w) (run L m v)

  pub along : (m e : ℕ) (w : World A S) (v : World C D) → Between e w v → Along m e w v
  along zero e w v h = record { k = 0; d = e; at_most = omega arith; between = h; counted = λ _. omega arith; stood = λ s. s }
  along (suc m) e w v h = (let a = along m e w v h in more a (over (run K a.k w).board) refl)
    where
      more : (a : Along m e w v) (c : Bool) → over (run K a.k w).board ≡ c → Along (suc m) e w v
      more a true o =
          (let o' : over (run L m v).board ≡ true = sym (ap over a.between.board) ∙ o in
          record {
            k = a.k;
            d = a.d;
            at_most = (let h : a.k ≤ m = a.at_most in omega arith);
            between = rw o' a.between;
            counted = λ o''. cc;
            stood = rw o' a.stood;
          })
      more a false o =
          (let near : a.d < bound = (a.between.midway o).near in
          let so_far : m + e ≤ bound * a.k + a.d = a.counted o in
          let fewer : a.k ≤ m = a.at_most in
          elim (next_between a.d (run K a.k w) (run L m v) o a.between) [
            | inl b ↦ record {
              k = a.k;
              d = suc a.d;
              at_most = omega arith;
              between = b;
              counted = λ _. omega arith;
              stood = λ _. goes_stood (run K a.k w) (tick L (run L m v)) (sym (ap over b.board) ∙ o);
            }
            | inr b ↦ record {
              k = suc a.k;
              d = 0;
              at_most = omega arith;
              between = b;
              counted = λ _. omega arith;
              stood = λ _. tick_stood a.d (run K a.k w) (run L m v) o a.between b.board;
            }
          ])

  -- from worlds that are alike, the lower run is the upper one with fewer steps, and not much fewer
  pub trailing_lifts : (w : World A S) (v : World C D) → Alike T w v → (m : ℕ) → (k : ℕ) × (k ≤ m) × ((run K k w).board ≡ (run L m v).board) × (over (run L m v).board ≡ false → m < bound * (k + 1))
  trailing_lifts w v h m =
      (let a = along m 0 w v (alike_between w v h) in (
        a.k,
        a.at_most,
        a.between.board,
        λ o. (let o' : over (run K a.k w).board ≡ false = ap over a.between.board ∙ o in
            let near : a.d < bound = (a.between.midway o').near in
            let so_far : m + 0 ≤ bound * a.k + a.d = a.counted o' in
            omega arith),
      ))
