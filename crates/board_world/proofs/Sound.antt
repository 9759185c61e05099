-- A simulation that owes nothing at faults is a whole one on typed states, and typed runs never end by a fault.
use Rattle.std.proofs.Common.{◌≡◌, ℕ, zero, suc, ◌+◌, ◌≤◌, ◌<◌, if◌then◌else◌, ◌==◌, List, [], ◌∷◌, refl, ap, subst, arith}
use Rattle.std.specs.Prelude.{Option, Some, None}
use Rattle.board_world.specs.declared.events.Listener.{Listener}
use Rattle.board_world.specs.Observations.{End, Quietly, By_script, Panicked, Faulted}
use Rattle.board_world.specs.Board.{Board, Entry, over, arrive}
use Rattle.board_world.specs.Kinds.{Kind, Turn, Goes, Asks, Takes, Pauses, Waits, Spawns, Listens, RaisesNow, Ends, Panics, Faults}
use Rattle.board_world.specs.Activities.{World}
use Rattle.board_world.specs.World.{start, tick}
use Rattle.board_world.specs.Runs.{Arrival, acts, acts_at, run_with, Rises, Keeps}
use Rattle.board_world.specs.Sound.{FaultsWithin, SoundEnd, NoFault, PartialSimulation, Typing, After, Further, Ready, Stays, Sound}
use Rattle.board_world.specs.Simulation.{Ties, Onward, Going, Listening, Begins, Matches, Follows, Simulation, Alike, one, always}
use Rattle.board_world.specs.Composed.{level}
use Rattle.board_world.specs.Implements.{EndsByNoFault, Implements, boards_from}
use Rattle.board_world.specs.Trailing.{PartialTrailingSimulation}
use Rattle.board_world.specs.Standing.{PanicsTogether, worlds_from}
use Rattle.board_world.proofs.Trailing.{TrailingSimulation}
use Rattle.board_world.proofs.ComposedTrails.{partial_trails_by_nothing}
use Rattle.board_world.proofs.Stays.{if_keeps}
use Rattle.board_world.proofs.Boards.{kept_run, kept_arrive, sound_closed}
use Rattle.board_world.proofs.Between.{goes_stood}
use Rattle.board_world.proofs.Arrive.{lifts_with, trailing_lifts_with, trailing_stands_with}
use Rattle.board_world.proofs.ByList.{rises_from}

-- ties between typed states
abbrev within : {A S C D : Type 0} → Typing A S → Ties A S C D → Ties A S C D
within I T =
    record {
      Shared = λ used s t. I.Shared used s × T.Shared used s t;
      Active = λ s t a c. I.Active s a × T.Active s t a c;
      Code = λ f g. I.Code f × T.Code f g;
      Placed = T.Placed;
    }

pub stays_runs : {A S : Type 0} (I : Typing A S) (used : ℕ) (s : S) (u : Turn A S) → Stays I used s u → NoFault u
stays_runs I used s (Faults k a) h = h
stays_runs I used s (Goes a t) h = tt
stays_runs I used s (Asks q f) h = tt
stays_runs I used s (Takes n f) h = tt
stays_runs I used s (Pauses n a t) h = tt
stays_runs I used s (Waits e a t) h = tt
stays_runs I used s (Spawns f a t) h = tt
stays_runs I used s (Listens l a t) h = tt
stays_runs I used s (RaisesNow e f a t) h = tt
stays_runs I used s (Ends f t) h = tt
stays_runs I used s (Panics c) h = tt

module _ {A S C D : Type 0} (K : Kind A S) (L : Kind C D) (I : Typing A S) (T : Ties A S C D) where
  abbrev both : Ties A S C D
  both = within I T

  onward_within : (used : ℕ) (s s' : S) (t t' : D) → After I used s s' → Onward T used s s' t t' → Onward both used s s' t t'
  onward_within used s s' t t' h k = record { shared = (h.shared, k.shared); others = λ a c p. (h.others a p.0, k.others a c p.1) }

  going_within : (used : ℕ) (s : S) (t : D) (x : A × S) (y : C × D) → Further I used s x → Going T used s t x y → Going both used s t x y
  going_within used s t x y h k = record { self = (h.self, k.self); onward = onward_within used s x.1 t y.1 h.after k.onward }

  begins_within : (s : S) (t : D) (f : ℕ → A) (g : ℕ → C) → Ready I s f → Begins T s t f g → Begins both s t f g
  begins_within s t f g h k = record { each = λ i j c. (h.each i c.0, k.each i j c.1) }

  listening_within : (l m : Listener) → I.Code l.handler → Listening T l m → Listening both l m
  listening_within l m h k = record { source = k.source; value = k.value; code = (h, k.code); mode = k.mode }

  matches_within : (used : ℕ) (s : S) (t : D) (x : Turn A S) (y : Turn C D) → Stays I used s x → Matches K L T used s t x y → Matches K L both used s t x y
  matches_within used s t (Goes a s') (Goes b t') h k = going_within used s t (a, s') (b, t') h k
  matches_within used s t (Asks q f) (Asks p g) h k = (k.0, λ n. going_within used s t (f n) (g n) (h n) (k.1 n))
  matches_within used s t (Takes n f) (Takes m g) h k = (k.0, λ fits. going_within (used + n) s t (f used) (g used) h (k.1 fits))
  matches_within used s t (Pauses n a s') (Pauses m b t') h k = (k.0, k.1, going_within used s t (a, s') (b, t') h k.2)
  matches_within used s t (Waits e a s') (Waits d b t') h k = (k.0, k.1, going_within used s t (a, s') (b, t') h k.2)
  matches_within used s t (Spawns f a s') (Spawns g b t') h k = ((h.0, k.0), going_within used s t (a, s') (b, t') h.1 k.1)
  matches_within used s t (Listens l a s') (Listens m b t') h k = (listening_within l m h.0 k.0, going_within used s t (a, s') (b, t') h.1 k.1)
  matches_within used s t (RaisesNow e f a s') (RaisesNow d g b t') h k = (k.0, begins_within s' t' f g h.0 k.1, going_within used s t (a, s') (b, t') h.1 k.2)
  matches_within used s t (Ends f s') (Ends g t') h k = (begins_within s' t' f g h.0 k.0, onward_within used s s' t t' h.1 k.1)
  matches_within used s t (Panics c) (Panics d) h k = k
  matches_within used s t (Faults c x) y h k = absurd h
  matches_within used s t _ _ h k = absurd k

  -- on typed states it is a simulation
  pub holds : (weight : C → D → ℕ) (bound : A → S → ℕ) → Sound K I → PartialSimulation K L T weight bound → Simulation K L both weight bound
  holds weight bound sound sim =
      record {
        begins = λ used s t f g h c. (sound.begins used s f h.0 c.0, sim.begins used s t f g h.1 c.1);
        follows = λ used s t a c h k.
            (let stays = sound.steps used s a h.0 k.0 in
            let f = sim.follows used s t a c h.1 k.1 (stays_runs I used s (K.step a s) stays) in
            record {
              steps = f.steps;
              cost = f.cost;
              last = f.last;
              memory = f.memory;
              path = f.path;
              light = f.light;
              match = matches_within used s t (K.step a s) (L.step f.last f.memory) stays f.match;
              stands = f.stands;
            });
      }

  -- so is one that trails
  pub trailing_holds : (weight : C → D → ℕ) (r : ℕ) (bound : A → S → ℕ) → Sound K I → PartialTrailingSimulation K L T weight r bound → TrailingSimulation K L both weight r bound
  trailing_holds weight r bound sound sim =
      record {
        begins = λ used s t f g h c. (sound.begins used s f h.0 c.0, sim.begins used s t f g h.1 c.1);
        follows = λ used s t a c h k.
            (let stays = sound.steps used s a h.0 k.0 in
            let x = sim.follows used s t a c h.1 k.1 (stays_runs I used s (K.step a s) stays) in
            let f = x.trails in
            record {
              room = x.room;
              fits = x.fits;
              trails = record {
                steps = f.steps;
                cost = f.cost;
                last = f.last;
                memory = f.memory;
                path = f.path;
                light = f.light;
                turn = f.turn;
                completes = f.completes;
                match = matches_within used s t (K.step a s) f.turn stays f.match;
                stands = f.stands;
              };
            });
      }

-- a greater bound holds too; it need be greater only where the kinds are tied, and the upper step is no fault
module _ {A S C D : Type 0} (K : Kind A S) (L : Kind C D) (T : Ties A S C D) (weight : C → D → ℕ) (bound greater : A → S → ℕ) where
  looser : (less more : ℕ) → less ≤ more → (used : ℕ) (s : S) (t : D) (a : A) (c : C) → Follows K L T weight less used s t a c t → Follows K L T weight more used s t a c t
  looser less more h used s t a c f =
      (let light : f.cost + weight f.last f.memory ≤ less = f.light in
      record { steps = f.steps; cost = f.cost; last = f.last; memory = f.memory; path = f.path; light = omega (arith, light, h); match = f.match; stands = f.stands })

  pub loosened : ((used : ℕ) (s : S) (t : D) (a : A) (c : C) → T.Shared used s t → T.Active s t a c → bound a s ≤ greater a s) → Simulation K L T weight bound → Simulation K L T weight greater
  loosened h sim =
      record {
        begins = sim.begins;
        follows = λ used s t a c k l. looser (bound a s) (greater a s) (h used s t a c k l) used s t a c (sim.follows used s t a c k l);
      }

  pub partial_loosened : ((used : ℕ) (s : S) (t : D) (a : A) (c : C) → T.Shared used s t → T.Active s t a c → NoFault (K.step a s) → bound a s ≤ greater a s) → PartialSimulation K L T weight bound → PartialSimulation K L T weight greater
  partial_loosened h sim =
      record {
        begins = sim.begins;
        follows = λ used s t a c k l n. looser (bound a s) (greater a s) (h used s t a c k l n) used s t a c (sim.follows used s t a c k l n);
      }

-- two runs begin alike
begun_alike : {A S C D : Type 0} (K : Kind A S) (L : Kind C D) (T : Ties A S C D) → ((used : ℕ) (s : S) (t : D) (f g : ℕ) → T.Shared used s t → T.Code f g → T.Active s t (K.begin f) (L.begin g))
    → (f g : ℕ) (s : S) (t : D) (until : ℕ) (script : List Entry) → T.Code f g → T.Shared 0 s t → Alike T (start K f s until script) (start L g t until script)
begun_alike K L T begins f g s t until script c h =
    record {
      board = refl;
      related = λ _. record {
        shared = h;
        ready = (record { self = begins 0 s t f g h c; kept = record { value = refl; listener = refl; seated = refl }; suspended = refl }, tt);
        rest = record { listeners = tt; sleepers = tt; waiters = tt };
      };
    }

pub starts : {A S C D : Type 0} (K : Kind A S) (L : Kind C D) (T : Ties A S C D) (weight : C → D → ℕ) (bound : A → S → ℕ) → Simulation K L T weight bound
    → (f g : ℕ) (s : S) (t : D) (until : ℕ) (script : List Entry) → T.Code f g → T.Shared 0 s t → Alike T (start K f s until script) (start L g t until script)
starts K L T weight bound sim = begun_alike K L T sim.begins

-- the whole: the lower run is the upper one, whatever arrives
pub trailing_sound_lifts : {A S C D : Type 0} (K : Kind A S) (L : Kind C D) (r bound : ℕ) (I : Typing A S) (T : Ties A S C D) → 0 < bound → Sound K I → PartialTrailingSimulation K L T one r (always bound)
    → (f g : ℕ) (s : S) (t : D) → I.Code f → T.Code f g → I.Shared 0 s → T.Shared 0 s t
    → (until : ℕ) (script : List Entry) (arrivals : List Arrival) → Rises 0 arrivals → (m : ℕ) → Keeps bound (boards_from K f s until script) (boards_from L g t until script) arrivals m
trailing_sound_lifts K L r bound I T positive sound sim f g s t code tied shared alike until script arrivals rises m =
    (let whole = trailing_holds K L I T one r (always bound) sound sim in
    trailing_lifts_with K L bound positive (within I T) r whole _ _ (begun_alike K L (within I T) whole.begins f g s t until script (code, tied) (shared, alike)) arrivals rises m)

-- and where the lower run ends by a panic, who panicked is at a place that belongs to that of who panicked above
pub trailing_sound_panics : {A S C D : Type 0} (K : Kind A S) (L : Kind C D) (r bound : ℕ) (I : Typing A S) (T : Ties A S C D) → 0 < bound → Sound K I
    → PartialTrailingSimulation K L T one r (always bound)
    → (f g : ℕ) (s : S) (t : D) → I.Code f → T.Code f g → I.Shared 0 s → T.Shared 0 s t → PanicsTogether bound T.Placed (worlds_from K f s) (worlds_from L g t)
trailing_sound_panics K L r bound I T positive sound sim f g s t code tied shared alike until script arrivals rises m p =
    (let whole = trailing_holds K L I T one r (always bound) sound sim in
    let w = start K f s until script in
    let v = start L g t until script in
    let h = trailing_stands_with K L bound positive (within I T) r whole w v (begun_alike K L (within I T) whole.begins f g s t until script (code, tied) (shared, alike)) arrivals rises m in
    (h.0, h.1 (goes_stood K L bound positive (within I T) r whole w v refl) p))

-- a kind that panics where another makes a fault
abbrev calmed : {A S : Type 0} → Turn A S → Turn A S
calmed (Faults k a) = Panics 0
calmed u = u

abbrev none : ℕ → ℕ → Type 0
none kind address = ⊥

ends_by_none : (e : Option End) → SoundEnd none e → EndsByNoFault e
ends_by_none None h = tt
ends_by_none (Some Quietly) h = tt
ends_by_none (Some By_script) h = tt
ends_by_none (Some (Panicked code)) h = tt
ends_by_none (Some (Faulted kind address)) h = h

calm_runs : {A S : Type 0} (u : Turn A S) → FaultsWithin none (calmed u)
calm_runs (Faults k a) = tt
calm_runs (Goes a t) = tt
calm_runs (Asks q f) = tt
calm_runs (Takes n f) = tt
calm_runs (Pauses n a t) = tt
calm_runs (Waits e a t) = tt
calm_runs (Spawns f a t) = tt
calm_runs (Listens l a t) = tt
calm_runs (RaisesNow e f a t) = tt
calm_runs (Ends f t) = tt
calm_runs (Panics c) = tt

abbrev calm : {A S : Type 0} → Kind A S → Kind A S
calm K = record { begin = K.begin; step = λ a s. calmed (K.step a s); depth = K.depth }

module _ {A S : Type 0} (K : Kind A S) where
  -- where no turn is a fault no run ends by one, whatever arrives
  calm_acts : (n : ℕ) (rest : List Arrival) (w : World A S) → SoundEnd none w.board.end → SoundEnd none (acts_at n rest w).board.end
  calm_acts n [] w h = h
  calm_acts n (a ∷ rest) w h =
      calm_acts n rest (if a.count == n then acts a.act w else w)
      (if_keeps (λ (v : World A S). SoundEnd none v.board.end) (a.count == n) (acts a.act w) w
      (if_keeps (λ (v : World A S). SoundEnd none v.board.end) (over w.board) w (record w { board = arrive a.act w.board }) h (kept_arrive none (λ b. SoundEnd none b.end) (sound_closed none) a.act w.board h)) h)

  calm_ends : ((a : A) (s : S) → FaultsWithin none (K.step a s)) → (rest : List Arrival) (m : ℕ) (w : World A S) → SoundEnd none w.board.end → SoundEnd none (run_with K rest m w).board.end
  calm_ends runs rest zero w h = calm_acts 0 rest w h
  calm_ends runs rest (suc m) w h =
      (let u = run_with K rest m w in calm_acts (suc m) rest (tick K u) (kept_run none (λ b. SoundEnd none b.end) (sound_closed none) K runs 1 u (calm_ends runs rest m w h)))

-- a typed activity and itself
module _ {A S : Type 0} (K : Kind A S) where
  module _ (I : Typing A S) where
    abbrev itself : Ties A S A S
    itself = level I.Shared (λ s a b. (a ≡ b) × I.Active s a) (λ f g. (f ≡ g) × I.Code f)

    onward_itself : (used : ℕ) (s s' : S) → After I used s s' → Onward itself used s s' s s'
    onward_itself used s s' h = record { shared = (refl, h.shared); others = λ a c p. (p.0, h.others a p.1) }

    going_itself : (used : ℕ) (s : S) (x : A × S) → Further I used s x → Going itself used s s x x
    going_itself used s x h = record { self = (refl, h.self); onward = onward_itself used s x.1 h.after }

    begins_itself : (s : S) (f : ℕ → A) → Ready I s f → Begins itself s s f f
    begins_itself s f h = record { each = λ i j c. (ap f c.0, h.each i c.1) }

    matches_itself : (used : ℕ) (s : S) (x : Turn A S) → Stays I used s x → Matches (calm K) K itself used s s (calmed x) x
    matches_itself used s (Faults c x) h = absurd h
    matches_itself used s (Goes a s') h = going_itself used s (a, s') h
    matches_itself used s (Asks q f) h = (refl, λ n. going_itself used s (f n) (h n))
    matches_itself used s (Takes n f) h = (refl, λ fits. going_itself (used + n) s (f used) h)
    matches_itself used s (Pauses n a s') h = (refl, refl, going_itself used s (a, s') h)
    matches_itself used s (Waits e a s') h = (refl, refl, going_itself used s (a, s') h)
    matches_itself used s (Spawns f a s') h = ((refl, h.0), going_itself used s (a, s') h.1)
    matches_itself used s (Listens l a s') h = (record { source = refl; value = refl; code = (refl, h.0); mode = refl }, going_itself used s (a, s') h.1)
    matches_itself used s (RaisesNow e f a s') h = (refl, begins_itself s' f h.0, going_itself used s (a, s') h.1)
    matches_itself used s (Ends f s') h = (begins_itself s' f h.0, onward_itself used s s' h.1)
    matches_itself used s (Panics c) h = refl

    calm_follows : Sound K I → (used : ℕ) (s t : S) (a b : A) → itself.Shared used s t → itself.Active s t a b → Follows (calm K) K itself one 1 used s t a b t
    calm_follows sound used s t a b h k =
        subst (λ (u : S). Follows (calm K) K itself one 1 used s u a b u) h.0
        (subst (λ (c : A). Follows (calm K) K itself one 1 used s s a c s) k.0
        (record {
          steps = 0;
          cost = 0;
          last = a;
          memory = s;
          path = (refl, refl, refl);
          light = omega arith;
          match = matches_itself used s (K.step a s) (sound.steps used s a h.1 k.1);
          stands = λ m. tt;
        }))

    calm_simulation : Sound K I → Simulation (calm K) K itself one (always 1)
    calm_simulation sound =
        record {
          begins = λ used s t f g h c. (ap K.begin c.0, sound.begins used s f h.1 c.1);
          follows = calm_follows sound;
        }

    -- no typed run ends by a fault, whatever arrives
    pub never_faults : Sound K I → (f : ℕ) (s : S) → I.Code f → I.Shared 0 s → (until : ℕ) (script : List Entry) (arrivals : List Arrival) → Rises 0 arrivals → (m : ℕ) → EndsByNoFault (boards_from K f s until script arrivals m).end
    never_faults sound f s code shared until script arrivals rises m =
        (let sim = calm_simulation sound in
        let kept = lifts_with (calm K) K 1 (omega arith) itself sim _ _ (starts (calm K) K itself one (always 1) sim f f s s until script (refl, code) (refl, shared)) arrivals rises m in
        ends_by_none _ (subst (λ (b : Board). SoundEnd none b.end) kept.board
        (calm_ends (calm K) (λ a t. calm_runs (K.step a t)) kept.places kept.steps (start (calm K) f s until script) tt)))

-- so the lower run ends by no fault either
pub trailing_sound_below : {A S C D : Type 0} (K : Kind A S) (L : Kind C D) (r bound : ℕ) (I : Typing A S) (T : Ties A S C D) → 0 < bound → Sound K I → PartialTrailingSimulation K L T one r (always bound)
    → (f g : ℕ) (s : S) (t : D) → I.Code f → T.Code f g → I.Shared 0 s → T.Shared 0 s t
    → (until : ℕ) (script : List Entry) (arrivals : List Arrival) → Rises 0 arrivals → (m : ℕ) → EndsByNoFault (boards_from L g t until script arrivals m).end
trailing_sound_below K L r bound I T positive sound sim f g s t code tied shared alike until script arrivals rises m =
    (let kept = trailing_sound_lifts K L r bound I T positive sound sim f g s t code tied shared alike until script arrivals rises m in
    subst (λ (b : Board). EndsByNoFault b.end) kept.board (never_faults K I sound f s code shared until script kept.places (rises_from 0 kept.places kept.steps kept.rises) kept.steps))

-- all of it
pub trailing_implements : {A S C D : Type 0} (K : Kind A S) (L : Kind C D) (r bound : ℕ) (I : Typing A S) (T : Ties A S C D) → 0 < bound → Sound K I → PartialTrailingSimulation K L T one r (always bound)
    → (f g : ℕ) (s : S) (t : D) → I.Code f → T.Code f g → I.Shared 0 s → T.Shared 0 s t → Implements bound (boards_from K f s) (boards_from L g t)
trailing_implements K L r bound I T positive sound sim f g s t code tied shared alike =
    record {
      keeps = trailing_sound_lifts K L r bound I T positive sound sim f g s t code tied shared alike;
      no_fault = trailing_sound_below K L r bound I T positive sound sim f g s t code tied shared alike;
    }

-- the same of one that doesn't trail
pub implements : {A S C D : Type 0} (K : Kind A S) (L : Kind C D) (bound : ℕ) (I : Typing A S) (T : Ties A S C D) → 0 < bound → Sound K I → PartialSimulation K L T one (always bound)
    → (f g : ℕ) (s : S) (t : D) → I.Code f → T.Code f g → I.Shared 0 s → T.Shared 0 s t → Implements bound (boards_from K f s) (boards_from L g t)
implements K L bound I T positive sound sim = trailing_implements K L 0 bound I T positive sound (partial_trails_by_nothing K L T one (always bound) sim)

pub sound_below : {A S C D : Type 0} (K : Kind A S) (L : Kind C D) (bound : ℕ) (I : Typing A S) (T : Ties A S C D) → 0 < bound → Sound K I → PartialSimulation K L T one (always bound)
    → (f g : ℕ) (s : S) (t : D) → I.Code f → T.Code f g → I.Shared 0 s → T.Shared 0 s t
    → (until : ℕ) (script : List Entry) (arrivals : List Arrival) → Rises 0 arrivals → (m : ℕ) → EndsByNoFault (boards_from L g t until script arrivals m).end
sound_below K L bound I T positive sound sim = trailing_sound_below K L 0 bound I T positive sound (partial_trails_by_nothing K L T one (always bound) sim)
