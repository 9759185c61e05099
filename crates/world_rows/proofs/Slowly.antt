-- A slow kind does what its kind does.
use Rattle.std.proofs.Common.{◌≡◌, ℕ, ◌+◌, Bool, true, false, refl, ap, sym, subst, arith, List}
use Rattle.board_world.specs.Kinds.{Kind, Turn, Goes, Asks, Takes, Pauses, Waits, Spawns, Listens, RaisesNow, Ends, Panics, Faults}
use Rattle.board_world.specs.Simulation.{Ties, anywhere, Simulation, Follows, Matches, Onward, Going, Begins, one, always}
use Rattle.board_world.specs.Board.{Entry}
use Rattle.board_world.specs.World.{start}
use Rattle.board_world.specs.Runs.{Arrival, Rises, Keeps}
use Rattle.board_world.specs.Implements.{boards_from}
use Rattle.board_world.specs.Composed.{joined}
use Rattle.board_world.proofs.Laws.{compose, lifts_with}
use Rattle.world_rows.specs.Slow.{Slowed, fresh, tired, slowed, slow, Anything, IsItself, IsNumber, its_own}

-- Ties that hold of an activity and its two slow forms, whatever is shared, as long as that is one and the same
record Easy {A S : Type 0} (T : Ties A S (Slowed A) S) : Type 0 where
  pub shared : (used : ℕ) (s : S) → T.Shared used s s
  pub fresh_one : (s t : S) (a : A) → T.Active s t a (fresh a)
  pub tired_one : (s t : S) (a : A) → T.Active s t a (tired a)
  pub onward : (used : ℕ) (s s' t : S) → Onward T used s s' t s'
  pub code : (i : ℕ) → T.Code i i
  pub same : (i j : ℕ) → T.Code i j → i ≡ j

module _ {A S : Type 0} (K : Kind A S) (T : Ties A S (Slowed A) S) (easy : Easy T) where
  going : (used : ℕ) (s t s' : S) (a : A) → Going T used s t (a, s') (tired a, s')
  going used s t s' a = record { self = easy.tired_one s' s' a; onward = easy.onward used s s' t }

  begins_so : (s t : S) (f : ℕ → A) → Begins T s t f (λ g. fresh (f g))
  begins_so s t f = record { each = λ i j e. subst (λ (k : ℕ). T.Active s t (f i) (fresh (f k))) (easy.same i j e) (easy.fresh_one s t (f i)) }

  slowed_matches : (used : ℕ) (s t : S) (turn : Turn A S) → Matches K (slow K) T used s t turn (slowed turn)
  slowed_matches used s t (Goes a s') = going used s t s' a
  slowed_matches used s t (Asks q f) = (refl, λ n. going used s t (f n).1 (f n).0)
  slowed_matches used s t (Takes n f) = (refl, λ fits. going (used + n) s t (f used).1 (f used).0)
  slowed_matches used s t (Pauses n a s') = (refl, refl, going used s t s' a)
  slowed_matches used s t (Waits e a s') = (refl, refl, going used s t s' a)
  slowed_matches used s t (Spawns f a s') = (easy.code f, going used s t s' a)
  slowed_matches used s t (Listens l a s') = (record { source = refl; value = refl; code = easy.code l.handler; mode = refl }, going used s t s' a)
  slowed_matches used s t (RaisesNow e f a s') = (refl, begins_so s' s' f, going used s t s' a)
  slowed_matches used s t (Ends f s') = (begins_so s' s' f, easy.onward used s s' t)
  slowed_matches used s t (Panics code) = refl
  slowed_matches used s t (Faults kind address) = (refl, refl)

easy_own : {A S : Type 0} → Easy (its_own {A = A} {S = S})
easy_own =
    record {
      shared = λ used s. (refl, tt);
      fresh_one = λ s t a. refl;
      tired_one = λ s t a. refl;
      onward = λ used s s' t. record { shared = (refl, tt); others = λ a c h. h };
      code = λ i. refl;
      same = λ i j e. e;
    }

module _ {A S : Type 0} (K : Kind A S) (w : ℕ) where
  at_once : (used : ℕ) (s : S) (a : A) (due : Bool) → Follows K (slow K) its_own (always w) (w + w) used s s a (record { self = a; due = due }) s
  at_once used s a false =
      record {
        steps = 0;
        cost = 0;
        last = fresh a;
        memory = s;
        path = (refl, refl, refl);
        light = omega arith;
        match = slowed_matches K its_own easy_own used s s (K.step a s);
        stands = λ m. tt;
      }
  at_once used s a true =
      record {
        steps = 1;
        cost = w;
        last = fresh a;
        memory = s;
        path = (fresh a, s, 0, refl, omega arith, (refl, refl, refl));
        light = omega arith;
        match = slowed_matches K its_own easy_own used s s (K.step a s);
        stands = λ m. tt;
      }

  -- with weight w for each of its steps
  pub slow_does : Simulation K (slow K) its_own (always w) (always (w + w))
  slow_does =
      record {
        begins = λ used s t f g h e. ap K.begin (sym e);
        follows = λ used s t a c h k.
            subst (λ (x : A). Follows K (slow K) its_own (always w) (w + w) used s t x c t) k
            (subst (λ (u : S). Follows K (slow K) its_own (always w) (w + w) used s u c.self c u) h.0 (at_once used s c.self c.due));
      }

-- two slow kinds, one behind the other
pub twice : {A S : Type 0} (K : Kind A S) → Simulation K (slow (slow K)) (joined Anything IsItself IsNumber its_own) one (always 4)
twice K = compose K (slow K) (slow (slow K)) (λ s. s) Anything IsItself IsNumber anywhere its_own (always 2) one (always 4) (slow_does K 2) (slow_does (slow K) 1)

-- so do their worlds, whatever arrives between two steps
pub twice_runs : {A S : Type 0} (K : Kind A S) (main : ℕ) (shared : S) (until : ℕ) (script : List Entry) (arrivals : List Arrival) (m : ℕ) → Rises 0 arrivals →
    Keeps 4 (boards_from K main shared until script) (boards_from (slow (slow K)) main shared until script) arrivals m
twice_runs K main shared until script arrivals m rises =
    lifts_with K (slow (slow K)) 4 (omega arith) (joined Anything IsItself IsNumber its_own) (twice K) (start K main shared until script) (start (slow (slow K)) main shared until script)
    (record {
      board = refl;
      related = λ _. record {
        shared = (tt, (refl, tt));
        ready = (record { self = (fresh (K.begin main), refl, refl); kept = record { value = refl; listener = refl; seated = refl }; suspended = refl }, tt);
        rest = record { listeners = tt; sleepers = tt; waiters = tt };
      };
    }) arrivals rises m
