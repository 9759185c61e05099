-- A turn that is taken behind an instruction that went on is the turn that the instruction takes.
use Rattle.std.proofs.Common.{◌≡◌, ℕ, suc, Bool, true, false, not, ◌&&◌, ◌||◌, nat_lt, nat_le, if◌then◌else◌, Option, Some, None, List, [], ◌∷◌, length, refl, ap, ◌∙◌}
use Rattle.std.specs.Ordering.{int_eq}
use Rattle.std.specs.Prelude.{ℤ, pos, negsuc, ◌==◌, ◌+◌}
use Rattle.board_world.specs.declared.events.Event.{Event}
use Rattle.board_world.specs.Limits.{arena_limit, seat_limit, listener_limit, raiser_limit, queue_limit, pin_limit}
use Rattle.board_world.specs.Rules.{reentrant, matches}
use Rattle.board_world.specs.Panics.{arena_panic, seat_panic, listener_panic, raiser_panic}
use Rattle.board_world.specs.Frame.{plotted}
use Rattle.board_world.specs.Observations.{ByteList, End, Panicked, Faulted}
use Rattle.board_world.specs.Board.{Board}
use Rattle.board_world.specs.Waiting.{Hearing, how_many, held_by}
use Rattle.board_world.specs.Activities.{Activity, World, busy, handlers, holding}
use Rattle.board_world.specs.Kinds.{Kind, Question, Raises, Plots, Displays, Writes, Sets, Sends, Time, Value, Pressed, Turn, Goes, Asks, Takes, Pauses, Waits, Spawns, Listens, RaisesNow, Ends, Panics, Faults, answer, wrote, was_set}
use Rattle.board_world.specs.World.{acted, goes_on, stops}

-- who is busy decides which handlers begin and what is held
pub handlers_alike : {A S : Type 0} (make : ℕ → A) (e : Event) (w v : World A S) → ((i : ℕ) → busy v i ≡ busy w i) → (i : ℕ) (hs : List Hearing) → handlers make e v i hs ≡ handlers make e w i hs
handlers_alike make e w v b i [] = refl
handlers_alike {A} make e w v b i (h ∷ hs) =
    let one : Bool → List (Activity A) → List (Activity A) = λ c r. (if matches h.listener.source h.listener.value e && (int_eq h.listener.mode reentrant || not c)
    then record { self = make h.listener.handler; value = e.value; listener = Some i; seated = false; suspended = false } ∷ r else r) in
    ap (λ c. one c (handlers make e v (suc i) hs)) (b i) ∙ ap (one (busy w i)) (handlers_alike make e w v b (suc i) hs)

pub holding_alike : {A S : Type 0} (e : Event) (w v : World A S) → ((i : ℕ) → busy v i ≡ busy w i) → (i : ℕ) (hs : List Hearing) → holding e v i hs ≡ holding e w i hs
holding_alike e w v b i [] = refl
holding_alike e w v b i (h ∷ hs) = rw (b i, holding_alike e w v b (suc i) hs) refl

-- no answer ends the run
if_end : (c : Bool) (x y : Board) (o : Option End) → x.end ≡ o → y.end ≡ o → (if c then x else y).end ≡ o
if_end true x y o p q = p
if_end false x y o p q = q

wrote_end : (bytes : ByteList) (b : Board) → (wrote bytes b).end ≡ b.end
wrote_end [] b = refl
wrote_end (c ∷ cs) b = refl

set_end : (p v : ℤ) (b : Board) → (was_set p v b).end ≡ b.end
set_end (pos p) v b = if_end (nat_lt p pin_limit) _ b b.end refl refl
set_end (negsuc p) v b = refl

pub answer_end : (q : Question) (value : ℤ) (b : Board) → (answer q value b).0.end ≡ b.end
answer_end (Raises e) value b = if_end (nat_lt (length b.queue) queue_limit) _ b b.end refl refl
answer_end (Plots x y mode) value b = if_end (plotted b.frame x y mode == b.frame) b _ b.end refl refl
answer_end (Displays f) value b = if_end (f == b.frame) b _ b.end refl refl
answer_end (Writes bytes) value b = wrote_end bytes b
answer_end (Sets p v) value b = set_end p v b
answer_end (Sends n) value b = refl
answer_end Time value b = refl
answer_end Value value b = refl
answer_end (Pressed n) value b = refl

-- The activity that steps, as it was before its instruction and behind it, and the worlds.
module _ {A S : Type 0} (K : Kind A S) (f f' : A) (value : ℤ) (listener : Option ℕ) (seated mark mark' : Bool) (others : List (Activity A)) (s : S) (w : World A S) where
  abbrev pub first : Activity A
  first = record { self = f; value = value; listener = listener; seated = seated; suspended = mark }

  abbrev pub moved : Activity A
  moved = record { self = f'; value = value; listener = listener; seated = seated; suspended = mark' }

  abbrev pub w0 : World A S
  w0 = record w { ready = first ∷ others }

  abbrev pub w1 : World A S
  w1 = goes_on first others (f', s) w.board w0

  -- The turn is the same behind it, and the run goes on; or it ends the run, from both.
  pub data Alike (turn : Turn A S) : Type 0 where
    Same : acted K moved others w1 turn ≡ acted K first others w0 turn → (acted K moved others w1 turn).board.end ≡ w.board.end → Alike turn
    Stop : (e : End) → acted K moved others w1 turn ≡ stops e w1 → acted K first others w0 turn ≡ stops e w0 → Alike turn

  still_busy : (i : ℕ) → busy w1 i ≡ busy w0 i
  still_busy i = refl

  pub alike : (turn : Turn A S) → Alike turn
  alike (Goes self shared) = Same refl refl
  alike (Asks q next) = Same refl (answer_end q value w.board)
  alike (Takes n next) = by_room (nat_le (w.board.used + n) arena_limit) refl
    where
      by_room : (c : Bool) → nat_le (w.board.used + n) arena_limit ≡ c → Alike (Takes n next)
      by_room true e = Same (rw e refl) (rw e refl)
      by_room false e = Stop (Panicked arena_panic) (rw e refl) (rw e refl)
  alike (Pauses n self shared) = by_seat seated refl (nat_le seat_limit w.board.seats) refl
    where
      by_seat : (c : Bool) → seated ≡ c → (d : Bool) → nat_le seat_limit w.board.seats ≡ d → Alike (Pauses n self shared)
      by_seat true e d g = Same (rw e refl) (rw e refl)
      by_seat false e true g = Stop (Panicked seat_panic) (rw (e, g) refl) (rw (e, g) refl)
      by_seat false e false g = Same (rw (e, g) refl) (rw (e, g) refl)
  alike (Waits x self shared) = by_seat seated refl (nat_le seat_limit w.board.seats) refl
    where
      by_seat : (c : Bool) → seated ≡ c → (d : Bool) → nat_le seat_limit w.board.seats ≡ d → Alike (Waits x self shared)
      by_seat true e d g = Same (rw e refl) (rw e refl)
      by_seat false e true g = Stop (Panicked seat_panic) (rw (e, g) refl) (rw (e, g) refl)
      by_seat false e false g = Same (rw (e, g) refl) (rw (e, g) refl)
  alike (Spawns g self shared) = by_seat (nat_lt w.board.seats seat_limit) refl
    where
      by_seat : (c : Bool) → nat_lt w.board.seats seat_limit ≡ c → Alike (Spawns g self shared)
      by_seat true e = Same (rw e refl) (rw e refl)
      by_seat false e = Stop (Panicked seat_panic) (rw e refl) (rw e refl)
  alike (Listens l self shared) = by_room (nat_lt (length w.listeners) listener_limit) refl
    where
      by_room : (c : Bool) → nat_lt (length w.listeners) listener_limit ≡ c → Alike (Listens l self shared)
      by_room true e = Same (rw e refl) (rw e refl)
      by_room false e = Stop (Panicked listener_panic) (rw e refl) (rw e refl)
  alike (RaisesNow e above self shared) = by_new (handlers above e w0 0 w.listeners) refl (nat_le raiser_limit (how_many (λ b. b.suspended) others)) refl
    where
      news : handlers above e w1 0 w.listeners ≡ handlers above e w0 0 w.listeners
      news = handlers_alike above e w0 w1 still_busy 0 w.listeners

      holds_on : holding e w1 0 w.listeners ≡ holding e w0 0 w.listeners
      holds_on = holding_alike e w0 w1 still_busy 0 w.listeners

      by_new : (new : List (Activity A)) → handlers above e w0 0 w.listeners ≡ new → (d : Bool) → nat_le raiser_limit (how_many (λ b. b.suspended) others) ≡ d → Alike (RaisesNow e above self shared)
      by_new [] g d h = Same (rw (news, holds_on, g) refl) (rw (news, holds_on, g) refl)
      by_new (x ∷ xs) g true h = Stop (Panicked raiser_panic) (rw (news, g, h) refl) (rw (g, h) refl)
      by_new (x ∷ xs) g false h = Same (rw (news, holds_on, g, h) refl) (rw (news, holds_on, g, h) refl)
  alike (Ends again shared) = by_listener listener refl
    where
      by_held : (i : ℕ) → listener ≡ Some i → (hs : List Event) → held_by i w.listeners ≡ hs → Alike (Ends again shared)
      by_held i e [] g = Same (rw (e, g) refl) (rw (e, g) refl)
      by_held i e (x ∷ xs) g = Same (rw (e, g) refl) (rw (e, g) refl)

      by_listener : (o : Option ℕ) → listener ≡ o → Alike (Ends again shared)
      by_listener None e = Same (rw e refl) (rw e refl)
      by_listener (Some i) e = by_held i e (held_by i w.listeners) refl
  alike (Panics code) = Stop (Panicked code) refl refl
  alike (Faults kind address) = Stop (Faulted kind address) refl refl
