-- A bus that agrees with a world goes on agreeing with it.
use Rattle.std.proofs.Common.{◌≡◌, ℕ, zero, suc, ◌+◌, ◌-◌, pos, Bool, true, false, not, ◌&&◌, ◌==◌, nat_lt, if◌then◌else◌, Some, List, [], ◌∷◌, ◌++◌, length, map, refl, sym, ap, subst, ◌∙◌, arith, zero-add, add-zero, ◌≢◌, ℤ, negsuc, nat_le, None}
use Rattle.std.proofs.lemmas.Bool.Decides.{nat_tests}
use Rattle.board_world.specs.declared.events.Event.{Event}
use Rattle.board_world.specs.declared.events.Listener.{Listener}
use Rattle.board_world.specs.Limits.{arena_limit, listener_limit, pin_limit, queue_limit, raiser_limit, seat_limit}
use Rattle.std.specs.List.{list_any}
use Rattle.board_world.specs.Waiting.{how_many, chosen, left, hears, none, held_by, released, handler_of}
use Rattle.board_world.specs.Activities.{Activity, World, is_of, is_number, handlers, holding, woken}
use Rattle.board_world.specs.Kinds.{Kind, Listens, RaisesNow, Question, Raises, Plots, Displays, Writes, Sets, Sends, Time, Value, Pressed, Asks, Takes, Pauses, Waits, Spawns, answer, wrote, was_set}
use Rattle.board_world.specs.World.{dispatch, acted, ends, ends_with, goes_on, leaves, jump, stops, lacks_seat, blocks}
use Rattle.message_bus.specs.ListenerState.{fresh, ListenerState, begins_new, heard, ended}
use Rattle.message_bus.specs.BusState.{BusState, changed, alive_at, held_at}
use Rattle.message_bus.specs.Agreement.{Agrees, hearings, living, begun}
use Rattle.message_bus.proofs.Counting.{many-append, many-map, many-woken}
use Rattle.message_bus.proofs.Handlers.{grown, handlers-begun, holding-heard, none-begun, begun-mapped}
use Rattle.message_bus.specs.Numbers.{beginning}
use Rattle.message_bus.specs.Agreement.{handler_activity}
use Rattle.board_world.specs.Frame.{plotted}
use Rattle.board_world.specs.Board.{Board, arrive_all}
use Rattle.board_world.specs.Observations.{ByteList, End}
use Rattle.message_bus.specs.Agreement.{asked_queue}

woken-many : {A : Type 0} (i : ℕ) (value : ℤ) (xs : List (Activity A)) → how_many (is_of i) (map (woken value) xs) ≡ how_many (is_of i) xs
woken-many i value xs = many-map (is_of i) (woken value) (is_of i) (λ a. refl) xs

-- a listener more
fresh-hearings : (l : Listener) (ls : List ListenerState) → hearings ls ++ record { listener = l; held = [] } ∷ [] ≡ hearings (ls ++ fresh l ∷ [])
fresh-hearings l [] = refl
fresh-hearings l (x ∷ xs) = ap (λ hs. x.hearing ∷ hs) (fresh-hearings l xs)

fresh-alive : (l : Listener) (ls : List ListenerState) (i : ℕ) → alive_at i ls ≡ alive_at i (ls ++ fresh l ∷ [])
fresh-alive l [] zero = refl
fresh-alive l [] (suc i) = refl
fresh-alive l (x ∷ xs) zero = refl
fresh-alive l (x ∷ xs) (suc i) = fresh-alive l xs i

-- an activity that ends, or begins again
ended-hearings : (ls : List ListenerState) (i : ℕ) (e : Event) (rest : List Event) → held_at i ls ≡ e ∷ rest → released i rest (hearings ls) ≡ hearings (changed ended i ls)
ended-hearings [] i e rest h = refl
ended-hearings (l ∷ ls) zero e rest h = rw h refl
ended-hearings (l ∷ ls) (suc i) e rest h = ap (λ hs. l.hearing ∷ hs) (ended-hearings ls i e rest h)

again-alive : (ls : List ListenerState) (i j : ℕ) (e : Event) (rest : List Event) → held_at i ls ≡ e ∷ rest → alive_at j ls ≡ alive_at j (changed ended i ls)
again-alive [] i j e rest h = refl
again-alive (l ∷ ls) zero zero e rest h = rw h refl
again-alive (l ∷ ls) zero (suc j) e rest h = refl
again-alive (l ∷ ls) (suc i) zero e rest h = refl
again-alive (l ∷ ls) (suc i) (suc j) e rest h = again-alive ls i j e rest h

left-hearings : (ls : List ListenerState) (i : ℕ) → held_at i ls ≡ [] → hearings ls ≡ hearings (changed ended i ls)
left-hearings [] i h = refl
left-hearings (l ∷ ls) zero h = rw h refl
left-hearings (l ∷ ls) (suc i) h = ap (λ hs. l.hearing ∷ hs) (left-hearings ls i h)

left-alive : (ls : List ListenerState) (i : ℕ) → held_at i ls ≡ [] → alive_at i ls - 1 ≡ alive_at i (changed ended i ls)
left-alive [] i h = refl
left-alive (l ∷ ls) zero h = rw h refl
left-alive (l ∷ ls) (suc i) h = left-alive ls i h

left-others : (ls : List ListenerState) (i j : ℕ) → i ≢ j → alive_at j ls ≡ alive_at j (changed ended i ls)
left-others [] i j h = refl
left-others (l ∷ ls) zero zero h = absurd (h refl)
left-others (l ∷ ls) zero (suc j) h = refl
left-others (l ∷ ls) (suc i) zero h = refl
left-others (l ∷ ls) (suc i) (suc j) h = left-others ls i j (λ e. h (ap suc e))

held-hearings : (ls : List ListenerState) (i : ℕ) → held_by i (hearings ls) ≡ held_at i ls
held-hearings [] i = refl
held-hearings (l ∷ ls) zero = refl
held-hearings (l ∷ ls) (suc i) = held-hearings ls i

moved_on : (c d : Bool) → c ≡ d → (ready others before after : ℕ) → ready ≡ (if d then suc others else others) → after ≡ before + (if c then 1 else 0) → others + after ≡ ready + before
moved_on true true e ready others before after p q = omega (arith, p, q)
moved_on false false e ready others before after p q = omega (arith, p, q)
moved_on true false e ready others before after p q = absurd (cc)
moved_on false true e ready others before after p q = absurd (cc)

module _ {A S : Type 0} where
  -- where a bus agrees with a world
  pub begun-agrees : (make : ℕ → A) (e : Event) (b : BusState) (w : World A S) → Agrees b w → handlers make e w 0 w.listeners ≡ begun make e 0 b.listeners
  begun-agrees make e b w h =
      ap (handlers make e w 0) h.listeners ∙ handlers-begun e w make b.listeners 0 (λ i k same lt. h.alive i ∙ ap (λ (n : ℕ). alive_at n b.listeners) (same ∙ add-zero k))

  pub held-agrees : (e : Event) (b : BusState) (w : World A S) → Agrees b w → holding e w 0 w.listeners ≡ hearings (map (heard e) b.listeners)
  held-agrees e b w h =
      ap (holding e w 0) h.listeners ∙ holding-heard e w b.listeners 0 (λ i k same lt. h.alive i ∙ ap (λ (n : ℕ). alive_at n b.listeners) (same ∙ add-zero k))

  -- those of a listener behind the event: those that were alive, and the one that begins
  pub alive-heard : (make : ℕ → A) (e : Event) (b : BusState) (w : World A S) → Agrees b w → (i : ℕ) → alive_at i (map (heard e) b.listeners) ≡ living i w + how_many (is_of i) (handlers make e w 0 w.listeners)
  alive-heard make e b w h i =
      grown make e b.listeners i i 0 (sym (add-zero i)) ∙ rw (h.alive i, begun-agrees make e b w h) refl

  -- behind a dispatch
  pub dispatch-agrees : (K : Kind A S) (e : Event) (rest : List Event) (b : BusState) (w : World A S) → Agrees b w
      → Agrees (record b { queue = rest; listeners = map (heard e) b.listeners }) (dispatch K e rest w)
  dispatch-agrees K e rest b w h =
      record {
        listeners = held-agrees e b w h;
        queue = refl;
        alive = λ i.
            let test : Activity A → Bool = is_of i in
            let new = handlers K.begin e w 0 w.listeners in
            let wakes = map (woken e.value) (chosen (hears e) w.waiters) in
            let front = many-append test w.ready (new ++ wakes) in
            let back = many-append test new wakes in
            let same = woken-many i e.value (chosen (hears e) w.waiters) in
            let waited = many-woken (hears e) test w.waiters in
            let grows = alive-heard K.begin e b w h i in
            omega (arith, front, back, same, waited, grows);
      }

  -- behind an event that is raised at once
  pub raise_now-agrees : (K : Kind A S) (a : Activity A) (others : List (Activity A)) (e : Event) (above : ℕ → A) (self : A) (shared : S) (b : BusState) (w : World A S) → Agrees b w → w.ready ≡ a ∷ others
      → (not (none (handlers above e w 0 w.listeners)) && nat_le raiser_limit (how_many (λ (c : Activity A). c.suspended) others)) ≡ false
      → Agrees (record b { listeners = map (heard e) b.listeners }) (acted K a others w (RaisesNow e above self shared))
  raise_now-agrees K a others e above self shared b w h first fits =
      rw fits
      (record {
        listeners = held-agrees e b w h;
        queue = h.queue;
        alive = λ i.
            let test : Activity A → Bool = is_of i in
            let new = handlers above e w 0 w.listeners in
            let wakes = map (woken e.value) (chosen (hears e) w.waiters) in
            let raiser : Activity A = record a { self = self; suspended = not (none new) } in
            let front = many-append test new (raiser ∷ (others ++ wakes)) in
            let back = many-append test others wakes in
            let same = woken-many i e.value (chosen (hears e) w.waiters) in
            let waited = many-woken (hears e) test w.waiters in
            let grows = alive-heard above e b w h i in
            let before = ap (how_many test) first in
            counted (test a) _ _ _ _ _ _ _ _ _ _ _ front back same waited grows before;
      })
    where
      counted : (c : Bool) (ready new tail others wakes chose sleepers left waiters all after : ℕ)
          → tail ≡ new + (if c then suc after else after) → after ≡ others + wakes → wakes ≡ chose → chose + left ≡ waiters
          → all ≡ (ready + (sleepers + waiters)) + new → ready ≡ (if c then suc others else others) → tail + (sleepers + left) ≡ all
      counted true ready new tail others wakes chose sleepers left waiters all after f g k m n o = omega (arith, f, g, k, m, n, o)
      counted false ready new tail others wakes chose sleepers left waiters all after f g k m n o = omega (arith, f, g, k, m, n, o)

  pub listens-agrees : (K : Kind A S) (a : Activity A) (others : List (Activity A)) (l : Listener) (self : A) (shared : S) (b : BusState) (w : World A S) → Agrees b w → w.ready ≡ a ∷ others
      → nat_lt (length w.listeners) listener_limit ≡ true
      → Agrees (record b { listeners = b.listeners ++ fresh l ∷ [] }) (acted K a others w (Listens l self shared))
  listens-agrees K a others l self shared b w h first room =
      rw room
      (record {
        listeners = ap (λ hs. hs ++ record { listener = l; held = [] } ∷ []) h.listeners ∙ fresh-hearings l b.listeners;
        queue = h.queue;
        alive = λ i. ap (λ n. n + (how_many (λ p. is_of i p.1) w.sleepers + how_many (λ p. is_of i p.1) w.waiters)) (sym (ap (how_many (is_of i)) first)) ∙ h.alive i ∙ fresh-alive l b.listeners i;
      })

  -- behind the end of a listener's activity
  pub ends-agrees : (a : Activity A) (others : List (Activity A)) (again : ℕ → A) (shared : S) (i : ℕ) (b : BusState) (w : World A S) → Agrees b w → w.ready ≡ a ∷ others → a.listener ≡ Some i
      → Agrees (record b { listeners = changed ended i b.listeners }) (ends a others again shared (Some i) w)
  ends-agrees a others again shared i b w h first names =
      by_held (held_by i w.listeners) (sym (ap (held_by i) h.listeners ∙ held-hearings b.listeners i))
    where
      rest_of : ℕ → ℕ
      rest_of j = how_many (λ p. is_of j p.1) w.sleepers + how_many (λ p. is_of j p.1) w.waiters

      gone : (c : Bool) (ready others rest before after : ℕ) → ready ≡ (if c then suc others else others) → ready + rest ≡ before → after ≡ (if c then before - 1 else before) → others + rest ≡ after
      gone true ready others rest before after f g k = omega (arith, f, g, k)
      gone false ready others rest before after f g k = omega (arith, f, g, k)

      ended-alive : held_at i b.listeners ≡ [] → (j : ℕ) (c : Bool) → (i == j) ≡ c → alive_at j (changed ended i b.listeners) ≡ (if c then alive_at j b.listeners - 1 else alive_at j b.listeners)
      ended-alive none j true same = (let here : i ≡ j = grind (arith, nat_tests) in subst (λ (n : ℕ). alive_at n (changed ended i b.listeners) ≡ alive_at n b.listeners - 1) here (sym (left-alive b.listeners i none)))
      ended-alive none j false other = sym (left-others b.listeners i j (grind (arith, nat_tests)))

      by_held : (hs : List Event) → held_at i b.listeners ≡ hs → Agrees (record b { listeners = changed ended i b.listeners }) (ends_with hs i a others again shared w)
      by_held [] k =
          record {
            listeners = h.listeners ∙ left-hearings b.listeners i k;
            queue = h.queue;
            alive = λ j.
                let test : is_of j a ≡ (i == j) = ap (λ o. is_number o j) names in
                let ready : how_many (is_of j) w.ready ≡ (if i == j then suc (how_many (is_of j) others) else how_many (is_of j) others) = ap (how_many (is_of j)) first ∙ rw test refl in
                gone (i == j) (how_many (is_of j) w.ready) (how_many (is_of j) others) (rest_of j) (alive_at j b.listeners) (alive_at j (changed ended i b.listeners)) ready (h.alive j) (ended-alive k j (i == j) refl);
          }
      by_held (e ∷ rest) k =
          record {
            listeners = ap (released i rest) h.listeners ∙ ended-hearings b.listeners i e rest k;
            queue = h.queue;
            alive = λ j. ap (λ n. n + rest_of j) (sym (ap (how_many (is_of j)) first)) ∙ h.alive j ∙ again-alive b.listeners i j e rest k;
          }

  -- whether a listener begins is whether the world has a new activity
  pub begins-agrees : (make : ℕ → A) (e : Event) (b : BusState) (w : World A S) → Agrees b w → none (handlers make e w 0 w.listeners) ≡ not (list_any (begins_new e) b.listeners)
  begins-agrees make e b w h = ap none (begun-agrees make e b w h) ∙ none-begun make e 0 b.listeners

  -- the world's new activities are those of the listeners' numbers
  pub numbers-agree : (make : ℕ → A) (e : Event) (b : BusState) (w : World A S) → Agrees b w → handlers make e w 0 w.listeners ≡ map (λ i. handler_activity (make (handler_of i (hearings b.listeners))) e i) (beginning e 0 b.listeners)
  numbers-agree make e b w h = begun-agrees make e b w h ∙ begun-mapped make e 0 b.listeners (λ i. handler_of i (hearings b.listeners)) (λ j. ap (λ k. handler_of k (hearings b.listeners)) (zero-add j))

  -- a bus agrees with a world that has the same listeners and as many of each listener's activities
  pub agrees-along : (b : BusState) (queue : List Event) (w v : World A S) → Agrees b w → v.listeners ≡ w.listeners → v.board.queue ≡ queue → ((i : ℕ) → living i v ≡ living i w)
      → Agrees (record b { queue = queue }) v
  agrees-along b queue w v h l q n = record { listeners = l ∙ h.listeners; queue = q; alive = λ i. n i ∙ h.alive i }

  -- the first activity goes on
  pub goes-agrees : (b : BusState) (queue : List Event) (a : Activity A) (others : List (Activity A)) (next : A × S) (board : Board) (w : World A S) → Agrees b w → w.ready ≡ a ∷ others → board.queue ≡ queue
      → Agrees (record b { queue = queue }) (goes_on a others next board w)
  goes-agrees b queue a others next board w h r q =
      agrees-along b queue w (goes_on a others next board w) h refl q (λ i. ap (λ xs. how_many (is_of i) xs + (how_many (λ p. is_of i p.1) w.sleepers + how_many (λ p. is_of i p.1) w.waiters)) (sym r))

  -- it goes to sleep, or begins to wait
  pub sleeps-agrees : (b : BusState) (a x : Activity A) (others : List (Activity A)) (wake : ℕ) (board : Board) (shared : S) (w : World A S) → Agrees b w → w.ready ≡ a ∷ others → x.listener ≡ a.listener → board.queue ≡ w.board.queue
      → Agrees b (record w { board = board; shared = shared; ready = others; sleepers = w.sleepers ++ (wake, x) ∷ [] })
  sleeps-agrees b a x others wake board shared w h r l q =
      agrees-along b b.queue w (record w { board = board; shared = shared; ready = others; sleepers = w.sleepers ++ (wake, x) ∷ [] }) h refl (q ∙ h.queue) (λ i.
      let same : is_of i x ≡ is_of i a = ap (λ o. is_number o i) l in
      let after = many-append (λ p. is_of i p.1) w.sleepers ((wake, x) ∷ []) in
      let turned = moved_on (is_of i x) (is_of i a) same _ _ _ _ (ap (how_many (is_of i)) r) after in
      omega (arith, turned))

  pub waits-agrees : (b : BusState) (a x : Activity A) (others : List (Activity A)) (wanted : Event) (board : Board) (shared : S) (w : World A S) → Agrees b w → w.ready ≡ a ∷ others → x.listener ≡ a.listener → board.queue ≡ w.board.queue
      → Agrees b (record w { board = board; shared = shared; ready = others; waiters = w.waiters ++ (wanted, x) ∷ [] })
  waits-agrees b a x others wanted board shared w h r l q =
      agrees-along b b.queue w (record w { board = board; shared = shared; ready = others; waiters = w.waiters ++ (wanted, x) ∷ [] }) h refl (q ∙ h.queue) (λ i.
      let same : is_of i x ≡ is_of i a = ap (λ o. is_number o i) l in
      let after = many-append (λ p. is_of i p.1) w.waiters ((wanted, x) ∷ []) in
      let turned = moved_on (is_of i x) (is_of i a) same _ _ _ _ (ap (how_many (is_of i)) r) after in
      omega (arith, turned))

  -- one that is no handler joins the ready ones
  pub joins-agrees : (b : BusState) (x : Activity A) (board : Board) (w : World A S) (shared : S) (ready : List (Activity A)) → Agrees b w → x.listener ≡ None → board.queue ≡ w.board.queue → ((i : ℕ) → how_many (is_of i) ready ≡ how_many (is_of i) w.ready)
      → Agrees b (record w { board = board; shared = shared; ready = ready ++ x ∷ [] })
  joins-agrees b x board w shared ready h l q same =
      agrees-along b b.queue w (record w { board = board; shared = shared; ready = ready ++ x ∷ [] }) h refl (q ∙ h.queue) (λ i.
      let s = many-append (is_of i) ready (x ∷ []) in
      let no : is_of i x ≡ false = ap (λ o. is_number o i) l in
      let z : how_many (is_of i) (x ∷ []) ≡ 0 = rw no refl in
      omega (arith, s, z, same i))

  -- one that is no handler ends
  pub leaves-agrees : (b : BusState) (a : Activity A) (others : List (Activity A)) (shared : S) (w : World A S) → Agrees b w → w.ready ≡ a ∷ others → a.listener ≡ None → Agrees b (leaves a others shared w)
  leaves-agrees b a others shared w h r l =
      agrees-along b b.queue w (leaves a others shared w) h refl h.queue (λ i.
      let no : is_of i a ≡ false = ap (λ o. is_number o i) l in
      let e : how_many (is_of i) w.ready ≡ how_many (is_of i) others = ap (how_many (is_of i)) r ∙ rw no refl in
      ap (λ n. n + (how_many (λ p. is_of i p.1) w.sleepers + how_many (λ p. is_of i p.1) w.waiters)) (sym e))

  -- the clock goes to a moment, and events may come
  pub jump-agrees : (b : BusState) (queue : List Event) (t : ℕ) (w : World A S) → Agrees b w → (arrive_all t w.board.script (record w.board { clock = t })).queue ≡ queue → Agrees (record b { queue = queue }) (jump t w)
  jump-agrees b queue t w h q =
      agrees-along b queue w (jump t w) h refl q (λ i.
      let s = many-append (is_of i) w.ready (chosen (λ wake. nat_le wake t) w.sleepers) in
      let p = many-woken (λ wake. nat_le wake t) (is_of i) w.sleepers in
      omega (arith, s, p))

  -- the run ends
  pub stops-agrees : (end : End) (b : BusState) (w : World A S) → Agrees b w → Agrees b (stops end w)
  stops-agrees end b w h = record { listeners = h.listeners; queue = h.queue; alive = h.alive }

-- a question raises its event, if it is that one, and leaves the queue else
if-queue : (c : Bool) (b d : Board) → d.queue ≡ b.queue → (if c then b else d).queue ≡ b.queue
if-queue true b d e = refl
if-queue false b d e = e

else-queue : (c : Bool) (b d : Board) → d.queue ≡ b.queue → (if c then d else b).queue ≡ b.queue
else-queue true b d e = e
else-queue false b d e = refl

raised-queue : (c : Bool) (e : Event) (b : Board) → (if c then record b { queue = b.queue ++ e ∷ [] } else b).queue ≡ (if c then b.queue ++ e ∷ [] else b.queue)
raised-queue true e b = refl
raised-queue false e b = refl

wrote-queue : (bytes : ByteList) (b : Board) → (wrote bytes b).queue ≡ b.queue
wrote-queue [] b = refl
wrote-queue (c ∷ cs) b = refl

set-queue : (p v : ℤ) (b : Board) → (was_set p v b).queue ≡ b.queue
set-queue (pos p) v b = else-queue (nat_lt p pin_limit) b _ refl
set-queue (negsuc p) v b = refl

pub queue-answer : (q : Question) (value : ℤ) (b : Board) → (answer q value b).0.queue ≡ asked_queue q b.queue
queue-answer (Raises e) value b = raised-queue (nat_lt (length b.queue) queue_limit) e b
queue-answer (Plots x y mode) value b = if-queue (plotted b.frame x y mode == b.frame) b _ refl
queue-answer (Displays f) value b = if-queue (f == b.frame) b _ refl
queue-answer (Writes bytes) value b = wrote-queue bytes b
queue-answer (Sets p v) value b = set-queue p v b
queue-answer (Sends n) value b = refl
queue-answer Time value b = refl
queue-answer Value value b = refl
queue-answer (Pressed n) value b = refl

-- the turns that don't concern the listeners
module _ {A S : Type 0} (K : Kind A S) (a : Activity A) (others : List (Activity A)) (b : BusState) (w : World A S) (h : Agrees b w) (first : w.ready ≡ a ∷ others) where
  pub asks-agrees : (q : Question) (next : ℤ → A × S) → Agrees (record b { queue = asked_queue q b.queue }) (acted K a others w (Asks q next))
  asks-agrees q next =
      let r = answer q a.value w.board in
      goes-agrees b (asked_queue q b.queue) a others (next r.1) r.0 w h first (queue-answer q a.value w.board ∙ ap (asked_queue q) h.queue)

  by_room : (c : Bool) (v v' : World A S) → Agrees b v → Agrees b v' → Agrees b (if c then v else v')
  by_room true v v' g g' = g
  by_room false v v' g g' = g'

  pub takes-agrees : (n : ℕ) (next : ℕ → A × S) → Agrees b (acted K a others w (Takes n next))
  takes-agrees n next =
      by_room (nat_le (w.board.used + n) arena_limit) _ _
      (goes-agrees b b.queue a others (next w.board.used) (record w.board { used = w.board.used + n }) w h first h.queue) (stops-agrees _ b w h)

  blocked-queue : (c : Bool) (x y : Board) → x.queue ≡ w.board.queue → y.queue ≡ w.board.queue → (if c then x else y).queue ≡ w.board.queue
  blocked-queue true x y e f = e
  blocked-queue false x y e f = f

  pub pauses-agrees : (n : ℤ) (self : A) (shared : S) → Agrees b (acted K a others w (Pauses n self shared))
  pauses-agrees n self shared =
      by_room (lacks_seat a w.board) _ _ (stops-agrees _ b w h)
      (sleeps-agrees b a (record a { self = self; seated = true; suspended = false }) others _ (blocks K (record a { self = self }) w.board) shared w h first refl (blocked-queue a.seated _ _ refl refl))

  pub awaits-agrees : (e : Event) (self : A) (shared : S) → Agrees b (acted K a others w (Waits e self shared))
  awaits-agrees e self shared =
      by_room (lacks_seat a w.board) _ _ (stops-agrees _ b w h)
      (waits-agrees b a (record a { self = self; seated = true; suspended = false }) others e (blocks K (record a { self = self }) w.board) shared w h first refl (blocked-queue a.seated _ _ refl refl))

  pub spawns-agrees : (f : ℕ) (self : A) (shared : S) → Agrees b (acted K a others w (Spawns f self shared))
  spawns-agrees f self shared =
      by_room (nat_lt w.board.seats seat_limit) _ _
      (joins-agrees b (record { self = K.begin f; value = pos 0; listener = None; seated = true; suspended = false }) _ w shared (record a { self = self; suspended = false } ∷ others) h refl refl (λ i. sym (ap (how_many (is_of i)) first)))
      (stops-agrees _ b w h)
