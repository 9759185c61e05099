-- The clock comes to a moment with events that are raised behind the script's own entries.
use Rattle.std.proofs.Common.{All, ◌<◌, OnOk, OnErr, Result, Ok, Err, ◌≡◌, ℕ, ◌≤◌, true, false, if◌then◌else◌, nat_lt, List, [], ◌∷◌, ◌++◌, length, drop, refl, ap, sym, ◌∙◌, subst, arith}
use Rattle.std.proofs.lemmas.List.{append-nil}
use Rattle.board_world.specs.declared.events.Event.{Event}
use Rattle.board_world.specs.Limits.{queue_limit, end_limit}
use Rattle.board_world.specs.Board.{Board, raised, arrive_all}
use Rattle.board_world.specs.Activities.{World}
use Rattle.board_world.specs.World.{jump}
use Rattle.board_world.specs.Before.{IsRisingFrom}
use Rattle.bank_model.specs.Fibers.{Fiber, Shared}
use Rattle.board_drivers.specs.Buttons.{HasButtons}
use Rattle.message_bus.specs.BusState.{BusState, queued}
use Rattle.event_script.specs.World.{world_entries}
use Rattle.board_ports.specs.Account.{Account}
use Rattle.board_ports.specs.Plugged.{Plugged}
use Rattle.board_outside.specs.Moves.{Meets}
use Rattle.board_run.specs.declared.engine.Engine.{Engine}
use Rattle.board_run.specs.Arriving.{Arrived, acted_on}
use Rattle.board_run.specs.Represents.{Represents, IsShown, state_of, plain_of}
use Rattle.thumb_code.specs.Map.{flash_end}
use Rattle.event_script.specs.Sound.{IsSound}
use Rattle.board_run.specs.declared.end.Counts.{Counts}
use Rattle.board_run.specs.Advancing.{IsWhole}
use Rattle.class_world.specs.Hearing.{with_heard, raised_at}
use Rattle.class_world.specs.Keeping.{raised_all, with_kept}
use Rattle.class_world.proofs.Laws.{kept_arrives}
use Rattle.board_run.specs.Going.{queued_all, CameTo}
use Rattle.board_run.proofs.FiberGoesOn.{IsPlain}
use Rattle.board_run.proofs.OutsideActs.{arrived}
use Rattle.fiber_queues.specs.Calls.{due_woken}
use Rattle.fiber_runtime.specs.State.{State}
use Rattle.board_run.proofs.Raises.{jumped}

raised_queue : (events : List Event) (b : Board) → raised_all events b ≡ record b { queue = queued_all events b.queue }
raised_queue [] b = refl
raised_queue (e ∷ es) b = ap (raised_all es) (one e b) ∙ raised_queue es (record b { queue = queued e b.queue })
  where
    one : (e : Event) (b : Board) → raised e b ≡ record b { queue = queued e b.queue }
    one e b = elim (nat_lt (length b.queue) queue_limit) as (λ t. (if t then record b { queue = b.queue ++ e ∷ [] } else b) ≡ record b { queue = if t then b.queue ++ e ∷ [] else b.queue }) [ true ↦ refl | false ↦ refl ]

abbrev pub at_moment : Engine → ℕ → Engine
at_moment e t = record e { clock = t; runtime = record e.runtime { lists = due_woken t e.runtime.lists } }

abbrev pub settled : Engine → ℕ → Engine → Engine
settled e t new = record (at_moment e t) { bus = new.bus; buttons = new.buttons; next = new.next }

module _ {B : Type 0} (account : B → Account) (e : Engine) (plugged plugged' : Plugged B) (t : ℕ) (events : List Event)
    (rising : IsRisingFrom t (world_entries (drop e.next e.script.entries)))
    (new : Engine) (stays : new ≡ record (at_moment e t) { bus = new.bus; buttons = new.buttons; next = new.next }) (a : Arrived account (at_moment e t) new plugged plugged') where
  abbrev mid : Engine
  mid = settled e t new

  abbrev with_events : Engine
  with_events = record mid { bus = record new.bus { queue = queued_all events new.bus.queue } }

  jump_shows : (image : List ℕ) (w : World Fiber Shared) → Represents image (state_of e) w → Represents image (state_of mid) (jump t w)
  jump_shows image w h =
      let now : Board = record w.board { clock = t } in
      let has : HasButtons t e.buttons e.bus now = record { moment = refl; button_a = ap (λ (p : Board). p.a_since) h.board; button_b = ap (λ (p : Board). p.b_since) h.board; events = h.hears.queue } in
      let R : Board = record (acted_on new.bus new.buttons a.moves now) { script = world_entries (drop new.next e.script.entries) } in
      let is : arrive_all t w.board.script now ≡ R = ap (λ l. arrive_all t l now) (ap (λ (p : Board). p.script) h.board) ∙ a.board now has in
      let plain : IsPlain R (plain_of mid) = ap (λ (p : Board). record p { clock = t; queue = new.bus.queue; a_since = new.buttons.a_since; b_since = new.buttons.b_since; unplugged = R.unplugged; script = R.script }) h.board in
      let first = jumped image (state_of e) w h t (plain_of mid) new.bus.queue (subst (λ (x : Board). IsPlain x (plain_of mid)) (sym is) plain) refl refl (ap (λ (x : Board). x.queue) is) in
      let bus : (let x : BusState = record e.bus { queue = new.bus.queue } in x ≡ new.bus) = ap (λ ls. (let x : BusState = record { listeners = ls; queue = new.bus.queue } in x)) (sym a.listeners) in
      subst (λ (x : BusState). Represents image (record (state_of mid) { bus = x }) (jump t w)) bus first

  came_shows : (image : List ℕ) (w : World Fiber Shared) → Represents image (state_of e) w
      → Represents image (state_of with_events) (jump t (with_kept t events w)) × Meets a.moves w.board (jump t (with_kept t events w)).board
  came_shows image w h =
      let first = jump_shows image w h in
      let now : Board = record (with_kept t events w).board { clock = t } in
      let has : HasButtons t e.buttons e.bus now = record { moment = refl; button_a = ap (λ (p : Board). p.a_since) h.board; button_b = ap (λ (p : Board). p.b_since) h.board; events = h.hears.queue } in
      let own : w.board.script ≡ world_entries (drop e.next e.script.entries) = ap (λ (p : Board). p.script) h.board in
      let R : Board = record (acted_on new.bus new.buttons a.moves now) { script = world_entries (drop new.next e.script.entries) } in
      let is : arrive_all t w.board.script now ≡ R = ap (λ l. arrive_all t l now) own ∙ a.board now has in
      let all : arrive_all t (with_heard (raised_at t events) w.board.script) now ≡ record R { queue = queued_all events new.bus.queue } =
      kept_arrives t events w.board.script now (subst (IsRisingFrom t) (sym own) rising) ∙ ap (raised_all events) is ∙ raised_queue events R in
      let X : Board = record R { queue = queued_all events new.bus.queue } in
      let plain : IsPlain X (plain_of with_events) = ap (λ (p : Board). record p { clock = t; queue = queued_all events new.bus.queue; a_since = new.buttons.a_since; b_since = new.buttons.b_since; unplugged = R.unplugged; script = R.script }) h.board in
      let shown = arrived image (state_of mid) (jump t w) first X (plain_of with_events) (queued_all events new.bus.queue) plain refl refl refl in
      let meets : Meets a.moves w.board X = record { seen = sym (append-nil w.board.seen) ∙ ap (λ l. w.board.seen ++ l) (sym a.silent); unplugged = refl } in
      (subst (λ (x : Board). Represents image (state_of with_events) (record (jump t w) { board = x })) (sym all) shown, subst (λ (x : Board). Meets a.moves w.board x) (sym all) meets)

  pub came : CameTo account t events e with_events plugged plugged'
  came = record { moves = a.moves; silent = a.silent; shows = came_shows; ports = a.ports }

-- the same behind the calls that the engine makes
pub came_by : {B : Type 0} (account : B → Account) (e : Engine) (p p' : Plugged B) (t : ℕ) (events : List Event) → IsRisingFrom t (world_entries (drop e.next e.script.entries))
    → (r : State) → r ≡ record e.runtime { lists = due_woken t e.runtime.lists } → (new : Engine) → new ≡ record e { clock = t; runtime = r; bus = new.bus; buttons = new.buttons; next = new.next }
    → Arrived account (record e { clock = t; runtime = r }) new p p' → (bus : BusState) → bus ≡ record new.bus { queue = queued_all events new.bus.queue } → CameTo account t events e (record new { bus = bus }) p p'
came_by account e p p' t events rising r woke new =
    subst (λ (x : State). new ≡ record e { clock = t; runtime = x; bus = new.bus; buttons = new.buttons; next = new.next } → Arrived account (record e { clock = t; runtime = x }) new p p' → (bus : BusState) → bus ≡ record new.bus { queue = queued_all events new.bus.queue } → CameTo account t events e (record new { bus = bus }) p p') (sym woke)
    (λ stays a bus is.
    let c = came account e p p' t events rising new stays a in
    subst (λ (b : BusState). CameTo account t events e (record new { bus = b }) p p') (sym is)
    (subst (λ (x : Engine). CameTo account t events e (record x { bus = record new.bus { queue = queued_all events new.bus.queue } }) p p') (sym stays) c))

module _ {B : Type 0} (account : B → Account) (e new : Engine) (p p' : Plugged B) (t : ℕ) (events : List Event) (c : CameTo account t events e new p p') where
  pub came_shown : IsShown (state_of e) → IsShown (state_of new)
  came_shown s =
      let h = (c.shows e.runtime.machine.memory.flash s.world s.shows).0 in
      record { world = _; shows = subst (λ i. Represents i (state_of new) (jump t (with_kept t events s.world))) (sym h.flash) h }

  pub came_whole : (n : ℕ) → IsWhole e n → new.script ≡ e.script → new.counts ≡ e.counts → new.clock ≡ t → new.next ≤ length e.script.entries → t ≤ end_limit → IsWhole new n
  came_whole n w script counts clock within late =
      let flash : new.runtime.machine.memory.flash ≡ e.runtime.machine.memory.flash = (c.shows e.runtime.machine.memory.flash w.shown.world w.shown.shows).0.flash in
      record {
        shown = came_shown w.shown;
        script = subst IsSound (sym script) w.script;
        within = subst (λ x. new.next ≤ length x.entries) (sym script) within;
        early = omega (arith, clock, late);
        size = subst (λ l. length l ≤ flash_end) (sym flash) w.size;
        bytes = subst (λ l. All (λ b. b < 256) l) (sym flash) w.bytes;
        spawned = (let y = w.spawned in let z = ap (λ (k : Counts). k.spawned) counts in omega (arith, y, z));
        blocked = (let y = w.blocked in let z = ap (λ (k : Counts). k.blocked) counts in omega (arith, y, z));
        words = (let y = w.words in let z = ap (λ (k : Counts). k.words) counts in omega (arith, y, z));
      }

-- what is so of an Ok, and what follows from it
pub then_ok : {T E P Q : Type 0} (r : Result T E) → OnOk r P → (P → Q) → OnOk r Q
then_ok (Ok x) p f = f p
then_ok (Err x) p f = tt

pub then_err : {T E P Q : Type 0} (r : Result T E) → OnErr r P → (P → Q) → OnErr r Q
then_err (Ok x) p f = tt
then_err (Err x) p f = f p

-- three facts of an Ok
pub then_oks : {T E P Q R S : Type 0} (r : Result T E) → OnOk r P → OnOk r Q → OnOk r R → (P → Q → R → S) → OnOk r S
then_oks (Ok x) p q s f = f p q s
then_oks (Err x) p q s f = tt
