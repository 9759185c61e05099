-- The clock goes on, or the run ends, where nobody can go on and no event is queued.
use Rattle.std.proofs.Common.{◌≡◌, ℕ, zero, suc, ◌+◌, ◌*◌, ◌<◌, ◌≤◌, ◌⊎◌, inl, inr, is_some, get_or, if◌then◌else◌, nat_le, List, [], ◌∷◌, ◌++◌, length, drop, All, Option, Some, None, refl, sym, ap, ◌∙◌, subst, arith}
use Rattle.std.specs.Option.{option_map}
use Rattle.std.proofs.lemmas.List.{append-nil}
use Rattle.board_world.specs.declared.clock.Idle.{Idle}
use Rattle.board_world.specs.declared.clock.Idle.TheVariants.{Jump, Quiet, Script}
use Rattle.board_world.specs.Limits.{end_limit}
use Rattle.board_world.specs.Observations.{Quietly, By_script}
use Rattle.board_world.specs.Rules.{clock_move}
use Rattle.board_world.specs.Board.{IsSoundAct, Board, over, ended_by, arrive_all, next_entry}
use Rattle.board_world.specs.Waiting.{least}
use Rattle.board_world.specs.Activities.{World}
use Rattle.board_world.specs.World.{moved, clock_moves, jump}
use Rattle.board_world.proofs.Laws.{jump_from, jump_soonest, some_due, length_chosen_left}
use Rattle.board_drivers.specs.Buttons.{HasButtons}
use Rattle.bank_model.specs.Fibers.{Fiber, Shared}
use Rattle.bank_model.specs.BoardMachine.{fibers}
use Rattle.message_bus.specs.BusState.{BusState}
use Rattle.fiber_queues.specs.Calls.{due_woken}
use Rattle.fiber_queues.proofs.Laws.{least-keyed}
use Rattle.fiber_runtime.specs.State.{State}
use Rattle.event_script.specs.World.{world_act, world_entries}
use Rattle.event_script.specs.declared.script.Entry.{Entry}
use Rattle.board_ports.specs.Account.{Account}
use Rattle.board_ports.specs.Plugged.{Plugged}
use Rattle.board_ports.specs.History.{FollowsMoves}
use Rattle.board_run.specs.Outside.{Idles}
use Rattle.board_run.specs.declared.end.Stop.{Stop}
use Rattle.board_run.specs.declared.end.Stop.TheVariants.{Quiet as StopQuiet, Script as StopScript}
use Rattle.board_run.specs.declared.engine.Engine.{Engine}
use Rattle.board_run.specs.Shown.{of_key}
use Rattle.board_run.specs.Represents.{BoardState, Represents, IsEmpty, moves_left, state_of, end_of, plain_of}
use Rattle.board_outside.specs.Moves.{Move, HasMet, Meets}
use Rattle.board_run.specs.Run.{ComesTo, Comes}
use Rattle.board_run.specs.Arriving.{acted_on, Arrived}
use Rattle.board_run.proofs.OutsideActs.{arrived}
use Rattle.board_run.proofs.Course.{idles}
use Rattle.board_run.proofs.FiberGoesOn.{IsPlain}
use Rattle.board_outside.proofs.Laws.{met_then, meets_nothing}
use Rattle.board_run.proofs.Raises.{nobody_ready, jumped}

act_at : (es : List Entry) → All (λ e. IsSoundAct e.act) (world_entries es) → (k : ℕ) (d : Entry) → k < length es → IsSoundAct (world_act (get_or es k d).act)
act_at [] h k d l = absurd (omega (arith, l))
act_at (x ∷ es) h zero d l = h zero (record { at = x.at; act = world_act x.act }) (omega arith)
act_at (x ∷ es) h (suc k) d l = act_at es (λ j y m. h (suc j) y (omega (arith, m))) k d (omega (arith, l))

pub acts_of : (es : List Entry) → All (λ e. IsSoundAct e.act) (world_entries es) → All (λ e. IsSoundAct (world_act e.act)) es
acts_of es h = λ k d l. act_at es h k d l

entries_left : (es : List Entry) (n : ℕ) → n ≤ length es → length (world_entries (drop n es)) + n ≡ length es
entries_left [] zero l = refl
entries_left [] (suc n) l = absurd (omega (arith, l))
entries_left (e ∷ es) zero l = (let x = entries_left es zero (omega arith) in omega (arith, x))
entries_left (e ∷ es) (suc n) l = (let x = entries_left es n (omega (arith, l)) in omega (arith, x))

-- what the clock does, by the engine
abbrev pub clock_says : Engine → Idle
clock_says e = clock_move (least e.runtime.lists.sleepers) (next_entry (world_entries (drop e.next e.script.entries))) e.script.end

module _ (e : Engine) (empty : IsEmpty (state_of e)) (going : e.end ≡ None) (quiet : e.bus.queue ≡ []) where
  world_moved : (image : List ℕ) (w : World Fiber Shared) → Represents image (state_of e) w → moved (fibers image) w.board.queue w ≡ clock_moves (clock_says e) w
  world_moved image w h =
      ap (λ l. moved (fibers image) l w) (h.hears.queue ∙ quiet)
      ∙ ap (λ s. clock_moves (clock_move s (next_entry w.board.script) w.board.until) w) (ap least h.sleepers ∙ least-keyed (of_key e.runtime.pool) e.runtime.lists.sleepers)
      ∙ ap (λ (p : Board). clock_moves (clock_move (least e.runtime.lists.sleepers) (next_entry p.script) p.until) w) h.board

  clock_comes : (image : List ℕ) (new : BoardState) (moves : List Move) (move : Idle) → clock_says e ≡ move
      → ((w : World Fiber Shared) → Represents image (state_of e) w → Represents image new (clock_moves move w) × ((clock_moves move w).shared ≡ w.shared) × Meets moves w.board (clock_moves move w).board)
      → ComesTo None image 0 moves (state_of e) new
  clock_comes image new moves move says f =
      idles None image (state_of e) new moves (ap (λ (o : Option Stop). option_map end_of o) going) (λ w h. nobody_ready image (state_of e) w h empty.running empty.raisers empty.spent empty.ready) (λ t e' w h. cc)
      (λ w met h m.
      let x = f w h in
      subst (λ (v : World Fiber Shared). Represents image new v × (v.shared ≡ w.shared) × HasMet (met ++ moves) v.board) (sym (world_moved image w h ∙ ap (λ i. clock_moves i w) says))
      (x.0, x.1, met_then met moves w.board (clock_moves move w).board m x.2))

  pub comes_quiet : clock_says e ≡ Quiet → (image : List ℕ) → ComesTo None image 0 [] (state_of e) (state_of (record e { end = Some StopQuiet }))
  comes_quiet says image =
      clock_comes image (state_of (record e { end = Some StopQuiet })) [] Quiet says
      (λ w h. (arrived image (state_of e) w h (ended_by w.board Quietly) (ended_by (plain_of e) Quietly) e.bus.queue (ap (λ (p : Board). ended_by p Quietly) h.board) refl refl h.hears.queue, refl, meets_nothing w.board (ended_by w.board Quietly) refl refl))

  pub comes_script : clock_says e ≡ Script → (image : List ℕ) → ComesTo None image 0 [] (state_of e) (state_of (record e { clock = e.script.end; end = Some StopScript }))
  comes_script says image =
      clock_comes image (state_of (record e { clock = e.script.end; end = Some StopScript })) [] Script says
      (λ w h. (
        arrived image (state_of e) w h (ended_by (record w.board { clock = w.board.until }) By_script) (ended_by (record (plain_of e) { clock = e.script.end }) By_script) e.bus.queue (ap (λ (p : Board). ended_by (record p { clock = p.until }) By_script) h.board) refl refl h.hears.queue,
        refl,
        meets_nothing w.board (ended_by (record w.board { clock = w.board.until }) By_script) refl refl,
      ))

  pub fewer_ends : (stop : Stop) (clock : ℕ) → moves_left (state_of (record e { clock = clock; end = Some stop })) < moves_left (state_of e)
  fewer_ends stop clock =
      let n : ℕ = length e.bus.queue + 3 * length (world_entries (drop e.next e.script.entries)) + length e.runtime.lists.sleepers in
      let one : ◌≡◌ {A = ℕ} (if over (plain_of e) then 0 else 1) 1 = ap (λ (o : Option Stop). (let x : ℕ = if is_some (option_map end_of o) then 0 else 1 in x)) going in
      let l : n + 0 < n + 1 = omega arith in
      subst (λ k. n + 0 < n + k) (sym one) l

  module _ {B : Type 0} (account : B → Account) (plugged plugged' : Plugged B) (t : ℕ) (says : clock_says e ≡ Jump t) (within : e.next ≤ length e.script.entries) where
    -- the engine at the moment
    abbrev pub at_moment : Engine
    at_moment = record e { clock = t; runtime = record e.runtime { lists = due_woken t e.runtime.lists } }

    module _ (new : Engine) (stays : new ≡ record at_moment { bus = new.bus; buttons = new.buttons; next = new.next }) (a : Arrived account at_moment new plugged plugged') where
      abbrev pub settled : Engine
      settled = record at_moment { bus = new.bus; buttons = new.buttons; next = new.next }

      pub jump_shows : (image : List ℕ) (w : World Fiber Shared) → Represents image (state_of e) w → Represents image (state_of settled) (jump t w) × Meets a.moves w.board (jump t w).board
      jump_shows image w h =
          let now : Board = record w.board { clock = t } in
          let has : HasButtons t e.buttons e.bus now = record { moment = refl; button_a = ap (λ (p : Board). p.a_since) h.board; button_b = ap (λ (p : Board). p.b_since) h.board; events = h.hears.queue } in
          let R : Board = record (acted_on new.bus new.buttons a.moves now) { script = world_entries (drop new.next e.script.entries) } in
          let is : arrive_all t w.board.script now ≡ R = ap (λ l. arrive_all t l now) (ap (λ (p : Board). p.script) h.board) ∙ a.board now has in
          let plain : IsPlain R (plain_of settled) = ap (λ (p : Board). record p { clock = t; queue = new.bus.queue; a_since = new.buttons.a_since; b_since = new.buttons.b_since; unplugged = R.unplugged; script = R.script }) h.board in
          let first = jumped image (state_of e) w h t (plain_of settled) new.bus.queue (subst (λ (x : Board). IsPlain x (plain_of settled)) (sym is) plain) refl refl (ap (λ (x : Board). x.queue) is) in
          let bus : (let x : BusState = record e.bus { queue = new.bus.queue } in x ≡ new.bus) = ap (λ ls. (let x : BusState = record { listeners = ls; queue = new.bus.queue } in x)) (sym a.listeners) in
          let meets : Meets a.moves w.board R = record { seen = sym (append-nil w.board.seen) ∙ ap (λ l. w.board.seen ++ l) (sym a.silent); unplugged = refl } in
          (subst (λ (x : BusState). Represents image (record (state_of settled) { bus = x }) (jump t w)) bus first, subst (λ (x : Board). Meets a.moves w.board x) (sym is) meets)

      pub comes_jump : (image : List ℕ) → ComesTo None image 0 a.moves (state_of e) (state_of new)
      comes_jump image =
          subst (λ (x : Engine). ComesTo None image 0 a.moves (state_of e) (state_of x)) (sym stays)
          (clock_comes image (state_of settled) a.moves (Jump t) says (λ w h. (let x = jump_shows image w h in (x.0, refl, x.1))))

      pub fewer_jump : (new.next ≤ length e.script.entries) → e.next ≤ new.next → length new.bus.queue + 2 * e.next ≤ length e.bus.queue + 2 * new.next
          → (next_entry (world_entries (drop e.next e.script.entries)) ≡ Some t → e.next < new.next) → moves_left (state_of new) < moves_left (state_of e)
      fewer_jump inside later grows applies =
          subst (λ (x : Engine). moves_left (state_of x) < moves_left (state_of e)) (sym stays) (by_cause (jump_from (least e.runtime.lists.sleepers) (next_entry (world_entries (drop e.next e.script.entries))) e.script.end t says))
        where
          by_cause : (least e.runtime.lists.sleepers ≡ Some t) ⊎ (next_entry (world_entries (drop e.next e.script.entries)) ≡ Some t) → moves_left (state_of settled) < moves_left (state_of e)
          by_cause (inl wake) =
              let old_left = entries_left e.script.entries e.next within in
              let new_left = entries_left e.script.entries new.next inside in
              let both = length_chosen_left (λ (wake : ℕ). nat_le wake t) e.runtime.lists.sleepers in
              let some = some_due e.runtime.lists.sleepers t wake in
              omega (arith, old_left, new_left, both, some, later, grows)
          by_cause (inr entry) =
              let old_left = entries_left e.script.entries e.next within in
              let new_left = entries_left e.script.entries new.next inside in
              let both = length_chosen_left (λ (wake : ℕ). nat_le wake t) e.runtime.lists.sleepers in
              let some = applies entry in
              omega (arith, old_left, new_left, both, some, grows)

pub says_so : (e : Engine) (move : Idle) (a b : Option ℕ) → move ≡ clock_move a b e.script.end → a ≡ least e.runtime.lists.sleepers → b ≡ next_entry (world_entries (drop e.next e.script.entries)) → clock_says e ≡ move
says_so e move a b m p q = sym (m ∙ ap (λ x. clock_move x b e.script.end) p ∙ ap (λ x. clock_move (least e.runtime.lists.sleepers) x e.script.end) q)

pub still_idles : {B : Type 0} (account : B → Account) (old new : BoardState) (p : Plugged B) → ((image : List ℕ) → Comes image 0 [] old new) → Idles account old new p p
still_idles account old new p comes = record { moves = []; silent = refl; comes = λ image. comes image None; ports = λ before start f. subst (λ l. FollowsMoves account l start p) (sym (append-nil before)) f }

-- the clock ends the run, and no device is touched
pub ended_idles : {B : Type 0} (account : B → Account) (old new : BoardState) (p : Plugged B) → ((image : List ℕ) → ComesTo None image 0 [] old new) → Idles account old new p p
ended_idles account old new p comes = record { moves = []; silent = refl; comes = comes; ports = λ before start f. subst (λ l. FollowsMoves account l start p) (sym (append-nil before)) f }

pub jump_idles : {B : Type 0} (account : B → Account) (e : Engine) (empty : IsEmpty (state_of e)) (going : e.end ≡ None) (quiet : e.bus.queue ≡ []) (p p' : Plugged B) (t : ℕ) (says : clock_says e ≡ Jump t) (within : e.next ≤ length e.script.entries)
    (r : State) (woke : r ≡ record e.runtime { lists = due_woken t e.runtime.lists }) (new : Engine) → new ≡ record e { clock = t; runtime = r; bus = new.bus; buttons = new.buttons; next = new.next }
    → Arrived account (record e { clock = t; runtime = r }) new p p' → Idles account (state_of e) (state_of new) p p'
jump_idles account e empty going quiet p p' t says within r woke new =
    subst (λ (x : State). new ≡ record e { clock = t; runtime = x; bus = new.bus; buttons = new.buttons; next = new.next } → Arrived account (record e { clock = t; runtime = x }) new p p' → Idles account (state_of e) (state_of new) p p') (sym woke)
    (λ stays a. record { moves = a.moves; silent = a.silent; comes = comes_jump e empty going quiet account p p' t says within new stays a; ports = a.ports })

pub jump_fewer : {B : Type 0} (account : B → Account) (e : Engine) (empty : IsEmpty (state_of e)) (going : e.end ≡ None) (quiet : e.bus.queue ≡ []) (p p' : Plugged B) (t : ℕ) (says : clock_says e ≡ Jump t) (within : e.next ≤ length e.script.entries)
    (r : State) (woke : r ≡ record e.runtime { lists = due_woken t e.runtime.lists }) (new : Engine) → new ≡ record e { clock = t; runtime = r; bus = new.bus; buttons = new.buttons; next = new.next }
    → Arrived account (record e { clock = t; runtime = r }) new p p' → new.next ≤ length e.script.entries → e.next ≤ new.next → length new.bus.queue + 2 * e.next ≤ length e.bus.queue + 2 * new.next
    → (next_entry (world_entries (drop e.next e.script.entries)) ≡ Some t → e.next < new.next) → moves_left (state_of new) < moves_left (state_of e)
jump_fewer account e empty going quiet p p' t says within r woke new =
    subst (λ (x : State). new ≡ record e { clock = t; runtime = x; bus = new.bus; buttons = new.buttons; next = new.next } → Arrived account (record e { clock = t; runtime = x }) new p p' → new.next ≤ length e.script.entries → e.next ≤ new.next
    → length new.bus.queue + 2 * e.next ≤ length e.bus.queue + 2 * new.next → (next_entry (world_entries (drop e.next e.script.entries)) ≡ Some t → e.next < new.next) → moves_left (state_of new) < moves_left (state_of e)) (sym woke)
    (λ stays a. fewer_jump e empty going quiet account p p' t says within new stays a)

pub moment_early : (e : Engine) (t : ℕ) → clock_says e ≡ Jump t → e.script.end ≤ end_limit → t ≤ end_limit
moment_early e t says l = (let s = (jump_soonest (least e.runtime.lists.sleepers) (next_entry (world_entries (drop e.next e.script.entries))) e.script.end t says).2 in omega (arith, s, l))
