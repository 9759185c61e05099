-- What an act between two parts leaves.
use Rattle.std.proofs.Common.{◌≡◌, ℕ, ◌+◌, ◌*◌, ◌≤◌, All, ◌<◌, [], ◌++◌, length, Option, Some, None, is_some, false, refl, sym, ap, ◌∙◌, subst}
use Rattle.std.proofs.lemmas.List.{append-nil}
use Rattle.std.proofs.lemmas.Bool.{false≢true}
use Rattle.thumb_code.specs.Map.{flash_end}
use Rattle.std.specs.Option.{option_map}
use Rattle.board_world.specs.Limits.{end_limit}
use Rattle.board_world.specs.Board.{Board, over, arrive}
use Rattle.board_world.specs.Runs.{acts}
use Rattle.board_drivers.specs.Buttons.{Since, HasButtons}
use Rattle.message_bus.specs.BusState.{BusState}
use Rattle.event_script.specs.Sound.{IsSound}
use Rattle.event_script.specs.World.{world_act}
use Rattle.event_script.specs.declared.script.Act.{Act}
use Rattle.event_script.specs.declared.script.Act.TheVariants.{Down, Up, Raise, Unplug}
use Rattle.board_ports.specs.Account.{Account}
use Rattle.board_ports.specs.Plugged.{Plugged}
use Rattle.board_ports.specs.History.{FollowsMoves}
use Rattle.board_outside.specs.Ports.{port_moves}
use Rattle.board_run.specs.declared.engine.Engine.{Engine}
use Rattle.board_run.specs.Represents.{Represents, state_of, plain_of, end_of}
use Rattle.board_run.specs.Arriving.{unplugs_of, acted_on, Applied}
use Rattle.board_run.specs.Advancing.{IsWhole}
use Rattle.board_run.specs.Outside.{PortsMeet}
use Rattle.board_run.specs.Ran.{MayArrive, Arrives}
use Rattle.board_run.proofs.FiberGoesOn.{IsPlain}
use Rattle.board_run.proofs.OutsideActs.{arrived}

pub none_of : {A : Type 0} (o : Option A) → is_some o ≡ false → o ≡ None
none_of None e = refl
none_of (Some x) e = absurd (false≢true (sym e))

no_unplug : (act : Act) → MayArrive (world_act act) → unplugs_of act ≡ []
no_unplug (Down button) m = refl
no_unplug (Up button) m = refl
no_unplug (Raise event) m = refl
no_unplug (Unplug port) m = absurd m

pub ports_arrived : {B : Type 0} (account : B → Account) (act : Act) (now : ℕ) (since since' : Since) (bus bus' : BusState) (plugged plugged' : Plugged B)
    → MayArrive (world_act act) → Applied account act now since since' bus bus' plugged plugged' → PortsMeet account [] plugged plugged'
ports_arrived account act now since since' bus bus' plugged plugged' m a before start f =
    subst (λ ms. FollowsMoves account (before ++ port_moves ms) start plugged') (no_unplug act m) (a.ports before start f)

pub whole_arrived : (old new : Engine) (n : ℕ) (act : Act) → IsWhole old n → new ≡ record old { bus = new.bus; buttons = new.buttons } → Arrives (world_act act) (state_of old) (state_of new) → IsWhole new n
whole_arrived old new n act w e a =
    let flash : new.runtime.machine.memory.flash ≡ old.runtime.machine.memory.flash = ap (λ (x : Engine). x.runtime.machine.memory.flash) e in
    record {
      shown = record { world = acts (world_act act) w.shown.world; shows = subst (λ i. Represents i (state_of new) (acts (world_act act) w.shown.world)) (sym flash) (a old.runtime.machine.memory.flash w.shown.world w.shown.shows) };
      script = subst (λ (x : Engine). IsSound x.script) (sym e) w.script;
      within = subst (λ (x : Engine). x.next ≤ length x.script.entries) (sym e) w.within;
      early = subst (λ (x : Engine). x.clock ≤ end_limit) (sym e) w.early;
      size = subst (λ f. length f ≤ flash_end) (sym flash) w.size;
      bytes = subst (λ f. All (λ b. b < 256) f) (sym flash) w.bytes;
      spawned = subst (λ (x : Engine). x.counts.spawned ≤ 1 + n) (sym e) w.spawned;
      blocked = subst (λ (x : Engine). x.counts.blocked ≤ n) (sym e) w.blocked;
      words = subst (λ (x : Engine). x.counts.words ≤ 1024 * n) (sym e) w.words;
    }

-- The board shows what the act makes of each world.
pub arrives_now : {B : Type 0} (account : B → Account) (old : Engine) (bus : BusState) (buttons : Since) (act : Act) (plugged plugged' : Plugged B) → MayArrive (world_act act) → old.end ≡ None
    → Applied account act old.clock old.buttons buttons old.bus bus plugged plugged' → Arrives (world_act act) (state_of old) (state_of (record old { bus = bus; buttons = buttons }))
arrives_now account old bus buttons act plugged plugged' m going a image w h =
    let new : Engine = record old { bus = bus; buttons = buttons } in
    let has : HasButtons old.clock old.buttons old.bus w.board = record { moment = ap (λ (p : Board). p.clock) h.board; button_a = ap (λ (p : Board). p.a_since) h.board; button_b = ap (λ (p : Board). p.b_since) h.board; events = h.hears.queue } in
    let is : arrive (world_act act) w.board ≡ record w.board { queue = bus.queue; a_since = buttons.a_since; b_since = buttons.b_since } =
    a.board w.board has ∙ (ap (λ ms. acted_on bus buttons ms w.board) (no_unplug act m) ∙ ap (λ us. record w.board { queue = bus.queue; a_since = buttons.a_since; b_since = buttons.b_since; unplugged = us }) (append-nil w.board.unplugged)) in
    let board : Board = record w.board { queue = bus.queue; a_since = buttons.a_since; b_since = buttons.b_since } in
    let plain : IsPlain board (plain_of new) = ap (λ (p : Board). record p { queue = bus.queue; a_since = buttons.a_since; b_since = buttons.b_since }) h.board in
    let shown : Represents image (record (state_of old) { bus = record old.bus { queue = bus.queue }; plain = plain_of new }) (record w { board = board }) = arrived image (state_of old) w h board (plain_of new) bus.queue plain refl refl refl in
    let same : record old.bus { queue = bus.queue } ≡ bus = ap (λ ls. (let x : BusState = record { listeners = ls; queue = bus.queue } in x)) (sym a.listeners) in
    let open_end : over w.board ≡ false = ap (λ (p : Board). is_some p.end) h.board ∙ ap (λ o. is_some (option_map end_of o)) going in
    let acted : acts (world_act act) w ≡ record w { board = board } = rw open_end (ap (λ b. record w { board = b }) is) in
    subst (Represents image (state_of new)) (sym acted) (subst (λ (x : BusState). Represents image (record (state_of old) { bus = x; plain = plain_of new }) (record w { board = board })) same shown)
