-- A board that was just mounted shows the bank machine as a run begins.
use Rattle.std.proofs.Common.{◌≡◌, ℕ, inl, inr, List, [], ◌∷◌, length, All, drop, Option, Some, None, is_some, false, refl, sym, ap, ◌∙◌, subst, arith, ◌<◌, ◌≤◌}
use Rattle.std.proofs.lemmas.Bool.{cases_eq}
use Rattle.slab.specs.Slab.{Slab, get, slab_len}
use Rattle.thumb_code.specs.Machine.{State as Machine, reset, base_of, main_of}
use Rattle.thumb_code.specs.Map.{flash_end}
use Rattle.board_world.specs.Board.{Entry, start_board}
use Rattle.bank_model.specs.BoardMachine.{bank_start}
use Rattle.board_drivers.specs.Buttons.{Since, all_up}
use Rattle.message_bus.specs.BusState.{BusState}
use Rattle.event_script.specs.World.{world_entries}
use Rattle.event_script.specs.Sound.{IsSound}
use Rattle.event_script.specs.declared.script.Entry.{Entry as ScriptEntry}
use Rattle.event_script.specs.declared.script.Script.{Script}
use Rattle.fiber_pool.specs.Kept.{Kept}
use Rattle.fiber_runtime.specs.State.{State, ReachesBase}
use Rattle.thumb_code.specs.Arithmetic.{bit_of}
use Rattle.fiber_queues.specs.Keys.{how_often}
use Rattle.fiber_runtime.specs.Moves.{HasMain, fresh}
use Rattle.fiber_queues.proofs.Laws.{how_often-same, how_often-other}
use Rattle.board_run.specs.declared.engine.Engine.{Engine}
use Rattle.board_run.specs.Shown.{PendingDispatch, at_first}
use Rattle.board_run.specs.Represents.{BoardState, Represents, state_of}
use Rattle.board_run.specs.Ran.{IsMounted}
use Rattle.board_run.proofs.Standing.{key_is}

abbrev mounted : List ℕ → ℕ → List Entry → State → BoardState
mounted image until script s = record { runtime = s; bus = record { listeners = []; queue = [] }; places = at_first; plain = start_board until script }

abbrev with_main : List ℕ → Slab Kept → ℕ → State
with_main image pool key = record { machine = reset image; running = None; raisers = []; pool = pool; lists = record { ready = key ∷ []; sleepers = []; waiters = [] } }

mounts_main : (image : List ℕ) (until : ℕ) (script : List Entry) (pool : Slab Kept) (key : ℕ) (free : List ℕ) → get pool key ≡ Some (fresh image (base_of image) (main_of image))
    → ((other : ℕ) → (other ≡ key → ⊥) → get pool other ≡ None) → slab_len pool ≡ 1 → Represents image (mounted image until script (with_main image pool key)) (bank_start image until script free)
mounts_main image until script pool key free main others live = record {
  sound = record {
    each = λ other. elim (cases_eq other key) [
      | inl same ↦ (let one : how_often other (key ∷ []) ≡ 1 = subst (λ o. how_often o (key ∷ []) ≡ 1) (sym same) (how_often-same key) in
          let now : bit_of (is_some (get pool other)) ≡ 1 = ap (λ o. bit_of (is_some (get pool o))) same ∙ ap (λ x. bit_of (is_some x)) main in omega (arith, one, now))
      | inr differs ↦ (let zero' = how_often-other other key (λ q. differs (sym q)) in
          let now : bit_of (is_some (get pool other)) ≡ 0 = ap (λ x. bit_of (is_some x)) (others other differs) in omega (arith, zero', now))
    ];
    count = omega (arith, live);
    most = omega (arith, live);
    fits = λ other k f. elim (cases_eq other key) [
      | inl same ↦ inr (let g : Some (fresh image (base_of image) (main_of image)) ≡ Some k = sym main ∙ ap (get pool) (sym same) ∙ f in
          let q : fresh image (base_of image) (main_of image) ≡ k = cc in subst ReachesBase q (record { span = omega arith; inside = λ some. absurd (omega (arith, some)) }))
      | inr differs ↦ absurd (let g : ◌≡◌ {A = Option Kept} None (Some k) = sym (others other differs) ∙ f in cc)
    ];
    suspended = omega arith;
  };
  stands = tt;
  runner = tt;
  nested = tt;
  stack = refl;
  places = tt;
  flash = refl;
  globals = refl;
  arena = refl;
  used = refl;
  board = refl;
  seats = omega (arith, live);
  hears = record { listeners = refl; queue = refl; alive = λ i. refl };
  mark = false;
  ready = ap (λ x. x ∷ []) (sym (key_is pool key _ main));
  sleepers = refl;
  waiters = refl;
}

mounts : (image : List ℕ) (until : ℕ) (script : List Entry) (s : State) (free : List ℕ) → HasMain (reset image) s → Represents image (mounted image until script s) (bank_start image until script free)
mounts image until script s free m =
    subst (λ (x : State). Represents image (mounted image until script x) (bank_start image until script free)) (sym m.rest) (mounts_main image until script s.pool m.key free m.main m.others m.live)

drop_nothing : (es : List ScriptEntry) → drop 0 es ≡ es
drop_nothing [] = refl
drop_nothing (e ∷ es) = refl

-- an engine of fresh parts
abbrev fresh_from : State → ℕ → Script → Engine
fresh_from s switch script = record {
  runtime = s;
  switch = switch;
  bus = record { listeners = []; queue = [] };
  places = at_first;
  buttons = all_up;
  display = 0;
  arena = 0;
  script = script;
  next = 0;
  clock = 0;
  counts = record { spawned = 1; blocked = 0; words = 0; most = 1 };
  end = None;
}

state_is : (image : List ℕ) (s : State) (switch : ℕ) (script : Script) → HasMain (reset image) s → state_of (fresh_from s switch script) ≡ mounted image script.end (world_entries script.entries) s
state_is image s switch script m =
    let seats : slab_len s.pool ≡ 1 = m.live in
    let rest : world_entries (drop 0 script.entries) ≡ world_entries script.entries = ap world_entries (drop_nothing script.entries) in
    rw (seats, rest) refl

is_mounted : (image : List ℕ) (script : Script) (switch : ℕ) (s : State) → HasMain (reset image) s → IsSound script → length image ≤ flash_end → All (λ b. b < 256) image → IsMounted image script (fresh_from s switch script)
is_mounted image script switch s m sound size bytes =
    let at = state_is image s switch script m in
    let shows : (free : List ℕ) → Represents image (state_of (fresh_from s switch script)) (bank_start image script.end (world_entries script.entries) free) =
    λ free. subst (λ (b : BoardState). Represents image b (bank_start image script.end (world_entries script.entries) free)) (sym at) (mounts image script.end (world_entries script.entries) s free m) in
    let flash : s.machine.memory.flash ≡ image = (shows []).flash in
    record {
      whole = record {
        shown = record { world = bank_start image script.end (world_entries script.entries) []; shows = subst (λ i. Represents i (state_of (fresh_from s switch script)) (bank_start image script.end (world_entries script.entries) [])) (sym flash) (shows []) };
        script = sound;
        within = omega arith;
        early = omega arith;
        size = subst (λ l. length l ≤ flash_end) (sym flash) size;
        bytes = subst (λ l. All (λ b. b < 256) l) (sym flash) bytes;
        spawned = omega arith;
        blocked = omega arith;
        words = omega arith;
      };
      begins = shows;
    }

pub mounted_as : (image : List ℕ) (script : Script) (machine : Machine) (s : State) (switch : ℕ) (bus : BusState) (places : List PendingDispatch) (buttons : Since) (display arena : ℕ) → machine ≡ reset image → HasMain machine s
    → (let none : BusState = record { listeners = []; queue = [] } in bus ≡ none) → places ≡ at_first → buttons ≡ all_up → display ≡ 0 → arena ≡ 0 → IsSound script → length image ≤ flash_end → All (λ b. b < 256) image
    → IsMounted image script (record { runtime = s; switch = switch; bus = bus; places = places; buttons = buttons; display = display; arena = arena; script = script; next = 0; clock = 0; counts = record { spawned = 1; blocked = 0; words = 0; most = 1 }; end = None })
mounted_as image script machine s switch bus places buttons display arena mi m b p u d a sound size bytes =
    let x = is_mounted image script switch s (subst (λ (k : Machine). HasMain k s) mi m) sound size bytes in
    rw (b, p, u, d, a) x
