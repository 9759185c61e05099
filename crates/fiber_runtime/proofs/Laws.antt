-- The laws that proofs of other crates cite.

-- every move keeps the state sound
pub use Rattle.fiber_runtime.proofs.Sound.{sound_idle, sound_started, sound_suspended, sound_reinstated, sound_named, sound_machine, sound_keyless, sound_blocked, sound_adopted, sound_resumed, sound_ended, sound_spawned, sound_awake, sound_woken}
-- where keys stand
pub use Rattle.fiber_runtime.proofs.Sound.{key_running, once_most, how_often-on, own_key_once, free_key_nowhere, live_waiter, next_fits, NextFits, updates_twice}
-- a fiber on RAM as a record would keep it, and what a step leaves
pub use Rattle.fiber_runtime.proofs.Stack.{no_words, inside_fits}
pub use Rattle.fiber_runtime.proofs.Frame.{step_kept}
-- the fibers of moves
pub use Rattle.fiber_runtime.proofs.Fibers.{same_fiber, fiber_found, placed_begins, resumed_fiber, nested_lower, raisers_same}
-- who copies doesn't matter
pub use Rattle.fiber_runtime.proofs.Switched.{parked_is_blocked, taken_is_resumed}
