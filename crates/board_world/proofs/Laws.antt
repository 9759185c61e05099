-- The laws that proofs of other crates cite.

-- worlds at rest, and runs one behind the other
pub use Rattle.board_world.proofs.Stays.{if_keeps}
pub use Rattle.board_world.proofs.Stays.{over_stays, busy_stays, run_over, run_sum}
-- idle moves: they settle the world, one may be made first, and where the clock stops
pub use Rattle.board_world.proofs.Settle.{settles, idled_first, jump_from, jump_soonest, some_due}
-- what comes before a moment doesn't hang on the script's entries from then on, and the clock doesn't go back
pub use Rattle.board_world.proofs.Before.{run_then, run_settled}
pub use Rattle.board_world.proofs.Onwards.{first_before, idled_on_to, run_alike, run_on_to}
pub use Rattle.board_world.proofs.Timely.{WakeFrom, IsTimely, On, on_trans, by_clock_over, clock_all, moved_on, idle_on, acted_on, tick_on}
pub use Rattle.board_world.proofs.Settle.{progress, due}
pub use Rattle.board_world.proofs.Timely.{run_timely, run_same, run_settles, later_waits, rises_in_order}
-- lists that are related one by one
pub use Rattle.board_world.proofs.Pairs.{paired_append, paired_length, paired_map, paired_weaken, paired_if, paired_chosen, paired_left, paired_least, paired_some, paired_many, paired_none}
-- those that are chosen of a list, and those that are left
pub use Rattle.board_world.proofs.Pairs.{chosen-append, left-append, length_chosen_left}
-- no answer and no act takes words of the arena
pub use Rattle.board_world.proofs.Lift.{used_answer, used_arrive}
-- simulations: lifted to runs, under arrivals, ending in time
pub use Rattle.board_world.proofs.Arrive.{lifts, lifts_with}
pub use Rattle.board_world.proofs.Whole.{ends_in_time, in_time, implemented_in_time, kept_plainly, PlainlyKept}
-- a run with arrivals: where nothing arrives, by the list of them, and behind its end
pub use Rattle.board_world.proofs.ByList.{run_by_list, applied_by_list, over_by_list, with_list, applied_list, since_list, with_nothing, with_over_later, rises_from, acts_over, list_before, list_behind, applied_first}
-- one behind the other
pub use Rattle.board_world.proofs.Compose.{Way, way_on, way_step}
pub use Rattle.board_world.proofs.Compose.{compose, partial_compose}
-- what every move of the world keeps of the board
pub use Rattle.board_world.proofs.Boards.{kept_run, kept_arrive, ends_soundly, extends_run, extends_arrive}
-- typed activities make no fault, and there a simulation that owes nothing at faults is a whole one
pub use Rattle.board_world.proofs.Sound.{holds, loosened, partial_loosened, starts, never_faults, sound_below, implements, trailing_implements}
-- a panic changes nothing but the end, and below a run it is at a place that belongs to the one above
pub use Rattle.board_world.proofs.Panicking.{run_panics}
pub use Rattle.board_world.proofs.Arrive.{trailing_stands_with}
pub use Rattle.board_world.proofs.Sound.{trailing_sound_panics}
-- simulations that trail behind a turn
pub use Rattle.board_world.proofs.ComposedTrails.{is_complete, partial_trails_by_nothing, partial_trailing_compose}
