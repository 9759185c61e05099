-- The laws that proofs of other crates cite.

-- events that are given for a moment, behind its own entries, and those past a full queue
pub use Rattle.class_world.proofs.Arriving.{kept_arrives}
pub use Rattle.class_world.proofs.Giving.{rising_kept, kept_before, given_early, given_still}
pub use Rattle.class_world.proofs.Onward.{given_so_far, kept_enough}
-- what is heard, moment by moment
pub use Rattle.class_world.proofs.Heard.{heard_events, heard_behind, heard_on, heard_still}
pub use Rattle.class_world.proofs.Scripts.{rising_heard, heard_of_before}
-- runs one behind the other, one that waits for a later moment, and one that ends by the clock
pub use Rattle.class_world.proofs.Kept.{before_sum, rests, waits_on, settled_later}
pub use Rattle.class_world.proofs.Onward.{goes_through, ends_by_clock}
-- while the clock stands, and behind a moment's entries
pub use Rattle.class_world.proofs.Standing.{IsStanding, standing_run, standing_idled, standing_jump, jump_rising, none_before_first}
-- idle moves show nothing, what is seen before a moment was seen early, and from it on late
pub use Rattle.class_world.proofs.Moments.{seen_idle_before, IsEarly, early_run, stopped_for_good, cut_at, passes_on, before_split, end_all, IsWithin, within_run}
pub use Rattle.class_world.proofs.Once.{begins_early, begins_timely, one_seen, one_scripts}
pub use Rattle.class_world.proofs.Later.{on_run, seen_from}
-- boards that were stepped are a class run, and classes end or are cut
pub use Rattle.class_world.proofs.Stepped.{one_passes, stepped_runs}
pub use Rattle.class_world.proofs.On.{all_ended, ends_or_is_cut}
-- a class has one text
pub use Rattle.class_world.proofs.Texts.{one_whole, not_both, one_cut}
-- lines
pub use Rattle.class_world.proofs.Lines.{lines_same, lines_skip, seen_at_new, seen_at_all}
-- a class of boards that implement others is run as far
pub use Rattle.class_world.proofs.Implement.{run_above}
