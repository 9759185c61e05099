-- The laws that proofs of other crates cite.
pub use Rattle.class_steps.proofs.Looking.{at_rest, same_later, waits_longer, hears, seen_early}
pub use Rattle.class_steps.proofs.Ending.{ends_whole, ended_when, closed, closes}
pub use Rattle.class_steps.proofs.Alike.{lines_alike, moment_alike, before_alike}
pub use Rattle.class_steps.proofs.Looking.{next_given}
-- a run that is stopped before a moment isn't ended by the clock
pub use Rattle.class_steps.proofs.Sound.{sound_run}
-- boards that have reached a moment, and a class that is cut in it
pub use Rattle.class_steps.specs.Texts.{Reached}
pub use Rattle.class_steps.proofs.Cutting.{reached, reached_first, runs_to, is_cut, text_is}
-- boards in the midst of a moment begin a text of their class
pub use Rattle.class_steps.proofs.Begins.{begins_text, reached_all, seens_of}
-- where the clock comes to a moment next
pub use Rattle.class_steps.proofs.Clock.{clock_from}
