use Rattle.thumb_switch.proofs.Switches.{blocked_by_routine, block_counts, resumed_by_routine, resume_counts}
use Rattle.thumb_switch.proofs.theorems.the_routine_switches.Goals as goal

pub returns-clause-blocks : goal.returns-clause-blocks
returns-clause-blocks c key now t why h h' old new held size i b = blocked_by_routine key now t why h h' old new held size i b

pub returns-clause-resumes : goal.returns-clause-resumes
returns-clause-resumes c h h' old new held size r = resumed_by_routine h h' old new held size r

pub returns-clause-block_counts : goal.returns-clause-block_counts
returns-clause-block_counts c key now t why h h' old new held size i b = block_counts key now t why h h' old new held size i b

pub returns-clause-resume_counts : goal.returns-clause-resume_counts
returns-clause-resume_counts c h h' old new held size r = resume_counts h h' old new held size r
