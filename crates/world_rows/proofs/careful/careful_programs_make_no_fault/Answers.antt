use Rattle.std.proofs.Common.{pos, refl, arith}
use Rattle.board_world.proofs.Laws.{never_faults, implements}
use Rattle.world_rows.specs.Clerks.{clerks}
use Rattle.world_rows.specs.Careful.{tellers}
use Rattle.world_rows.proofs.Carefully.{careful, tied, tellers_sound, clerks_do}
use Rattle.world_rows.proofs.careful.careful_programs_make_no_fault.Goals as goal

pub returns-clause-no_fault : goal.returns-clause-no_fault
returns-clause-no_fault c program all until script arrivals rises m = never_faults (tellers program) careful (tellers_sound program all) 0 (pos 0) tt tt until script arrivals rises m

pub returns-clause-implemented : goal.returns-clause-implemented
returns-clause-implemented c program all = implements (tellers program) (clerks program) 1 careful tied (omega arith) (tellers_sound program all) (clerks_do program) 0 0 (pos 0) (pos 0) tt refl tt refl
