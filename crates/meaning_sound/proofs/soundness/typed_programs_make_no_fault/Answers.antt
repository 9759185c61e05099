use Rattle.std.proofs.Common.{inl, [], subst}
use Rattle.board_world.specs.Activities.{World}
use Rattle.board_world.specs.Implements.{EndsByNoFault}
use Rattle.board_world.proofs.Laws.{never_faults, with_nothing}
use Rattle.sts_meaning.specs.Heaps.{Heap}
use Rattle.sts_meaning.specs.Frames.{Activity}
use Rattle.sts_meaning.specs.Steps.{source, source_start, empty}
use Rattle.meaning_sound.specs.Kept.{typed}
use Rattle.meaning_sound.proofs.Turns.{source_sound, empty_is}
use Rattle.meaning_sound.proofs.soundness.typed_programs_make_no_fault.Goals as goal

pub returns-clause-under_arrivals : goal.returns-clause-under_arrivals
returns-clause-under_arrivals c = (λ P texts good. never_faults (source P texts) (typed P) (source_sound P good texts) P.main (empty P texts) (inl good.main) (empty_is P good texts))

pub returns-clause-alone : goal.returns-clause-alone
returns-clause-alone c = (λ P texts good until script n. subst (λ (w : World Activity Heap). EndsByNoFault w.board.end) (with_nothing (source P texts) n (source_start P texts until script))
    (never_faults (source P texts) (typed P) (source_sound P good texts) P.main (empty P texts) (inl good.main) (empty_is P good texts) until script [] tt n))
