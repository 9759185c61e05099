use Rattle.std.proofs.Common.{add-one, ◌≤◌, List, [], ◌∷◌, arith}
use Rattle.std.specs.Prelude.{IfSome}
use Rattle.board_world.specs.Board.{Entry, next_entry}
use Rattle.board_world.specs.World.{start}
use Rattle.board_world.proofs.Laws.{run_then, run_settled, run_on_to, later_waits, rises_in_order}
use Rattle.board_world.proofs.scripts.later_entries_wait.Goals as goal

from_nought : (es : List Entry) → IfSome (next_entry es) (λ u. 0 ≤ u)
from_nought [] = tt
from_nought (e ∷ es) = omega arith

pub returns-clause-before : goal.returns-clause-before
returns-clause-before g c K t n later w from = run_then K t later from n w

pub returns-clause-whole : goal.returns-clause-whole
returns-clause-whole g c K t n w h = run_settled K t n w h

pub returns-clause-same : goal.returns-clause-same
returns-clause-same g c K main shared until script later t n order from below still =
    later_waits K t later n (start K main shared until script)
    (record { sleepers = tt; script = rises_in_order 0 script (from_nought script) order }) (λ o. omega arith) from still below

pub returns-clause-onwards : goal.returns-clause-onwards
returns-clause-onwards g c K t u n w late h = rw add-one (run_on_to K t u late n w h)
