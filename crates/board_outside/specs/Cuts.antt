-- Where the sink stopped a run.
use Rattle.std.specs.Prelude.{◌≡◌, ℕ, List, [], ◌∷◌, ◌++◌, Option, Some}
use Rattle.sts_base.specs.Prefix.{IsPrefix}
use Rattle.board_world.specs.Transcript.{line, lines}
use Rattle.board_outside.specs.Moves.{Move, Seen, Unplugged, seen_of}
use Rattle.board_outside.specs.Ports.{DevicesAfter}
use Rattle.board_ports.specs.Account.{Account}

-- Where a sink told what it had taken, it has taken this whole text and a prefix of the next.
pub record TookInto (old new : Option (List ℕ)) (whole next : List ℕ) : Type 0 where
  pub told : (had : List ℕ) → old ≡ Some had
      → (part : List ℕ) × IsPrefix part next × (new ≡ Some (had ++ (whole ++ part)))

-- This text is due before these moves: the line of the observation that comes first, or what stands behind them all.
abbrev pub IsDue : (behind : List ℕ) → List Move → (text : List ℕ) → Type 0
IsDue behind [] text = text ≡ behind
IsDue behind (Seen o ∷ moves) text = text ≡ line o
IsDue behind (Unplugged port ∷ moves) text = ⊥

-- The sink stopped a run in one place: behind this line that was to come first, the lines of the moves before were taken whole and the text that
-- was due in part, and the devices are as the moves before left them.
pub record Stopped {B : Type 0} (account : B → Account) (lead : List ℕ) (moves : List Move) (behind : List ℕ)
    (taken taken' : Option (List ℕ)) (old new : List (Option B)) : Type 0 where
  pub done : List Move
  pub left : List Move
  pub split : done ++ left ≡ moves
  pub text : List ℕ
  pub due : IsDue behind left text
  pub written : TookInto taken taken' (lead ++ lines (seen_of done)) text
  pub devices : DevicesAfter account done old new
