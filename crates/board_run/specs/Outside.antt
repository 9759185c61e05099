-- What a call meets outside: a sink, and devices or a board that has them.
use Rattle.std.specs.Prelude.{ℕ, List, Option, ◌≡◌, [], ◌++◌, None}
use Rattle.board_run.specs.declared.board.Board.{Board}
use Rattle.board_ports.specs.Account.{Account}
use Rattle.board_ports.specs.Plugged.{Plugged}
use Rattle.board_ports.specs.History.{PortMove, FollowsMoves}
use Rattle.board_outside.specs.Moves.{Move, seen_of}
use Rattle.board_outside.specs.Ports.{port_moves}
use Rattle.board_run.specs.Represents.{BoardState}
use Rattle.board_run.specs.Run.{ComesTo}

-- A sink, by what it tells that it has taken and how often it has failed, and devices in their places.
pub record Outside (B : Type 0) : Type 0 where
  pub taken : Option (List ℕ)
  pub faults : ℕ
  pub places : List (Option B)

-- A board over such a sink.
pub record OverSink (B : Type 0) : Type 0 where
  pub board : Board B
  pub taken : Option (List ℕ)
  pub faults : ℕ

-- a sink and places, and a board over a sink, where this tells what the sink has taken, and that how often it has failed
abbrev pub outside_of : {S B : Type 0} → (S → Option (List ℕ)) → (S → ℕ) → S → List (Option B) → Outside B
outside_of taken faults sink places = record { taken = taken sink; faults = faults sink; places = places }

abbrev pub over_sink : {S B : Type 0} → (S → Option (List ℕ)) → (S → ℕ) → Board B → S → OverSink B
over_sink taken faults board sink = record { board = board; taken = taken sink; faults = faults sink }

-- the sink that a board is over, and the board's devices
abbrev pub around : {B : Type 0} → OverSink B → Outside B
around b = record { taken = b.taken; faults = b.faults; places = b.board.plugs.places }

-- The devices that were plugged in have met these moves more.
abbrev pub PortsMeet : {B : Type 0} → (B → Account) → List Move → Plugged B → Plugged B → Type 0
PortsMeet {B} account moves plugged plugged' =
    (before : List PortMove) (start : List (Option B)) → FollowsMoves account before start plugged
    → FollowsMoves account (before ++ port_moves moves) start plugged'

-- Idle moves unplug, and show nothing.
pub record Idles {B : Type 0} (account : B → Account) (old new : BoardState)
    (plugged plugged' : Plugged B) : Type 0 where
  pub moves : List Move
  pub silent : seen_of moves ≡ []
  pub comes : (image : List ℕ) → ComesTo None image 0 moves old new
  pub ports : PortsMeet account moves plugged plugged'
