-- A board that goes on over a sink and devices.
use Rattle.std.specs.Prelude.{◌≡◌, ℕ, ◌+◌, ◌*◌, ◌<◌, ◌≤◌, ◌⊎◌, List, [], ◌∷◌, ◌++◌, length, All, Option, None, IsSome, false, ℤ, nat_lt, if◌then◌else◌}
use Rattle.board_world.specs.Limits.{end_limit}
use Rattle.board_world.specs.Observations.{ByteList, Observation, Radio}
use Rattle.board_world.specs.Transcript.{line}
use Rattle.board_world.specs.Board.{over}
use Rattle.board_world.specs.Activities.{World}
use Rattle.bank_model.specs.Fibers.{Fiber, Shared}
use Rattle.thumb_code.specs.Map.{flash_end}
use Rattle.tool_io.specs.Putting.{Took}
use Rattle.board_ports.specs.Account.{Account}
use Rattle.event_script.specs.Sound.{IsSound}
use Rattle.board_outside.specs.Moves.{Move, Seen, seen_of}
use Rattle.board_outside.specs.Cuts.{TookInto}
use Rattle.board_run.specs.declared.engine.Engine.{Engine}
use Rattle.board_run.specs.Represents.{BoardState, IsShown, state_of, IsEmpty}
use Rattle.board_run.specs.Run.{ComesThrough}
use Rattle.board_run.specs.Outside.{PortsMeet, OverSink}
use Rattle.board_outside.specs.declared.output.Output.{Output}
use Rattle.board_outside.specs.declared.output.Output.TheVariants.{Nothing}
use Rattle.board_run.specs.declared.board.Board.{Board}

-- the lines of what was seen, with this lead before each
abbrev pub led_lines : ByteList → List Observation → ByteList
led_lines lead [] = []
led_lines lead (o ∷ os) = (lead ++ line o) ++ led_lines lead os

-- A way of going on: what holds of the run's world before each instruction, before which moments the run may stop, and what stands before each line.
pub record Way : Type 1 where
  pub before : World Fiber Shared → Type 0
  pub stops : Option ℕ → Type 0
  pub lead : ByteList

-- a run that isn't over before any of its instructions, goes on through all moments, and writes lines as they are
abbrev pub of_run : Way
of_run = record { before = λ w. over w.board ≡ false; stops = λ bound. bound ≡ None; lead = [] }

-- The board comes so many instructions further in such a way, and these moves are met.
abbrev pub ComesBy : Way → List ℕ → ℕ → List Move → BoardState → BoardState → Type 0
ComesBy way image more moves old new =
    (bound : Option ℕ) → way.stops bound → ComesThrough way.before bound image more moves old new

-- It executed so many instructions; the sink took the lines of what they met, and the devices have met it.
pub record Advances {B : Type 0} (account : B → Account) (way : Way) (count : ℕ) (old new : OverSink B) : Type 0 where
  pub moves : List Move
  pub comes : (image : List ℕ) → ComesBy way image count moves (state_of old.board.engine) (state_of new.board.engine)
  pub ports : PortsMeet account moves old.board.plugs new.board.plugs
  pub written : Took old.taken new.taken (led_lines way.lead (seen_of moves))

-- The sink failed in the line of what the last instruction showed, before any word of it was sent.
pub record Fails {B : Type 0} (account : B → Account) (way : Way) (most : ℕ) (old new : OverSink B) : Type 0 where
  pub count : ℕ
  pub within : count ≤ most
  pub done : List Move
  pub last : Observation
  pub at : BoardState
  pub comes : (image : List ℕ) → ComesBy way image count (done ++ Seen last ∷ []) (state_of old.board.engine) at
  pub ports : PortsMeet account done old.board.plugs new.board.plugs
  pub written : TookInto old.taken new.taken (led_lines way.lead (seen_of done)) (way.lead ++ line last)

-- What a board rests on between two calls, n instructions from its start: it shows some world, its script is sound, its clock is within the
-- script, and its counts can't have come near their ends.
pub record IsWhole (e : Engine) (n : ℕ) : Type 0 where
  pub shown : IsShown (state_of e)
  pub script : IsSound e.script
  pub within : e.next ≤ length e.script.entries
  pub early : e.clock ≤ end_limit
  pub size : length e.runtime.machine.memory.flash ≤ flash_end
  pub bytes : All (λ b. b < 256) e.runtime.machine.memory.flash
  pub spawned : e.counts.spawned ≤ 1 + n
  pub blocked : e.counts.blocked ≤ n
  pub words : e.counts.words ≤ 1024 * n

-- Somebody runs, unless the run is over.
abbrev pub IsSettled : Engine → Type 0
IsSettled e = e.end ≡ None → IsSome e.runtime.running

-- A board executed this number of instructions: as many as it might, or the run is over.
pub record HasExecuted {B : Type 0} (account : B → Account) (count most : ℕ) (old new : OverSink B) : Type 0 where
  pub advances : Advances account of_run count old new
  pub within : count ≤ most
  pub done : (count ≡ most) ⊎ IsSome new.board.engine.end
  pub counted : new.board.instructions ≡ old.board.instructions + count

-- the numbers that were sent by radio behind these: as long as there are fewer than 32 they are kept
abbrev pub first_sent : List ℤ → List Observation → List ℤ
first_sent numbers [] = numbers
first_sent numbers (Radio at number ∷ os) =
    first_sent (if nat_lt (length numbers) 32 then numbers ++ number ∷ [] else numbers) os
first_sent numbers (_ ∷ os) = first_sent numbers os

-- what is put before the line of what an instruction showed
abbrev pub lead_before : ByteList → Output → ByteList
lead_before lead Nothing = []
lead_before lead _ = lead

-- The run isn't over, and somebody is ready.
abbrev pub IsBusy : World Fiber Shared → Type 0
IsBusy w = (over w.board ≡ false) × (0 < length w.ready)

-- Within a moment somebody is ready before each instruction, the run may stop before any moment, for no idle move of the clock is made, and
-- each line has this lead.
abbrev pub of_moment : ByteList → Way
of_moment lead = record { before = IsBusy; stops = λ bound. Unit {0}; lead = lead }

-- The board came so many instructions further while the clock stood, and the first numbers that were sent are kept.
pub record Proceeds {B : Type 0} (account : B → Account) (lead : ByteList) (count : ℕ)
    (old new : OverSink B) : Type 0 where
  pub advances : Advances account (of_moment lead) count old new
  pub sent : new.board.sent ≡ first_sent old.board.sent (seen_of advances.moves)

-- Somebody runs, or nobody is left to go on and no event is queued; or the run is over.
abbrev pub IsStayed : Engine → Type 0
IsStayed e = e.end ≡ None → IsSome e.runtime.running ⊎ (IsEmpty (state_of e) × (e.bus.queue ≡ []))

-- The clock stands, no entry is applied, and the kept events stay.
pub record Stands {B : Type 0} (old new : Board B) : Type 0 where
  pub kept : new.kept ≡ old.kept
  pub clock : new.engine.clock ≡ old.engine.clock
  pub script : new.engine.script ≡ old.engine.script
  pub next : new.engine.next ≡ old.engine.next

-- A board made this number of instructions: as many as it might, or nobody is left to go on now.
pub record HasProceeded {B : Type 0} (account : B → Account) (lead : ByteList) (count most : ℕ)
    (old new : OverSink B) : Type 0 where
  pub proceeds : Proceeds account lead count old new
  pub within : count ≤ most
  pub done : (count ≡ most) ⊎ (new.board.engine.runtime.running ≡ None ⊎ IsSome new.board.engine.end)
  pub counted : new.board.instructions ≡ old.board.instructions + count
  pub stands : Stands old.board new.board
