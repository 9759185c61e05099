-- A second small kind of activity: operations at places. It does what lists of requests do, in up to three steps for one.
use Rattle.std.specs.Prelude.{ℕ, zero, suc, ◌+◌, ℤ, pos, List, [], ◌∷◌, ◌++◌, length}
use Rattle.board_world.specs.declared.requests.Request.TheVariants.{Spawn, Listen, WriteNumber, End}
use Rattle.board_world.specs.Kinds.{Kind, Turn, Goes}
use Rattle.board_world.specs.Requests.{Asker, asked}
use Rattle.world_rows.specs.Clerks.{Task, Ask, Tell, Keep, Recall, Become, Routine}

pub data Op : Type 0 where
  Enter : (frame : ℕ) → Op  -- a function begins
  Fetch : Op
  Do : (task : Task) → Op
  Leave : Op

pub record Worker : Type 0 where
  pub place : ℕ
  pub frame : ℕ
  pub answer : ℤ

-- the operation at a place, and Leave behind the last
abbrev pub fetch : List Op → ℕ → Op
fetch [] n = Leave
fetch (o ∷ os) zero = o
fetch (o ∷ os) (suc n) = fetch os n

abbrev pub at_place : ℕ → Worker
at_place place = record { place = place; frame = 0; answer = pos 0 }

abbrev pub on : Worker → Worker
on w = record w { place = suc w.place }

abbrev pub worker_asker : Worker → ℤ → Asker Worker ℤ
worker_asker w shared =
    record {
      text = λ n. n ∷ [];
      glyph = λ byte. byte;
      push = λ array value. Goes (on w) shared;
      above = at_place;
      again = at_place;
      next = λ n. (record w { place = suc w.place; answer = n }, shared);
    }

abbrev pub done : Task → Worker → ℤ → Turn Worker ℤ
done (Ask request) w shared = asked (worker_asker w shared) request
done Tell w shared = asked (worker_asker w shared) (WriteNumber w.answer)
done Keep w shared = Goes (on w) w.answer
done Recall w shared = Goes (record w { place = suc w.place; answer = shared }) shared
done (Become place) w shared = Goes (record w { place = place }) shared

abbrev pub does : Op → Worker → ℤ → Turn Worker ℤ
does (Enter frame) w shared = Goes (record w { place = suc w.place; frame = frame }) shared
does Fetch w shared = Goes (on w) shared
does (Do task) w shared = done task w shared
does Leave w shared = asked (worker_asker w shared) End

abbrev pub workers : List Op → Kind Worker ℤ
workers code = record { begin = at_place; step = λ w shared. does (fetch code w.place) w shared; depth = λ w. w.frame }

-- a task with places for functions
abbrev pub with_places : (ℕ → ℕ) → Task → Task
with_places at (Ask (Spawn f)) = Ask (Spawn (at f))
with_places at (Ask (Listen l)) = Ask (Listen (record l { handler = at l.handler }))
with_places at (Become f) = Become (suc (at f))
with_places at task = task

abbrev pub task_ops : (ℕ → ℕ) → List Task → List Op
task_ops at [] = Leave ∷ []
task_ops at (t ∷ ts) = Fetch ∷ Do (with_places at t) ∷ task_ops at ts

abbrev pub routine_ops : (ℕ → ℕ) → Routine → List Op
routine_ops at r = Enter r.frame ∷ task_ops at r.tasks

-- the functions one behind the other, and one that does nothing
abbrev pub all_ops : (ℕ → ℕ) → List Routine → List Op
all_ops at [] = Enter 0 ∷ Leave ∷ []
all_ops at (r ∷ rs) = routine_ops at r ++ all_ops at rs

abbrev pub address : List Routine → ℕ → ℕ
address [] f = 0
address (r ∷ rs) zero = 0
address (r ∷ rs) (suc f) = length (routine_ops (λ i. i) r) + address rs f

abbrev pub linked : List Routine → List Op
linked program = all_ops (address program) program
