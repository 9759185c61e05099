-- Lists of requests in which it is a fault to tell an answer before there is one: a kind of activity that makes faults, and when it doesn't.
use Rattle.std.specs.Prelude.{ℤ, Bool, true, false, if◌then◌else◌, List, [], ◌∷◌, IsTrue}
use Rattle.board_world.specs.Kinds.{Kind, Turn, Goes, Asks, Takes, Pauses, Waits, Spawns, Listens, RaisesNow, Ends, Panics, Faults}
use Rattle.world_rows.specs.Clerks.{Task, Ask, Tell, Keep, Recall, Become, Routine, routine_of, begun, Clerk, turn_of}

pub record Teller : Type 0 where
  pub clerk : Clerk
  pub known : Bool  -- whether there is an answer

abbrev pub teller : Bool → Clerk → Teller
teller known c = record { clerk = c; known = known }

-- whether there is an answer behind a task
abbrev pub known_after : Bool → Task → Bool
known_after known (Ask request) = true
known_after known Tell = known
known_after known Keep = known
known_after known Recall = true
known_after known (Become f) = known

-- the clerk's turn, behind which there is an answer or none
abbrev pub told : Bool → Turn Clerk ℤ → Turn Teller ℤ
told known (Goes c s) = Goes (teller known c) s
told known (Asks q f) = Asks q (λ n. (teller known (f n).0, (f n).1))
told known (Takes n f) = Takes n (λ at. (teller known (f at).0, (f at).1))
told known (Pauses n c s) = Pauses n (teller known c) s
told known (Waits e c s) = Waits e (teller known c) s
told known (Spawns f c s) = Spawns f (teller known c) s
told known (Listens l c s) = Listens l (teller known c) s
told known (RaisesNow e f c s) = RaisesNow e (λ g. teller false (f g)) (teller known c) s
told known (Ends f s) = Ends (λ g. teller false (f g)) s
told known (Panics code) = Panics code
told known (Faults kind address) = Faults kind address

-- to tell where there is no answer is a fault
abbrev pub teller_turn : List Routine → List Task → Teller → ℤ → Turn Teller ℤ
teller_turn program [] c s = told c.known (turn_of program [] c.clerk s)
teller_turn program (Tell ∷ rest) c s =
    if c.known then told c.known (turn_of program (Tell ∷ rest) c.clerk s) else Faults 0 0
teller_turn program (task ∷ rest) c s = told (known_after c.known task) (turn_of program (task ∷ rest) c.clerk s)

abbrev pub tellers : List Routine → Kind Teller ℤ
tellers program =
    record {
      begin = λ f. teller false (begun (routine_of program f));
      step = λ c s. teller_turn program c.clerk.tasks c s;
      depth = λ c. c.clerk.frame;
    }

-- nothing is told before there is an answer
abbrev pub IsCareful : Bool → List Task → Type 0
IsCareful known [] = Unit {0}
IsCareful known (Ask request ∷ rest) = IsCareful true rest
IsCareful known (Tell ∷ rest) = IsTrue known × IsCareful known rest
IsCareful known (Keep ∷ rest) = IsCareful known rest
IsCareful known (Recall ∷ rest) = IsCareful true rest
IsCareful known (Become f ∷ rest) = IsCareful known rest

-- nowhere in a program
abbrev pub AreCareful : List Routine → Type 0
AreCareful [] = Unit {0}
AreCareful (r ∷ rs) = IsCareful false r.tasks × AreCareful rs
