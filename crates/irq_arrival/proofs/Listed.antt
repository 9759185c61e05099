-- Arrivals of a file, one behind the other.
use Rattle.std.proofs.Common.{◌≡◌, ℕ, suc, ◌+◌, ◌<◌, ◌≤◌, List, [], ◌∷◌, length, drop, get_or, true, false, All, ap, ◌∙◌, arith, drop-cons}
use Rattle.std.specs.Prelude.{IsTrue}
use Rattle.std.proofs.lemmas.List.Elements.{All-head, All-tail}
use Rattle.board_world.specs.Runs.{Arrival as WorldArrival, Rises}
use Rattle.event_script.specs.World.{world_act}
use Rattle.event_script.specs.declared.script.Act.{Act}
use Rattle.event_script.specs.declared.script.Act.TheVariants.{Down, Up, Raise, Unplug}
use Rattle.arrival_file.specs.declared.arrival.Arrival.{Arrival}
use Rattle.arrival_file.specs.Form.{may_arrive}
use Rattle.arrival_file.specs.World.{world_arrivals}
use Rattle.board_run.specs.Ran.{MayArrive}
use Rattle.irq_arrival.specs.Along.{AllMay, NoneBefore}

abbrev pub world_arrival : Arrival → WorldArrival
world_arrival a = record { count = a.after; act = world_act a.act }

may : (act : Act) → IsTrue (may_arrive act) → MayArrive (world_act act)
may (Down b) q = tt
may (Up b) q = tt
may (Raise e) q = tt
may (Unplug port) q = absurd (let c : false ≡ true = q in cc)

pub all_may : (xs : List Arrival) → All (λ (a : Arrival). IsTrue (may_arrive a.act)) xs → AllMay (world_arrivals xs)
all_may [] h = tt
all_may (a ∷ rest) h =
    let P : Arrival → Type 0 = λ x. IsTrue (may_arrive x.act) in
    (may a.act (All-head P a rest h), all_may rest (All-tail P a rest h))

pub rises_below : (n m : ℕ) (xs : List WorldArrival) → n ≤ m → Rises m xs → Rises n xs
rises_below n m [] l r = tt
rises_below n m (a ∷ rest) l r = ((let x = r.0 in omega arith), r.1)

pub rises_none : (n : ℕ) (xs : List WorldArrival) → Rises n xs → NoneBefore n xs
rises_none n [] r = tt
rises_none n (a ∷ rest) r = r.0

-- the arrivals that are left begin with the next
pub next_at : (xs : List Arrival) (i : ℕ) (d : Arrival) → i < length xs → world_arrivals (drop i xs) ≡ world_arrival (get_or xs i d) ∷ world_arrivals (drop (i + 1) xs)
next_at xs i d l = ap world_arrivals (drop-cons xs i d l) ∙ ap (λ k. world_arrival (get_or xs i d) ∷ world_arrivals (drop k xs)) (let e : suc i ≡ i + 1 = omega arith in e)
