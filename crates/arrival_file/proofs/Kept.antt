-- What arrivals that are read keep to.
use Rattle.std.proofs.Common.{◌≡◌, ℕ, ◌≤◌, Bool, true, false, ◌&&◌, ◌||◌, if◌then◌else◌, nat_lt, Option, Some, None, IfSome, Result, Ok, Err, List, [], ◌∷◌, length, All, IsTrue, refl, subst, arith, codes}
use Rattle.std.proofs.lemmas.Bool.Decides.{nat_tests}
use Rattle.std.proofs.lemmas.List.Elements.{All-head, All-weaker}
use Rattle.serde_json.specs.Data.{Data}
use Rattle.board_world.specs.Runs.{Rises}
use Rattle.board_world.specs.Board.{IsSoundAct}
use Rattle.event_script.specs.Order.{falls_by}
use Rattle.event_script.specs.Sound.{HasSmallNumbers}
use Rattle.event_script.specs.Trees.{whole, has_members, only_if, list_of}
use Rattle.event_script.specs.Form.{act_of}
use Rattle.event_script.specs.World.{world_act}
use Rattle.event_script.specs.declared.script.Act.{Act}
use Rattle.event_script.proofs.Laws.{IsFine, only-some, whole-some, act-some, list-some}
use Rattle.arrival_file.specs.declared.arrival.Arrival.{Arrival}
use Rattle.arrival_file.specs.declared.arrival.ArrivalCode.{ArrivalCode}
use Rattle.arrival_file.specs.declared.arrival.ArrivalCode.TheVariants.{OutOfOrder, TooMany}
use Rattle.arrival_file.specs.Limits.{arrival_limit, greatest_after}
use Rattle.arrival_file.specs.Form.{may_arrive, arrival_with, arrival_of, arrivals_of}
use Rattle.arrival_file.specs.Verdict.{falls, judged}
use Rattle.arrival_file.specs.World.{world_arrivals}
use Rattle.arrival_file.specs.Sound.{IsSound, IsWithinForm}

-- what is known of each arrival that is read
pub record IsKept (a : Arrival) : Type 0 where
  pub behind : 1 ≤ a.after
  pub small : a.after ≤ greatest_after
  pub fine : IsFine a.act
  pub arrives : IsTrue (may_arrive a.act)

arrival-with-some : (t : Option ℕ) (act : Option Act) → IfSome t (λ n. n ≤ greatest_after) → IfSome act IsFine → IfSome (arrival_with t act) IsKept
arrival-with-some (Some n) (Some act) p q = by_tests (nat_lt 0 n) (may_arrive act) refl refl
  where
    by_tests : (b c : Bool) → nat_lt 0 n ≡ b → may_arrive act ≡ c → (let a : Arrival = record { after = n; act = act } in IfSome (only_if (b && c) (Some a)) IsKept)
    by_tests true true e f = record { behind = grind (arith, nat_tests); small = p; fine = q; arrives = f }
    by_tests true false e f = tt
    by_tests false c e f = tt
arrival-with-some (Some n) None p q = tt
arrival-with-some None act p q = tt

arrival-some : (d : Data) → IfSome (arrival_of d) IsKept
arrival-some d = arrival-with-some (whole greatest_after (codes "after") d) (act_of d) (whole-some greatest_after (codes "after") d) (act-some d)

arrivals-some : (d : Data) → IfSome (arrivals_of d) (All IsKept)
arrivals-some d = only-some (All IsKept) (has_members 1 d) (list_of arrival_of (codes "arrivals") d) (list-some IsKept arrival_of arrival-some (codes "arrivals") d)

-- a list that doesn't fall
both-false : (a b : Bool) → (a || b) ≡ false → (a ≡ false) × (b ≡ false)
both-false true b e = absurd (cc)
both-false false b e = (refl, e)

rises : (before : ℕ) (xs : List Arrival) → falls_by (λ (a : Arrival). a.after) before xs ≡ false → Rises before (world_arrivals xs)
rises before [] h = tt
rises before (a ∷ xs) h =
    let both = both-false (nat_lt a.after before) (falls_by (λ (b : Arrival). b.after) a.after xs) h in
    let first : before ≤ a.after = (let t = both.0 in grind (arith, nat_tests)) in
    (first, rises a.after xs both.1)

rises-from-one : (xs : List Arrival) → All IsKept xs → falls xs ≡ false → Rises 1 (world_arrivals xs)
rises-from-one [] p h = tt
rises-from-one (a ∷ xs) p h = ((All-head IsKept a xs p).behind, (rises 0 (a ∷ xs) h).1)

abbrev IsRead : List Arrival → Type 0
IsRead xs = IsSound xs × IsWithinForm xs

-- what passes all rules is the list itself, is sound, and keeps to the form
pub judged-sound : (d : Data) (xs ys : List Arrival) → arrivals_of d ≡ Some xs → judged xs ≡ Ok ys → IsRead ys
judged-sound d xs ys form h = by_tests (falls xs) (nat_lt arrival_limit (length xs)) refl refl h
  where
    kept : All IsKept xs
    kept = (let all : IfSome (arrivals_of d) (All IsKept) = arrivals-some d in subst (λ (o : Option (List Arrival)). IfSome o (All IsKept)) form all)

    by_tests : (b c : Bool) → falls xs ≡ b → nat_lt arrival_limit (length xs) ≡ c
        → (let r : Result (List Arrival) ArrivalCode = (if b then Err OutOfOrder else if c then Err TooMany else Ok xs) in r ≡ Ok ys) → IsRead ys
    by_tests true c e f k = absurd (cc)
    by_tests false true e f k = absurd (cc)
    by_tests false false e f k =
        let same : xs ≡ ys = cc in
        subst IsRead same (
          record {
            order = rises-from-one xs kept e;
            acts = All-weaker IsKept (λ a. IsSoundAct (world_act a.act)) (λ a p. p.fine.0) xs kept;
            arrive = All-weaker IsKept (λ a. IsTrue (may_arrive a.act)) (λ a p. p.arrives) xs kept;
          },
          record {
            few = grind (arith, nat_tests);
            small = All-weaker IsKept (λ a. a.after ≤ greatest_after) (λ a p. p.small) xs kept;
            numbers = All-weaker IsKept (λ a. HasSmallNumbers a.act) (λ a p. p.fine.1) xs kept;
          },
        )
