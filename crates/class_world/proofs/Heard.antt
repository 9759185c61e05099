-- What is heard at the next moment stands behind what was heard before it.
use Rattle.std.proofs.Common.{◌≡◌, ℕ, suc, ◌≤◌, ◌<◌, ℤ, pos, Bool, true, false, not, ◌&&◌, if◌then◌else◌, nat_le, nat_lt, ◌==◌, List, [], ◌∷◌, ◌++◌, map, refl, ap, sym, ◌∙◌, subst, arith}
use Rattle.std.proofs.lemmas.Bool.Decides.{nat_tests}
use Rattle.board_world.specs.declared.events.Event.{Event}
use Rattle.board_world.specs.Observations.{Observation, Show, Serial, Pin, Radio}
use Rattle.board_world.specs.Board.{Entry, Raise}
use Rattle.class_world.specs.Hearing.{before, heard_at, heard, heard_of, inserted, with_heard, raised_at, sent_at, radio_source}
use Rattle.class_world.proofs.Moments.{Each}
use Rattle.class_world.proofs.Scripts.{early, late, late_append, heard_of_early, heard_of_before}
use Rattle.class_world.proofs.Kept.{each_early}

-- the numbers that were sent, as the events that they are for who hears them
abbrev pub heard_events : List ℤ → List Event
heard_events [] = []
heard_events (number ∷ numbers) = record { source = pos radio_source; value = number } ∷ heard_events numbers

-- what board j hears at the moment behind t of all others, whose numbers are from i on
abbrev pub heard_behind : (lost : ℕ → ℕ → ℕ → Bool) → (t until j i : ℕ) → List (List Observation) → List Event
heard_behind lost t until j i [] = []
heard_behind lost t until j i (os ∷ rest) =
    (if i == j then [] else (if nat_lt t until && not (lost t i j) then heard_events (sent_at t os) else []))
    ++ heard_behind lost t until j (suc i) rest

-- entries of different moments are inserted in any order
placed_apart : (x e : Entry) (own : List Entry) → x.at < e.at → inserted x (inserted e own) ≡ inserted e (inserted x own)
placed_apart x e [] l = (let one : nat_le e.at x.at ≡ false = grind (arith, nat_tests) in let two : nat_le x.at e.at ≡ true = grind (arith, nat_tests) in rw (one, two) refl)
placed_apart x e (y ∷ ys) l = by_tests (nat_le y.at e.at) refl (nat_le y.at x.at) refl (placed_apart x e ys l)
  where
    one : nat_le e.at x.at ≡ false
    one = grind (arith, nat_tests)

    two : nat_le x.at e.at ≡ true
    two = grind (arith, nat_tests)

    by_tests : (c : Bool) → nat_le y.at e.at ≡ c → (d : Bool) → nat_le y.at x.at ≡ d → inserted x (inserted e ys) ≡ inserted e (inserted x ys)
        → inserted x (if c then y ∷ inserted e ys else e ∷ (y ∷ ys)) ≡ inserted e (if d then y ∷ inserted x ys else x ∷ (y ∷ ys))
    by_tests true p true q ih = rw (p, q) (ap (λ (l' : List Entry). y ∷ l') ih)
    by_tests true p false q ih = rw (q, two, p) refl
    by_tests false p true q ih = absurd (let a : y.at ≤ x.at = grind (arith, nat_tests) in let b : e.at < y.at = grind (arith, nat_tests) in omega (arith, a, b, l))
    by_tests false p false q ih = rw (one, two, p) refl

placed_past : (t : ℕ) (e : Entry) (xs own : List Entry) → t ≤ e.at → Each (λ x. x.at < t) xs → with_heard xs (inserted e own) ≡ inserted e (with_heard xs own)
placed_past t e [] own l h = refl
placed_past t e (x ∷ xs) own l h = (let first : x.at < t = h.0 in ap (with_heard xs) (placed_apart x e own (omega (arith, first, l))) ∙ placed_past t e xs (inserted x own) l h.1)

-- those before a moment first, and then the others
pub heard_apart : (t : ℕ) (es own : List Entry) → with_heard es own ≡ with_heard (late t es) (with_heard (early t es) own)
heard_apart t [] own = refl
heard_apart t (e ∷ es) own = by_test (nat_lt e.at t) refl (heard_apart t es (inserted e own))
  where
    by_test : (c : Bool) → nat_lt e.at t ≡ c → with_heard es (inserted e own) ≡ with_heard (late t es) (with_heard (early t es) (inserted e own))
        → with_heard es (inserted e own) ≡ with_heard (if c then late t es else e ∷ late t es) (with_heard (if c then e ∷ early t es else early t es) own)
    by_test true q ih = ih
    by_test false q ih = ih ∙ ap (with_heard (late t es)) (placed_past t e (early t es) own (grind (arith, nat_tests)) (each_early t es))

raised_append : (t : ℕ) (xs ys : List Event) → raised_at t (xs ++ ys) ≡ raised_at t xs ++ raised_at t ys
raised_append t [] ys = refl
raised_append t (x ∷ xs) ys = ap (λ (l : List Entry). record { at = t; act = Raise x } ∷ l) (raised_append t xs ys)

-- of what was sent up to t, that is heard behind t which was sent at t
module _ (lost : ℕ → Bool) (until t : ℕ) where
  late_one : (c : Bool) → nat_lt t until && not (lost t) ≡ c → (os : List Observation) → late (suc t) (heard lost (suc t) until os) ≡ raised_at (suc t) (if c then heard_events (sent_at t os) else [])
  late_one true q [] = refl
  late_one false q [] = refl
  late_one c q (Show at frame ∷ os) = late_one c q os
  late_one c q (Serial at bytes ∷ os) = late_one c q os
  late_one c q (Pin at pin level ∷ os) = late_one c q os
  late_one c q (Radio at number ∷ os) = by_at (at == t) refl (late_one c q os)
    where
      H : List Entry
      H = heard lost (suc t) until os

      by_other : (at ≡ t → ⊥) → (d : Bool) → nat_lt at (suc t) && (nat_lt at until && not (lost at)) ≡ d → late (suc t) H ≡ raised_at (suc t) (if c then heard_events (sent_at t os) else [])
          → late (suc t) (if d then heard_at at number ∷ H else H) ≡ raised_at (suc t) (if c then heard_events (sent_at t os) else [])
      by_other n true p ih = (let soon : nat_lt (suc at) (suc t) ≡ true = grind (arith, nat_tests) in rw soon ih)
      by_other n false p ih = ih

      here : (d : Bool) → nat_lt t until && not (lost t) ≡ d → late (suc t) H ≡ raised_at (suc t) (if d then heard_events (sent_at t os) else [])
          → late (suc t) (if nat_lt t (suc t) && (nat_lt t until && not (lost t)) then heard_at t number ∷ H else H) ≡ raised_at (suc t) (if d then heard_events (number ∷ sent_at t os) else [])
      here true p ih =
          (let soon : nat_lt t (suc t) ≡ true = grind (arith, nat_tests) in
          let not_soon : nat_lt (suc t) (suc t) ≡ false = grind (arith, nat_tests) in
          rw (soon, p, not_soon) (ap (λ (l : List Entry). heard_at t number ∷ l) ih))
      here false p ih = (let soon : nat_lt t (suc t) ≡ true = grind (arith, nat_tests) in rw (soon, p) ih)

      by_at : (b : Bool) → (at == t) ≡ b → late (suc t) H ≡ raised_at (suc t) (if c then heard_events (sent_at t os) else [])
          → late (suc t) (if nat_lt at (suc t) && (nat_lt at until && not (lost at)) then heard_at at number ∷ H else H) ≡ raised_at (suc t) (if c then heard_events (if b then number ∷ sent_at t os else sent_at t os) else [])
      by_at true p ih =
          (let same : at ≡ t = grind (arith, nat_tests) in
          subst (λ (x : ℕ). late (suc t) (if nat_lt x (suc t) && (nat_lt x until && not (lost x)) then heard_at x number ∷ H else H) ≡ raised_at (suc t) (if c then heard_events (number ∷ sent_at t os) else [])) (sym same) (here c q ih))
      by_at false p ih = by_other (λ e. (let yes : (at == t) ≡ true = grind (arith, nat_tests) in cc)) (nat_lt at (suc t) && (nat_lt at until && not (lost at))) refl ih

module _ (lost : ℕ → ℕ → ℕ → Bool) (until t : ℕ) where
  late_all : (j i : ℕ) (seen : List (List Observation)) → late (suc t) (heard_of lost (suc t) until j i seen) ≡ raised_at (suc t) (heard_behind lost t until j i seen)
  late_all j i [] = refl
  late_all j i (os ∷ rest) =
      late_append (suc t) (if i == j then [] else heard (λ at. lost at i j) (suc t) until os) (heard_of lost (suc t) until j (suc i) rest)
      ∙ ap (λ (l : List Entry). l ++ late (suc t) (heard_of lost (suc t) until j (suc i) rest)) (by_own (i == j))
      ∙ ap (λ (l : List Entry). raised_at (suc t) Mine ++ l) (late_all j (suc i) rest)
      ∙ sym (raised_append (suc t) Mine (heard_behind lost t until j (suc i) rest))
    where
      Mine : List Event
      Mine = if i == j then [] else (if nat_lt t until && not (lost t i j) then heard_events (sent_at t os) else [])

      by_own : (c : Bool) → late (suc t) (if c then [] else heard (λ at. lost at i j) (suc t) until os) ≡ raised_at (suc t) (if c then [] else (if nat_lt t until && not (lost t i j) then heard_events (sent_at t os) else []))
      by_own true = refl
      by_own false = late_one (λ at. lost at i j) until t (nat_lt t until && not (lost t i j)) refl os

  -- so a script with what is heard up to the moment behind t is the one up to t with the events of that moment
  pub heard_on : (j : ℕ) (seen : List (List Observation)) (own : List Entry)
      → with_heard (heard_of lost (suc t) until j 0 seen) own ≡ with_heard (raised_at (suc t) (heard_behind lost t until j 0 seen)) (with_heard (heard_of lost t until j 0 seen) own)
  heard_on j seen own =
      (let es = heard_of lost (suc t) until j 0 seen in
      let soon : early (suc t) es ≡ heard_of lost t until j 0 seen = heard_of_early lost until t (suc t) (omega arith) j 0 seen ∙ heard_of_before lost until t j 0 seen in
      heard_apart (suc t) es own
      ∙ ap (λ (l : List Entry). with_heard l (with_heard (early (suc t) es) own)) (late_all j 0 seen)
      ∙ ap (λ (l : List Entry). with_heard (raised_at (suc t) (heard_behind lost t until j 0 seen)) (with_heard l own)) soon)

-- where nothing was seen from a moment on, no more is heard up to a later one
module _ (lost : ℕ → Bool) (until a u : ℕ) (later : a ≤ u) where
  heard_short : (os : List Observation) → heard lost u until (before a os) ≡ heard lost a until os
  heard_short [] = refl
  heard_short (Show at frame ∷ os) = by_soon (nat_lt at a) (heard_short os)
    where
      by_soon : (c : Bool) → heard lost u until (before a os) ≡ heard lost a until os → heard lost u until (if c then Show at frame ∷ before a os else before a os) ≡ heard lost a until os
      by_soon true ih = ih
      by_soon false ih = ih
  heard_short (Serial at bytes ∷ os) = by_soon (nat_lt at a) (heard_short os)
    where
      by_soon : (c : Bool) → heard lost u until (before a os) ≡ heard lost a until os → heard lost u until (if c then Serial at bytes ∷ before a os else before a os) ≡ heard lost a until os
      by_soon true ih = ih
      by_soon false ih = ih
  heard_short (Pin at pin level ∷ os) = by_soon (nat_lt at a) (heard_short os)
    where
      by_soon : (c : Bool) → heard lost u until (before a os) ≡ heard lost a until os → heard lost u until (if c then Pin at pin level ∷ before a os else before a os) ≡ heard lost a until os
      by_soon true ih = ih
      by_soon false ih = ih
  heard_short (Radio at number ∷ os) = by_soon (nat_lt at a) refl (heard_short os)
    where
      by_soon : (c : Bool) → nat_lt at a ≡ c → heard lost u until (before a os) ≡ heard lost a until os
          → heard lost u until (if c then Radio at number ∷ before a os else before a os) ≡ (if c && (nat_lt at until && not (lost at)) then heard_at at number ∷ heard lost a until os else heard lost a until os)
      by_soon true p ih =
          (let soon : nat_lt at u ≡ true = (let less : at < a = grind (arith, nat_tests) in grind (arith, nat_tests)) in
          rw soon (ap (λ (l : List Entry). if nat_lt at until && not (lost at) then heard_at at number ∷ l else l) ih))
      by_soon false p ih = ih

module _ (lost : ℕ → ℕ → ℕ → Bool) (until a u : ℕ) (later : a ≤ u) where
  heard_of_short : (j i : ℕ) (seen : List (List Observation)) → heard_of lost u until j i (map (before a) seen) ≡ heard_of lost a until j i seen
  heard_of_short j i [] = refl
  heard_of_short j i (os ∷ rest) =
      ap (λ (l : List Entry). l ++ heard_of lost u until j (suc i) (map (before a) rest)) (by_own (i == j))
      ∙ ap (λ (l : List Entry). (if i == j then [] else heard (λ at. lost at i j) a until os) ++ l) (heard_of_short j (suc i) rest)
    where
      by_own : (c : Bool) → (if c then [] else heard (λ at. lost at i j) u until (before a os)) ≡ (if c then [] else heard (λ at. lost at i j) a until os)
      by_own true = refl
      by_own false = heard_short (λ at. lost at i j) until a u later os

  pub heard_still : (j i : ℕ) (seen : List (List Observation)) → map (before a) seen ≡ seen → heard_of lost u until j i seen ≡ heard_of lost a until j i seen
  heard_still j i seen e = ap (heard_of lost u until j i) (sym e) ∙ heard_of_short j i seen
