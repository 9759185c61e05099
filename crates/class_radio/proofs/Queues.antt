-- A queue takes of the first 32 numbers what it takes of all.
use Rattle.std.proofs.Common.{◌≡◌, ◌≤◌, ℕ, suc, zero, ◌+◌, ℤ, Bool, true, false, ◌||◌, not, ◌&&◌, if◌then◌else◌, nat_lt, ◌==◌, List, [], ◌∷◌, ◌++◌, length, map, take, Option, refl, ap, sym, ◌∙◌, arith, length-append}
use Rattle.std.proofs.lemmas.Bool.Decides.{nat_tests}
use Rattle.board_world.specs.declared.events.Event.{Event}
use Rattle.board_world.specs.Observations.{Observation}
use Rattle.message_bus.specs.BusState.{queued}
use Rattle.class_world.specs.Hearing.{sent_at}
use Rattle.class_world.proofs.Laws.{heard_events, heard_behind}
use Rattle.class_steps.specs.Outlook.{next_with}
use Rattle.board_run.specs.Going.{queued_all}
use Rattle.class_radio.specs.Playing.{heard_event}
use Rattle.class_radio.specs.Hearing.{told_to}

pub queued_append : (xs ys q : List Event) → queued_all (xs ++ ys) q ≡ queued_all ys (queued_all xs q)
queued_append [] ys q = refl
queued_append (x ∷ xs) ys q = queued_append xs ys (queued x q)

pub events_append : (xs ys : List ℤ) → heard_events (xs ++ ys) ≡ heard_events xs ++ heard_events ys
events_append [] ys = refl
events_append (x ∷ xs) ys = ap (λ (es : List Event). heard_event x ∷ es) (events_append xs ys)

full_stays : (es q : List Event) → nat_lt (length q) 32 ≡ false → queued_all es q ≡ q
full_stays [] q h = refl
full_stays (e ∷ es) q h = rw h (full_stays es q h)

-- by how much room is left
first_enough : (s : List ℤ) (n : ℕ) (q : List Event) → 32 ≤ n + length q → queued_all (heard_events (take n s)) q ≡ queued_all (heard_events s) q
first_enough s zero q l = sym (full_stays (heard_events s) q (grind (arith, nat_tests)))
first_enough [] (suc n) q l = refl
first_enough (x ∷ s) (suc n) q l = by_room (nat_lt (length q) 32) refl (λ r k. first_enough s n r k)
  where
    by_room : (c : Bool) → nat_lt (length q) 32 ≡ c → ((r : List Event) → 32 ≤ n + length r → queued_all (heard_events (take n s)) r ≡ queued_all (heard_events s) r)
        → queued_all (heard_events (take n s)) (if c then q ++ heard_event x ∷ [] else q) ≡ queued_all (heard_events s) (if c then q ++ heard_event x ∷ [] else q)
    by_room true e ih = ih (q ++ heard_event x ∷ []) (let k = length-append q (heard_event x ∷ []) in omega (arith, k, l))
    by_room false e ih = ih q (let full : 32 ≤ length q = grind (arith, nat_tests) in omega (arith, full))

next_append : (t : ℕ) (xs ys : List Event) (next : Option ℕ) → next_with t (xs ++ ys) next ≡ next_with t xs (next_with t ys next)
next_append t [] ys next = refl
next_append t (x ∷ xs) ys next = refl

next_first : (t : ℕ) (s : List ℤ) (next : Option ℕ) → next_with t (heard_events (take 32 s)) next ≡ next_with t (heard_events s) next
next_first t [] next = refl
next_first t (x ∷ s) next = refl

module _ (lost : ℕ → ℕ → ℕ → Bool) (t j : ℕ) where
  abbrev Part : ℕ → List ℤ → List ℤ
  Part i ns = if (i == j) || lost t i j then [] else ns

  -- what is told_to of the first 32 of each is as good as all
  pub told_queued : (i : ℕ) (ss : List (List ℤ)) (q : List Event) → queued_all (heard_events (told_to lost t j i (map (take 32) ss))) q ≡ queued_all (heard_events (told_to lost t j i ss)) q
  told_queued i [] q = refl
  told_queued i (s ∷ ss) q =
      ap (λ (es : List Event). queued_all es q) (events_append (Part i (take 32 s)) (told_to lost t j (suc i) (map (take 32) ss)))
      ∙ queued_append (heard_events (Part i (take 32 s))) (heard_events (told_to lost t j (suc i) (map (take 32) ss))) q
      ∙ ap (λ (r : List Event). queued_all (heard_events (told_to lost t j (suc i) (map (take 32) ss))) r) (by_own ((i == j) || lost t i j))
      ∙ told_queued (suc i) ss (queued_all (heard_events (Part i s)) q)
      ∙ sym (queued_append (heard_events (Part i s)) (heard_events (told_to lost t j (suc i) ss)) q)
      ∙ sym (ap (λ (es : List Event). queued_all es q) (events_append (Part i s) (told_to lost t j (suc i) ss)))
    where
      by_own : (c : Bool) → queued_all (heard_events (if c then [] else take 32 s)) q ≡ queued_all (heard_events (if c then [] else s)) q
      by_own true = refl
      by_own false = first_enough s 32 q (omega arith)

  pub told_next : (u i : ℕ) (ss : List (List ℤ)) (next : Option ℕ) → next_with u (heard_events (told_to lost t j i (map (take 32) ss))) next ≡ next_with u (heard_events (told_to lost t j i ss)) next
  told_next u i [] next = refl
  told_next u i (s ∷ ss) next =
      ap (λ (es : List Event). next_with u es next) (events_append (Part i (take 32 s)) (told_to lost t j (suc i) (map (take 32) ss)))
      ∙ next_append u (heard_events (Part i (take 32 s))) (heard_events (told_to lost t j (suc i) (map (take 32) ss))) next
      ∙ ap (next_with u (heard_events (Part i (take 32 s)))) (told_next u (suc i) ss next)
      ∙ by_own ((i == j) || lost t i j) (next_with u (heard_events (told_to lost t j (suc i) ss)) next)
      ∙ sym (next_append u (heard_events (Part i s)) (heard_events (told_to lost t j (suc i) ss)) next)
      ∙ sym (ap (λ (es : List Event). next_with u es next) (events_append (Part i s) (told_to lost t j (suc i) ss)))
    where
      by_own : (c : Bool) (o : Option ℕ) → next_with u (heard_events (if c then [] else take 32 s)) o ≡ next_with u (heard_events (if c then [] else s)) o
      by_own true o = refl
      by_own false o = next_first u s o

  -- what is heard of all others, as events
  pub heard_is_told : (until : ℕ) → nat_lt t until ≡ true → (i : ℕ) (seen : List (List Observation)) → heard_behind lost t until j i seen ≡ heard_events (told_to lost t j i (map (sent_at t) seen))
  heard_is_told until soon i [] = refl
  heard_is_told until soon i (os ∷ rest) =
      ap (λ (c : Bool). (if i == j then [] else (if c && not (lost t i j) then heard_events (sent_at t os) else [])) ++ heard_behind lost t until j (suc i) rest) soon
      ∙ ap (λ (es : List Event). es ++ heard_behind lost t until j (suc i) rest) (by_own (i == j) (lost t i j))
      ∙ ap (λ (es : List Event). heard_events (Part i (sent_at t os)) ++ es) (heard_is_told until soon (suc i) rest)
      ∙ sym (events_append (Part i (sent_at t os)) (told_to lost t j (suc i) (map (sent_at t) rest)))
    where
      by_own : (c d : Bool) → (if c then [] else (if true && not d then heard_events (sent_at t os) else [])) ≡ heard_events (if c || d then [] else sent_at t os)
      by_own true d = refl
      by_own false true = refl
      by_own false false = refl

  -- at the end nothing more is heard
  pub none_heard_at : (until : ℕ) → nat_lt t until ≡ false → (i : ℕ) (seen : List (List Observation)) → heard_behind lost t until j i seen ≡ []
  none_heard_at until late i [] = refl
  none_heard_at until late i (os ∷ rest) =
      ap (λ (c : Bool). (if i == j then [] else (if c && not (lost t i j) then heard_events (sent_at t os) else [])) ++ heard_behind lost t until j (suc i) rest) late
      ∙ ap (λ (es : List Event). es ++ heard_behind lost t until j (suc i) rest) (by_own (i == j))
      ∙ none_heard_at until late (suc i) rest
    where
      by_own : (c : Bool) → (if c then [] else (if false && not (lost t i j) then heard_events (sent_at t os) else [])) ≡ []
      by_own true = refl
      by_own false = refl
