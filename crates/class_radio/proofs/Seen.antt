-- What was seen at a moment, and what is written and kept of it.
use Rattle.std.proofs.Common.{◌≡◌, ℕ, suc, ◌+◌, ◌≤◌, ◌<◌, ℤ, Bool, true, false, if◌then◌else◌, nat_lt, ◌==◌, List, [], ◌∷◌, ◌++◌, length, take, refl, ap, sym, ◌∙◌, arith, append_assoc, length-append, append-nil}
use Rattle.std.proofs.lemmas.Bool.Decides.{nat_tests}
use Rattle.std.proofs.Math.Seq.{take-append_seam}
use Rattle.std.proofs.lemmas.List.{take_all}
use Rattle.std.specs.List.{AllByRecursion}
use Rattle.board_world.specs.Observations.{ByteList, Observation, Show, Serial, Pin, Radio}
use Rattle.board_world.specs.Transcript.{line}
use Rattle.class_world.specs.Lines.{board_lead, numbered, numbered_lines, seen_at}
use Rattle.class_world.specs.Hearing.{moment_of, before, sent_at}
use Rattle.class_world.proofs.Laws.{before_split, seen_at_new}
use Rattle.board_run.specs.Advancing.{led_lines, first_sent}

before_short : (u : ℕ) (xs : List Observation) → length (before u xs) ≤ length xs
before_short u [] = omega arith
before_short u (x ∷ xs) = by_test (nat_lt (moment_of x) u) (before_short u xs)
  where
    by_test : (c : Bool) → length (before u xs) ≤ length xs → length (if c then x ∷ before u xs else before u xs) ≤ suc (length xs)
    by_test true h = omega arith
    by_test false h = omega (arith, h)

-- the first of what was all seen before a moment, and the rest
early_first : (u : ℕ) (x : Observation) (xs : List Observation) → before u (x ∷ xs) ≡ x ∷ xs → (nat_lt (moment_of x) u ≡ true) × (before u xs ≡ xs)
early_first u x xs h = by_test (nat_lt (moment_of x) u) refl h
  where
    by_test : (c : Bool) → nat_lt (moment_of x) u ≡ c → (if c then x ∷ before u xs else before u xs) ≡ x ∷ xs → (nat_lt (moment_of x) u ≡ true) × (before u xs ≡ xs)
    by_test true q k = (q, cc)
    by_test false q k = absurd (let short = before_short u xs in let long : length (before u xs) ≡ suc (length xs) = ap length k in omega (arith, short, long))

early_last : (u : ℕ) (xs ys : List Observation) → before u (xs ++ ys) ≡ xs ++ ys → before u ys ≡ ys
early_last u [] ys h = h
early_last u (x ∷ xs) ys h = early_last u xs ys (early_first u x (xs ++ ys) h).1

cancelled : (xs ys : List Observation) → xs ++ ys ≡ xs → ys ≡ []
cancelled xs [] h = refl
cancelled xs (y ∷ ys) h = absurd (let l = length-append xs (y ∷ ys) in let same : length (xs ++ (y ∷ ys)) ≡ length xs = ap length h in omega (arith, l, same))

-- what was seen before the moment behind t, and not before t, was seen at t
all_now : (t : ℕ) (new : List Observation) → before t new ≡ [] → before (t + 1) new ≡ new → AllByRecursion (λ (o : Observation). moment_of o ≡ t) new
all_now t [] h k = tt
all_now t (o ∷ os) h k = by_test (nat_lt (moment_of o) t) refl h (early_first (t + 1) o os k) (λ h' k'. all_now t os h' k')
  where
    by_test : (c : Bool) → nat_lt (moment_of o) t ≡ c → (if c then o ∷ before t os else before t os) ≡ [] → (nat_lt (moment_of o) (t + 1) ≡ true) × (before (t + 1) os ≡ os)
        → (before t os ≡ [] → before (t + 1) os ≡ os → AllByRecursion (λ (x : Observation). moment_of x ≡ t) os) → (moment_of o ≡ t) × AllByRecursion (λ (x : Observation). moment_of x ≡ t) os
    by_test true q h' k' ih = absurd (cc)
    by_test false q h' k' ih = ((let soon : nat_lt (moment_of o) (t + 1) ≡ true = k'.0 in grind (arith, nat_tests)), ih h' k'.1)

pub seen_now : (t : ℕ) (old new : List Observation) → before t old ≡ old → before t (old ++ new) ≡ old → before (t + 1) (old ++ new) ≡ old ++ new → AllByRecursion (λ (o : Observation). moment_of o ≡ t) new
seen_now t old new h k l =
    (let parts : old ++ before t new ≡ old = ap (λ (xs : List Observation). xs ++ before t new) (sym h) ∙ sym (before_split t old new) ∙ k in
    all_now t new (cancelled old (before t new) parts) (early_last (t + 1) old new l))

-- lines with the number before each are numbered lines
pub led_numbered : (b : ℕ) (os : List Observation) → led_lines (board_lead b) os ≡ numbered_lines b os
led_numbered b [] = refl
led_numbered b (o ∷ os) =
    ap (λ (r : ByteList). numbered b (line o) ++ r) (led_numbered b os)

pub led_at : (t b : ℕ) (old new : List Observation) → before t old ≡ old → AllByRecursion (λ (o : Observation). moment_of o ≡ t) new → led_lines (board_lead b) new ≡ seen_at t b (old ++ new)
led_at t b old new h k = led_numbered b new ∙ sym (seen_at_new t b old new h k)

sent_append : (t : ℕ) (xs ys : List Observation) → sent_at t (xs ++ ys) ≡ sent_at t xs ++ sent_at t ys
sent_append t [] ys = refl
sent_append t (Show at frame ∷ xs) ys = sent_append t xs ys
sent_append t (Serial at bytes ∷ xs) ys = sent_append t xs ys
sent_append t (Pin at pin level ∷ xs) ys = sent_append t xs ys
sent_append t (Radio at number ∷ xs) ys =
    elim (at == t) as (λ c. (if c then number ∷ sent_at t (xs ++ ys) else sent_at t (xs ++ ys)) ≡ (if c then number ∷ sent_at t xs else sent_at t xs) ++ sent_at t ys)
    [ true ↦ ap (λ (l : List ℤ). number ∷ l) (sent_append t xs ys) | false ↦ sent_append t xs ys ]

pub none_sent : (t : ℕ) (xs : List Observation) → before t xs ≡ xs → sent_at t xs ≡ []
none_sent t [] h = refl
none_sent t (Show at frame ∷ xs) h = none_sent t xs (early_first t (Show at frame) xs h).1
none_sent t (Serial at bytes ∷ xs) h = none_sent t xs (early_first t (Serial at bytes) xs h).1
none_sent t (Pin at pin level ∷ xs) h = none_sent t xs (early_first t (Pin at pin level) xs h).1
none_sent t (Radio at number ∷ xs) h =
    (let first = early_first t (Radio at number) xs h in
    let soon : nat_lt at t ≡ true = first.0 in
    let other : (at == t) ≡ false = grind (arith, nat_tests) in
    ap (λ (c : Bool). if c then number ∷ sent_at t xs else sent_at t xs) other ∙ none_sent t xs first.1)

-- the first 32 numbers
full_take : (ns : List ℤ) (more : List ℤ) → length ns ≡ 32 → take 32 (ns ++ more) ≡ ns
full_take ns more h = ap (λ (n : ℕ). take n (ns ++ more)) (sym h) ∙ take-append_seam ns more

first_numbers : (t : ℕ) (ns : List ℤ) (os : List Observation) → length ns ≤ 32 → AllByRecursion (λ (o : Observation). moment_of o ≡ t) os → first_sent ns os ≡ take 32 (ns ++ sent_at t os)
first_numbers t ns [] l h = sym (ap (take 32) (append-nil ns) ∙ take_all 32 ns l)
first_numbers t ns (Show at frame ∷ os) l h = first_numbers t ns os l h.1
first_numbers t ns (Serial at bytes ∷ os) l h = first_numbers t ns os l h.1
first_numbers t ns (Pin at pin level ∷ os) l h = first_numbers t ns os l h.1
first_numbers t ns (Radio at number ∷ os) l h =
    (let same : at ≡ t = h.0 in
    let here : (at == t) ≡ true = grind (arith, nat_tests) in
    by_room (nat_lt (length ns) 32) refl (λ ms k. first_numbers t ms os k h.1)
    ∙ ap (λ (c : Bool). take 32 (ns ++ (if c then number ∷ sent_at t os else sent_at t os))) (sym here))
  where
    by_room : (c : Bool) → nat_lt (length ns) 32 ≡ c → ((ms : List ℤ) → length ms ≤ 32 → first_sent ms os ≡ take 32 (ms ++ sent_at t os))
        → first_sent (if c then ns ++ number ∷ [] else ns) os ≡ take 32 (ns ++ (number ∷ sent_at t os))
    by_room true q ih =
        (let less : length ns < 32 = grind (arith, nat_tests) in
        let long = length-append ns (number ∷ []) in
        ih (ns ++ number ∷ []) (omega (arith, less, long)) ∙ ap (take 32) (append_assoc ns (number ∷ []) (sent_at t os)))
    by_room false q ih =
        (let full : length ns ≡ 32 = grind (arith, nat_tests) in
        ih ns l ∙ full_take ns (sent_at t os) full ∙ sym (full_take ns (number ∷ sent_at t os) full))

pub says_first : (t : ℕ) (old new : List Observation) → before t old ≡ old → AllByRecursion (λ (o : Observation). moment_of o ≡ t) new → first_sent [] new ≡ take 32 (sent_at t (old ++ new))
says_first t old new h k =
    first_numbers t [] new (omega arith) k
    ∙ ap (λ (l : List ℤ). take 32 (l ++ sent_at t new)) (sym (none_sent t old h))
    ∙ ap (take 32) (sym (sent_append t old new))
