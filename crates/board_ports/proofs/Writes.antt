-- Bytes that are written one by one.
use Rattle.std.proofs.Common.{◌≡◌, ◌<◌, ◌≤◌, ◌+◌, ◌-◌, ◌^◌, ℕ, zero, suc, min, List, [], ◌∷◌, ◌++◌, length, take, drop, sym, ap, ◌∙◌, arith, get_or, add-one, subst, refl, Bool, true, false, not}
use Rattle.std.specs.Prelude.{Option, Some}
use Rattle.std.specs.Bool.{OnTrue, OnFalse}
use Rattle.std.proofs.Math.Seq.{take-suc}
use Rattle.std.proofs.lemmas.List.{map-append, take-append-drop, length-map}
use Rattle.sts_base.specs.Faults.{Rose, one_more}
use Rattle.board_ports.specs.Account.{Account}
use Rattle.board_ports.specs.Counts.{some_more}
use Rattle.board_ports.specs.Logs.{Logs, LogsFirst, at_moment}
use Rattle.board_ports.specs.Plugged.{SendsAll}

pub logs_nothing : (a : Option (List (ℕ × ℕ))) → Logs a a []
logs_nothing a had e = e ∙ ap Some (sym (append_nothing had))
  where
    append_nothing : (xs : List (ℕ × ℕ)) → xs ++ [] ≡ xs
    append_nothing [] = refl
    append_nothing (x ∷ xs) = ap (λ l. x ∷ l) (append_nothing xs)

-- one byte more
pub one_byte : (now : ℕ) (bytes : List ℕ) (i : ℕ) → i < length bytes → at_moment now (take i bytes) ++ (now, get_or bytes i 0) ∷ [] ≡ at_moment now (take (i + 1) bytes)
one_byte now bytes i within =
    sym (ap (at_moment now) (ap (λ n. take n bytes) (add-one i) ∙ take-suc bytes i 0 within) ∙ map-append (λ byte. (now, byte)) (take i bytes) (get_or bytes i 0 ∷ []))

-- the first bytes are a part of them all
pub first_bytes : (old new : Option (List (ℕ × ℕ))) (now : ℕ) (bytes : List ℕ) (i : ℕ) → Logs old new (at_moment now (take i bytes)) → LogsFirst old new (at_moment now bytes)
first_bytes old new now bytes i l =
    record {
      given = at_moment now (take i bytes);
      in_order = (at_moment now (drop i bytes), sym (map-append (λ byte. (now, byte)) (take i bytes) (drop i bytes)) ∙ ap (at_moment now) (take-append-drop i bytes));
      logged = l;
    }

-- a count that is kept by a saturating addition
pub some_more_is : (n w : ℕ) → w ≤ 2 ^ 64 - 1 → some_more n w ≡ min (w + n) (2 ^ 64 - 1)
some_more_is zero w h = omega (arith, h)
some_more_is (suc n) w h = let e = some_more_is n w h in ap one_more e ∙ omega arith

pub some_more_next : (n w : ℕ) → one_more (some_more n w) ≡ some_more (n + 1) w
some_more_next n w = ap (λ k. some_more k w) (sym (add-one n))

-- a count of one or more is within its type, and then grows
within_type : (n w : ℕ) → some_more (suc n) w ≤ 2 ^ 64 - 1
within_type n w = omega arith

grows : (n d w : ℕ) → some_more (suc n) w ≤ some_more (suc (d + n)) w
grows n zero w = let e : zero + n ≡ n = omega arith in subst (λ k. some_more (suc n) w ≤ some_more (suc k) w) (sym e) (omega arith)
grows n (suc d) w =
    let e : suc d + n ≡ suc (d + n) = omega arith in
    let below : some_more (suc n) w ≤ some_more (suc (d + n)) w = grows n d w in
    let within : some_more (suc (d + n)) w ≤ 2 ^ 64 - 1 = within_type (d + n) w in
    subst (λ k. some_more (suc n) w ≤ some_more (suc k) w) (sym e) (omega (arith, below, within))

-- some of the writes are no more than all of them
pub some_more_of : (n k w : ℕ) → n < k → some_more (n + 1) w ≤ some_more k w
some_more_of n k w h =
    let e : suc ((k - (n + 1)) + n) ≡ k = omega (arith, h) in
    subst (λ j. some_more (n + 1) w ≤ some_more j w) e (subst (λ j. some_more j w ≤ some_more (suc ((k - (n + 1)) + n)) w) (sym (add-one n)) (grows n (k - (n + 1)) w))

-- so many writes and then more
pub some_more_sum : (n m w : ℕ) → some_more (n + m) w ≡ some_more n (some_more m w)
some_more_sum zero m w = let e : zero + m ≡ m = omega arith in ap (λ k. some_more k w) e
some_more_sum (suc n) m w = let e : suc n + m ≡ suc (n + m) = omega arith in ap (λ k. some_more k w) e ∙ ap one_more (some_more_sum n m w)

-- the count rises by no more than the writes
pub some_more_within : (n w : ℕ) → some_more n w ≤ w + n
some_more_within zero w = omega arith
some_more_within (suc n) w = let h : some_more n w ≤ w + n = some_more_within n w in omega (arith, h)

-- what becomes of a place without a mark whose device was written bytes
pub bytes_delivered : {B : Type 0} (account : B → Account) (now : ℕ) (bytes : List ℕ) (old new : B) (place : Option B) (mark took : Bool) → place ≡ Some old → not mark ≡ true
    → OnTrue took (Logs (account old).log (account new).log (at_moment now bytes)) → OnFalse took (LogsFirst (account old).log (account new).log (at_moment now bytes))
    → OnTrue took ((account new).faults ≡ (account old).faults) → (account old).faults ≤ (account new).faults → OnFalse took (Rose (account old).faults (account new).faults)
    → OnTrue took ((account new).writes ≡ some_more (length bytes) (account old).writes) → (account new).writes ≤ some_more (length bytes) (account old).writes
    → SendsAll account (at_moment now bytes) place mark (Some new) (not took)
bytes_delivered {B} account now bytes old new place mark took is unmarked logged first kept later rose once most =
    subst (λ p. SendsAll account (at_moment now bytes) p mark (Some new) (not took)) (sym is) (by_mark mark unmarked)
  where
    many : length (at_moment now bytes) ≡ length bytes
    many = length-map bytes (λ byte. (now, byte))

    within : some_more (length bytes) (account old).writes ≤ (account old).writes + length bytes
    within = some_more_within (length bytes) (account old).writes

    by_answer : (b : Bool) → OnTrue b (Logs (account old).log (account new).log (at_moment now bytes)) → OnFalse b (LogsFirst (account old).log (account new).log (at_moment now bytes))
        → OnTrue b ((account new).faults ≡ (account old).faults) → OnFalse b (Rose (account old).faults (account new).faults)
        → OnTrue b ((account new).writes ≡ some_more (length bytes) (account old).writes)
        → SendsAll account (at_moment now bytes) (Some old) false (Some new) (not b)
    by_answer true l f k r o = record { logged = l; kept = k; once = o ∙ ap (λ n. some_more n (account old).writes) (sym many) }
    by_answer false l f k r o = (
      record { first = f; later = later; rose = r; most = omega (arith, many, within, most) },
      subst (λ n. (account new).writes ≤ some_more n (account old).writes) (sym many) most,
    )

    by_mark : (m : Bool) → not m ≡ true → SendsAll account (at_moment now bytes) (Some old) m (Some new) (not took)
    by_mark false u = by_answer took logged first kept rose once
    by_mark true u = absurd (cc)
