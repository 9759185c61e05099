-- The numbers that are left of a set.
use Rattle.std.proofs.Common.{◌≡◌, ℕ, zero, suc, ◌+◌, ◌-◌, ◌/◌, ◌%◌, ◌<◌, ◌≤◌, ◌==◌, true, false, List, [], ◌∷◌, refl, sym, ap, ◌∙◌, arith}
use Rattle.std.proofs.lemmas.Bool.Decides.{nat_tests}
use Rattle.board_world.specs.declared.events.Event.{Event}
use Rattle.board_run.specs.Shown.{PendingDispatch, Takes, left_of}
use Rattle.message_bus.specs.Numbers.{numbers}

one_more : (n : ℕ) → n < 32 → 32 - n ≡ suc (32 - (n + 1))
one_more n l = omega (arith, l)

next_is : (n : ℕ) → suc n ≡ n + 1
next_is n = omega arith

pub left_even : (n bits : ℕ) → n < 32 → bits % 2 ≡ 0 → left_of (n + 1) (bits / 2) ≡ left_of n bits
left_even n bits l e =
    let t : (bits % 2 == 1) ≡ false = grind (arith, nat_tests, e) in
    let step : numbers (suc (32 - (n + 1))) n bits ≡ numbers (32 - (n + 1)) (suc n) (bits / 2) = rw t refl in
    ap (λ k. numbers (32 - (n + 1)) k (bits / 2)) (sym (next_is n)) ∙ sym step ∙ ap (λ j. numbers j n bits) (sym (one_more n l))

pub left_odd : (n bits : ℕ) → n < 32 → bits % 2 ≡ 1 → left_of n bits ≡ n ∷ left_of (n + 1) (bits / 2)
left_odd n bits l e =
    let t : (bits % 2 == 1) ≡ true = grind (arith, nat_tests, e) in
    let step : numbers (suc (32 - (n + 1))) n bits ≡ n ∷ numbers (32 - (n + 1)) (suc n) (bits / 2) = rw t refl in
    ap (λ j. numbers j n bits) (one_more n l) ∙ step ∙ ap (λ k. n ∷ numbers (32 - (n + 1)) k (bits / 2)) (next_is n)

pub left_none : (n bits : ℕ) → 32 ≤ n → left_of n bits ≡ []
left_none n bits l = (let z : 32 - n ≡ zero = omega (arith, l) in ap (λ j. numbers j n bits) z)

pub same_place : (p : PendingDispatch) (e : Event) (l : List ℕ) → p.event ≡ e → p.left ≡ l → p ≡ record { event = e; left = l }
same_place p e l a b = same p.event e p.left l a b
  where
    same : (e e' : Event) (l l' : List ℕ) → e ≡ e' → l ≡ l' → (let x : PendingDispatch = record { event = e; left = l } in let y : PendingDispatch = record { event = e'; left = l' } in x ≡ y)
    same e e' l l' p q = rw (p, q) refl

pub takes_of : (top new : PendingDispatch) (outer was now : List PendingDispatch) (e : Event) (at : ℕ) → (top ∷ outer) ≡ was → now ≡ new ∷ outer → e ≡ top.event → new.event ≡ top.event → top.left ≡ at ∷ new.left → Takes e at was now
takes_of top new outer was now e at v n p q l = record {
  rest = new.left;
  outer = outer;
  was = sym v ∙ ap (λ x. x ∷ outer) (same_place top e _ (sym p) l);
  now = n ∙ ap (λ x. x ∷ outer) (same_place new e _ (q ∙ sym p) refl);
}
