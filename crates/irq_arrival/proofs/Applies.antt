-- Which arrivals are applied: those up to a moment at which the run isn't over.
use Rattle.std.proofs.Common.{◌≡◌, ℕ, zero, suc, ◌-◌, ◌<◌, ◌≤◌, ◌⊎◌, inl, inr, Bool, true, false, List, [], ◌∷◌, nat_le, nat_lt, Some, slice_get, length, refl, sym, ap, ◌∙◌, subst, arith, ◌&&◌, if◌then◌else◌}
use Rattle.std.specs.Prelude.{not}
use Rattle.std.proofs.lemmas.Bool.{false≢true}
use Rattle.std.proofs.lemmas.Bool.Decides.{nat_tests}
use Rattle.board_world.specs.Board.{over}
use Rattle.board_world.specs.Kinds.{Kind}
use Rattle.board_world.specs.Activities.{World}
use Rattle.board_world.specs.Runs.{Arrival, acts, Rises, run, run_with, board_with, applied}
use Rattle.board_world.proofs.Laws.{run_by_list, applied_by_list, over_by_list, with_list, applied_list, acts_over}

-- the first comes no later than any other
first_of : (left : List Arrival) (x : Arrival) (i : ℕ) (a : Arrival) → Rises x.count left → slice_get (x ∷ left) i ≡ Some a → x.count ≤ a.count
first_of left x zero a r g = (let s : x ≡ a = cc in let e : x.count ≡ a.count = ap (λ (y : Arrival). y.count) s in omega arith)
first_of [] x (suc i) a r g = absurd (cc)
first_of (y ∷ left) x (suc i) a r g = (let h = first_of left y i a r.1 g in let l = r.0 in omega arith)

module _ {A S : Type 0} (K : Kind A S) where
  -- what is over stays so
  stays_over : (left : List Arrival) (n m : ℕ) (w : World A S) → over w.board ≡ true → over (run_by_list K n left m w).board ≡ true
  stays_over left n m w o = ap (λ (v : World A S). over v.board) (over_by_list K n left m w o) ∙ o

  pub applied_until : (left : List Arrival) (n l m i : ℕ) (a : Arrival) (w : World A S) → Rises n left → l ≤ m → over (run_by_list K n left l w).board ≡ false → slice_get left i ≡ Some a → a.count ≤ l → i < length (applied_by_list K n left m w)
  applied_until [] n l m i a w r h o g c = absurd (cc)
  applied_until (x ∷ left) n l m i a w r h o g c =
      let first = first_of left x i a r.1 g in
      let e : nat_le x.count m ≡ true = grind (arith, nat_tests) in
      let f : nat_le x.count l ≡ true = grind (arith, nat_tests) in
      let on : over (run_by_list K x.count left l (acts x.act (run K (x.count - n) w))).board ≡ false = rw f at o in
      let going : over (run K (x.count - n) w).board ≡ false = not_over (over (run K (x.count - n) w).board) refl on in
      by_place i g e going on (λ j k. applied_until left x.count l m j a (acts x.act (run K (x.count - n) w)) r.1 h on k c)
    where
      not_over : (t : Bool) → over (run K (x.count - n) w).board ≡ t → over (run_by_list K x.count left l (acts x.act (run K (x.count - n) w))).board ≡ false → over (run K (x.count - n) w).board ≡ false
      not_over false e on = e
      not_over true e on = absurd (false≢true (sym on ∙ (ap (λ v. over (run_by_list K x.count left l v).board) (acts_over x.act (run K (x.count - n) w) e) ∙ stays_over left x.count l (run K (x.count - n) w) e)))

      head : nat_le x.count m ≡ true → over (run K (x.count - n) w).board ≡ false → applied_by_list K n (x ∷ left) m w ≡ x ∷ applied_by_list K x.count left m (acts x.act (run K (x.count - n) w))
      head e going =
          let rest : List Arrival = applied_by_list K x.count left m (acts x.act (run K (x.count - n) w)) in
          ap (λ t. if t && not (over (run K (x.count - n) w).board) then x ∷ rest else []) e ∙ ap (λ o. if true && not o then x ∷ rest else []) going

      by_place : (i : ℕ) → slice_get (x ∷ left) i ≡ Some a → nat_le x.count m ≡ true → over (run K (x.count - n) w).board ≡ false → over (run_by_list K x.count left l (acts x.act (run K (x.count - n) w))).board ≡ false
          → ((j : ℕ) → slice_get left j ≡ Some a → j < length (applied_by_list K x.count left m (acts x.act (run K (x.count - n) w)))) → i < length (applied_by_list K n (x ∷ left) m w)
      by_place zero g e going on others = (let h = head e going in subst (λ xs. 0 < length xs) (sym h) (omega arith))
      by_place (suc j) g e going on others = (let k = others j g in let h = head e going in subst (λ xs. suc j < length xs) (sym h) (omega arith))

-- Each arrival whose number is below the budget is applied, or the run with those before it is over within that number of steps.
pub all_applied : {A S : Type 0} (K : Kind A S) (arrivals : List Arrival) (budget executed : ℕ) (w : World A S) → Rises 0 arrivals → executed ≤ budget → ((n : ℕ) → n < executed → over (run_with K arrivals n w).board ≡ false)
    → (executed ≡ budget) ⊎ (over (run_with K arrivals executed w).board ≡ true) → (i : ℕ) (a : Arrival) → slice_get arrivals i ≡ Some a → a.count < budget
    → (i < length (applied (board_with K w arrivals) arrivals executed)) ⊎ ((over (run_with K arrivals executed w).board ≡ true) × (executed ≤ a.count))
all_applied {A = A} {S = S} K arrivals budget executed w r l before done i a g c = by_order (nat_lt a.count executed) refl (over (run_with K arrivals executed w).board) refl done
  where
    is_applied : (n : ℕ) → n ≤ executed → over (run_with K arrivals n w).board ≡ false → a.count ≤ n → i < length (applied (board_with K w arrivals) arrivals executed)
    is_applied n k o late =
        (let going : over (run_by_list K 0 arrivals n w).board ≡ false = ap (λ (v : World A S). over v.board) (sym (with_list K n arrivals w r)) ∙ o in
        subst (λ xs. i < length xs) (sym (applied_list K executed arrivals w r)) (applied_until K arrivals 0 n executed i a w r k going g late))

    by_order : (t : Bool) → nat_lt a.count executed ≡ t → (o : Bool) → over (run_with K arrivals executed w).board ≡ o → (executed ≡ budget) ⊎ (over (run_with K arrivals executed w).board ≡ true)
        → (i < length (applied (board_with K w arrivals) arrivals executed)) ⊎ ((over (run_with K arrivals executed w).board ≡ true) × (executed ≤ a.count))
    by_order true e o f d = (let m : a.count < executed = grind (arith, nat_tests) in inl (is_applied a.count (omega arith) (before a.count m) (omega arith)))
    by_order false e true f d = inr (f, grind (arith, nat_tests))
    by_order false e false f (inl d) = inl (is_applied executed (omega arith) f (omega arith))
    by_order false e false f (inr d) = absurd (false≢true (sym f ∙ d))
