-- Those who pass a test: the first of them, and the list without the first.
use Rattle.std.proofs.Common.{◌≡◌, ℕ, ◌+◌, ◌<◌, ◌↔◌, Bool, true, false, IsTrue, if◌then◌else◌, Option, Some, None, List, [], ◌∷◌, ◌++◌, length, take, drop, get_or, refl, sym, ap, subst, ◌∙◌, append_assoc}
use Rattle.std.proofs.lemmas.List.{append-nil, take_more, take-append-drop, drop_more}
use Rattle.std.specs.Option.{option_to_list}
use Rattle.board_world.specs.Waiting.{chosen, left}
use Rattle.board_world.proofs.Laws.{chosen-append}
use Rattle.fiber_queues.specs.Lists.{IsFirst, first_chosen, without_first}

module _ {X Y : Type 0} (test : X → Bool) where
  -- the first who passes, and those who pass without it, are those who pass
  pub chosen-split : (xs : List (X × Y)) → chosen test xs ≡ option_to_list (first_chosen test xs) ++ chosen test (without_first test xs)
  chosen-split [] = refl
  chosen-split (p ∷ ps) = by_test (test p.0) refl (chosen-split ps)
    where
      by_test : (b : Bool) → test p.0 ≡ b → chosen test ps ≡ option_to_list (first_chosen test ps) ++ chosen test (without_first test ps)
          → (if b then p.1 ∷ chosen test ps else chosen test ps) ≡ option_to_list (if b then Some p.1 else first_chosen test ps) ++ chosen test (if b then ps else p ∷ without_first test ps)
      by_test true e h = refl
      by_test false e h = rw e h

  -- and who doesn't pass is left
  pub left-without_first : (xs : List (X × Y)) → left test (without_first test xs) ≡ left test xs
  left-without_first [] = refl
  left-without_first (p ∷ ps) = by_test (test p.0) refl (left-without_first ps)
    where
      by_test : (b : Bool) → test p.0 ≡ b → left test (without_first test ps) ≡ left test ps
          → left test (if b then ps else p ∷ without_first test ps) ≡ (if b then left test ps else p ∷ left test ps)
      by_test true e h = refl
      by_test false e h = rw e (ap (λ l. p ∷ l) h)

  -- where none passes, there is no first one, and all are left
  pub first-none : (xs : List (X × Y)) → chosen test xs ≡ [] → first_chosen test xs ≡ None
  first-none xs h = by_first (first_chosen test xs) (sym (chosen-split xs) ∙ h)
    where
      by_first : (o : Option Y) → option_to_list o ++ chosen test (without_first test xs) ≡ [] → o ≡ None
      by_first None e = refl
      by_first (Some y) e = absurd (cc)

  pub none-chosen : (xs : List (X × Y)) → first_chosen test xs ≡ None → chosen test xs ≡ []
  none-chosen [] h = refl
  none-chosen (p ∷ ps) h = by_test (test p.0) h (none-chosen ps)
    where
      by_test : (b : Bool) → (if b then Some p.1 else first_chosen test ps) ≡ None → (first_chosen test ps ≡ None → chosen test ps ≡ [])
          → (if b then p.1 ∷ chosen test ps else chosen test ps) ≡ []
      by_test true e k = absurd (cc)
      by_test false e k = k e

  pub first-iff : (xs : List (X × Y)) → (first_chosen test xs ≡ None) ↔ (chosen test xs ≡ [])
  first-iff xs = (none-chosen xs, first-none xs)

  pub without-all : (xs : List (X × Y)) → chosen test xs ≡ [] → without_first test xs ≡ xs
  without-all [] h = refl
  without-all (p ∷ ps) h = by_test (test p.0) h (without-all ps)
    where
      by_test : (b : Bool) → (if b then p.1 ∷ chosen test ps else chosen test ps) ≡ [] → (chosen test ps ≡ [] → without_first test ps ≡ ps)
          → (if b then ps else p ∷ without_first test ps) ≡ p ∷ ps
      by_test true e k = absurd (cc)
      by_test false e k = ap (λ l. p ∷ l) (k e)

  pub left-all : (xs : List (X × Y)) → chosen test xs ≡ [] → left test xs ≡ xs
  left-all [] h = refl
  left-all (p ∷ ps) h = by_test (test p.0) h (left-all ps)
    where
      by_test : (b : Bool) → (if b then p.1 ∷ chosen test ps else chosen test ps) ≡ [] → (chosen test ps ≡ [] → left test ps ≡ ps)
          → (if b then left test ps else p ∷ left test ps) ≡ p ∷ ps
      by_test true e k = absurd (cc)
      by_test false e k = ap (λ l. p ∷ l) (k e)

  -- the first who passes stands behind those before it, of whom none does
  pub first-behind : (xs ys : List (X × Y)) (p : X × Y) → chosen test xs ≡ [] → IsTrue (test p.0) → first_chosen test (xs ++ p ∷ ys) ≡ Some p.1
  first-behind [] ys p h k = rw k refl
  first-behind (x ∷ xs) ys p h k = by_test (test x.0) h (λ e. first-behind xs ys p e k)
    where
      by_test : (b : Bool) → (if b then x.1 ∷ chosen test xs else chosen test xs) ≡ [] → (chosen test xs ≡ [] → first_chosen test (xs ++ p ∷ ys) ≡ Some p.1)
          → (if b then Some x.1 else first_chosen test (xs ++ p ∷ ys)) ≡ Some p.1
      by_test true e f = absurd (cc)
      by_test false e f = f e

  pub without-behind : (xs ys : List (X × Y)) (p : X × Y) → chosen test xs ≡ [] → IsTrue (test p.0) → without_first test (xs ++ p ∷ ys) ≡ xs ++ ys
  without-behind [] ys p h k = rw k refl
  without-behind (x ∷ xs) ys p h k = by_test (test x.0) h (λ e. without-behind xs ys p e k)
    where
      by_test : (b : Bool) → (if b then x.1 ∷ chosen test xs else chosen test xs) ≡ [] → (chosen test xs ≡ [] → without_first test (xs ++ p ∷ ys) ≡ xs ++ ys)
          → (if b then xs ++ p ∷ ys else x ∷ without_first test (xs ++ p ∷ ys)) ≡ x ∷ (xs ++ ys)
      by_test true e f = absurd (cc)
      by_test false e f = ap (λ l. x ∷ l) (f e)

  whole : (xs : List (X × Y)) (at : ℕ) (d : X × Y) → at < length xs → xs ≡ take at xs ++ get_or xs at d ∷ drop (at + 1) xs
  whole xs at d h = sym (take-append-drop at xs) ∙ ap (λ l. take at xs ++ l) (drop_more xs at d h)

  -- one more who doesn't pass
  pub chosen-none_more : (xs : List (X × Y)) (at : ℕ) (d : X × Y) → at < length xs → chosen test (take at xs) ≡ [] → test (get_or xs at d).0 ≡ false → chosen test (take (at + 1) xs) ≡ []
  chosen-none_more xs at d h k n = ap (chosen test) (take_more xs at d h) ∙ chosen-append test (take at xs) (get_or xs at d ∷ []) ∙ rw (k, n) refl

module _ {X : Type 0} (test : X → Bool) where
  -- the first who passes is at that place, and the list without it is what is before and behind
  pub first-at : (ys xs : List (X × ℕ)) (at : ℕ) (d : X × ℕ) → IsFirst test ys at → ys ≡ xs → d ≡ get_or xs at d → first_chosen test xs ≡ Some d.1
  first-at ys xs at d f s k =
      let g : IsFirst test xs at = subst (λ l. IsFirst test l at) s f in
      ap (first_chosen test) (whole test xs at d g.within) ∙ first-behind test (take at xs) (drop (at + 1) xs) (get_or xs at d) g.before (g.here d) ∙ ap (λ p. Some p.1) (sym k)

  pub without-at : (ys xs zs : List (X × ℕ)) (at : ℕ) (d : X × ℕ) → IsFirst test ys at → ys ≡ xs → zs ≡ take at xs ++ drop (at + 1) xs → without_first test xs ≡ zs
  without-at ys xs zs at d f s e =
      let g : IsFirst test xs at = subst (λ l. IsFirst test l at) s f in
      ap (without_first test) (whole test xs at d g.within) ∙ without-behind test (take at xs) (drop (at + 1) xs) (get_or xs at d) g.before (g.here d) ∙ sym e

  -- the others who pass, behind those who were taken out before
  pub chosen-moved : (ready ready2 all : List ℕ) (ys xs zs : List (X × ℕ)) (at : ℕ) (d : X × ℕ) → IsFirst test ys at → ys ≡ xs → zs ≡ take at xs ++ drop (at + 1) xs → d ≡ get_or xs at d
      → ready2 ≡ ready ++ d.1 ∷ [] → ready ++ chosen test xs ≡ all → ready2 ++ chosen test zs ≡ all
  chosen-moved ready ready2 all ys xs zs at d f s e k r h =
      let split = chosen-split test xs in
      let first = first-at ys xs at d f s k in
      let without = without-at ys xs zs at d f s e in
      let both : chosen test xs ≡ d.1 ∷ chosen test zs = split ∙ rw (first, without) refl in
      rw (r, append_assoc) (ap (λ l. ready ++ l) (sym both) ∙ h)

  pub left-moved : (ys xs zs : List (X × ℕ)) (at : ℕ) (d : X × ℕ) → IsFirst test ys at → ys ≡ xs → zs ≡ take at xs ++ drop (at + 1) xs → left test zs ≡ left test xs
  left-moved ys xs zs at d f s e = ap (left test) (sym (without-at ys xs zs at d f s e)) ∙ left-without_first test xs

  -- none is left who passes
  pub chosen-done : (ready all : List ℕ) (ys xs : List (X × ℕ)) → chosen test ys ≡ [] → ys ≡ xs → ready ++ chosen test xs ≡ all → ready ≡ all
  chosen-done ready all ys xs n s h = sym (append-nil ready) ∙ ap (λ l. ready ++ l) (sym n ∙ ap (chosen test) s) ∙ h

  pub left-done : (ys xs : List (X × ℕ)) → chosen test ys ≡ [] → ys ≡ xs → xs ≡ left test xs
  left-done ys xs n s = sym (left-all test xs (ap (chosen test) (sym s) ∙ n))
