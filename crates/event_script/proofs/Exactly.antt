-- As many members as are named, with each of them there, are exactly those.
use Rattle.std.proofs.Common.{◌≡◌, ℕ, suc, ◌≤◌, ◌⊎◌, inl, inr, Bool, true, false, not, ◌&&◌, ◌||◌, IsSome, Some, List, [], ◌∷◌, length, refl, sym, ap, subst, ◌∙◌, arith}
use Rattle.std.specs.Ordering.{nat_cmp, match_ordering, is_eq}
use Rattle.std.specs.declared.cmp.Ordering.{Ordering}
use Rattle.std.specs.declared.cmp.Ordering.TheVariants.{Less, Equal, Greater}
use Rattle.std.specs.Cmp.Lexicographic.{slice_cmp}
use Rattle.std.specs.Str.{bytes_eq}
use Rattle.std.proofs.lemmas.Bool.Decides.{nat_tests}
use Rattle.std.proofs.lemmas.Bool.Decides.{not_from_Decides}
use Rattle.std.proofs.lemmas.Slice.Eq.{bytes_eq-Decides}
use Rattle.std.proofs.lemmas.Map.Text.{is_eq-slice_cmp}
use Rattle.serde_json.specs.Data.{Data, null, boolean, number, string, array, object, Members, no_members, member}
use Rattle.serde_json.specs.Find.{get, get_member}
use Rattle.event_script.specs.Trees.{count_of, has_members}
use Rattle.event_script.specs.Names.{IsOneOf, HasExactly}

abbrev keys : Members → List (List ℕ)
keys no_members = []
keys (member k d ms) = k ∷ keys ms

count-keys : (ms : Members) → count_of ms ≡ length (keys ms)
count-keys no_members = refl
count-keys (member k d ms) = ap suc (count-keys ms)

-- equal texts, by the test
pub same_text : (x y : List ℕ) → bytes_eq x y ≡ true → x ≡ y
same_text x y h = (bytes_eq-Decides x y).0 h

-- a member that is found has its name among the names
found : (k : List ℕ) (ms : Members) → IsSome (get_member k ms) → IsOneOf k (keys ms)
found k no_members h = absurd (cc)
found k (member l e ms) h = by_order (slice_cmp nat_cmp k l) refl h (found k ms)
  where
    by_order : (o : Ordering) → slice_cmp nat_cmp k l ≡ o → IsSome (match_ordering o (get_member k ms) (Some e) (get_member k ms)) → (IsSome (get_member k ms) → IsOneOf k (keys ms)) → (k ≡ l) ⊎ IsOneOf k (keys ms)
    by_order Less is h more = inr (more h)
    by_order Equal is h more = inl (same_text k l (sym (is_eq-slice_cmp k l) ∙ ap is_eq is))
    by_order Greater is h more = inr (more h)

-- a list without one of its items
removed : (x : List ℕ) (ls : List (List ℕ)) → IsOneOf x ls → List (List ℕ)
removed x [] p = absurd p
removed x (l ∷ ls) (inl e) = ls
removed x (l ∷ ls) (inr p) = l ∷ removed x ls p

length-removed : (x : List ℕ) (ls : List (List ℕ)) (p : IsOneOf x ls) → length ls ≡ suc (length (removed x ls p))
unfolding removed
length-removed x [] p = absurd p
length-removed x (l ∷ ls) (inl e) = refl
length-removed x (l ∷ ls) (inr p) = ap suc (length-removed x ls p)

stays : (x y : List ℕ) (ls : List (List ℕ)) (p : IsOneOf x ls) → IsOneOf y ls → (y ≡ x) ⊎ IsOneOf y (removed x ls p)
unfolding removed
stays x y [] p q = absurd p
stays x y (l ∷ ls) (inl e) (inl f) = inl (f ∙ sym e)
stays x y (l ∷ ls) (inl e) (inr q) = inr q
stays x y (l ∷ ls) (inr p) (inl f) = inr (inl f)
stays x y (l ∷ ls) (inr p) (inr q) = further (stays x y ls p q)
  where
    further : (y ≡ x) ⊎ IsOneOf y (removed x ls p) → (y ≡ x) ⊎ ((y ≡ l) ⊎ IsOneOf y (removed x ls p))
    further (inl e) = inl e
    further (inr r) = inr (inr r)

abbrev pub Distinct : List (List ℕ) → Type 0
Distinct [] = Unit {0}
Distinct (n ∷ ns) = (IsOneOf n ns → ⊥) × Distinct ns

-- different names that are all among no more names are all of those
all-taken : (xs ls : List (List ℕ)) → Distinct xs → ((x : List ℕ) → IsOneOf x xs → IsOneOf x ls) → length ls ≤ length xs → (y : List ℕ) → IsOneOf y ls → IsOneOf y xs
all-taken [] [] d sub h y q = q
all-taken [] (l ∷ ls) d sub h y q = absurd (omega arith)
all-taken (x ∷ xs) ls d sub h y q =
    let here : IsOneOf x ls = sub x (inl refl) in
    let less = length-removed x ls here in
    let sub' : (z : List ℕ) → IsOneOf z xs → IsOneOf z (removed x ls here) = λ z t. another z t (stays x z ls here (sub z (inr t))) in
    by_place (stays x y ls here q) (all-taken xs (removed x ls here) d.1 sub' (omega (arith, less)) y)
  where
    another : {R : Type 0} (z : List ℕ) → IsOneOf z xs → (z ≡ x) ⊎ R → R
    another z t (inl e) = absurd (d.0 (subst (λ (w : List ℕ). IsOneOf w xs) e t))
    another z t (inr r) = r

    by_place : {R : Type 0} → (y ≡ x) ⊎ R → (R → IsOneOf y xs) → (y ≡ x) ⊎ IsOneOf y xs
    by_place (inl e) f = inl e
    by_place (inr r) f = inr (f r)

-- so many members, and each of the names there
pub exactly : (names : List (List ℕ)) (d : Data) → Distinct names → has_members (length names) d ≡ true → ((k : List ℕ) → IsOneOf k names → IsSome (get k d)) → HasExactly names d
exactly names null distinct many each = absurd (cc)
exactly names (boolean b) distinct many each = absurd (cc)
exactly names (number n) distinct many each = absurd (cc)
exactly names (string s) distinct many each = absurd (cc)
exactly names (array ds) distinct many each = absurd (cc)
exactly names (object ms) distinct many each =
    let count : count_of ms ≡ length names = grind (arith, nat_tests) in
    let fits : length (keys ms) ≤ length names = omega (arith, count, count-keys ms) in
    record { each = each; no_other = λ k h. all-taken names (keys ms) distinct (λ x t. found x ms (each x t)) fits k (found k ms h) }

-- names that differ by a test differ
abbrev pub is_among : List ℕ → List (List ℕ) → Bool
is_among k [] = false
is_among k (n ∷ ns) = bytes_eq k n || is_among k ns

abbrev pub all_differ : List (List ℕ) → Bool
all_differ [] = true
all_differ (n ∷ ns) = not (is_among n ns) && all_differ ns

both-false : (a b : Bool) → (a || b) ≡ false → (a ≡ false) × (b ≡ false)
both-false true b e = absurd (cc)
both-false false b e = (refl, e)

not-among : (k : List ℕ) (ns : List (List ℕ)) → is_among k ns ≡ false → IsOneOf k ns → ⊥
not-among k [] h p = p
not-among k (n ∷ ns) h (inl e) = not_from_Decides (bytes_eq k n) (bytes_eq-Decides k n) (both-false (bytes_eq k n) (is_among k ns) h).0 e
not-among k (n ∷ ns) h (inr p) = not-among k ns (both-false (bytes_eq k n) (is_among k ns) h).1 p

pub distinct : (ns : List (List ℕ)) → all_differ ns ≡ true → Distinct ns
distinct [] h = tt
distinct (n ∷ ns) h = (let parts = both-true (is_among n ns) (all_differ ns) h in (not-among n ns parts.0, distinct ns parts.1))
  where
    both-true : (a b : Bool) → (not a && b) ≡ true → (a ≡ false) × (b ≡ true)
    both-true false true e = (refl, refl)
    both-true false false e = absurd (cc)
    both-true true b e = absurd (cc)
