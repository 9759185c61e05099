-- The members of arrivals.
use Rattle.std.proofs.Common.{◌≡◌, ℕ, Bool, true, false, ◌&&◌, nat_lt, IsSome, Option, Some, None, List, [], ◌∷◌, inl, inr, refl, sym, ap, subst, codes}
use Rattle.serde_json.specs.Data.{Data}
use Rattle.serde_json.specs.Find.{get}
use Rattle.event_script.specs.Names.{IsOneOf, HasExactly}
use Rattle.event_script.specs.Trees.{whole, has_members, only_if, list_of}
use Rattle.event_script.specs.Form.{act_of}
use Rattle.event_script.specs.declared.script.Act.{Act}
use Rattle.event_script.specs.declared.script.Act.TheVariants.{Down, Up, Raise, Unplug}
use Rattle.event_script.proofs.Laws.{whole-there, list-there, three, four, Known, known, exactly, distinct}
use Rattle.arrival_file.specs.declared.arrival.Arrival.{Arrival}
use Rattle.arrival_file.specs.Limits.{greatest_after}
use Rattle.arrival_file.specs.Form.{may_arrive, arrival_with, arrival_of, arrivals_of}
use Rattle.arrival_file.specs.Shapes.{names_of}

module _ (d : Data) where
  names-known : (a : Act) → may_arrive a ≡ true → Known d a → IsSome (get (codes "after") d) → HasExactly (names_of a) d
  names-known (Down b) m h t = exactly (names_of (Down b)) d (distinct (names_of (Down b)) refl) h.0 (three d (codes "after") (codes "do") (codes "button") t h.1 h.2)
  names-known (Up b) m h t = exactly (names_of (Up b)) d (distinct (names_of (Up b)) refl) h.0 (three d (codes "after") (codes "do") (codes "button") t h.1 h.2)
  names-known (Raise e) m h t =
      exactly (names_of (Raise e)) d (distinct (names_of (Raise e)) refl) h.0 (four d (codes "after") (codes "do") (codes "source") (codes "value") t h.1 h.2 h.3)
  names-known (Unplug p) m h t = absurd (cc)

  pub arrival-members : (a : Arrival) → arrival_of d ≡ Some a → HasExactly (names_of a.act) d
  arrival-members a h = by_parts (whole greatest_after (codes "after") d) (act_of d) refl refl h
    where
      by_tests : (n : ℕ) (act : Act) (b c : Bool) → whole greatest_after (codes "after") d ≡ Some n → act_of d ≡ Some act → may_arrive act ≡ c
          → (let x : Arrival = record { after = n; act = act } in only_if (b && c) (Some x) ≡ Some a) → HasExactly (names_of a.act) d
      by_tests n act true true f g m k =
          let whole_arrival : (let x : Arrival = record { after = n; act = act } in x ≡ a) = cc in
          let same : act ≡ a.act = ap (λ (x : Arrival). x.act) whole_arrival in
          let here : IsSome (whole greatest_after (codes "after") d) = subst (λ (o : Option ℕ). IsSome o) (sym f) refl in
          subst (λ (x : Act). HasExactly (names_of x) d) same (names-known act m (known d act g) (whole-there greatest_after (get (codes "after") d) here))
      by_tests n act true false f g m k = absurd (cc)
      by_tests n act false c f g m k = absurd (cc)

      by_parts : (t : Option ℕ) (act : Option Act) → whole greatest_after (codes "after") d ≡ t → act_of d ≡ act → arrival_with t act ≡ Some a → HasExactly (names_of a.act) d
      by_parts (Some n) (Some act) f g k = by_tests n act (nat_lt 0 n) (may_arrive act) f g refl k
      by_parts (Some n) None f g k = absurd (cc)
      by_parts None act f g k = absurd (cc)

  -- a member of the one name
  one : (x : List ℕ) → IsSome (get x d) → (k : List ℕ) → IsOneOf k (x ∷ []) → IsSome (get k d)
  one x p k (inl e) = subst (λ (n : List ℕ). IsSome (get n d)) (sym e) p
  one x p k (inr e) = absurd e

  pub list-members : (xs : List Arrival) → arrivals_of d ≡ Some xs → HasExactly (codes "arrivals" ∷ []) d
  list-members xs h = by_parts (has_members 1 d) (list_of arrival_of (codes "arrivals") d) refl refl h
    where
      by_parts : (m : Bool) (l : Option (List Arrival)) → has_members 1 d ≡ m → list_of arrival_of (codes "arrivals") d ≡ l → only_if m l ≡ Some xs → HasExactly (codes "arrivals" ∷ []) d
      by_parts true (Some l) e f k =
          let here : IsSome (list_of arrival_of (codes "arrivals") d) = subst (λ (o : Option (List Arrival)). IsSome o) (sym f) refl in
          exactly (codes "arrivals" ∷ []) d (distinct (codes "arrivals" ∷ []) refl) e (one (codes "arrivals") (list-there arrival_of (get (codes "arrivals") d) here))
      by_parts true None e f k = absurd (cc)
      by_parts false l e f k = absurd (cc)
