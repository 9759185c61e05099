-- Temporaries that show names and pending values.
use Rattle.std.proofs.Common.{◌≡◌, ◌≢◌, ℕ, zero, suc, ◌+◌, ◌<◌, ◌≤◌, ◌⊎◌, inl, inr, ⊎_elim, List, [], ◌∷◌, length, Option, refl, sym, ap, ◌∙◌, subst, arith, map}
use Rattle.std.specs.Prelude.{if◌then◌else◌, get_or}
use Rattle.std.proofs.lemmas.Bool.{eq-eqb}
use Rattle.std.proofs.lemmas.Bool.Decides.{eqb_tells}
use Rattle.sts_meaning.specs.Values.{Value, Gives, then_gives, default, with_entry}
use Rattle.sts_meaning.specs.Frames.{Names, with_local, with_param, before_these, taken}
use Rattle.sts_lower.specs.Code.{span}
use Rattle.std.specs.List.{AllZip}
use Rattle.lower_simulation.specs.Places.{Marks, Marked, IsAbove}
use Rattle.lower_simulation.specs.Tied.{Holds, Shows}

pub entry_same : (t : ℕ) (v : Value) (m : ℕ → Value) → with_entry t v m t ≡ v
entry_same t v m = ap (λ b. if b then v else m t) (eq-eqb t t refl)

pub entry_other : (t j : ℕ) (v : Value) (m : ℕ → Value) → j ≢ t → with_entry t v m j ≡ m j
entry_other t j v m ne = ⊎_elim (λ e. absurd (ne e.1)) (λ e. ap (λ b. if b then v else m j) e.0) (eqb_tells j t)

-- two maps agree after one change of each, at entries that are k apart
entry_both : (k i j : ℕ) (v : Value) (m n : ℕ → Value) → m (k + j) ≡ n j → with_entry (k + i) v m (k + j) ≡ with_entry i v n j
entry_both k i j v m n h =
    ⊎_elim
    (λ y. let at : with_entry i v n j ≡ v = ap (λ b. if b then v else n j) y.0 in
    let to : with_entry (k + i) v m (k + j) ≡ v = subst (λ x. with_entry (k + i) v m (k + x) ≡ v) (sym y.1) (entry_same (k + i) v m) in
    to ∙ sym at)
    (λ y. let at : with_entry i v n j ≡ n j = ap (λ b. if b then v else n j) y.0 in
    let no : k + j ≢ k + i = λ q. y.1 (omega arith) in
    entry_other (k + i) (k + j) v m no ∙ h ∙ sym at)
    (eqb_tells j i)

entry_zero : (i j : ℕ) (v : Value) (m n : ℕ → Value) → m j ≡ n j → with_entry i v m j ≡ with_entry i v n j
entry_zero i j v m n h =
    ⊎_elim
    (λ y. ap (λ b. if b then v else m j) y.0 ∙ sym (ap (λ b. if b then v else n j) y.0))
    (λ y. ap (λ b. if b then v else m j) y.0 ∙ h ∙ sym (ap (λ b. if b then v else n j) y.0))
    (eqb_tells j i)

pub holds_kept : (t : ℕ) (v : Value) (m : ℕ → Value) (base : ℕ) (p : Marks) (vs : List Value) → (t < base) ⊎ (base + length p ≤ t) → Holds m base p vs → Holds (with_entry t v m) base p vs
holds_kept t v m base [] [] out h = tt
holds_kept t v m base (k ∷ p) (w ∷ vs) out h =
    let ne : base + length p ≢ t = λ q. ⊎_elim (λ lt. omega arith) (λ le. omega arith) out in
    let out' : (t < base) ⊎ (base + length p ≤ t) = ⊎_elim (λ lt. inl lt) (λ le. inr (omega arith)) out in
    (entry_other t (base + length p) v m ne ∙ h.0, h.1, holds_kept t v m base p vs out' h.2)
holds_kept t v m base [] (w ∷ vs) out h = absurd h
holds_kept t v m base (k ∷ p) [] out h = absurd h

pub shows_rest : (p l : ℕ) (n : Names) (k : Option ℕ) (q : Marks) (v : Value) (vs : List Value) (m : ℕ → Value) → Shows p l n (k ∷ q) (v ∷ vs) m → Shows p l n q vs m
shows_rest p l n k q v vs m h = record { of_params = h.of_params; of_locals = h.of_locals; pending = h.pending.2 }

-- a temporary from base + length q on may be written
pub shows_above : (p l : ℕ) (n : Names) (q : Marks) (vs : List Value) (m : ℕ → Value) (t : ℕ) (v : Value) → p + l + length q ≤ t → Shows p l n q vs m → Shows p l n q vs (with_entry t v m)
shows_above p l n q vs m t v le h = record {
  of_params = λ i lt. let ne : i ≢ t = λ e. omega arith in entry_other t i v m ne ∙ h.of_params i lt;
  of_locals = λ i lt. let ne : p + i ≢ t = λ e. omega arith in entry_other t (p + i) v m ne ∙ h.of_locals i lt;
  pending = holds_kept t v m (p + l) q vs (inr le) h.pending;
}

pub shows_put : (p l : ℕ) (n : Names) (k : Option ℕ) (q : Marks) (v : Value) (vs : List Value) (m : ℕ → Value) → Marked k v → Shows p l n q vs m → Shows p l n (k ∷ q) (v ∷ vs) (with_entry (p + l + length q) v m)
shows_put p l n k q v vs m mark h =
    let le : p + l + length q ≤ p + l + length q = omega arith in
    let kept = shows_above p l n q vs m (p + l + length q) v le h in
    record { of_params = kept.of_params; of_locals = kept.of_locals; pending = (entry_same (p + l + length q) v m, mark, kept.pending) }

pub shows_param : (p l i : ℕ) (n : Names) (q : Marks) (v : Value) (vs : List Value) (m : ℕ → Value) → i < p → Shows p l n q vs m → Shows p l (with_param i v n) q vs (with_entry i v m)
shows_param p l i n q v vs m lt h = record {
  of_params = λ j lt'. entry_zero i j v m n.params (h.of_params j lt');
  of_locals = λ j lt'. let ne : p + j ≢ i = λ e. omega arith in entry_other i (p + j) v m ne ∙ h.of_locals j lt';
  pending = holds_kept i v m (p + l) q vs (inl (omega arith)) h.pending;
}

pub shows_local : (p l i : ℕ) (n : Names) (q : Marks) (v : Value) (vs : List Value) (m : ℕ → Value) → i < l → Shows p l n q vs m → Shows p l (with_local i v n) q vs (with_entry (p + i) v m)
shows_local p l i n q v vs m lt h = record {
  of_params = λ j lt'. let ne : j ≢ p + i = λ e. omega arith in entry_other (p + i) j v m ne ∙ h.of_params j lt';
  of_locals = λ j lt'. entry_both p i j v m n.locals (h.of_locals j lt');
  pending = holds_kept (p + i) v m (p + l) q vs (inl (omega arith)) h.pending;
}

-- the first of a span
span_front : (t n : ℕ) (ts : List ℕ) → span t (suc n) ts ≡ t ∷ span (t + 1) n ts
span_front t zero ts = let e : t + 0 ≡ t = omega arith in ap (λ (x : ℕ). x ∷ ts) e
span_front t (suc n) ts =
    let e : t + suc n ≡ t + 1 + n = omega arith in
    span_front t n ((t + suc n) ∷ ts) ∙ ap (λ (x : ℕ). t ∷ span (t + 1) n (x ∷ ts)) e

-- n values of those that are pending, which are the arguments of a call
pub record Taking (p l n : ℕ) (names : Names) (q : Marks) (vs : List Value) (m : ℕ → Value) : Type 0 where
  pub these : List Value
  pub rest : List Value
  pub taken : taken n vs ≡ Gives (these, rest)
  pub args : map m (span (p + l + length q) n []) ≡ these
  pub shows : Shows p l names q rest m

pub takes : (n p l : ℕ) (names : Names) (r q : Marks) (vs : List Value) (m : ℕ → Value) → IsAbove n r q → Shows p l names r vs m → Taking p l n names q vs m
takes zero p l names r q vs m above h = record { these = []; rest = vs; taken = refl; args = refl; shows = subst (λ x. Shows p l names x vs m) above h }
takes (suc n) p l names r q vs m above h = more (takes n p l names r (above.0 ∷ q) vs m above.1 h)
  where
    more' : (these rest : List Value) → taken n vs ≡ Gives (these, rest) → map m (span (p + l + suc (length q)) n []) ≡ these → Shows p l names (above.0 ∷ q) rest m → Taking p l (suc n) names q vs m
    more' these [] e args shows = absurd shows.pending
    more' these (v ∷ rest) e args shows =
        let t = p + l + length q in
        let next : t + 1 ≡ p + l + suc (length q) = omega arith in
        record {
          these = v ∷ these;
          rest = rest;
          taken = ap (λ o. then_gives o before_these) e;
          args = ap (λ ts. map m ts) (span_front t n []) ∙ ap (λ x. x ∷ map m (span (t + 1) n [])) shows.pending.0 ∙ ap (λ x. v ∷ map m (span x n [])) next ∙ ap (λ xs. v ∷ xs) args;
          shows = shows_rest p l names above.0 q v rest m shows;
        }

    more : Taking p l n names (above.0 ∷ q) vs m → Taking p l (suc n) names q vs m
    more t = more' t.these t.rest t.taken t.args t.shows

pub marked : (m : ℕ → Value) (base : ℕ) (p : Marks) (vs : List Value) → Holds m base p vs → AllZip Marked p vs
marked m base [] [] h = tt
marked m base (k ∷ p) (v ∷ vs) h = (h.1, marked m base p vs h.2)
marked m base [] (v ∷ vs) h = absurd h
marked m base (k ∷ p) [] h = absurd h

pub map_past : (vs : List Value) (j : ℕ) → length vs ≤ j → get_or vs j default ≡ default
map_past [] j le = refl
map_past (v ∷ vs) zero le = absurd (omega arith)
map_past (v ∷ vs) (suc j) le = map_past vs j (omega arith)
