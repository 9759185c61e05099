-- The parts of soundness make it up.
use Rattle.std.proofs.Common.{zero, suc, ◌≡◌, ℕ, ◌+◌, ◌≤◌, ◌<◌, List, [], ◌∷◌, length, get_or, Bool, true, false, Some, refl, sym, ap, ◌∙◌, subst, arith, inl, inr, slice_get}
use Rattle.std.specs.Prelude.{Contains, IsTrue, ◌↔◌, IfOk, Result, Ok, Err}
use Rattle.std.specs.List.{AllByRecursion}
use Rattle.std.proofs.lemmas.Option.{slice_get_within}
use Rattle.std.proofs.lemmas.Bool.{cases_eq, cases_order, cases_lt}
use Rattle.flat_ir.specs.declared.ops.Op.{Op}
use Rattle.flat_ir.specs.declared.ops.Function.{Function}
use Rattle.flat_ir.specs.Ops.{reads, goes_on}
use Rattle.flat_ir.specs.Liveness.{IsLiveAt, is_read, is_kept}
use Rattle.register_assign.specs.declared.places.Place.{Place}
use Rattle.register_assign.specs.declared.places.Place.TheVariants.{Reg}
use Rattle.register_assign.specs.Marks.{AreMarks}
use Rattle.register_assign.specs.Sound.{IsWithin, ArePlacesSound}
use Rattle.register_assign.specs.Checks.{IsShapeSound, IsClear, IsKept, IsTemporarySound, IsDeadStranger, ReadsNoStranger}
use Rattle.register_assign.proofs.Marking.{marked_contains, contains_marked}

-- an answer of no, where a part doesn't hold
pub refuted : (b : Bool) (P Q : Type 0) → IsTrue b ↔ P → b ≡ false → (Q → P) → IsTrue false ↔ Q
refuted b P Q e f g = (λ h. absurd (cc), λ q. subst IsTrue f (e.1 (g q)))

pub shown : (Q : Type 0) → Q → IsTrue true ↔ Q
shown Q q = (λ h. q, λ h. refl)

pub denied : (Q : Type 0) → (Q → ⊥) → IsTrue false ↔ Q
denied Q n = (λ h. absurd (cc), λ q. absurd (n q))

same_op : (ops : List Op) (at : ℕ) (a b : Op) → slice_get ops at ≡ Some a → slice_get ops at ≡ Some b → a ≡ b
same_op ops at a b p q = let e : Some a ≡ Some b = sym p ∙ q in cc

pub clear_of : (ops : List Op) (places : List Place) (u : ℕ) (marks : List Bool) (at : ℕ) (op : Op) → slice_get ops at ≡ Some op → AreMarks ops u marks → IsKept ops places u → IsClear op at places u marks
clear_of ops places u marks at op g m kept t w l e h = let n = marked_contains marks (goes_on at op) h in kept at t op g w (op, n.0, g, n.1, m.live n.0 n.2) l e

pub kept_of : (ops : List Op) (places : List Place) (u : ℕ) (marks : List Bool) (upto : ℕ) → AreMarks ops u marks → length ops ≤ upto
    → ((at : ℕ) (op : Op) → at < upto → slice_get ops at ≡ Some op → IsClear op at places u marks) → IsKept ops places u
kept_of ops places u marks upto m long clear at t op g w live l e =
    let within = slice_get_within ops at op g in
    let so = same_op ops at live.0 op live.2 g in
    let i : Contains (goes_on at op) live.1 = subst (λ (o : Op). Contains (goes_on at o) live.1) so live.3 in
    clear at op (omega arith) g t w l e (contains_marked marks (goes_on at op) live.1 i (m.all live.1 live.4))

pub clear_more : (ops : List Op) (places : List Place) (u : ℕ) (marks : List Bool) (upto : ℕ) (next : Op) → slice_get ops upto ≡ Some next → IsClear next upto places u marks
    → ((at : ℕ) (op : Op) → at < upto → slice_get ops at ≡ Some op → IsClear op at places u marks) → (at : ℕ) (op : Op) → at < upto + 1 → slice_get ops at ≡ Some op → IsClear op at places u marks
clear_more ops places u marks upto next g here below at op l q =
    elim (cases_eq at upto) [
      | inl s ↦
          let so = same_op ops upto next op g (sym (ap (slice_get ops) s) ∙ q) in
          subst (λ (k : ℕ). IsClear op k places u marks) (sym s) (subst (λ (o : Op). IsClear o upto places u marks) so here)
      | inr n ↦ below at op (omega arith) q
    ]

all_get : {X : Type 0} (P : X → Type 0) (xs : List X) → AllByRecursion P xs → (k : ℕ) (d : X) → k < length xs → P (get_or xs k d)
all_get P [] a k d l = absurd (omega arith)
all_get P (x ∷ xs) a zero d l = a.0
all_get P (x ∷ xs) a (suc k) d l = all_get P xs a.1 k d (omega arith)

all_at : {X : Type 0} (P : X → Type 0) (xs : List X) → AllByRecursion P xs → (k : ℕ) (x : X) → slice_get xs k ≡ Some x → P x
all_at P [] a k x g = absurd (cc)
all_at P (y ∷ xs) a zero x g = let e : y ≡ x = cc in subst P e a.0
all_at P (y ∷ xs) a (suc k) x g = all_at P xs a.1 k x g

all_make : {X : Type 0} (P : X → Type 0) (xs : List X) (d : X) → ((k : ℕ) → k < length xs → P (get_or xs k d)) → AllByRecursion P xs
all_make P [] d h = tt
all_make P (x ∷ xs) d h = (h 0 (omega arith), all_make P xs d (λ k l. h (suc k) (omega arith)))

all_any : {X : Type 0} (P : X → Type 0) (xs : List X) → ((x : X) → P x) → AllByRecursion P xs
all_any P [] h = tt
all_any P (x ∷ xs) h = (h x, all_any P xs h)

-- what is live is read
live_reads : (ops : List Op) (t at : ℕ) → IsLiveAt ops t at → (k : ℕ) × (op : Op) × (slice_get ops k ≡ Some op) × Contains (reads op) t
live_reads ops t _ (is_read at op g r) = (at, op, g, r)
live_reads ops t _ (is_kept at next op g n i l) = live_reads ops t next l

stranger_dead : (ops : List Op) (known t : ℕ) → AllByRecursion (ReadsNoStranger known ops) ops → known ≤ t → IsLiveAt ops t 0 → ⊥
stranger_dead ops known t a l live =
    let r = live_reads ops t 0 live in
    let all = all_at (ReadsNoStranger known ops) ops a r.0 r.1 r.2 in
    let c = r.3 in
    let d = all_get (IsDeadStranger known ops) (reads r.1) all c.0 t c.1 in
    subst (IsDeadStranger known ops) c.2 d l live

pub shape_of : (f : Function) (places : List Place) → ArePlacesSound f places → IsShapeSound f places
shape_of f places s =
    let long = s.one_each in record {
      one_each = s.one_each;
      within = all_make (IsWithin f) places (Reg 0) (λ k l. s.within k (omega arith));
      parameters = λ t l. record { stays = λ j e. s.stays t j l e; apart = λ u h e. let same = s.apart u t (omega arith) l e in absurd (omega arith) };
    }

pub temporaries_of : (f : Function) (places : List Place) → ArePlacesSound f places → (u : ℕ) → u < length places → IsTemporarySound f places u
temporaries_of f places s u l =
    let long = s.one_each in record { entry = λ live. s.entry u live; kept = λ at t op g w live h e. s.written at t u op g w live (omega arith) (omega arith) e }

pub strangers_of : (f : Function) (places : List Place) → ArePlacesSound f places → AllByRecursion (ReadsNoStranger (length places) f.ops) f.ops
strangers_of f places s =
    let long = s.one_each in
    all_any (ReadsNoStranger (length places) f.ops) f.ops (λ op. all_any (IsDeadStranger (length places) f.ops) (reads op) (λ t l live. let h = s.entry t live in absurd (omega arith)))

pub sound_from : (f : Function) (places : List Place) → IsShapeSound f places → ((u : ℕ) → u < length places → IsTemporarySound f places u) → AllByRecursion (ReadsNoStranger (length places) f.ops) f.ops → ArePlacesSound f places
sound_from f places s temps strangers =
    let long = s.one_each in record {
      one_each = s.one_each;
      entry = λ t live. elim (cases_lt t (length places)) [
        | inl l ↦ (temps t l).entry live
        | inr l ↦ absurd (stranger_dead f.ops (length places) t strangers l live)
      ];
      apart = λ t u l m e. elim (cases_order t u) [
        | inl same ↦ same
        | inr o ↦ elim o [ inl h ↦ absurd ((s.parameters u m).apart t h e) | inr h ↦ absurd ((s.parameters t l).apart u h (sym e)) ]
      ];
      stays = λ t j l e. (s.parameters t l).stays j e;
      written = λ at t u op g w live l m e. (temps u (omega arith)).kept at t op g w live (omega arith) e;
      within = λ t l. all_get (IsWithin f) places s.within t (Reg 0) (omega arith);
    }

pub kept_sound : (b : Bool) (ops : List Op) (f : Function) (places : List Place) (u : ℕ) → ops ≡ f.ops → IsTrue b ↔ IsKept ops places u → (IsLiveAt f.ops u 0 → u < f.params) → IsTrue b ↔ IsTemporarySound f places u
kept_sound b ops f places u e k h = (
  λ t. record { entry = h; kept = subst (λ (q : List Op). IsKept q places u) e (k.0 t) },
  λ s. k.1 (subst (λ (q : List Op). IsKept q places u) (sym e) s.kept),
)

pub ended : {E : Type 0} (r : Result Bool E) (P Q : Type 0) → IfOk r (λ b. IsTrue b ↔ P) → (P → Q) → (Q → P) → IfOk r (λ b. IsTrue b ↔ Q)
ended (Ok b) P Q e f g = (λ h. f (e.0 h), λ q. e.1 (g q))
ended (Err x) P Q e f g = e
