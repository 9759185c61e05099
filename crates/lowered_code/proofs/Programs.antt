-- The code of a well-typed program within its limits is well formed.
use Rattle.std.proofs.Common.{◌≡◌, ℕ, zero, suc, ◌+◌, ◌<◌, ◌≤◌, List, [], ◌∷◌, ◌++◌, length, length-append, Option, Some, None, Bool, true, false, refl, sym, ap, subst, arith, get_or}
use Rattle.std.specs.Prelude.{All, if◌then◌else◌}
use Rattle.std.proofs.Common.{⊎_elim, inl, inr}
use Rattle.std.proofs.lemmas.Bool.Decides.{eqb_tells}
use Rattle.std.specs.List.{AllByRecursion}
use Rattle.flat_ir.specs.declared.ops.Op.{Op}
use Rattle.flat_ir.specs.declared.ops.Function.{Function}
use Rattle.flat_ir.specs.WellFormed.{IsOpWithin, IsLast, EndsFrom, Ends, NamesParts, IsFunctionAmong, IsClassAmong, IsWellFormed}
use Rattle.sts_syntax.specs.TypedTrees as e
use Rattle.sts_syntax.specs.TypedTrees.{TypedStatements, TypedRoutine, ClassEntry, TypedProgram}
use Rattle.sts_syntax.specs.Measures.{pending_words, outgoing_words, hold, outgoing, greatest_of}
use Rattle.sts_syntax.specs.TypeRules.{entry, IsOneOf, HasClass, HasRoutine}
use Rattle.sts_syntax.specs.WellTypedPrograms.{is_maker, base_of_maker, setting, IsBodyOf, IsWellTyped, IsWithinLimits, IsClassWithinLimits, IsProgramWithinLimits}
use Rattle.sts_lower.specs.Sizes.{size, statements_size}
use Rattle.sts_lower.specs.Code.{code}
use Rattle.sts_lower.specs.Statements.{behind, statements_code, bare_code}
use Rattle.sts_lower.specs.Repeated.{repeated_each, repeated_in_all, before}
use Rattle.sts_lower.specs.Lowered.{repeating_function, repeating_functions, flat_classes, repeated_in_program, repeating, routine_ops, lowered_routine, lowered_routines, lowered}
use Rattle.lowered_code.specs.Fine.{IsFine}
use Rattle.lowered_code.proofs.Entries.{entry_within}
use Rattle.lowered_code.proofs.Lengths.{two_bare, statements_length}
use Rattle.lowered_code.proofs.Typed.{Within, within_front, within_back, within_self, within_each, base_is_maker, well_typed_fine}
use Rattle.lowered_code.proofs.FormedOps.{AllOk, both_ok}
use Rattle.lowered_code.proofs.Formed.{statements_ok, bare_ok, super_ok, behind_low}
use Rattle.lowered_code.proofs.Handlers.{one_below, low_routines}
use Rattle.lowered_code.proofs.Outgoing.{low_statements, low_each, many}

all_entry : {X : Type 0} (R : X → Type 0) (xs : List X) (i : ℕ) (x : X) → entry xs i ≡ Some x → All R xs → R x
all_entry R xs i x at h = subst R (found xs i x at) (h i x (entry_within xs i x at))
  where
    found : {X : Type 0} (xs : List X) (i : ℕ) (x : X) → entry xs i ≡ Some x → get_or xs i x ≡ x
    found [] i x at = cc at
    found (y ∷ xs) zero x at = cc at
    found (y ∷ xs) (suc i) x at = found xs i x at

ends_with : (xs : List Op) (y z : Op) → IsLast z → Ends (xs ++ y ∷ (z ∷ []))
ends_with [] y z h = h
ends_with (x ∷ xs) y z h = from x xs
  where
    from : (x : Op) (xs : List Op) → EndsFrom x (xs ++ y ∷ (z ∷ []))
    from x [] = h
    from x (w ∷ ws) = from w ws

bare_ends : (xs : List Op) (m : Bool) (base : ℕ) → Ends (xs ++ bare_code m base)
bare_ends xs true base = ends_with xs _ _ tt
bare_ends xs false base = ends_with xs _ _ tt

-- what holds of each op of a function in two parts
parts_hold : (R Q : Op → Type 0) (ops : List Op) → AllByRecursion (λ op. R op × Q op) ops → AllByRecursion R ops × AllByRecursion Q ops
parts_hold R Q [] h = (tt, tt)
parts_hold R Q (op ∷ ops) h = (let rest = parts_hold R Q ops h.1 in ((h.0.0, rest.0), (h.0.1, rest.1)))

before_low : (fs : List ℕ) (g : ℕ) → IsOneOf g fs → before fs g < length fs
before_low [] g h = absurd h
before_low (f ∷ fs) g h =
    ⊎_elim
    (λ y. let at : before (f ∷ fs) g ≡ 0 = ap (λ b. if b then 0 else suc (before fs g)) y.0 in omega arith)
    (λ y. let at : before (f ∷ fs) g ≡ suc (before fs g) = ap (λ b. if b then 0 else suc (before fs g)) y.0 in
    omega (arith, before_low fs g (⊎_elim (λ e. absurd (y.1 (sym e))) (λ i. i) h)))
    (eqb_tells f g)

copies_long : (fs : List ℕ) → length (repeating_functions fs) ≡ length fs
copies_long [] = refl
copies_long (f ∷ fs) = ap suc (copies_long fs)

classes_long : (cs : List ClassEntry) → length (flat_classes cs) ≡ length cs
classes_long [] = refl
classes_long (x ∷ cs) = ap suc (classes_long cs)

module _ (P : TypedProgram) (typed : IsWellTyped P) (texts : List (List ℕ)) (limits : IsProgramWithinLimits P texts) where
  routines_long : (k : ℕ) (rs : List TypedRoutine) → length (lowered_routines P k rs) ≡ length rs
  routines_long k [] = refl
  routines_long k (r ∷ rs) = ap suc (routines_long (suc k) rs)

  abbrev count : ℕ
  count = length (lowered P).functions

  counted : count ≡ length P.functions + length (repeated_in_program P)
  counted = simp length-append (omega (arith, routines_long 0 P.functions, copies_long (repeated_in_program P)))

  function_there : (f : ℕ) (r : TypedRoutine) → HasRoutine P f r → f < count
  function_there f r at = omega (arith, entry_within P.functions f r at, counted)

  copy_there : (g : ℕ) → IsOneOf g (repeated_in_program P) → repeating P g < count
  copy_there g h = omega (arith, before_low (repeated_in_program P) g h, counted)

  few_slots : (k : ℕ) (class : ClassEntry) → HasClass P k class → length class.slots ≤ 30
  few_slots k class at = (all_entry (IsClassWithinLimits P) P.classes k class at limits.each_class).slots

  within : (f : ℕ) (r : TypedRoutine) → HasRoutine P f r → IsWithinLimits P r
  within f r at = all_entry (IsWithinLimits P) P.functions f r at limits.functions

  few_params : (f : ℕ) (r : TypedRoutine) → HasRoutine P f r → length r.params ≤ 8
  few_params f r at = (within f r at).params

  fine : IsFine P
  fine = well_typed_fine P typed

  module _ (f : ℕ) (r : TypedRoutine) (at : HasRoutine P f r) where
    abbrev mk : Bool
    mk = is_maker P.classes f

    abbrev base : ℕ
    base = length r.params + length r.locals

    abbrev end : ℕ
    end = statements_size mk r.all

    abbrev body : List Op
    body = statements_code P.classes (repeating P) (length r.params) base mk r.all 0 end end end

    abbrev Good : List Op → Type 0
    Good ops = AllOk (base + pending_words r) (length (routine_ops P f r)) (outgoing_words r) count (length P.classes) ops

    long : length (routine_ops P f r) ≡ end + 1 + 1
    long = simp length-append (omega (arith, statements_length P.classes (repeating P) (length r.params) base mk r.all 0 end end end, two_bare mk base))

    with_base : (b : ℕ) (all : TypedStatements) → IsBodyOf P (Some b) (setting P f r) all → mk ≡ true → Within (repeated_in_program P) (repeated_in_all all) → greatest_of hold all ≤ pending_words r → greatest_of outgoing all ≤ outgoing_words r
        → (n : ℕ) → statements_size mk all ≤ n → n < length (routine_ops P f r) → Good (statements_code P.classes (repeating P) (length r.params) base mk all 0 n n n)
    with_base b (e.also (e.Plain (e.SuperCall u g args)) rest) h made w le few n room lt =
        let above = h.4 in
        let p2 = 0 + size (e.SuperCall u g args) in
        let next = behind (statements_size mk rest) p2 n in
        let low : next < length (routine_ops P f r) = behind_low P (setting P f r) (repeating P) (repeated_in_program P) (pending_words r) (length (routine_ops P f r)) (outgoing_words r) count function_there copy_there limits.globals few_slots mk (fine.this f r at) (omega arith) (statements_size mk rest) p2 n (omega arith) lt in
        both_ok (base + pending_words r) (length (routine_ops P f r)) (outgoing_words r) count (length P.classes) (code P.classes (repeating P) (length r.params) base (e.SuperCall u g args) 0 0 next) (statements_code P.classes (repeating P) (length r.params) base mk rest p2 n n n)
        (super_ok P (setting P f r) (repeating P) (repeated_in_program P) (pending_words r) (length (routine_ops P f r)) (outgoing_words r) count function_there copy_there limits.globals few_slots u g h.1 args h.5 (fine.this f r at made) (function_there g above.0 above.2)
        (within_front (repeated_in_program P) (repeated_each args) _ w) (omega arith) 0 next (omega arith) (omega arith))
        (statements_ok P (setting P f r) (repeating P) (repeated_in_program P) (pending_words r) (length (routine_ops P f r)) (outgoing_words r) count function_there copy_there limits.globals few_slots mk (fine.this f r at) (omega arith)
        rest false [] h.7 (within_back (repeated_in_program P) (repeated_each args) _ w) (omega arith) (omega arith) p2 n n n (omega arith) lt lt lt)
    with_base b all h made w le few n room lt = absurd h

    body_ok : (o : Option ℕ) → base_of_maker P P.classes f ≡ o → IsBodyOf P o (setting P f r) r.all → Good body
    body_ok None is h =
        statements_ok P (setting P f r) (repeating P) (repeated_in_program P) (pending_words r) (length (routine_ops P f r)) (outgoing_words r) count function_there copy_there limits.globals few_slots mk (fine.this f r at) (omega arith)
        r.all false [] h (within_each (repeated_in_program P) P.functions f r (within_self (repeated_in_program P)) at) (omega arith) (omega arith) 0 end end end (omega (arith, long)) (omega (arith, long)) (omega (arith, long)) (omega (arith, long))
    body_ok (Some b) is h =
        with_base b r.all h (base_is_maker P P.classes f b is) (within_each (repeated_in_program P) P.functions f r (within_self (repeated_in_program P)) at) (omega arith) (omega arith) end (omega arith) (omega (arith, long))

    ops_ok : Good (routine_ops P f r)
    ops_ok =
        both_ok (base + pending_words r) (length (routine_ops P f r)) (outgoing_words r) count (length P.classes) body (bare_code mk base) (body_ok (base_of_maker P P.classes f) refl (typed.functions f r at).body)
        (bare_ok P (setting P f r) (repeating P) (repeated_in_program P) (pending_words r) (length (routine_ops P f r)) (outgoing_words r) count function_there copy_there limits.globals few_slots mk (fine.this f r at) (omega arith) mk (fine.this f r at))

    -- the numbers of arguments
    few_out : (o : Option ℕ) → IsBodyOf P o (setting P f r) r.all → outgoing_words r ≤ 8
    few_out None h = low_statements P few_params (setting P f r) r.all false [] h
    few_out (Some b) h = out_of r.all h
      where
        out_of : (all : TypedStatements) → IsBodyOf P (Some b) (setting P f r) all → greatest_of outgoing all ≤ 8
        out_of (e.also (e.Plain (e.SuperCall u g args)) rest) h =
            let params : length h.4.0.params ≡ suc (length h.1) = ap length h.4.3 in
            omega (arith, many P few_params (setting P f r) [] h.1 args h.5, few_params g h.4.0 h.4.2, low_each P few_params (setting P f r) [] h.1 args h.5, low_statements P few_params (setting P f r) rest false [] h.7)
        out_of all h = absurd h

    routine_formed : IsFunctionAmong count (length P.classes) (lowered_routine P f r)
    routine_formed =
        let parts = parts_hold (IsOpWithin (base + pending_words r) (length (routine_ops P f r)) (outgoing_words r)) (NamesParts count (length P.classes)) (routine_ops P f r) ops_ok in
        let w = within f r at in
        record {
          alone = record { params = w.params; locals = w.locals; operands = w.pending; outgoing = few_out (base_of_maker P P.classes f) (typed.functions f r at).body; ops = parts.0; ends = bare_ends body mk base };
          names = parts.1;
        }

  handler_there : (g : ℕ) → IsOneOf g (repeated_in_program P) → g < count → IsFunctionAmong count (length P.classes) (repeating_function g)
  handler_there g h lt =
      record {
        alone = record {
          params = omega arith;
          locals = omega arith;
          operands = omega arith;
          outgoing = omega arith;
          ops = (
            record { names = (omega arith, tt); goes = tt; ranges = omega arith },
            (
              record { names = (omega arith, tt); goes = tt; ranges = tt },
              (record { names = (omega arith, (omega arith, tt)); goes = tt; ranges = (omega arith, omega arith) }, (record { names = tt; goes = (omega arith, tt); ranges = tt }, tt)),
            ),
          );
          ends = tt;
        };
        names = (lt, (tt, (tt, (tt, tt))));
      }

  -- each of the functions, and each of those that repeat
  routines_formed : (k : ℕ) (rs : List TypedRoutine) → ((f : ℕ) (r : TypedRoutine) → entry rs f ≡ Some r → HasRoutine P (k + f) r) → AllByRecursion (IsFunctionAmong count (length P.classes)) (lowered_routines P k rs)
  routines_formed k [] h = tt
  routines_formed k (r ∷ rs) h = (
    let e : k + 0 ≡ k = omega arith in subst (λ x. IsFunctionAmong count (length P.classes) (lowered_routine P x r)) e (routine_formed (k + 0) r (h zero r refl)),
    routines_formed (suc k) rs (λ f x at. let e : k + suc f ≡ suc k + f = omega arith in subst (λ y. HasRoutine P y x) e (h (suc f) x at)),
  )

  copies_formed : (fs : List ℕ) → ((g : ℕ) → IsOneOf g fs → IsOneOf g (repeated_in_program P)) → ((g : ℕ) → IsOneOf g fs → g < count) → AllByRecursion (IsFunctionAmong count (length P.classes)) (repeating_functions fs)
  copies_formed [] h low = tt
  copies_formed (f ∷ fs) h low = (handler_there f (h f (inl refl)) (low f (inl refl)), copies_formed fs (λ g i. h g (inr i)) (λ g i. low g (inr i)))

  all_behind : (R : Function → Type 0) (xs ys : List Function) → AllByRecursion R xs → AllByRecursion R ys → AllByRecursion R (xs ++ ys)
  all_behind R [] ys h g = g
  all_behind R (x ∷ xs) ys h g = (h.0, all_behind R xs ys h.1 g)

  repeated_low : (g : ℕ) → IsOneOf g (repeated_in_program P) → g < count
  repeated_low g i =
      let low = one_below (length P.functions) (repeated_in_program P) (repeated_in_program P) g (low_routines (length P.functions) (repeated_in_program P) P.functions fine.all) i in
      omega (arith, counted)

  methods_low : (slots : List ℕ) → ((s f : ℕ) → entry slots s ≡ Some f → f < count) → AllByRecursion (λ f. f < count) slots
  methods_low [] h = tt
  methods_low (f ∷ fs) h = (h zero f refl, methods_low fs (λ s g at. h (suc s) g at))

  classes_formed : (cs : List ClassEntry) → ((k : ℕ) (class : ClassEntry) → entry cs k ≡ Some class → (length class.slots ≤ 30) × ((s f : ℕ) → entry class.slots s ≡ Some f → f < count)) → AllByRecursion (IsClassAmong count) (flat_classes cs)
  classes_formed [] h = tt
  classes_formed (x ∷ cs) h = (record { few = (h zero x refl).0; methods = methods_low x.slots (h zero x refl).1 }, classes_formed cs (λ k class at. h (suc k) class at))

  class_methods : (k : ℕ) (class : ClassEntry) → HasClass P k class → (length class.slots ≤ 30) × ((s f : ℕ) → entry class.slots s ≡ Some f → f < count)
  class_methods k class at = (few_slots k class at, λ s f there. (let m = (typed.classes k class at).slots s f there in function_there f m.2.0 m.2.2))

  pub program_formed : IsWellFormed (lowered P)
  program_formed = record {
    main = function_there P.main typed.main.0 typed.main.1;
    functions = subst (λ k. AllByRecursion (IsFunctionAmong count k) (lowered P).functions) (sym (classes_long P.classes))
        (all_behind (IsFunctionAmong count (length P.classes)) (lowered_routines P 0 P.functions) (repeating_functions (repeated_in_program P))
        (routines_formed 0 P.functions (λ f r at. let e : f ≡ 0 + f = omega arith in subst (λ x. HasRoutine P x r) e at)) (copies_formed (repeated_in_program P) (λ g i. i) repeated_low));
    classes = classes_formed P.classes class_methods;
  }
