-- The functions and classes of flat code, made one by one.
use Rattle.std.proofs.Common.{◌≡◌, ℕ, zero, suc, ◌+◌, ◌*◌, ◌<◌, ◌≤◌, ◌^◌, List, [], ◌∷◌, ◌++◌, length, get_or, drop, refl, sym, ap, subst, ◌∙◌, Bool, Some, add-one, arith, length-drop}
use Rattle.std.specs.List.{All, AllByRecursion}
use Rattle.std.proofs.lemmas.List.Elements.{All-head, All-tail}
use Rattle.flat_ir.specs.declared.ops.Op.{Op}
use Rattle.sts_syntax.specs.declared.typed.TypedBody.{TypedBody}
use Rattle.sts_syntax.specs.TypedTrees.{TypedRoutine, ClassEntry, TypedProgram}
use Rattle.sts_syntax.specs.TypedViews.{typed_routine, typed_routines}
use Rattle.sts_syntax.specs.TypeRules.{entry}
use Rattle.sts_syntax.specs.Measures.{pending_words, outgoing_words}
use Rattle.sts_syntax.specs.Weights.{routines_weight}
use Rattle.sts_syntax.specs.BoardTable.{library_size}
use Rattle.sts_syntax.specs.WellTypedPrograms.{IsWellTyped, IsWithinLimits, IsClassWithinLimits, IsProgramWithinLimits, setting, base_of_maker, is_maker}
use Rattle.sts_syntax.proofs.Laws.{drop_at}
use Rattle.sts_lower.specs.Sizes.{statements_size}
use Rattle.sts_lower.specs.Statements.{statements_code, bare_code}
use Rattle.sts_lower.specs.Repeated.{before}
use Rattle.sts_lower.specs.Lowered.{repeating, repeated_in_program, lowered_routine, lowered_routines}
use Rattle.sts_lower.specs.inner.Works.{routine_of, routines_of}
use Rattle.sts_lower.specs.inner.Fitting.{IsLowerableRoutine, HasFewFields}
use Rattle.sts_lower.proofs.Lowerable.{body_is}
use Rattle.sts_lower.proofs.Bounds.{in_each_le}

pub routine_made : (classes : List ClassEntry) (repeating : ℕ → ℕ) (maker : Bool) (r : TypedRoutine) (params locals operands outgoing : ℕ) (ops : List Op)
    → params ≡ length r.params → locals ≡ length r.locals → operands ≡ pending_words r → outgoing ≡ outgoing_words r
    → ops ≡ statements_code classes repeating params (params + locals) maker r.all 0 (statements_size maker r.all) (statements_size maker r.all) (statements_size maker r.all) ++ bare_code maker (params + locals)
    → record { params = params; locals = locals; operands = operands; outgoing = outgoing; ops = ops } ≡ routine_of classes repeating maker r
routine_made classes repeating maker r params locals operands outgoing ops p l o g s =
    let code : ℕ → ℕ → List Op =
    λ a b. statements_code classes repeating a (a + b) maker r.all 0 (statements_size maker r.all) (statements_size maker r.all) (statements_size maker r.all) ++ bare_code maker (a + b)
    in
    let same : ops ≡ code (length r.params) (length r.locals) = s ∙ ap (λ a. code a locals) p ∙ ap (λ b. code (length r.params) b) l in
    cc

-- one function further
pub routines_next : (classes : List ClassEntry) (repeating : ℕ → ℕ) (f : ℕ) (bodies : List TypedBody) (i : ℕ) (body : TypedBody) → i < length bodies → body ≡ get_or bodies i body
    → routines_of classes repeating f (typed_routines (drop i bodies))
    ≡ routine_of classes repeating (is_maker classes f) (typed_routine body) ∷ routines_of classes repeating (f + 1) (typed_routines (drop (i + 1) bodies))
routines_next classes repeating f bodies i body lt is =
    ap (λ all. routines_of classes repeating f (typed_routines all)) (drop_at bodies i body lt)
    ∙ ap (λ b. routine_of classes repeating (is_maker classes f) (typed_routine b) ∷ routines_of classes repeating (suc f) (typed_routines (drop (i + 1) bodies))) (sym is)
    ∙ ap (λ n. routine_of classes repeating (is_maker classes f) (typed_routine body) ∷ routines_of classes repeating n (typed_routines (drop (i + 1) bodies))) (sym (add-one f))

same_routines : (P : TypedProgram) (f : ℕ) (all : List TypedRoutine) → routines_of P.classes (repeating P) f all ≡ lowered_routines P f all
same_routines P f [] = refl
same_routines P f (r ∷ rest) = ap (λ xs. lowered_routine P f r ∷ xs) (same_routines P (suc f) rest)

pub routines_made : (P : TypedProgram) (n : ℕ) (repeated : List ℕ) → n ≡ length P.functions → repeated ≡ repeated_in_program P
    → routines_of P.classes (λ g. n + before repeated g) 0 P.functions ≡ lowered_routines P 0 P.functions
routines_made P n repeated few same =
    ap (λ m. routines_of P.classes (λ g. m + before repeated g) 0 P.functions) few
    ∙ ap (λ xs. routines_of P.classes (λ g. length P.functions + before xs g) 0 P.functions) same ∙ same_routines P 0 P.functions

pub routines_length : (bodies : List TypedBody) → length (typed_routines bodies) ≡ length bodies
routines_length [] = refl
routines_length (x ∷ rest) = ap suc (routines_length rest)

by_recursion : {X : Type 0} (Q : X → Type 0) (xs : List X) → All Q xs → AllByRecursion Q xs
by_recursion Q [] all = tt
by_recursion Q (x ∷ xs) all = (All-head Q x xs all, by_recursion Q xs (All-tail Q x xs all))

at_entry : {X : Type 0} (Q : X → Type 0) (xs : List X) (i : ℕ) (x : X) → AllByRecursion Q xs → entry xs i ≡ Some x → Q x
at_entry Q [] i x all is = absurd (cc)
at_entry Q (y ∷ ys) zero x all is = let e : y ≡ x = cc in subst Q e all.0
at_entry Q (y ∷ ys) (suc i) x all is = at_entry Q ys i x all.1 is

each_entry : {X : Type 0} (Q : X → Type 0) (xs : List X) → ((i : ℕ) (x : X) → entry xs i ≡ Some x → Q x) → AllByRecursion Q xs
each_entry Q [] all = tt
each_entry Q (x ∷ xs) all = (all 0 x refl, each_entry Q xs (λ i y is. all (suc i) y is))

pub all_lowerable : (P : TypedProgram) (texts : List (List ℕ)) → IsWellTyped P → IsProgramWithinLimits P texts → AllByRecursion IsLowerableRoutine P.functions
all_lowerable P texts typed limits =
    each_entry IsLowerableRoutine P.functions
    (λ f r is.
    let within = at_entry (IsWithinLimits P) P.functions f r (by_recursion (IsWithinLimits P) P.functions limits.functions) is in
    record {
      params = within.params;
      locals = within.locals;
      pending = within.pending;
      weight = within.weight;
      statements = body_is P (setting P f r) (length r.params) (omega (arith, within.params, within.locals)) (base_of_maker P P.classes f) r.all ((typed.functions f r is).body);
    })

class_fields : (P : TypedProgram) (classes : List ClassEntry) → AllByRecursion (IsClassWithinLimits P) classes → AllByRecursion HasFewFields classes
class_fields P [] all = tt
class_fields P (c ∷ cs) all = (all.0.fields, class_fields P cs all.1)

pub few_fields : (P : TypedProgram) (texts : List (List ℕ)) → IsProgramWithinLimits P texts → AllByRecursion HasFewFields P.classes
few_fields P texts limits = class_fields P P.classes (by_recursion (IsClassWithinLimits P) P.classes limits.each_class)

light : (all : List TypedRoutine) → 4 * length all ≤ routines_weight all
light [] = omega arith
light (r ∷ rest) = omega (arith, light rest)

heavy : (P : TypedProgram) (all : List TypedRoutine) → AllByRecursion (IsWithinLimits P) all → routines_weight all ≤ 1200 * length all
heavy P [] all = omega arith
heavy P (r ∷ rest) all = omega (arith, all.0.weight, heavy P rest all.1)

pub few_functions : (P : TypedProgram) (texts : List (List ℕ)) → IsProgramWithinLimits P texts → length P.functions + length (repeated_in_program P) < 2 ^ 32
few_functions P texts limits =
    omega (
      arith,
      in_each_le P.functions,
      heavy P P.functions (by_recursion (IsWithinLimits P) P.functions limits.functions),
      light (drop library_size P.functions),
      length-drop library_size P.functions,
      limits.weight,
    )
