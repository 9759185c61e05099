-- Accepted texts, and the limits that their test says.
use Rattle.std.proofs.Common.{◌≡◌, ℕ, zero, suc, ◌&&◌, sym, ap, ◌∙◌, subst, Bool, true, Option, Some, None, List, [], ◌∷◌, length, arith, leb-true}
use Rattle.std.specs.Prelude.{All, nat_le}
use Rattle.std.specs.List.{list_all}
use Rattle.sts_base.specs.declared.tables.Tables.{Tables}
use Rattle.sts_base.specs.declared.refused.Code.TheVariants.{OverLimit}
use Rattle.sts_syntax.specs.Measures.{pending_words}
use Rattle.sts_syntax.specs.Nodes.{text_bytes, text_weight}
use Rattle.sts_syntax.specs.Programs.{Program}
use Rattle.sts_syntax.specs.TypedTrees.{TypedRoutine, ClassEntry, TypedProgram}
use Rattle.sts_syntax.specs.Weights.{weight}
use Rattle.sts_syntax.specs.WellTypedPrograms.{IsWellTyped, IsWithinLimits, IsClassWithinLimits, IsProgramWithinLimits}
use Rattle.sts_scope.specs.declared.kinds.StaticType.{StaticType}
use Rattle.type_derive.specs.Derived.{AreDerived}
use Rattle.typed_laws.specs.Accepted.{IsAccepted, typed, text_failure, limits_failure}
use Rattle.typed_laws.specs.inner.FilledTexts.{filled_program}
use Rattle.sts_scope.specs.Failures.{Failure}
use Rattle.type_derive.specs.Typing.{◌>>=◌}
use Rattle.typed_laws.specs.Formed.{IsFormedProgram}
use Rattle.typed_limits.specs.Limits.{routine_fits, class_fits, program_fits}
use Rattle.typed_laws.specs.Libraries.{IsLibrary}
use Rattle.typed_laws.proofs.OneNode.{both_true}
use Rattle.typed_laws.proofs.Typed.{unless_true, first, last}
use Rattle.typed_laws.proofs.Rounds.{kinds_proper}
use Rattle.typed_laws.proofs.BuiltTexts.{texts_built}
use Rattle.typed_laws.proofs.Names.{some_is}
use Rattle.typed_laws.proofs.Whole.{well_typed}

all_of : {A : Type 0} (Q : A → Type 0) (test : A → Bool) (xs : List A) → ((x : A) → test x ≡ true → Q x) → list_all test xs ≡ true → All Q xs
all_of {A} Q test [] f h i d near = absurd (omega arith)
all_of {A} Q test (x ∷ xs) f h zero d near = f x (both_true (test x) (list_all test xs) h).0
all_of {A} Q test (x ∷ xs) f h (suc i) d near = all_of Q test xs f (both_true (test x) (list_all test xs) h).1 i d (omega arith)

module _ (P : TypedProgram) where
  routine_within : (r : TypedRoutine) → routine_fits r ≡ true → IsWithinLimits P r
  routine_within r h =
      let (a, w) = both_true (nat_le (length r.params) 8 && nat_le (length r.locals) 64 && nat_le (pending_words r) 64) (nat_le (weight r) 1200) h in
      let (b, p) = both_true (nat_le (length r.params) 8 && nat_le (length r.locals) 64) (nat_le (pending_words r) 64) a in
      let (c, l) = both_true (nat_le (length r.params) 8) (nat_le (length r.locals) 64) b in
      record { params = leb-true (length r.params) 8 c; locals = leb-true (length r.locals) 64 l; pending = leb-true (pending_words r) 64 p; weight = leb-true (weight r) 1200 w }

  class_within : (c : ClassEntry) → class_fits c ≡ true → IsClassWithinLimits P c
  class_within c h =
      let (a, b) = both_true (nat_le (length c.fields) 30) (nat_le (length c.slots) 30) h in
      record { fields = leb-true (length c.fields) 30 a; slots = leb-true (length c.slots) 30 b }

  program_within : (texts : List (List ℕ)) → program_fits texts P ≡ true → IsProgramWithinLimits P texts
  program_within texts h =
      let G : Bool = nat_le (length P.globals) 256 in
      let C : Bool = nat_le (length P.classes) 64 in
      let E : Bool = list_all class_fits P.classes in
      let F : Bool = list_all routine_fits P.functions in
      let W : Bool = nat_le (text_weight P) 3600 in
      let B : Bool = nat_le (text_bytes texts P) 16384 in
      let (h5, b) = both_true (G && C && E && F && W) B h in
      let (h4, w) = both_true (G && C && E && F) W h5 in
      let (h3, f) = both_true (G && C && E) F h4 in
      let (h2, e) = both_true (G && C) E h3 in
      let (g, c) = both_true G C h2 in
      record {
        globals = leb-true (length P.globals) 256 g;
        classes = leb-true (length P.classes) 64 c;
        each_class = all_of (IsClassWithinLimits P) class_fits P.classes class_within e;
        functions = all_of (IsWithinLimits P) routine_fits P.functions routine_within f;
        weight = leb-true (text_weight P) 3600 w;
        bytes = leb-true (text_bytes texts P) 16384 b;
      }

pub accepted : (tables : Tables) (library text : Program) (P : TypedProgram) → IsFormedProgram text → ((kinds : List (Option StaticType)) → AreDerived tables library text kinds → IsLibrary tables library text kinds)
    → IsAccepted tables library text P → IsWellTyped P × IsProgramWithinLimits P tables.texts
accepted tables library text P formed libraries (kinds, derived, no_failure, is) =
    let ok : IsLibrary tables library text kinds = libraries kinds derived in
    let T : TypedProgram = filled_program tables library text kinds in
    let limits : Option TypedProgram → Option Failure = λ z. z >>= λ p. limits_failure tables.texts p in
    let none : text_failure tables library text kinds ≡ None = first (text_failure tables library text kinds) (limits (typed tables library text kinds)) no_failure in
    let built : typed tables library text kinds ≡ Some T = texts_built tables library text kinds derived ok none in
    let limits_none : limits_failure tables.texts T ≡ None = sym (ap limits built) ∙ last (text_failure tables library text kinds) (limits (typed tables library text kinds)) no_failure in
    let proper_so = kinds_proper tables library text kinds derived in
    let sound : IsWellTyped T = well_typed tables library text kinds derived ok formed none proper_so in
    let within_so : IsProgramWithinLimits T tables.texts = program_within T tables.texts (unless_true (program_fits tables.texts T) OverLimit 0 limits_none) in
    subst (λ (p : TypedProgram). IsWellTyped p × IsProgramWithinLimits p tables.texts) (some_is T P (sym built ∙ is)) (sound, within_so)
