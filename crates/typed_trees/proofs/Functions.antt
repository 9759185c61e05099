-- Functions, part by part.
use Rattle.std.proofs.Common.{◌≡◌, ℕ, suc, min, ◌+◌, ◌-◌, ◌^◌, ◌<◌, List, [], ◌∷◌, ◌++◌, length, drop, get_or, Option, refl, ap, sym, ◌∙◌, append_assoc, arith, subst}
use Rattle.std.specs.Prelude.{unwrap_or}
use Rattle.sts_syntax.specs.declared.types.Ty.{Ty}
use Rattle.sts_syntax.specs.declared.trees.Param.{Param}
use Rattle.sts_syntax.specs.Types as value
use Rattle.sts_syntax.specs.Types.{ValueType}
use Rattle.sts_syntax.specs.Views.{parameters, optional_annotation}
use Rattle.sts_scope.specs.declared.kinds.StaticType.{StaticType}
use Rattle.sts_scope.specs.Kinds as kind
use Rattle.sts_scope.specs.Entries.{Naming, written_kind, parameter_kinds}
use Rattle.sts_syntax.specs.declared.typed.TypedBody.{TypedBody}
use Rattle.sts_syntax.specs.declared.trees.Body.{Body, out-Body}
use Rattle.sts_syntax.specs.declared.trees.Stmt.{Stmt}
use Rattle.sts_syntax.specs.TypedTrees.{TypedStatements, TypedRoutine}
use Rattle.sts_syntax.specs.TypedViews.{typed_routine, typed_routines}
use Rattle.sts_syntax.specs.Views.{statements, routine}
use Rattle.sts_syntax.proofs.Laws.{routine_parts}
use Rattle.std.specs.Prelude.{Bool, false, Result, Ok, Err, OnOk}
use Rattle.sts_scope.specs.declared.known.This.TheVariants as this
use Rattle.type_derive.specs.inner.Filled as b
use Rattle.type_derive.specs.Making.{Made}
use Rattle.type_derive.specs.inner.Filling.{Making}
use Rattle.typed_trees.specs.declared.build_places.Builder.{Builder}
use Rattle.typed_trees.specs.declared.build_places.Plan.{Plan}
use Rattle.typed_trees.specs.Fits.{numbers_taken, RoutineFits}
use Rattle.typed_trees.specs.Steps.{IsBuilt}
use Rattle.typed_trees.specs.Sites as s
use Rattle.typed_trees.specs.Sites.{naming}
use Rattle.typed_trees.specs.Functions as functions
use Rattle.typed_trees.proofs.Listed.{next_value, drop_next}

-- one parameter's type more
pub types_next : (names : Naming) (params : List Param) (i : ℕ) (a : Param) (old new : List Ty) (t : Ty) (o : Option StaticType) (all : List ValueType) → i < length params → a ≡ get_or params i a
    → o ≡ written_kind names (optional_annotation a.shape) → value.value_type t ≡ kind.value_type (unwrap_or o kind.nothing) → new ≡ old ++ t ∷ []
    → value.value_types old ++ kind.value_types (parameter_kinds names (parameters (drop i params))) ≡ all
    → value.value_types new ++ kind.value_types (parameter_kinds names (parameters (drop (i + 1) params))) ≡ all
types_next names params i a old new t o all less at w e h inv =
    let r = drop_next params i less in
    let same : r.0 ≡ a = sym (r.1 a) ∙ sym at in
    let rest = kind.value_types (parameter_kinds names (parameters (drop (i + 1) params))) in
    let v = kind.value_type (unwrap_or (written_kind names (optional_annotation a.shape)) kind.nothing) in
    let m : kind.value_types (parameter_kinds names (parameters (drop i params))) ≡ v ∷ rest =
    ap (λ (q : List Param). kind.value_types (parameter_kinds names (parameters q))) r.2
    ∙ ap (λ (q : Param). kind.value_type (unwrap_or (written_kind names (optional_annotation q.shape)) kind.nothing) ∷ rest) same in
    ap (λ q. value.value_types q ++ rest) h
    ∙ next_value old t v rest all (ap (λ q. value.value_types old ++ q) (sym m) ∙ inv) (e ∙ ap (λ q. kind.value_type (unwrap_or q kind.nothing)) w)

pub routines_append : (xs ys : List TypedBody) → typed_routines (xs ++ ys) ≡ typed_routines xs ++ typed_routines ys
routines_append [] ys = refl
routines_append (x ∷ xs) ys = ap (λ q. typed_routine x ∷ q) (routines_append xs ys)

-- a function is put behind others, and those that stand in it behind it
pub added : (old mid new inner : List TypedBody) (own : TypedBody) → mid ≡ old ++ own ∷ [] → new ≡ mid ++ inner → typed_routines new ≡ typed_routines old ++ (typed_routine own ∷ typed_routines inner)
added old mid new inner own e h =
    ap (λ q. typed_routines q) h
    ∙ (routines_append mid inner ∙ (ap (λ q. q ++ typed_routines inner) (ap (λ q. typed_routines q) e ∙ routines_append old (own ∷ []))
    ∙ append_assoc (typed_routines old) (typed_routine own ∷ []) (typed_routines inner)))

-- a function with these parameters and this result, whose statements stand there, and those in it
abbrev both : Plan → ℕ → List ValueType → ValueType → b.Site → List Stmt → List TypedRoutine
both l n vs v st all = let m = functions.routine l vs v (s.statements_made l st (statements all)) n in m.it ∷ m.routines

both_same : (l : Plan) (n : ℕ) (vs vs' : List ValueType) (v v' : ValueType) (st st' : b.Site) (all all' : List Stmt) → vs ≡ vs' → v ≡ v' → st ≡ st' → all ≡ all' → both l n vs v st all ≡ both l n vs' v' st' all'
both_same l n vs vs' v v' st st' all all' e1 e2 e3 e4 =
    ap (λ q. both l n q v st all) e1 ∙ (ap (λ q. both l n vs' q st all) e2 ∙ (ap (λ q. both l n vs' v' q all) e3 ∙ ap (λ q. both l n vs' v' st' q) e4))

pub both_of : (l : Plan) (n : ℕ) (vs : List ValueType) (v : ValueType) (st : b.Site) (all : List Stmt) (own : TypedBody) (inner : List TypedBody)
    → typed_routine own ≡ (functions.routine l vs v (s.statements_made l st (statements all)) n).it → typed_routines inner ≡ (functions.routine l vs v (s.statements_made l st (statements all)) n).routines
    → (typed_routine own ∷ typed_routines inner) ≡ both l n vs v st all
both_of l n vs v st all own inner eo ei =
    let m = functions.routine l vs v (s.statements_made l st (statements all)) n in
    ap (λ q. q ∷ typed_routines inner) eo ∙ ap (λ q. m.it ∷ q) ei

-- it is that of a text, with what is taken from there
pub function_whole : (l : Plan) (library : Bool) (n : ℕ) (gives : Option StaticType) (body : Body) (vs : List ValueType) (v : ValueType) (st : b.Site) (all : List Stmt)
    → vs ≡ kind.value_types (parameter_kinds (naming l) (parameters (out-Body body).params)) → v ≡ functions.class_result l gives → st ≡ functions.site_of l this.Nowhere gives library 0 (parameters (out-Body body).params) → all ≡ (out-Body body).stmts
    → both l n vs v st all ≡ functions.function_made l library n gives (routine body)
unfolding s.statements_made
function_whole l library n gives body vs v st all e1 e2 e3 e4 = both_same l n vs _ v _ st _ all _ e1 e2 e3 e4 ∙ sym (ap (λ q. functions.function_made l library n gives q) (routine_parts body))

pub method_whole : (l : Plan) (class n : ℕ) (gives : Option StaticType) (body : Body) (vs : List ValueType) (v : ValueType) (st : b.Site) (all : List Stmt)
    → vs ≡ value.Object class ∷ kind.value_types (parameter_kinds (naming l) (parameters (out-Body body).params)) → v ≡ functions.class_result l gives → st ≡ functions.site_of l (this.Object class) gives false 1 (parameters (out-Body body).params) → all ≡ (out-Body body).stmts
    → both l n vs v st all ≡ functions.method_made l class n gives (routine body)
unfolding s.statements_made
method_whole l class n gives body vs v st all e1 e2 e3 e4 = both_same l n vs _ v _ st _ all _ e1 e2 e3 e4 ∙ sym (ap (λ q. functions.method_made l class n gives q) (routine_parts body))

-- where 32 bits number a function, they number its parameters
pub params_long : (names : Naming) (params : List Param) → length (kind.value_types (parameter_kinds names (parameters params))) ≡ length params
params_long names [] = refl
params_long names (p ∷ ps) = ap suc (params_long names ps)

pub function_few : (l : Plan) (library : Bool) (n : ℕ) (gives : Option StaticType) (body : Body) → n + numbers_taken (functions.function_made l library n gives (routine body)) < 2 ^ 32 → 0 + length (out-Body body).params < 2 ^ 32
function_few l library n gives body h =
    let ps = (out-Body body).params in
    let vs = kind.value_types (parameter_kinds (naming l) (parameters ps)) in
    let v = functions.class_result l gives in
    let st = functions.site_of l this.Nowhere gives library 0 (parameters ps) in
    let all = (out-Body body).stmts in
    let m = functions.routine l vs v (s.statements_made l st (statements all)) n in
    let few : n + (suc (length vs + length m.it.locals) + numbers_taken m.routines) < 2 ^ 32 =
    subst (λ (xs : List TypedRoutine). n + numbers_taken xs < 2 ^ 32) (sym (function_whole l library n gives body vs v st all refl refl refl refl)) h in
    omega (arith, few, params_long (naming l) ps)

pub method_few : (l : Plan) (class n : ℕ) (gives : Option StaticType) (body : Body) → n + numbers_taken (functions.method_made l class n gives (routine body)) < 2 ^ 32 → 1 + length (out-Body body).params < 2 ^ 32
method_few l class n gives body h =
    let ps = (out-Body body).params in
    let us = kind.value_types (parameter_kinds (naming l) (parameters ps)) in
    let v = functions.class_result l gives in
    let st = functions.site_of l (this.Object class) gives false 1 (parameters ps) in
    let all = (out-Body body).stmts in
    let m = functions.routine l (value.Object class ∷ us) v (s.statements_made l st (statements all)) n in
    let few : n + (suc (suc (length us) + length m.it.locals) + numbers_taken m.routines) < 2 ^ 32 =
    subst (λ (xs : List TypedRoutine). n + numbers_taken xs < 2 ^ 32) (sym (method_whole l class n gives body (value.Object class ∷ us) v st all refl refl refl refl)) h in
    omega (arith, few, params_long (naming l) ps)

-- what is put behind others is what is made
pub put_behind : {A E : Type 0} (r : Result A E) (old new : List TypedBody) (own : TypedBody) (inner : List TypedBody) (made : List TypedRoutine)
    → OnOk r (typed_routines new ≡ typed_routines old ++ (typed_routine own ∷ typed_routines inner)) → (typed_routine own ∷ typed_routines inner) ≡ made → OnOk r (typed_routines new ≡ typed_routines old ++ made)
put_behind (Ok x) old new own inner made h e = h ∙ ap (λ q. typed_routines old ++ q) e
put_behind (Err x) old new own inner made h e = tt

abbrev pub routine_of : List ValueType → List ValueType → ValueType → TypedStatements → TypedRoutine
routine_of params locals gives all = record { params = params; locals = locals; gives = gives; all = all }

-- a function is made of its statements, which were built from its own number on
pub routine_built : (l : Plan) (vs : List ValueType) (v : ValueType) (f : Making TypedStatements) (n : ℕ) (b c : Builder) (xs : TypedStatements)
    → b.local ≡ 0 → b.function ≡ min (n + 1) (2 ^ 32 - 1) → value.value_types b.locals ≡ [] → typed_routines b.routines ≡ [] → IsBuilt b c f xs
    → RoutineFits n (functions.routine l vs v f n)
    → (routine_of vs (value.value_types c.locals) v xs ≡ (functions.routine l vs v f n).it)
    × ((typed_routines c.routines ≡ (functions.routine l vs v f n).routines) × (c.function ≡ n + 1 + length (functions.routine l vs v f n).routines))
routine_built l vs v f n b c xs e0 en el er built fits =
    let M : Made TypedStatements = f 0 (suc n) in
    let few : n + (suc (length vs + length M.locals) + numbers_taken M.routines) < 2 ^ 32 = fits in
    let next : b.function ≡ suc n = omega (arith, en, few) in
    let E : f b.local b.function ≡ M = ap (λ (i : ℕ). f i b.function) e0 ∙ ap (λ (j : ℕ). f 0 j) next in
    let L = ap (λ (q : Made TypedStatements). length q.locals) E in
    let R = ap (λ (q : Made TypedStatements). length q.routines) E in
    let N = ap (λ (q : Made TypedStatements). numbers_taken q.routines) E in
    let l_fits : b.local + length (f b.local b.function).locals < 2 ^ 32 = omega (arith, few, e0, L) in
    let f_fits : b.function + numbers_taken (f b.local b.function).routines < 2 ^ 32 = omega (arith, few, next, N) in
    let (ex, (lx, (rx, (mx, nx)))) = built (l_fits, f_fits) in
    let it : xs ≡ M.it = ex ∙ ap (λ (q : Made TypedStatements). q.it) E in
    let locals : value.value_types c.locals ≡ M.locals = lx ∙ ap (λ (us : List ValueType). us ++ (f b.local b.function).locals) el ∙ ap (λ (q : Made TypedStatements). q.locals) E in
    let routines : typed_routines c.routines ≡ M.routines = rx ∙ ap (λ (us : List TypedRoutine). us ++ (f b.local b.function).routines) er ∙ ap (λ (q : Made TypedStatements). q.routines) E in
    let behind : c.function ≡ n + 1 + length M.routines = omega (arith, nx, next, R) in (
      ap (λ (us : List ValueType). routine_of vs us v xs) locals ∙ ap (λ (q : TypedStatements). routine_of vs M.locals v q) it,
      (routines, behind),
    )
