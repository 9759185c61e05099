-- Constructors: the call of the base's first, then the initialisers, then their own statements.
use Rattle.std.proofs.Common.{◌≡◌, ℕ, zero, suc, ◌+◌, ◌^◌, ◌<◌, ◌≤◌, List, [], ◌∷◌, ◌++◌, length, drop, get_or, take, refl, ap, sym, ◌∙◌, subst, arith, length-drop, ◌-◌}
use Rattle.std.specs.Prelude.{Some, None, false}
use Rattle.sts_syntax.specs.declared.trees.Body.{Body, out-Body}
use Rattle.sts_syntax.specs.declared.trees.Param.{Param}
use Rattle.sts_syntax.specs.declared.trees.Stmt.{Stmt}
use Rattle.sts_syntax.specs.declared.typed.TypedBody.{TypedBody}
use Rattle.sts_syntax.specs.declared.typed.TypedStmt.{TypedStmt}
use Rattle.sts_syntax.specs.declared.types.Ty.{Ty}
use Rattle.sts_syntax.specs.Trees.{Trees, Routine, Statement, Statements, also, done}
use Rattle.sts_syntax.specs.Trees as t
use Rattle.sts_syntax.specs.Types as value
use Rattle.sts_syntax.specs.Types.{ValueType}
use Rattle.sts_syntax.specs.TypedTrees as e
use Rattle.sts_syntax.specs.TypedTrees.{TypedStatement, TypedStatements, TypedRoutine, TypedTrees}
use Rattle.sts_syntax.specs.TypedViews.{typed_statement, typed_statements, typed_routine, typed_routines}
use Rattle.sts_syntax.specs.Views.{statement, statements, routine, parameters}
use Rattle.sts_syntax.proofs.Laws.{routine_parts}
use Rattle.sts_scope.specs.declared.kinds.StaticType.{StaticType}
use Rattle.sts_scope.specs.declared.known.This.TheVariants as this
use Rattle.sts_scope.specs.Kinds as kind
use Rattle.sts_scope.specs.Lookup.{base_of}
use Rattle.sts_scope.specs.Rules.{maker_takes_of}
use Rattle.type_derive.specs.inner.Filled as b
use Rattle.typed_laws.specs.Programs.{◌before◌}
use Rattle.type_derive.specs.Heads.{SuperHead, head_of}
use Rattle.typed_trees.specs.declared.build_places.Builder.{Builder}
use Rattle.typed_trees.specs.declared.build_places.Plan.{Plan}
use Rattle.typed_trees.specs.Sites as s
use Rattle.typed_trees.specs.Steps.{IsBuilt}
use Rattle.typed_trees.specs.Functions as functions
use Rattle.text_sizes.specs.Numbered.{routine_numbered, statements_numbered}
use Rattle.typed_numbers.specs.Building.{numbering_of}
use Rattle.typed_trees.specs.Fits.{numbers_taken}
use Rattle.typed_trees.specs.Sites.{naming}
use Rattle.typed_program.specs.Wholes as w
use Rattle.typed_program.proofs.Before.{headed_made}
use Rattle.typed_program.proofs.AtMost.{constructor_at_most}
use Rattle.typed_trees.proofs.Laws.{drop_next, next_value, then, last, onto, StatementsGo}

-- without a base
pub without_base : (l : Plan) (st : b.Site) (inits : List TypedStatement) (all : Statements) → w.maker_statements l st None inits all ≡ w.behind_made l st inits all
unfolding w.maker_statements s.statements_made
without_base l st inits all = refl

pub without_any : (l : Plan) (st : b.Site) (base : ℕ) (inits : List TypedStatement) → w.maker_statements l st (Some base) inits done ≡ w.behind_made l st inits done
unfolding w.maker_statements s.statements_made
without_any l st base inits = refl

pub without_head : (l : Plan) (st : b.Site) (base : ℕ) (inits : List TypedStatement) (a : Statement) (rest : Statements) → head_of a ≡ None
    → w.maker_statements l st (Some base) inits (also a rest) ≡ w.behind_made l st inits (also a rest)
unfolding w.maker_statements s.statements_made
without_head l st base inits (t.Block j all) rest h = refl
without_head l st base inits (t.Let j fixed each) rest h = refl
without_head l st base inits (t.IfOnly j test a) rest h = refl
without_head l st base inits (t.IfElse j test a b) rest h = refl
without_head l st base inits (t.While j test a) rest h = refl
without_head l st base inits (t.DoWhile j a test) rest h = refl
without_head l st base inits (t.For j first test step a) rest h = refl
without_head l st base inits (t.ForOf j fixed x list a) rest h = refl
without_head l st base inits (t.Return j value) rest h = refl
without_head l st base inits (t.Break j) rest h = refl
without_head l st base inits (t.Continue j) rest h = refl
without_head l st base inits (t.Empty j) rest h = refl
without_head l st base inits (t.Plain j (t.Num at x)) rest h = refl
without_head l st base inits (t.Plain j (t.Text at x)) rest h = refl
without_head l st base inits (t.Plain j (t.Truth at x)) rest h = refl
without_head l st base inits (t.Plain j (t.Null at)) rest h = refl
without_head l st base inits (t.Plain j (t.This at)) rest h = refl
without_head l st base inits (t.Plain j (t.Name at x)) rest h = refl
without_head l st base inits (t.Plain j (t.Unary at op a)) rest h = refl
without_head l st base inits (t.Plain j (t.Binary at op a b)) rest h = refl
without_head l st base inits (t.Plain j (t.Both at a b)) rest h = refl
without_head l st base inits (t.Plain j (t.Either at a b)) rest h = refl
without_head l st base inits (t.Plain j (t.Choice at x a b)) rest h = refl
without_head l st base inits (t.Plain j (t.Set at op x a)) rest h = refl
without_head l st base inits (t.Plain j (t.Bump at x by after)) rest h = refl
without_head l st base inits (t.Plain j (t.Member at a x)) rest h = refl
without_head l st base inits (t.Plain j (t.Item at a i)) rest h = refl
without_head l st base inits (t.Plain j (t.Call at f args)) rest h = refl
without_head l st base inits (t.Plain j (t.Make at x args)) rest h = refl
without_head l st base inits (t.Plain j (t.Items at items)) rest h = refl
without_head l st base inits (t.Plain j (t.Handler at r)) rest h = refl
without_head l st base inits (t.Plain j (t.SuperCall at (Some m) args)) rest h = refl
without_head l st base inits (t.Plain j (t.SuperCall at None args)) rest h = absurd cc

pub with_head : (l : Plan) (st : b.Site) (base : ℕ) (inits : List TypedStatement) (a : Statement) (rest : Statements) (h : SuperHead) → head_of a ≡ Some h
    → w.maker_statements l st (Some base) inits (also a rest) ≡ headed_made l st base inits h.args rest
unfolding w.maker_statements s.statements_made s.given_made
with_head l st base inits (t.Block j all) rest h is = absurd cc
with_head l st base inits (t.Let j fixed each) rest h is = absurd cc
with_head l st base inits (t.IfOnly j test a) rest h is = absurd cc
with_head l st base inits (t.IfElse j test a b) rest h is = absurd cc
with_head l st base inits (t.While j test a) rest h is = absurd cc
with_head l st base inits (t.DoWhile j a test) rest h is = absurd cc
with_head l st base inits (t.For j first test step a) rest h is = absurd cc
with_head l st base inits (t.ForOf j fixed x list a) rest h is = absurd cc
with_head l st base inits (t.Return j value) rest h is = absurd cc
with_head l st base inits (t.Break j) rest h is = absurd cc
with_head l st base inits (t.Continue j) rest h is = absurd cc
with_head l st base inits (t.Empty j) rest h is = absurd cc
with_head l st base inits (t.Plain j (t.Num at x)) rest h is = absurd cc
with_head l st base inits (t.Plain j (t.Text at x)) rest h is = absurd cc
with_head l st base inits (t.Plain j (t.Truth at x)) rest h is = absurd cc
with_head l st base inits (t.Plain j (t.Null at)) rest h is = absurd cc
with_head l st base inits (t.Plain j (t.This at)) rest h is = absurd cc
with_head l st base inits (t.Plain j (t.Name at x)) rest h is = absurd cc
with_head l st base inits (t.Plain j (t.Unary at op a)) rest h is = absurd cc
with_head l st base inits (t.Plain j (t.Binary at op a b)) rest h is = absurd cc
with_head l st base inits (t.Plain j (t.Both at a b)) rest h is = absurd cc
with_head l st base inits (t.Plain j (t.Either at a b)) rest h is = absurd cc
with_head l st base inits (t.Plain j (t.Choice at x a b)) rest h is = absurd cc
with_head l st base inits (t.Plain j (t.Set at op x a)) rest h is = absurd cc
with_head l st base inits (t.Plain j (t.Bump at x by after)) rest h is = absurd cc
with_head l st base inits (t.Plain j (t.Member at a x)) rest h is = absurd cc
with_head l st base inits (t.Plain j (t.Item at a i)) rest h is = absurd cc
with_head l st base inits (t.Plain j (t.Call at f args)) rest h is = absurd cc
with_head l st base inits (t.Plain j (t.Make at x args)) rest h is = absurd cc
with_head l st base inits (t.Plain j (t.Items at items)) rest h is = absurd cc
with_head l st base inits (t.Plain j (t.Handler at r)) rest h is = absurd cc
with_head l st base inits (t.Plain j (t.SuperCall at (Some m) args)) rest h is = absurd cc
with_head l st base inits (t.Plain j (t.SuperCall at None args)) rest h is =
    let same : record { at = at; args = args } ≡ h = cc in
    ap (λ (y : SuperHead). headed_made l st base inits y.args rest) same

-- the first of some statements
pub statements_first : (xs : List Stmt) (x : Stmt) → 1 ≤ length xs → x ≡ get_or xs 0 x → statements xs ≡ also (statement x) (statements (drop 1 xs))
statements_first [] x l e = absurd (omega arith)
statements_first (y ∷ ys) x l e = ap (λ z. also (statement z) (statements ys)) (sym e)

pub statements_none : (xs : List Stmt) → length xs < 1 → statements xs ≡ done
statements_none [] l = refl
statements_none (y ∷ ys) l = absurd (omega arith)

take_whole : {A : Type 0} (xs : List A) (n : ℕ) → length xs ≤ n → take n xs ≡ xs
take_whole [] zero l = refl
take_whole [] (suc n) l = refl
take_whole (x ∷ xs) zero l = absurd (omega arith)
take_whole (x ∷ xs) (suc n) l = ap (λ ys. x ∷ ys) (take_whole xs n (omega arith))

pub rest_is : {A : Type 0} (xs : List A) → take (length xs - 1) (drop 1 xs) ≡ drop 1 xs
rest_is xs = take_whole (drop 1 xs) (length xs - 1) (omega (arith, length-drop 1 xs))

-- statements that are there, before others
pub onto_before : (xs : List TypedStmt) (ys : TypedStatements) → onto xs ys ≡ w.typed_list xs before ys
onto_before [] ys = refl
onto_before (x ∷ xs) ys = ap (λ (zs : TypedStatements). e.also (typed_statement x) zs) (onto_before xs ys)

pub behind_begins : (l : Plan) (st : b.Site) (c : Builder) (made : List TypedStmt) (xs : List Stmt) → StatementsGo l c (w.behind_made l st (w.typed_list made) (statements xs)) c st xs made
behind_begins l st c made xs d ys given =
    subst (λ (zs : TypedStatements). IsBuilt c d (w.behind_made l st (w.typed_list made) (statements xs)) zs) (sym (onto_before made ys))
    (last c d (s.statements_made l st (statements xs)) (λ zs. w.typed_list made before zs) ys given)

-- the call of the base's constructor comes before
pub headed_is : (l : Plan) (st : b.Site) (base : ℕ) (inits : List TypedStatement) (args : Trees) (rest : Statements) (b0 c d : Builder) (ys : TypedTrees) (first : List TypedStatement) (all : TypedStatements)
    → first ≡ w.super_called l base ys ∷ inits → IsBuilt b0 c (s.given_made l st (maker_takes_of l.known.now.classes base) args) ys
    → IsBuilt c d (w.behind_made l st first rest) all → IsBuilt b0 d (headed_made l st base inits args rest) all
headed_is l st base inits args rest b0 c d ys first all is given built =
    then b0 c d (s.given_made l st (maker_takes_of l.known.now.classes base) args) (λ zs. w.behind_made l st (w.super_called l base zs ∷ inits) rest) ys all given
    (subst (λ (q : List TypedStatement). IsBuilt c d (w.behind_made l st q rest) all) is built)

-- a type more
pub value_next : (old new : List Ty) (a : Ty) (d : StaticType) (ks : List StaticType) (i : ℕ) (all : List ValueType) → i < length ks → value.value_type a ≡ kind.value_type (get_or ks i d) → new ≡ old ++ a ∷ []
    → value.value_types old ++ kind.value_types (drop i ks) ≡ all → value.value_types new ++ kind.value_types (drop (i + 1) ks) ≡ all
value_next old new a d ks i all less e h inv =
    let r = drop_next ks i less in
    let rest = kind.value_types (drop (i + 1) ks) in
    let m : kind.value_types (drop i ks) ≡ kind.value_type (get_or ks i d) ∷ rest = ap (λ (q : List StaticType). kind.value_types q) r.2 ∙ ap (λ (q : StaticType). kind.value_type q ∷ rest) (sym (r.1 d)) in
    ap (λ (q : List Ty). value.value_types q ++ rest) h ∙ next_value old a (kind.value_type (get_or ks i d)) rest all (ap (λ q. value.value_types old ++ q) (sym m) ∙ inv) e

pub list_before : (xs : List TypedStmt) → w.typed_list xs before e.done ≡ typed_statements xs
list_before [] = refl
list_before (x ∷ xs) = ap (λ (zs : TypedStatements). e.also (typed_statement x) zs) (list_before xs)

-- a constructor that takes these, whose statements stand there, and those in it
abbrev both : Plan → ℕ → ℕ → List TypedStatement → List ValueType → b.Site → List Stmt → List TypedRoutine
both l c n inits vs st all =
    let made = functions.routine l vs (value.Object c) (w.maker_statements l st (base_of l.known.now.classes c) inits (statements all)) n in made.it ∷ made.routines

pub both_of : (l : Plan) (c n : ℕ) (inits : List TypedStatement) (vs : List ValueType) (st : b.Site) (all : List Stmt) (own : TypedBody) (inner : List TypedBody)
    → typed_routine own ≡ (functions.routine l vs (value.Object c) (w.maker_statements l st (base_of l.known.now.classes c) inits (statements all)) n).it
    → typed_routines inner ≡ (functions.routine l vs (value.Object c) (w.maker_statements l st (base_of l.known.now.classes c) inits (statements all)) n).routines
    → (typed_routine own ∷ typed_routines inner) ≡ both l c n inits vs st all
both_of l c n inits vs st all own inner eo ei =
    let made = functions.routine l vs (value.Object c) (w.maker_statements l st (base_of l.known.now.classes c) inits (statements all)) n in
    ap (λ q. q ∷ typed_routines inner) eo ∙ ap (λ q. made.it ∷ q) ei

-- it is that of a text, with what is taken from there
pub constructor_whole : (l : Plan) (c n : ℕ) (inits : List TypedStatement) (body : Body) (vs : List ValueType) (st : b.Site) (all : List Stmt)
    → vs ≡ value.Object c ∷ kind.value_types (w.written_takes l (out-Body body).params) → st ≡ functions.site_of l (this.Object c) (Some kind.nothing) false 1 (parameters (out-Body body).params) → all ≡ (out-Body body).stmts
    → both l c n inits vs st all ≡ w.constructor_made l c n inits (routine body)
unfolding w.maker_statements
constructor_whole l c n inits body vs st all e1 e2 e3 =
    (ap (λ q. both l c n inits q st all) e1 ∙ (ap (λ q. both l c n inits (value.Object c ∷ kind.value_types (w.written_takes l (out-Body body).params)) q all) e2
    ∙ ap (λ q. both l c n inits (value.Object c ∷ kind.value_types (w.written_takes l (out-Body body).params)) (functions.site_of l (this.Object c) (Some kind.nothing) false 1 (parameters (out-Body body).params)) q) e3))
    ∙ sym (ap (λ q. w.constructor_made l c n inits q) (routine_parts body))

-- 32 bits number it where they number what stands in its text
pub constructor_fits : (l : Plan) (c n : ℕ) (inits : List TypedStatement) (r : Routine) → n + suc (suc (routine_numbered r)) < 2 ^ 32 → n + numbers_taken (w.constructor_made l c n inits r) < 2 ^ 32
constructor_fits l c n inits r h =
    let a = constructor_at_most l.tables.now (naming l) l.known.now (numbering_of l.numbers.now) c n inits r in
    omega (arith, a, h)

parameters_long : (params : List Param) → length (parameters params) ≡ length params
parameters_long [] = refl
parameters_long (a ∷ rest) = ap suc (parameters_long rest)

pub params_few : (n : ℕ) (body : Body) → n + suc (suc (routine_numbered (routine body))) < 2 ^ 32 → 1 + length (out-Body body).params < 2 ^ 32
params_few n body h =
    let e : routine_numbered (routine body) ≡ length (parameters (out-Body body).params) + statements_numbered (statements (out-Body body).stmts) = ap routine_numbered (routine_parts body) in
    omega (arith, e, h, parameters_long (out-Body body).params)
