-- Statements by their forms, and what is built of two or three pieces.
use Rattle.std.proofs.Common.{◌≡◌, ℕ, refl, ap, Option, Some, None, List, [], ◌∷◌, ◌++◌, ◌+◌, ◌^◌, ◌<◌, length, sym, ◌∙◌, append_assoc, arith, subst}
use Rattle.std.specs.Prelude.{Bool, Result, Ok, IfOk}
use Rattle.std.specs.declared.alloc.Global.{Global}
use Rattle.std.specs.declared.boxed.Box.{Box}
use Rattle.sts_syntax.specs.declared.trees.Expr.{Expr}
use Rattle.sts_syntax.specs.declared.trees.Stmt.{Stmt}
use Rattle.sts_syntax.specs.declared.trees.Form.TheVariants as f
use Rattle.sts_syntax.specs.Trees.{IfOnly, IfElse, While, DoWhile, For, ForOf, Return, Plain, omitted, written}
use Rattle.sts_syntax.specs.Views.{tree, statement, form_statement, optional_expression}
use Rattle.sts_syntax.specs.Types.{ValueType, value_types}
use Rattle.sts_syntax.specs.Annotations.{Annotation}
use Rattle.sts_syntax.specs.TypedTrees.{TypedTree, TypedRoutine, OptionalTypedStatement}
use Rattle.sts_scope.specs.declared.kinds.StaticType.{StaticType}
use Rattle.sts_scope.specs.Entries.{written_kind}
use Rattle.sts_syntax.specs.TypedViews.{typed_routines}
use Rattle.type_derive.specs.Making.{Made}
use Rattle.type_derive.specs.inner.Filling.{Making, pure, ◌>=>◌, a_local}
use Rattle.sts_syntax.specs.Trees.{OptionalTree, absent, present}
use Rattle.type_derive.specs.Built.{Site}
use Rattle.typed_trees.specs.Sites as s
use Rattle.typed_trees.specs.declared.build_places.Plan.{Plan}
use Rattle.typed_trees.specs.Fits.{numbers_taken}
use Rattle.typed_trees.specs.Steps.{IsBuilt, turns_made, turns_of}
use Rattle.typed_trees.specs.declared.build_places.Builder.{Builder}
use Rattle.typed_trees.proofs.Pieces.{then, last}

pub if_only_is : (q : Stmt) (c : Expr) (a : Box Stmt Global) → q.form ≡ f.If c a None → statement q ≡ IfOnly q.at (tree c) (statement a.value)
if_only_is q c a is = ap (form_statement q.at) is

pub if_else_is : (q : Stmt) (c : Expr) (a b : Box Stmt Global) → q.form ≡ f.If c a (Some b) → statement q ≡ IfElse q.at (tree c) (statement a.value) (statement b.value)
if_else_is q c a b is = ap (form_statement q.at) is

pub while_is : (q : Stmt) (c : Expr) (a : Box Stmt Global) → q.form ≡ f.While c a → statement q ≡ While q.at (tree c) (statement a.value)
while_is q c a is = ap (form_statement q.at) is

pub do_while_is : (q : Stmt) (a : Box Stmt Global) (c : Expr) → q.form ≡ f.DoWhile a c → statement q ≡ DoWhile q.at (statement a.value) (tree c)
do_while_is q a c is = ap (form_statement q.at) is

pub for_is : (q : Stmt) (c step : Option Expr) (a : Box Stmt Global) → q.form ≡ f.For None c step a → statement q ≡ For q.at omitted (optional_expression c) (optional_expression step) (statement a.value)
for_is q None None a is = ap (form_statement q.at) is
for_is q None (Some y) a is = ap (form_statement q.at) is
for_is q (Some x) None a is = ap (form_statement q.at) is
for_is q (Some x) (Some y) a is = ap (form_statement q.at) is

pub for_first_is : (q : Stmt) (first : Box Stmt Global) (c step : Option Expr) (a : Box Stmt Global) → q.form ≡ f.For (Some first) c step a
    → statement q ≡ For q.at (written (statement first.value)) (optional_expression c) (optional_expression step) (statement a.value)
for_first_is q first None None a is = ap (form_statement q.at) is
for_first_is q first None (Some y) a is = ap (form_statement q.at) is
for_first_is q first (Some x) None a is = ap (form_statement q.at) is
for_first_is q first (Some x) (Some y) a is = ap (form_statement q.at) is

pub for_of_is : (q : Stmt) (fixed : Bool) (x : ℕ) (list : Expr) (a : Box Stmt Global) → q.form ≡ f.ForOf fixed x list a → statement q ≡ ForOf q.at fixed x (tree list) (statement a.value)
for_of_is q fixed x list a is = ap (form_statement q.at) is

pub of_two : {A B C : Type 0} (b c d : Builder) (f : Making A) (g : Making B) (h : A → B → C) (x : A) (y : B)
    → IsBuilt b c f x → IsBuilt c d g y → IsBuilt b d (f >=> λ k. g >=> λ l. pure (h k l)) (h x y)
of_two b c d f g h x y one two = then b c d f (λ k. g >=> λ l. pure (h k l)) x (h x y) one (last c d g (h x) y two)

pub of_three : {A B C D : Type 0} (b c d e : Builder) (f : Making A) (g : Making B) (i : Making C) (h : A → B → C → D) (x : A) (y : B) (z : C)
    → IsBuilt b c f x → IsBuilt c d g y → IsBuilt d e i z → IsBuilt b e (f >=> λ k. g >=> λ l. i >=> λ m. pure (h k l m)) (h x y z)
of_three b c d e f g i h x y z one two three = then b c e f (λ k. g >=> λ l. i >=> λ m. pure (h k l m)) x (h x y z) one (of_two c d e g i (h x) y z two three)

-- three locals, the first of which has a name
pub three_locals : {B : Type 0} (c d e : Builder) (u v w : ValueType) (rest : ℕ → Making B) (y : B)
    → value_types d.locals ≡ value_types c.locals ++ u ∷ v ∷ w ∷ [] → typed_routines d.routines ≡ typed_routines c.routines → (c.local + 3 < 2 ^ 32 → d.local ≡ c.local + 3) → d.function ≡ c.function → IsBuilt d e (rest c.local) y
    → IsBuilt c e (a_local u (λ i. i) >=> λ i. a_local v (λ j. j) >=> λ j. a_local w (λ k. k) >=> λ k. rest i) y
three_locals {B} c d e u v w rest y hl hr hm hf built fits =
    let m = c.local + 1 + 1 + 1 in
    let n = c.function + 0 + 0 + 0 in
    let R : Made B = rest c.local m n in
    let few : c.local + length (u ∷ v ∷ w ∷ R.locals) < 2 ^ 32 = fits.0 in
    let taken : c.function + numbers_taken R.routines < 2 ^ 32 = fits.1 in
    let three : d.local ≡ c.local + 3 = hm (omega (arith, few)) in
    let mm : d.local ≡ m = omega (arith, three) in
    let nn : d.function ≡ n = omega (arith, hf) in
    let E : rest c.local d.local d.function ≡ R = ap (λ (i : ℕ). rest c.local i d.function) mm ∙ ap (λ (j : ℕ). rest c.local m j) nn in
    let L = ap (λ (q : Made B). q.locals) E in
    let T = ap (λ (q : Made B). q.routines) E in
    let l' = ap (λ (us : List ValueType). length us) L in
    let t' = ap (λ (us : List TypedRoutine). length us) T in
    let k' = ap (λ (us : List TypedRoutine). numbers_taken us) T in
    let l_fits : d.local + length (rest c.local d.local d.function).locals < 2 ^ 32 = omega (arith, few, three, l') in
    let f_fits : d.function + numbers_taken (rest c.local d.local d.function).routines < 2 ^ 32 = omega (arith, taken, hf, k') in
    let (ey, (ly, (ry, (my, ny)))) = built (l_fits, f_fits) in
    let locals : value_types e.locals ≡ value_types c.locals ++ u ∷ v ∷ w ∷ R.locals =
    ly ∙ ap (λ (us : List ValueType). value_types d.locals ++ us) L ∙ ap (λ (us : List ValueType). us ++ R.locals) hl ∙ append_assoc (value_types c.locals) (u ∷ v ∷ w ∷ []) R.locals in
    let routines : typed_routines e.routines ≡ typed_routines c.routines ++ R.routines =
    ry ∙ ap (λ (us : List TypedRoutine). typed_routines d.routines ++ us) T ∙ ap (λ (us : List TypedRoutine). us ++ R.routines) hr in
    let local : e.local ≡ c.local + length (u ∷ v ∷ w ∷ R.locals) = omega (arith, my, three, l') in
    let function : e.function ≡ c.function + length R.routines = omega (arith, ny, hf, t') in
    (ey ∙ ap (λ (q : Made B). q.it) E, (locals, (routines, (local, function))))

pub from_ok : {A E : Type 0} (r : Result A E) (x : A) (P : A → Type 0) → r ≡ Ok x → IfOk r P → P x
from_ok r x P is h = subst (λ q. IfOk q P) is h

pub return_is : (q : Stmt) (value : Option Expr) → q.form ≡ f.Return value → statement q ≡ Return q.at (optional_expression value)
return_is q None is = ap (form_statement q.at) is
return_is q (Some x) is = ap (form_statement q.at) is

pub plain_is : (q : Stmt) (a : Expr) → q.form ≡ f.Plain a → statement q ≡ Plain q.at (tree a)
plain_is q a is = ap (form_statement q.at) is

pub optional_is : (p : Plan) (st : Site) (o : OptionalTree) → s.value_made p st None o ≡ s.optional_made p st o
unfolding s.value_made s.optional_made
optional_is p st absent = refl
optional_is p st (present a) = refl

pub turns_is : (p : Plan) (st : Site) (g : OptionalTypedStatement) (q : Stmt) (first : Option (Box Stmt Global)) (c step : Option Expr) (a : Box Stmt Global) → q.form ≡ f.For first c step a
    → turns_made p st g (statement q) ≡ turns_of p st g (optional_expression c) (optional_expression step) (statement a.value)
turns_is p st g q None c step a is = ap (turns_made p st g) (for_is q c step a is)
turns_is p st g q (Some first) c step a is = ap (turns_made p st g) (for_first_is q first c step a is)

-- an expression that may be left out, and one that is there
pub value_built : (p : Plan) (st : Site) (g : Option StaticType) (q : Option Expr) (a : Expr) (c d : Builder) (it : TypedTree) → q ≡ Some a → IsBuilt c d (s.tree_made p st g (tree a)) it → IsBuilt c d (s.value_made p st g (optional_expression q)) (Some it)
unfolding s.value_made s.tree_made
value_built p st g q a c d it is built = subst (λ (o : Option Expr). IsBuilt c d (s.value_made p st g (optional_expression o)) (Some it)) (sym is) (last c d (s.tree_made p st g (tree a)) (λ y. Some y) it built)

-- an initialiser that is there
pub first_built : (p : Plan) (st : Site) (shape : Option Annotation) (q : Option Expr) (a : Expr) (g : Option StaticType) (c d : Builder) (it : TypedTree)
    → q ≡ Some a → g ≡ written_kind (s.naming p) shape → IsBuilt c d (s.tree_made p st g (tree a)) it → IsBuilt c d (s.first_made p st shape (optional_expression q)) (Some it)
unfolding s.first_made s.tree_made
first_built p st shape q a g c d it is given built =
    let W = written_kind (s.naming p) shape in
    subst (λ (o : Option Expr). IsBuilt c d (s.first_made p st shape (optional_expression o)) (Some it)) (sym is)
    (last c d (s.tree_made p st W (tree a)) (λ y. Some y) it (subst (λ (w : Option StaticType). IsBuilt c d (s.tree_made p st w (tree a)) it) given built))
