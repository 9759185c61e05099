-- Statements of the main program, and the globals that they declare.
use Rattle.std.proofs.Common.{◌≡◌, ℕ, suc, ◌+◌, ◌<◌, ◌≤◌, List, [], ◌∷◌, ◌++◌, length, drop, get_or, refl, ap, sym, ◌∙◌, subst, append-nil, add-one}
use Rattle.std.specs.Prelude.{Some, None, Bool}
use Rattle.sts_syntax.specs.declared.trees.Binding.{Binding}
use Rattle.sts_syntax.specs.declared.typed.TypedBinding.{TypedBinding}
use Rattle.sts_syntax.specs.Trees.{Statement, Declaration, Declare, Declarations}
use Rattle.sts_syntax.specs.Trees as t
use Rattle.sts_syntax.specs.TypedTrees.{TypedDeclaration}
use Rattle.sts_syntax.specs.TypedViews.{typed_declaration, typed_declarations}
use Rattle.sts_syntax.specs.Views.{declaration, declarations}
use Rattle.sts_scope.proofs.Laws.{drop_at}
use Rattle.sts_scope.specs.declared.known.This.TheVariants as this
use Rattle.sts_scope.specs.Entries.{global_entries, main_entries}
use Rattle.type_derive.specs.inner.Filling.{Making, pure, ◌>=>◌}
use Rattle.sts_scope.specs.Numbers.{global_number}
use Rattle.type_derive.specs.Heads.{Declares, lets_of}
use Rattle.typed_trees.specs.declared.build_places.Builder.{Builder}
use Rattle.typed_trees.specs.declared.build_places.Plan.{Plan}
use Rattle.typed_trees.specs.Sites as s
use Rattle.typed_trees.specs.Steps.{IsBuilt}
use Rattle.typed_program.specs.Wholes as w
use Rattle.typed_trees.proofs.Laws.{then, last, stays, drop_all}

-- a global, by its number
pub declared_is : (l : Plan) (d : ℕ) (a : Declaration) → w.global_made l (w.outer_site this.Nowhere) (global_number l.known.now d) a ≡ w.declared_made l d a
unfolding s.first_made
declared_is l d (Declare at x shape first) = refl

-- what is built so far, with what is left, is the whole
abbrev pub GlobalsGo : Plan → Builder → Making (List TypedDeclaration) → Builder → ℕ → List Binding → List TypedBinding → Type 0
GlobalsGo l b whole c at rest made =
    (d : Builder) (ys : List TypedDeclaration) → IsBuilt c d (w.globals_made l at (declarations rest)) ys → IsBuilt b d whole (typed_declarations made ++ ys)

names_more : (xs : List TypedBinding) (x : TypedBinding) (ys : List TypedDeclaration) → typed_declarations xs ++ (typed_declaration x ∷ ys) ≡ typed_declarations (xs ++ x ∷ []) ++ ys
names_more [] x ys = refl
names_more (y ∷ xs) x ys = ap (λ (zs : List TypedDeclaration). typed_declaration y ∷ zs) (names_more xs x ys)

pub globals_step : (l : Plan) (xs : List Binding) (i at next : ℕ) (x : Binding) (b0 b c : Builder) (whole : Making (List TypedDeclaration)) (made made' : List TypedBinding) (y : TypedBinding)
    → i < length xs → x ≡ get_or xs i x → made' ≡ made ++ y ∷ [] → next ≡ at + 1 → IsBuilt b c (w.declared_made l at (declaration x)) (typed_declaration y)
    → GlobalsGo l b0 whole b at (drop i xs) made → GlobalsGo l b0 whole c next (drop (i + 1) xs) made'
globals_step l xs i at next x b0 b c whole made made' y lt is more step built go d ys given =
    let rest = drop (i + 1) xs in
    let D : drop i xs ≡ x ∷ rest = drop_at xs i x lt is in
    let tail : IsBuilt c d (w.globals_made l (suc at) (declarations rest)) ys = subst (λ (z : ℕ). IsBuilt c d (w.globals_made l z (declarations rest)) ys) (step ∙ add-one at) given in
    let one : IsBuilt b d (w.declared_made l at (declaration x) >=> λ a. w.globals_made l (suc at) (declarations rest) >=> λ rs. pure (a ∷ rs)) (typed_declaration y ∷ ys) =
    then b c d (w.declared_made l at (declaration x)) (λ a. w.globals_made l (suc at) (declarations rest) >=> λ rs. pure (a ∷ rs)) (typed_declaration y) (typed_declaration y ∷ ys) built
    (last c d (w.globals_made l (suc at) (declarations rest)) (λ rs. typed_declaration y ∷ rs) ys tail) in
    let all : IsBuilt b d (w.globals_made l at (declarations (drop i xs))) (typed_declaration y ∷ ys) =
    subst (λ (zs : List Binding). IsBuilt b d (w.globals_made l at (declarations zs)) (typed_declaration y ∷ ys)) (sym D) one in
    subst (λ (zs : List TypedDeclaration). IsBuilt b0 d whole zs) (names_more made y ys ∙ ap (λ (zs : List TypedBinding). typed_declarations zs ++ ys) (sym more)) (go d (typed_declaration y ∷ ys) all)

pub globals_end : (l : Plan) (xs : List Binding) (i at : ℕ) (b0 b : Builder) (whole : Making (List TypedDeclaration)) (made : List TypedBinding)
    → length xs ≤ i → GlobalsGo l b0 whole b at (drop i xs) made → IsBuilt b0 b whole (typed_declarations made)
globals_end l xs i at b0 b whole made le go =
    subst (λ (zs : List TypedDeclaration). IsBuilt b0 b whole zs) (append-nil (typed_declarations made))
    (go b [] (subst (λ (zs : List Binding). IsBuilt b b (w.globals_made l at (declarations zs)) []) (sym (drop_all xs i le)) (stays b [])))

pub main_without : (l : Plan) (d : ℕ) (a : Statement) → lets_of a ≡ None → s.statement_made l (w.outer_site this.Nowhere) a ≡ w.main_made l d a
unfolding s.statement_made
main_without l d (t.Block j all) h = refl
main_without l d (t.IfOnly j test a) h = refl
main_without l d (t.IfElse j test a b) h = refl
main_without l d (t.While j test a) h = refl
main_without l d (t.DoWhile j a test) h = refl
main_without l d (t.For j first test step a) h = refl
main_without l d (t.ForOf j fixed x list a) h = refl
main_without l d (t.Return j value) h = refl
main_without l d (t.Break j) h = refl
main_without l d (t.Continue j) h = refl
main_without l d (t.Empty j) h = refl
main_without l d (t.Plain j a) h = refl
main_without l d (t.Let j fixed each) h = absurd cc

pub main_with : (l : Plan) (d : ℕ) (a : Statement) (h : Declares) → lets_of a ≡ Some h → w.lets_made l d h.fixed h.each ≡ w.main_made l d a
main_with l d (t.Block j all) h is = absurd cc
main_with l d (t.IfOnly j test a) h is = absurd cc
main_with l d (t.IfElse j test a b) h is = absurd cc
main_with l d (t.While j test a) h is = absurd cc
main_with l d (t.DoWhile j a test) h is = absurd cc
main_with l d (t.For j first test step a) h is = absurd cc
main_with l d (t.ForOf j fixed x list a) h is = absurd cc
main_with l d (t.Return j value) h is = absurd cc
main_with l d (t.Break j) h is = absurd cc
main_with l d (t.Continue j) h is = absurd cc
main_with l d (t.Empty j) h is = absurd cc
main_with l d (t.Plain j a) h is = absurd cc
main_with l d (t.Let j fixed each) h is =
    let same : h ≡ record { fixed = fixed; each = each } = cc in
    ap (λ (y : Declares). w.lets_made l d y.fixed y.each) same

globals_long : (fixed : Bool) (each : List Binding) → length (global_entries fixed (declarations each)) ≡ length each
globals_long fixed [] = refl
globals_long fixed (a ∷ rest) = ap suc (globals_long fixed rest)

-- a statement declares as many globals as it lists
pub main_long : (a : Statement) (h : Declares) (each : List Binding) → lets_of a ≡ Some h → h.each ≡ declarations each → length (main_entries a) ≡ length each
main_long (t.Block j all) h each is same = absurd cc
main_long (t.IfOnly j test a) h each is same = absurd cc
main_long (t.IfElse j test a b) h each is same = absurd cc
main_long (t.While j test a) h each is same = absurd cc
main_long (t.DoWhile j a test) h each is same = absurd cc
main_long (t.For j first test step a) h each is same = absurd cc
main_long (t.ForOf j fixed x list a) h each is same = absurd cc
main_long (t.Return j value) h each is same = absurd cc
main_long (t.Break j) h each is same = absurd cc
main_long (t.Continue j) h each is same = absurd cc
main_long (t.Empty j) h each is same = absurd cc
main_long (t.Plain j a) h each is same = absurd cc
main_long (t.Let j fixed listed) h each is same =
    let whole : h ≡ record { fixed = fixed; each = listed } = cc in
    ap (λ (y : Declares). length (global_entries fixed y.each)) (sym whole) ∙ ap (λ (q : Declarations). length (global_entries fixed q)) same ∙ globals_long fixed each
