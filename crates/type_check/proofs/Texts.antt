-- Going through a text.
use Rattle.std.proofs.Common.{◌≡◌, ℕ, suc, ◌+◌, Option, Some, None, List, [], ◌∷◌, ◌≤◌, length, get_or, drop, refl, sym, ap, ◌∙◌, arith, zero, ◌-◌, take, length-drop}
use Rattle.sts_base.specs.declared.tables.Tables.{Tables}
use Rattle.sts_base.specs.declared.refused.Code.TheVariants.{Mismatch}
use Rattle.std.specs.Prelude.{is_some, Bool, true, false, ◌&&◌}
use Rattle.sts_syntax.specs.declared.trees.Body.{Body, out-Body}
use Rattle.sts_syntax.specs.declared.trees.Binding.{Binding, out-Binding}
use Rattle.sts_syntax.specs.declared.trees.Stmt.{Stmt}
use Rattle.sts_syntax.specs.Trees.{Trees, Statement, Statements, also}
use Rattle.sts_syntax.specs.Trees as t
use Rattle.sts_syntax.specs.Programs.{ClassMember, Field, Method, Constructor}
use Rattle.sts_syntax.specs.Views.{routine, declaration, optional_annotation, optional_expression, statement, statements}
use Rattle.sts_syntax.proofs.Laws.{routine_parts, declaration_parts}
use Rattle.sts_scope.specs.declared.kinds.StaticType.{StaticType}
use Rattle.sts_scope.specs.declared.known.Known.{Known}
use Rattle.sts_scope.specs.Entries.{Naming, member_entry}
use Rattle.sts_scope.specs.Failures.{Failure, ◌then◌, unless}
use Rattle.sts_scope.specs.Headings.{routine_at, written_failure}
use Rattle.sts_scope.specs.Kinds.{same}
use Rattle.sts_scope.specs.Places.{NameScope, outside}
use Rattle.sts_scope.specs.declared.known.This.{This}
use Rattle.sts_scope.specs.Rules.{maker_takes_of}
use Rattle.type_derive.proofs.Laws.{typed_go}
use Rattle.type_derive.specs.Typing.{types_of}
use Rattle.type_derive.specs.Nodes.{failures, statements_failure}
use Rattle.type_derive.specs.Passes.{same_kinds, overrides_failure, members_nodes, own_super_call, made_failure, outside_failure}
use Rattle.type_derive.specs.declared.context.Context.{Context}
use Rattle.type_check.specs.Bounds.{bound_failure}
use Rattle.type_derive.specs.Scopes.{naming}
use Rattle.type_check.specs.Contexts.{initial_failure}
use Rattle.type_derive.specs.Heads.{SuperHead, head_of}
use Rattle.type_check.specs.Seen.{fit_all, kinds_given, initial_kind}
use Rattle.type_check.specs.Texts.{override_failure, member_nodes, super_failure, unmade_failure}
use Rattle.type_check.proofs.Calls.{fits}
use Rattle.type_check.proofs.Steps.{own_bound_is, present_is}

pub routine_place : (b : Body) → routine_at (routine b) ≡ (out-Body b).at
routine_place b = ap routine_at (routine_parts b)

and_false : (b : Bool) → false ≡ (b && false)
and_false true = refl
and_false false = refl

-- lists of different lengths aren't the same
pub unlike : (ss ts : List StaticType) → (length ss ≡ length ts → ⊥) → false ≡ same_kinds ss ts
unlike [] [] h = absurd (h refl)
unlike [] (t ∷ ts) h = refl
unlike (s ∷ ss) [] h = refl
unlike (s ∷ ss) (t ∷ ts) h = and_false (same s t) ∙ ap (λ b. same s t && b) (unlike ss ts (λ e. h (ap suc e)))

-- a field or a global, by the parts of its declaration
pub field_is : (c : Context) (self : This) (b : Binding) → outside_failure c.tables.now (naming c) c.known.now self (declaration b)
    ≡ (written_failure (naming c) (out-Binding b).at (optional_annotation (out-Binding b).shape)
    then initial_failure c (outside self false None) (optional_annotation (out-Binding b).shape) (optional_expression (out-Binding b).first)
    then bound_failure (naming c) c.known.now (optional_annotation (out-Binding b).shape) (is_some (out-Binding b).first)
    (initial_kind c.tables.now c.known.now (outside self false None) (optional_annotation (out-Binding b).shape) (optional_expression (out-Binding b).first)) (out-Binding b).at)
field_is c self b =
    let p = outside self false None in
    let shape = optional_annotation (out-Binding b).shape in
    let first = optional_expression (out-Binding b).first in
    let k = initial_kind c.tables.now c.known.now p shape first in
    ap (outside_failure c.tables.now (naming c) c.known.now self) (declaration_parts b)
    ∙ ap (λ o. written_failure (naming c) (out-Binding b).at shape then initial_failure c p shape first then o)
    (own_bound_is c p shape first (out-Binding b).at ∙ ap (λ t. bound_failure (naming c) c.known.now shape t k (out-Binding b).at) (present_is (out-Binding b).first))

pub overrides_step : (names : Naming) (k : Known) (c d : ℕ) (m : ClassMember) (rest : List ClassMember) →
    overrides_failure k c d (m ∷ rest) ≡ (override_failure k c d m then overrides_failure k c (d + length (member_entry names c m)) rest)
overrides_step names k c d (Field a) rest = let e : suc d ≡ d + 1 = omega arith in ap (λ n. overrides_failure k c n rest) e
overrides_step names k c d (Method x r) rest = let e : suc d ≡ d + 1 = omega arith in ap (λ n. override_failure k c d (Method x r) then overrides_failure k c n rest) e
overrides_step names k c d (Constructor r) rest = let e : d ≡ d + 0 = omega arith in ap (λ n. overrides_failure k c n rest) e

pub members_step : (tables : Tables) (names : Naming) (k : Known) (c d : ℕ) (m : ClassMember) (rest : List ClassMember) →
    members_nodes tables names k c d (m ∷ rest) ≡ (member_nodes tables names k c d m then members_nodes tables names k c (d + length (member_entry names c m)) rest)
members_step tables names k c d (Field a) rest = let e : suc d ≡ d + 1 = omega arith in ap (λ n. member_nodes tables names k c d (Field a) then members_nodes tables names k c n rest) e
members_step tables names k c d (Method x r) rest = let e : suc d ≡ d + 1 = omega arith in ap (λ n. member_nodes tables names k c d (Method x r) then members_nodes tables names k c n rest) e
members_step tables names k c d (Constructor r) rest = let e : d ≡ d + 0 = omega arith in ap (λ n. member_nodes tables names k c d (Constructor r) then members_nodes tables names k c n rest) e

own_go : (tables : Tables) (names : Naming) (k : Known) (os : Option (List StaticType)) (takes : List StaticType) (at : ℕ) → own_super_call k os takes at ≡ unless (typed_go k.classes os takes) Mismatch at
own_go tables names k None takes at = refl
own_go tables names k (Some us) takes at = refl

pub super_is : (tables : Tables) (names : Naming) (k : Known) (p : NameScope) (at b : ℕ) (args : Trees) →
    super_failure tables names k p at b args ≡ (failures tables names k p [] args then unless (fit_all k.classes (kinds_given tables k p [] args) (maker_takes_of k.classes b)) Mismatch at)
super_is tables names k p at b args =
    ap (λ o. failures tables names k p [] args then o)
    (own_go tables names k (types_of tables k p args) (maker_takes_of k.classes b) at ∙ ap (λ t. unless t Mismatch at) (fits tables k p args (maker_takes_of k.classes b)))

then_both : (f g h : Option Failure) → (f then g then h) ≡ ((f then g) then h)
then_both None g h = refl
then_both (Some f) g h = refl

-- how a constructor begins
module _ (tables : Tables) (names : Naming) (k : Known) (p : NameScope) (i b : ℕ) where
  pub made_without : (s : Statement) (rest : Statements) → head_of s ≡ None → made_failure tables names k p i b (also s rest) ≡ unmade_failure tables names k p i (also s rest)
  made_without (t.Block j all) rest e = refl
  made_without (t.Let j fixed each) rest e = refl
  made_without (t.IfOnly j test a) rest e = refl
  made_without (t.IfElse j test a b) rest e = refl
  made_without (t.While j test a) rest e = refl
  made_without (t.DoWhile j a test) rest e = refl
  made_without (t.For j first test step a) rest e = refl
  made_without (t.ForOf j fixed x list a) rest e = refl
  made_without (t.Return j value) rest e = refl
  made_without (t.Break j) rest e = refl
  made_without (t.Continue j) rest e = refl
  made_without (t.Empty j) rest e = refl
  made_without (t.Plain j (t.Num at x)) rest e = refl
  made_without (t.Plain j (t.Text at x)) rest e = refl
  made_without (t.Plain j (t.Truth at x)) rest e = refl
  made_without (t.Plain j (t.Null at)) rest e = refl
  made_without (t.Plain j (t.This at)) rest e = refl
  made_without (t.Plain j (t.Name at x)) rest e = refl
  made_without (t.Plain j (t.Unary at op a)) rest e = refl
  made_without (t.Plain j (t.Binary at op a b)) rest e = refl
  made_without (t.Plain j (t.Both at a b)) rest e = refl
  made_without (t.Plain j (t.Either at a b)) rest e = refl
  made_without (t.Plain j (t.Choice at x a b)) rest e = refl
  made_without (t.Plain j (t.Set at op x a)) rest e = refl
  made_without (t.Plain j (t.Bump at x by late)) rest e = refl
  made_without (t.Plain j (t.Member at a x)) rest e = refl
  made_without (t.Plain j (t.Item at a i)) rest e = refl
  made_without (t.Plain j (t.Call at f args)) rest e = refl
  made_without (t.Plain j (t.Make at x args)) rest e = refl
  made_without (t.Plain j (t.Items at items)) rest e = refl
  made_without (t.Plain j (t.Handler at r)) rest e = refl
  made_without (t.Plain j (t.SuperCall at None args)) rest e = absurd cc
  made_without (t.Plain j (t.SuperCall at (Some m) args)) rest e = refl

  pub made_with : (s : Statement) (rest : Statements) (h : SuperHead) → head_of s ≡ Some h
      → made_failure tables names k p i b (also s rest) ≡ (super_failure tables names k p h.at b h.args then statements_failure tables names k p rest)
  made_with (t.Block j all) rest h e = absurd cc
  made_with (t.Let j fixed each) rest h e = absurd cc
  made_with (t.IfOnly j test a) rest h e = absurd cc
  made_with (t.IfElse j test a b) rest h e = absurd cc
  made_with (t.While j test a) rest h e = absurd cc
  made_with (t.DoWhile j a test) rest h e = absurd cc
  made_with (t.For j first test step a) rest h e = absurd cc
  made_with (t.ForOf j fixed x list a) rest h e = absurd cc
  made_with (t.Return j value) rest h e = absurd cc
  made_with (t.Break j) rest h e = absurd cc
  made_with (t.Continue j) rest h e = absurd cc
  made_with (t.Empty j) rest h e = absurd cc
  made_with (t.Plain j (t.Num at x)) rest h e = absurd cc
  made_with (t.Plain j (t.Text at x)) rest h e = absurd cc
  made_with (t.Plain j (t.Truth at x)) rest h e = absurd cc
  made_with (t.Plain j (t.Null at)) rest h e = absurd cc
  made_with (t.Plain j (t.This at)) rest h e = absurd cc
  made_with (t.Plain j (t.Name at x)) rest h e = absurd cc
  made_with (t.Plain j (t.Unary at op a)) rest h e = absurd cc
  made_with (t.Plain j (t.Binary at op a b)) rest h e = absurd cc
  made_with (t.Plain j (t.Both at a b)) rest h e = absurd cc
  made_with (t.Plain j (t.Either at a b)) rest h e = absurd cc
  made_with (t.Plain j (t.Choice at x a b)) rest h e = absurd cc
  made_with (t.Plain j (t.Set at op x a)) rest h e = absurd cc
  made_with (t.Plain j (t.Bump at x by late)) rest h e = absurd cc
  made_with (t.Plain j (t.Member at a x)) rest h e = absurd cc
  made_with (t.Plain j (t.Item at a i)) rest h e = absurd cc
  made_with (t.Plain j (t.Call at f args)) rest h e = absurd cc
  made_with (t.Plain j (t.Make at x args)) rest h e = absurd cc
  made_with (t.Plain j (t.Items at items)) rest h e = absurd cc
  made_with (t.Plain j (t.Handler at r)) rest h e = absurd cc
  made_with (t.Plain j (t.SuperCall at (Some m) args)) rest h e = absurd cc
  made_with (t.Plain j (t.SuperCall at None args)) rest h e =
      let same : record { at = at; args = args } ≡ h = cc in
      then_both (failures tables names k p [] args) (own_super_call k (types_of tables k p args) (maker_takes_of k.classes b) at) (statements_failure tables names k p rest)
      ∙ ap (λ (y : SuperHead). super_failure tables names k p y.at b y.args then statements_failure tables names k p rest) same

pub statements_first : (xs : List Stmt) (x : Stmt) → 1 ≤ length xs → x ≡ get_or xs 0 x → statements xs ≡ also (statement x) (statements (drop 1 xs))
statements_first [] x l e = absurd (omega arith)
statements_first (y ∷ ys) x l e = ap (λ z. also (statement z) (statements ys)) (sym e)

take_whole : {A : Type 0} (xs : List A) (n : ℕ) → length xs ≤ n → take n xs ≡ xs
take_whole [] zero l = refl
take_whole [] (suc n) l = refl
take_whole (x ∷ xs) zero l = absurd (omega arith)
take_whole (x ∷ xs) (suc n) l = ap (λ ys. x ∷ ys) (take_whole xs n (omega arith))

pub rest_is : {A : Type 0} (xs : List A) → take (length xs - 1) (drop 1 xs) ≡ drop 1 xs
rest_is xs = take_whole (drop 1 xs) (length xs - 1) (omega (arith, length-drop 1 xs))
