-- Going through statements and declared names.
use Rattle.std.proofs.Common.{◌≡◌, ℕ, ◌+◌, ◌<◌, Bool, true, false, not, Option, Some, None, List, length, get_or, drop, refl, sym, ap, ◌∙◌, subst, Result}
use Rattle.std.specs.Prelude.{is_some}
use Rattle.sts_base.specs.declared.refused.Refused.{Refused}
use Rattle.sts_base.specs.declared.refused.Code.TheVariants.{Mismatch, UnknownName, NeedsType}
use Rattle.std.specs.declared.alloc.Global.{Global}
use Rattle.std.specs.declared.boxed.Box.{Box}
use Rattle.sts_syntax.specs.declared.trees.Expr.{Expr}
use Rattle.sts_syntax.specs.declared.trees.Form.TheVariants as f
use Rattle.sts_syntax.specs.declared.trees.Stmt.{Stmt}
use Rattle.sts_syntax.specs.declared.trees.Binding.{Binding, out-Binding}
use Rattle.sts_syntax.specs.Annotations.{Annotation}
use Rattle.sts_syntax.specs.Trees.{Tree, OptionalTree, absent, present, Statement, For, ForOf, Return, OptionalStatement, omitted, written}
use Rattle.sts_syntax.specs.Views.{tree, statement, statements, declaration, declarations, form_statement, optional_expression, optional_annotation}
use Rattle.sts_syntax.proofs.Laws.{declaration_parts}
use Rattle.sts_scope.specs.declared.kinds.StaticType.{StaticType}
use Rattle.sts_scope.specs.Failures.{Failure, ◌then◌, own, unless, Finds}
use Rattle.sts_scope.specs.Places.{NameScope, with, inner}
use Rattle.sts_scope.specs.Globals.{is_dollar}
use Rattle.sts_scope.specs.Headings.{written_failure}
use Rattle.type_derive.specs.declared.roles.Role.{Role}
use Rattle.type_derive.specs.declared.roles.Role.TheVariants.{Free}
use Rattle.type_derive.specs.Typing.{fits, type_of}
use Rattle.sts_scope.proofs.Laws.{drop_at}
use Rattle.type_derive.specs.Scopes.{Extends, naming}
use Rattle.type_derive.specs.Returns as derive
use Rattle.type_derive.specs.Nodes as node
use Rattle.type_derive.proofs.Laws.{stays, further, extends_to, after_extends}
use Rattle.type_derive.specs.declared.context.Context.{Context}
use Rattle.type_check.specs.Bounds as bounds
use Rattle.type_check.specs.Seen.{is_test, initial_kind}
use Rattle.type_check.specs.Contexts.{failure, first_failure, optional_failure, initial_failure, after_first, statement_failure, statements_failure, declaration_failure, declarations_failure, declared, all_declared, after}

-- there is an initialiser
abbrev pub is_present : OptionalTree → Bool
is_present absent = false
is_present (present e) = true

pub present_is : (e : Option Expr) → is_present (optional_expression e) ≡ is_some e
present_is None = refl
present_is (Some e) = refl

module _ (c : Context) where
  pub statements_step : (p : NameScope) (all : List Stmt) (i : ℕ) (s : Stmt) → i < length all → s ≡ get_or all i s →
      statements_failure c p (statements (drop i all)) ≡ (statement_failure c p (statement s) then statements_failure c (after c p (statement s)) (statements (drop (i + 1) all)))
  statements_step p all i s lt is = ap (λ xs. statements_failure c p (statements xs)) (drop_at all i s lt is)

  pub statements_kept : (p q : NameScope) (all : List Stmt) (i : ℕ) (s : Stmt) (found : Option Failure) → i < length all → s ≡ get_or all i s → statement_failure c p (statement s) ≡ None →
      q ≡ after c p (statement s) → statements_failure c p (statements (drop i all)) ≡ found → statements_failure c q (statements (drop (i + 1) all)) ≡ found
  statements_kept p q all i s found lt is f h rest =
      ap (λ r. statements_failure c r (statements (drop (i + 1) all))) h
      ∙ ap (λ o. o then statements_failure c (after c p (statement s)) (statements (drop (i + 1) all))) (sym f) ∙ sym (statements_step p all i s lt is) ∙ rest

  pub extends_after : (p q r : NameScope) (s : Statement) → Extends p q → r ≡ after c q s → Extends p r
  extends_after p q r s x h = further p q r x (extends_to q (after c q s) r (after_extends c.tables.now (naming c) c.known.now q s) h)

  pub declarations_step : (p : NameScope) (fixed : Bool) (each : List Binding) (i : ℕ) (b : Binding) → i < length each → b ≡ get_or each i b →
      declarations_failure c p fixed (declarations (drop i each)) ≡ (declaration_failure c p (declaration b) then declarations_failure c (declared c p fixed (declaration b)) fixed (declarations (drop (i + 1) each)))
  declarations_step p fixed each i b lt is = ap (λ xs. declarations_failure c p fixed (declarations xs)) (drop_at each i b lt is)

  pub declarations_kept : (p q : NameScope) (fixed : Bool) (each : List Binding) (i : ℕ) (b : Binding) (found : Option Failure) → i < length each → b ≡ get_or each i b →
      declaration_failure c p (declaration b) ≡ None → q ≡ declared c p fixed (declaration b) → declarations_failure c p fixed (declarations (drop i each)) ≡ found →
      declarations_failure c q fixed (declarations (drop (i + 1) each)) ≡ found
  declarations_kept p q fixed each i b found lt is f h rest =
      ap (λ r. declarations_failure c r fixed (declarations (drop (i + 1) each))) h
      ∙ ap (λ o. o then declarations_failure c (declared c p fixed (declaration b)) fixed (declarations (drop (i + 1) each))) (sym f) ∙ sym (declarations_step p fixed each i b lt is) ∙ rest

  pub declared_kept : (p q r : NameScope) (fixed : Bool) (each : List Binding) (i : ℕ) (b : Binding) → i < length each → b ≡ get_or each i b →
      q ≡ declared c p fixed (declaration b) → all_declared c p fixed (declarations (drop i each)) ≡ r → all_declared c q fixed (declarations (drop (i + 1) each)) ≡ r
  declared_kept p q r fixed each i b lt is h rest =
      ap (λ x. all_declared c x fixed (declarations (drop (i + 1) each))) h ∙ sym (ap (λ xs. all_declared c p fixed (declarations xs)) (drop_at each i b lt is)) ∙ rest

  -- a test that may be left out
  pub test_is : (p : NameScope) (e : OptionalTree) (at : ℕ) → node.test_failure c.tables.now c.known.now p e at ≡ unless (is_test c.tables.now c.known.now p e) Mismatch at
  test_is p absent at = refl
  test_is p (present e) at = refl

  -- what a declared name is given
  pub bound_is : (p : NameScope) (shape : Option Annotation) (e : OptionalTree) →
      derive.bound c.tables.now (naming c) c.known.now p shape e ≡ bounds.bound_kind (naming c) shape (initial_kind c.tables.now c.known.now p shape e)
  bound_is p (Some a) e = refl
  bound_is p None absent = refl
  bound_is p None (present e) = refl

  pub own_bound_is : (p : NameScope) (shape : Option Annotation) (e : OptionalTree) (at : ℕ) →
      node.own_bound c.tables.now (naming c) c.known.now p shape e at
      ≡ bounds.bound_failure (naming c) c.known.now shape (is_present e) (initial_kind c.tables.now c.known.now p shape e) at
  own_bound_is p None e at = ap (λ o. own o NeedsType at) (bound_is p None e)
  own_bound_is p (Some a) absent at = refl
  own_bound_is p (Some a) (present e) at = refl

  -- a loop with a test, by the places that the code comes to
  pub for_step : (p q r : NameScope) (at : ℕ) (first : OptionalStatement) (test step : OptionalTree) (a : Statement) → q ≡ inner p → r ≡ after_first c q first →
      statement_failure c p (For at first test step a)
      ≡ (first_failure c q first then optional_failure c r test then optional_failure c r step then statement_failure c (inner r) a then unless (is_test c.tables.now c.known.now r test) Mismatch at)
  for_step p q r at first test step a hq hr =
      let rest = λ (x : NameScope). optional_failure c x test then optional_failure c x step then statement_failure c (inner x) a then node.test_failure c.tables.now c.known.now x test at in
      ap (λ x. first_failure c x first then rest (after_first c x first)) (sym hq) ∙ ap (λ x. first_failure c q first then rest x) (sym hr)
      ∙ ap (λ y. first_failure c q first then optional_failure c r test then optional_failure c r step then statement_failure c (inner r) a then y) (test_is r test at)

  -- a declared name, by its parts
  pub declaration_step : (p : NameScope) (b : Binding) → declaration_failure c p (declaration b)
      ≡ (written_failure (naming c) (out-Binding b).at (optional_annotation (out-Binding b).shape)
      then initial_failure c p (optional_annotation (out-Binding b).shape) (optional_expression (out-Binding b).first)
      then node.own_local c.tables.now p (out-Binding b).name (out-Binding b).at
      then bounds.bound_failure (naming c) c.known.now (optional_annotation (out-Binding b).shape) (is_some (out-Binding b).first)
      (initial_kind c.tables.now c.known.now p (optional_annotation (out-Binding b).shape) (optional_expression (out-Binding b).first)) (out-Binding b).at)
  declaration_step p b =
      let shape = optional_annotation (out-Binding b).shape in
      let first = optional_expression (out-Binding b).first in
      let local = node.own_local c.tables.now p (out-Binding b).name (out-Binding b).at in
      let k = initial_kind c.tables.now c.known.now p shape first in
      ap (declaration_failure c p) (declaration_parts b)
      ∙ ap (λ o. written_failure (naming c) (out-Binding b).at shape then initial_failure c p shape first then local then o)
      (own_bound_is p shape first (out-Binding b).at ∙ ap (λ t. bounds.bound_failure (naming c) c.known.now shape t k (out-Binding b).at) (present_is (out-Binding b).first))

  -- behind it
  pub declared_step : (p : NameScope) (fixed : Bool) (b : Binding) → declared c p fixed (declaration b)
      ≡ with p (out-Binding b).name (bounds.bound_kind (naming c) (optional_annotation (out-Binding b).shape)
      (initial_kind c.tables.now c.known.now p (optional_annotation (out-Binding b).shape) (optional_expression (out-Binding b).first))) fixed
  declared_step p fixed b =
      ap (declared c p fixed) (declaration_parts b)
      ∙ ap (λ k. with p (out-Binding b).name k fixed) (bound_is p (optional_annotation (out-Binding b).shape) (optional_expression (out-Binding b).first))

  -- a loop through an array
  pub for_of_step : (p q : NameScope) (at x : ℕ) (fixed : Bool) (list : Tree) (a : Statement) (o : Option StaticType) → failure c p Free list ≡ None → o ≡ type_of c.tables.now c.known.now p Free list →
      q ≡ with (inner p) x (derive.items_of o) fixed →
      statement_failure c p (ForOf at fixed x list a) ≡ (statement_failure c (inner q) a then unless (not (is_dollar c.tables.now.names x)) UnknownName at then unless (node.is_list o) Mismatch at)
  for_of_step p q at x fixed list a o hf ho hq =
      let t = c.tables.now in
      let k = c.known.now in
      let n = naming c in
      let dollar = unless (not (is_dollar t.names x)) UnknownName at in
      let u = type_of t k p Free list in
      ap (λ y. y then statement_failure c (inner (derive.looped t k p fixed x list)) a then dollar then unless (node.is_list u) Mismatch at) hf
      ∙ ap (λ y. statement_failure c (inner (with (inner p) x y fixed)) a then dollar then unless (node.is_list u) Mismatch at) (ap derive.items_of (sym ho))
      ∙ ap (λ y. statement_failure c (inner y) a then dollar then unless (node.is_list u) Mismatch at) (sym hq)
      ∙ ap (λ y. statement_failure c (inner q) a then dollar then unless y Mismatch at) (ap node.is_list (sym ho))

  pub returned_step : (p : NameScope) (at : ℕ) (e : Tree) (r : Role) → r ≡ node.kind_role p.gives →
      statement_failure c p (Return at (present e)) ≡ (failure c p r e then unless (fits c.known.now (type_of c.tables.now c.known.now p r e) p.gives) Mismatch at)
  returned_step p at e r h = ap (λ y. failure c p y e then unless (fits c.known.now (type_of c.tables.now c.known.now p y e) p.gives) Mismatch at) (sym h)

  pub returned_found : (p : NameScope) (at : ℕ) (e : Tree) (r : Role) (o : Option StaticType) (b : Bool) (result : Result Unit Refused) → r ≡ node.kind_role p.gives → failure c p r e ≡ None →
      o ≡ type_of c.tables.now c.known.now p r e → b ≡ fits c.known.now o p.gives → Finds result (unless b Mismatch at) → Finds result (statement_failure c p (Return at (present e)))
  returned_found p at e r o b result h hf ho hb found =
      subst (Finds result) (sym (returned_step p at e r h ∙ ap (λ y. y then unless (fits c.known.now (type_of c.tables.now c.known.now p r e) p.gives) Mismatch at) hf
      ∙ ap (λ y. unless (fits c.known.now y p.gives) Mismatch at) (sym ho) ∙ ap (λ y. unless y Mismatch at) (sym hb))) found

  pub first_extends : (p q r : NameScope) (first : OptionalStatement) → q ≡ p → r ≡ after_first c q first → Extends q r
  first_extends p q r omitted e h = extends_to q q r (stays q) h
  first_extends p q r (written a) e h = extends_to q (after c q a) r (after_extends c.tables.now (naming c) c.known.now q a) h

for_tree : (at : ℕ) (first : Option (Box Stmt Global)) (test step : Option Expr) (a : Box Stmt Global) →
    form_statement at (f.For first test step a) ≡ For at (bounds.optional_boxed first) (optional_expression test) (optional_expression step) (statement a.value)
for_tree at None None None a = refl
for_tree at None None (Some e) a = refl
for_tree at None (Some t) None a = refl
for_tree at None (Some t) (Some e) a = refl
for_tree at (Some s) None None a = refl
for_tree at (Some s) None (Some e) a = refl
for_tree at (Some s) (Some t) None a = refl
for_tree at (Some s) (Some t) (Some e) a = refl

pub for_is : (s : Stmt) (first : Option (Box Stmt Global)) (test step : Option Expr) (a : Box Stmt Global) → s.form ≡ f.For first test step a →
    statement s ≡ For s.at (bounds.optional_boxed first) (optional_expression test) (optional_expression step) (statement a.value)
for_is s first test step a is = ap (form_statement s.at) is ∙ for_tree s.at first test step a

pub return_is : (s : Stmt) (value : Option Expr) (e : Expr) → s.form ≡ f.Return value → value ≡ Some e → statement s ≡ Return s.at (present (tree e))
return_is s value e is h = ap (form_statement s.at) (is ∙ ap f.Return h)
