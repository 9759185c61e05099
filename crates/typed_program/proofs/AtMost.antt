-- How many numbers the functions, parameters and locals take that are made of trees: no more than the trees have, with failures or without.
use Rattle.std.proofs.Common.{◌≡◌, ℕ, ℤ, zero, suc, ◌+◌, ◌≤◌, Bool, true, false, Option, Some, None, List, [], ◌∷◌, ◌++◌, length, refl, ap, arith, length-append}
use Rattle.sts_base.specs.declared.tables.Tables.{Tables}
use Rattle.sts_syntax.specs.Annotations.{Annotation}
use Rattle.sts_syntax.specs.declared.typed.Spot.TheVariants.{Local, Global}
use Rattle.sts_syntax.specs.declared.typed.Callee.TheVariants as c
use Rattle.sts_syntax.specs.declared.board_calls.BoardCall.{BoardCall}
use Rattle.sts_syntax.specs.BoardTable as board
use Rattle.sts_syntax.specs.BoardTable.{BoardParameter, row_of}
use Rattle.sts_syntax.specs.Types as t
use Rattle.sts_syntax.specs.Types.{ValueType}
use Rattle.sts_syntax.specs.TypedTrees as e
use Rattle.sts_syntax.specs.TypedTrees.{TypedTree, TypedTrees, TypedStatement, TypedStatements, TypedDeclaration, TypedRoutine}
use Rattle.sts_syntax.specs.Trees.{Parameter, Tree, Num, Text, Truth, Null, This, Name, Unary, Binary, Both, Either, Choice, Set, Bump, Member, Item, Call, SuperCall, Make, Items, Handler, Trees, none, more, OptionalTree, absent, present, Statement, Block, Let, IfOnly, IfElse, While, DoWhile, For, ForOf, Return, Break, Continue, Plain, Empty, Statements, done, also, OptionalStatement, omitted, written, Declaration, Declare, Declarations, ended, next, Routine, Does}
use Rattle.sts_syntax.specs.Programs.{ClassMember, Field, Method, Constructor, TopLevel, Class, Function, Main, Program}
use Rattle.sts_scope.specs.declared.kinds.StaticType.{StaticType}
use Rattle.sts_scope.specs.declared.known.Known.{Known}
use Rattle.sts_scope.specs.declared.known.This.TheVariants as this
use Rattle.sts_scope.specs.Kinds.{nothing, value_type, value_types}
use Rattle.sts_scope.specs.Entries.{Naming, written_kind, parameter_kinds, item_entries}
use Rattle.sts_scope.specs.Handlers.{routine_handlers, declared_handlers, unwritten, item_routines}
use Rattle.typed_trees.specs.Fits.{numbers_taken}
use Rattle.typed_trees.proofs.Laws.{taken_append, taken_many}
use Rattle.text_sizes.specs.Numbered.{tree_numbered, trees_numbered, optional_numbered, routine_numbered, declared_numbered, declarations_numbered, statement_numbered, first_numbered, statements_numbered, members_numbered, item_numbered, all_numbered}
use Rattle.sts_scope.specs.Lookup.{base_of}
use Rattle.sts_scope.specs.Numbers.{Numbering, global_number, routine_number}
use Rattle.sts_scope.specs.Places.{inner, outside}
use Rattle.sts_scope.specs.Rules.{kind_at, takes_at, maker_takes_of}
use Rattle.type_derive.specs.declared.roles.Role.TheVariants.{Free}
use Rattle.type_derive.specs.Typing.{constant_of, board_callee, super_method, type_of, finds, behind}
use Rattle.type_derive.specs.Returns.{bound, looped, items_of}
use Rattle.type_derive.specs.Making.{Made}
use Rattle.type_derive.specs.inner.Filling.{Making, pure, ◌>=>◌, a_local}
use Rattle.type_derive.specs.Built.{Site, in_block, board_target}
use Rattle.type_derive.specs.inner.Filled.{amiss, made_tree, made_given, made_items, made_asked, made_call, made_body, made_first, made_optional, made_value, made_locals, made_local, made_statement, made_opening, made_statements, noted, type_in, part_in, class_in, member_read, part_target, routine_of, class_found, call_takes, asked_given, argument_made, next_given, later_given, behind_statement, first_site, in_handler_site, kind_or_nothing, site, function_made, method_made}
use Rattle.typed_laws.specs.Programs.{◌before◌, super_called, unwritten_made}
use Rattle.typed_laws.specs.inner.FilledPrograms.{initial_made, initials, made_statements_of, constructor_made, members_made, class_made, global_made, globals_made, main_made, items_made, library_made}

-- the locals of what is made, and what the functions in it take
abbrev pub AtMost : {A : Type 0} → ℕ → Making A → Type 0
AtMost h f = (m n : ℕ) → length (f m n).locals + numbers_taken (f m n).routines ≤ h

least : (h : ℕ) → 0 ≤ h
least h = omega arith

types_long : (all : List StaticType) → length (value_types all) ≡ length all
types_long [] = refl
types_long (u ∷ us) = ap suc (types_long us)

pub kinds_long : (names : Naming) (params : List Parameter) → length (parameter_kinds names params) ≡ length params
kinds_long names [] = refl
kinds_long names (p ∷ rest) = ap suc (kinds_long names rest)

two : (xs ys : List TypedRoutine) (h j : ℕ) → numbers_taken xs ≤ h → numbers_taken ys ≤ j → numbers_taken (xs ++ ys) ≤ h + j
two xs ys h j a b = omega (arith, a, b, taken_append xs ys)

joined : (ls ks : List ValueType) (xs ys : List TypedRoutine) (h j : ℕ) → length ls + numbers_taken xs ≤ h → length ks + numbers_taken ys ≤ j → length (ls ++ ks) + numbers_taken (xs ++ ys) ≤ h + j
joined ls ks xs ys h j a b = omega (arith, a, b, length-append ls ks, taken_append xs ys)

at_bind : {A B : Type 0} (h j : ℕ) (f : Making A) (g : A → Making B) → AtMost h f → ((a : A) → AtMost j (g a)) → AtMost (h + j) (f >=> g)
at_bind {A} {B} h j f g first rest m n =
    let x : Made A = f m n in
    let y : Made B = g x.it (m + length x.locals) (n + length x.routines) in
    joined x.locals y.locals x.routines y.routines h j (first m n) (rest x.it (m + length x.locals) (n + length x.routines))

at_as : {A : Type 0} (h j : ℕ) (f : Making A) → AtMost h f → h ≤ j → AtMost j f
at_as {A} h j f first le m n = omega (arith, le, first m n)

at_local : {A : Type 0} (u : ValueType) (make : ℕ → A) → AtMost 1 (a_local u make)
at_local {A} u make m n = omega arith

-- one, and then what is made of it
at_one : {A B : Type 0} (h : ℕ) (f : Making A) (make : A → B) → AtMost h f → AtMost h (f >=> λ x. pure (make x))
at_one {A} {B} h f make first = at_as (h + 0) h (f >=> λ x. pure (make x)) (at_bind h 0 f (λ x. pure (make x)) first (λ x m n. least 0)) (omega arith)

at_two : {A B C : Type 0} (h j : ℕ) (f : Making A) (g : Making B) (make : A → B → C) → AtMost h f → AtMost j g → AtMost (h + j) (f >=> λ x. g >=> λ y. pure (make x y))
at_two {A} {B} {C} h j f g make first second = at_bind h j f (λ x. g >=> λ y. pure (make x y)) first (λ x. at_one j g (make x) second)

-- a handler, a function and what takes `this` too, of the locals and functions of its statements
handler_taken : (ls : List ValueType) (rs : List TypedRoutine) (p h : ℕ) → length ls + numbers_taken rs ≤ h → 0 + (suc (0 + length ls) + numbers_taken rs) ≤ suc (p + h)
handler_taken ls rs p h le = omega (arith, le)

function_taken : (names : Naming) (params : List Parameter) (ls : List ValueType) (rs : List TypedRoutine) (h : ℕ) → length ls + numbers_taken rs ≤ h
    → suc (length (value_types (parameter_kinds names params)) + length ls) + numbers_taken rs ≤ suc (length params + h)
function_taken names params ls rs h le = (let a = types_long (parameter_kinds names params) in let b = kinds_long names params in omega (arith, le, a, b))

object_taken : (names : Naming) (params : List Parameter) (ls : List ValueType) (rs : List TypedRoutine) (h : ℕ) → length ls + numbers_taken rs ≤ h
    → suc (suc (length (value_types (parameter_kinds names params))) + length ls) + numbers_taken rs ≤ suc (suc (length params + h))
object_taken names params ls rs h le = (let a = types_long (parameter_kinds names params) in let b = kinds_long names params in omega (arith, le, a, b))

module _ (tables : Tables) (names : Naming) (k : Known) (numbers : Numbering) where
  abbrev mk : Site → Option StaticType → Tree → Making TypedTree
  mk s g a = made_tree tables names k numbers s g a

  abbrev u_of : Site → Tree → ValueType
  u_of s list = value_type (kind_or_nothing tables names k numbers (items_of (type_of tables k s.place Free list)))

  -- a member that is read is a number, or made of its object
  member_at_most : (s : Site) (a : Tree) (m : ℕ) (n : ValueType) (z : Option ℤ) → AtMost (tree_numbered a) (mk s None a)
      → AtMost (tree_numbered a) (elim z [ Some y ↦ pure (e.Num t.Number y) | None ↦ mk s None a >=> λ x. pure (member_read tables names k numbers n (part_in tables names k numbers s a m) (class_in tables names k numbers s a) m x) ])
  member_at_most s a m n (Some y) f = λ m' n'. least (tree_numbered a)
  member_at_most s a m n None f = at_one (tree_numbered a) (mk s None a) (λ x. member_read tables names k numbers n (part_in tables names k numbers s a m) (class_in tables names k numbers s a) m x) f

  argument_at_most : (s : Site) (ps : List BoardParameter) (a : Tree) (made : Making TypedTree) → AtMost (tree_numbered a) made → AtMost (tree_numbered a) (argument_made tables names k numbers s ps a made)
  argument_at_most s [] a made h = h
  argument_at_most s (board.Of u ∷ ps) a made h = h
  argument_at_most s (board.Drawing ∷ ps) a made h = λ m n. least (tree_numbered a)
  argument_at_most s (board.Handler ∷ ps) (Handler i body) made h = h
  argument_at_most s (board.Handler ∷ ps) (Num i n) made h = λ m n'. least 0
  argument_at_most s (board.Handler ∷ ps) (Text i n) made h = λ m n'. least 0
  argument_at_most s (board.Handler ∷ ps) (Truth i x) made h = λ m n. least 0
  argument_at_most s (board.Handler ∷ ps) (Null i) made h = λ m n. least 0
  argument_at_most s (board.Handler ∷ ps) (This i) made h = λ m n. least 0
  argument_at_most s (board.Handler ∷ ps) (Name i x) made h = λ m n. least 0
  argument_at_most s (board.Handler ∷ ps) (Unary i op a) made h = λ m n. least (tree_numbered (Unary i op a))
  argument_at_most s (board.Handler ∷ ps) (Binary i op a b) made h = λ m n. least (tree_numbered (Binary i op a b))
  argument_at_most s (board.Handler ∷ ps) (Both i a b) made h = λ m n. least (tree_numbered (Both i a b))
  argument_at_most s (board.Handler ∷ ps) (Either i a b) made h = λ m n. least (tree_numbered (Either i a b))
  argument_at_most s (board.Handler ∷ ps) (Choice i q a b) made h = λ m n. least (tree_numbered (Choice i q a b))
  argument_at_most s (board.Handler ∷ ps) (Set i op x a) made h = λ m n. least (tree_numbered (Set i op x a))
  argument_at_most s (board.Handler ∷ ps) (Bump i x by late) made h = λ m n. least (tree_numbered (Bump i x by late))
  argument_at_most s (board.Handler ∷ ps) (Member i a m) made h = λ m' n. least (tree_numbered (Member i a m))
  argument_at_most s (board.Handler ∷ ps) (Item i a j) made h = λ m n. least (tree_numbered (Item i a j))
  argument_at_most s (board.Handler ∷ ps) (Items i all) made h = λ m n. least (tree_numbered (Items i all))
  argument_at_most s (board.Handler ∷ ps) (Call i f args) made h = λ m n. least (tree_numbered (Call i f args))
  argument_at_most s (board.Handler ∷ ps) (SuperCall i m args) made h = λ m' n. least (tree_numbered (SuperCall i m args))
  argument_at_most s (board.Handler ∷ ps) (Make i x args) made h = λ m n. least (tree_numbered (Make i x args))

  super_at_most : (s : Site) (args : Trees) (n : ValueType) (d : Option ℕ) → ((takes : List StaticType) → AtMost (trees_numbered args) (made_given tables names k numbers s takes args))
      → AtMost (trees_numbered args) (elim d [ None ↦ pure amiss | Some j ↦ made_given tables names k numbers s (takes_at k.entries j) args >=> λ xs. pure (e.SuperCall n (routine_number numbers j) xs) ])
  super_at_most s args n None given = λ m n'. least (trees_numbered args)
  super_at_most s args n (Some j) given =
      at_one (trees_numbered args) (made_given tables names k numbers s (takes_at k.entries j) args) (λ xs. e.SuperCall n (routine_number numbers j) xs) (given (takes_at k.entries j))

  board_at_most : (s : Site) (f : Tree) (args : Trees) (n : ValueType) (b : Option BoardCall)
      → ((ps : List BoardParameter) → AtMost (trees_numbered args) (made_asked tables names k numbers s ps args))
      → AtMost (tree_numbered f + trees_numbered args) (made_call tables names k numbers s n f (made_given tables names k numbers s (call_takes tables names k numbers s f) args))
      → AtMost (tree_numbered f + trees_numbered args) (elim b [
        | Some call ↦ made_asked tables names k numbers s (row_of call).takes args >=> λ xs. pure (e.Call n (board_target call (row_of call).action) xs)
        | None ↦ made_call tables names k numbers s n f (made_given tables names k numbers s (call_takes tables names k numbers s f) args)
      ])
  board_at_most s f args n (Some call) asked called =
      at_as (trees_numbered args) (tree_numbered f + trees_numbered args) (made_asked tables names k numbers s (row_of call).takes args >=> λ xs. pure (e.Call n (board_target call (row_of call).action) xs))
      (at_one (trees_numbered args) (made_asked tables names k numbers s (row_of call).takes args) (λ xs. e.Call n (board_target call (row_of call).action) xs) (asked (row_of call).takes)) (omega arith)
  board_at_most s f args n None asked called = called

  mutual
    tree_at_most : (s : Site) (g : Option StaticType) (a : Tree) → AtMost (tree_numbered a) (mk s g a)
    tree_at_most s g (Num i n) = λ m n'. least 0
    tree_at_most s g (Text i n) = λ m n'. least 0
    tree_at_most s g (Truth i x) = λ m n. least 0
    tree_at_most s g (Null i) = λ m n. least 0
    tree_at_most s g (This i) = λ m n. least 0
    tree_at_most s g (Name i x) = λ m n. least 0
    tree_at_most s g (Unary i op a) = at_one (tree_numbered a) (mk s None a) (λ x. e.Unary (noted tables names k numbers s g (Unary i op a)) op x) (tree_at_most s None a)
    tree_at_most s g (Binary i op a b) =
        at_two (tree_numbered a) (tree_numbered b) (mk s None a) (mk s None b) (λ x y. e.Binary (noted tables names k numbers s g (Binary i op a b)) op x y) (tree_at_most s None a) (tree_at_most s None b)
    tree_at_most s g (Both i a b) = at_two (tree_numbered a) (tree_numbered b) (mk s None a) (mk s None b) (λ x y. e.Both t.Boolean x y) (tree_at_most s None a) (tree_at_most s None b)
    tree_at_most s g (Either i a b) = at_two (tree_numbered a) (tree_numbered b) (mk s None a) (mk s None b) (λ x y. e.Either t.Boolean x y) (tree_at_most s None a) (tree_at_most s None b)
    tree_at_most s g (Choice i q a b) =
        let n : ValueType = noted tables names k numbers s g (Choice i q a b) in
        at_as (tree_numbered q + (tree_numbered a + tree_numbered b)) (tree_numbered q + tree_numbered a + tree_numbered b) (mk s g (Choice i q a b))
        (at_bind (tree_numbered q) (tree_numbered a + tree_numbered b) (mk s None q) (λ z. mk s None a >=> λ x. mk s None b >=> λ y. pure (e.Choice n z x y)) (tree_at_most s None q)
        (λ z. at_two (tree_numbered a) (tree_numbered b) (mk s None a) (mk s None b) (λ x y. e.Choice n z x y) (tree_at_most s None a) (tree_at_most s None b))) (omega arith)
    tree_at_most s g (Set i op x a) =
        at_two (tree_numbered x) (tree_numbered a) (mk s None x) (mk s (Some (type_in tables names k numbers s x)) a) (λ y z. e.Set (noted tables names k numbers s g (Set i op x a)) op y z) (tree_at_most s None x)
        (tree_at_most s (Some (type_in tables names k numbers s x)) a)
    tree_at_most s g (Bump i x by late) = at_one (tree_numbered x) (mk s None x) (λ y. e.Bump t.Number y by late) (tree_at_most s None x)
    tree_at_most s g (Member i a m) = member_at_most s a m (noted tables names k numbers s g (Member i a m)) (constant_of tables k s.place a m) (tree_at_most s None a)
    tree_at_most s g (Item i a j) =
        at_two (tree_numbered a) (tree_numbered j) (mk s None a) (mk s None j) (λ x y. e.Item (noted tables names k numbers s g (Item i a j)) x y) (tree_at_most s None a) (tree_at_most s None j)
    tree_at_most s g (Items i none) = λ m n. least 0
    tree_at_most s g (Items i (more a rest)) =
        at_two (tree_numbered a) (trees_numbered rest) (mk s None a) (made_items tables names k numbers s (type_in tables names k numbers s a) rest) (λ x xs. e.Items (noted tables names k numbers s g (Items i (more a rest))) (e.more x xs))
        (tree_at_most s None a) (items_at_most s (type_in tables names k numbers s a) rest)
    tree_at_most s g (Call i f args) =
        board_at_most s f args (noted tables names k numbers s g (Call i f args)) (board_callee tables k s.place f) (λ ps. asked_at_most s ps args)
        (call_at_most s f args (noted tables names k numbers s g (Call i f args)) (made_given tables names k numbers s (call_takes tables names k numbers s f) args) (given_at_most s (call_takes tables names k numbers s f) args))
    tree_at_most s g (SuperCall i None args) = λ m n. least (trees_numbered args)
    tree_at_most s g (SuperCall i (Some m) args) = super_at_most s args (noted tables names k numbers s g (SuperCall i (Some m) args)) (super_method k s.place.this m) (λ takes. given_at_most s takes args)
    tree_at_most s g (Make i x args) =
        let class = class_found tables names k numbers (finds tables k s.place x) in
        at_one (trees_numbered args) (made_given tables names k numbers s (maker_takes_of k.classes class) args) (λ xs. e.Make (t.Object class) class xs) (given_at_most s (maker_takes_of k.classes class) args)
    tree_at_most s g (Handler i (Does j params gives all arrow)) = λ m n.
        let made : Made TypedStatements = made_body tables names k numbers s (Does j params gives all arrow) 0 (suc n) in
        handler_taken made.locals made.routines (length params) (statements_numbered all) (statements_at_most (in_handler_site tables names k numbers s params gives all) all 0 (suc n))

    -- a call of a function or a method; of anything else nothing is made
    call_at_most : (s : Site) (f : Tree) (args : Trees) (n : ValueType) (made : Making TypedTrees) → AtMost (trees_numbered args) made → AtMost (tree_numbered f + trees_numbered args) (made_call tables names k numbers s n f made)
    call_at_most s (Name j x) args n made given =
        at_as (trees_numbered args) (0 + trees_numbered args) (made_call tables names k numbers s n (Name j x) made)
        (at_one (trees_numbered args) made (λ xs. e.Call n (c.Function (routine_of tables names k numbers (finds tables k s.place x))) xs) given) (omega arith)
    call_at_most s (Member j a m) args n made given =
        at_two (tree_numbered a) (trees_numbered args) (mk s None a) made
        (λ x xs. e.Call n (part_target tables names k numbers (part_in tables names k numbers s a m) (class_in tables names k numbers s a) m) (e.more x xs)) (tree_at_most s None a) given
    call_at_most s (Num j n') args n made given = λ m i. least (tree_numbered (Num j n') + trees_numbered args)
    call_at_most s (Text j n') args n made given = λ m i. least (tree_numbered (Text j n') + trees_numbered args)
    call_at_most s (Truth j x) args n made given = λ m i. least (tree_numbered (Truth j x) + trees_numbered args)
    call_at_most s (Null j) args n made given = λ m i. least (tree_numbered (Null j) + trees_numbered args)
    call_at_most s (This j) args n made given = λ m i. least (tree_numbered (This j) + trees_numbered args)
    call_at_most s (Unary j op a) args n made given = λ m i. least (tree_numbered (Unary j op a) + trees_numbered args)
    call_at_most s (Binary j op a b) args n made given = λ m i. least (tree_numbered (Binary j op a b) + trees_numbered args)
    call_at_most s (Both j a b) args n made given = λ m i. least (tree_numbered (Both j a b) + trees_numbered args)
    call_at_most s (Either j a b) args n made given = λ m i. least (tree_numbered (Either j a b) + trees_numbered args)
    call_at_most s (Choice j l a b) args n made given = λ m i. least (tree_numbered (Choice j l a b) + trees_numbered args)
    call_at_most s (Set j op x a) args n made given = λ m i. least (tree_numbered (Set j op x a) + trees_numbered args)
    call_at_most s (Bump j x by late) args n made given = λ m i. least (tree_numbered (Bump j x by late) + trees_numbered args)
    call_at_most s (Item j a l) args n made given = λ m i. least (tree_numbered (Item j a l) + trees_numbered args)
    call_at_most s (Items j l) args n made given = λ m i. least (tree_numbered (Items j l) + trees_numbered args)
    call_at_most s (Call j l xs) args n made given = λ m i. least (tree_numbered (Call j l xs) + trees_numbered args)
    call_at_most s (SuperCall j l xs) args n made given = λ m i. least (tree_numbered (SuperCall j l xs) + trees_numbered args)
    call_at_most s (Make j x xs) args n made given = λ m i. least (tree_numbered (Make j x xs) + trees_numbered args)
    call_at_most s (Handler j body) args n made given = λ m i. least (tree_numbered (Handler j body) + trees_numbered args)

    given_at_most : (s : Site) (takes : List StaticType) (args : Trees) → AtMost (trees_numbered args) (made_given tables names k numbers s takes args)
    given_at_most s takes none = λ m n. least 0
    given_at_most s takes (more a rest) =
        at_two (tree_numbered a) (trees_numbered rest) (mk s (next_given takes) a) (made_given tables names k numbers s (later_given takes) rest) (λ x xs. e.more x xs) (tree_at_most s (next_given takes) a) (given_at_most s (later_given takes) rest)

    items_at_most : (s : Site) (u : StaticType) (args : Trees) → AtMost (trees_numbered args) (made_items tables names k numbers s u args)
    items_at_most s u none = λ m n. least 0
    items_at_most s u (more a rest) = at_two (tree_numbered a) (trees_numbered rest) (mk s (Some u) a) (made_items tables names k numbers s u rest) (λ x xs. e.more x xs) (tree_at_most s (Some u) a) (items_at_most s u rest)

    asked_at_most : (s : Site) (ps : List BoardParameter) (args : Trees) → AtMost (trees_numbered args) (made_asked tables names k numbers s ps args)
    asked_at_most s ps none = λ m n. least 0
    asked_at_most s ps (more a rest) =
        at_two (tree_numbered a) (trees_numbered rest) (argument_made tables names k numbers s ps a (mk s (asked_given ps) a)) (made_asked tables names k numbers s (behind ps) rest) (λ x xs. e.more x xs)
        (argument_at_most s ps a (mk s (asked_given ps) a) (tree_at_most s (asked_given ps) a)) (asked_at_most s (behind ps) rest)

    first_at_most : (s : Site) (shape : Option Annotation) (first : OptionalTree) → AtMost (optional_numbered first) (made_first tables names k numbers s shape first)
    first_at_most s shape absent = λ m n. least 0
    first_at_most s shape (present a) = at_one (tree_numbered a) (mk s (written_kind names shape) a) (λ x. Some x) (tree_at_most s (written_kind names shape) a)

    optional_at_most : (s : Site) (a : OptionalTree) → AtMost (optional_numbered a) (made_optional tables names k numbers s a)
    optional_at_most s absent = λ m n. least 0
    optional_at_most s (present a) = at_one (tree_numbered a) (mk s None a) (λ x. Some x) (tree_at_most s None a)

    value_at_most : (s : Site) (g : Option StaticType) (a : OptionalTree) → AtMost (optional_numbered a) (made_value tables names k numbers s g a)
    value_at_most s g absent = λ m n. least 0
    value_at_most s g (present a) = at_one (tree_numbered a) (mk s g a) (λ x. Some x) (tree_at_most s g a)

    locals_at_most : (s : Site) (fixed : Bool) (each : Declarations) → AtMost (declarations_numbered each) (made_locals tables names k numbers s fixed each)
    locals_at_most s fixed ended = λ m n. least 0
    locals_at_most s fixed (next (Declare i x shape first) rest) = λ m n.
        let a : Declaration = Declare i x shape first in
        let s1 : Site = behind_statement tables names k numbers m s (Let 0 fixed (next a ended)) in
        let u : ValueType = value_type (kind_or_nothing tables names k numbers (bound tables names k s.place shape first)) in
        let make : Option TypedTree → ℕ → TypedDeclaration = λ l j. record { name = Local j; first = l } in
        at_two (suc (optional_numbered first)) (declarations_numbered rest) (made_local tables names k numbers s a) (made_locals tables names k numbers s1 fixed rest) (λ d ds. d ∷ ds)
        (at_as (optional_numbered first + 1) (suc (optional_numbered first)) (made_local tables names k numbers s a)
        (at_bind {B = TypedDeclaration} (optional_numbered first) 1 (made_first tables names k numbers s shape first) (λ l. a_local u (make l)) (first_at_most s shape first) (λ l. at_local u (make l))) (omega arith))
        (locals_at_most s1 fixed rest) m n

    statement_at_most : (s : Site) (a : Statement) → AtMost (statement_numbered a) (made_statement tables names k numbers s a)
    statement_at_most s (Block i all) = at_one (statements_numbered all) (made_statements tables names k numbers (in_block s) all) (λ xs. e.Block xs) (statements_at_most (in_block s) all)
    statement_at_most s (Let i fixed each) = at_one (declarations_numbered each) (made_locals tables names k numbers s fixed each) (λ ds. e.Let fixed ds) (locals_at_most s fixed each)
    statement_at_most s (IfOnly i test a) =
        at_two (tree_numbered test) (statement_numbered a) (mk s None test) (made_statement tables names k numbers (in_block s) a) (λ q x. e.IfOnly q x) (tree_at_most s None test) (statement_at_most (in_block s) a)
    statement_at_most s (IfElse i test a b) =
        at_as (tree_numbered test + (statement_numbered a + statement_numbered b)) (tree_numbered test + statement_numbered a + statement_numbered b) (made_statement tables names k numbers s (IfElse i test a b))
        (at_bind (tree_numbered test) (statement_numbered a + statement_numbered b) (mk s None test) (λ q. made_statement tables names k numbers (in_block s) a >=> λ x. made_statement tables names k numbers (in_block s) b >=> λ y. pure (e.IfElse q x y))
        (tree_at_most s None test)
        (λ q. at_two (statement_numbered a) (statement_numbered b) (made_statement tables names k numbers (in_block s) a) (made_statement tables names k numbers (in_block s) b) (λ x y. e.IfElse q x y) (statement_at_most (in_block s) a) (statement_at_most (in_block s) b))) (omega arith)
    statement_at_most s (While i test a) =
        at_two (tree_numbered test) (statement_numbered a) (mk s None test) (made_statement tables names k numbers (in_block s) a) (λ q x. e.While q x) (tree_at_most s None test) (statement_at_most (in_block s) a)
    statement_at_most s (DoWhile i a test) =
        at_two (statement_numbered a) (tree_numbered test) (made_statement tables names k numbers (in_block s) a) (mk s None test) (λ x q. e.DoWhile x q) (statement_at_most (in_block s) a) (tree_at_most s None test)
    statement_at_most s (For i one test step a) = λ m n.
        let s0 : Site = in_block s in
        let s1 : Site = first_site tables names k numbers m s0 one in
        let F0 : ℕ = first_numbered one in
        let T0 : ℕ = optional_numbered test in
        let U0 : ℕ = optional_numbered step in
        let J : ℕ = statement_numbered a in
        let inside : Making TypedStatement = made_opening tables names k numbers s0 one >=> λ l. made_optional tables names k numbers s1 test >=> λ q. made_optional tables names k numbers s1 step >=> λ y. made_statement tables names k numbers (in_block s1) a >=> λ x. pure (e.For l q y x) in
        at_as (F0 + (T0 + (U0 + J))) (F0 + T0 + U0 + J) inside
        (at_bind F0 (T0 + (U0 + J)) (made_opening tables names k numbers s0 one)
        (λ l. made_optional tables names k numbers s1 test >=> λ q. made_optional tables names k numbers s1 step >=> λ y. made_statement tables names k numbers (in_block s1) a >=> λ x. pure (e.For l q y x)) (opening_at_most s0 one)
        (λ l. at_bind T0 (U0 + J) (made_optional tables names k numbers s1 test) (λ q. made_optional tables names k numbers s1 step >=> λ y. made_statement tables names k numbers (in_block s1) a >=> λ x. pure (e.For l q y x)) (optional_at_most s1 test)
        (λ q. at_two U0 J (made_optional tables names k numbers s1 step) (made_statement tables names k numbers (in_block s1) a) (λ y x. e.For l q y x) (optional_at_most s1 step) (statement_at_most (in_block s1) a)))) (omega arith) m n
    statement_at_most s (ForOf i fixed x list a) = λ m n.
        let u : ValueType = u_of s list in
        let s1 : Site = record { place = inner (looped tables k s.place fixed x list); spots = s.spots ++ Local m ∷ [] } in
        let J : ℕ = statement_numbered a in
        let body : Making TypedStatement = made_statement tables names k numbers s1 a in
        at_as (tree_numbered list + (1 + (1 + (1 + J)))) (3 + (tree_numbered list + J)) (mk s None list >=> λ l. a_local u (λ i. i) >=> λ i. a_local (t.ListOf u) (λ j. j) >=> λ j. a_local t.Number (λ j. j) >=> λ j. body >=> λ y. pure (e.ForOf fixed (Local i) l y))
        (at_bind (tree_numbered list) (1 + (1 + (1 + J))) (mk s None list) (λ l. a_local u (λ i. i) >=> λ i. a_local (t.ListOf u) (λ j. j) >=> λ j. a_local t.Number (λ j. j) >=> λ j. body >=> λ y. pure (e.ForOf fixed (Local i) l y)) (tree_at_most s None list)
        (λ l. at_bind 1 (1 + (1 + J)) (a_local u (λ i. i)) (λ i. a_local (t.ListOf u) (λ j. j) >=> λ j. a_local t.Number (λ j. j) >=> λ j. body >=> λ y. pure (e.ForOf fixed (Local i) l y)) (at_local u (λ i. i))
        (λ i. at_bind 1 (1 + J) (a_local (t.ListOf u) (λ j. j)) (λ j. a_local t.Number (λ j. j) >=> λ j. body >=> λ y. pure (e.ForOf fixed (Local i) l y)) (at_local (t.ListOf u) (λ j. j))
        (λ j. at_bind 1 J (a_local t.Number (λ j. j)) (λ j. body >=> λ y. pure (e.ForOf fixed (Local i) l y)) (at_local t.Number (λ j. j))
        (λ j. at_one J body (λ y. e.ForOf fixed (Local i) l y) (statement_at_most s1 a)))))) (omega arith) m n
    statement_at_most s (Return i value) = at_one (optional_numbered value) (made_value tables names k numbers s s.place.gives value) (λ x. e.Return x) (value_at_most s s.place.gives value)
    statement_at_most s (Break i) = λ m n. least 0
    statement_at_most s (Continue i) = λ m n. least 0
    statement_at_most s (Plain i a) = at_one (tree_numbered a) (mk s None a) (λ x. e.Plain x) (tree_at_most s None a)
    statement_at_most s (Empty i) = λ m n. least 0

    opening_at_most : (s : Site) (a : OptionalStatement) → AtMost (first_numbered a) (made_opening tables names k numbers s a)
    opening_at_most s omitted = λ m n. least 0
    opening_at_most s (written a) = at_one (statement_numbered a) (made_statement tables names k numbers s a) (λ x. e.written x) (statement_at_most s a)

    statements_at_most : (s : Site) (all : Statements) → AtMost (statements_numbered all) (made_statements tables names k numbers s all)
    statements_at_most s done = λ m n. least 0
    statements_at_most s (also a rest) = λ m n.
        let s1 : Site = behind_statement tables names k numbers m s a in
        at_two (statement_numbered a) (statements_numbered rest) (made_statement tables names k numbers s a) (made_statements tables names k numbers s1 rest) (λ x xs. e.also x xs) (statement_at_most s a) (statements_at_most s1 rest) m n

  -- functions, methods and fields
  pub function_at_most : (library : Bool) (n : ℕ) (result : Option StaticType) (r : Routine) → numbers_taken (function_made tables names k numbers library n result r) ≤ suc (routine_numbered r)
  function_at_most library n result (Does i params gives all arrow) =
      let s : Site = site tables names k numbers this.Nowhere result library 0 params in
      let made : Made TypedStatements = made_statements tables names k numbers s all 0 (suc n) in
      function_taken names params made.locals made.routines (statements_numbered all) (statements_at_most s all 0 (suc n))

  pub method_at_most : (c n : ℕ) (result : Option StaticType) (r : Routine) → numbers_taken (method_made tables names k numbers c n result r) ≤ suc (suc (routine_numbered r))
  method_at_most c n result (Does i params gives all arrow) =
      let s : Site = site tables names k numbers (this.Object c) result false 1 params in
      let made : Made TypedStatements = made_statements tables names k numbers s all 0 (suc n) in
      object_taken names params made.locals made.routines (statements_numbered all) (statements_at_most s all 0 (suc n))

  pub field_at_most : (c n : ℕ) (a : Declaration) → length (initial_made tables names k numbers c n a).locals + numbers_taken (initial_made tables names k numbers c n a).routines ≤ declared_numbered a
  field_at_most c n (Declare i x shape first) =
      let s : Site = record { place = outside (this.Object c) false None; spots = [] } in
      at_as (optional_numbered first) (suc (optional_numbered first)) (made_first tables names k numbers s shape first) (first_at_most s shape first) (omega arith) 0 n

  -- the statements of a constructor, behind initialisers
  plain_at_most : (s : Site) (inits : List TypedStatement) (all : Statements) → AtMost (statements_numbered all) (made_statements tables names k numbers s all >=> λ xs. pure (inits before xs))
  plain_at_most s inits all = at_one (statements_numbered all) (made_statements tables names k numbers s all) (λ xs. inits before xs) (statements_at_most s all)

  maker_at_most : (s : Site) (base : Option ℕ) (inits : List TypedStatement) (all : Statements) → AtMost (statements_numbered all) (made_statements_of tables names k numbers s base inits all)
  maker_at_most s None inits all = plain_at_most s inits all
  maker_at_most s (Some b) inits (also (Plain j (SuperCall i None args)) rest) =
      at_two (trees_numbered args) (statements_numbered rest) (made_given tables names k numbers s (maker_takes_of k.classes b) args) (made_statements tables names k numbers s rest)
      (λ ys xs. e.also (super_called numbers b ys) (inits before xs)) (given_at_most s (maker_takes_of k.classes b) args) (statements_at_most s rest)
  maker_at_most s (Some b) inits done = plain_at_most s inits done
  maker_at_most s (Some b) inits (also (Block j all) rest) = plain_at_most s inits (also (Block j all) rest)
  maker_at_most s (Some b) inits (also (Let j fixed each) rest) = plain_at_most s inits (also (Let j fixed each) rest)
  maker_at_most s (Some b) inits (also (IfOnly j test a) rest) = plain_at_most s inits (also (IfOnly j test a) rest)
  maker_at_most s (Some b) inits (also (IfElse j test a o) rest) = plain_at_most s inits (also (IfElse j test a o) rest)
  maker_at_most s (Some b) inits (also (While j test a) rest) = plain_at_most s inits (also (While j test a) rest)
  maker_at_most s (Some b) inits (also (DoWhile j a test) rest) = plain_at_most s inits (also (DoWhile j a test) rest)
  maker_at_most s (Some b) inits (also (For j one test step a) rest) = plain_at_most s inits (also (For j one test step a) rest)
  maker_at_most s (Some b) inits (also (ForOf j fixed x list a) rest) = plain_at_most s inits (also (ForOf j fixed x list a) rest)
  maker_at_most s (Some b) inits (also (Return j value) rest) = plain_at_most s inits (also (Return j value) rest)
  maker_at_most s (Some b) inits (also (Break j) rest) = plain_at_most s inits (also (Break j) rest)
  maker_at_most s (Some b) inits (also (Continue j) rest) = plain_at_most s inits (also (Continue j) rest)
  maker_at_most s (Some b) inits (also (Empty j) rest) = plain_at_most s inits (also (Empty j) rest)
  maker_at_most s (Some b) inits (also (Plain j (Num i x)) rest) = plain_at_most s inits (also (Plain j (Num i x)) rest)
  maker_at_most s (Some b) inits (also (Plain j (Text i x)) rest) = plain_at_most s inits (also (Plain j (Text i x)) rest)
  maker_at_most s (Some b) inits (also (Plain j (Truth i x)) rest) = plain_at_most s inits (also (Plain j (Truth i x)) rest)
  maker_at_most s (Some b) inits (also (Plain j (Null i)) rest) = plain_at_most s inits (also (Plain j (Null i)) rest)
  maker_at_most s (Some b) inits (also (Plain j (This i)) rest) = plain_at_most s inits (also (Plain j (This i)) rest)
  maker_at_most s (Some b) inits (also (Plain j (Name i x)) rest) = plain_at_most s inits (also (Plain j (Name i x)) rest)
  maker_at_most s (Some b) inits (also (Plain j (Unary i op a)) rest) = plain_at_most s inits (also (Plain j (Unary i op a)) rest)
  maker_at_most s (Some b) inits (also (Plain j (Binary i op a o)) rest) = plain_at_most s inits (also (Plain j (Binary i op a o)) rest)
  maker_at_most s (Some b) inits (also (Plain j (Both i a o)) rest) = plain_at_most s inits (also (Plain j (Both i a o)) rest)
  maker_at_most s (Some b) inits (also (Plain j (Either i a o)) rest) = plain_at_most s inits (also (Plain j (Either i a o)) rest)
  maker_at_most s (Some b) inits (also (Plain j (Choice i q a o)) rest) = plain_at_most s inits (also (Plain j (Choice i q a o)) rest)
  maker_at_most s (Some b) inits (also (Plain j (Set i op x a)) rest) = plain_at_most s inits (also (Plain j (Set i op x a)) rest)
  maker_at_most s (Some b) inits (also (Plain j (Bump i x by late)) rest) = plain_at_most s inits (also (Plain j (Bump i x by late)) rest)
  maker_at_most s (Some b) inits (also (Plain j (Member i a x)) rest) = plain_at_most s inits (also (Plain j (Member i a x)) rest)
  maker_at_most s (Some b) inits (also (Plain j (Item i a o)) rest) = plain_at_most s inits (also (Plain j (Item i a o)) rest)
  maker_at_most s (Some b) inits (also (Plain j (Call i f args)) rest) = plain_at_most s inits (also (Plain j (Call i f args)) rest)
  maker_at_most s (Some b) inits (also (Plain j (Make i x args)) rest) = plain_at_most s inits (also (Plain j (Make i x args)) rest)
  maker_at_most s (Some b) inits (also (Plain j (Items i items)) rest) = plain_at_most s inits (also (Plain j (Items i items)) rest)
  maker_at_most s (Some b) inits (also (Plain j (Handler i r)) rest) = plain_at_most s inits (also (Plain j (Handler i r)) rest)
  maker_at_most s (Some b) inits (also (Plain j (SuperCall i (Some m) args)) rest) = plain_at_most s inits (also (Plain j (SuperCall i (Some m) args)) rest)

  pub constructor_at_most : (c n : ℕ) (inits : List TypedStatement) (r : Routine) → numbers_taken (constructor_made tables names k numbers c n inits r) ≤ suc (suc (routine_numbered r))
  constructor_at_most c n inits (Does i params gives all arrow) =
      let s : Site = site tables names k numbers (this.Object c) (Some nothing) false 1 params in
      let made : Made TypedStatements = made_statements_of tables names k numbers s (base_of k.classes c) inits all 0 (suc n) in
      object_taken names params made.locals made.routines (statements_numbered all) (maker_at_most s (base_of k.classes c) inits all 0 (suc n))

  pub members_at_most : (c n d : ℕ) (inits : List TypedStatement) (members : List ClassMember) → numbers_taken (members_made tables names k numbers c inits n d members) ≤ members_numbered members
  members_at_most c n d inits [] = least 0
  members_at_most c n d inits (Field a ∷ rest) =
      let here : Made (Option TypedTree) = initial_made tables names k numbers c n a in
      let h : length here.locals + numbers_taken here.routines ≤ declared_numbered a = field_at_most c n a in
      two here.routines (members_made tables names k numbers c inits (n + declared_handlers a) (suc d) rest) (declared_numbered a) (members_numbered rest) (omega (arith, h))
      (members_at_most c (n + declared_handlers a) (suc d) inits rest)
  members_at_most c n d inits (Method x r ∷ rest) =
      two (method_made tables names k numbers c n (kind_at k d) r) (members_made tables names k numbers c inits (suc n + routine_handlers r) (suc d) rest) (suc (suc (routine_numbered r))) (members_numbered rest)
      (method_at_most c n (kind_at k d) r) (members_at_most c (suc n + routine_handlers r) (suc d) inits rest)
  members_at_most c n d inits (Constructor r ∷ rest) =
      two (constructor_made tables names k numbers c n inits r) (members_made tables names k numbers c inits (suc n + routine_handlers r) d rest) (suc (suc (routine_numbered r))) (members_numbered rest)
      (constructor_at_most c n inits r) (members_at_most c (suc n + routine_handlers r) d inits rest)

  -- a constructor that isn't written has no locals, and what it takes stands at its base
  pub unwritten_at_most : (c : ℕ) (inits : List TypedStatement) (count : ℕ) → numbers_taken (unwritten_made k numbers count c inits) ≤ length (maker_takes_of k.classes c) + (count + count)
  unwritten_at_most c inits zero = omega arith
  unwritten_at_most c inits (suc count) = (let a = types_long (maker_takes_of k.classes c) in omega (arith, a))

  pub unwritten_long : (c : ℕ) (inits : List TypedStatement) (count : ℕ) → length (unwritten_made k numbers count c inits) ≤ count
  unwritten_long c inits zero = omega arith
  unwritten_long c inits (suc count) = omega arith

  pub class_at_most : (c n d : ℕ) (members : List ClassMember)
      → numbers_taken (class_made tables names k numbers c n d members) ≤ length (maker_takes_of k.classes c) + (unwritten members + unwritten members + members_numbered members)
  class_at_most c n d members =
      let first = n + unwritten members in
      let inits = initials tables names k numbers c first d members in
      let makers = unwritten_made k numbers (unwritten members) c inits in
      let others = members_made tables names k numbers c inits first d members in
      let a = unwritten_at_most c inits (unwritten members) in
      let b = members_at_most c first d inits members in
      let all = taken_append makers others in
      omega (arith, a, b, all)

  pub class_long : (c n d : ℕ) (members : List ClassMember) → length (class_made tables names k numbers c n d members) ≤ unwritten members + members_numbered members
  class_long c n d members =
      let first = n + unwritten members in
      let inits = initials tables names k numbers c first d members in
      let makers = unwritten_made k numbers (unwritten members) c inits in
      let others = members_made tables names k numbers c inits first d members in
      let a = unwritten_long c inits (unwritten members) in
      let b = members_at_most c first d inits members in
      let each = taken_many others in
      let all = length-append makers others in
      omega (arith, a, b, each, all)

  pub globals_at_most : (d : ℕ) (each : Declarations) → AtMost (declarations_numbered each) (globals_made tables names k numbers d each)
  globals_at_most d ended = λ m n. least 0
  globals_at_most d (next (Declare i x shape first) rest) =
      let s : Site = record { place = outside this.Nowhere false None; spots = [] } in
      let make : Option TypedTree → TypedDeclaration = λ a. record { name = Global (global_number k d); first = a } in
      at_two (suc (optional_numbered first)) (declarations_numbered rest) (global_made tables names k numbers d (Declare i x shape first)) (globals_made tables names k numbers (suc d) rest) (λ y ys. y ∷ ys)
      (at_as (optional_numbered first) (suc (optional_numbered first)) (global_made tables names k numbers d (Declare i x shape first))
      (at_one (optional_numbered first) (made_first tables names k numbers s shape first) make (first_at_most s shape first)) (omega arith)) (globals_at_most (suc d) rest)

  pub main_at_most : (d : ℕ) (a : Statement) → AtMost (statement_numbered a) (main_made tables names k numbers d a)
  main_at_most d (Let i fixed each) = at_one (declarations_numbered each) (globals_made tables names k numbers d each) (λ ds. e.Let fixed ds) (globals_at_most d each)
  main_at_most d (Block i all) = statement_at_most (record { place = outside this.Nowhere false None; spots = [] }) (Block i all)
  main_at_most d (IfOnly i test a) = statement_at_most (record { place = outside this.Nowhere false None; spots = [] }) (IfOnly i test a)
  main_at_most d (IfElse i test a o) = statement_at_most (record { place = outside this.Nowhere false None; spots = [] }) (IfElse i test a o)
  main_at_most d (While i test a) = statement_at_most (record { place = outside this.Nowhere false None; spots = [] }) (While i test a)
  main_at_most d (DoWhile i a test) = statement_at_most (record { place = outside this.Nowhere false None; spots = [] }) (DoWhile i a test)
  main_at_most d (For i one test step a) = statement_at_most (record { place = outside this.Nowhere false None; spots = [] }) (For i one test step a)
  main_at_most d (ForOf i fixed x list a) = statement_at_most (record { place = outside this.Nowhere false None; spots = [] }) (ForOf i fixed x list a)
  main_at_most d (Return i value) = statement_at_most (record { place = outside this.Nowhere false None; spots = [] }) (Return i value)
  main_at_most d (Break i) = statement_at_most (record { place = outside this.Nowhere false None; spots = [] }) (Break i)
  main_at_most d (Continue i) = statement_at_most (record { place = outside this.Nowhere false None; spots = [] }) (Continue i)
  main_at_most d (Plain i a) = statement_at_most (record { place = outside this.Nowhere false None; spots = [] }) (Plain i a)
  main_at_most d (Empty i) = statement_at_most (record { place = outside this.Nowhere false None; spots = [] }) (Empty i)

  -- the functions of the library
  pub library_at_most : (d n : ℕ) (library : Program) → numbers_taken (library_made tables names k numbers d n library) ≤ all_numbered library
  library_at_most d n [] = least 0
  library_at_most d n (Function x r ∷ rest) =
      two (function_made tables names k numbers true n (kind_at k d) r) (library_made tables names k numbers (suc d) (n + item_routines (Function x r)) rest) (item_numbered (Function x r)) (all_numbered rest)
      (function_at_most true n (kind_at k d) r) (library_at_most (suc d) (n + item_routines (Function x r)) rest)
  library_at_most d n (Class at x base base_at members ∷ rest) =
      let h : numbers_taken (library_made tables names k numbers d n rest) ≤ all_numbered rest = library_at_most d n rest in omega (arith, h)
  library_at_most d n (Main a ∷ rest) =
      let h : numbers_taken (library_made tables names k numbers d n rest) ≤ all_numbered rest = library_at_most d n rest in omega (arith, h)

  -- how many functions the library has
  pub library_long : (d n : ℕ) (library : Program) → length (library_made tables names k numbers d n library) ≤ all_numbered library
  library_long d n library =
      let all : List TypedRoutine = library_made tables names k numbers d n library in
      let a : numbers_taken all ≤ all_numbered library = library_at_most d n library in
      omega (arith, a, taken_many all)

  -- how many functions a text has, and locals of the main program
  pub text_long : (c d m n : ℕ) (text : Program) → length (items_made tables names k numbers c d m n text).locals + length (items_made tables names k numbers c d m n text).routines ≤ all_numbered text
  text_long c d m n [] = least 0
  text_long c d m n (Class at x base base_at members ∷ rest) =
      let i : TopLevel = Class at x base base_at members in
      let here : List TypedRoutine = class_made tables names k numbers c n (suc d) members in
      let behind : Made TypedStatements = items_made tables names k numbers (suc c) (d + length (item_entries names c i)) m (n + item_routines i) rest in
      let a : length here ≤ unwritten members + members_numbered members = class_long c n (suc d) members in
      let b : length behind.locals + length behind.routines ≤ all_numbered rest = text_long (suc c) (d + length (item_entries names c i)) m (n + item_routines i) rest in
      omega (arith, a, b, length-append here behind.routines)
  text_long c d m n (Function x r ∷ rest) =
      let here : List TypedRoutine = function_made tables names k numbers false n (kind_at k d) r in
      let behind : Made TypedStatements = items_made tables names k numbers c (suc d) m (n + item_routines (Function x r)) rest in
      let a : numbers_taken here ≤ suc (routine_numbered r) = function_at_most false n (kind_at k d) r in
      let b : length behind.locals + length behind.routines ≤ all_numbered rest = text_long c (suc d) m (n + item_routines (Function x r)) rest in
      omega (arith, a, b, taken_many here, length-append here behind.routines)
  text_long c d m n (Main a ∷ rest) =
      let here : Made TypedStatement = main_made tables names k numbers d a m n in
      let behind : Made TypedStatements = items_made tables names k numbers c (d + length (item_entries names c (Main a))) (m + length here.locals) (n + item_routines (Main a)) rest in
      let x : length here.locals + numbers_taken here.routines ≤ statement_numbered a = main_at_most d a m n in
      let y : length behind.locals + length behind.routines ≤ all_numbered rest = text_long c (d + length (item_entries names c (Main a))) (m + length here.locals) (n + item_routines (Main a)) rest in
      omega (arith, x, y, taken_many here.routines, length-append here.locals behind.locals, length-append here.routines behind.routines)
