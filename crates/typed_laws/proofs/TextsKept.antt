-- The texts of typed trees are those of the trees that they are made of.
use Rattle.std.proofs.Common.{ℕ, suc, ◌+◌, ◌<◌, ℤ, Bool, true, false, Option, Some, None, List, [], ◌∷◌, ◌++◌, length}
use Rattle.std.specs.Prelude.{pos, if◌then◌else◌}
use Rattle.sts_base.specs.declared.tables.Tables.{Tables}
use Rattle.sts_syntax.specs.Annotations.{Annotation}
use Rattle.sts_syntax.specs.declared.typed.Spot.TheVariants.{Local}
use Rattle.sts_syntax.specs.declared.typed.Callee.TheVariants as c
use Rattle.sts_syntax.specs.Types as t
use Rattle.sts_syntax.specs.Types.{ValueType}
use Rattle.sts_syntax.specs.TypedTrees as e
use Rattle.sts_syntax.specs.TypedTrees.{TypedTree, TypedTrees, TypedStatement, TypedStatements, OptionalTypedStatement, TypedDeclaration, TypedRoutine}
use Rattle.sts_syntax.specs.Nodes.{nodes, nodes_of, optional_nodes, declared_nodes, expressions, first_expressions, expressions_of}
use Rattle.sts_syntax.specs.BoardTable as board
use Rattle.sts_syntax.specs.BoardTable.{BoardParameter, row_of}
use Rattle.sts_syntax.specs.declared.board_calls.BoardCall.{BoardCall}
use Rattle.sts_syntax.specs.Trees.{Tree, Num, Text, Truth, Null, This, Name, Unary, Binary, Both, Either, Choice, Set, Bump, Member, Item, Call, SuperCall, Make, Items, Handler, Trees, none, more, OptionalTree, absent, present, Statement, Block, Let, IfOnly, IfElse, While, DoWhile, For, ForOf, Return, Break, Continue, Plain, Empty, OptionalStatement, omitted, written, Statements, done, also, Declaration, Declare, Declarations, ended, next, Routine, Does}
use Rattle.sts_scope.specs.declared.kinds.StaticType.{StaticType}
use Rattle.sts_scope.specs.declared.known.Known.{Known}
use Rattle.sts_scope.specs.declared.known.Part.{Part}
use Rattle.sts_scope.specs.declared.known.Part.TheVariants as part
use Rattle.sts_scope.specs.Kinds.{value_type}
use Rattle.sts_scope.specs.Entries.{Naming, written_kind}
use Rattle.sts_scope.specs.Places.{inner}
use Rattle.sts_scope.specs.Rules.{takes_at, maker_takes_of}
use Rattle.type_derive.specs.declared.roles.Role.TheVariants.{Free}
use Rattle.type_derive.specs.Typing.{finds, constant_of, board_callee, super_method, type_of, behind, drawn, draws, text_at}
use Rattle.type_derive.specs.Returns.{bound, looped, items_of}
use Rattle.type_derive.specs.Making.{Made}
use Rattle.type_derive.specs.inner.Filling.{Making, pure, ◌>=>◌, a_local}
use Rattle.sts_scope.specs.Numbers.{Numbering, routine_number}
use Rattle.type_derive.specs.Built.{Site, in_block, board_target, frame_of}
use Rattle.type_derive.specs.inner.Filled.{amiss, next_given, later_given, asked_given, kind_or_nothing, noted, type_in, part_in, class_in, member_read, spot_of, part_target, routine_of, class_found, in_handler_site, behind_statement, first_site, call_takes, routine, plain_handler, drawing, argument_made, made_tree, made_call, made_given, made_items, made_asked, made_body, made_first, made_optional, made_value, made_locals, made_local, made_statement, made_opening, made_statements}
use Rattle.typed_laws.specs.Formed.{TreeHas, TreesHave, OptionHas, BodyHas, DeclarationHas, DeclarationsHave, StatementHas, FirstHas, StatementsHave}

abbrev pub Whatever : ℤ → Type 0
Whatever z = Unit {0}

abbrev pub Below : ℕ → ℕ → Type 0
Below n x = x < n

module _ (n : ℕ) where
  -- an expression that is a text is one of the first n
  abbrev pub NamesIt : TypedTree → Type 0
  NamesIt (e.Text u x) = x < n
  NamesIt _ = Unit {0}

  abbrev pub AllName : List TypedTree → Type 0
  AllName [] = Unit {0}
  AllName (a ∷ rest) = NamesIt a × AllName rest

  abbrev pub RoutinesName : List TypedRoutine → Type 0
  RoutinesName [] = Unit {0}
  RoutinesName (r ∷ rest) = AllName (expressions_of r.all) × RoutinesName rest

  pub both : (xs ys : List TypedTree) → AllName xs → AllName ys → AllName (xs ++ ys)
  both [] ys h k = k
  both (x ∷ xs) ys h k = (h.0, both xs ys h.1 k)

  pub routines_both : (xs ys : List TypedRoutine) → RoutinesName xs → RoutinesName ys → RoutinesName (xs ++ ys)
  routines_both [] ys h k = k
  routines_both (x ∷ xs) ys h k = (h.0, routines_both xs ys h.1 k)

  -- what is made, from whatever numbers on
  pub record Sound {A : Type 0} (P : A → Type 0) (x : Made A) : Type 0 where
    pub it : P x.it
    pub routines : RoutinesName x.routines

  abbrev pub Makes : {A : Type 0} → (A → Type 0) → Making A → Type 0
  Makes P f = (m i : ℕ) → Sound P (f m i)

  pub makes_pure : {A : Type 0} (P : A → Type 0) (a : A) → P a → Makes P (pure a)
  makes_pure P a h m i = record { it = h; routines = tt }

  pub makes_then : {A B : Type 0} (P : A → Type 0) (Q : B → Type 0) (f : Making A) (g : A → Making B) → Makes P f → ((a : A) → P a → Makes Q (g a)) → Makes Q (f >=> g)
  makes_then P Q f g h k m i =
      let x = f m i in
      let p = h m i in
      let q = k x.it p.it (m + length x.locals) (i + length x.routines) in
      record { it = q.it; routines = routines_both x.routines (g x.it (m + length x.locals) (i + length x.routines)).routines p.routines q.routines }

  -- of one, two and three parts
  pub one_of : {A B : Type 0} (P : A → Type 0) (Q : B → Type 0) (f : Making A) (C : A → B) → Makes P f → ((a : A) → P a → Q (C a)) → Makes Q (f >=> λ x. pure (C x))
  one_of P Q f C h k = makes_then P Q f (λ x. pure (C x)) h (λ a p. makes_pure Q (C a) (k a p))

  pub two_of : {A B D : Type 0} (P : A → Type 0) (R : B → Type 0) (Q : D → Type 0) (f : Making A) (g : Making B) (C : A → B → D) → Makes P f → Makes R g → ((a : A) (b : B) → P a → R b → Q (C a b))
      → Makes Q (f >=> λ x. g >=> λ y. pure (C x y))
  two_of P R Q f g C h h' k = makes_then P Q f (λ x. g >=> λ y. pure (C x y)) h (λ a p. one_of R Q g (C a) h' (λ b q. k a b p q))

  pub three_of : {A B D F : Type 0} (P : A → Type 0) (R : B → Type 0) (S : D → Type 0) (Q : F → Type 0) (f : Making A) (g : Making B) (o : Making D) (C : A → B → D → F) → Makes P f → Makes R g → Makes S o
      → ((a : A) (b : B) (d : D) → P a → R b → S d → Q (C a b d)) → Makes Q (f >=> λ x. g >=> λ y. o >=> λ z. pure (C x y z))
  three_of P R S Q f g o C h h' h'' k = makes_then P Q f (λ x. g >=> λ y. o >=> λ z. pure (C x y z)) h (λ a p. two_of R S Q g o (C a) h' h'' (λ b d q u. k a b d p q u))

  makes_local : {A : Type 0} (P : A → Type 0) (u : ValueType) (make : ℕ → A) → ((i : ℕ) → P (make i)) → Makes P (a_local u make)
  makes_local P u make h m i = record { it = h m; routines = tt }

  abbrev pub OfTree : TypedTree → Type 0
  OfTree a = AllName (nodes a)

  abbrev pub OfTrees : TypedTrees → Type 0
  OfTrees all = AllName (nodes_of all)

  abbrev pub OfOption : Option TypedTree → Type 0
  OfOption o = AllName (optional_nodes o)

  abbrev pub OfDeclarations : List TypedDeclaration → Type 0
  OfDeclarations ds = AllName (declared_nodes ds)

  abbrev pub OfDeclaration : TypedDeclaration → Type 0
  OfDeclaration d = AllName (optional_nodes d.first)

  abbrev pub OfStatement : TypedStatement → Type 0
  OfStatement a = AllName (expressions a)

  abbrev pub OfFirst : OptionalTypedStatement → Type 0
  OfFirst a = AllName (first_expressions a)

  abbrev pub OfStatements : TypedStatements → Type 0
  OfStatements all = AllName (expressions_of all)

  abbrev pub OfAny : {A : Type 0} → A → Type 0
  OfAny a = Unit {0}

  module _ (tables : Tables) (names : Naming) (k : Known) (numbers : Numbering) where
    read_names : (u : ValueType) (p : Part) (class m : ℕ) (a : TypedTree) → OfTree a → OfTree (member_read tables names k numbers u p class m a)
    read_names u (part.Field d) class m a h = (tt, h)
    read_names u part.Length class m a h = (tt, h)
    read_names u (part.Method d) class m a h = (tt, tt)
    read_names u (part.Push d) class m a h = (tt, tt)
    read_names u (part.Pop d) class m a h = (tt, tt)
    read_names u part.Missing class m a h = (tt, tt)

    handler_names : (s : Site) (a : Tree) → OfTree (plain_handler tables names k numbers s a)
    handler_names s (Name at x) = (tt, tt)
    handler_names s _ = (tt, tt)

    either_names : (drawing : Bool) (a : TypedTree) → OfTree a → OfTree (if drawing then a else amiss)
    either_names true a h = h
    either_names false a h = (tt, tt)

    drawing_names : (a : Tree) → OfTree (drawing tables names k numbers a)
    drawing_names (Text at x) = either_names (draws (text_at tables x)) (e.Num t.Number (pos (frame_of (drawn (text_at tables x))))) (tt, tt)
    drawing_names _ = (tt, tt)

    argument_names : (s : Site) (ps : List BoardParameter) (a : Tree) (made : Making TypedTree) → Makes OfTree made → Makes OfTree (argument_made tables names k numbers s ps a made)
    argument_names s (board.Handler ∷ ps) (Handler at body) made h = h
    argument_names s (board.Handler ∷ ps) a made h = makes_pure OfTree (plain_handler tables names k numbers s a) (handler_names s a)
    argument_names s (board.Drawing ∷ ps) a made h = makes_pure OfTree (drawing tables names k numbers a) (drawing_names a)
    argument_names s (board.Of u ∷ ps) a made h = h
    argument_names s [] a made h = h

    -- a function's statements
    pub routine_names : (params : List ValueType) (gives : ValueType) (all : Making TypedStatements) → Makes OfStatements all → (i : ℕ)
        → RoutinesName ((routine tables names k numbers params gives all i).it ∷ (routine tables names k numbers params gives all i).routines)
    routine_names params gives all h i = let x = h 0 (suc i) in (x.it, x.routines)

    abbrev M : Site → Option StaticType → Tree → Making TypedTree
    M s g a = made_tree tables names k numbers s g a

    abbrev G : Site → List StaticType → Trees → Making TypedTrees
    G s takes all = made_given tables names k numbers s takes all

    abbrev W : Site → Statement → Making TypedStatement
    W s a = made_statement tables names k numbers s a

    abbrev X : Site → Statements → Making TypedStatements
    X s all = made_statements tables names k numbers s all

    abbrev note : Site → Option StaticType → Tree → ValueType
    note s g a = noted tables names k numbers s g a

    member_names : (s : Site) (g : Option StaticType) (at : ℕ) (a : Tree) (m : ℕ) (o : Option ℤ) → Makes OfTree (M s None a) → Makes OfTree (elim o [
      | Some z ↦ pure (e.Num t.Number z)
      | None ↦ made_tree tables names k numbers s None a >=> λ x. pure (member_read tables names k numbers (noted tables names k numbers s g (Member at a m)) (part_in tables names k numbers s a m) (class_in tables names k numbers s a) m x)
    ])
    member_names s g at a m (Some z) h = makes_pure OfTree (e.Num t.Number z) (tt, tt)
    member_names s g at a m None h =
        one_of OfTree OfTree (M s None a) (λ x. member_read tables names k numbers (note s g (Member at a m)) (part_in tables names k numbers s a m) (class_in tables names k numbers s a) m x) h
        (λ x p. read_names (note s g (Member at a m)) (part_in tables names k numbers s a m) (class_in tables names k numbers s a) m x p)

    call_names : (s : Site) (g : Option StaticType) (at : ℕ) (f : Tree) (args : Trees) (o : Option BoardCall) → ((call : BoardCall) → Makes OfTrees (made_asked tables names k numbers s (row_of call).takes args))
        → Makes OfTree (made_call tables names k numbers s (note s g (Call at f args)) f (G s (call_takes tables names k numbers s f) args)) → Makes OfTree (elim o [
          | Some call ↦ made_asked tables names k numbers s (row_of call).takes args >=> λ xs. pure (e.Call (noted tables names k numbers s g (Call at f args)) (board_target call (row_of call).action) xs)
          | None ↦ made_call tables names k numbers s (noted tables names k numbers s g (Call at f args)) f (made_given tables names k numbers s (call_takes tables names k numbers s f) args)
        ])
    call_names s g at f args (Some call) h h' =
        one_of OfTrees OfTree (made_asked tables names k numbers s (row_of call).takes args) (λ xs. e.Call (note s g (Call at f args)) (board_target call (row_of call).action) xs) (h call) (λ xs p. (tt, p))
    call_names s g at f args None h h' = h'

    super_names : (s : Site) (g : Option StaticType) (at m : ℕ) (args : Trees) (o : Option ℕ) → ((d : ℕ) → Makes OfTrees (G s (takes_at k.entries d) args)) → Makes OfTree (elim o [
      | None ↦ pure amiss
      | Some d ↦ made_given tables names k numbers s (takes_at k.entries d) args >=> λ xs. pure (e.SuperCall (noted tables names k numbers s g (SuperCall at (Some m) args)) (routine_number numbers d) xs)
    ])
    super_names s g at m args None h = makes_pure OfTree amiss (tt, tt)
    super_names s g at m args (Some d) h =
        one_of OfTrees OfTree (G s (takes_at k.entries d) args) (λ xs. e.SuperCall (note s g (SuperCall at (Some m) args)) (routine_number numbers d) xs) (h d) (λ xs p. (tt, p))

    mutual
      pub tree : (s : Site) (g : Option StaticType) (a : Tree) → TreeHas Whatever (Below n) a → Makes OfTree (made_tree tables names k numbers s g a)
      tree s g (Num at z) h = makes_pure OfTree (e.Num t.Number z) (tt, tt)
      tree s g (Text at x) h = makes_pure OfTree (e.Text t.Text x) (h, tt)
      tree s g (Truth at b) h = makes_pure OfTree (e.Truth t.Boolean b) (tt, tt)
      tree s g (Null at) h = makes_pure OfTree (e.Null t.NullType) (tt, tt)
      tree s g (This at) h = makes_pure OfTree (e.This (note s g (This at))) (tt, tt)
      tree s g (Name at x) h = makes_pure OfTree (e.Name (note s g (Name at x)) (spot_of tables names k numbers s (finds tables k s.place x))) (tt, tt)
      tree s g (Unary at op a) h = one_of OfTree OfTree (M s None a) (λ x. e.Unary (note s g (Unary at op a)) op x) (tree s None a h) (λ x p. (tt, p))
      tree s g (Binary at op a b) h =
          two_of OfTree OfTree OfTree (M s None a) (M s None b) (λ x y. e.Binary (note s g (Binary at op a b)) op x y) (tree s None a h.0) (tree s None b h.1) (λ x y p q. (tt, both (nodes x) (nodes y) p q))
      tree s g (Both at a b) h = two_of OfTree OfTree OfTree (M s None a) (M s None b) (λ x y. e.Both t.Boolean x y) (tree s None a h.0) (tree s None b h.1) (λ x y p q. (tt, both (nodes x) (nodes y) p q))
      tree s g (Either at a b) h = two_of OfTree OfTree OfTree (M s None a) (M s None b) (λ x y. e.Either t.Boolean x y) (tree s None a h.0) (tree s None b h.1) (λ x y p q. (tt, both (nodes x) (nodes y) p q))
      tree s g (Choice at c a b) h =
          three_of OfTree OfTree OfTree OfTree (M s None c) (M s None a) (M s None b) (λ z x y. e.Choice (note s g (Choice at c a b)) z x y) (tree s None c h.0) (tree s None a h.1) (tree s None b h.2)
          (λ z x y o p q. (tt, both (nodes z ++ nodes x) (nodes y) (both (nodes z) (nodes x) o p) q))
      tree s g (Set at op x r) h =
          two_of OfTree OfTree OfTree (M s None x) (M s (Some (type_in tables names k numbers s x)) r) (λ a b. e.Set (note s g (Set at op x r)) op a b) (tree s None x h.0) (tree s (Some (type_in tables names k numbers s x)) r h.1)
          (λ a b p q. (tt, both (nodes a) (nodes b) p q))
      tree s g (Bump at x by late) h = one_of OfTree OfTree (M s None x) (λ a. e.Bump t.Number a by late) (tree s None x h.0) (λ a p. (tt, p))
      tree s g (Member at a m) h = member_names s g at a m (constant_of tables k s.place a m) (tree s None a h)
      tree s g (Item at a i) h =
          two_of OfTree OfTree OfTree (M s None a) (M s None i) (λ x y. e.Item (note s g (Item at a i)) x y) (tree s None a h.0) (tree s None i h.1) (λ x y p q. (tt, both (nodes x) (nodes y) p q))
      tree s g (Items at none) h = makes_pure OfTree (e.Items (note s g (Items at none)) e.none) (tt, tt)
      tree s g (Items at (more a rest)) h =
          two_of OfTree OfTrees OfTree (M s None a) (made_items tables names k numbers s (type_in tables names k numbers s a) rest) (λ x xs. e.Items (note s g (Items at (more a rest))) (e.more x xs)) (tree s None a h.0)
          (items s (type_in tables names k numbers s a) rest h.1) (λ x xs p q. (tt, both (nodes x) (nodes_of xs) p q))
      tree s g (Call at f args) h =
          call_names s g at f args (board_callee tables k s.place f) (λ call. asked s (row_of call).takes args h.1)
          (call_of s (note s g (Call at f args)) f (G s (call_takes tables names k numbers s f) args) h.0 (given s (call_takes tables names k numbers s f) args h.1))
      tree s g (SuperCall at None args) h = makes_pure OfTree amiss (tt, tt)
      tree s g (SuperCall at (Some m) args) h = super_names s g at m args (super_method k s.place.this m) (λ d. given s (takes_at k.entries d) args h)
      tree s g (Make at x args) h =
          let class = class_found tables names k numbers (finds tables k s.place x) in
          one_of OfTrees OfTree (G s (maker_takes_of k.classes class) args) (λ xs. e.Make (t.Object class) class xs) (given s (maker_takes_of k.classes class) args h) (λ xs p. (tt, p))
      tree s g (Handler at b) h = λ m i. record { it = (tt, tt); routines = routine_names [] t.Nothing (made_body tables names k numbers s b) (body s b h) i }

      call_of : (s : Site) (u : ValueType) (f : Tree) (args : Making TypedTrees) → TreeHas Whatever (Below n) f → Makes OfTrees args → Makes OfTree (made_call tables names k numbers s u f args)
      call_of s u (Name at x) args h p = one_of OfTrees OfTree args (λ xs. e.Call u (c.Function (routine_of tables names k numbers (finds tables k s.place x))) xs) p (λ xs q. (tt, q))
      call_of s u (Member at a m) args h p =
          two_of OfTree OfTrees OfTree (M s None a) args (λ x xs. e.Call u (part_target tables names k numbers (part_in tables names k numbers s a m) (class_in tables names k numbers s a) m) (e.more x xs)) (tree s None a h) p
          (λ x xs o q. (tt, both (nodes x) (nodes_of xs) o q))
      call_of s u _ args h p = makes_pure OfTree amiss (tt, tt)

      pub given : (s : Site) (takes : List StaticType) (all : Trees) → TreesHave Whatever (Below n) all → Makes OfTrees (made_given tables names k numbers s takes all)
      given s takes none h = makes_pure OfTrees e.none tt
      given s takes (more a rest) h =
          two_of OfTree OfTrees OfTrees (M s (next_given takes) a) (G s (later_given takes) rest) (λ x xs. e.more x xs) (tree s (next_given takes) a h.0) (given s (later_given takes) rest h.1) (λ x xs p q. both (nodes x) (nodes_of xs) p q)

      items : (s : Site) (u : StaticType) (all : Trees) → TreesHave Whatever (Below n) all → Makes OfTrees (made_items tables names k numbers s u all)
      items s u none h = makes_pure OfTrees e.none tt
      items s u (more a rest) h =
          two_of OfTree OfTrees OfTrees (M s (Some u) a) (made_items tables names k numbers s u rest) (λ x xs. e.more x xs) (tree s (Some u) a h.0) (items s u rest h.1) (λ x xs p q. both (nodes x) (nodes_of xs) p q)

      asked : (s : Site) (ps : List BoardParameter) (all : Trees) → TreesHave Whatever (Below n) all → Makes OfTrees (made_asked tables names k numbers s ps all)
      asked s ps none h = makes_pure OfTrees e.none tt
      asked s ps (more a rest) h =
          two_of OfTree OfTrees OfTrees (argument_made tables names k numbers s ps a (M s (asked_given ps) a)) (made_asked tables names k numbers s (behind ps) rest) (λ x xs. e.more x xs)
          (argument_names s ps a (M s (asked_given ps) a) (tree s (asked_given ps) a h.0)) (asked s (behind ps) rest h.1) (λ x xs p q. both (nodes x) (nodes_of xs) p q)

      body : (s : Site) (b : Routine) → BodyHas Whatever (Below n) b → Makes OfStatements (made_body tables names k numbers s b)
      body s (Does at params gives all arrow) h = statements (in_handler_site tables names k numbers s params gives all) false all h

      pub first : (s : Site) (shape : Option Annotation) (o : OptionalTree) → OptionHas Whatever (Below n) o → Makes OfOption (made_first tables names k numbers s shape o)
      first s shape absent h = makes_pure OfOption None tt
      first s shape (present a) h = one_of OfTree OfOption (M s (written_kind names shape) a) (λ x. Some x) (tree s (written_kind names shape) a h) (λ x p. p)

      optional : (s : Site) (o : OptionalTree) → OptionHas Whatever (Below n) o → Makes OfOption (made_optional tables names k numbers s o)
      optional s absent h = makes_pure OfOption None tt
      optional s (present a) h = one_of OfTree OfOption (M s None a) (λ x. Some x) (tree s None a h) (λ x p. p)

      value : (s : Site) (g : Option StaticType) (o : OptionalTree) → OptionHas Whatever (Below n) o → Makes OfOption (made_value tables names k numbers s g o)
      value s g absent h = makes_pure OfOption None tt
      value s g (present a) h = one_of OfTree OfOption (M s g a) (λ x. Some x) (tree s g a h) (λ x p. p)

      locals : (s : Site) (fixed : Bool) (ds : Declarations) → DeclarationsHave Whatever (Below n) ds → Makes OfDeclarations (made_locals tables names k numbers s fixed ds)
      locals s fixed ended h = makes_pure OfDeclarations [] tt
      locals s fixed (next a rest) h = λ m i.
          let inside = behind_statement tables names k numbers m s (Let 0 fixed (next a ended)) in
          two_of OfDeclaration OfDeclarations OfDeclarations (made_local tables names k numbers s a) (made_locals tables names k numbers inside fixed rest) (λ d ds. d ∷ ds) (local s a h.0) (locals inside fixed rest h.1)
          (λ d ds p q. both (optional_nodes d.first) (declared_nodes ds) p q) m i

      local : (s : Site) (d : Declaration) → DeclarationHas Whatever (Below n) d → Makes OfDeclaration (made_local tables names k numbers s d)
      local s (Declare at x shape o) h =
          let u = value_type (kind_or_nothing tables names k numbers (bound tables names k s.place shape o)) in
          makes_then OfOption OfDeclaration (made_first tables names k numbers s shape o) (λ a. a_local u (λ i. record { name = Local i; first = a })) (first s shape o h) (λ a p. makes_local OfDeclaration u (λ i. record { name = Local i; first = a }) (λ i. p))

      pub statement : (s : Site) (l : Bool) (a : Statement) → StatementHas Whatever (Below n) l a → Makes OfStatement (made_statement tables names k numbers s a)
      statement s l (Block at all) h = one_of OfStatements OfStatement (X (in_block s) all) (λ xs. e.Block xs) (statements (in_block s) l all h) (λ xs p. p)
      statement s l (Let at fixed each) h = one_of OfDeclarations OfStatement (made_locals tables names k numbers s fixed each) (λ ds. e.Let fixed ds) (locals s fixed each h) (λ ds p. p)
      statement s l (IfOnly at test a) h = two_of OfTree OfStatement OfStatement (M s None test) (W (in_block s) a) (λ q x. e.IfOnly q x) (tree s None test h.0) (statement (in_block s) l a h.1) (λ q x p o. both (nodes q) (expressions x) p o)
      statement s l (IfElse at test a b) h =
          three_of OfTree OfStatement OfStatement OfStatement (M s None test) (W (in_block s) a) (W (in_block s) b) (λ q x y. e.IfElse q x y) (tree s None test h.0) (statement (in_block s) l a h.1) (statement (in_block s) l b h.2)
          (λ q x y p o r. both (nodes q ++ expressions x) (expressions y) (both (nodes q) (expressions x) p o) r)
      statement s l (While at test a) h = two_of OfTree OfStatement OfStatement (M s None test) (W (in_block s) a) (λ q x. e.While q x) (tree s None test h.0) (statement (in_block s) true a h.1) (λ q x p o. both (nodes q) (expressions x) p o)
      statement s l (DoWhile at a test) h = two_of OfStatement OfTree OfStatement (W (in_block s) a) (M s None test) (λ x q. e.DoWhile x q) (statement (in_block s) true a h.0) (tree s None test h.1) (λ x q o p. both (expressions x) (nodes q) o p)
      statement s l (For at f test step a) h = λ m i.
          let inside = first_site tables names k numbers m (in_block s) f in
          let rest = λ (w : OptionalTypedStatement). made_optional tables names k numbers inside test >=> λ q. made_optional tables names k numbers inside step >=> λ j. W (in_block inside) a >=> λ x. pure (e.For w q j x) in
          makes_then OfFirst OfStatement (made_opening tables names k numbers (in_block s) f) rest (opening (in_block s) f h.0)
          (λ w o. three_of OfOption OfOption OfStatement OfStatement (made_optional tables names k numbers inside test) (made_optional tables names k numbers inside step) (W (in_block inside) a) (λ q j x. e.For w q j x)
          (optional inside test h.1) (optional inside step h.2) (statement (in_block inside) true a h.3)
          (λ x y z p q r. both (first_expressions w ++ optional_nodes x ++ optional_nodes y) (expressions z) (both (first_expressions w ++ optional_nodes x) (optional_nodes y) (both (first_expressions w) (optional_nodes x) o p) q) r)) m i
      statement s l (ForOf at fixed x list a) h = λ m i.
          let u = value_type (kind_or_nothing tables names k numbers (items_of (type_of tables k s.place Free list))) in
          let inside : Site = record { place = inner (looped tables k s.place fixed x list); spots = s.spots ++ Local m ∷ [] } in
          let last = λ (y : TypedTree) (j : ℕ). a_local (t.ListOf u) (λ o. o) >=> λ (o : ℕ). a_local t.Number (λ o. o) >=> λ (o : ℕ). W inside a >=> λ z. pure (e.ForOf fixed (Local j) y z) in
          let rest = λ (y : TypedTree). a_local u (λ o. o) >=> λ j. last y j in
          makes_then OfTree OfStatement (M s None list) rest (tree s None list h.0)
          (λ y p. makes_then OfAny OfStatement (a_local u (λ o. o)) (last y) (makes_local OfAny u (λ o. o) (λ o. tt))
          (λ j _. three_of OfAny OfAny OfStatement OfStatement (a_local (t.ListOf u) (λ o. o)) (a_local t.Number (λ o. o)) (W inside a) (λ _ _ z. e.ForOf fixed (Local j) y z)
          (makes_local OfAny (t.ListOf u) (λ o. o) (λ o. tt)) (makes_local OfAny t.Number (λ o. o) (λ o. tt)) (statement inside true a h.1) (λ _ _ z _ _ r. both (nodes y) (expressions z) p r))) m i
      statement s l (Return at o) h = one_of OfOption OfStatement (made_value tables names k numbers s s.place.gives o) (λ x. e.Return x) (value s s.place.gives o h) (λ x p. p)
      statement s l (Break at) h = makes_pure OfStatement e.Break tt
      statement s l (Continue at) h = makes_pure OfStatement e.Continue tt
      statement s l (Plain at a) h = one_of OfTree OfStatement (M s None a) (λ x. e.Plain x) (tree s None a h) (λ x p. p)
      statement s l (Empty at) h = makes_pure OfStatement e.Empty tt

      opening : (s : Site) (f : OptionalStatement) → FirstHas Whatever (Below n) f → Makes OfFirst (made_opening tables names k numbers s f)
      opening s omitted h = makes_pure OfFirst e.omitted tt
      opening s (written a) h = one_of OfStatement OfFirst (W s a) (λ x. e.written x) (statement s false a h.1) (λ x p. p)

      pub statements : (s : Site) (l : Bool) (all : Statements) → StatementsHave Whatever (Below n) l all → Makes OfStatements (made_statements tables names k numbers s all)
      statements s l done h = makes_pure OfStatements e.done tt
      statements s l (also a rest) h = λ m i.
          let inside = behind_statement tables names k numbers m s a in
          two_of OfStatement OfStatements OfStatements (W s a) (X inside rest) (λ x xs. e.also x xs) (statement s l a h.0) (statements inside l rest h.1) (λ x xs p q. both (expressions x) (expressions_of xs) p q) m i
