-- The filled tree of an expression or statement, node by node, also of one with failures: where something isn't there, a value stands for it. Where a node has no failure, it's the typed tree (`texts_without_a_failure_are_built` in crates/typed_laws).
use Rattle.std.specs.Prelude.{ℕ, pos, suc, ◌+◌, Bool, false, Option, Some, None, List, [], ◌∷◌, ◌++◌, unwrap_or, get_or, if◌then◌else◌}
use Rattle.sts_base.specs.declared.tables.Tables.{Tables}
use Rattle.sts_syntax.specs.Annotations.{Annotation}
use Rattle.sts_syntax.specs.declared.typed.Spot.{Spot}
use Rattle.sts_syntax.specs.declared.typed.Spot.TheVariants.{Local, Global}
use Rattle.sts_syntax.specs.declared.typed.Callee.{Callee as Target}
use Rattle.sts_syntax.specs.declared.typed.Callee.TheVariants as c
use Rattle.sts_syntax.specs.Types as t
use Rattle.sts_syntax.specs.Types.{ValueType}
use Rattle.sts_syntax.specs.TypedTrees as e
use Rattle.sts_syntax.specs.TypedTrees.{TypedTree, TypedTrees, TypedStatement, TypedStatements, OptionalTypedStatement, TypedDeclaration, TypedRoutine}
use Rattle.sts_syntax.specs.BoardTable as board
use Rattle.sts_syntax.specs.BoardTable.{BoardParameter, row_of}
use Rattle.sts_syntax.specs.Trees.{Parameter, Tree, Num, Text, Truth, Null, This, Name, Unary, Binary, Both, Either, Choice, Set, Bump, Member, Item, Call, SuperCall, Make, Items, Handler, Trees, none, more, OptionalTree, absent, present, Statement, Block, Let, IfOnly, IfElse, While, DoWhile, For, ForOf, Return, Break, Continue, Plain, Empty, Statements, done, also, OptionalStatement, omitted, written, Declaration, Declare, Declarations, ended, next, Routine, Does}
use Rattle.sts_scope.specs.declared.kinds.StaticType.{StaticType}
use Rattle.sts_scope.specs.declared.known.Known.{Known}
use Rattle.sts_scope.specs.declared.known.Found.{Found}
use Rattle.sts_scope.specs.declared.known.Found.TheVariants as found
use Rattle.sts_scope.specs.declared.known.Part.{Part}
use Rattle.sts_scope.specs.declared.known.Part.TheVariants as part
use Rattle.sts_scope.specs.declared.known.This.{This as Self}
use Rattle.sts_scope.specs.declared.known.This.TheVariants as this
use Rattle.sts_scope.specs.Kinds.{nothing, class_of, value_type, value_types}
use Rattle.sts_scope.specs.Entries.{Naming, parameter_kinds, written_kind}
use Rattle.sts_scope.specs.Places.{inner}
use Rattle.sts_scope.specs.Rules.{part_of, takes_at, maker_takes_of}
use Rattle.type_derive.specs.declared.roles.Role.TheVariants.{Free}
use Rattle.type_derive.specs.Typing.{finds, constant_of, board_callee, super_method, board_kind, type_of, behind, drawn, draws, text_at}
use Rattle.type_derive.specs.Returns.{parameter_locals, within, bound, after, looped, items_of}
use Rattle.type_derive.specs.Nodes.{kind_role, handler_place}
use Rattle.type_derive.specs.Making.{Made}
use Rattle.type_derive.specs.Built.{Site, in_block, frame_of, board_target, new_spots}
pub use Rattle.type_derive.specs.Built.{Site, in_block, frame_of, board_target, spots_from, new_spots}
use Rattle.type_derive.specs.Functions.{parameter_spots}
use Rattle.type_derive.specs.inner.Filling.{Making, pure, ◌>=>◌, a_local}
use Rattle.sts_scope.specs.Numbers.{Numbering, global_number, field_names, slot_names, place_among, routine_number}

-- a value where a tree has a failure
abbrev pub amiss : TypedTree
amiss = e.Null t.NullType

-- what is given to the next argument
abbrev pub next_given : List StaticType → Option StaticType
next_given [] = None
next_given (u ∷ us) = Some u

abbrev pub later_given : List StaticType → List StaticType
later_given [] = []
later_given (u ∷ us) = us

abbrev pub asked_given : List BoardParameter → Option StaticType
asked_given (board.Of u ∷ ps) = Some (board_kind u)
asked_given _ = None

module _ (tables : Tables) (names : Naming) (k : Known) (numbers : Numbering) where
  abbrev pub spot_of : Site → Found → Spot
  spot_of s (found.Local i) = get_or s.spots i (Global 0)
  spot_of s (found.Global d) = Global (global_number k d)
  spot_of s _ = Global 0

  abbrev pub in_handler_site : Site → List Parameter → Option Annotation → Statements → Site
  in_handler_site s params gives all =
      record { place = handler_place tables names k s.place params gives all; spots = [] }

  abbrev pub kind_or_nothing : Option StaticType → StaticType
  kind_or_nothing o = unwrap_or o nothing

  -- the type that an expression is noted to have; `[]` has that of its place
  abbrev pub noted : Site → Option StaticType → Tree → ValueType
  noted s given (Items at none) = value_type (kind_or_nothing given)
  noted s given a = value_type (kind_or_nothing (type_of tables k s.place (kind_role given) a))

  abbrev pub type_in : Site → Tree → StaticType
  type_in s a = kind_or_nothing (type_of tables k s.place Free a)

  abbrev pub part_in : Site → Tree → ℕ → Part
  part_in s a m = part_of tables.names k (type_in s a) m

  abbrev pub class_in : Site → Tree → ℕ
  class_in s a = unwrap_or (class_of (type_in s a)) 0

  abbrev pub member_read : ValueType → Part → ℕ → ℕ → TypedTree → TypedTree
  member_read u (part.Field d) class m a = e.Field u a (place_among (field_names k class) m)
  member_read u part.Length class m a = e.Length u a
  member_read u _ class m a = amiss

  -- what a called member takes, and which it is
  abbrev pub part_takes : Part → List StaticType
  part_takes (part.Method d) = takes_at k.entries d
  part_takes (part.Push u) = u ∷ []
  part_takes _ = []

  abbrev pub part_target : Part → ℕ → ℕ → Target
  part_target (part.Method d) class m = c.Slot (place_among (slot_names k class) m)
  part_target (part.Push u) class m = c.Push
  part_target _ class m = c.Pop

  abbrev pub routine_of : Found → ℕ
  routine_of (found.Function d) = routine_number numbers d
  routine_of _ = 0

  abbrev pub routine_takes : Found → List StaticType
  routine_takes (found.Function d) = takes_at k.entries d
  routine_takes _ = []

  abbrev pub class_found : Found → ℕ
  class_found (found.Class class) = class
  class_found _ = 0

  abbrev pub behind_statement : ℕ → Site → Statement → Site
  behind_statement m s a = record { place = after tables names k s.place a; spots = s.spots ++ new_spots m a }

  abbrev pub first_site : ℕ → Site → OptionalStatement → Site
  first_site m s omitted = s
  first_site m s (written a) = behind_statement m s a

  -- what a called function or member takes
  abbrev pub call_takes : Site → Tree → List StaticType
  call_takes s (Name at x) = routine_takes (finds tables k s.place x)
  call_takes s (Member at a m) = part_takes (part_in s a m)
  call_takes s _ = []

  -- a function of these parameters and this result, whose own number is n, and its locals those that its statements declare; those in it are numbered from n + 1 on
  abbrev pub routine : List ValueType → ValueType → Making TypedStatements → ℕ → Made TypedRoutine
  routine params gives all n =
      let made = all 0 (suc n) in
      record {
        it = record { params = params; locals = made.locals; gives = gives; all = made.it };
        locals = [];
        routines = made.routines;
      }

  abbrev pub handler_made : Making TypedStatements → Making TypedTree
  handler_made all = λ m n.
      let made = routine [] t.Nothing all n in
      record { it = e.Handler t.Nothing n; locals = []; routines = made.it ∷ made.routines }

  abbrev pub plain_handler : Site → Tree → TypedTree
  plain_handler s (Name at x) = e.Handler t.Nothing (routine_of (finds tables k s.place x))
  plain_handler s _ = amiss

  -- a text that draws a frame, as the frame's number
  abbrev pub drawing : Tree → TypedTree
  drawing (Text at n) =
      if draws (text_at tables n) then e.Num t.Number (pos (frame_of (drawn (text_at tables n)))) else amiss
  drawing _ = amiss

  -- an argument of a call of the board, which is made so where it is neither a function's name nor a drawing
  abbrev pub argument_made : Site → List BoardParameter → Tree → Making TypedTree → Making TypedTree
  argument_made s (board.Handler ∷ ps) (Handler at body) made = made
  argument_made s (board.Handler ∷ ps) a made = pure (plain_handler s a)
  argument_made s (board.Drawing ∷ ps) a made = pure (drawing a)
  argument_made s (board.Of u ∷ ps) a made = made
  argument_made s [] a made = made

  abbrev mutual
    pub made_tree : Site → Option StaticType → Tree → Making TypedTree
    made_tree s g (Num at n) = pure (e.Num t.Number n)
    made_tree s g (Text at n) = pure (e.Text t.Text n)
    made_tree s g (Truth at b) = pure (e.Truth t.Boolean b)
    made_tree s g (Null at) = pure (e.Null t.NullType)
    made_tree s g (This at) = pure (e.This (noted s g (This at)))
    made_tree s g (Name at x) = pure (e.Name (noted s g (Name at x)) (spot_of s (finds tables k s.place x)))
    made_tree s g (Unary at op a) = made_tree s None a >=> λ x. pure (e.Unary (noted s g (Unary at op a)) op x)
    made_tree s g (Binary at op a b) =
        made_tree s None a >=> λ x. made_tree s None b >=> λ y. pure (e.Binary (noted s g (Binary at op a b)) op x y)
    made_tree s g (Both at a b) = made_tree s None a >=> λ x. made_tree s None b >=> λ y. pure (e.Both t.Boolean x y)
    made_tree s g (Either at a b) =
        made_tree s None a >=> λ x. made_tree s None b >=> λ y. pure (e.Either t.Boolean x y)
    made_tree s g (Choice at q a b) =
        made_tree s None q >=> λ z. made_tree s None a >=> λ x. made_tree s None b
        >=> λ y. pure (e.Choice (noted s g (Choice at q a b)) z x y)
    made_tree s g (Set at op x r) =
        made_tree s None x >=> λ a. made_tree s (Some (type_in s x)) r
        >=> λ b. pure (e.Set (noted s g (Set at op x r)) op a b)
    made_tree s g (Bump at x by late) = made_tree s None x >=> λ a. pure (e.Bump t.Number a by late)
    made_tree s g (Member at a m) = elim (constant_of tables k s.place a m) [
      | Some z ↦ pure (e.Num t.Number z)
      | None ↦ made_tree s None a
          >=> λ x. pure (member_read (noted s g (Member at a m)) (part_in s a m) (class_in s a) m x)
    ]
    made_tree s g (Item at a i) =
        made_tree s None a >=> λ x. made_tree s None i >=> λ y. pure (e.Item (noted s g (Item at a i)) x y)
    made_tree s g (Items at none) = pure (e.Items (noted s g (Items at none)) e.none)
    made_tree s g (Items at (more a rest)) =
        made_tree s None a >=> λ x. made_items s (type_in s a) rest
        >=> λ xs. pure (e.Items (noted s g (Items at (more a rest))) (e.more x xs))
    made_tree s g (Call at f args) = elim (board_callee tables k s.place f) [
      | Some call ↦ made_asked s (row_of call).takes args
          >=> λ xs. pure (e.Call (noted s g (Call at f args)) (board_target call (row_of call).action) xs)
      | None ↦ made_call s (noted s g (Call at f args)) f (made_given s (call_takes s f) args)
    ]
    made_tree s g (SuperCall at None args) = pure amiss
    made_tree s g (SuperCall at (Some m) args) = elim (super_method k s.place.this m) [
      | None ↦ pure amiss
      | Some d ↦ made_given s (takes_at k.entries d) args
          >=> λ xs. pure (e.SuperCall (noted s g (SuperCall at (Some m) args)) (routine_number numbers d) xs)
    ]
    made_tree s g (Make at x args) =
        let class = class_found (finds tables k s.place x) in
        made_given s (maker_takes_of k.classes class) args >=> λ xs. pure (e.Make (t.Object class) class xs)
    made_tree s g (Handler at body) = handler_made (made_body s body)

    -- a call of a function or a method, whose arguments are made so
    pub made_call : Site → ValueType → Tree → Making TypedTrees → Making TypedTree
    made_call s u (Name at x) args =
        args >=> λ xs. pure (e.Call u (c.Function (routine_of (finds tables k s.place x))) xs)
    made_call s u (Member at a m) args =
        made_tree s None a >=> λ x. args
        >=> λ xs. pure (e.Call u (part_target (part_in s a m) (class_in s a) m) (e.more x xs))
    made_call s u _ args = pure amiss

    -- arguments to which types are given
    pub made_given : Site → List StaticType → Trees → Making TypedTrees
    made_given s takes none = pure e.none
    made_given s takes (more a rest) =
        made_tree s (next_given takes) a >=> λ x. made_given s (later_given takes) rest >=> λ xs. pure (e.more x xs)

    -- items to which the first one's type is given
    pub made_items : Site → StaticType → Trees → Making TypedTrees
    made_items s u none = pure e.none
    made_items s u (more a rest) = made_tree s (Some u) a >=> λ x. made_items s u rest >=> λ xs. pure (e.more x xs)

    -- arguments of a call of the board
    pub made_asked : Site → List BoardParameter → Trees → Making TypedTrees
    made_asked s ps none = pure e.none
    made_asked s ps (more a rest) =
        argument_made s ps a (made_tree s (asked_given ps) a) >=> λ x. made_asked s (behind ps) rest
        >=> λ xs. pure (e.more x xs)

    -- the statements of a handler
    pub made_body : Site → Routine → Making TypedStatements
    made_body s (Does at params gives all arrow) = made_statements (in_handler_site s params gives all) all

    pub made_first : Site → Option Annotation → OptionalTree → Making (Option TypedTree)
    made_first s shape absent = pure None
    made_first s shape (present a) = made_tree s (written_kind names shape) a >=> λ x. pure (Some x)

    pub made_optional : Site → OptionalTree → Making (Option TypedTree)
    made_optional s absent = pure None
    made_optional s (present a) = made_tree s None a >=> λ x. pure (Some x)

    pub made_value : Site → Option StaticType → OptionalTree → Making (Option TypedTree)
    made_value s g absent = pure None
    made_value s g (present a) = made_tree s g a >=> λ x. pure (Some x)

    -- declared names of a block: each is a local, numbered behind those before it
    pub made_locals : Site → Bool → Declarations → Making (List TypedDeclaration)
    made_locals s fixed ended = pure []
    made_locals s fixed (next a rest) = λ m n.
        let all = made_local s a >=> λ d. made_locals (behind_statement m s (Let 0 fixed (next a ended))) fixed rest
        >=> λ ds. pure (d ∷ ds) in
        all m n

    pub made_local : Site → Declaration → Making TypedDeclaration
    made_local s (Declare at x shape first) =
        made_first s shape first
        >=> λ a. a_local (value_type (kind_or_nothing (bound tables names k s.place shape first)))
        (λ i. record { name = Local i; first = a })

    pub made_statement : Site → Statement → Making TypedStatement
    made_statement s (Block at all) = made_statements (in_block s) all >=> λ xs. pure (e.Block xs)
    made_statement s (Let at fixed each) = made_locals s fixed each >=> λ ds. pure (e.Let fixed ds)
    made_statement s (IfOnly at test a) =
        made_tree s None test >=> λ q. made_statement (in_block s) a >=> λ x. pure (e.IfOnly q x)
    made_statement s (IfElse at test a b) =
        made_tree s None test >=> λ q. made_statement (in_block s) a >=> λ x. made_statement (in_block s) b
        >=> λ y. pure (e.IfElse q x y)
    made_statement s (While at test a) =
        made_tree s None test >=> λ q. made_statement (in_block s) a >=> λ x. pure (e.While q x)
    made_statement s (DoWhile at a test) =
        made_statement (in_block s) a >=> λ x. made_tree s None test >=> λ q. pure (e.DoWhile x q)
    made_statement s (For at first test step a) = λ m n.
        let inside = first_site m (in_block s) first in
        let all = made_opening (in_block s) first >=> λ f. made_optional inside test >=> λ q. made_optional inside step
        >=> λ i. made_statement (in_block inside) a >=> λ x. pure (e.For f q i x) in
        all m n
    made_statement s (ForOf at fixed x list a) = λ m n.
        let u = value_type (kind_or_nothing (items_of (type_of tables k s.place Free list))) in
        let inside : Site = record {
          place = inner (looped tables k s.place fixed x list);
          spots = s.spots ++ Local m ∷ [];
        } in
        let all = made_tree s None list >=> λ l. a_local u (λ i. i) >=> λ i. a_local (t.ListOf u) (λ j. j)
        >=> λ j. a_local t.Number (λ j. j) >=> λ j.
        made_statement inside a >=> λ y. pure (e.ForOf fixed (Local i) l y) in
        all m n
    made_statement s (Return at value) = made_value s s.place.gives value >=> λ x. pure (e.Return x)
    made_statement s (Break at) = pure e.Break
    made_statement s (Continue at) = pure e.Continue
    made_statement s (Plain at a) = made_tree s None a >=> λ x. pure (e.Plain x)
    made_statement s (Empty at) = pure e.Empty

    pub made_opening : Site → OptionalStatement → Making OptionalTypedStatement
    made_opening s omitted = pure e.omitted
    made_opening s (written a) = made_statement s a >=> λ x. pure (e.written x)

    pub made_statements : Site → Statements → Making TypedStatements
    made_statements s done = pure e.done
    made_statements s (also a rest) = λ m n.
        let all = made_statement s a >=> λ x. made_statements (behind_statement m s a) rest
        >=> λ xs. pure (e.also x xs) in
        all m n

  -- a function's site: its parameters stand from the number i on
  abbrev pub site : Self → Option StaticType → Bool → ℕ → List Parameter → Site
  site self result library i params =
      record { place = within (parameter_locals names params) self result library; spots = parameter_spots i params }

  abbrev pub class_result : Option StaticType → ValueType
  class_result o = value_type (kind_or_nothing o)

  -- a function of the whole text, and the functions in it
  abbrev pub function_made : Bool → ℕ → Option StaticType → Routine → List TypedRoutine
  function_made library n result (Does at params gives all arrow) =
      let made = routine (value_types (parameter_kinds names params)) (class_result result)
      (made_statements (site this.Nowhere result library 0 params) all) n in
      made.it ∷ made.routines

  -- a method takes `this` first
  abbrev pub method_made : ℕ → ℕ → Option StaticType → Routine → List TypedRoutine
  method_made c n result (Does at params gives all arrow) =
      let made = routine (t.Object c ∷ value_types (parameter_kinds names params)) (class_result result)
      (made_statements (site (this.Object c) result false 1 params) all) n in
      made.it ∷ made.routines
