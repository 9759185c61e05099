-- The typed tree of a program, node by node: there where all is that is looked for, as at each node without a failure (`texts_without_a_failure_are_built` in crates/typed_laws).
use Rattle.std.specs.Prelude.{ℕ, pos, suc, ◌+◌, ◌*◌, Bool, Option, Some, None, List, [], ◌∷◌, ◌++◌, ◌==◌, slice_get, if◌then◌else◌}
use Rattle.std.specs.Option.{option_map}
use Rattle.sts_base.specs.declared.tables.Tables.{Tables}
use Rattle.sts_syntax.specs.Annotations.{Annotation}
use Rattle.sts_syntax.specs.declared.typed.Spot.{Spot}
use Rattle.sts_syntax.specs.declared.typed.Spot.TheVariants.{Local, Global}
use Rattle.sts_syntax.specs.declared.typed.Callee.{Callee as Target}
use Rattle.sts_syntax.specs.declared.typed.Callee.TheVariants as c
use Rattle.sts_syntax.specs.Types as t
use Rattle.sts_syntax.specs.Types.{ValueType}
use Rattle.sts_syntax.specs.TypedTrees as e
use Rattle.sts_syntax.specs.TypedTrees.{TypedTree, TypedTrees, TypedStatement, TypedStatements, OptionalTypedStatement, TypedDeclaration, TypedRoutine}
use Rattle.sts_syntax.specs.BoardTable as board
use Rattle.sts_syntax.specs.BoardTable.{BoardParameter, BoardAction, row_of}
use Rattle.sts_syntax.specs.declared.board_calls.BoardCall.{BoardCall}
use Rattle.sts_syntax.specs.Trees.{Parameter, Tree, Num, Text, Truth, Null, This, Name, Unary, Binary, Both, Either, Choice, Set, Bump, Member, Item, Call, SuperCall, Make, Items, Handler, Trees, none, more, OptionalTree, absent, present, Statement, Block, Let, IfOnly, IfElse, While, DoWhile, For, ForOf, Return, Break, Continue, Plain, Empty, Statements, done, also, OptionalStatement, omitted, written, Declaration, Declare, Declarations, ended, next, Routine, Does}
use Rattle.sts_scope.specs.declared.kinds.StaticType.{StaticType}
use Rattle.sts_scope.specs.declared.known.Known.{Known}
use Rattle.sts_scope.specs.declared.known.Found.{Found}
use Rattle.sts_scope.specs.declared.known.Found.TheVariants as found
use Rattle.sts_scope.specs.declared.known.Part.{Part}
use Rattle.sts_scope.specs.declared.known.Part.TheVariants as part
use Rattle.sts_scope.specs.Kinds.{class_of, value_type}
use Rattle.sts_scope.specs.Entries.{Naming, written_kind}
use Rattle.sts_scope.specs.Places.{NameScope, inner}
use Rattle.sts_scope.specs.Rules.{part_of, takes_at, maker_takes_of}
use Rattle.type_derive.specs.declared.roles.Role.TheVariants.{Free}
use Rattle.type_derive.specs.Typing.{◌>>=◌, finds, constant_of, board_callee, super_method, board_kind, type_of, drawn, draws, text_at}
use Rattle.type_derive.specs.Returns.{bound, after, looped, items_of}
use Rattle.type_derive.specs.Nodes.{kind_role, handler_place}
use Rattle.type_derive.specs.Making.{Making, nothing_made, pure, ◌>=>◌, looked, a_local}
use Rattle.sts_scope.specs.Numbers.{Numbering, global_number, field_names, slot_names, place_among, routine_number}

-- where something stands, and where the values of the function's locals in scope are
pub record Site : Type 0 where
  pub place : NameScope
  pub spots : List Spot

abbrev pub in_block : Site → Site
in_block s = record { place = inner s.place; spots = s.spots }

-- the frame that a text draws: light after light, row by row, from bit 0 on
abbrev pub frame_of : List ℕ → ℕ
frame_of [] = 0
frame_of (b ∷ bs) = (if b == 35 then 1 else 0) + 2 * frame_of bs

-- a row of the library is the call of its function
abbrev pub board_target : BoardCall → BoardAction → Target
board_target call (board.Library function) = c.Function function
board_target call _ = c.Board call

abbrev pub spots_from : ℕ → Declarations → List Spot
spots_from m ended = []
spots_from m (next a rest) = Local m ∷ spots_from (suc m) rest

abbrev pub new_spots : ℕ → Statement → List Spot
new_spots m (Let at fixed each) = spots_from m each
new_spots m _ = []

-- the function or the class that a name stands for
abbrev pub function_found : Found → Option ℕ
function_found (found.Function d) = Some d
function_found _ = None

abbrev pub class_found : Found → Option ℕ
class_found (found.Class class) = Some class
class_found _ = None

module _ (k : Known) where
  -- where the value of a name is
  abbrev pub spot_of : List Spot → Found → Option Spot
  spot_of spots (found.Local i) = slice_get spots i
  spot_of spots (found.Global d) = Some (Global (global_number k d))
  spot_of spots _ = None

  -- a member of a value of type t that is read
  abbrev pub member_read : ValueType → StaticType → ℕ → Part → TypedTree → Option TypedTree
  member_read u t m (part.Field d) a =
      option_map (λ class. e.Field u a (place_among (field_names k class) m)) (class_of t)
  member_read u t m part.Length a = Some (e.Length u a)
  member_read u t m _ a = None

  -- one that is called, and what it takes
  abbrev pub part_target : StaticType → ℕ → Part → Option Target
  part_target t m (part.Method d) = option_map (λ class. c.Slot (place_among (slot_names k class) m)) (class_of t)
  part_target t m (part.Push u) = Some c.Push
  part_target t m (part.Pop u) = Some c.Pop
  part_target t m _ = None

  abbrev pub part_takes : Part → List StaticType
  part_takes (part.Method d) = takes_at k.entries d
  part_takes (part.Push u) = u ∷ []
  part_takes _ = []

-- a function of these parameters and this result, whose own number is n, and behind it those that stand in it; its locals are those that its statements declare
abbrev pub routines_made : List ValueType → ValueType → Making TypedStatements → ℕ → Option (List TypedRoutine)
routines_made params gives all n =
    all 0 (suc n)
    >>= λ made. Some (record { params = params; locals = made.locals; gives = gives; all = made.it } ∷ made.routines)

abbrev pub handler_made : Making TypedStatements → Making TypedTree
handler_made all = λ m n.
    routines_made [] t.Nothing all n
    >>= λ routines. Some (record { it = e.Handler t.Nothing n; locals = []; routines = routines })

infixr 5 ◌followed_by◌
abbrev pub ◌followed_by◌ : Making TypedTree → Making TypedTrees → Making TypedTrees
a followed_by rest = a >=> λ x. rest >=> λ xs. pure (e.more x xs)

-- a text that draws a frame, as the frame's number
abbrev pub drawing : Tables → Tree → Making TypedTree
drawing tables (Text at n) =
    if draws (text_at tables n) then pure (e.Num t.Number (pos (frame_of (drawn (text_at tables n)))))
    else nothing_made
drawing tables _ = nothing_made

module _ (tables : Tables) (k : Known) where
  abbrev pub type_in : Site → Tree → Option StaticType
  type_in s a = type_of tables k s.place Free a

  -- the type that an expression is noted to have; `[]` has that of its place
  abbrev pub noted : Site → Option StaticType → Tree → Option ValueType
  noted s given (Items at none) = option_map value_type given
  noted s given a = option_map value_type (type_of tables k s.place (kind_role given) a)

  abbrev pub as_noted : Site → Option StaticType → Tree → (ValueType → TypedTree) → Making TypedTree
  as_noted s given a make = looked (noted s given a) (λ u. pure (make u))

module _ (tables : Tables) (names : Naming) (k : Known) where
  abbrev pub in_handler_site : Site → List Parameter → Option Annotation → Statements → Site
  in_handler_site s params gives all =
      record { place = handler_place tables names k s.place params gives all; spots = [] }

  abbrev pub behind_statement : ℕ → Site → Statement → Site
  behind_statement m s a = record { place = after tables names k s.place a; spots = s.spots ++ new_spots m a }

  abbrev pub first_site : ℕ → Site → OptionalStatement → Site
  first_site m s omitted = s
  first_site m s (written a) = behind_statement m s a

module _ (tables : Tables) (names : Naming) (k : Known) (numbers : Numbering) where
  abbrev mutual
    -- an expression, where its place gives it a type or none
    pub made_tree : Site → Option StaticType → Tree → Making TypedTree
    made_tree s g (Num at n) = pure (e.Num t.Number n)
    made_tree s g (Text at n) = pure (e.Text t.Text n)
    made_tree s g (Truth at b) = pure (e.Truth t.Boolean b)
    made_tree s g (Null at) = pure (e.Null t.NullType)
    made_tree s g (This at) = as_noted tables k s g (This at) e.This
    made_tree s g (Name at x) =
        looked (spot_of k s.spots (finds tables k s.place x))
        (λ spot. as_noted tables k s g (Name at x) (λ u. e.Name u spot))
    made_tree s g (Unary at op a) =
        made_tree s None a >=> λ x. as_noted tables k s g (Unary at op a) (λ u. e.Unary u op x)
    made_tree s g (Binary at op a b) =
        made_tree s None a >=> λ x. made_tree s None b
        >=> λ y. as_noted tables k s g (Binary at op a b) (λ u. e.Binary u op x y)
    made_tree s g (Both at a b) = made_tree s None a >=> λ x. made_tree s None b >=> λ y. pure (e.Both t.Boolean x y)
    made_tree s g (Either at a b) =
        made_tree s None a >=> λ x. made_tree s None b >=> λ y. pure (e.Either t.Boolean x y)
    made_tree s g (Choice at q a b) =
        made_tree s None q >=> λ z. made_tree s None a >=> λ x. made_tree s None b
        >=> λ y. as_noted tables k s g (Choice at q a b) (λ u. e.Choice u z x y)
    made_tree s g (Set at op x r) =
        looked (type_in tables k s x)
        (λ v. made_tree s None x >=> λ a. made_tree s (Some v) r
        >=> λ b. as_noted tables k s g (Set at op x r) (λ u. e.Set u op a b))
    made_tree s g (Bump at x by late) = made_tree s None x >=> λ a. pure (e.Bump t.Number a by late)
    made_tree s g (Member at a m) = elim (constant_of tables k s.place a m) [
      | Some z ↦ pure (e.Num t.Number z)
      | None ↦ looked (noted tables k s g (Member at a m)) (λ u. looked (type_in tables k s a) (λ v. made_tree s None a
          >=> λ x. looked (member_read k u v m (part_of tables.names k v m) x) pure))
    ]
    made_tree s g (Item at a i) =
        made_tree s None a >=> λ x. made_tree s None i >=> λ y. as_noted tables k s g (Item at a i) (λ u. e.Item u x y)
    made_tree s g (Items at none) = as_noted tables k s g (Items at none) (λ u. e.Items u e.none)
    made_tree s g (Items at (more a rest)) =
        looked (type_in tables k s a)
        (λ v. made_tree s None a >=> λ x. made_items s v rest
        >=> λ xs. as_noted tables k s g (Items at (more a rest)) (λ u. e.Items u (e.more x xs)))
    made_tree s g (Call at f args) = elim (board_callee tables k s.place f) [
      | Some call ↦ made_asked s (row_of call).takes args
          >=> λ xs. as_noted tables k s g (Call at f args) (λ u. e.Call u (board_target call (row_of call).action) xs)
      | None ↦ looked (noted tables k s g (Call at f args)) (λ u. made_call s u f (λ takes. made_given s takes args))
    ]
    made_tree s g (SuperCall at (Some m) args) =
        looked (super_method k s.place.this m)
        (λ d. made_given s (takes_at k.entries d) args
        >=> λ xs. as_noted tables k s g (SuperCall at (Some m) args) (λ u. e.SuperCall u (routine_number numbers d) xs))
    made_tree s g (Make at x args) =
        looked (class_found (finds tables k s.place x))
        (λ class. made_given s (maker_takes_of k.classes class) args
        >=> λ xs. pure (e.Make (t.Object class) class xs))
    made_tree s g _ = nothing_made

    -- a call of a function or a member, whose arguments are made so for what it takes
    pub made_call : Site → ValueType → Tree → (List StaticType → Making TypedTrees) → Making TypedTree
    made_call s u (Name at x) args =
        looked (function_found (finds tables k s.place x))
        (λ d. args (takes_at k.entries d) >=> λ xs. pure (e.Call u (c.Function (routine_number numbers d)) xs))
    made_call s u (Member at a m) args = looked (type_in tables k s a) (λ v.
        let called = part_of tables.names k v m in
        looked (part_target k v m called) (λ target. made_tree s None a
        >=> λ x. args (part_takes k called) >=> λ xs. pure (e.Call u target (e.more x xs))))
    made_call s u _ args = nothing_made

    -- arguments, as many as the types that are given to them
    pub made_given : Site → List StaticType → Trees → Making TypedTrees
    made_given s [] none = pure e.none
    made_given s (u ∷ us) (more a rest) = made_tree s (Some u) a followed_by made_given s us rest
    made_given s _ _ = nothing_made

    -- items to which the first one's type is given
    pub made_items : Site → StaticType → Trees → Making TypedTrees
    made_items s u none = pure e.none
    made_items s u (more a rest) = made_tree s (Some u) a followed_by made_items s u rest

    -- arguments of a call of the board
    pub made_asked : Site → List BoardParameter → Trees → Making TypedTrees
    made_asked s [] none = pure e.none
    made_asked s (board.Of u ∷ ps) (more a rest) = made_tree s (Some (board_kind u)) a followed_by made_asked s ps rest
    made_asked s (board.Drawing ∷ ps) (more a rest) = drawing tables a followed_by made_asked s ps rest
    made_asked s (board.Handler ∷ ps) (more a rest) = made_handler s a followed_by made_asked s ps rest
    made_asked s _ _ = nothing_made

    -- a function's name or a function expression, as a handler
    pub made_handler : Site → Tree → Making TypedTree
    made_handler s (Name at x) =
        looked (function_found (finds tables k s.place x)) (λ d. pure (e.Handler t.Nothing (routine_number numbers d)))
    made_handler s (Handler at body) = handler_made (made_body s body)
    made_handler s _ = nothing_made

    -- the statements of a handler
    pub made_body : Site → Routine → Making TypedStatements
    made_body s (Does at params gives all arrow) =
        made_statements (in_handler_site tables names k s params gives all) all

    -- a value to which a type is given or none, where there is one
    pub made_value : Site → Option StaticType → OptionalTree → Making (Option TypedTree)
    made_value s given absent = pure None
    made_value s given (present a) = made_tree s given a >=> λ x. pure (Some x)

    -- declared names of a block: each is a local, numbered behind those before it
    pub made_locals : Site → Bool → Declarations → Making (List TypedDeclaration)
    made_locals s fixed ended = pure []
    made_locals s fixed (next a rest) = λ m n.
        let behind = behind_statement tables names k m s (Let 0 fixed (next a ended)) in
        let all = made_local s a >=> λ d. made_locals behind fixed rest >=> λ ds. pure (d ∷ ds) in
        all m n

    pub made_local : Site → Declaration → Making TypedDeclaration
    made_local s (Declare at x shape first) =
        looked (bound tables names k s.place shape first)
        (λ u. made_value s (written_kind names shape) first >=> λ a. a_local (value_type u) (λ i. record { name = Local i; first = a }))

    pub made_statement : Site → Statement → Making TypedStatement
    made_statement s (Block at all) = made_statements (in_block s) all >=> λ xs. pure (e.Block xs)
    made_statement s (Let at fixed each) = made_locals s fixed each >=> λ ds. pure (e.Let fixed ds)
    made_statement s (IfOnly at test a) =
        made_tree s None test >=> λ q. made_statement (in_block s) a >=> λ x. pure (e.IfOnly q x)
    made_statement s (IfElse at test a b) =
        made_tree s None test >=> λ q. made_statement (in_block s) a >=> λ x. made_statement (in_block s) b
        >=> λ y. pure (e.IfElse q x y)
    made_statement s (While at test a) =
        made_tree s None test >=> λ q. made_statement (in_block s) a >=> λ x. pure (e.While q x)
    made_statement s (DoWhile at a test) =
        made_statement (in_block s) a >=> λ x. made_tree s None test >=> λ q. pure (e.DoWhile x q)
    made_statement s (For at first test step a) = λ m n.
        let inside = first_site tables names k m (in_block s) first in
        let all = made_opening (in_block s) first >=> λ f. made_value inside None test
        >=> λ q. made_value inside None step >=> λ i. made_statement (in_block inside) a >=> λ x. pure (e.For f q i x) in
        all m n
    made_statement s (ForOf at fixed x list a) = looked (items_of (type_in tables k s list)) (λ v m n.
        let u = value_type v in
        let inside : Site = record {
          place = inner (looped tables k s.place fixed x list);
          spots = s.spots ++ Local m ∷ [];
        } in
        let all = made_tree s None list >=> λ l. a_local u (λ i. i) >=> λ i. a_local (t.ListOf u) (λ j. j)
        >=> λ j. a_local t.Number (λ j. j) >=> λ j.
        made_statement inside a >=> λ y. pure (e.ForOf fixed (Local i) l y) in
        all m n)
    made_statement s (Return at value) = made_value s s.place.gives value >=> λ x. pure (e.Return x)
    made_statement s (Break at) = pure e.Break
    made_statement s (Continue at) = pure e.Continue
    made_statement s (Plain at a) = made_tree s None a >=> λ x. pure (e.Plain x)
    made_statement s (Empty at) = pure e.Empty

    pub made_opening : Site → OptionalStatement → Making OptionalTypedStatement
    made_opening s omitted = pure e.omitted
    made_opening s (written a) = made_statement s a >=> λ x. pure (e.written x)

    pub made_statements : Site → Statements → Making TypedStatements
    made_statements s done = pure e.done
    made_statements s (also a rest) = λ m n.
        let all = made_statement s a >=> λ x. made_statements (behind_statement tables names k m s a) rest
        >=> λ xs. pure (e.also x xs) in
        all m n
