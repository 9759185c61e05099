-- Elaboration: of an expression its typed tree and its type, of a statement its typed one, else its first failure: its
-- parts in text order, then its own.
use Rattle.std.specs.Prelude.{ℕ, pos, Bool, true, false, not, ◌||◌, Option, Some, None, List, [], ◌∷◌, ◌++◌, is_some, unwrap_or, if◌then◌else◌}
use Rattle.std.specs.Option.{option_map}
use Rattle.sts_base.specs.declared.tables.Tables.{Tables}
use Rattle.sts_base.specs.declared.refused.Code.{Code}
use Rattle.sts_base.specs.declared.refused.Code.TheVariants.{BadHandler, Mismatch, NeedsType, UnknownName}
use Rattle.sts_syntax.specs.Annotations.{Annotation}
use Rattle.sts_syntax.specs.declared.typed.Spot.TheVariants.{Local}
use Rattle.sts_syntax.specs.declared.typed.Callee.TheVariants as c
use Rattle.sts_syntax.specs.Types as t
use Rattle.sts_syntax.specs.Types.{ValueType}
use Rattle.sts_syntax.specs.TypedTrees as e
use Rattle.sts_syntax.specs.TypedTrees.{TypedTree, TypedTrees, TypedStatement, TypedStatements, OptionalTypedStatement, TypedDeclaration}
use Rattle.sts_syntax.specs.BoardTable as board
use Rattle.sts_syntax.specs.BoardTable.{BoardParameter, row_of}
use Rattle.sts_syntax.specs.declared.board_calls.BoardCall.{BoardCall}
use Rattle.sts_syntax.specs.Trees.{Parameter, Tree, Num, Text, Truth, Null, This, Name, Unary, Binary, Both, Either, Choice, Set, Bump, Member, Item, Call, SuperCall, Make, Items, Handler, Trees, none, more, OptionalTree, absent, present, Statement, Block, Let, IfOnly, IfElse, While, DoWhile, For, ForOf, Return, Break, Continue, Plain, Empty, Statements, done, also, OptionalStatement, omitted, written, Declaration, Declare, Declarations, ended, next, Routine, Does}
use Rattle.sts_scope.specs.declared.kinds.StaticType.{StaticType}
use Rattle.sts_scope.specs.declared.known.Known.{Known}
use Rattle.sts_scope.specs.declared.known.Found.{Found}
use Rattle.sts_scope.specs.declared.known.Part.{Part}
use Rattle.sts_scope.specs.Kinds.{number, boolean, text, nothing, null, empty, object, item, is_array, value_type}
use Rattle.sts_scope.specs.Failures.{unless}
use Rattle.sts_scope.specs.Entries.{Naming, kind_of}
use Rattle.sts_scope.specs.Globals.{is_dollar}
use Rattle.sts_scope.specs.Headings.{written_failure}
use Rattle.sts_scope.specs.Numbers.{Numbering, routine_number}
use Rattle.sts_scope.specs.Places.{inner}
use Rattle.sts_scope.specs.Codes.{why_name, why_this, why_part, why_call, why_make, why_super}
use Rattle.sts_scope.specs.Rules.{this_kind, name_kind, operate, prefix, joined, choose, assign, counted, element, items_type, part_of, part_kind, takes_at, kind_at, maker_takes_of, is_nothing, is_boolean, call_kind, goes, serves}
use Rattle.type_derive.specs.declared.roles.Role.TheVariants.{Served}
use Rattle.type_derive.specs.Typing.{board_kind, fits, finds, constant_of, board_callee, part_callee, super_method, settable, draws, drawn, text_at}
use Rattle.type_derive.specs.Returns.{looped}
use Rattle.type_derive.specs.Nodes.{why_named, own_local, parameter_types_failure, waives, serves_itself, handler_place}
use Rattle.type_derive.specs.Built.{Site, in_block, board_target, frame_of, spot_of, function_found, class_found, member_read, part_target, behind_statement, first_site}
use Rattle.type_derive.specs.Functions.{parameter_spots}
use Rattle.elaborated.specs.Elaborating.{Elab, yields, fails, ◌>->◌, need, check, new_local, handled}

-- what is known of the whole text
pub record Whole : Type 0 where
  pub tables : Tables
  pub names : Naming
  pub known : Known
  pub numbers : Numbering

-- an expression that was gone through
pub record Seen : Type 0 where
  pub tree : TypedTree
  pub kind : StaticType

pub record SeenAll : Type 0 where
  pub trees : TypedTrees
  pub kinds : List StaticType

abbrev pub gives_seen : TypedTree → StaticType → Elab Seen
gives_seen tree kind = yields (record { tree = tree; kind = kind })

-- of this type, which is noted at the node
abbrev pub of_kind : StaticType → (ValueType → TypedTree) → Elab Seen
of_kind kind make = gives_seen (make (value_type kind)) kind

abbrev pub none_seen : SeenAll
none_seen = record { trees = e.none; kinds = [] }

abbrev pub with_one_more : Seen → SeenAll → SeenAll
with_one_more x xs = record { trees = e.more x.tree xs.trees; kinds = x.kind ∷ xs.kinds }

-- What the place of an expression does with it: it reads it, or gives it a type, which isn't known where there are more
-- arguments than places.
pub data Place : Type 0 where
  Free : Place
  Given : (kind : Option StaticType) → Place

-- where a type is given if one is known
abbrev pub given_some : Option StaticType → Place
given_some None = Free
given_some (Some kind) = Given (Some kind)

-- an initialiser's: the written type is given to it
abbrev pub given_written : Naming → Option Annotation → Place
given_written names None = Free
given_written names (Some a) = Given (kind_of names a)

-- that of the next argument, and those of the others
abbrev pub given_first : List StaticType → Place
given_first [] = Given None
given_first (u ∷ us) = Given (Some u)

abbrev pub given_later : List StaticType → List StaticType
given_later [] = []
given_later (u ∷ us) = us

-- `[]` has the type of its place
abbrev pub elab_empty : Place → ℕ → Elab Seen
elab_empty Free at = fails Mismatch at
elab_empty (Given kind) at =
    yields (record { tree = e.Items (value_type (unwrap_or kind nothing)) e.none; kind = empty })

-- What is called, but for calls of the board: what it takes and gives, and the node of its call.
pub record Callable : Type 0 where
  pub takes : List StaticType
  pub gives : Option StaticType
  pub node : ValueType → TypedTrees → TypedTree

-- The arguments of a call of the board: their trees, where they are as many as it takes and each fits; and whether
-- something other than a function is where a handler is wanted.
pub record BoardArguments : Type 0 where
  pub trees : Option TypedTrees
  pub lacks_handler : Bool

abbrev pub one_asked : Option TypedTree → Bool → BoardArguments → BoardArguments
one_asked (Some tree) lacks all =
    record { trees = option_map (e.more tree) all.trees; lacks_handler = lacks || all.lacks_handler }
one_asked None lacks all = record { trees = None; lacks_handler = lacks || all.lacks_handler }

-- a text that draws a frame, as the frame's number
abbrev pub drawing_tree : Tables → Tree → Option TypedTree
drawing_tree tables (Text at n) =
    if draws (text_at tables n) then Some (e.Num t.Number (pos (frame_of (drawn (text_at tables n))))) else None
drawing_tree tables _ = None

-- what is known of a declared name's type: the written one, to which an initialiser goes, or the initialiser's
abbrev pub kind_declared : Known → Naming → Option Annotation → Option Seen → Option StaticType
kind_declared k names None None = None
kind_declared k names None (Some x) = Some x.kind
kind_declared k names (Some a) None = kind_of names a
kind_declared k names (Some a) (Some x) = if fits k (Some x.kind) (kind_of names a) then kind_of names a else None

abbrev pub why_declared : Option Annotation → Code
why_declared None = NeedsType
why_declared (Some a) = Mismatch

abbrev pub tree_of : Option Seen → Option TypedTree
tree_of x = option_map (λ (y : Seen). y.tree) x

-- a test, if there is one, is boolean
abbrev pub is_boolean_test : Option Seen → Bool
is_boolean_test None = true
is_boolean_test (Some x) = is_boolean (Some x.kind)

-- what a function returns is what it gives
abbrev pub may_return : Known → Option StaticType → Option Seen → Bool
may_return k result None = is_nothing result
may_return k result (Some x) = fits k (Some x.kind) result

module _ (w : Whole) where
  abbrev pub function_site : Site → List Parameter → Option Annotation → Statements → Site
  function_site s params result all =
      record {
        place = handler_place w.tables w.names w.known s.place params result all;
        spots = parameter_spots 0 params;
      }

  abbrev pub called_part : Seen → ℕ → Part → ℕ → (Option Callable → Elab Seen) → Elab Seen
  called_part x m part at rest = elim (part_callee w.known part) [
    | Some d ↦ need (part_target w.known x.kind m part) Mismatch at (λ target. rest (Some (record {
      takes = d.takes;
      gives = d.gives;
      node = λ u xs. e.Call u target (e.more x.tree xs);
    })))
    | None ↦ need (part_kind w.known part) (why_part part) at (λ kind. rest None)
  ]

  abbrev pub called_name : Site → Found → ℕ → (Option Callable → Elab Seen) → Elab Seen
  called_name s found at rest = elim (function_found found) [
    | Some d ↦ rest (Some (record {
      takes = takes_at w.known.entries d;
      gives = kind_at w.known d;
      node = λ u xs. e.Call u (c.Function (routine_number w.numbers d)) xs;
    }))
    | None ↦ need (name_kind w.known s.place found) (why_name found) at (λ kind. rest None)
  ]

  -- the name of a function, as a handler; none, where it is no function's
  abbrev pub served_name : Site → Found → ℕ → Elab (Option TypedTree)
  served_name s found at = elim (serves w.known found) [
    | true ↦ yields (option_map (λ d. e.Handler t.Nothing (routine_number w.numbers d)) (function_found found))
    | false ↦ need (name_kind w.known s.place found) (why_named w.known Served found) at (λ kind. yields None)
  ]

  -- a call of a function, a method or a constructor: what it takes and gives, and why it fails
  abbrev pub called_with : List StaticType → Option StaticType → Code → ℕ → (ValueType → TypedTree) → SeenAll
      → Elab Seen
  called_with takes gives why at node xs =
      need (call_kind w.known.classes takes gives xs.kinds) why at (λ kind. of_kind kind node)

  abbrev pub asked_of : BoardCall → ℕ → BoardArguments → Elab Seen
  asked_of call at all =
      need all.trees (if all.lacks_handler then BadHandler else Mismatch) at
      (λ xs. of_kind (board_kind (row_of call).gives) (λ u. e.Call u (board_target call (row_of call).action) xs))

  abbrev mutual
    pub elab : Site → Place → Tree → Elab Seen
    elab s r (Num at n) = of_kind number (λ u. e.Num u n)
    elab s r (Text at n) = of_kind text (λ u. e.Text u n)
    elab s r (Truth at b) = of_kind boolean (λ u. e.Truth u b)
    elab s r (Null at) = of_kind null e.Null
    elab s r (This at) = need (this_kind s.place.this) (why_this s.place.this) at (λ kind. of_kind kind e.This)
    elab s r (Name at x) =
        let found = finds w.tables w.known s.place x in
        need (name_kind w.known s.place found) (why_name found) at
        (λ kind. need (spot_of w.known s.spots found) (why_name found) at (λ spot. of_kind kind (λ u. e.Name u spot)))
    elab s r (Unary at op a) =
        elab s Free a >-> λ x. need (prefix op x.kind) Mismatch at (λ kind. of_kind kind (λ u. e.Unary u op x.tree))
    elab s r (Binary at op a b) =
        elab s Free a >-> λ x. elab s Free b
        >-> λ y. need (operate w.known.classes op x.kind y.kind) Mismatch at
        (λ kind. of_kind kind (λ u. e.Binary u op x.tree y.tree))
    elab s r (Both at a b) =
        elab s Free a >-> λ x. elab s Free b
        >-> λ y. need (joined x.kind y.kind) Mismatch at (λ kind. of_kind kind (λ u. e.Both t.Boolean x.tree y.tree))
    elab s r (Either at a b) =
        elab s Free a >-> λ x. elab s Free b
        >-> λ y. need (joined x.kind y.kind) Mismatch at (λ kind. of_kind kind (λ u. e.Either t.Boolean x.tree y.tree))
    elab s r (Choice at q a b) =
        elab s Free q >-> λ z. elab s Free a >-> λ x. elab s Free b
        >-> λ y. need (choose w.known.classes z.kind x.kind y.kind) Mismatch at
        (λ kind. of_kind kind (λ u. e.Choice u z.tree x.tree y.tree))
    elab s r (Set at op x a) =
        elab s Free x >-> λ y. elab s (Given (Some y.kind)) a
        >-> λ z. need
        (if settable w.tables w.known s.place x then assign w.known.classes op y.kind z.kind else None) Mismatch at
        (λ kind. of_kind kind (λ u. e.Set u op y.tree z.tree))
    elab s r (Bump at x by late) =
        elab s Free x
        >-> λ y. need (if settable w.tables w.known s.place x then counted y.kind else None) Mismatch at
        (λ kind. of_kind kind (λ u. e.Bump t.Number y.tree by late))
    elab s r (Member at a m) = elim (constant_of w.tables w.known s.place a m) [
      | Some z ↦ of_kind number (λ u. e.Num u z)
      | None ↦ elim (board_callee w.tables w.known s.place (Member at a m)) [
        | Some call ↦ fails BadHandler at
        | None ↦ elab s Free a >-> λ x.
            let part = part_of w.tables.names w.known x.kind m in
            need (part_kind w.known part) (why_part part) at (λ kind.
            need (member_read w.known (value_type kind) x.kind m part x.tree) (why_part part) at
            (λ tree. gives_seen tree kind))
      ]
    ]
    elab s r (Item at a i) =
        elab s Free a >-> λ x. elab s Free i
        >-> λ y. need (element x.kind y.kind) Mismatch at (λ kind. of_kind kind (λ u. e.Item u x.tree y.tree))
    elab s r (Items at none) = elab_empty r at
    elab s r (Items at (more a rest)) =
        elab s Free a >-> λ x. elab_items s x.kind rest
        >-> λ xs. need (items_type w.known.classes x.kind xs.kinds) Mismatch at
        (λ kind. of_kind kind (λ u. e.Items u (e.more x.tree xs.trees)))
    elab s r (Call at f args) = elim (board_callee w.tables w.known s.place f) [
      | Some call ↦ elab_asked s (row_of call).takes args >-> asked_of call at
      | None ↦ elab_callee s f (elab s Free f) (λ (target : Option Callable). elim target [
        | None ↦ elab_given s [] args >-> λ xs. fails Mismatch at
        | Some d ↦ elab_given s d.takes args
            >-> λ xs. called_with d.takes d.gives (why_call d.gives) at (λ u. d.node u xs.trees) xs
      ])
    ]
    elab s r (SuperCall at None args) = elab_given s [] args >-> λ xs. fails Mismatch at
    elab s r (SuperCall at (Some m) args) = elim (super_method w.known s.place.this m) [
      | None ↦ elab_given s [] args >-> λ xs. fails (why_super w.known s.place.this m) at
      | Some d ↦ elab_given s (takes_at w.known.entries d) args
          >-> λ xs. called_with (takes_at w.known.entries d) (kind_at w.known d) (why_call (kind_at w.known d)) at
          (λ u. e.SuperCall u (routine_number w.numbers d) xs.trees) xs
    ]
    elab s r (Make at x args) =
        let found = finds w.tables w.known s.place x in
        elim (class_found found) [
          | None ↦ elab_given s [] args >-> λ xs. fails (why_make found) at
          | Some class ↦ elab_given s (maker_takes_of w.known.classes class) args
              >-> λ xs. called_with (maker_takes_of w.known.classes class) (Some (object class)) (why_make found) at
              (λ u. e.Make (t.Object class) class xs.trees) xs
        ]
    elab s r (Handler at body) =
        handled false at (λ tree. record { tree = tree; kind = nothing }) (elab_routine s body)

    -- What is called, but for calls of the board, and then its call; none, where something is there that isn't called,
    -- but read.
    pub elab_callee : Site → Tree → (read : Elab Seen) → (Option Callable → Elab Seen) → Elab Seen
    elab_callee s (Name at x) read rest = called_name s (finds w.tables w.known s.place x) at rest
    elab_callee s (Member at a m) read rest = elim (constant_of w.tables w.known s.place a m) [
      | Some z ↦ rest None
      | None ↦ elab s Free a >-> λ x. called_part x m (part_of w.tables.names w.known x.kind m) at rest
    ]
    elab_callee s f read rest = read >-> λ x. rest None

    -- arguments, to which these types are given
    pub elab_given : Site → List StaticType → Trees → Elab SeenAll
    elab_given s takes none = yields none_seen
    elab_given s takes (more a rest) =
        elab s (given_first takes) a >-> λ x. elab_given s (given_later takes) rest
        >-> λ xs. yields (with_one_more x xs)

    -- items, to which the first one's type is given
    pub elab_items : Site → StaticType → Trees → Elab SeenAll
    elab_items s u none = yields none_seen
    elab_items s u (more a rest) =
        elab s (Given (Some u)) a >-> λ x. elab_items s u rest >-> λ xs. yields (with_one_more x xs)

    -- arguments of a call of the board
    pub elab_asked : Site → List BoardParameter → Trees → Elab BoardArguments
    elab_asked s [] none = yields (record { trees = Some e.none; lacks_handler = false })
    elab_asked s (p ∷ ps) none = yields (record { trees = None; lacks_handler = false })
    elab_asked s [] (more a rest) =
        elab s (Given None) a >-> λ x. elab_asked s [] rest >-> λ xs. yields (one_asked None false xs)
    elab_asked s (board.Of u ∷ ps) (more a rest) =
        elab s (Given (Some (board_kind u))) a >-> λ x. elab_asked s ps rest
        >-> λ xs. yields
        (one_asked (if goes w.known.classes x.kind (board_kind u) then Some x.tree else None) false xs)
    elab_asked s (board.Drawing ∷ ps) (more a rest) =
        elab s (Given (Some text)) a >-> λ x. elab_asked s ps rest
        >-> λ xs. yields (one_asked (drawing_tree w.tables a) false xs)
    elab_asked s (board.Handler ∷ ps) (more a rest) =
        elab_handler s a (elab s Free a) >-> λ x. elab_asked s ps rest
        >-> λ xs. yields (one_asked x (not (is_some x)) xs)

    -- a function's name or a function expression, as a handler; none, where something else is there, which is read
    pub elab_handler : Site → Tree → (read : Elab Seen) → Elab (Option TypedTree)
    elab_handler s (Name at x) read = served_name s (finds w.tables w.known s.place x) at
    elab_handler s (Handler at body) read =
        handled (serves_itself w.tables w.names w.known s.place body) at Some (elab_routine s body)
    elab_handler s a read = read >-> λ x. yields None

    -- the statements of a function expression
    pub elab_routine : Site → Routine → Elab TypedStatements
    elab_routine s (Does at params result all arrow) =
        check (parameter_types_failure w.names params)
        (check (written_failure w.names at result) (elab_statements (function_site s params result all) all))

    -- a value, where there is one
    pub elab_value : Site → Place → OptionalTree → Elab (Option Seen)
    elab_value s r absent = yields None
    elab_value s r (present a) = elab s r a >-> λ x. yields (Some x)

    -- an initialiser; `null` or `[]` alone fails where it is declared
    pub elab_initial : Site → Option Annotation → OptionalTree → Elab (Option Seen)
    elab_initial s shape absent = yields None
    elab_initial s shape (present a) = elim (waives shape a) [
      | true ↦ yields None
      | false ↦ elab s (given_written w.names shape) a >-> λ x. yields (Some x)
    ]

    -- declared names of a block: each is a local, numbered after those before it
    pub elab_local : Site → Declaration → Elab TypedDeclaration
    elab_local s (Declare at x shape first) =
        check (written_failure w.names at shape) (elab_initial s shape first
        >-> λ a. check (own_local w.tables s.place x at)
        (need (kind_declared w.known w.names shape a) (why_declared shape) at
        (λ u. new_local (value_type u) (λ i. record { name = Local i; first = tree_of a }))))

    pub elab_locals : Site → Bool → Declarations → Elab (List TypedDeclaration)
    elab_locals s fixed ended = yields []
    elab_locals s fixed (next a rest) = λ m n.
        let later = behind_statement w.tables w.names w.known m s (Let 0 fixed (next a ended)) in
        let all = elab_local s a >-> λ d. elab_locals later fixed rest >-> λ ds. yields (d ∷ ds) in
        all m n

    -- a statement; a test that isn't boolean fails after its parts
    pub elab_statement : Site → Statement → Elab TypedStatement
    elab_statement s (Block at all) = elab_statements (in_block s) all >-> λ xs. yields (e.Block xs)
    elab_statement s (Let at fixed each) = elab_locals s fixed each >-> λ ds. yields (e.Let fixed ds)
    elab_statement s (IfOnly at test a) =
        elab s Free test >-> λ q. elab_statement (in_block s) a
        >-> λ x. check (unless (is_boolean (Some q.kind)) Mismatch at) (yields (e.IfOnly q.tree x))
    elab_statement s (IfElse at test a b) =
        elab s Free test >-> λ q. elab_statement (in_block s) a >-> λ x. elab_statement (in_block s) b
        >-> λ y. check (unless (is_boolean (Some q.kind)) Mismatch at) (yields (e.IfElse q.tree x y))
    elab_statement s (While at test a) =
        elab s Free test >-> λ q. elab_statement (in_block s) a
        >-> λ x. check (unless (is_boolean (Some q.kind)) Mismatch at) (yields (e.While q.tree x))
    elab_statement s (DoWhile at a test) =
        elab_statement (in_block s) a >-> λ x. elab s Free test
        >-> λ q. check (unless (is_boolean (Some q.kind)) Mismatch at) (yields (e.DoWhile x q.tree))
    elab_statement s (For at first test step a) = λ m n.
        let inside = first_site w.tables w.names w.known m (in_block s) first in
        let all = elab_opening (in_block s) first >-> λ f. elab_value inside Free test
        >-> λ q. elab_value inside Free step >-> λ i. elab_statement (in_block inside) a
        >-> λ x. check (unless (is_boolean_test q) Mismatch at) (yields (e.For f (tree_of q) (tree_of i) x)) in
        all m n
    elab_statement s (ForOf at fixed x list a) = λ m n.
        let inside : Site = record {
          place = inner (looped w.tables w.known s.place fixed x list);
          spots = s.spots ++ Local m ∷ [];
        } in
        let all = elab s Free list
        >-> λ l. new_local (value_type (item l.kind)) (λ i. i)
        >-> λ i. new_local (t.ListOf (value_type (item l.kind))) (λ j. j)
        >-> λ j. new_local t.Number (λ j. j)
        >-> λ j. elab_statement inside a
        >-> λ y. check (unless (not (is_dollar w.tables.names x)) UnknownName at)
        (check (unless (is_array l.kind) Mismatch at) (yields (e.ForOf fixed (Local i) l.tree y))) in
        all m n
    elab_statement s (Return at value) =
        elab_value s (given_some s.place.gives) value
        >-> λ x. check (unless (may_return w.known s.place.gives x) Mismatch at) (yields (e.Return (tree_of x)))
    elab_statement s (Break at) = yields e.Break
    elab_statement s (Continue at) = yields e.Continue
    elab_statement s (Plain at a) = elab s Free a >-> λ x. yields (e.Plain x.tree)
    elab_statement s (Empty at) = yields e.Empty

    pub elab_opening : Site → OptionalStatement → Elab OptionalTypedStatement
    elab_opening s omitted = yields e.omitted
    elab_opening s (written a) = elab_statement s a >-> λ x. yields (e.written x)

    pub elab_statements : Site → Statements → Elab TypedStatements
    elab_statements s done = yields e.done
    elab_statements s (also a rest) = λ m n.
        let all = elab_statement s a
        >-> λ x. elab_statements (behind_statement w.tables w.names w.known m s a) rest
        >-> λ xs. yields (e.also x xs) in
        all m n
