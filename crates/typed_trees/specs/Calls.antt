-- Nodes that hold a list of expressions: what they are is settled by their parts' names and types, and so is what is given to each place of the list.
use Rattle.std.specs.Prelude.{ℕ, zero, suc, Bool, true, false, Option, Some, None, List, slice_get, unwrap_or, map}
use Rattle.sts_syntax.specs.BoardTable as board
use Rattle.sts_syntax.specs.BoardTable.{BoardParameter, row_of}
use Rattle.sts_syntax.specs.BoardViews.{board_parameter}
use Rattle.sts_syntax.specs.Trees.{Tree, Member, Name, Call, SuperCall, Make, Items, Handler, Trees}
use Rattle.sts_syntax.specs.Trees as t
use Rattle.sts_syntax.specs.Types as value
use Rattle.sts_syntax.specs.Types.{ValueType}
use Rattle.sts_syntax.specs.declared.typed.Callee.{Callee}
use Rattle.sts_syntax.specs.declared.typed.Callee.TheVariants as c
use Rattle.sts_syntax.specs.TypedTrees as e
use Rattle.sts_syntax.specs.TypedTrees.{none, more, TypedTree, TypedTrees}
use Rattle.sts_syntax.specs.TypedViews.{typed_tree}
use Rattle.sts_scope.specs.declared.kinds.StaticType.{StaticType}
use Rattle.sts_scope.specs.declared.known.Found.{Found}
use Rattle.sts_scope.specs.declared.known.Part.{Part}
use Rattle.sts_scope.specs.Kinds.{nothing}
use Rattle.sts_scope.specs.Rules.{takes_at, maker_takes_of}
use Rattle.type_derive.specs.inner.Filled as b
use Rattle.type_derive.specs.inner.Filling.{Making, pure, ◌>=>◌}
use Rattle.sts_scope.specs.Numbers.{routine_number}
use Rattle.type_derive.specs.Typing as typing
use Rattle.typed_numbers.specs.Building.{numbering_of}
use Rattle.typed_trees.specs.Sites as s
use Rattle.typed_trees.specs.Sites.{naming, tree_made, tree_kind, joined}
use Rattle.typed_trees.specs.declared.build_places.Plan.{Plan}
use Rattle.typed_trees.specs.declared.build_heads.Head.{Head}
use Rattle.typed_trees.specs.declared.build_heads.Head.TheVariants as head
use Rattle.typed_trees.specs.declared.build_arguments.Takes.{Takes}
use Rattle.typed_trees.specs.declared.build_arguments.Takes.TheVariants as takes
use Rattle.typed_trees.specs.declared.build_arguments.Planned.{Planned}
use Rattle.typed_trees.specs.declared.build_arguments.Planned.TheVariants as planned

-- What is given to the places of a list: each its type, all behind the first that one's type, or what a call of the board asks for.
pub data Places : Type 0 where
  Kinds : List StaticType → Places
  Alike : StaticType → Places
  Asks : List BoardParameter → Places

abbrev pub places : Takes → Places
places (takes.Given us) = Kinds us.now
places (takes.Alike u) = Alike u
places (takes.Asked ps) = Asks (map board_parameter ps.now)

-- a function's name in a handler's place, and a drawing
abbrev pub plain_handler : Plan → b.Site → Tree → TypedTree
plain_handler p = b.plain_handler p.tables.now (naming p) p.known.now (numbering_of p.numbers.now)

abbrev pub drawing : Plan → Tree → TypedTree
drawing p = b.drawing p.tables.now (naming p) p.known.now (numbering_of p.numbers.now)

abbrev pub served : Plan → b.Site → Tree → Making TypedTree
served p st (Handler at body) = tree_made p st None (Handler at body)
served p st a = pure (plain_handler p st a)

abbrev pub asked_one : Plan → b.Site → Option BoardParameter → Tree → Making TypedTree
asked_one p st None a = tree_made p st None a
asked_one p st (Some (board.Of u)) a = tree_made p st (Some (typing.board_kind u)) a
asked_one p st (Some board.Handler) a = served p st a
asked_one p st (Some board.Drawing) a = pure (drawing p a)

abbrev pub alike_given : ℕ → StaticType → Option StaticType
alike_given zero u = None
alike_given (suc i) u = Some u

-- the i-th of a list
abbrev pub argument_made : Plan → b.Site → Places → ℕ → Tree → Making TypedTree
argument_made p st (Kinds us) i a = tree_made p st (slice_get us i) a
argument_made p st (Alike u) i a = tree_made p st (alike_given i u) a
argument_made p st (Asks ps) i a = asked_one p st (slice_get ps i) a

-- the same, once it is known whether it is to be built
abbrev pub planned_made : Plan → b.Site → Planned → Tree → Making TypedTree
planned_made p st (planned.Built given) a = tree_made p st given a
planned_made p st (planned.There x) a = pure (typed_tree x)

-- a list, from the i-th place on
unfoldable pub arguments_made : Plan → b.Site → Places → ℕ → Trees → Making TypedTrees
arguments_made p st q i t.none = pure none
arguments_made p st q i (t.more a rest) =
    argument_made p st q i a >=> λ x. arguments_made p st q (suc i) rest >=> λ xs. pure (more x xs)

-- the type that is given to the items of an array behind the first
abbrev pub first_kind : Plan → b.Site → Trees → StaticType
first_kind p st t.none = nothing
first_kind p st (t.more a rest) = unwrap_or (tree_kind p st None a) nothing

-- what is called, where it is no call of the board
abbrev pub called_head : Plan → b.Site → Tree → Option Head
called_head p st (Name at x) = Some (head.Named (typing.finds p.tables.now p.known.now st.place x))
called_head p st (Member at a m) =
    Some (head.Behind (s.part_behind p (tree_kind p st None a) m) (s.class_behind (tree_kind p st None a)) m)
called_head p st a = None

-- whether a node has a list
abbrev pub has_list : Tree → Bool
has_list (Items at items) = true
has_list (Make at x args) = true
has_list (SuperCall at m args) = true
has_list (Call at f args) = true
has_list a = false

-- `super.m`; `super` alone stands for nothing where it is called
abbrev pub super_head : Plan → b.Site → Option ℕ → Option Head
super_head p st None = None
super_head p st (Some m) =
    elim (typing.super_method p.known.now st.place.this m) [ None ↦ None | Some d ↦ Some (head.Super d) ]

-- What a node with a list is. It is none where the tree has a failure, and then nothing is made of its parts.
unfoldable pub head_of : Plan → b.Site → Tree → Option Head
head_of p st (Items at items) = Some (head.Items (first_kind p st items))
head_of p st (Make at x args) = Some (head.Make (s.class_found p (typing.finds p.tables.now p.known.now st.place x)))
head_of p st (SuperCall at m args) = super_head p st m
head_of p st (Call at f args) = elim (typing.board_callee p.tables.now p.known.now st.place f) [
  | Some call ↦ Some (head.Board call)
  | None ↦ called_head p st f
]
head_of p st a = None

abbrev pub routine_takes : Plan → Found → List StaticType
routine_takes p = b.routine_takes p.tables.now (naming p) p.known.now (numbering_of p.numbers.now)

abbrev pub routine_of : Plan → Found → ℕ
routine_of p = b.routine_of p.tables.now (naming p) p.known.now (numbering_of p.numbers.now)

abbrev pub part_takes : Plan → Part → List StaticType
part_takes p = b.part_takes p.tables.now (naming p) p.known.now (numbering_of p.numbers.now)

abbrev pub part_target : Plan → Part → ℕ → ℕ → Callee
part_target p = b.part_target p.tables.now (naming p) p.known.now (numbering_of p.numbers.now)

abbrev pub head_places : Plan → Head → Places
head_places p (head.Items u) = Alike u
head_places p (head.Make class) = Kinds (maker_takes_of p.known.now.classes class)
head_places p (head.Super d) = Kinds (takes_at p.known.now.entries d)
head_places p (head.Board call) = Asks (row_of call).takes
head_places p (head.Named found) = Kinds (routine_takes p found)
head_places p (head.Behind part class m) = Kinds (part_takes p part)

-- an object stands before the arguments
abbrev pub has_object : Head → Bool
has_object (head.Behind part class m) = true
has_object _ = false

-- the node, of its type and its list
abbrev pub head_node : Plan → ValueType → Head → TypedTrees → TypedTree
head_node p u (head.Items kind) xs = e.Items u xs
head_node p u (head.Make class) xs = e.Make (value.Object class) class xs
head_node p u (head.Super d) xs = e.SuperCall u (routine_number (numbering_of p.numbers.now) d) xs
head_node p u (head.Board call) xs = e.Call u (b.board_target call (row_of call).action) xs
head_node p u (head.Named found) xs = e.Call u (c.Function (routine_of p found)) xs
head_node p u (head.Behind part class m) xs = e.Call u (part_target p part class m) xs

-- the type that such a node is noted to have, whose own type this is: `[]` has that of its place
abbrev pub type_noted : Option StaticType → Option StaticType → Tree → ValueType
type_noted given kind (Items at t.none) = s.noted given
type_noted given kind a = s.noted kind

-- the object before the arguments
unfoldable pub object_made : Plan → b.Site → Bool → Tree → Making TypedTrees
object_made p st false f = pure none
object_made p st true (Member at a m) = tree_made p st None a >=> λ x. pure (more x none)
object_made p st true f = pure none

-- a list behind others that are made
unfoldable pub behind_made : Plan → b.Site → Places → TypedTrees → Trees → Making TypedTrees
behind_made p st q ys args = arguments_made p st q 0 args >=> λ xs. pure (joined ys xs)

-- what stands in the list
unfoldable pub passed_made : Plan → b.Site → Head → Tree → Making TypedTrees
passed_made p st h (Items at args) = behind_made p st (head_places p h) none args
passed_made p st h (Make at x args) = behind_made p st (head_places p h) none args
passed_made p st h (SuperCall at m args) = behind_made p st (head_places p h) none args
passed_made p st h (Call at f args) =
    object_made p st (has_object h) f >=> λ ys. behind_made p st (head_places p h) ys args
passed_made p st h x = pure none
