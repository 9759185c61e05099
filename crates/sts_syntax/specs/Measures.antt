-- How many words a program takes of the stack and of the arena.
use Rattle.std.specs.Prelude.{ℕ, suc, ◌+◌, ◌*◌, max, Option, Some, None, List, [], ◌∷◌, length}
use Rattle.sts_syntax.specs.declared.typed.Callee.{Callee}
use Rattle.sts_syntax.specs.declared.typed.Callee.TheVariants as c
use Rattle.sts_syntax.specs.TypedTrees.{TypedTree, Name, Unary, Binary, Both, Either, Choice, Set, Bump, Field, Length, Item, Call, SuperCall, Make, Items, TypedTrees, none, more, TypedDeclaration, TypedStatement, Block, Let, IfOnly, IfElse, While, DoWhile, For, ForOf, Return, Plain, TypedStatements, done, also, OptionalTypedStatement, omitted, written, TypedRoutine, ClassEntry}
use Rattle.sts_syntax.specs.BoardTable.{row_of, arranged}

-- Values of a list that are pending one above the other: each is held above those before it.
abbrev pub stacked : ℕ → List ℕ → ℕ
stacked below [] = 0
stacked below (h ∷ hs) = max (below + h) (stacked (suc below) hs)

abbrev pub greatest : List ℕ → ℕ
greatest [] = 0
greatest (n ∷ ns) = max n (greatest ns)

abbrev pub total : List ℕ → ℕ
total [] = 0
total (n ∷ ns) = n + total ns

-- the arguments of a call as it makes them: a service has numbers of its own between those that are written, each of which is so much
abbrev pub argument_sizes : ℕ → Callee → List ℕ → List ℕ
argument_sizes size (c.Board call) sizes = arranged (λ n. size) (row_of call).action sizes
argument_sizes size _ sizes = sizes

-- What an assignment holds, by its target: a name, a field of a, or the item i of a. `read` is 1 where the target is read first.
abbrev pub name_hold : ℕ → ℕ → ℕ
name_hold read r = read + r

abbrev pub field_hold : ℕ → ℕ → ℕ → ℕ
field_hold read a r = max a (1 + read + r)

abbrev pub item_hold : ℕ → ℕ → ℕ → ℕ → ℕ
item_hold read a i r = max a (max (1 + i) (2 + read + r))

abbrev pub reads_first : Option ℕ → ℕ
reads_first None = 0
reads_first (Some op) = 1

abbrev mutual
  -- the greatest number of values that are pending at once while an expression is evaluated, its own one included
  pub hold : TypedTree → ℕ
  hold (Unary t op a) = hold a
  hold (Binary t op a b) = max (hold a) (1 + hold b)
  hold (Both t a b) = max (hold a) (hold b)
  hold (Either t a b) = max (hold a) (hold b)
  hold (Choice t test a b) = max (hold test) (max (hold a) (hold b))
  hold (Set t op x r) = target_hold x (reads_first op) (hold r)
  hold (Bump t x by late) = target_hold x 1 0
  hold (Field t a f) = hold a
  hold (Length t a) = hold a
  hold (Item t a i) = max (hold a) (1 + hold i)
  hold (Call t f args) = max 1 (stacked 0 (argument_sizes 1 f (holds args)))
  hold (SuperCall t f args) = max 1 (stacked 1 (holds args))
  hold (Make t class args) = max (1 + length (holds args)) (stacked 0 (holds args))
  hold (Items t items) = 1 + greatest (holds items)
  hold _ = 1

  pub holds : TypedTrees → List ℕ
  holds none = []
  holds (more a rest) = hold a ∷ holds rest

  -- of an assignment to this target, of a value that holds so much; nothing else is a target
  pub target_hold : TypedTree → ℕ → ℕ → ℕ
  target_hold (Name t x) read r = name_hold read r
  target_hold (Field t a f) read r = field_hold read (hold a) r
  target_hold (Item t a i) read r = item_hold read (hold a) (hold i) r
  target_hold _ read r = 0

-- the arguments that a call leaves in the caller's frame: those of functions and methods, none of services
abbrev pub passed : Callee → ℕ → ℕ
passed (c.Function f) n = n
passed (c.Slot s) n = n
passed _ n = 0

abbrev pub how_many : TypedTrees → ℕ
how_many none = 0
how_many (more a rest) = suc (how_many rest)

abbrev mutual
  -- the greatest number of arguments that a call in an expression leaves, with `this`
  pub outgoing : TypedTree → ℕ
  outgoing (Unary t op a) = outgoing a
  outgoing (Binary t op a b) = max (outgoing a) (outgoing b)
  outgoing (Both t a b) = max (outgoing a) (outgoing b)
  outgoing (Either t a b) = max (outgoing a) (outgoing b)
  outgoing (Choice t test a b) = max (outgoing test) (max (outgoing a) (outgoing b))
  outgoing (Set t op x r) = max (outgoing x) (outgoing r)
  outgoing (Bump t x by late) = outgoing x
  outgoing (Field t a f) = outgoing a
  outgoing (Length t a) = outgoing a
  outgoing (Item t a i) = max (outgoing a) (outgoing i)
  outgoing (Call t f args) = max (passed f (how_many args)) (outgoing_all args)
  outgoing (SuperCall t f args) = max (1 + how_many args) (outgoing_all args)
  outgoing (Make t class args) = max (1 + how_many args) (outgoing_all args)
  outgoing (Items t items) = outgoing_all items
  outgoing _ = 0

  pub outgoing_all : TypedTrees → ℕ
  outgoing_all none = 0
  outgoing_all (more a rest) = max (outgoing a) (outgoing_all rest)

-- The greatest of a measure over the expressions of a function.
module _ (size : TypedTree → ℕ) where
  abbrev pub optional_size : Option TypedTree → ℕ
  optional_size None = 0
  optional_size (Some a) = size a

  abbrev pub greatest_first : List TypedDeclaration → ℕ
  greatest_first [] = 0
  greatest_first (d ∷ rest) = max (optional_size d.first) (greatest_first rest)

  abbrev mutual
    pub greatest_in : TypedStatement → ℕ
    greatest_in (Block all) = greatest_of all
    greatest_in (Let fixed each) = greatest_first each
    greatest_in (IfOnly test a) = max (size test) (greatest_in a)
    greatest_in (IfElse test a b) = max (size test) (max (greatest_in a) (greatest_in b))
    greatest_in (While test a) = max (size test) (greatest_in a)
    greatest_in (DoWhile a test) = max (greatest_in a) (size test)
    greatest_in (For first test step a) =
        max (greatest_optional first) (max (optional_size test) (max (optional_size step) (greatest_in a)))
    greatest_in (ForOf fixed name list a) = max (size list) (greatest_in a)
    greatest_in (Return value) = optional_size value
    greatest_in (Plain a) = size a
    greatest_in _ = 0

    pub greatest_optional : OptionalTypedStatement → ℕ
    greatest_optional omitted = 0
    greatest_optional (written a) = greatest_in a

    pub greatest_of : TypedStatements → ℕ
    greatest_of done = 0
    greatest_of (also a rest) = max (greatest_in a) (greatest_of rest)

-- the greatest number of values that are pending in a function, 1 where it has no expression
abbrev pub pending_words : TypedRoutine → ℕ
pending_words r = max 1 (greatest_of hold r.all)

abbrev pub outgoing_words : TypedRoutine → ℕ
outgoing_words r = greatest_of outgoing r.all

-- the words of a function's frame
abbrev pub frame_words : TypedRoutine → ℕ
frame_words r = 5 + length r.locals + pending_words r + outgoing_words r

-- the words of the frame of a function that `forever` starts
abbrev pub repeating_words : ℕ
repeating_words = 6

-- the words of an object, and of an array with room for so many items
abbrev pub object_words : ClassEntry → ℕ
object_words class = 1 + length class.fields

abbrev pub array_words : ℕ → ℕ
array_words room = 4 + room

-- the room to which a full array moves
abbrev pub wider_room : ℕ → ℕ
wider_room room = max 4 (2 * room)
