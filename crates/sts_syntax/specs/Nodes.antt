-- All expressions of a typed program, and what is counted over a whole program.
use Rattle.std.specs.Prelude.{ℕ, ◌+◌, ◌*◌, Option, Some, None, List, [], ◌∷◌, ◌++◌, length, drop, suc, ◌<◌, ◌||◌, ◌==◌, Bool, false, if◌then◌else◌, All}
use Rattle.sts_syntax.specs.declared.typed.Callee.TheVariants as c
use Rattle.sts_syntax.specs.TypedTrees.{TypedTree, Num, Text, Truth, Null, This, Name, Unary, Binary, Both, Either, Choice, Set, Bump, Field, Length, Item, Call, SuperCall, Make, Items, Handler, TypedTrees, none, more, TypedDeclaration, TypedStatement, Block, Let, IfOnly, IfElse, While, DoWhile, For, ForOf, Return, Plain, TypedStatements, done, also, OptionalTypedStatement, omitted, written, TypedRoutine, TypedProgram}
use Rattle.sts_syntax.specs.BoardTable.{row_of, BoardAction, Service, Library, Repeats, library_size}
use Rattle.sts_syntax.specs.Weights.{routines_weight, repeating_weight}

abbrev mutual
  -- an expression, and then those in it, in text order
  pub nodes : TypedTree → List TypedTree
  nodes (Num t n) = Num t n ∷ []
  nodes (Text t n) = Text t n ∷ []
  nodes (Truth t b) = Truth t b ∷ []
  nodes (Null t) = Null t ∷ []
  nodes (This t) = This t ∷ []
  nodes (Name t x) = Name t x ∷ []
  nodes (Unary t op a) = Unary t op a ∷ nodes a
  nodes (Binary t op a b) = Binary t op a b ∷ nodes a ++ nodes b
  nodes (Both t a b) = Both t a b ∷ nodes a ++ nodes b
  nodes (Either t a b) = Either t a b ∷ nodes a ++ nodes b
  nodes (Choice t test a b) = Choice t test a b ∷ nodes test ++ nodes a ++ nodes b
  nodes (Set t op x r) = Set t op x r ∷ nodes x ++ nodes r
  nodes (Bump t x by late) = Bump t x by late ∷ nodes x
  nodes (Field t a f) = Field t a f ∷ nodes a
  nodes (Length t a) = Length t a ∷ nodes a
  nodes (Item t a i) = Item t a i ∷ nodes a ++ nodes i
  nodes (Call t f args) = Call t f args ∷ nodes_of args
  nodes (SuperCall t f args) = SuperCall t f args ∷ nodes_of args
  nodes (Make t class args) = Make t class args ∷ nodes_of args
  nodes (Items t items) = Items t items ∷ nodes_of items
  nodes (Handler t f) = Handler t f ∷ []

  pub nodes_of : TypedTrees → List TypedTree
  nodes_of none = []
  nodes_of (more a rest) = nodes a ++ nodes_of rest

abbrev pub optional_nodes : Option TypedTree → List TypedTree
optional_nodes None = []
optional_nodes (Some a) = nodes a

abbrev pub declared_nodes : List TypedDeclaration → List TypedTree
declared_nodes [] = []
declared_nodes (d ∷ rest) = optional_nodes d.first ++ declared_nodes rest

abbrev mutual
  -- all expressions of a statement
  pub expressions : TypedStatement → List TypedTree
  expressions (Block all) = expressions_of all
  expressions (Let fixed each) = declared_nodes each
  expressions (IfOnly test a) = nodes test ++ expressions a
  expressions (IfElse test a b) = nodes test ++ expressions a ++ expressions b
  expressions (While test a) = nodes test ++ expressions a
  expressions (DoWhile a test) = expressions a ++ nodes test
  expressions (For first test step a) =
      first_expressions first ++ optional_nodes test ++ optional_nodes step ++ expressions a
  expressions (ForOf fixed name list a) = nodes list ++ expressions a
  expressions (Return value) = optional_nodes value
  expressions (Plain a) = nodes a
  expressions _ = []

  pub first_expressions : OptionalTypedStatement → List TypedTree
  first_expressions omitted = []
  first_expressions (written a) = expressions a

  pub expressions_of : TypedStatements → List TypedTree
  expressions_of done = []
  expressions_of (also a rest) = expressions a ++ expressions_of rest

-- all expressions of some functions
abbrev pub all_expressions : List TypedRoutine → List TypedTree
all_expressions [] = []
all_expressions (r ∷ rest) = expressions_of r.all ++ all_expressions rest

-- the numbers of the texts among some expressions
abbrev pub texts_in : List TypedTree → List ℕ
texts_in [] = []
texts_in (Text t n ∷ rest) = n ∷ texts_in rest
texts_in (a ∷ rest) = texts_in rest

-- the numbers of the texts of a program
abbrev pub program_texts : TypedProgram → List ℕ
program_texts p = texts_in (all_expressions p.functions)

-- every text of a program is one of the first n
abbrev pub NamesTexts : ℕ → TypedProgram → Type 0
NamesTexts n p = All (λ text. text < n) (program_texts p)

abbrev pub is_among : List ℕ → ℕ → Bool
is_among [] n = false
is_among (m ∷ rest) n = m == n || is_among rest n

-- the bytes of those of these texts that are used, where the first has this number
abbrev pub used_bytes : ℕ → List (List ℕ) → List ℕ → ℕ
used_bytes from [] used = 0
used_bytes from (text ∷ rest) used = (if is_among used from then length text else 0) + used_bytes (suc from) rest used

-- the bytes of a program's distinct texts, which are among these
abbrev pub text_bytes : List (List ℕ) → TypedProgram → ℕ
text_bytes texts p = used_bytes 0 texts (program_texts p)

abbrev pub starts_repeating : BoardAction → ℕ
starts_repeating (Service number places) = 0
starts_repeating (Library function) = 0
starts_repeating Repeats = 1

-- how many of some expressions are calls of `forever`
abbrev pub repeats_in : List TypedTree → ℕ
repeats_in [] = 0
repeats_in (Call t (c.Board call) args ∷ rest) = starts_repeating (row_of call).action + repeats_in rest
repeats_in (a ∷ rest) = repeats_in rest

-- the weight of the text's own part of a program: its functions, those of `forever`, and its classes
abbrev pub text_weight : TypedProgram → ℕ
text_weight p =
    routines_weight (drop library_size p.functions) + repeating_weight * repeats_in (all_expressions p.functions)
    + 2 * length p.classes
