-- Nodes and statements in groups, each of which the code goes through in a function of its own.
use Rattle.std.specs.Prelude.{Bool, true, false}
use Rattle.sts_syntax.specs.Trees.{Tree, Unary, Binary, Both, Either, Choice, Set, Bump, Call, SuperCall, Make, Statement, While, DoWhile, For, ForOf}

-- an operator with its operands, or an assignment
abbrev pub is_operation : Tree → Bool
is_operation (Unary at op a) = true
is_operation (Binary at op a b) = true
is_operation (Both at a b) = true
is_operation (Either at a b) = true
is_operation (Choice at q a b) = true
is_operation (Set at op x a) = true
is_operation (Bump at x by late) = true
is_operation _ = false

-- a call, or `new`
abbrev pub is_call : Tree → Bool
is_call (Call at f args) = true
is_call (SuperCall at m args) = true
is_call (Make at x args) = true
is_call _ = false

-- a statement that does another one over and over
abbrev pub is_loop : Statement → Bool
is_loop (While at test a) = true
is_loop (DoWhile at a test) = true
is_loop (For at first test step a) = true
is_loop (ForOf at fixed x list a) = true
is_loop _ = false
