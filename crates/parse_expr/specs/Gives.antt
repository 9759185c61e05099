-- What readers answer: what reading gives, unless memory runs out.
use Rattle.std.specs.Prelude.{◌≡◌, ℕ, Option, Some, None, Result, Ok, Err}
use Rattle.sts_grammar.specs.Source.{Source}
use Rattle.sts_grammar.specs.Texts as texts
use Rattle.sts_grammar.specs.ReadExpressions.{Readers}
use Rattle.sts_grammar.specs.Reading.{expression_readers}
use Rattle.parse_expr.specs.declared.reader.Reader.{Reader}
use Rattle.parse_expr.specs.declared.reader.Read.{Read}
use Rattle.parse_expr.specs.declared.reader.Unread.{Unread}
use Rattle.parse_expr.specs.declared.reader.Unread.TheVariants.{Syntax, NoMemory}

-- the tokens and names that are read
abbrev pub source : Reader → Source
source r = texts.source r.tokens.now r.tables.now

-- the readers of what a node holds, which may have this nesting
abbrev pub nested : Reader → (room : ℕ) → Readers
nested r room = expression_readers (source r) r.upto room

abbrev pub Fails : {Y : Type 0} → Unread → Option Y → Type 0
Fails (Syntax at) read = read ≡ None
Fails NoMemory read = Unit {0}

-- What a function answered, seen by a view, is what reading gives, unless memory ran out.
abbrev pub Gives : {X Y : Type 0} → (X → Y) → Result X Unread → Option Y → Type 0
Gives view (Ok x) read = read ≡ Some (view x)
Gives view (Err e) read = Fails e read

-- the same with the number of the token behind it
abbrev pub found : {X Y : Type 0} → (X → Y) → X × ℕ → Y × ℕ
found view r = (view r.0, r.1)

abbrev pub read_of : {X Y : Type 0} → (X → Y) → Read X → Y × ℕ
read_of view r = (view r.item, r.end)
