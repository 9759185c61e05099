-- What the public calls answer.
use Rattle.std.specs.Prelude.{◌≡◌, ℕ, ◌<◌, length}
use Rattle.sts_base.specs.declared.refused.Code.TheVariants as code
use Rattle.sts_base.specs.declared.refused.Refused.{Refused}
use Rattle.sts_base.specs.declared.refused.Refused.TheVariants as refused
use Rattle.sts_grammar.specs.Source.{Source, place}
use Rattle.parse_expr.specs.declared.reader.Unread.{Unread}
use Rattle.parse_expr.specs.declared.reader.Unread.TheVariants.{Syntax, NoMemory}

-- a refusal at the place of one of the tokens
abbrev pub IsSyntaxAt : Source → Refused → Type 0
IsSyntaxAt s why = (i : ℕ) × (i < length s.tokens) × (why ≡ refused.Program code.Syntax (place s i))

-- a refusal for a fact, at the place of one of the tokens; or memory ran out
abbrev pub RefusedFor : Source → (Fact : Type 0) → Refused → Type 0
RefusedFor s Fact refused.NoMemory = Unit {0}
RefusedFor s Fact why = Fact × IsSyntaxAt s why

-- the refusal for what wasn't read
abbrev pub IsRefusal : Source → Unread → Refused → Type 0
IsRefusal s (Syntax at) why = 0 < length s.tokens → IsSyntaxAt s why
IsRefusal s NoMemory why = why ≡ refused.NoMemory

-- nothing was read for a fact; or memory ran out
abbrev pub UnreadFor : (Fact : Type 0) → Unread → Type 0
UnreadFor Fact (Syntax at) = Fact
UnreadFor Fact NoMemory = Unit {0}
