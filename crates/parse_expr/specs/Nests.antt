-- The function values that read what a node holds: expressions and statements of at most a nesting.
use Rattle.std.specs.Prelude.{◌≡◌, ℕ, ◌<◌, ◌≤◌, ◌^◌, ◌-◌, Bool, Result, IfOk}
use Rattle.sts_syntax.specs.declared.trees.Expr.{Expr}
use Rattle.sts_syntax.specs.declared.trees.Stmt.{Stmt}
use Rattle.sts_syntax.specs.Nesting.{nesting, statement_nesting}
use Rattle.sts_syntax.specs.Views.{tree, statement}
use Rattle.sts_grammar.specs.Found.{Found}
use Rattle.sts_grammar.specs.Reading as reading
use Rattle.parse_expr.specs.declared.grammar.Grammar.{Grammar}
use Rattle.parse_expr.specs.declared.reader.Reader.{Reader}
use Rattle.parse_expr.specs.declared.reader.Read.{Read}
use Rattle.parse_expr.specs.declared.reader.Unread.{Unread}
use Rattle.parse_expr.specs.Gives.{source, Gives, read_of}

-- what is read, with its nesting, which is at most `room`
pub record Reads {X Y : Type 0} (view : X → Y) (weigh : Y → ℕ) (room : ℕ) (read : Found Y)
    (result : Result (Read X) Unread) : Type 0 where
  pub reads : Gives (read_of view) result read
  pub nesting : IfOk result (λ r. r.nesting ≡ weigh (view r.item))
  pub fits : IfOk result (λ r. r.nesting ≤ room)

pub record NestsIn (reader : Reader) (room : ℕ)
    (pre : Reader → ℕ → ℕ → ℕ → Type 0) (post : Reader → ℕ → ℕ → ℕ → Result (Read Expr) Unread → Type 0)
    (stmt_pre : Reader → ℕ → Bool → Bool → ℕ → Type 0)
    (stmt_post : Reader → ℕ → Bool → Bool → ℕ → Result (Read Stmt) Unread → Type 0) : Type 0 where
  pub small : room < 2 ^ 64 - 1
  pub expr_callable : (level at : ℕ) → pre reader room level at
  pub expr_reads : (level at : ℕ) (r : Result (Read Expr) Unread) → post reader room level at r →
      Reads tree nesting room (reading.expression (source reader) reader.upto room level at) r
  pub stmt_callable : (f l : Bool) (at : ℕ) → stmt_pre reader room f l at
  pub stmt_reads : (f l : Bool) (at : ℕ) (r : Result (Read Stmt) Unread) → stmt_post reader room f l at r →
      Reads statement statement_nesting room (reading.statement (source reader) room f l at) r

-- The readers of a grammar read what a node holds.
abbrev pub Nests : {E S : Type 0} → Grammar E S →
    (E → Reader → ℕ → ℕ → ℕ → Type 0) → (E → Reader → ℕ → ℕ → ℕ → Result (Read Expr) Unread → Type 0) →
    (S → Reader → ℕ → Bool → Bool → ℕ → Type 0)
    → (S → Reader → ℕ → Bool → Bool → ℕ → Result (Read Stmt) Unread → Type 0) → Type 0
Nests g pre post stmt_pre stmt_post =
    NestsIn g.reader g.room (pre g.expr) (post g.expr) (stmt_pre g.stmt) (stmt_post g.stmt)
