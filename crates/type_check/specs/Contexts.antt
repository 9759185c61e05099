-- The definitions of failures and types, over what the code knows.
use Rattle.std.specs.Prelude.{Bool, Option, Some, None, List, []}
use Rattle.sts_syntax.specs.BoardTable.{BoardParameter, row_of}
use Rattle.sts_syntax.specs.declared.board_calls.BoardCall.{BoardCall}
use Rattle.sts_syntax.specs.Annotations.{Annotation}
use Rattle.sts_syntax.specs.Trees.{Tree, Trees, OptionalTree, Statement, Statements, OptionalStatement, Declaration, Declarations, Routine}
use Rattle.sts_scope.specs.declared.kinds.StaticType.{StaticType}
use Rattle.sts_scope.specs.Failures.{Failure}
use Rattle.sts_scope.specs.Places.{NameScope}
use Rattle.type_derive.specs.declared.roles.Role.{Role}
use Rattle.type_derive.specs.Nodes as node
use Rattle.type_derive.specs.Returns as derive
use Rattle.type_derive.specs.declared.context.Context.{Context}
use Rattle.type_derive.specs.Scopes.{naming}
use Rattle.type_check.specs.declared.seen.Seen.{Seen}
use Rattle.type_check.specs.Seen.{seen, kinds_given}

abbrev pub failure : Context → NameScope → Role → Tree → Option Failure
failure c p r e = node.failure c.tables.now (naming c) c.known.now p r e

abbrev pub seen_of : Context → NameScope → Role → Tree → Seen
seen_of c p r e = seen c.tables.now c.known.now p r e

abbrev pub failures : Context → NameScope → List BoardParameter → Trees → Option Failure
failures c p takes args = node.failures c.tables.now (naming c) c.known.now p takes args

abbrev pub kinds_of : Context → NameScope → List BoardParameter → Trees → List (Option StaticType)
kinds_of c p takes args = kinds_given c.tables.now c.known.now p takes args

abbrev pub handler_failure : Context → NameScope → Routine → Option Failure
handler_failure c p r = node.handler_failure c.tables.now (naming c) c.known.now p r

abbrev pub optional_failure : Context → NameScope → OptionalTree → Option Failure
optional_failure c p e = node.optional_failure c.tables.now (naming c) c.known.now p e

abbrev pub initial_failure : Context → NameScope → Option Annotation → OptionalTree → Option Failure
initial_failure c p shape first = node.initial_failure c.tables.now (naming c) c.known.now p shape first

abbrev pub declaration_failure : Context → NameScope → Declaration → Option Failure
declaration_failure c p d = node.declaration_failure c.tables.now (naming c) c.known.now p d

abbrev pub declarations_failure : Context → NameScope → Bool → Declarations → Option Failure
declarations_failure c p fixed each = node.declarations_failure c.tables.now (naming c) c.known.now p fixed each

abbrev pub statement_failure : Context → NameScope → Statement → Option Failure
statement_failure c p s = node.statement_failure c.tables.now (naming c) c.known.now p s

abbrev pub statements_failure : Context → NameScope → Statements → Option Failure
statements_failure c p all = node.statements_failure c.tables.now (naming c) c.known.now p all

abbrev pub declared : Context → NameScope → Bool → Declaration → NameScope
declared c p fixed d = derive.declared c.tables.now (naming c) c.known.now p fixed d

abbrev pub all_declared : Context → NameScope → Bool → Declarations → NameScope
all_declared c p fixed each = derive.all_declared c.tables.now (naming c) c.known.now p fixed each

abbrev pub after : Context → NameScope → Statement → NameScope
after c p s = derive.after c.tables.now (naming c) c.known.now p s

abbrev pub first_failure : Context → NameScope → OptionalStatement → Option Failure
first_failure c p first = node.first_failure c.tables.now (naming c) c.known.now p first

abbrev pub after_first : Context → NameScope → OptionalStatement → NameScope
after_first c p first = derive.after_first c.tables.now (naming c) c.known.now p first

-- what a call takes that may be one of the board
abbrev pub taken : Option BoardCall → List BoardParameter
taken None = []
taken (Some call) = (row_of call).takes
