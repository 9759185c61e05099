-- The law of elaboration: it fails exactly as the first failure says, and what it gives is what is made, of the type
-- that the rules give.
use Rattle.std.specs.Prelude.{◌≡◌, ◌↔◌, ℕ, Option, Some, None, length, Ok, Err}
use Rattle.sts_syntax.specs.TypedTrees.{TypedTree, TypedStatements}
use Rattle.sts_syntax.specs.Trees.{Tree, Statements}
use Rattle.sts_scope.specs.declared.kinds.StaticType.{StaticType}
use Rattle.sts_scope.specs.Failures.{Failure}
use Rattle.type_derive.specs.declared.roles.Role.{Role}
use Rattle.type_derive.specs.declared.roles.Role.TheVariants as role
use Rattle.type_derive.specs.Typing.{type_of}
use Rattle.type_derive.specs.Nodes.{failure, statements_failure}
use Rattle.type_derive.specs.Making.{Made}
use Rattle.type_derive.specs.Built.{Site, made_tree, made_statements}
use Rattle.elaborated.specs.Elaborated.{Whole, Seen, Place, Free, Given, elab, elab_statements}

-- each local in scope has its spot
abbrev pub HasItsSpots : Site → Type 0
HasItsSpots s = length s.spots ≡ length s.place.locals

abbrev pub role_at : Place → Role
role_at Free = role.Free
role_at (Given kind) = role.Given

abbrev pub given_by : Place → Option StaticType
given_by Free = None
given_by (Given kind) = kind

-- a place that is made so: not that of a surplus argument, of which no tree is made
abbrev pub IsMadeAt : Place → Type 0
IsMadeAt Free = Unit {0}
IsMadeAt (Given None) = ⊥
IsMadeAt (Given (Some kind)) = Unit {0}

-- the typed tree alone
abbrev pub tree_alone : Made Seen → Made TypedTree
tree_alone x = record { it = x.it.tree; locals = x.locals; routines = x.routines }

-- An expression: elaboration fails by the first failure, and gives what is made and its type where there is none.
pub record AgreesOnTrees (w : Whole) (s : Site) (r : Place) (a : Tree) (m n : ℕ) : Type 0 where
  pub fails : (f : Failure) → (elab w s r a m n ≡ Err f)
      ↔ (failure w.tables w.names w.known s.place (role_at r) a ≡ Some f)
  pub gives : IsMadeAt r → (x : Made Seen) → (elab w s r a m n ≡ Ok x)
      ↔ ((failure w.tables w.names w.known s.place (role_at r) a ≡ None)
      × (type_of w.tables w.known s.place (role_at r) a ≡ Some x.it.kind)
      × (made_tree w.tables w.names w.known w.numbers s (given_by r) a m n ≡ Some (tree_alone x)))

-- statements
pub record AgreesOnStatements (w : Whole) (s : Site) (all : Statements) (m n : ℕ) : Type 0 where
  pub fails : (f : Failure) → (elab_statements w s all m n ≡ Err f)
      ↔ (statements_failure w.tables w.names w.known s.place all ≡ Some f)
  pub gives : (x : Made TypedStatements) → (elab_statements w s all m n ≡ Ok x)
      ↔ ((statements_failure w.tables w.names w.known s.place all ≡ None)
      × (made_statements w.tables w.names w.known w.numbers s all m n ≡ Some x))
