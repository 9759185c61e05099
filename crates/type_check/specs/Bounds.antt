-- What a declared name is given, by the type of its initialiser.
use Rattle.std.specs.Prelude.{ℕ, Bool, true, false, Option, Some, None}
use Rattle.std.specs.declared.alloc.Global.{Global}
use Rattle.std.specs.declared.boxed.Box.{Box}
use Rattle.sts_base.specs.declared.refused.Code.TheVariants.{Mismatch, NeedsType}
use Rattle.sts_syntax.specs.declared.trees.Stmt.{Stmt}
use Rattle.sts_syntax.specs.Annotations.{Annotation}
use Rattle.sts_syntax.specs.Trees.{OptionalStatement, omitted, written}
use Rattle.sts_syntax.specs.Views.{statement}
use Rattle.sts_scope.specs.declared.kinds.StaticType.{StaticType}
use Rattle.sts_scope.specs.declared.known.Known.{Known}
use Rattle.sts_scope.specs.Entries.{Naming, kind_of}
use Rattle.sts_scope.specs.Failures.{Failure, unless, own}
use Rattle.type_derive.specs.Typing.{fits}

-- the type that is written, else the initialiser's
abbrev pub bound_kind : Naming → Option Annotation → Option StaticType → Option StaticType
bound_kind names (Some a) first = kind_of names a
bound_kind names None first = first

-- an initialiser fits the type that is written; without one it has a type
abbrev pub bound_failure : Naming → Known → Option Annotation → Bool → Option StaticType → ℕ → Option Failure
bound_failure names k None there first at = own first NeedsType at
bound_failure names k (Some a) false first at = None
bound_failure names k (Some a) true first at = unless (fits k first (kind_of names a)) Mismatch at

-- a statement that may be left out
abbrev pub optional_boxed : Option (Box Stmt Global) → OptionalStatement
optional_boxed None = omitted
optional_boxed (Some a) = written (statement a.value)
