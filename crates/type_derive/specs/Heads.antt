-- How constructors begin, and what statements declare.
use Rattle.std.specs.Prelude.{ℕ, Bool, Option, Some, None}
use Rattle.sts_syntax.specs.Trees.{Tree, Trees, SuperCall, Statement, Let, Plain, Declarations}
use Rattle.sts_syntax.specs.Views.{trees, declarations}
use Rattle.type_derive.specs.declared.heads.Head.{Head}
use Rattle.type_derive.specs.declared.heads.Lets.{Lets}

-- the call of a base's constructor: its place and arguments
pub record SuperHead : Type 0 where
  pub at : ℕ
  pub args : Trees

abbrev pub head : Option Head → Option SuperHead
head None = None
head (Some h) = Some (record { at = h.at; args = trees h.args.now })

abbrev pub super_of : Tree → Option SuperHead
super_of (SuperCall at None args) = Some (record { at = at; args = args })
super_of _ = None

abbrev pub head_of : Statement → Option SuperHead
head_of (Plain at e) = super_of e
head_of _ = None

-- the declared names of a statement
pub record Declares : Type 0 where
  pub fixed : Bool
  pub each : Declarations

abbrev pub lets : Option Lets → Option Declares
lets None = None
lets (Some h) = Some (record { fixed = h.fixed; each = declarations h.each.now })

abbrev pub lets_of : Statement → Option Declares
lets_of (Let at fixed each) = Some (record { fixed = fixed; each = each })
lets_of _ = None
