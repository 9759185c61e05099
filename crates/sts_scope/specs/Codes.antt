-- Why a node has no type although its parts have. A node that always has one is never asked for its cause.
use Rattle.std.specs.Prelude.{ℕ, Option, Some, None, if◌then◌else◌}
use Rattle.sts_base.specs.declared.refused.Code.{Code}
use Rattle.sts_base.specs.declared.refused.Code.TheVariants.{UnknownName, Captures, NeedsType, BadHandler, Mismatch}
use Rattle.sts_scope.specs.declared.kinds.StaticType.{StaticType}
use Rattle.sts_scope.specs.declared.known.Known.{Known}
use Rattle.sts_scope.specs.declared.known.This.{This}
use Rattle.sts_scope.specs.declared.known.This.TheVariants as this
use Rattle.sts_scope.specs.declared.known.Found.{Found}
use Rattle.sts_scope.specs.declared.known.Found.TheVariants as found
use Rattle.sts_scope.specs.declared.known.Part.{Part}
use Rattle.sts_scope.specs.declared.known.Part.TheVariants as part
use Rattle.sts_scope.specs.Lookup.{inherits_field}

-- a name that is read
abbrev pub why_name : Found → Code
why_name found.Captured = Captures
why_name (found.Local i) = NeedsType
why_name (found.Global d) = NeedsType
why_name (found.Function d) = BadHandler
why_name _ = UnknownName

abbrev pub why_this : This → Code
why_this this.Nowhere = UnknownName
why_this (this.Hidden c) = Captures
why_this (this.Object c) = Mismatch

-- a member that is read
abbrev pub why_part : Part → Code
why_part part.Missing = UnknownName
why_part (part.Field d) = NeedsType
why_part part.Length = Mismatch
why_part _ = BadHandler

-- a call of what gives this
abbrev pub why_call : Option StaticType → Code
why_call None = NeedsType
why_call (Some t) = Mismatch

-- the class name of `new`
abbrev pub why_make : Found → Code
why_make found.Captured = Captures
why_make (found.Class c) = Mismatch
why_make _ = UnknownName

-- `super.m(..)` where m is no method of a base: a field of that name is known
abbrev pub why_super : Known → This → ℕ → Code
why_super k this.Nowhere m = UnknownName
why_super k (this.Object c) m = if inherits_field k.entries k.classes c m then Mismatch else UnknownName
why_super k (this.Hidden c) m = Captures
