-- Where lists of values go.
use Rattle.std.proofs.Common.{Bool, false, Option, Some, None, List}
use Rattle.sts_scope.specs.declared.kinds.StaticType.{StaticType}
use Rattle.sts_scope.specs.declared.entries.ClassHead.{ClassHead}
use Rattle.sts_scope.specs.Rules.{all_go, all_go_to}

-- the values of some expressions have types and go where types are given, each to each
abbrev pub typed_go : List ClassHead → Option (List StaticType) → List StaticType → Bool
typed_go classes None ts = false
typed_go classes (Some ss) ts = all_go classes ss ts

-- they all go to one
abbrev pub typed_go_to : List ClassHead → StaticType → Option (List StaticType) → Bool
typed_go_to classes t None = false
typed_go_to classes t (Some ss) = all_go_to classes t ss
