-- Counts of members, and lists of items so far.
use Rattle.std.proofs.Common.{◌≡◌, suc, Option, Some, None, List, [], ◌∷◌, ◌++◌, length, refl, ap, String}
use Rattle.std.specs.declared.alloc.Global.{Global}
use Rattle.serde_json.specs.View.{members_view}
use Rattle.serde_json.specs.declared.value.Value.{Value}
use Rattle.event_script.specs.Trees.{count_of}

-- an object has as many members as its map
pub counted : (ms : List (String Global × Value)) → count_of (members_view ms) ≡ length ms
counted [] = refl
counted (m ∷ ms) = ap suc (counted ms)

-- the items so far, and those of what is left
abbrev pub behind : {X : Type 0} → List X → Option (List X) → Option (List X)
behind xs None = None
behind xs (Some ys) = Some (xs ++ ys)
