-- Sites with more names in scope.
use Rattle.std.specs.Prelude.{◌≡◌, ℕ, List, ◌++◌}
use Rattle.sts_syntax.specs.declared.typed.Spot.{Spot}
use Rattle.sts_scope.specs.declared.known.Local.{Local}
use Rattle.type_derive.specs.Built.{Site}

-- the same site with more names in scope, maybe in a block that begins elsewhere
pub record Grown (p q : Site) : Type 0 where
  pub locals : List Local
  pub spots : List Spot
  pub block : ℕ
  pub place_is : q.place ≡ record p.place { locals = p.place.locals ++ locals; block = block }
  pub spots_are : q.spots ≡ p.spots ++ spots
