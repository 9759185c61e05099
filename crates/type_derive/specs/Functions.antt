-- The typed function of a function or method, with those that stand in it, where all is there that is looked for.
use Rattle.std.specs.Prelude.{ℕ, suc, Bool, false, Option, List, [], ◌∷◌}
use Rattle.sts_base.specs.declared.tables.Tables.{Tables}
use Rattle.sts_syntax.specs.declared.typed.Spot.{Spot}
use Rattle.sts_syntax.specs.declared.typed.Spot.TheVariants.{Param}
use Rattle.sts_syntax.specs.Types as t
use Rattle.sts_syntax.specs.TypedTrees.{TypedRoutine}
use Rattle.sts_syntax.specs.Trees.{Parameter, Routine, Does}
use Rattle.sts_scope.specs.declared.kinds.StaticType.{StaticType}
use Rattle.sts_scope.specs.declared.known.Known.{Known}
use Rattle.sts_scope.specs.declared.known.This.{This}
use Rattle.sts_scope.specs.declared.known.This.TheVariants as this
use Rattle.sts_scope.specs.Kinds.{value_type, value_types}
use Rattle.sts_scope.specs.Entries.{Naming, parameter_kinds}
use Rattle.sts_scope.specs.Numbers.{Numbering}
use Rattle.type_derive.specs.Typing.{◌>>=◌}
use Rattle.type_derive.specs.Returns.{parameter_locals, within}
use Rattle.type_derive.specs.Built.{Site, routines_made, made_statements}

-- the spots of parameters, from the number i on
abbrev pub parameter_spots : ℕ → List Parameter → List Spot
parameter_spots i [] = []
parameter_spots i (p ∷ rest) = Param i ∷ parameter_spots (suc i) rest

-- a function's site: its parameters stand from the number i on
abbrev pub site : Naming → This → Option StaticType → Bool → ℕ → List Parameter → Site
site names self result library i params =
    record { place = within (parameter_locals names params) self result library; spots = parameter_spots i params }

module _ (tables : Tables) (names : Naming) (k : Known) (numbers : Numbering) where
  -- a function of the whole text, and the functions in it
  abbrev pub function_made : Bool → ℕ → Option StaticType → Routine → Option (List TypedRoutine)
  function_made library n result (Does at params gives all arrow) =
      result >>= λ u. routines_made (value_types (parameter_kinds names params)) (value_type u)
      (made_statements tables names k numbers (site names this.Nowhere result library 0 params) all) n

  -- a method takes `this` first
  abbrev pub method_made : ℕ → ℕ → Option StaticType → Routine → Option (List TypedRoutine)
  method_made c n result (Does at params gives all arrow) =
      result >>= λ u. routines_made (t.Object c ∷ value_types (parameter_kinds names params)) (value_type u)
      (made_statements tables names k numbers (site names (this.Object c) result false 1 params) all) n
