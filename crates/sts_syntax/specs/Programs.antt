-- Classes and whole texts, without pointers.
use Rattle.std.specs.Prelude.{ℕ, Option, List, [], ◌∷◌}
use Rattle.sts_syntax.specs.declared.units.Member.{Member}
use Rattle.sts_syntax.specs.declared.units.Member.TheVariants as m
use Rattle.sts_syntax.specs.declared.units.Item.{Item}
use Rattle.sts_syntax.specs.declared.units.Item.TheVariants as i
use Rattle.sts_syntax.specs.declared.units.Unit as u
use Rattle.sts_syntax.specs.Trees.{Statement, Declaration, Routine}
use Rattle.sts_syntax.specs.Views.{statement, declaration, routine}

-- A member of a class. The place of a field and a method is its name's, and stands in its declaration or routine.
pub data ClassMember : Type 0 where
  Field : (field : Declaration) → ClassMember
  Method : (name : ℕ) (method : Routine) → ClassMember
  Constructor : (maker : Routine) → ClassMember

-- A part of a text. The place of a class is its name's, and `base_at` is the place of its base's name, 0 without one.
pub data TopLevel : Type 0 where
  Class : (at name : ℕ) (base : Option ℕ) (base_at : ℕ) (members : List ClassMember) → TopLevel
  Function : (name : ℕ) (function : Routine) → TopLevel
  Main : (a : Statement) → TopLevel

-- a whole text
abbrev pub Program : Type 0
Program = List TopLevel

abbrev pub class_member : Member → ClassMember
class_member (m.Field b) = Field (declaration b)
class_member (m.Method name body) = Method name (routine body)
class_member (m.Constructor body) = Constructor (routine body)

abbrev pub class_members : List Member → List ClassMember
class_members [] = []
class_members (m ∷ rest) = class_member m ∷ class_members rest

abbrev pub top_level : Item → TopLevel
top_level (i.Class at name base base_at members) = Class at name base base_at (class_members members)
top_level (i.Function name body) = Function name (routine body)
top_level (i.Stmt s) = Main (statement s)

abbrev pub top_levels : List Item → Program
top_levels [] = []
top_levels (i ∷ rest) = top_level i ∷ top_levels rest

-- what a `Unit` in memory stands for
abbrev pub program : u.Unit → Program
program whole = top_levels whole.items
