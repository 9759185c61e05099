-- Types as a program writes them, without pointers.
use Rattle.std.specs.Prelude.{ℕ}
use Rattle.sts_syntax.specs.declared.shapes.Shape.{Shape}
use Rattle.sts_syntax.specs.declared.shapes.Shape.TheVariants as s

-- A type annotation. A named type has its place and its name's number.
pub data Annotation : Type 0 where
  Number : Annotation
  Boolean : Annotation
  Text : Annotation
  Nothing : Annotation
  Named : (at name : ℕ) → Annotation
  ListOf : (item : Annotation) → Annotation

-- what a `Shape` in memory stands for
abbrev pub annotation : Shape → Annotation
annotation s.Number = Number
annotation s.Boolean = Boolean
annotation s.Text = Text
annotation s.Nothing = Nothing
annotation (s.Named at name) = Named at name
annotation (s.List' p item) = ListOf (annotation item)
