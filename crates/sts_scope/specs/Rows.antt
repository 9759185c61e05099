-- Small texts, for worked rows. Names are numbered as they are listed.
use Rattle.std.specs.Prelude.{ℕ, pos, false, Option, Some, None, List, [], ◌∷◌, codes}
use Rattle.sts_syntax.specs.Annotations as s
use Rattle.sts_syntax.specs.Annotations.{Annotation}
use Rattle.sts_syntax.specs.Trees as t
use Rattle.sts_syntax.specs.Trees.{Parameter, Declare, Does, absent, present, done, ended, next}
use Rattle.sts_syntax.specs.Programs.{ClassMember, Field, Method, Constructor, TopLevel, Class, Function, Main, Program}
use Rattle.sts_scope.specs.Failures.{Failure}
use Rattle.sts_scope.specs.Scopes.{heading_refusal}

-- a, b, c, $d, constructor
abbrev pub names : List (List ℕ)
names = codes "a" ∷ codes "b" ∷ codes "c" ∷ codes "$d" ∷ codes "constructor" ∷ []

-- behind no library
abbrev pub refused : Program → Option Failure
refused text = heading_refusal names [] text

-- let NAME = 1
abbrev pub global : ℕ → ℕ → TopLevel
global at x = Main (t.Let 0 false (next (Declare at x None (present (t.Num 0 (pos 1)))) ended))

abbrev pub parameter : ℕ → ℕ → Option Annotation → Parameter
parameter at x shape = record { at = at; name = x; shape = shape }

-- function NAME(..) { }
abbrev pub function : ℕ → ℕ → List Parameter → TopLevel
function at x params = Function x (Does at params None done false)

-- class NAME { .. }, and one with a base
abbrev pub class : ℕ → ℕ → List ClassMember → TopLevel
class at x members = Class at x None 0 members

abbrev pub subclass : ℕ → ℕ → ℕ → ℕ → List ClassMember → TopLevel
subclass at x base base_at members = Class at x (Some base) base_at members

-- NAME: number, and without a type
abbrev pub field : ℕ → ℕ → ClassMember
field at x = Field (Declare at x (Some s.Number) absent)

abbrev pub untyped_field : ℕ → ℕ → ClassMember
untyped_field at x = Field (Declare at x None absent)

-- NAME() { }
abbrev pub empty_method : ℕ → ℕ → ClassMember
empty_method at x = Method x (Does at [] None done false)

abbrev pub constructor : ℕ → ClassMember
constructor at = Constructor (Does at [] None done false)
