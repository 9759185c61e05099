-- What the code's views of names and of a place stand for, and how places change while statements are gone through.
use Rattle.std.specs.Prelude.{◌≡◌, ℕ, List, ◌++◌, take}
use Rattle.sts_scope.specs.declared.known.Local.{Local}
use Rattle.sts_scope.specs.Entries.{Naming}
use Rattle.sts_scope.specs.Places.{NameScope}
use Rattle.sts_scope.specs.Values.{value_at}
use Rattle.type_derive.specs.declared.context.Context.{Context}
use Rattle.type_derive.specs.declared.scopes.Scope.{Scope}

-- which class a name stands for
abbrev pub naming : Context → Naming
naming c = value_at c.classes.now.values.items

abbrev pub place : Scope → NameScope
place s = record {
  around = s.locals.around;
  locals = s.locals.own;
  block = s.locals.block;
  this = s.this;
  gives = s.gives;
  library = s.library;
}

-- the same place with more locals in scope
abbrev pub Extends : NameScope → NameScope → Type 0
Extends p q = (more : List Local) × (q ≡ record p { locals = p.locals ++ more })

-- a block ends: so many locals were in scope where it began, and the block around it begins at that one of them
abbrev pub left : NameScope → ℕ → ℕ → NameScope
left p n block = record p { locals = take n p.locals; block = block }
