-- The headings of functions and members of classes: types are known, parameters have one, and no name stands twice.
use Rattle.std.specs.Prelude.{ℕ, ◌+◌, Bool, true, false, not, ◌&&◌, ◌||◌, ◌==◌, Option, Some, None, List, [], ◌∷◌, length, is_some, take, codes}
use Rattle.std.specs.List.{list_any}
use Rattle.sts_base.specs.declared.refused.Code.TheVariants.{UnknownName, TwiceNamed, NeedsType}
use Rattle.sts_syntax.specs.Annotations as s
use Rattle.sts_syntax.specs.Annotations.{Annotation}
use Rattle.sts_syntax.specs.Trees.{Parameter, OptionalTree, absent, Declaration, Declare, Routine, Does}
use Rattle.sts_syntax.specs.Programs.{ClassMember, Field, Method, Constructor, TopLevel, Class, Function, Main, Program}
use Rattle.sts_scope.specs.declared.entries.Owner.TheVariants as o
use Rattle.sts_scope.specs.declared.entries.Entry.{Entry}
use Rattle.sts_scope.specs.declared.entries.ClassHead.{ClassHead}
use Rattle.sts_scope.specs.Failures.{Failure, ◌then◌, unless, own}
use Rattle.sts_scope.specs.Entries.{Naming, kind_of, classes_in, item_entries, member_entry}
use Rattle.sts_scope.specs.Lookup.{is_second, inherited, inherits_field}
use Rattle.sts_scope.specs.Rules.{is_spelled}

-- an unknown type name, at that name
abbrev pub type_name_failure : Naming → Annotation → Option Failure
type_name_failure names (s.Named at x) = own (names x) UnknownName at
type_name_failure names (s.ListOf a) = type_name_failure names a
type_name_failure names _ = None

-- A type that isn't known: its name is unknown, or it has too many `[]`, at the place of what has the type.
abbrev pub type_failure : Naming → ℕ → Annotation → Option Failure
type_failure names at a = type_name_failure names a then own (kind_of names a) UnknownName at

abbrev pub written_failure : Naming → ℕ → Option Annotation → Option Failure
written_failure names at None = None
written_failure names at (Some a) = type_failure names at a

-- a parameter of this name stands among these
abbrev pub takes_name : List Parameter → ℕ → Bool
takes_name params x = list_any (λ p. p.name == x) params

-- the first failure of the parameters from the i-th on; one without a type fails before one that is a second
abbrev pub parameters_failure : Naming → List Parameter → ℕ → List Parameter → Option Failure
parameters_failure names all i [] = None
parameters_failure names all i (p ∷ rest) =
    (own p.shape NeedsType p.at then unless (not (takes_name (take i all) p.name)) TwiceNamed p.at
    then written_failure names p.at p.shape) then parameters_failure names all (i + 1) rest

abbrev pub routine_failure : Naming → Routine → Option Failure
routine_failure names (Does at params gives all arrow) =
    parameters_failure names params 0 params then written_failure names at gives

abbrev pub routine_at : Routine → ℕ
routine_at (Does at params gives all arrow) = at

-- a field has a type or an initialiser
abbrev pub is_typed : Option Annotation → OptionalTree → Bool
is_typed None absent = false
is_typed _ _ = true

-- a field of the name `constructor`, by the table of names
abbrev pub declares_constructor : List (List ℕ) → Declaration → Bool
declares_constructor spellings (Declare at x shape first) = is_spelled spellings x (codes "constructor")

-- a constructor, or a field of that name: a class has at most one of them
abbrev pub is_constructor : List (List ℕ) → ClassMember → Bool
is_constructor spellings (Field a) = declares_constructor spellings a
is_constructor spellings (Method x r) = false
is_constructor spellings (Constructor r) = true

-- The member that is the d-th of all declarations, of the class c; whether one that is named `constructor` is before it.
module _ (spellings : List (List ℕ)) (names : Naming) (entries : List Entry) (classes : List ClassHead) where
  abbrev pub field_failure : ℕ → ℕ → Bool → Declaration → Option Failure
  field_failure c d made (Declare at x shape first) =
      unless (not (made && is_spelled spellings x (codes "constructor"))) TwiceNamed at
      then unless (not (is_second entries d (o.Class c) x)) TwiceNamed at
      then unless (not (is_some (inherited entries classes c x))) TwiceNamed at
      then unless (is_typed shape first) NeedsType at then written_failure names at shape

  abbrev pub method_failure : ℕ → ℕ → ℕ → Routine → Option Failure
  method_failure c d x r =
      unless (not (is_second entries d (o.Class c) x)) TwiceNamed (routine_at r)
      then unless (not (inherits_field entries classes c x)) TwiceNamed (routine_at r)
      then routine_failure names r

  abbrev pub member_failure : ℕ → ℕ → Bool → ClassMember → Option Failure
  member_failure c d made (Field a) = field_failure c d made a
  member_failure c d made (Method x r) = method_failure c d x r
  member_failure c d made (Constructor r) = unless (not made) TwiceNamed (routine_at r) then routine_failure names r

  abbrev pub members_failure : ℕ → ℕ → Bool → List ClassMember → Option Failure
  members_failure c d made [] = None
  members_failure c d made (m ∷ rest) =
      member_failure c d made m
      then members_failure c (d + length (member_entry names c m)) (made || is_constructor spellings m) rest

  -- of a part of the text, which begins with the class c and the d-th declaration
  abbrev pub item_failure : ℕ → ℕ → TopLevel → Option Failure
  item_failure c d (Class at x base base_at members) = members_failure c (d + 1) false members
  item_failure c d (Function x r) = routine_failure names r
  item_failure c d (Main a) = None

  -- the first failure in text order
  abbrev pub headings_failure : ℕ → ℕ → Program → Option Failure
  headings_failure c d [] = None
  headings_failure c d (i ∷ rest) =
      item_failure c d i then headings_failure (c + classes_in i) (d + length (item_entries names c i)) rest
