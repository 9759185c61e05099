-- The lists of names that `resolve` gives.
use Rattle.std.specs.Prelude.{◌≡◌, Bool, List}
use Rattle.sts_scope.specs.declared.entries.DeclarationKind.{DeclarationKind}
use Rattle.sts_scope.specs.declared.entries.Entry.{Entry}
use Rattle.text_headings.specs.declared.resolution.Which.{Which}
use Rattle.text_headings.specs.declared.resolution.Which.TheVariants as which
use Rattle.text_headings.specs.declared.resolution.Scopes.{Scopes}
use Rattle.sts_scope.specs.Scopes.{is_global, is_function, is_class, names_of}

abbrev pub is_one : Which → DeclarationKind → Bool
is_one which.Globals s = is_global s
is_one which.Functions s = is_function s
is_one which.Classes s = is_class s

-- the names of globals, functions and classes among these declarations
pub record AreScopes (entries : List Entry) (s : Scopes) : Type 0 where
  pub globals_are : s.globals ≡ names_of is_global entries
  pub functions_are : s.functions ≡ names_of is_function entries
  pub classes_are : s.classes ≡ names_of is_class entries
