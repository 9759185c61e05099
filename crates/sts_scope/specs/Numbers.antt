-- The numbers of globals, fields, slots and functions in a typed program.
use Rattle.std.specs.Prelude.{ℕ, zero, suc, ◌+◌, Bool, true, false, not, ◌==◌, Option, Some, None, List, [], ◌∷◌, ◌++◌, length, take, filter, unwrap_or, get_or}
use Rattle.std.specs.List.{position_from, list_any}
use Rattle.sts_scope.specs.declared.entries.Owner.TheVariants as o
use Rattle.sts_scope.specs.declared.entries.DeclarationKind.{DeclarationKind}
use Rattle.sts_scope.specs.declared.entries.DeclarationKind.TheVariants as sort
use Rattle.sts_scope.specs.declared.entries.Entry.{Entry}
use Rattle.sts_scope.specs.declared.known.Known.{Known}
use Rattle.sts_scope.specs.Lookup.{same_owner, base_of, is_field}
use Rattle.sts_scope.specs.Scopes.{is_global, names_of}
use Rattle.sts_syntax.specs.Trees.{Statement, Let, Declarations, ended, next}
use Rattle.sts_syntax.specs.Programs.{ClassMember, Field, Method, Constructor, TopLevel, Class, Function, Main, Program}
use Rattle.sts_scope.specs.Handlers.{declared_handlers, routine_handlers, unwritten, item_routines}

-- a global's number: how many globals are declared before it
abbrev pub global_number : Known → ℕ → ℕ
global_number k d = length (names_of is_global (take d k.entries))

abbrev pub is_method : Option DeclarationKind → Bool
is_method (Some sort.Method) = true
is_method _ = false

-- the names of a class's own members of a sort, in text order
abbrev pub own_names : (Option DeclarationKind → Bool) → List Entry → ℕ → List ℕ
own_names which [] c = []
own_names which (e ∷ rest) c = elim (same_owner e.owner (o.Class c)) [
  | true ↦ elim (which (Some e.sort)) [ true ↦ e.name ∷ own_names which rest c | false ↦ own_names which rest c ]
  | false ↦ own_names which rest c
]

abbrev pub is_listed : List ℕ → ℕ → Bool
is_listed names x = list_any (λ y. y == x) names

-- those that aren't there yet, behind them
abbrev pub added : List ℕ → List ℕ → List ℕ
added names more = names ++ filter (λ x. not (is_listed names x)) more

-- the names of a class's fields or slots: its base's first, then its own new ones
abbrev pub names_from : (Option DeclarationKind → Bool) → Known → ℕ → ℕ → List ℕ
names_from which k zero c = []
names_from which k (suc n) c =
    elim (base_of k.classes c) [
      | None ↦ own_names which k.entries c
      | Some b ↦ added (names_from which k n b) (own_names which k.entries c)
    ]

abbrev pub field_names : Known → ℕ → List ℕ
field_names k c = names_from is_field k (length k.classes) c

abbrev pub slot_names : Known → ℕ → List ℕ
slot_names k c = names_from is_method k (length k.classes) c

-- the place of a name among them
abbrev pub place_among : List ℕ → ℕ → ℕ
place_among names x = unwrap_or (position_from (λ y. y == x) 0 names) 0

-- The numbers of functions: of each declaration that is one, and of each class's constructor.
pub record Numbering : Type 0 where
  pub routines : List ℕ
  pub makers : List ℕ

abbrev pub routine_number : Numbering → ℕ → ℕ
routine_number numbers d = get_or numbers.routines d 0

abbrev pub maker_number : Numbering → ℕ → ℕ
maker_number numbers c = get_or numbers.makers c 0

-- the numbers of a class's methods, where its first member's is n; a field's place has no number that counts
abbrev pub member_numbers : ℕ → List ClassMember → List ℕ
member_numbers n [] = []
member_numbers n (Field a ∷ rest) = 0 ∷ member_numbers (n + declared_handlers a) rest
member_numbers n (Method x r ∷ rest) = n ∷ member_numbers (suc n + routine_handlers r) rest
member_numbers n (Constructor r ∷ rest) = member_numbers (suc n + routine_handlers r) rest

abbrev pub global_places : Declarations → List ℕ
global_places ended = []
global_places (next a rest) = 0 ∷ global_places rest

abbrev pub main_numbers : Statement → List ℕ
main_numbers (Let at fixed each) = global_places each
main_numbers _ = []

abbrev pub item_numbers : ℕ → TopLevel → List ℕ
item_numbers n (Class at x base base_at members) = 0 ∷ member_numbers (n + unwritten members) members
item_numbers n (Function x r) = n ∷ []
item_numbers n (Main a) = main_numbers a

abbrev pub numbers_from : ℕ → Program → List ℕ
numbers_from n [] = []
numbers_from n (i ∷ rest) = item_numbers n i ++ numbers_from (n + item_routines i) rest

-- the number of a class's constructor: the first written one's, else the first of the class's numbers
abbrev pub maker_from : ℕ → ℕ → List ClassMember → ℕ
maker_from first n [] = first
maker_from first n (Constructor r ∷ rest) = n
maker_from first n (Field a ∷ rest) = maker_from first (n + declared_handlers a) rest
maker_from first n (Method x r ∷ rest) = maker_from first (suc n + routine_handlers r) rest

abbrev pub item_makers : ℕ → TopLevel → List ℕ
item_makers n (Class at x base base_at members) = maker_from n n members ∷ []
item_makers n _ = []

abbrev pub makers_from : ℕ → Program → List ℕ
makers_from n [] = []
makers_from n (i ∷ rest) = item_makers n i ++ makers_from (n + item_routines i) rest

abbrev pub numbering : Program → Numbering
numbering whole = record { routines = numbers_from 0 whole; makers = makers_from 0 whole }
