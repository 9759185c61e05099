-- What constructors take: no more than the parameters of all written ones.
use Rattle.std.proofs.Common.{◌≡◌, ℕ, zero, suc, ◌+◌, ◌≤◌, Option, Some, None, List, [], ◌∷◌, ◌++◌, length, refl, ap, arith}
use Rattle.std.specs.Prelude.{slice_get}
use Rattle.sts_syntax.specs.Trees.{Does}
use Rattle.sts_syntax.specs.Programs.{ClassMember, Field, Method, Constructor, TopLevel, Class, Function, Main, Program}
use Rattle.sts_scope.specs.declared.kinds.StaticType.{StaticType}
use Rattle.sts_scope.specs.declared.entries.ClassHead.{ClassHead}
use Rattle.sts_scope.specs.Entries.{Naming, maker_takes, item_heads, heads_of}
use Rattle.sts_scope.specs.Rules.{maker_from, maker_takes_of}
use Rattle.sts_scope.specs.Scopes.{all_names}
use Rattle.text_sizes.specs.Numbered.{members_numbered, item_numbered, all_numbered}
use Rattle.type_derive.specs.Derived.{known}
use Rattle.typed_program.proofs.AtMost.{kinds_long}

abbrev takes : Option (List StaticType) → ℕ
takes None = 0
takes (Some kinds) = length kinds

-- what written constructors take, all together
abbrev all_take : List ClassHead → ℕ
all_take [] = 0
all_take (class ∷ rest) = takes class.takes + all_take rest

all_take_append : (xs ys : List ClassHead) → all_take (xs ++ ys) ≡ all_take xs + all_take ys
all_take_append [] ys = omega arith
all_take_append (x ∷ xs) ys = (let rest = all_take_append xs ys in omega (arith, rest))

-- one of them takes no more
one_takes : (all : List ClassHead) (c : ℕ) (class : ClassHead) → slice_get all c ≡ Some class → takes class.takes ≤ all_take all
one_takes [] c class is = cc
one_takes (x ∷ rest) zero class is =
    let of : Option ClassHead → ℕ = λ o. elim o [ None ↦ 0 | Some head ↦ takes head.takes ] in
    let same : takes x.takes ≡ takes class.takes = ap of is in
    omega (arith, same)
one_takes (x ∷ rest) (suc c) class is = (let a = one_takes rest c class is in omega (arith, a))

-- the nearest one that is written takes no more, from a class or one of its bases on
from_class : (all : List ClassHead) (n : ℕ) (o : Option (List StaticType)) (base : Option ℕ) → takes o ≤ all_take all → ((b : ℕ) → length (maker_from all n b) ≤ all_take all)
    → length {A = StaticType} (elim o [ Some kinds ↦ kinds | None ↦ elim base [ None ↦ [] | Some b ↦ maker_from all n b ] ]) ≤ all_take all
from_class all n (Some kinds) base here above = here
from_class all n None None here above = omega arith
from_class all n None (Some b) here above = above b

from_found : (all : List ClassHead) (n : ℕ) (o : Option ClassHead) → ((class : ClassHead) → o ≡ Some class → takes class.takes ≤ all_take all) → ((b : ℕ) → length (maker_from all n b) ≤ all_take all)
    → length {A = StaticType} (elim o [ None ↦ [] | Some class ↦ elim class.takes [ Some kinds ↦ kinds | None ↦ elim class.base [ None ↦ [] | Some b ↦ maker_from all n b ] ] ]) ≤ all_take all
from_found all n None each above = omega arith
from_found all n (Some class) each above = from_class all n class.takes class.base (each class refl) above

nearest_takes : (all : List ClassHead) (n c : ℕ) → length (maker_from all n c) ≤ all_take all
nearest_takes all zero c = omega arith
nearest_takes all (suc n) c = from_found all n (slice_get all c) (λ class is. one_takes all c class is) (λ b. nearest_takes all n b)

-- a written constructor's parameters have numbers
maker_takes_few : (names : Naming) (members : List ClassMember) → takes (maker_takes names members) ≤ members_numbered members
maker_takes_few names [] = omega arith
maker_takes_few names (Field a ∷ rest) = (let h = maker_takes_few names rest in omega (arith, h))
maker_takes_few names (Method x r ∷ rest) = (let h = maker_takes_few names rest in omega (arith, h))
maker_takes_few names (Constructor (Does at params gives all arrow) ∷ rest) = (let h = kinds_long names params in omega (arith, h))

item_takes : (names : Naming) (i : TopLevel) → all_take (item_heads names i) ≤ item_numbered i
item_takes names (Class at x base base_at members) = (let h = maker_takes_few names members in omega (arith, h))
item_takes names (Function x r) = omega arith
item_takes names (Main a) = omega arith

heads_take : (names : Naming) (p : Program) → all_take (heads_of names p) ≤ all_numbered p
heads_take names [] = omega arith
heads_take names (i ∷ rest) =
    let here = item_takes names i in
    let behind = heads_take names rest in
    let both = all_take_append (item_heads names i) (heads_of names rest) in
    omega (arith, here, behind, both)

pub makers_take : (library text : Program) (kinds : List (Option StaticType)) (c : ℕ) → length (maker_takes_of (known library text kinds).classes c) ≤ all_numbered (library ++ text)
makers_take library text kinds c =
    let names : Naming = all_names library text in
    let all : List ClassHead = heads_of names (library ++ text) in
    let a : length (maker_from all (length all) c) ≤ all_take all = nearest_takes all (length all) c in
    let b : all_take all ≤ all_numbered (library ++ text) = heads_take names (library ++ text) in
    omega (arith, a, b)

pub all_numbered_append : (xs ys : Program) → all_numbered (xs ++ ys) ≡ all_numbered xs + all_numbered ys
all_numbered_append [] ys = omega arith
all_numbered_append (i ∷ xs) ys = (let rest = all_numbered_append xs ys in omega (arith, rest))
