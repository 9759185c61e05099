-- Types with more and more `[]`.
use Rattle.std.proofs.Common.{◌≡◌, ℕ, ◌+◌, ◌<◌, Bool, true, false, Option, Some, None, refl, ap, ◌∙◌, arith}
use Rattle.std.specs.Prelude.{nat_lt, nat_le, if◌then◌else◌}
use Rattle.std.specs.Option.{option_map, option_and_then}
use Rattle.std.proofs.lemmas.Bool.Decides.{nat_tests}
use Rattle.sts_syntax.specs.Annotations as s
use Rattle.sts_syntax.specs.Annotations.{Annotation}
use Rattle.sts_scope.specs.declared.kinds.Base.{Base}
use Rattle.sts_scope.specs.declared.kinds.StaticType.{StaticType}
use Rattle.sts_scope.specs.Kinds.{object, array_of, most_brackets, flat}
use Rattle.sts_scope.specs.Entries.{Naming, kind_of}

-- so many `[]` more, if a type has so many
abbrev pub deepened : ℕ → StaticType → Option StaticType
deepened n t = if nat_le (t.depth + n) most_brackets then Some (record { base = t.base; depth = t.depth + n }) else None

abbrev pub deeper : ℕ → Option StaticType → Option StaticType
deeper n o = option_and_then (deepened n) o

chosen : {A : Type 0} (b c : Bool) (x y : A) → b ≡ c → x ≡ y → ◌≡◌ {A = Option A} (if b then Some x else None) (if c then Some y else None)
chosen b c x y h e = ap (λ d. if d then Some x else None) h ∙ ap (λ z. if c then Some z else None) e

flat_same : (base : Base) → deepened 0 (flat base) ≡ Some (flat base)
flat_same base = refl

object_same : (o : Option ℕ) → deeper 0 (option_map object o) ≡ option_map object o
object_same None = refl
object_same (Some c) = refl

array_same : (base : Base) (depth : ℕ) (b : Bool) → nat_lt depth most_brackets ≡ b →
    ◌≡◌ {A = Option StaticType} (option_and_then (deepened 0) (if b then Some (record { base = base; depth = depth + 1 }) else None)) (if b then Some (record { base = base; depth = depth + 1 }) else None)
array_same base depth false h = refl
array_same base depth true h =
    let one : nat_le (depth + 1 + 0) most_brackets ≡ true = grind (arith, nat_tests) in
    let same : depth + 1 + 0 ≡ depth + 1 = omega arith in
    chosen (nat_le (depth + 1 + 0) most_brackets) true (record { base = base; depth = depth + 1 + 0 }) (record { base = base; depth = depth + 1 }) one (ap (λ (d : ℕ). record { base = base; depth = d }) same)

items_same : (o : Option StaticType) → deeper 0 (option_and_then array_of o) ≡ option_and_then array_of o
items_same None = refl
items_same (Some t) = array_same t.base t.depth (nat_lt t.depth most_brackets) refl

-- no `[]` more
pub same_kind : (names : Naming) (a : Annotation) → deeper 0 (kind_of names a) ≡ kind_of names a
same_kind names s.Number = refl
same_kind names s.Boolean = refl
same_kind names s.Text = refl
same_kind names s.Nothing = refl
same_kind names (s.Named at x) = object_same (names x)
same_kind names (s.ListOf a) = items_same (kind_of names a)

one_more : (n depth : ℕ) (base : Base) (b : Bool) → nat_lt depth most_brackets ≡ b →
    option_and_then (deepened n) (if b then Some (record { base = base; depth = depth + 1 }) else None) ≡ deepened (n + 1) (record { base = base; depth = depth })
one_more n depth base false h =
    let over : false ≡ nat_le (depth + (n + 1)) most_brackets = grind (arith, nat_tests) in
    ap (λ d. if d then Some (record { base = base; depth = depth + (n + 1) }) else None) over
one_more n depth base true h =
    let tests : nat_le (depth + 1 + n) most_brackets ≡ nat_le (depth + (n + 1)) most_brackets = ap (λ m. nat_le m most_brackets) (let e : depth + 1 + n ≡ depth + (n + 1) = omega arith in e) in
    let same : depth + 1 + n ≡ depth + (n + 1) = omega arith in
    chosen (nat_le (depth + 1 + n) most_brackets) (nat_le (depth + (n + 1)) most_brackets) (record { base = base; depth = depth + 1 + n }) (record { base = base; depth = depth + (n + 1) }) tests
    (ap (λ (d : ℕ). record { base = base; depth = d }) same)

-- an array of items with so many `[]` more has one more
pub deeper_item : (n : ℕ) (o : Option StaticType) → deeper n (option_and_then array_of o) ≡ deeper (n + 1) o
deeper_item n None = refl
deeper_item n (Some t) = one_more n t.depth t.base (nat_lt t.depth most_brackets) refl

-- no type has more than that
pub too_deep : (n : ℕ) (o : Option StaticType) → most_brackets < n → deeper n o ≡ None
too_deep n None h = refl
too_deep n (Some t) h =
    let over : nat_le (t.depth + n) most_brackets ≡ false = grind (arith, nat_tests) in
    ap (λ d. if d then Some (record { base = t.base; depth = t.depth + n }) else None) over
