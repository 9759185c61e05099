-- Two least tables are one.
use Rattle.std.proofs.Common.{◌≡◌, ℕ, refl, sym, Option, Some, None, List, length}
use Rattle.sts_scope.specs.declared.kinds.StaticType.{StaticType}
use Rattle.type_derive.specs.Derived.{IsLeast, Less, at}

same_both : (x y : Option StaticType) → Less x y → Less y x → x ≡ y
same_both None None a b = refl
same_both None (Some y) a b = b
same_both (Some x) y a b = sym a

pub one : (rule : List (Option StaticType) → ℕ → Option StaticType) (xs ys : List (Option StaticType)) → length xs ≡ length ys → IsLeast rule xs → IsLeast rule ys → (d : ℕ) → at xs d ≡ at ys d
one rule xs ys e a b d = same_both (at xs d) (at ys d) (a.least ys (sym e) b.solves d) (b.least xs e a.solves d)
