-- The constructor of a class.
use Rattle.std.proofs.Common.{◌≡◌, ℕ, zero, suc, List, [], ◌∷◌, refl, ap, Some, None}
use Rattle.std.specs.Prelude.{slice_get}
use Rattle.sts_syntax.specs.declared.typed.TypedClass.{TypedClass}
use Rattle.sts_syntax.specs.TypedViews.{class_entries}
use Rattle.sts_lower.specs.Code.{maker_of}

pub maker_there : (classes : List TypedClass) (k : ℕ) (class : TypedClass) → slice_get classes k ≡ Some class → maker_of (class_entries classes) k ≡ class.maker
maker_there [] k class is = absurd (cc)
maker_there (c ∷ rest) zero class is = let e : c ≡ class = cc in ap (λ x. x.maker) e
maker_there (c ∷ rest) (suc k) class is = maker_there rest k class is

pub maker_missing : (classes : List TypedClass) (k : ℕ) → slice_get classes k ≡ None → maker_of (class_entries classes) k ≡ 0
maker_missing [] k is = refl
maker_missing (c ∷ rest) zero is = absurd (cc)
maker_missing (c ∷ rest) (suc k) is = maker_missing rest k is
