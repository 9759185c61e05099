-- The numbers of globals, as they are kept.
use Rattle.std.proofs.Common.{◌≡◌, ◌+◌, ◌<◌, ◌≤◌, ℕ, zero, suc, Bool, true, false, List, [], ◌∷◌, length, take, get_or, refl, ◌∙◌, arith}
use Rattle.std.specs.Prelude.{if◌then◌else◌}
use Rattle.sts_scope.specs.declared.entries.Entry.{Entry}
use Rattle.sts_scope.specs.Scopes.{is_global, names_of}
use Rattle.typed_numbers.specs.Building.{globals_from}

counted : (b : Bool) (e : Entry) (n : ℕ) (names : List ℕ) → (if b then n + 1 else n) + length names ≡ n + length {A = ℕ} (elim b [ true ↦ e.name ∷ names | false ↦ names ])
counted true e n names = omega arith
counted false e n names = refl

-- a number for each declaration, and one more
pub globals_long : (n : ℕ) (es : List Entry) → length (globals_from n es) ≡ length es + 1
globals_long n [] = refl
globals_long n (e ∷ es) = let h = globals_long (if is_global e.sort then n + 1 else n) es in omega (arith, h)

-- that of a declaration
pub global_there : (n d : ℕ) (es : List Entry) (x : ℕ) → d < length es → get_or (globals_from n es) d x ≡ n + length (names_of is_global (take d es))
global_there n d [] x l = absurd (omega (arith, l))
global_there n zero (e ∷ es) x l = omega arith
global_there n (suc d) (e ∷ es) x l =
    global_there (if is_global e.sort then n + 1 else n) d es x (omega (arith, l)) ∙ counted (is_global e.sort) e n (names_of is_global (take d es))

-- that behind the last one
pub global_behind : (n d : ℕ) (es : List Entry) (x : ℕ) → length es ≤ d → get_or (globals_from n es) (length es) x ≡ n + length (names_of is_global (take d es))
global_behind n zero [] x l = omega arith
global_behind n (suc d) [] x l = omega arith
global_behind n zero (e ∷ es) x l = absurd (omega (arith, l))
global_behind n (suc d) (e ∷ es) x l =
    global_behind (if is_global e.sort then n + 1 else n) d es x (omega (arith, l)) ∙ counted (is_global e.sort) e n (names_of is_global (take d es))
