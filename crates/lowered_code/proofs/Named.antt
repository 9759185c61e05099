-- Code names no text that its trees don't name, and its numbers have 32 bits if those of its trees do.
use Rattle.std.proofs.Common.{ℕ, List, [], ◌∷◌, inl, inr, refl, arith}
use Rattle.std.specs.Prelude.{FitsSigned}
use Rattle.std.specs.Int.{w32}
use Rattle.std.specs.List.{AllByRecursion}
use Rattle.sts_syntax.specs.TypedTrees as e
use Rattle.sts_syntax.specs.TypedTrees.{TypedTree, TypedProgram}
use Rattle.sts_syntax.specs.Nodes.{all_expressions, texts_in, program_texts}
use Rattle.sts_syntax.specs.TypeRules.{IsOneOf}
use Rattle.sts_syntax.specs.WellTypedPrograms.{IsWellTyped}
use Rattle.sts_lower.specs.Lowered.{lowered}
use Rattle.lowered_code.specs.Texts.{NamesOnly, AllHave}
use Rattle.lowered_code.proofs.Owned.{AreIn, program_has}
use Rattle.lowered_code.proofs.Fitting.{numbers_fit}

-- the texts among some expressions, and any before them
themselves : (all : List ℕ) (xs : List TypedTree) → ((n : ℕ) → IsOneOf n (texts_in xs) → IsOneOf n all) → AreIn (λ n. Unit {0}) (λ n. IsOneOf n all) xs
themselves all [] h = tt
themselves all (e.Text u n ∷ rest) h = (h n (inl refl), themselves all rest (λ m i. h m (inr i)))
themselves all (a ∷ rest) h = (tt, themselves all rest h)

pub program_named : (P : TypedProgram) → AllByRecursion (NamesOnly (program_texts P)) (lowered P).functions
program_named P =
    program_has (λ n. Unit {0}) (λ n. IsOneOf n (program_texts P)) (record { zero = tt; one = tt; two = tt; three = tt; twenty = tt }) P
    (themselves (program_texts P) (all_expressions P.functions) (λ n i. i))

pub program_fits : (P : TypedProgram) → IsWellTyped P → AllByRecursion (AllHave (λ n. FitsSigned w32 n) (λ n. Unit {0})) (lowered P).functions
program_fits P well =
    program_has (λ n. FitsSigned w32 n) (λ n. Unit {0})
    (record {
      zero = record { sfits = omega arith };
      one = record { sfits = omega arith };
      two = record { sfits = omega arith };
      three = record { sfits = omega arith };
      twenty = record { sfits = omega arith };
    }) P (numbers_fit P well)
