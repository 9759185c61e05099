-- Trees whose code is large for their weight, or deep.
use Rattle.std.specs.Prelude.{ℕ, zero, suc, false, true, List, [], ◌∷◌, Some, length}
use Rattle.sts_syntax.specs.declared.operators.TheConstants.{NOT, ADD}
use Rattle.sts_syntax.specs.declared.typed.Spot.TheVariants.{Local}
use Rattle.sts_syntax.specs.Types as t
use Rattle.sts_syntax.specs.TypedTrees as e
use Rattle.sts_syntax.specs.TypedTrees.{TypedTree, TypedStatement}
use Rattle.sts_meaning.specs.Forms.{args, num, local}
use Rattle.sts_lower.specs.Code.{code}
use Rattle.sts_lower.specs.Statements.{statement_code}

-- how many ops an expression and a statement have, in a function of a program without classes
abbrev pub ops_in : TypedTree → ℕ
ops_in a = length (code [] (λ f. f) 0 3 a 0 0 0)

abbrev pub ops_in_statement : TypedStatement → ℕ
ops_in_statement a = length (statement_code [] (λ f. f) 0 3 false a 0 0 0 0)

-- new C(1, 2, 3, 4, 5, 6, 7)
abbrev pub seven_arguments : TypedTree
seven_arguments = e.Make (t.Object 0) 0 (args (num 1 ∷ (num 2 ∷ (num 3 ∷ (num 4 ∷ (num 5 ∷ (num 6 ∷ (num 7 ∷ []))))))))

-- a[i] += 1
abbrev pub added_to_an_item : TypedTree
added_to_an_item = e.Set t.Number (Some ADD) (e.Item t.Number (local (t.ListOf t.Number) 0) (local t.Number 1)) (num 1)

-- for (let x of a) { }
abbrev pub empty_turns : TypedStatement
empty_turns = e.ForOf false (Local 0) (local (t.ListOf t.Number) 3) (e.Block e.done)

-- !!..!true
abbrev pub negated : ℕ → TypedTree
negated zero = e.Truth t.Boolean true
negated (suc n) = e.Unary t.Boolean NOT (negated n)

-- if (true) if (true) .. ;
abbrev pub nested : ℕ → TypedStatement
nested zero = e.Empty
nested (suc n) = e.IfOnly (e.Truth t.Boolean true) (nested n)
