-- What stands in headings takes tokens.
use Rattle.std.proofs.Common.{ℕ, zero, suc, ◌+◌, ◌<◌, ◌≤◌, List, [], ◌∷◌, length, arith, inl, inr}
use Rattle.std.specs.Prelude.{Bool, true, false, Option, Some, None}
use Rattle.sts_syntax.specs.Annotations.{Annotation, Number, Boolean, Text, Nothing, Named, ListOf}
use Rattle.sts_syntax.specs.Trees.{Parameter, Tree}
use Rattle.sts_grammar.specs.Source.{Source}
use Rattle.sts_grammar.specs.Ends.{Ends}
use Rattle.sts_grammar.specs.Headings.{IsType, IsResult, HasType, HasResult, MoreParameters, AreParameters}
use Rattle.sts_grammar.specs.Operands.{Stands, IsWrapped, IsOperand, HasArrow, IsRoutine}

type_after : (s : Source) (annotation : Annotation) (i j : ℕ) → IsType s annotation i j → i ≤ j
type_after s (ListOf item) i j h = (let a = type_after s item i h.0 h.1 in omega (arith, a, h.5))
type_after s Number i j h = omega (arith, h.1)
type_after s Boolean i j h = omega (arith, h.1)
type_after s Text i j h = omega (arith, h.1)
type_after s (Named at name) i j h = omega (arith, h.1)
type_after s Nothing i j h = omega (arith, h.1)

result_after : (s : Source) (annotation : Annotation) (i j : ℕ) → IsResult s annotation i j → i ≤ j
result_after s Nothing i j h = omega (arith, h.1)
result_after s Number i j h = type_after s Number i j h
result_after s Boolean i j h = type_after s Boolean i j h
result_after s Text i j h = type_after s Text i j h
result_after s (Named at name) i j h = type_after s (Named at name) i j h
result_after s (ListOf item) i j h = type_after s (ListOf item) i j h

pub has_type_after : (s : Source) (shape : Option Annotation) (i j : ℕ) → HasType s shape i j → i ≤ j
has_type_after s None i j h = omega (arith, h)
has_type_after s (Some annotation) i j h = (let a = type_after s annotation (i + 1) j h.1 in omega (arith, a))

has_result_after : (s : Source) (gives : Option Annotation) (i j : ℕ) → HasResult s gives i j → i ≤ j
has_result_after s None i j h = omega (arith, h)
has_result_after s (Some annotation) i j h = (let a = result_after s annotation (i + 1) j h.1 in omega (arith, a))

more_parameters_over : (s : Source) (all : List Parameter) (i j : ℕ) → MoreParameters s all i j → i + length all ≤ j
more_parameters_over s [] i j h = omega (arith, h.1)
more_parameters_over s (p ∷ rest) i j h =
    let a = has_type_after s p.shape (i + 1 + 1) h.0 h.2.2 in
    let b = more_parameters_over s rest h.0 j h.3 in
    omega (arith, a, b)

parameters_over : (s : Source) (all : List Parameter) (i j : ℕ) → AreParameters s all i j → i + length all ≤ j
parameters_over s [] i j h = omega (arith, h.1)
parameters_over s (p ∷ rest) i j h =
    let a = has_type_after s p.shape (i + 1) h.0 h.1.2 in
    let b = more_parameters_over s rest h.0 j h.2 in
    omega (arith, a, b)

arrow_after : (s : Source) (arrow : Bool) (i j : ℕ) → HasArrow s arrow i j → i ≤ j
arrow_after s false i j h = omega (arith, h)
arrow_after s true i j h = omega (arith, h.1)

pub ends_after : (s : Source) (goes_on : Bool) (i j : ℕ) → Ends s goes_on i j → i ≤ j
ends_after s goes_on i j (inl h) = omega (arith, h.1)
ends_after s goes_on i j (inr h) = omega (arith, h.1)

-- what stands in parentheses takes as many tokens as without, and more
wrapped_over : (s : Source) (n p : ℕ) (P : Stands) → ((i j : ℕ) → P i j → i + n < j) → (i j : ℕ) → IsWrapped s p P i j → i + n < j
wrapped_over s n zero P over i j h = over i j h
wrapped_over s n (suc p) P over i j h = (let a = wrapped_over s n p P over (i + 1) h.0 h.2 in omega (arith, a, h.4))

pub operand_over : (s : Source) (n l : ℕ) (e : Tree) (P : Stands) → ((i j : ℕ) → P i j → i + n < j) → (i j : ℕ) → IsOperand s l e P i j → i + n < j
operand_over s n l e P over i j h = wrapped_over s n h.0 P over i j h.1

-- a routine has two tokens and its parameters before what stands in its block
pub routine_over : (s : Source) (n : ℕ) (params : List Parameter) (gives : Option Annotation) (arrow : Bool) (P : Stands) → ((i j : ℕ) → P i j → i + n < j)
    → (i j : ℕ) → IsRoutine s params gives arrow P i j → i + suc (length params + n) < j
routine_over s n params gives arrow P over i j h =
    let a = parameters_over s params (i + 1) h.0 h.4 in
    let b = has_result_after s gives h.0 h.1 h.5 in
    let c = arrow_after s arrow h.1 h.2 h.6 in
    let d = over (h.2 + 1) j h.8 in
    omega (arith, a, b, c, d)
