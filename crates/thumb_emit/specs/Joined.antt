-- Which branches are joined with the comparison before them: it sets the flags alone, and the branch goes by these.
use Rattle.std.specs.Prelude.{ℕ, zero, suc, Bool, not, ◌&&◌, ◌==◌, if◌then◌else◌, Option, Some, None, List, slice_get}
use Rattle.std.specs.List.{list_any}
use Rattle.sts_syntax.specs.declared.operators.TheConstants.{NOT, EQUAL, UNEQUAL, LESS, GREATER, AT_MOST, AT_LEAST}
use Rattle.flat_ir.specs.declared.ops.Op.{Op}
use Rattle.flat_ir.specs.declared.ops.Op.TheVariants.{Unary, Binary, Branch}
use Rattle.flat_ir.specs.declared.ops.Function.{Function}
use Rattle.flat_ir.specs.Ops.{target_of}
use Rattle.register_assign.specs.Marks.{is_the}
use Rattle.register_assign.specs.Unread.{is_unread}

-- conditions of branches (ARM DDI 0419, table A6-1)
abbrev pub equal : ℕ
equal = 0

abbrev pub unequal : ℕ
unequal = 1

abbrev pub at_least_unsigned : ℕ
at_least_unsigned = 2

abbrev pub below_unsigned : ℕ
below_unsigned = 3

abbrev pub at_least : ℕ
at_least = 10

abbrev pub less : ℕ
less = 11

abbrev pub greater : ℕ
greater = 12

abbrev pub at_most : ℕ
at_most = 13

-- the condition that holds after a comparison where an operator gives 1, if it compares
abbrev pub condition_of_operator : ℕ → Option ℕ
condition_of_operator op =
    if op == EQUAL then Some equal
    else if op == UNEQUAL then Some unequal
    else if op == LESS then Some less
    else if op == GREATER then Some greater
    else if op == AT_MOST then Some at_most
    else if op == AT_LEAST then Some at_least
    else None

-- so of an op whose result is a temporary; `!` compares with 0
abbrev pub condition_of : ℕ → Op → Option ℕ
condition_of when (Unary to op from) = if (to == when) && (op == NOT) then Some equal else None
condition_of when (Binary to op left right) = if to == when then condition_of_operator op else None
condition_of when op = None

-- so of an op and the branch after it, which tests the op's result
abbrev pub condition_for : Op → Op → Option ℕ
condition_for op (Branch when target) = condition_of when op
condition_for op next = None

abbrev pub condition_between : Option Op → Option Op → Option ℕ
condition_between (Some op) (Some next) = condition_for op next
condition_between op next = None

-- some op goes to a place
abbrev pub is_gone_to : List Op → ℕ → Bool
is_gone_to ops at = list_any (λ op. is_the at (target_of op)) ops

-- THE CONDITION on which the branch at a place goes, where it is joined with the op right before it: that compares,
-- the branch tests its result, nobody reads that after the branch, and no op goes to the branch.
unfoldable pub joined_by : Function → ℕ → Option ℕ
joined_by f zero = None
joined_by f (suc k) =
    if is_unread f (suc k) && not (is_gone_to f.ops (suc k))
    then condition_between (slice_get f.ops k) (slice_get f.ops (suc k)) else None
