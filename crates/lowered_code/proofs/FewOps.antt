-- How many ops a function has: each costs one.
use Rattle.std.proofs.Common.{◌≡◌, ℕ, ◌+◌, ◌*◌, ◌≤◌, List, [], ◌∷◌, length, refl, arith, lit≤}
use Rattle.flat_ir.specs.declared.ops.Op.{Op}
use Rattle.sts_syntax.specs.TypedTrees.{TypedRoutine, TypedProgram}
use Rattle.sts_syntax.specs.Weights.{weight, repeating_weight}
use Rattle.sts_lower.specs.Lowered.{routine_ops, repeating_ops}
use Rattle.lowered_code.specs.Costs.{cost, Costs, EntryCosts}
use Rattle.lowered_code.proofs.Sums.{routine_cost}

abbrev one_each : Op → ℕ
one_each op = 1

counted : (ops : List Op) → cost one_each ops ≡ length ops
counted [] = refl
counted (op ∷ ops) = (let h = counted ops in omega (arith, h))

few_each : Costs one_each 3 1
few_each = record {
  number = λ to n. lit≤ tt;
  copy = λ to from. lit≤ tt;
  global = λ to slot. lit≤ tt;
  text = λ to text. lit≤ tt;
  handler = λ to f. lit≤ tt;
  unary = λ to op from. lit≤ tt;
  binary = λ to op left right. lit≤ tt;
  field = λ to object field. lit≤ tt;
  item = λ to array index. lit≤ tt;
  length = λ to array. lit≤ tt;
  pop = λ to array. lit≤ tt;
  branches = λ when target next. lit≤ tt;
  turns = λ when target next back. lit≤ tt;
  append = λ to array value. lit≤ tt;
  array = λ to n. lit≤ tt;
  set_global = λ slot from. lit≤ tt;
  set_field = λ object field from to value. lit≤ tt;
  set_item = λ array index from to value. lit≤ tt;
  bump_field = λ object field from to op value. lit≤ tt;
  bump_item = λ array index from to op value. lit≤ tt;
  call = λ to f t n. omega arith;
  slot = λ to s t n. omega arith;
  ask = λ to s t n. omega arith;
  spawn = λ to f to' t. lit≤ tt;
  super = λ to f t n. omega arith;
  make = λ to class to' f this t n. omega arith;
  declared = λ to n to' from. lit≤ tt;
  declared_global = λ to n slot from. lit≤ tt;
  loop = λ list next operand at out item back n. lit≤ tt;
  gives = λ from. lit≤ tt;
  gives_number = λ to n from. lit≤ tt;
  gives_object = λ to from from'. lit≤ tt;
}

few_at_entry : EntryCosts one_each 3 0
few_at_entry = record {
  number = λ to n from. lit≤ tt;
  object = λ to from from'. lit≤ tt;
}

pub routine_few : (P : TypedProgram) (f : ℕ) (r : TypedRoutine) → length (routine_ops P f r) ≤ 3 * weight r
routine_few P f r =
    let h : cost one_each (routine_ops P f r) + 0 ≤ 3 * weight r = routine_cost one_each 3 1 0 few_each few_at_entry P f r in
    let n : cost one_each (routine_ops P f r) ≡ length (routine_ops P f r) = counted (routine_ops P f r) in
    omega (arith, h, n)

pub repeating_few : (f : ℕ) → length (repeating_ops f) ≤ 3 * repeating_weight
repeating_few f = lit≤ tt
