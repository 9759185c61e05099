-- The table of bytes keeps the bounds of one node.
use Rattle.std.proofs.Common.{◌≡◌, ℕ, zero, suc, ◌+◌, ◌*◌, List, [], ◌∷◌, length, refl, arith}
use Rattle.flat_ir.specs.declared.ops.Op.{Op}
use Rattle.sts_lower.specs.Code.{span}
use Rattle.lowered_code.specs.Costs.{cost, Costs, EntryCosts}
use Rattle.thumb_emit.specs.Bounds.{ops_bytes, bytes_of_text, bytes_of_weight, entry_bytes}
use Rattle.emitted_bytes.specs.Weighed.{bytes_of_room, texts_named, full_bytes}

pub ops_cost : (ops : List Op) → ops_bytes ops + bytes_of_text * cost texts_named ops ≡ cost full_bytes ops
ops_cost [] = refl
ops_cost (op ∷ ops) = (let h = ops_cost ops in omega (arith, h))

span_long : (t n : ℕ) (rest : List ℕ) → length (span t n rest) ≡ n + length rest
span_long t zero rest = omega arith
span_long t (suc n) rest = omega (arith, span_long t n ((t + n) ∷ rest))

pub rows_cost : Costs full_bytes bytes_of_weight bytes_of_room
rows_cost = record {
  number = λ to n. omega arith;
  copy = λ to from. omega arith;
  global = λ to slot. omega arith;
  text = λ to text. omega arith;
  handler = λ to f. omega arith;
  unary = λ to op from. omega arith;
  binary = λ to op left right. omega arith;
  field = λ to object field. omega arith;
  item = λ to array index. omega arith;
  length = λ to array. omega arith;
  pop = λ to array. omega arith;
  branches = λ when target next. omega arith;
  turns = λ when target next back. omega arith;
  append = λ to array value. omega arith;
  array = λ to n. omega arith;
  set_global = λ slot from. omega arith;
  set_field = λ object field from to value. omega arith;
  set_item = λ array index from to value. omega arith;
  bump_field = λ object field from to op value. omega arith;
  bump_item = λ array index from to op value. omega arith;
  call = λ to f t n. (let a = span_long t n [] in omega (arith, a));
  slot = λ to s t n. (let a = span_long t n [] in omega (arith, a));
  ask = λ to s t n. (let a = span_long t n [] in omega (arith, a));
  spawn = λ to f to' t. omega arith;
  super = λ to f t n. (let a = span_long t (suc n) [] in omega (arith, a));
  make = λ to class to' f this t n. (let a = span_long t n [] in omega (arith, a));
  declared = λ to n to' from. omega arith;
  declared_global = λ to n slot from. omega arith;
  loop = λ list next operand at out item back n. omega arith;
  gives = λ from. omega arith;
  gives_number = λ to n from. omega arith;
  gives_object = λ to from from'. omega arith;
}

pub entry_costs : EntryCosts full_bytes bytes_of_weight entry_bytes
entry_costs = record {
  number = λ to n from. omega arith;
  object = λ to from from'. omega arith;
}
