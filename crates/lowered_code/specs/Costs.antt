-- What the ops of a tree cost at most for its weight, by any measure of ops.
use Rattle.std.specs.Prelude.{ℕ, suc, ◌+◌, ◌*◌, ◌≤◌, ℤ, List, [], ◌∷◌}
use Rattle.board_services.specs.declared.numbers.TheConstants.{SPAWN, PUSH}
use Rattle.sts_syntax.specs.declared.operators.TheConstants.{LESS}
use Rattle.flat_ir.specs.declared.operators.TheConstants.{INCREMENT}
use Rattle.flat_ir.specs.declared.ops.Op.{Op}
use Rattle.flat_ir.specs.declared.ops.Op.TheVariants.{Const, Copy, Unary, Binary, GlobalGet, GlobalSet, FieldGet, FieldSet, ItemGet, ItemSet, Length, Pop, TextOf, MakeObject, MakeArray, Call, CallSlot, HandlerOf, Ask, Jump, Branch, Return}
use Rattle.sts_lower.specs.Code.{span}

-- the sum of what some ops cost
abbrev pub cost : (Op → ℕ) → List Op → ℕ
cost c [] = 0
cost c (op ∷ ops) = c op + cost c ops

-- The bounds: what the ops of one node cost is at most k for each unit of its weight, and so much is left of it as an item of an array takes to go into the array (`room`).
-- The arguments of a call leave as much each.
pub record Costs (c : Op → ℕ) (k room : ℕ) : Type 0 where
  pub number : (to : ℕ) (n : ℤ) → c (Const to n) + room ≤ k
  pub copy : (to from : ℕ) → c (Copy to from) + room ≤ k
  pub global : (to slot : ℕ) → c (GlobalGet to slot) + room ≤ k
  pub text : (to text : ℕ) → c (TextOf to text) + room ≤ k
  pub handler : (to f : ℕ) → c (HandlerOf to f) + room ≤ k
  pub unary : (to op from : ℕ) → c (Unary to op from) + room ≤ k
  pub binary : (to op left right : ℕ) → c (Binary to op left right) + room ≤ k
  pub field : (to object field : ℕ) → c (FieldGet to object field) + room ≤ k
  pub item : (to array index : ℕ) → c (ItemGet to array index) + room ≤ k
  pub length : (to array : ℕ) → c (Length to array) + room ≤ k
  pub pop : (to array : ℕ) → c (Pop to array) + room ≤ k
  pub branches : (when target next : ℕ) → c (Branch when target) + c (Jump next) + room ≤ k
  pub turns : (when target next back : ℕ) → c (Branch when target) + c (Jump next) + c (Jump back) ≤ k
  pub append : (to array value : ℕ) → c (Ask to PUSH (array ∷ (value ∷ []))) ≤ room
  pub array : (to n : ℕ) → c (MakeArray to n) + room ≤ 2 * k
  -- stores, with the copy that leaves the value
  pub set_global : (slot from : ℕ) → c (GlobalSet slot from) + room ≤ k
  pub set_field : (object field from to value : ℕ) → c (FieldSet object field from) + c (Copy to value) + room ≤ 2 * k
  pub set_item : (array index from to value : ℕ) → c (ItemSet array index from) + c (Copy to value) + room ≤ 2 * k
  -- `++` and `--` beyond that
  pub bump_field : (object field from to op value : ℕ)
      → c (FieldSet object field from) + c (Unary to op value) + room ≤ 2 * k
  pub bump_item : (array index from to op value : ℕ)
      → c (ItemSet array index from) + c (Unary to op value) + room ≤ 2 * k
  -- calls with n arguments
  pub call : (to f t n : ℕ) → c (Call to f (span t n [])) + room ≤ k + room * n
  pub slot : (to s t n : ℕ) → c (CallSlot to s (span t n [])) + room ≤ 2 * k + room * n
  pub ask : (to s t n : ℕ) → c (Ask to s (span t n [])) + room ≤ k + room * n
  pub spawn : (to f to' t : ℕ) → c (HandlerOf to f) + c (Ask to' SPAWN (t ∷ [])) + room ≤ k
  pub super : (to f t n : ℕ) → c (Copy to 0) + c (Call to f (span t (suc n) [])) + room ≤ k + room * n
  pub make : (to class to' f this t n : ℕ)
      → c (MakeObject to class) + c (Call to' f (this ∷ span t n [])) + room ≤ 3 * k + room * n
  -- statements
  pub declared : (to : ℕ) (n : ℤ) (to' from : ℕ) → c (Const to n) + c (Copy to' from) ≤ k
  pub declared_global : (to : ℕ) (n : ℤ) (slot from : ℕ) → c (Const to n) + c (GlobalSet slot from) ≤ k
  pub loop : (list next operand at out item back : ℕ) (n : ℤ)
      → c (Copy list operand) + c (Const operand n) + c (Copy next operand) + c (Length operand list)
      + c (Binary operand LESS next operand) + c (Branch operand at) + c (Jump out)
      + c (ItemGet item list next) + c (Unary next INCREMENT next) + c (Jump back) ≤ 4 * k
  pub gives : (from : ℕ) → c (Return from) ≤ k
  pub gives_number : (to : ℕ) (n : ℤ) (from : ℕ) → c (Const to n) + c (Return from) ≤ k
  pub gives_object : (to from from' : ℕ) → c (Copy to from) + c (Return from') ≤ k

-- and what a function's entry costs leaves room for running off its end
pub record EntryCosts (c : Op → ℕ) (k entry : ℕ) : Type 0 where
  pub number : (to : ℕ) (n : ℤ) (from : ℕ) → c (Const to n) + c (Return from) + entry ≤ 4 * k
  pub object : (to from from' : ℕ) → c (Copy to from) + c (Return from') + entry ≤ 4 * k
