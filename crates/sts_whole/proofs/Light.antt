-- The weights of emitted steps are within the list of bounds.
use Rattle.std.proofs.Common.{◌≡◌, ℕ, zero, suc, ◌≤◌, List, [], ◌∷◌, length, Option, Some, None, refl, sym, subst, arith}
use Rattle.std.specs.List.{AllByRecursion}
use Rattle.sts_syntax.specs.TypeRules.{entry}
use Rattle.flat_ir.specs.declared.ops.Op.{Op}
use Rattle.flat_ir.specs.declared.ops.Op.TheVariants.{Const, Copy, Unary, Binary, GlobalGet, GlobalSet, FieldGet, FieldSet, ItemGet, ItemSet, Length, Pop, TextOf, MakeObject, MakeArray, Call, CallSlot, HandlerOf, Ask, Jump, Branch, Return}
use Rattle.flat_ir.specs.declared.ops.Function.{Function}
use Rattle.flat_ir.specs.declared.ops.FlatCode.{FlatCode}
use Rattle.flat_ir.specs.WellFormed.{IsWellFormed, IsFunctionAmong, IsOpWithin, temporaries}
use Rattle.flat_meaning.specs.Frames.{op_of}
use Rattle.lower_simulation.specs.Limits.{limit, IsLight}
use Rattle.emit_simulation.specs.Weights.{weight_at, weight_of}

entry_of_all : {X : Type 0} (P : X → Type 0) (xs : List X) → AllByRecursion P xs → (i : ℕ) (x : X) → entry xs i ≡ Some x → P x
entry_of_all P [] a i x e = absurd cc
entry_of_all P (y ∷ xs) a zero x e = let h : y ≡ x = cc in subst P h a.0
entry_of_all P (y ∷ xs) a (suc i) x e = entry_of_all P xs a.1 i x e

-- few arguments
abbrev HasFew : Op → Type 0
HasFew (Call to function args) = length args ≤ 8
HasFew (CallSlot to slot args) = length args ≤ 8
HasFew (Ask to service args) = length args ≤ 4
HasFew op = Unit {0}

few_of : (n places outgoing : ℕ) (op : Op) → outgoing ≤ 8 → IsOpWithin n places outgoing op → HasFew op
few_of n places o (Call to function args) l w = let a = w.ranges in omega arith
few_of n places o (CallSlot to slot args) l w = let a = w.ranges.1 in omega arith
few_of n places o (Ask to service args) l w = w.ranges.1
few_of n places o (Const to value) l w = tt
few_of n places o (Copy to from) l w = tt
few_of n places o (Unary to op from) l w = tt
few_of n places o (Binary to op left right) l w = tt
few_of n places o (GlobalGet to slot) l w = tt
few_of n places o (GlobalSet slot from) l w = tt
few_of n places o (FieldGet to object field) l w = tt
few_of n places o (FieldSet object field from) l w = tt
few_of n places o (ItemGet to array index) l w = tt
few_of n places o (ItemSet array index from) l w = tt
few_of n places o (Length to array) l w = tt
few_of n places o (Pop to array) l w = tt
few_of n places o (TextOf to text) l w = tt
few_of n places o (MakeObject to class) l w = tt
few_of n places o (MakeArray to room) l w = tt
few_of n places o (HandlerOf to function) l w = tt
few_of n places o (Jump target) l w = tt
few_of n places o (Branch when target) l w = tt
few_of n places o (Return from) l w = tt

op_light : (op : Op) → HasFew op → weight_at (Some op) ≤ limit op
op_light (Call to function args) h = omega arith
op_light (CallSlot to slot args) h = omega arith
op_light (Ask to service args) h = omega arith
op_light op h = omega arith

found_few : (C : FlatCode) → IsWellFormed C → (found : Option Function) → ((g : Function) → found ≡ Some g → IsFunctionAmong (length C.functions) (length C.classes) g)
    → (place : ℕ) (op : Op) → op_of found place ≡ Some op → HasFew op
found_few C w None all place op e = absurd cc
found_few C w (Some g) all place op e =
    let a = (all g refl).alone in
    few_of (temporaries g) (length g.ops) g.outgoing op a.outgoing (entry_of_all (IsOpWithin (temporaries g) (length g.ops) g.outgoing) g.ops a.ops place op e)

-- of well-formed code
pub weights_light : (C : FlatCode) → IsWellFormed C → IsLight C (weight_of C)
weights_light C w = record {
  enters = λ f base h. omega arith;
  ops = λ f callers base h op e. (
      let few = found_few C w (entry C.functions f.function) (λ g q. entry_of_all (IsFunctionAmong (length C.functions) (length C.classes)) C.functions w.functions f.function g q) f.place op e in
      subst (λ (o : Option Op). weight_at o ≤ limit op) (sym e) (op_light op few));
}
