-- What holds of the pieces of comparisons and branches, joined or not.
use Rattle.std.proofs.Common.{◌≡◌, ℕ, zero, suc, ◌<◌, ◌==◌, not, ◌&&◌, Option, Some, None, List, [], ◌∷◌, slice_get, refl, arith}
use Rattle.thumb_code.specs.declared.instructions.Instr.{Instr}
use Rattle.thumb_code.specs.declared.instructions.Instr.TheVariants.{CmpImm}
use Rattle.thumb_layout.specs.declared.pieces.Piece.{Piece}
use Rattle.thumb_layout.specs.declared.pieces.Piece.TheVariants.{Plain, Go}
use Rattle.flat_ir.specs.declared.ops.Op.{Op}
use Rattle.flat_ir.specs.declared.ops.Op.TheVariants.{Const, Copy, Unary, Binary, GlobalGet, GlobalSet, FieldGet, FieldSet, ItemGet, ItemSet, Length, Pop, TextOf, MakeObject, MakeArray, Call, CallSlot, HandlerOf, Ask, Jump, Branch, Return}
use Rattle.flat_ir.specs.declared.ops.Function.{Function}
use Rattle.register_assign.specs.Unread.{is_unread}
use Rattle.thumb_emit.specs.Joined.{unequal, condition_of_operator, condition_of, condition_for, condition_between, is_gone_to, joined_by}
use Rattle.thumb_emit.specs.Emit.{test_pieces, branch_pieces}
use Rattle.thumb_emit.proofs.Lists.{if_has}

pub tests_has : (P : List Piece → Type 0) (o : Option ℕ) (x : Instr) (xs : List Piece) → P (Plain x ∷ []) → P xs → P (test_pieces o x xs)
tests_has P (Some c) x xs p q = p
tests_has P None x xs p q = q

pub branches_has : (P : List Piece → Type 0) (o : Option ℕ) (brought : Piece) (r label : ℕ) → ((c : ℕ) → o ≡ Some c → P (Go c label ∷ []))
    → P (brought ∷ Plain (CmpImm r 0) ∷ Go unequal label ∷ []) → P (branch_pieces o brought r label)
branches_has P (Some c) brought r label p q = p c refl
branches_has P None brought r label p q = q

-- A CONDITION is one of the first 14
abbrev IsSmall : Option ℕ → Type 0
IsSmall o = (c : ℕ) → o ≡ Some c → c < 14

some_small : (n : ℕ) → n < 14 → IsSmall (Some n)
some_small n l c e = let z : n ≡ c = cc in omega arith

none_small : IsSmall None
none_small c e = absurd (cc)

operator_small : (op : ℕ) → IsSmall (condition_of_operator op)
operator_small op =
    if_has IsSmall (op == 4) _ _ (some_small 0 (omega arith))
    (if_has IsSmall (op == 5) _ _ (some_small 1 (omega arith))
    (if_has IsSmall (op == 6) _ _ (some_small 11 (omega arith))
    (if_has IsSmall (op == 7) _ _ (some_small 12 (omega arith))
    (if_has IsSmall (op == 8) _ _ (some_small 13 (omega arith))
    (if_has IsSmall (op == 9) _ _ (some_small 10 (omega arith)) none_small)))))

of_small : (when : ℕ) (op : Op) → IsSmall (condition_of when op)
of_small when (Unary to op from) = if_has IsSmall ((to == when) && (op == 3)) _ _ (some_small 0 (omega arith)) none_small
of_small when (Binary to op left right) = if_has IsSmall (to == when) _ _ (operator_small op) none_small
of_small when (Const to value) = none_small
of_small when (Copy to from) = none_small
of_small when (GlobalGet to slot) = none_small
of_small when (GlobalSet slot from) = none_small
of_small when (FieldGet to object field) = none_small
of_small when (FieldSet object field from) = none_small
of_small when (ItemGet to array index) = none_small
of_small when (ItemSet array index from) = none_small
of_small when (Length to array) = none_small
of_small when (Pop to array) = none_small
of_small when (TextOf to text) = none_small
of_small when (MakeObject to class) = none_small
of_small when (MakeArray to room) = none_small
of_small when (Call to function args) = none_small
of_small when (CallSlot to slot args) = none_small
of_small when (HandlerOf to function) = none_small
of_small when (Ask to service args) = none_small
of_small when (Jump target) = none_small
of_small when (Branch test target) = none_small
of_small when (Return from) = none_small

for_small : (op next : Op) → IsSmall (condition_for op next)
for_small op (Branch when target) = of_small when op
for_small op (Const to value) = none_small
for_small op (Copy to from) = none_small
for_small op (Unary to o from) = none_small
for_small op (Binary to o left right) = none_small
for_small op (GlobalGet to slot) = none_small
for_small op (GlobalSet slot from) = none_small
for_small op (FieldGet to object field) = none_small
for_small op (FieldSet object field from) = none_small
for_small op (ItemGet to array index) = none_small
for_small op (ItemSet array index from) = none_small
for_small op (Length to array) = none_small
for_small op (Pop to array) = none_small
for_small op (TextOf to text) = none_small
for_small op (MakeObject to class) = none_small
for_small op (MakeArray to room) = none_small
for_small op (Call to function args) = none_small
for_small op (CallSlot to slot args) = none_small
for_small op (HandlerOf to function) = none_small
for_small op (Ask to service args) = none_small
for_small op (Jump target) = none_small
for_small op (Return from) = none_small

between_small : (o next : Option Op) → IsSmall (condition_between o next)
between_small (Some op) (Some next) = for_small op next
between_small (Some op) None = none_small
between_small None next = none_small

pub joined_small : (f : Function) (at c : ℕ) → joined_by f at ≡ Some c → c < 14
unfolding joined_by
joined_small f zero c e = absurd (cc)
joined_small f (suc k) c e =
    if_has IsSmall (is_unread f (suc k) && not (is_gone_to f.ops (suc k))) _ _ (between_small (slice_get f.ops k) (slice_get f.ops (suc k))) none_small c e
