-- What the pieces of an op and of an entry take at most.
use Rattle.std.proofs.Common.{◌≡◌, ℕ, zero, suc, ◌+◌, ◌*◌, ◌<◌, ◌≤◌, Bool, true, false, ◌||◌, nat_lt, List, [], ◌∷◌, ◌++◌, length, refl, ap, sym, ◌∙◌, add_assoc, zero-add, arith}
use Rattle.thumb_code.specs.declared.instructions.Instr.TheVariants.{Pop as PopMany}
use Rattle.thumb_layout.specs.declared.pieces.Piece.{Piece}
use Rattle.thumb_layout.specs.declared.pieces.Piece.TheVariants.{Plain, CallTo}
use Rattle.thumb_layout.specs.Holds.{cost}
use Rattle.thumb_layout.specs.Rounds.{most, total_most, counted, has_bytes}
use Rattle.flat_ir.specs.declared.ops.Op.{Op}
use Rattle.flat_ir.specs.declared.ops.Op.TheVariants.{Const, Copy, Unary, Binary, GlobalGet, GlobalSet, FieldGet, FieldSet, ItemGet, ItemSet, Length, Pop, TextOf, MakeObject, MakeArray, Call, CallSlot, HandlerOf, Ask, Jump, Branch, Return}
use Rattle.flat_ir.specs.declared.ops.Function.{Function}
use Rattle.register_assign.specs.declared.places.Place.{Place}
use Rattle.register_assign.specs.declared.places.Placed.{Placed}
use Rattle.register_assign.specs.Sound.{place_of}
use Rattle.register_assign.specs.Unread.{is_unread}
use Rattle.register_assign.specs.declared.places.Place.TheVariants.{Reg, Slot, Incoming}
use Rattle.thumb_emit.specs.Frame.{copies, carries, lowers, below_saved, saved_list}
use Rattle.thumb_emit.specs.Emit.{get, its_register, bring, made_in, keep, land, passes, loads, op_pieces, beside, tests_null, asks, answers_in_r0, calls_slot, move_pieces, moves_pieces, entry_pieces, ops_pieces, function_pieces}
use Rattle.thumb_emit.specs.Bounds.{total_cost, op_cost, op_bytes, ops_bytes, entry_cost, entry_bytes}
use Rattle.thumb_emit.specs.Joined.{joined_by}
use Rattle.thumb_emit.proofs.Lists.{if_has, cost_append, most_append}
use Rattle.thumb_emit.proofs.Joins.{tests_has, branches_has}
use Rattle.thumb_emit.proofs.Still.{brings_still, keeps_still, lands_still, moves_still, still_takes, still_fills}
use Rattle.thumb_emit.proofs.Operators.{unary_has, binary_has}

module _ (f : Function) (place : ℕ → Place) where
  -- instructions
  takes_bring : (scratch t : ℕ) → cost (bring f place scratch t) ≤ 2
  takes_bring scratch t = still_takes f _ (brings_still f scratch (place t))

  takes_keep : (k t : ℕ) → cost (keep f place k t) ≤ 2
  takes_keep k t = still_takes f _ (keeps_still f (is_unread f k) (place t))

  takes_land : (k t : ℕ) → cost (land f place k t) ≤ 2
  takes_land k t = still_takes f _ (lands_still f (is_unread f k) (place t))

  takes_step : (rd rs : ℕ) → cost (carries f rd rs) ≤ 2
  takes_step rd rs = still_takes f _ (moves_still f rd rs)

  takes_copies : (unread : Bool) (q p : Place) → total_cost (copies f unread q p) ≤ 4
  takes_copies true q p = omega arith
  takes_copies false (Reg r) p = omega arith
  takes_copies false (Slot j) p = let a = still_takes f _ (brings_still f 0 p) in omega arith
  takes_copies false (Incoming j) p = let a = still_takes f _ (brings_still f 0 p) in omega arith

  takes_passes : (k : ℕ) (ts : List ℕ) → total_cost (passes f place k ts) ≤ 4 * length ts
  takes_passes k [] = omega arith
  takes_passes k (t ∷ ts) = let h = takes_passes (k + 1) ts in let b = takes_bring 0 t in omega (arith, h, b)

  takes_loads : (k : ℕ) (ts : List ℕ) → total_cost (loads f place k ts) ≡ 2 * length ts
  takes_loads k [] = refl
  takes_loads k (t ∷ ts) = let h = takes_loads (k + 1) ts in omega (arith, h)

  pub op_takes : (k : ℕ) (op : Op) → total_cost (op_pieces f place k op) ≤ op_cost op
  op_takes k (Unary to op from) =
      let a = takes_bring 0 from in let b = takes_keep k to in let rd = made_in f place k to in
      tests_has (λ xs. total_cost (bring f place 0 from ∷ xs) ≤ 15) (joined_by f (suc k)) _ _ (omega arith)
      (unary_has (λ xs. total_cost (bring f place 0 from ∷ xs ++ (keep f place k to ∷ [])) ≤ 15) f rd op (3 * k + 1) (λ x. omega arith)
      (λ by x cond. let m = takes_step rd by in omega arith) (its_register f place 0 from))
  op_takes k (Binary to op left right) =
      let a = takes_bring 0 left in let c = takes_bring 1 right in let b = takes_keep k to in
      let rd = made_in f place k to in let l = its_register f place 0 left in let r = its_register f place 1 right in
      tests_has (λ xs. total_cost (bring f place 0 left ∷ bring f place 1 right ∷ xs) ≤ 17) (joined_by f (suc k)) _ _ (omega arith)
      (binary_has (λ xs. total_cost (bring f place 0 left ∷ bring f place 1 right ∷ xs ++ (keep f place k to ∷ [])) ≤ 17) f rd op (3 * k + 1)
      (λ x. omega arith) (λ by x cond. let m = takes_step rd by in omega arith) l r
      (λ x. let m = takes_step (beside 2 rd r) l in let n = takes_step rd (beside 2 rd r) in omega arith)
      (λ x. let m = takes_step rd l in omega arith)
      (λ answer. let m = takes_step 0 l in let n = takes_step 1 r in let q = takes_step rd answer in omega arith))
  op_takes k (FieldGet to object field) =
      let a = takes_bring 0 object in let b = takes_keep k to in
      if_has (λ xs. total_cost (bring f place 0 object ∷ tests_null (its_register f place 0 object) (3 * k + 1) ++ (xs ++ (keep f place k to ∷ []))) ≤ 17) (nat_lt field 31) _ _ (omega arith) (omega arith)
  op_takes k (FieldSet object field from) =
      let a = takes_bring 0 object in let b = takes_bring 1 from in
      if_has (λ xs. total_cost (bring f place 0 object ∷ tests_null (its_register f place 0 object) (3 * k + 1) ++ (bring f place 1 from ∷ xs)) ≤ 17) (nat_lt field 31) _ _ (omega arith) (omega arith)
  op_takes k (Call to function args) = let a = cost_append (passes f place 0 args) (CallTo function ∷ land f place k to ∷ []) in let b = takes_passes 0 args in let d = takes_land k to in omega (arith, a, b, d)
  op_takes k (CallSlot to slot args) = let a = cost_append (passes f place 0 args) (calls_slot slot (3 * k + 1) ++ (land f place k to ∷ [])) in let b = takes_passes 0 args in let d = takes_land k to in omega (arith, a, b, d)
  op_takes k (Ask to service args) =
      let a = cost_append (loads f place 0 args) (asks (is_unread f k) service ++ (land f place k to ∷ [])) in let b = takes_loads 0 args in let d = takes_land k to in
      let c : total_cost (asks (is_unread f k) service ++ (land f place k to ∷ [])) ≤ 6 = if_has (λ xs. total_cost (xs ++ (land f place k to ∷ [])) ≤ 6) (is_unread f k || answers_in_r0 service) _ _ (omega arith) (omega arith) in
      omega (arith, a, b, c)
  op_takes k (Return from) = if_has (λ xs. total_cost (get f place 0 from ∷ xs ++ (Plain (PopMany (saved_list f place) true) ∷ [])) ≤ 8) (nat_lt 127 (below_saved f place)) _ _ (omega arith) (omega arith)
  op_takes k (Const to value) = let x0 = takes_keep k to in omega arith
  op_takes k (Copy to from) = takes_copies (is_unread f k) (place to) (place from)
  op_takes k (GlobalGet to slot) = let x0 = takes_keep k to in omega arith
  op_takes k (GlobalSet slot from) = let x0 = takes_bring 0 from in omega arith
  op_takes k (ItemGet to array index) = let x0 = takes_bring 0 array in let x1 = takes_bring 1 index in let x2 = takes_keep k to in omega arith
  op_takes k (ItemSet array index from) = let x0 = takes_bring 0 array in let x1 = takes_bring 1 index in let x2 = takes_bring 3 from in omega arith
  op_takes k (Length to array) = let x0 = takes_bring 0 array in let x1 = takes_keep k to in omega arith
  op_takes k (Pop to array) = let x0 = takes_bring 0 array in let x1 = takes_keep k to in omega arith
  op_takes k (TextOf to text) = let x0 = takes_keep k to in omega arith
  op_takes k (MakeObject to class) = let x0 = takes_land k to in omega arith
  op_takes k (MakeArray to room) = let x0 = takes_land k to in omega arith
  op_takes k (HandlerOf to function) = let x0 = takes_keep k to in omega arith
  op_takes k (Jump target) = omega arith
  op_takes k (Branch when target) =
      let x0 = takes_bring 0 when in branches_has (λ xs. total_cost xs ≤ 7) (joined_by f k) _ _ _ (λ c e. omega arith) (omega arith)

  takes_move : (p : Place) (t : ℕ) → total_cost (move_pieces f place p t) ≤ 4
  takes_move (Incoming j) t = omega arith
  takes_move (Reg r) t = omega arith
  takes_move (Slot j) t = omega arith

  takes_moves : (t n : ℕ) → total_cost (moves_pieces f place t n) ≤ 4 * n
  takes_moves t zero = omega arith
  takes_moves t (suc n) = let a = cost_append (move_pieces f place (place t) t) (moves_pieces f place (t + 1) n) in let b = takes_move (place t) t in let c = takes_moves (t + 1) n in omega (arith, a, b, c)

  pub entry_takes : f.params ≤ 8 → total_cost (entry_pieces f place) ≤ entry_cost
  entry_takes h =
      let a = cost_append (lowers (below_saved f place)) (moves_pieces f place 0 f.params) in let b = takes_moves 0 f.params in
      let c : total_cost (lowers (below_saved f place)) ≤ 4 = if_has (λ xs. total_cost xs ≤ 4) (nat_lt 127 (below_saved f place)) _ _ (omega arith) (omega arith) in
      omega (arith, a, b, c)

  -- bytes
  fills_bring : (scratch t : ℕ) → most (bring f place scratch t) ≤ 2
  fills_bring scratch t = still_fills f _ (brings_still f scratch (place t))

  fills_keep : (k t : ℕ) → most (keep f place k t) ≤ 2
  fills_keep k t = still_fills f _ (keeps_still f (is_unread f k) (place t))

  fills_land : (k t : ℕ) → most (land f place k t) ≤ 2
  fills_land k t = still_fills f _ (lands_still f (is_unread f k) (place t))

  fills_step : (rd rs : ℕ) → most (carries f rd rs) ≤ 2
  fills_step rd rs = still_fills f _ (moves_still f rd rs)

  fills_copies : (unread : Bool) (q p : Place) → total_most (copies f unread q p) ≤ 4
  fills_copies true q p = omega arith
  fills_copies false (Reg r) p = omega arith
  fills_copies false (Slot j) p = let a = still_fills f _ (brings_still f 0 p) in omega arith
  fills_copies false (Incoming j) p = let a = still_fills f _ (brings_still f 0 p) in omega arith

  fills_passes : (k : ℕ) (ts : List ℕ) → total_most (passes f place k ts) ≤ 4 * length ts
  fills_passes k [] = omega arith
  fills_passes k (t ∷ ts) = let h = fills_passes (k + 1) ts in let b = fills_bring 0 t in omega (arith, h, b)

  fills_loads : (k : ℕ) (ts : List ℕ) → total_most (loads f place k ts) ≡ 2 * length ts
  fills_loads k [] = refl
  fills_loads k (t ∷ ts) = let h = fills_loads (k + 1) ts in omega (arith, h)

  pub op_fills : (k : ℕ) (op : Op) → total_most (op_pieces f place k op) ≤ op_bytes op
  op_fills k (Unary to op from) =
      let a = fills_bring 0 from in let b = fills_keep k to in let rd = made_in f place k to in
      tests_has (λ xs. total_most (bring f place 0 from ∷ xs) ≤ 18) (joined_by f (suc k)) _ _ (omega arith)
      (unary_has (λ xs. total_most (bring f place 0 from ∷ xs ++ (keep f place k to ∷ [])) ≤ 18) f rd op (3 * k + 1) (λ x. omega arith)
      (λ by x cond. let m = fills_step rd by in omega arith) (its_register f place 0 from))
  op_fills k (Binary to op left right) =
      let a = fills_bring 0 left in let c = fills_bring 1 right in let b = fills_keep k to in
      let rd = made_in f place k to in let l = its_register f place 0 left in let r = its_register f place 1 right in
      tests_has (λ xs. total_most (bring f place 0 left ∷ bring f place 1 right ∷ xs) ≤ 20) (joined_by f (suc k)) _ _ (omega arith)
      (binary_has (λ xs. total_most (bring f place 0 left ∷ bring f place 1 right ∷ xs ++ (keep f place k to ∷ [])) ≤ 20) f rd op (3 * k + 1)
      (λ x. omega arith) (λ by x cond. let m = fills_step rd by in omega arith) l r
      (λ x. let m = fills_step (beside 2 rd r) l in let n = fills_step rd (beside 2 rd r) in omega arith)
      (λ x. let m = fills_step rd l in omega arith)
      (λ answer. let m = fills_step 0 l in let n = fills_step 1 r in let q = fills_step rd answer in omega arith))
  op_fills k (FieldGet to object field) =
      let a = fills_bring 0 object in let b = fills_keep k to in
      if_has (λ xs. total_most (bring f place 0 object ∷ tests_null (its_register f place 0 object) (3 * k + 1) ++ (xs ++ (keep f place k to ∷ []))) ≤ 28) (nat_lt field 31) _ _ (omega arith) (omega arith)
  op_fills k (FieldSet object field from) =
      let a = fills_bring 0 object in let b = fills_bring 1 from in
      if_has (λ xs. total_most (bring f place 0 object ∷ tests_null (its_register f place 0 object) (3 * k + 1) ++ (bring f place 1 from ∷ xs)) ≤ 28) (nat_lt field 31) _ _ (omega arith) (omega arith)
  op_fills k (Call to function args) = let a = most_append (passes f place 0 args) (CallTo function ∷ land f place k to ∷ []) in let b = fills_passes 0 args in let d = fills_land k to in omega (arith, a, b, d)
  op_fills k (CallSlot to slot args) = let a = most_append (passes f place 0 args) (calls_slot slot (3 * k + 1) ++ (land f place k to ∷ [])) in let b = fills_passes 0 args in let d = fills_land k to in omega (arith, a, b, d)
  op_fills k (Ask to service args) =
      let a = most_append (loads f place 0 args) (asks (is_unread f k) service ++ (land f place k to ∷ [])) in let b = fills_loads 0 args in let d = fills_land k to in
      let c : total_most (asks (is_unread f k) service ++ (land f place k to ∷ [])) ≤ 6 = if_has (λ xs. total_most (xs ++ (land f place k to ∷ [])) ≤ 6) (is_unread f k || answers_in_r0 service) _ _ (omega arith) (omega arith) in
      omega (arith, a, b, c)
  op_fills k (Return from) = if_has (λ xs. total_most (get f place 0 from ∷ xs ++ (Plain (PopMany (saved_list f place) true) ∷ [])) ≤ 8) (nat_lt 127 (below_saved f place)) _ _ (omega arith) (omega arith)
  op_fills k (Const to value) = let x0 = fills_keep k to in omega arith
  op_fills k (Copy to from) = fills_copies (is_unread f k) (place to) (place from)
  op_fills k (GlobalGet to slot) = let x0 = fills_keep k to in omega arith
  op_fills k (GlobalSet slot from) = let x0 = fills_bring 0 from in omega arith
  op_fills k (ItemGet to array index) = let x0 = fills_bring 0 array in let x1 = fills_bring 1 index in let x2 = fills_keep k to in omega arith
  op_fills k (ItemSet array index from) = let x0 = fills_bring 0 array in let x1 = fills_bring 1 index in let x2 = fills_bring 3 from in omega arith
  op_fills k (Length to array) = let x0 = fills_bring 0 array in let x1 = fills_keep k to in omega arith
  op_fills k (Pop to array) = let x0 = fills_bring 0 array in let x1 = fills_keep k to in omega arith
  op_fills k (TextOf to text) = let x0 = fills_keep k to in omega arith
  op_fills k (MakeObject to class) = let x0 = fills_land k to in omega arith
  op_fills k (MakeArray to room) = let x0 = fills_land k to in omega arith
  op_fills k (HandlerOf to function) = let x0 = fills_keep k to in omega arith
  op_fills k (Jump target) = omega arith
  op_fills k (Branch when target) =
      let x0 = fills_bring 0 when in branches_has (λ xs. total_most xs ≤ 10) (joined_by f k) _ _ _ (λ c e. omega arith) (omega arith)

  fills_move : (p : Place) (t : ℕ) → total_most (move_pieces f place p t) ≤ 4
  fills_move (Incoming j) t = omega arith
  fills_move (Reg r) t = omega arith
  fills_move (Slot j) t = omega arith

  fills_moves : (t n : ℕ) → total_most (moves_pieces f place t n) ≤ 4 * n
  fills_moves t zero = omega arith
  fills_moves t (suc n) = let a = most_append (move_pieces f place (place t) t) (moves_pieces f place (t + 1) n) in let b = fills_move (place t) t in let c = fills_moves (t + 1) n in omega (arith, a, b, c)

  pub entry_fills : f.params ≤ 8 → total_most (entry_pieces f place) ≤ entry_bytes
  entry_fills h =
      let a = most_append (lowers (below_saved f place)) (moves_pieces f place 0 f.params) in let b = fills_moves 0 f.params in
      let c : total_most (lowers (below_saved f place)) ≤ 4 = if_has (λ xs. total_most xs ≤ 4) (nat_lt 127 (below_saved f place)) _ _ (omega arith) (omega arith) in
      omega (arith, a, b, c)

  bytes_of_ops : (k : ℕ) (ops : List Op) → total_most (ops_pieces f place k ops) ≤ ops_bytes ops
  bytes_of_ops k [] = omega arith
  bytes_of_ops k (op ∷ ops) =
      let a = most_append (op_pieces f place k op) (ops_pieces f place (k + 1) ops) in let b = op_fills k op in let c = bytes_of_ops (k + 1) ops in
      omega (arith, a, b, c)

pub function_fills : (p : Placed) → p.function.params ≤ 8 → total_most (function_pieces p) ≤ ops_bytes p.function.ops + entry_bytes
function_fills p h =
    let f = p.function in let place = place_of p.places in
    let a = most_append (entry_pieces f place) (ops_pieces f place 0 f.ops) in let b = entry_fills f place h in let c = bytes_of_ops f place 0 f.ops in
    omega (arith, a, b, c)

-- pieces with bytes
counted_append : (xs ys : List Piece) → counted (xs ++ ys) ≡ counted xs + counted ys
counted_append [] ys = sym (zero-add (counted ys))
counted_append (x ∷ xs) ys = ap (λ n. has_bytes x + n) (counted_append xs ys) ∙ sym (add_assoc (has_bytes x) (counted xs) (counted ys))

pub entry_some : (f : Function) (place : ℕ → Place) → 0 < counted (entry_pieces f place)
entry_some f place = omega arith

copies_some : (f : Function) (unread : Bool) (q p : Place) → 0 < counted (copies f unread q p)
copies_some f true q p = omega arith
copies_some f false (Reg r) p = omega arith
copies_some f false (Slot j) p = omega arith
copies_some f false (Incoming j) p = omega arith

pub op_some : (f : Function) (place : ℕ → Place) (k : ℕ) (op : Op) → 0 < counted (op_pieces f place k op)
op_some f place k (Call to function args) = let a = counted_append (passes f place 0 args) (CallTo function ∷ land f place k to ∷ []) in omega (arith, a)
op_some f place k (CallSlot to slot args) = let a = counted_append (passes f place 0 args) (calls_slot slot (3 * k + 1) ++ (land f place k to ∷ [])) in omega (arith, a)
op_some f place k (Ask to service args) =
    let a = counted_append (loads f place 0 args) (asks (is_unread f k) service ++ (land f place k to ∷ [])) in let b = counted_append (asks (is_unread f k) service) (land f place k to ∷ []) in
    let c : 0 < counted (asks (is_unread f k) service) = if_has (λ xs. 0 < counted xs) (is_unread f k || answers_in_r0 service) _ _ (omega arith) (omega arith) in omega (arith, a, b, c)
op_some f place k (Copy to from) = copies_some f (is_unread f k) (place to) (place from)
op_some f place k (Unary to op from) =
    tests_has (λ xs. 0 < counted (bring f place 0 from ∷ xs)) (joined_by f (suc k)) _ _ (omega arith)
    (unary_has (λ xs. 0 < counted (bring f place 0 from ∷ xs ++ (keep f place k to ∷ []))) f (made_in f place k to) op (3 * k + 1) (λ x. omega arith)
    (λ by x cond. omega arith) (its_register f place 0 from))
op_some f place k (Binary to op left right) =
    tests_has (λ xs. 0 < counted (bring f place 0 left ∷ bring f place 1 right ∷ xs)) (joined_by f (suc k)) _ _ (omega arith)
    (binary_has (λ xs. 0 < counted (bring f place 0 left ∷ bring f place 1 right ∷ xs ++ (keep f place k to ∷ []))) f (made_in f place k to) op (3 * k + 1)
    (λ x. omega arith) (λ by x cond. omega arith) (its_register f place 0 left) (its_register f place 1 right) (λ x. omega arith) (λ x. omega arith) (λ answer. omega arith))
op_some f place k (Branch when target) = branches_has (λ xs. 0 < counted xs) (joined_by f k) _ _ _ (λ c e. omega arith) (omega arith)
op_some f place k op = omega arith
