-- The pieces of a function name what its ops name.
use Rattle.std.proofs.Common.{◌≡◌, ℕ, zero, suc, ◌+◌, ◌*◌, inl, inr, true, false, ◌||◌, nat_lt, Bool, if◌then◌else◌, List, [], ◌∷◌, ◌++◌, Contains, Some, slice_get, refl, ap, sym, ◌∙◌, subst, arith}
use Rattle.std.specs.List.{AllByRecursion}
use Rattle.std.proofs.lemmas.List.Elements.{Contains-append_left, Contains-append_right}
use Rattle.std.proofs.lemmas.List.{append-nil}
use Rattle.thumb_code.specs.declared.instructions.Instr.TheVariants.{StrSp, StrReg, Pop as PopMany}
use Rattle.thumb_layout.specs.declared.pieces.What.{What}
use Rattle.thumb_layout.specs.declared.pieces.What.TheVariants.{Function as FunctionOf, Text, Class as ClassOf}
use Rattle.thumb_layout.specs.declared.pieces.Piece.{Piece}
use Rattle.thumb_layout.specs.declared.pieces.Piece.TheVariants.{Plain, CallTo}
use Rattle.thumb_layout.specs.Openings.{called, named}
use Rattle.flat_ir.specs.declared.ops.Op.{Op}
use Rattle.flat_ir.specs.declared.ops.Op.TheVariants.{Const, Copy, Unary, Binary, GlobalGet, GlobalSet, FieldGet, FieldSet, ItemGet, ItemSet, Length, Pop, TextOf, MakeObject, MakeArray, Call, CallSlot, HandlerOf, Ask, Jump, Branch, Return}
use Rattle.flat_ir.specs.declared.ops.Function.{Function}
use Rattle.register_assign.specs.declared.places.Place.{Place}
use Rattle.register_assign.specs.declared.places.Place.TheVariants.{Reg, Slot, Incoming}
use Rattle.register_assign.specs.declared.places.Placed.{Placed}
use Rattle.register_assign.specs.Sound.{place_of}
use Rattle.register_assign.specs.Unread.{is_unread}
use Rattle.thumb_emit.specs.Frame.{copies, carries, lowers, below_saved, saved_list}
use Rattle.thumb_emit.specs.Emit.{get, its_register, bring, made_in, keep, land, passes, loads, op_pieces, beside, division, stores_field, tests_null, asks, answers_in_r0, calls_slot, move_pieces, moves_pieces, entry_pieces, ops_pieces, function_pieces}
use Rattle.thumb_emit.specs.Names.{name_of, names_of, call_of, calls_of, IsCalledBy}
use Rattle.thumb_emit.proofs.Lists.{if_has, all_append, named_append, called_append}
use Rattle.thumb_emit.proofs.Still.{IsStill, brings_still, keeps_still, lands_still, moves_still, still_names, still_calls}
use Rattle.thumb_emit.specs.Joined.{joined_by}
use Rattle.thumb_emit.proofs.Joins.{tests_has, branches_has}
use Rattle.thumb_emit.proofs.Operators.{unary_has, binary_has}

-- pieces that name nothing, and call nothing
pub record IsMute (xs : List Piece) : Type 0 where
  pub names : named xs ≡ []
  pub calls : called xs ≡ []

mute_append : (xs ys : List Piece) → IsMute xs → IsMute ys → IsMute (xs ++ ys)
mute_append xs ys a b = record {
  names = named_append xs ys ∙ (ap (λ (q : List What). q ++ named ys) a.names ∙ b.names);
  calls = called_append xs ys ∙ (ap (λ (q : List What). q ++ called ys) a.calls ∙ b.calls);
}

if_mute : (b : Bool) (xs ys : List Piece) → IsMute xs → IsMute ys → IsMute (if b then xs else ys)
if_mute b xs ys = if_has IsMute b xs ys

-- what an op's pieces name and call; the routine is among what is called only by an operator
pub record IsOf (op : Op) (xs : List Piece) : Type 0 where
  pub names : named xs ≡ name_of op
  pub calls : AllByRecursion (IsCalledBy (op ∷ [])) (called xs)

mute_of : (op : Op) (xs : List Piece) → IsMute xs → name_of op ≡ [] → IsOf op xs
mute_of op xs m e = record { names = m.names ∙ sym e; calls = subst (λ (q : List What). AllByRecursion (IsCalledBy (op ∷ [])) q) (sym m.calls) tt }

-- one more piece in front that takes one instruction or nothing
still_of : (f : Function) (op : Op) (x : Piece) (xs : List Piece) → IsStill f x → IsOf op xs → IsOf op (x ∷ xs)
still_of f op x xs s h = record {
  names = still_names f x xs s ∙ h.names;
  calls = subst (λ (q : List What). AllByRecursion (IsCalledBy (op ∷ [])) q) (sym (still_calls f x xs s)) h.calls;
}

still_mute : (f : Function) (x : Piece) (xs : List Piece) → IsStill f x → IsMute xs → IsMute (x ∷ xs)
still_mute f x xs s h = record { names = still_names f x xs s ∙ h.names; calls = still_calls f x xs s ∙ h.calls }

mute_end : IsMute []
mute_end = record { names = refl; calls = refl }

module _ (f : Function) (place : ℕ → Place) where
  brought : (scratch t : ℕ) → IsStill f (bring f place scratch t)
  brought scratch t = brings_still f scratch (place t)

  kept : (k t : ℕ) → IsMute (keep f place k t ∷ [])
  kept k t = still_mute f _ [] (keeps_still f (is_unread f k) (place t)) mute_end

  landed : (k t : ℕ) → IsMute (land f place k t ∷ [])
  landed k t = still_mute f _ [] (lands_still f (is_unread f k) (place t)) mute_end

  passes_mute : (k : ℕ) (ts : List ℕ) → IsMute (passes f place k ts)
  passes_mute k [] = mute_end
  passes_mute k (t ∷ ts) =
      let h = passes_mute (k + 1) ts in
      still_mute f (bring f place 0 t) (Plain (StrSp (its_register f place 0 t) k) ∷ passes f place (k + 1) ts) (brought 0 t) (record { names = h.names; calls = h.calls })

  copies_mute : (unread : Bool) (q p : Place) → IsMute (copies f unread q p)
  copies_mute true q p = record { names = refl; calls = refl }
  copies_mute false (Reg r) p = record { names = refl; calls = refl }
  copies_mute false (Slot j) p = still_mute f _ _ (brings_still f 0 p) (record { names = refl; calls = refl })
  copies_mute false (Incoming j) p = still_mute f _ _ (brings_still f 0 p) (record { names = refl; calls = refl })

  loads_mute : (k : ℕ) (ts : List ℕ) → IsMute (loads f place k ts)
  loads_mute k [] = record { names = refl; calls = refl }
  loads_mute k (t ∷ ts) = let h = loads_mute (k + 1) ts in record { names = h.names; calls = h.calls }

  op_names : (k : ℕ) (op : Op) → IsOf op (op_pieces f place k op)
  op_names k (MakeArray to room) = let h = landed k to in mute_of (MakeArray to room) _ (record { names = h.names; calls = h.calls }) refl
  op_names k (Jump target) = record { names = refl; calls = tt }
  op_names k (MakeObject to class) =
      let h = landed k to in record {
        names = ap (λ (q : List What). ClassOf class ∷ q) h.names;
        calls = subst (λ (q : List What). AllByRecursion (IsCalledBy (MakeObject to class ∷ [])) q) (sym h.calls) tt;
      }
  op_names k (Const to value) = let h = kept k to in mute_of (Const to value) _ (record { names = h.names; calls = h.calls }) refl
  op_names k (Copy to from) = mute_of (Copy to from) _ (copies_mute (is_unread f k) (place to) (place from)) refl
  op_names k (GlobalGet to slot) = let h = kept k to in mute_of (GlobalGet to slot) _ (record { names = h.names; calls = h.calls }) refl
  op_names k (GlobalSet slot from) = still_of f _ _ _ (brought 0 from) (record { names = refl; calls = tt })
  op_names k (Branch when target) = branches_has (IsOf (Branch when target)) (joined_by f k) _ _ _ (λ c e. record { names = refl; calls = tt })
      (still_of f _ _ _ (brought 0 when) (record { names = refl; calls = tt }))
  op_names k (TextOf to text) =
      let h = kept k to in
      record { names = ap (λ (q : List What). Text text ∷ q) h.names; calls = subst (λ (q : List What). AllByRecursion (IsCalledBy (TextOf to text ∷ [])) q) (sym h.calls) tt }
  op_names k (HandlerOf to function) =
      let h = kept k to in
      record { names = ap (λ (q : List What). FunctionOf function ∷ q) h.names; calls = subst (λ (q : List What). AllByRecursion (IsCalledBy (HandlerOf to function ∷ [])) q) (sym h.calls) tt }
  op_names k (ItemGet to array index) =
      let h = kept k to in
      still_of f _ _ _ (brought 0 array) (still_of f _ _ _ (brought 1 index) (mute_of (ItemGet to array index) _ (record { names = h.names; calls = h.calls }) refl))
  op_names k (ItemSet array index from) =
      let h = still_mute f (bring f place 3 from) (Plain (StrReg (its_register f place 3 from) 2 1) ∷ []) (brought 3 from) (record { names = refl; calls = refl }) in
      still_of f _ _ _ (brought 0 array) (still_of f _ _ _ (brought 1 index) (mute_of (ItemSet array index from) _ (record { names = h.names; calls = h.calls }) refl))
  op_names k (Length to array) =
      let h = kept k to in still_of f _ _ _ (brought 0 array) (mute_of (Length to array) _ (record { names = h.names; calls = h.calls }) refl)
  op_names k (Pop to array) =
      let h = kept k to in still_of f _ _ _ (brought 0 array) (mute_of (Pop to array) _ (record { names = h.names; calls = h.calls }) refl)
  op_names k (Unary to op from) =
      let h = kept k to in let rd = made_in f place k to in
      let o : Op = Unary to op from in
      still_of f o _ _ (brought 0 from) (tests_has (IsOf o) (joined_by f (suc k)) _ _ (record { names = refl; calls = tt }) (unary_has (λ xs. IsOf o (xs ++ (keep f place k to ∷ []))) f rd op (3 * k + 1)
      (λ x. mute_of o _ (record { names = h.names; calls = h.calls }) refl)
      (λ by x cond. (let m = still_mute f (carries f rd by) (keep f place k to ∷ []) (moves_still f rd by) h in mute_of o _ (record { names = m.names; calls = m.calls }) refl))
      (its_register f place 0 from)))
  op_names k (Binary to op left right) =
      let h = kept k to in let rd = made_in f place k to in let a = its_register f place 0 left in let b = its_register f place 1 right in
      let o : Op = Binary to op left right in
      still_of f o _ _ (brought 0 left) (still_of f o _ _ (brought 1 right) (tests_has (IsOf o) (joined_by f (suc k)) _ _ (record { names = refl; calls = tt }) (binary_has (λ xs. IsOf o (xs ++ (keep f place k to ∷ []))) f rd op (3 * k + 1)
      (λ x. mute_of o _ (record { names = h.names; calls = h.calls }) refl)
      (λ by x cond. (let m = still_mute f (carries f rd by) (keep f place k to ∷ []) (moves_still f rd by) h in mute_of o _ (record { names = m.names; calls = m.calls }) refl))
      a b
      (λ x. (let m = still_mute f (carries f rd (beside 2 rd b)) (keep f place k to ∷ []) (moves_still f rd (beside 2 rd b)) h in
      still_of f o _ _ (moves_still f (beside 2 rd b) a) (mute_of o _ (record { names = m.names; calls = m.calls }) refl)))
      (λ x. (let m = still_mute f (carries f rd a) (Plain (x rd 2) ∷ keep f place k to ∷ []) (moves_still f rd a) (record { names = h.names; calls = h.calls }) in
      mute_of o _ (record { names = m.names; calls = m.calls }) refl))
      (λ answer. (let m = still_mute f (carries f rd answer) (keep f place k to ∷ []) (moves_still f rd answer) h in
      still_of f o _ _ (moves_still f 0 a) (still_of f o _ _ (moves_still f 1 b) (record {
        names = m.names;
        calls = subst (λ (q : List What). AllByRecursion (IsCalledBy (o ∷ [])) (FunctionOf division ∷ q)) (sym m.calls) (inl refl, tt);
      })))))))
  op_names k (FieldGet to object field) =
      let o : Op = FieldGet to object field in let rd = made_in f place k to in let r = its_register f place 0 object in let h = kept k to in
      still_of f o _ _ (brought 0 object)
      (if_has (λ xs. IsOf o (tests_null r (3 * k + 1) ++ (xs ++ (keep f place k to ∷ [])))) (nat_lt field 31) _ _
      (mute_of o _ (record { names = h.names; calls = h.calls }) refl) (mute_of o _ (record { names = h.names; calls = h.calls }) refl))
  op_names k (FieldSet object field from) =
      let o : Op = FieldSet object field from in let rs = its_register f place 1 from in let r = its_register f place 0 object in
      let h : IsMute (bring f place 1 from ∷ stores_field rs r field) = still_mute f _ _ (brought 1 from) (if_mute (nat_lt field 31) _ _ (record { names = refl; calls = refl }) (record { names = refl; calls = refl })) in
      still_of f o _ _ (brought 0 object) (mute_of o _ (record { names = h.names; calls = h.calls }) refl)
  op_names k (Call to function args) =
      let a = passes_mute 0 args in let xs = passes f place 0 args in let ys : List Piece = CallTo function ∷ land f place k to ∷ [] in let h = landed k to in
      let hc : called ys ≡ FunctionOf function ∷ [] = ap (λ (q : List What). FunctionOf function ∷ q) h.calls in
      let e : called (xs ++ ys) ≡ FunctionOf function ∷ [] = called_append xs ys ∙ (ap (λ (q : List What). q ++ called ys) a.calls ∙ hc) in
      record {
        names = named_append xs ys ∙ (ap (λ (q : List What). q ++ named ys) a.names ∙ h.names);
        calls = subst (λ (q : List What). AllByRecursion (IsCalledBy (Call to function args ∷ [])) q) (sym e) (inr (0, omega arith, refl), tt);
      }
  op_names k (CallSlot to slot args) =
      mute_of (CallSlot to slot args) _
      (mute_append (passes f place 0 args) (calls_slot slot (3 * k + 1) ++ (land f place k to ∷ [])) (passes_mute 0 args) (let h = landed k to in record { names = h.names; calls = h.calls })) refl
  op_names k (Ask to service args) =
      let g = landed k to in
      let h : IsMute (asks (is_unread f k) service ++ (land f place k to ∷ [])) = if_has (λ xs. IsMute (xs ++ (land f place k to ∷ []))) (is_unread f k || answers_in_r0 service) _ _
      (record { names = g.names; calls = g.calls }) (record { names = g.names; calls = g.calls }) in
      mute_of (Ask to service args) _ (mute_append (loads f place 0 args) (asks (is_unread f k) service ++ (land f place k to ∷ [])) (loads_mute 0 args) h) refl
  op_names k (Return from) =
      if_has (λ xs. IsOf (Return from) (get f place 0 from ∷ xs ++ (Plain (PopMany (saved_list f place) true) ∷ []))) (nat_lt 127 (below_saved f place)) _ _
      (record { names = refl; calls = tt }) (record { names = refl; calls = tt })

  move_mute : (p : Place) (t : ℕ) → IsMute (move_pieces f place p t)
  move_mute (Incoming j) t = record { names = refl; calls = refl }
  move_mute (Reg r) t = record { names = refl; calls = refl }
  move_mute (Slot j) t = record { names = refl; calls = refl }

  moves_mute : (t n : ℕ) → IsMute (moves_pieces f place t n)
  moves_mute t zero = record { names = refl; calls = refl }
  moves_mute t (suc n) = mute_append (move_pieces f place (place t) t) (moves_pieces f place (t + 1) n) (move_mute (place t) t) (moves_mute (t + 1) n)

  entry_mute : IsMute (entry_pieces f place)
  entry_mute =
      let l : IsMute (lowers (below_saved f place)) = if_mute (nat_lt 127 (below_saved f place)) _ _
      (record { names = refl; calls = refl }) (record { names = refl; calls = refl }) in
      let h = mute_append (lowers (below_saved f place)) (moves_pieces f place 0 f.params) l (moves_mute 0 f.params) in
      record { names = h.names; calls = h.calls }

  ops_named : (k : ℕ) (ops : List Op) → named (ops_pieces f place k ops) ≡ names_of ops
  ops_named k [] = refl
  ops_named k (op ∷ ops) =
      named_append (op_pieces f place k op) (ops_pieces f place (k + 1) ops)
      ∙ (ap (λ (q : List What). q ++ named (ops_pieces f place (k + 1) ops)) (op_names k op).names ∙ ap (λ (q : List What). name_of op ++ q) (ops_named (k + 1) ops))

  wider : (some all : List Op) → ((g : ℕ) → Contains (calls_of some) g → Contains (calls_of all) g) → (w : What) → IsCalledBy some w → IsCalledBy all w
  wider some all h (FunctionOf g) (inl e) = inl e
  wider some all h (FunctionOf g) (inr c) = inr (h g c)
  wider some all h (Text i) c = c
  wider some all h (ClassOf i) c = c

  wider_all : (some all : List Op) → ((g : ℕ) → Contains (calls_of some) g → Contains (calls_of all) g) → (ws : List What) → AllByRecursion (IsCalledBy some) ws → AllByRecursion (IsCalledBy all) ws
  wider_all some all h [] a = tt
  wider_all some all h (w ∷ ws) a = (wider some all h w a.0, wider_all some all h ws a.1)

  ops_called : (k : ℕ) (ops : List Op) → AllByRecursion (IsCalledBy ops) (called (ops_pieces f place k ops))
  ops_called k [] = tt
  ops_called k (op ∷ ops) =
      subst (λ (q : List What). AllByRecursion (IsCalledBy (op ∷ ops)) q) (sym (called_append (op_pieces f place k op) (ops_pieces f place (k + 1) ops)))
      (all_append (IsCalledBy (op ∷ ops)) (called (op_pieces f place k op)) (called (ops_pieces f place (k + 1) ops))
      (wider_all (op ∷ []) (op ∷ ops) (λ g c. Contains-append_left (call_of op) (calls_of ops) g (subst (λ (q : List ℕ). Contains q g) (append-nil (call_of op)) c)) (called (op_pieces f place k op)) (op_names k op).calls)
      (wider_all ops (op ∷ ops) (λ g c. Contains-append_right (call_of op) (calls_of ops) g c) (called (ops_pieces f place (k + 1) ops)) (ops_called (k + 1) ops)))

-- a function's pieces load the addresses that its ops name
pub function_named : (p : Placed) → named (function_pieces p) ≡ names_of p.function.ops
function_named p =
    let f = p.function in let place = place_of p.places in let e = entry_mute f place in
    named_append (entry_pieces f place) (ops_pieces f place 0 f.ops) ∙ (ap (λ (q : List What). q ++ named (ops_pieces f place 0 f.ops)) e.names ∙ ops_named f place 0 f.ops)

-- and call what its ops call, or the division routine
pub function_called : (p : Placed) → AllByRecursion (IsCalledBy p.function.ops) (called (function_pieces p))
function_called p =
    let f = p.function in let place = place_of p.places in let e = entry_mute f place in
    subst (λ (q : List What). AllByRecursion (IsCalledBy f.ops) q)
    (sym (called_append (entry_pieces f place) (ops_pieces f place 0 f.ops) ∙ ap (λ (q : List What). q ++ called (ops_pieces f place 0 f.ops)) e.calls))
    (ops_called f place 0 f.ops)

text_among : (ops : List Op) (k to i : ℕ) → slice_get ops k ≡ Some (TextOf to i) → Contains (names_of ops) (Text i)
text_among [] k to i e = absurd cc
text_among (op ∷ ops) zero to i e =
    let h : op ≡ TextOf to i = cc in
    let one : Contains (name_of (TextOf to i)) (Text i) = (0, omega arith, refl) in
    Contains-append_left (name_of op) (names_of ops) (Text i) (subst (λ (q : Op). Contains (name_of q) (Text i)) (sym h) one)
text_among (op ∷ ops) (suc k) to i e = Contains-append_right (name_of op) (names_of ops) (Text i) (text_among ops k to i e)

-- a text that an op of a function names is named by its pieces
pub text_named : (p : Placed) (k to i : ℕ) → slice_get p.function.ops k ≡ Some (TextOf to i) → Contains (named (function_pieces p)) (Text i)
text_named p k to i e = subst (λ (q : List What). Contains q (Text i)) (sym (function_named p)) (text_among p.function.ops k to i e)
