-- The pieces of a function are sound, and their numbers are words.
use Rattle.std.proofs.Common.{FitsSigned, ℕ, zero, suc, ◌+◌, ◌-◌, ◌*◌, ◌^◌, ◌<◌, ◌≤◌, ℤ, Bool, true, false, List, [], ◌∷◌, ◌++◌, length, arith, rules}
use Rattle.std.specs.Int.{cast_unsigned, w32}
use Rattle.std.proofs.Math.Facts.{Fits-of_z}
use Rattle.std.specs.List.{AllByRecursion}
use Rattle.thumb_code.specs.declared.instructions.Instr.TheVariants.{CmpImm, CmpReg, LdrImm, StrImm, LdrReg, StrReg, StrSp, Push, Pop as PopMany}
use Rattle.thumb_layout.specs.declared.pieces.Piece.{Piece}
use Rattle.thumb_layout.specs.declared.pieces.Piece.TheVariants.{Plain, CallTo}
use Rattle.thumb_layout.specs.Soundness.{IsSoundPiece}
use Rattle.flat_ir.specs.declared.ops.Op.{Op}
use Rattle.flat_ir.specs.declared.ops.Op.TheVariants.{Const, Copy, Unary, Binary, GlobalGet, GlobalSet, FieldGet, FieldSet, ItemGet, ItemSet, Length, Pop, TextOf, MakeObject, MakeArray, Call, CallSlot, HandlerOf, Ask, Jump, Branch, Return}
use Rattle.flat_ir.specs.declared.ops.Function.{Function}
use Rattle.flat_ir.specs.WellFormed.{IsOpWithin}
use Rattle.register_assign.specs.declared.places.Place.{Place}
use Rattle.register_assign.specs.declared.places.Place.TheVariants.{Reg, Slot, Incoming}
use Rattle.register_assign.specs.Sound.{IsWithin}
use Rattle.register_assign.specs.declared.places.Placed.{Placed}
use Rattle.register_assign.specs.Sound.{place_of}
use Rattle.register_assign.specs.Unread.{is_unread}
use Rattle.register_assign.specs.Saving.{saves}
use Rattle.register_assign.proofs.Laws.{saves_few}
use Rattle.flat_ir.specs.WellFormed.{temporaries}
use Rattle.thumb_emit.specs.Frame.{words, register_of, copies, raises, lowers, below_saved, saved_list}
use Rattle.thumb_emit.specs.Ready.{IsReady, HasNumber, HasNumbers}
use Rattle.thumb_emit.specs.Emit.{get, its_register, bring, made_in, keep, land, passes, loads, op_pieces, tests_null, tests_index, finds_item, unary, binary, loads_field, stores_field, asks, makes_object, makes_array, pops, calls_slot, move_pieces, moves_pieces, entry_pieces, ops_pieces, function_pieces}
use Rattle.thumb_emit.specs.Joined.{joined_by as joins_at}
use Rattle.thumb_emit.proofs.Lists.{all_append}
use Rattle.thumb_emit.proofs.Joins.{tests_has, branches_has, joined_small}
use Rattle.thumb_emit.proofs.Fine.{IsFine, AreFine, IsSmall, from_fine, to_fine, brings_fine, keeps_fine, lands_fine, register_low, made_low, raises_fine, lowers_fine, null_fine, index_fine, finds_fine, pops_fine, unary_fine, binary_fine, object_fine, array_fine, slot_fine, loads_fine, stores_fine, global_fine, asks_fine}

-- the word of a number of 32 bits
number_fine : (value : ℤ) → FitsSigned w32 value → cast_unsigned w32 value < 2 ^ 32
number_fine value h = let a = Fits-of_z {w = w32} {z = value} h in a.fits

-- two lists one after another
joined : (xs ys : List Piece) → AreFine xs → AreFine ys → AreFine (xs ++ ys)
joined = all_append IsFine

-- fine pieces are sound
sound_of : (xs : List Piece) → AreFine xs → AllByRecursion IsSoundPiece xs
sound_of [] a = tt
sound_of (x ∷ xs) a = ((a.0).0, sound_of xs a.1)

-- a list of at most four registers from r4 on
list_small : (n : ℕ) → n ≤ 4 → 2 ^ (4 + n) - 2 ^ 4 < 256
list_small zero l = omega arith
list_small (suc zero) l = omega arith
list_small (suc (suc zero)) l = omega arith
list_small (suc (suc (suc zero))) l = omega arith
list_small (suc (suc (suc (suc zero)))) l = omega arith
list_small (suc (suc (suc (suc (suc n))))) l = absurd (omega arith)

push_fine : (list : ℕ) → list < 256 → IsFine (Plain (Push list true))
push_fine list l = search rules

pop_fine : (list : ℕ) → list < 256 → IsFine (Plain (PopMany list true))
pop_fine list l = search rules

-- a function within the measures, each of whose first n temporaries has one of its places
module _ (f : Function) (place : ℕ → Place) (n : ℕ) (small : IsSmall f) (few : saves f place ≤ 4) (within : (t : ℕ) → t < n → IsWithin f (place t)) where
  get_fine : (rd t : ℕ) → rd < 8 → t < n → IsFine (get f place rd t)
  get_fine rd t l h = from_fine f rd (place t) small l (within t h)

  bring_fine : (rd t : ℕ) → rd < 8 → t < n → IsFine (bring f place rd t)
  bring_fine rd t l h = brings_fine f rd (place t) small l (within t h)

  reg_low : (rd t : ℕ) → rd < 8 → t < n → its_register f place rd t < 8
  reg_low rd t l h = register_low f rd (place t) l (within t h)

  -- a result is kept
  kept_fine : (k to : ℕ) → to < n → AreFine (keep f place k to ∷ [])
  kept_fine k to h = (keeps_fine f (is_unread f k) (place to) small (within to h), tt)

  out_low : (k to : ℕ) → to < n → made_in f place k to < 8
  out_low k to h = made_low f (is_unread f k) (place to) (within to h)

  passes_fine : (k : ℕ) (ts : List ℕ) → k + length ts ≤ 8 → AllByRecursion (λ t. t < n) ts → AreFine (passes f place k ts)
  passes_fine k [] l a = tt
  passes_fine k (t ∷ ts) l a =
      let e : k < 256 = omega arith in let r : its_register f place 0 t < 8 = reg_low 0 t (omega arith) a.0 in
      let s : IsFine (Plain (StrSp (its_register f place 0 t) k)) = search rules in
      (bring_fine 0 t (omega arith) a.0, (s, passes_fine (k + 1) ts (omega arith) a.1))

  loaded_fine : (k : ℕ) (ts : List ℕ) → k + length ts ≤ 4 → AllByRecursion (λ t. t < n) ts → AreFine (loads f place k ts)
  loaded_fine k [] l a = tt
  loaded_fine k (t ∷ ts) l a = (get_fine k t (omega arith) a.0, loaded_fine (k + 1) ts (omega arith) a.1)

  below_small : below_saved f place ≤ 140
  below_small = let a = small.locals in let b = small.operands in let c = small.outgoing in omega arith

  outgoing_small : f.outgoing ≤ 8
  outgoing_small = small.outgoing

  -- an op with what follows its pieces' parts
  ends_fine : (k to : ℕ) → to < n → AreFine (land f place k to ∷ [])
  ends_fine k to h = (lands_fine f (is_unread f k) (place to) small (within to h), tt)

  copied_fine : (unread : Bool) (q p : Place) → IsWithin f q → IsWithin f p → AreFine (copies f unread q p)
  copied_fine true q p w v = (from_fine f 0 p small (omega arith) v, ((tt, tt), tt))
  copied_fine false (Reg r) p w v = let a = w.1 in (from_fine f r p small (omega arith) v, ((tt, tt), tt))
  copied_fine false (Slot j) p w v = (brings_fine f 0 p small (omega arith) v, (to_fine f (register_of 0 p) (Slot j) small (register_low f 0 p (omega arith) v) w, tt))
  copied_fine false (Incoming j) p w v = (brings_fine f 0 p small (omega arith) v, (to_fine f (register_of 0 p) (Incoming j) small (register_low f 0 p (omega arith) v) w, tt))

  -- the tests before an item, and what follows them
  reached_fine : (k array index : ℕ) (xs : List Piece) → array < 8 → index < 8 → AreFine xs
      → AreFine (tests_null array (3 * k + 1) ++ (tests_index array index (3 * k + 2) ++ (finds_item array index ++ xs)))
  reached_fine k array index xs l m e =
      joined (tests_null array (3 * k + 1)) (tests_index array index (3 * k + 2) ++ (finds_item array index ++ xs)) (null_fine array (3 * k + 1) l)
      (joined (tests_index array index (3 * k + 2)) (finds_item array index ++ xs) (index_fine array index (3 * k + 2) l m)
      (joined (finds_item array index) xs (finds_fine array index l m) e))

  pub op_fine : (places k : ℕ) (op : Op) → IsOpWithin n places f.outgoing op → HasNumber op → AreFine (op_pieces f place k op)
  op_fine places k (Const to value) w h = let a = w.names.0 in ((out_low k to a, number_fine value h), kept_fine k to a)
  op_fine places k (Copy to from) w h = let a = w.names in copied_fine (is_unread f k) (place to) (place from) (within to a.0) (within from a.1.0)
  op_fine places k (Unary to op from) w h = let a = w.names in
      let d = out_low k to a.0 in let r : its_register f place 0 from < 8 = reg_low 0 from (omega arith) a.1.0 in
      let x : IsFine (Plain (CmpImm (its_register f place 0 from) 0)) = search rules in (
        bring_fine 0 from (omega arith) a.1.0,
        tests_has AreFine (joins_at f (suc k)) _ _ (x, tt) (joined (unary f (made_in f place k to) (its_register f place 0 from) op (3 * k + 1)) (keep f place k to ∷ [])
            (unary_fine f (made_in f place k to) (its_register f place 0 from) op (3 * k + 1) d r) (kept_fine k to a.0)),
      )
  op_fine places k (Binary to op left right) w h = let a = w.names in
      let d = out_low k to a.0 in let l : its_register f place 0 left < 8 = reg_low 0 left (omega arith) a.1.0 in
      let r : its_register f place 1 right < 8 = reg_low 1 right (omega arith) a.1.1.0 in
      let x : IsFine (Plain (CmpReg (its_register f place 0 left) (its_register f place 1 right))) = search rules in (
        bring_fine 0 left (omega arith) a.1.0,
        (
          bring_fine 1 right (omega arith) a.1.1.0,
          tests_has AreFine (joins_at f (suc k)) _ _ (x, tt)
              (joined (binary f (made_in f place k to) (its_register f place 0 left) (its_register f place 1 right) op (3 * k + 1)) (keep f place k to ∷ [])
              (binary_fine f (made_in f place k to) (its_register f place 0 left) (its_register f place 1 right) op (3 * k + 1) d l r) (kept_fine k to a.0)),
        ),
      )
  op_fine places k (GlobalGet to slot) w h = let a = w.names in let d : made_in f place k to < 8 = out_low k to a.0 in
      let s : IsFine (Plain (LdrImm (made_in f place k to) 1 0)) = search rules in
      (global_fine slot w.ranges, (s, kept_fine k to a.0))
  op_fine places k (GlobalSet slot from) w h = let a = w.names in let d : its_register f place 0 from < 8 = reg_low 0 from (omega arith) a.0 in
      let s : IsFine (Plain (StrImm (its_register f place 0 from) 1 0)) = search rules in
      (bring_fine 0 from (omega arith) a.0, (global_fine slot w.ranges, (s, tt)))
  op_fine places k (FieldGet to object field) w h = let a = w.names in
      let d = out_low k to a.0 in let r = reg_low 0 object (omega arith) a.1.0 in (
        bring_fine 0 object (omega arith) a.1.0,
        joined (tests_null (its_register f place 0 object) (3 * k + 1)) (loads_field (made_in f place k to) (its_register f place 0 object) field ++ (keep f place k to ∷ []))
            (null_fine (its_register f place 0 object) (3 * k + 1) r)
            (joined (loads_field (made_in f place k to) (its_register f place 0 object) field) (keep f place k to ∷ []) (loads_fine (made_in f place k to) (its_register f place 0 object) field d r) (kept_fine k to a.0)),
      )
  op_fine places k (FieldSet object field from) w h = let a = w.names in
      let r = reg_low 0 object (omega arith) a.0 in let s = reg_low 1 from (omega arith) a.1.0 in (
        bring_fine 0 object (omega arith) a.0,
        joined (tests_null (its_register f place 0 object) (3 * k + 1)) (bring f place 1 from ∷ stores_field (its_register f place 1 from) (its_register f place 0 object) field)
            (null_fine (its_register f place 0 object) (3 * k + 1) r)
            (bring_fine 1 from (omega arith) a.1.0, stores_fine (its_register f place 1 from) (its_register f place 0 object) field s r),
      )
  op_fine places k (ItemGet to array index) w h = let a = w.names in
      let d : made_in f place k to < 8 = out_low k to a.0 in let r = reg_low 0 array (omega arith) a.1.0 in let i = reg_low 1 index (omega arith) a.1.1.0 in
      let x : IsFine (Plain (LdrReg (made_in f place k to) 2 1)) = search rules in
      let e : AreFine (Plain (LdrReg (made_in f place k to) 2 1) ∷ keep f place k to ∷ []) = (x, kept_fine k to a.0) in (
        bring_fine 0 array (omega arith) a.1.0,
        (
          bring_fine 1 index (omega arith) a.1.1.0,
          reached_fine k (its_register f place 0 array) (its_register f place 1 index) (Plain (LdrReg (made_in f place k to) 2 1) ∷ keep f place k to ∷ []) r i e,
        ),
      )
  op_fine places k (ItemSet array index from) w h = let a = w.names in
      let r = reg_low 0 array (omega arith) a.0 in let i = reg_low 1 index (omega arith) a.1.0 in let s : its_register f place 3 from < 8 = reg_low 3 from (omega arith) a.1.1.0 in
      let x : IsFine (Plain (StrReg (its_register f place 3 from) 2 1)) = search rules in
      let e : AreFine (bring f place 3 from ∷ Plain (StrReg (its_register f place 3 from) 2 1) ∷ []) = (bring_fine 3 from (omega arith) a.1.1.0, (x, tt)) in (
        bring_fine 0 array (omega arith) a.0,
        (
          bring_fine 1 index (omega arith) a.1.0,
          reached_fine k (its_register f place 0 array) (its_register f place 1 index) (bring f place 3 from ∷ Plain (StrReg (its_register f place 3 from) 2 1) ∷ []) r i e,
        ),
      )
  op_fine places k (Length to array) w h = let a = w.names in
      let d : made_in f place k to < 8 = out_low k to a.0 in let r : its_register f place 0 array < 8 = reg_low 0 array (omega arith) a.1.0 in
      let x : IsFine (Plain (LdrImm (made_in f place k to) (its_register f place 0 array) 1)) = search rules in (
        bring_fine 0 array (omega arith) a.1.0,
        joined (tests_null (its_register f place 0 array) (3 * k + 1)) (Plain (LdrImm (made_in f place k to) (its_register f place 0 array) 1) ∷ keep f place k to ∷ [])
            (null_fine (its_register f place 0 array) (3 * k + 1) r) (x, kept_fine k to a.0),
      )
  op_fine places k (Pop to array) w h = let a = w.names in
      let d = out_low k to a.0 in let r = reg_low 0 array (omega arith) a.1.0 in (
        bring_fine 0 array (omega arith) a.1.0,
        joined (tests_null (its_register f place 0 array) (3 * k + 1)) (pops (made_in f place k to) (its_register f place 0 array) (3 * k + 2) ++ (keep f place k to ∷ []))
            (null_fine (its_register f place 0 array) (3 * k + 1) r)
            (joined (pops (made_in f place k to) (its_register f place 0 array) (3 * k + 2)) (keep f place k to ∷ []) (pops_fine (made_in f place k to) (its_register f place 0 array) (3 * k + 2) d r) (kept_fine k to a.0)),
      )
  op_fine places k (TextOf to text) w h = let a = w.names.0 in ((out_low k to a, tt), kept_fine k to a)
  op_fine places k (MakeObject to class) w h = joined (makes_object class) (land f place k to ∷ []) (object_fine class) (ends_fine k to w.names.0)
  op_fine places k (MakeArray to room) w h = joined (makes_array room) (land f place k to ∷ []) (array_fine room) (ends_fine k to w.names.0)
  op_fine places k (Call to function args) w h = let b = w.ranges in let c = outgoing_small in let a = w.names in
      joined (passes f place 0 args) (CallTo function ∷ land f place k to ∷ []) (passes_fine 0 args (omega arith) a.1) (search rules, ends_fine k to a.0)
  op_fine places k (CallSlot to slot args) w h = let b = w.ranges.1 in let c = outgoing_small in let a = w.names in
      joined (passes f place 0 args) (calls_slot slot (3 * k + 1) ++ (land f place k to ∷ [])) (passes_fine 0 args (omega arith) a.1)
      (joined (calls_slot slot (3 * k + 1)) (land f place k to ∷ []) (slot_fine slot (3 * k + 1) w.ranges.0) (ends_fine k to a.0))
  op_fine places k (HandlerOf to function) w h = let a = w.names.0 in ((out_low k to a, tt), kept_fine k to a)
  op_fine places k (Ask to service args) w h = let b = w.ranges.1 in let a = w.names in
      joined (loads f place 0 args) (asks (is_unread f k) service ++ (land f place k to ∷ [])) (loaded_fine 0 args (omega arith) a.1)
      (joined (asks (is_unread f k) service) (land f place k to ∷ []) (asks_fine (is_unread f k) service w.ranges.0) (ends_fine k to a.0))
  op_fine places k (Jump target) w h = search rules
  op_fine places k (Branch when target) w h =
      let r : its_register f place 0 when < 8 = reg_low 0 when (omega arith) w.names.0 in
      let x : IsFine (Plain (CmpImm (its_register f place 0 when) 0)) = search rules in
      branches_has AreFine (joins_at f k) _ _ _ (λ c e. (let l = joined_small f k c e in ((omega arith, tt), tt)))
      (bring_fine 0 when (omega arith) w.names.0, (x, ((omega arith, tt), tt)))
  op_fine places k (Return from) w h =
      let pop = pop_fine (saved_list f place) (list_small (saves f place) few) in
      (get_fine 0 from (omega arith) w.names.0, joined (raises (below_saved f place)) (Plain (PopMany (saved_list f place) true) ∷ []) (raises_fine (below_saved f place) below_small) (pop, tt))

  pub ops_fine : (places k : ℕ) (ops : List Op) → AllByRecursion (IsOpWithin n places f.outgoing) ops → AllByRecursion HasNumber ops → AreFine (ops_pieces f place k ops)
  ops_fine places k [] w h = tt
  ops_fine places k (op ∷ ops) w h = (search rules, joined (op_pieces f place k op) (ops_pieces f place (k + 1) ops) (op_fine places k op w.0 h.0) (ops_fine places (k + 1) ops w.1 h.1))

  -- whatever numbers are, pieces are sound
  op_sound : (places k : ℕ) (op : Op) → IsOpWithin n places f.outgoing op → AllByRecursion IsSoundPiece (op_pieces f place k op)
  op_sound places k (Const to value) w = (out_low k to w.names.0, sound_of (keep f place k to ∷ []) (kept_fine k to w.names.0))
  op_sound places k op w = sound_of (op_pieces f place k op) (op_fine places k op w tt)

  pub ops_sound : (places k : ℕ) (ops : List Op) → AllByRecursion (IsOpWithin n places f.outgoing) ops → AllByRecursion IsSoundPiece (ops_pieces f place k ops)
  ops_sound places k [] w = tt
  ops_sound places k (op ∷ ops) w = (tt, all_append IsSoundPiece (op_pieces f place k op) (ops_pieces f place (k + 1) ops) (op_sound places k op w.0) (ops_sound places (k + 1) ops w.1))

  moved_fine : (p : Place) (t : ℕ) → IsWithin f p → t < f.params → AreFine (move_pieces f place p t)
  moved_fine (Incoming j) t w l = tt
  moved_fine (Reg r) t w l = let a = w.1 in (from_fine f r (Incoming t) small (omega arith) l, ((tt, tt), tt))
  moved_fine (Slot j) t w l = (from_fine f 0 (Incoming t) small (omega arith) l, (to_fine f 0 (Slot j) small (omega arith) w, tt))

  moves_fine : (t m : ℕ) → t + m ≤ f.params → f.params ≤ n → AreFine (moves_pieces f place t m)
  moves_fine t zero l h = tt
  moves_fine t (suc m) l h = joined (move_pieces f place (place t) t) (moves_pieces f place (t + 1) m) (moved_fine (place t) t (within t (omega arith)) (omega arith)) (moves_fine (t + 1) m (omega arith) h)

  pub entry_fine : f.params ≤ n → AreFine (entry_pieces f place)
  entry_fine h =
      let a = below_small in
      let e : 0x20003080 + 4 * words f < 2 ^ 32 = omega arith in
      let m : AreFine (lowers (below_saved f place) ++ moves_pieces f place 0 f.params) = joined (lowers (below_saved f place)) (moves_pieces f place 0 f.params) (lowers_fine (below_saved f place) below_small) (moves_fine 0 f.params (omega arith) h) in
      let push = push_fine (saved_list f place) (list_small (saves f place) few) in
      (search rules, (search rules, ((omega arith, e), (search rules, (search rules, (search rules, (search rules, (search rules, (search rules, (push, m))))))))))

-- the pieces of a function that is ready
pub function_fine : (p : Placed) → IsReady p → HasNumbers p.function → AreFine (function_pieces p)
function_fine p r h =
    let f = p.function in let place = place_of p.places in let s = r.formed in let w = r.sound in
    let small : IsSmall f = record { params = s.params; locals = s.locals; operands = s.operands; outgoing = s.outgoing } in
    joined (entry_pieces f place) (ops_pieces f place 0 f.ops) (entry_fine f place (temporaries f) small (saves_few f place w.within) w.within (omega arith))
    (ops_fine f place (temporaries f) small (saves_few f place w.within) w.within (length f.ops) 0 f.ops s.ops h)

pub function_pieces_sound : (p : Placed) → IsReady p → AllByRecursion IsSoundPiece (function_pieces p)
function_pieces_sound p r =
    let f = p.function in let place = place_of p.places in let s = r.formed in let w = r.sound in
    let small : IsSmall f = record { params = s.params; locals = s.locals; operands = s.operands; outgoing = s.outgoing } in
    all_append IsSoundPiece (entry_pieces f place) (ops_pieces f place 0 f.ops) (sound_of (entry_pieces f place) (entry_fine f place (temporaries f) small (saves_few f place w.within) w.within (omega arith)))
    (ops_sound f place (temporaries f) small (saves_few f place w.within) w.within (length f.ops) 0 f.ops s.ops)
