-- An expression's code does what is left to do after it is evaluated.
use Rattle.std.proofs.Common.{◌≡◌, ℕ, zero, suc, ◌+◌, inl, inr, List, [], ◌∷◌, ◌++◌, length, Option, Some, None, Bool, true, false, refl, sym, ap, ◌∙◌, subst, arith}
use Rattle.std.specs.Prelude.{ℤ, pos, negsuc}
use Rattle.flat_ir.specs.declared.ops.Op.{Op}
use Rattle.flat_ir.specs.declared.ops.Op.TheVariants as o
use Rattle.sts_syntax.specs.declared.typed.Spot.{Spot}
use Rattle.sts_syntax.specs.declared.typed.Callee.TheVariants as c
use Rattle.sts_syntax.specs.TypedTrees as e
use Rattle.sts_syntax.specs.TypedTrees.{TypedTree, TypedTrees, ClassEntry}
use Rattle.sts_syntax.specs.BoardTable.{BoardParameter, Of, Handler, ServicePlace, Written, Always, BoardAction, Service, Library, Repeats, row_of, placed, arranged}
use Rattle.sts_syntax.specs.Measures.{total, argument_sizes, how_many}
use Rattle.sts_syntax.specs.TypeRules.{IsOne}
use Rattle.sts_meaning.specs.Values.{Whole}
use Rattle.sts_meaning.specs.Continuation.{Continuation, Put, Get, Store, Unary, Apply, Choose, Both, Either, Read, Peek, Write, At, PeekAt, SetAt, Bump, BumpField, BumpAt, Measure, Push, Pop, Append, New, Build, Invoke, Send, Ask, Repeat, gives_value, asks, chained, by_one, appended, evals, evals_each, reaches}
use Rattle.sts_lower.specs.Sizes.{Target, ToName, ToField, ToItem, ToNothing, target, store_size, bump_size, action_size, items_size, size, sizes, reach_size}
use Rattle.sts_lower.specs.Code as l
use Rattle.sts_lower.specs.Code.{span, Part, handler_of, maker_of}
use Rattle.lowered_code.specs.Fine.{IsThere, Fine, FineTarget, FineEach, FineGiven, FineAction}
use Rattle.lower_simulation.specs.Places.{Marks, IsAbove, HasAt, Near, Lies}
use Rattle.lowered_code.proofs.Laws.{AreLong, sizes_of, parts_length, arguments_long, arguments_sizes, parts_sizes, code_length, parts_long, reach_length}
use Rattle.lower_simulation.proofs.Boards.{mark, marks, onto, RowFine, row_fine}
use Rattle.lower_simulation.proofs.Requests.{AllProper, properly}

pub has_front : (fetch : ℕ → Option Op) (pc : ℕ) (a b : List Op) → HasAt fetch pc (a ++ b) → HasAt fetch pc a
has_front fetch pc [] b h = tt
has_front fetch pc (i ∷ a) b h = (h.0, has_front fetch (pc + 1) a b h.1)

has_back : (fetch : ℕ → Option Op) (pc : ℕ) (a b : List Op) → HasAt fetch pc (a ++ b) → HasAt fetch (pc + length a) b
has_back fetch pc [] b h = let e : pc ≡ pc + 0 = omega arith in subst (λ n. HasAt fetch n b) e h
has_back fetch pc (i ∷ a) b h =
    let e : pc + 1 + length a ≡ pc + length (i ∷ a) = omega arith in
    subst (λ n. HasAt fetch n b) e (has_back fetch (pc + 1) a b h.1)

pub has_after : (fetch : ℕ → Option Op) (pc n : ℕ) (a b : List Op) → length a ≡ n → HasAt fetch pc (a ++ b) → HasAt fetch (pc + n) b
has_after fetch pc n a b e h = subst (λ m. HasAt fetch (pc + m) b) e (has_back fetch pc a b h)

above_onto : (ms : Marks) (p : Marks) → IsAbove (length ms) (onto ms p) p
above_onto [] p = refl
above_onto (m ∷ ms) p = (m, above_onto ms (m ∷ p))

module _ (classes : List ClassEntry) (functions : ℕ) (repeating : ℕ → ℕ) (repeated : List ℕ) (params locals : ℕ) (fetch : ℕ → Option Op) (maker : Bool) where
  abbrev pub b : ℕ
  b = params + locals

  abbrev pub LiesAt : Continuation → ℕ → Marks → Type 0
  LiesAt k pc p = Lies classes functions repeating repeated params locals fetch maker k pc p

  abbrev pub IsNear : Continuation → ℕ → Marks → Type 0
  IsNear k pc p = Near classes functions repeating repeated params locals fetch maker (LiesAt k) pc p

  abbrev pub cd : TypedTree → (d at next : ℕ) → List Op
  cd a d at next = l.code classes repeating params b a d at next

  pub near_at : (k : Continuation) (p : Marks) (m n : ℕ) → m ≡ n → IsNear k m p → IsNear k n p
  near_at k p m n e h = subst (λ x. IsNear k x p) e h

  lies_at : (k : Continuation) (p : Marks) (m n : ℕ) → m ≡ n → LiesAt k m p → LiesAt k n p
  lies_at k p m n e h = subst (λ x. LiesAt k x p) e h

  -- an expression's code, and then what is left to do
  pub record ExprAt (a : TypedTree) : Type 0 where
    pub at : (pc next : ℕ) (p : Marks) (k : Continuation) → HasAt fetch pc (cd a (length p) pc next) → LiesAt k next (None ∷ p) → IsNear k (pc + size a) (None ∷ p) → LiesAt (evals a k) pc p

  -- an argument's
  record ArgAt (f : Continuation → Continuation) (q : Part) (m : Option ℕ) : Type 0 where
    pub at : (pc : ℕ) (p : Marks) (k : Continuation) → HasAt fetch pc (q.ops (length p) pc) → LiesAt k (pc + q.size) (m ∷ p) → LiesAt (f k) pc p

  abbrev ArgsAt : List (Continuation → Continuation) → List Part → Marks → Type 0
  ArgsAt [] [] [] = Unit {0}
  ArgsAt (f ∷ fs) (q ∷ qs) (m ∷ ms) = ArgAt f q m × ArgsAt fs qs ms
  ArgsAt fs qs ms = ⊥

  parts_as_many : (fs : List (Continuation → Continuation)) (qs : List Part) (ms : Marks) → ArgsAt fs qs ms → length qs ≡ length fs
  parts_as_many [] [] [] h = refl
  parts_as_many (f ∷ fs) (q ∷ qs) (m ∷ ms) h = ap suc (parts_as_many fs qs ms h.1)
  parts_as_many _ _ _ h = absurd h

  marks_as_many : (fs : List (Continuation → Continuation)) (qs : List Part) (ms : Marks) → ArgsAt fs qs ms → length ms ≡ length fs
  marks_as_many [] [] [] h = refl
  marks_as_many (f ∷ fs) (q ∷ qs) (m ∷ ms) h = ap suc (marks_as_many fs qs ms h.1)
  marks_as_many _ _ _ h = absurd h

  chained_at : (fs : List (Continuation → Continuation)) (qs : List Part) (ms : Marks) → ArgsAt fs qs ms → AreLong qs → (pc : ℕ) (p : Marks) (k : Continuation)
      → HasAt fetch pc (l.parts_code classes repeating params b qs (length p) pc) → LiesAt k (pc + total (sizes_of qs)) (onto ms p) → LiesAt (chained fs k) pc p
  chained_at [] [] [] h long pc p k has there = let e : pc + 0 ≡ pc = omega arith in lies_at k p (pc + 0) pc e there
  chained_at (f ∷ fs) (q ∷ qs) (m ∷ ms) h long pc p k has there =
      let has_rest = has_after fetch pc q.size (q.ops (length p) pc) _ (long.0.long (length p) pc) has in
      let e : pc + total (sizes_of (q ∷ qs)) ≡ pc + q.size + total (sizes_of qs) = omega arith in
      let rest = chained_at fs qs ms h.1 long.1 (pc + q.size) (m ∷ p) k has_rest (lies_at k (onto ms (m ∷ p)) _ _ e there) in
      h.0.at pc p (chained fs k) (has_front fetch pc _ _ has) rest
  chained_at _ _ _ h long pc p k has there = absurd h

  -- arguments, and then what is left to do behind them
  passed_at : (fs : List (Continuation → Continuation)) (qs : List Part) (ms : Marks) → ArgsAt fs qs ms → AreLong qs → (pc : ℕ) (p : Marks) (k : Continuation) (ops : List Op)
      → HasAt fetch pc (l.parts_code classes repeating params b qs (length p) pc ++ ops)
      → (HasAt fetch (pc + total (sizes_of qs)) ops → LiesAt k (pc + total (sizes_of qs)) (onto ms p)) → LiesAt (chained fs k) pc p
  passed_at fs qs ms h long pc p k ops has then =
      chained_at fs qs ms h long pc p k (has_front fetch pc _ _ has)
      (then (has_after fetch pc (total (sizes_of qs)) (l.parts_code classes repeating params b qs (length p) pc) ops (parts_length classes repeating params b qs (length p) pc long) has))

  above_args : (fs : List (Continuation → Continuation)) (qs : List Part) (ms : Marks) → ArgsAt fs qs ms → (p : Marks) → IsAbove (length fs) (onto ms p) p
  above_args fs qs ms h p = subst (λ n. IsAbove n (onto ms p) p) (marks_as_many fs qs ms h) (above_onto ms p)

  number_at : (n : ℤ) → ArgAt (λ k. Put (Whole n) k) (l.number_part classes repeating params b n) None
  number_at n = record { at = λ pc p k has there. (has.0, inl there) }

  placed_at : (places : List ServicePlace) (fs : List (Continuation → Continuation)) (qs : List Part) (ms : Marks) → ArgsAt fs qs ms
      → ArgsAt (placed (λ n. Put (Whole n)) places fs) (placed (l.number_part classes repeating params b) places qs) (placed (λ n. None) places ms)
  placed_at [] fs qs ms h = h
  placed_at (Written ∷ places) [] [] [] h = placed_at places [] [] [] tt
  placed_at (Written ∷ places) (f ∷ fs) (q ∷ qs) (m ∷ ms) h = (h.0, placed_at places fs qs ms h.1)
  placed_at (Always n ∷ places) fs qs ms h = (number_at n, placed_at places fs qs ms h)
  placed_at (Written ∷ places) _ _ _ h = absurd h

  -- the value that a handler's mark asks for isn't asked for elsewhere
  fine_mark : (a : TypedTree) → Fine functions repeated params locals a → mark a ≡ None
  fine_mark (e.Num u n) h = refl
  fine_mark (e.Text u n) h = refl
  fine_mark (e.Truth u b) h = refl
  fine_mark (e.Null u) h = refl
  fine_mark (e.This u) h = refl
  fine_mark (e.Name u x) h = refl
  fine_mark (e.Unary u op a) h = refl
  fine_mark (e.Binary u op a b) h = refl
  fine_mark (e.Both u a b) h = refl
  fine_mark (e.Either u a b) h = refl
  fine_mark (e.Choice u test a b) h = refl
  fine_mark (e.Set u op x r) h = refl
  fine_mark (e.Bump u x by late) h = refl
  fine_mark (e.Field u a f) h = refl
  fine_mark (e.Length u a) h = refl
  fine_mark (e.Item u a i) h = refl
  fine_mark (e.Call u f args) h = refl
  fine_mark (e.SuperCall u f args) h = refl
  fine_mark (e.Make u class args) h = refl
  fine_mark (e.Items u items) h = refl
  fine_mark (e.Handler u f) h = absurd h

  arg_of : (a : TypedTree) → Fine functions repeated params locals a → ExprAt a → ArgAt (evals a) (record { size = size a; ops = λ d at. cd a d at (at + size a) }) (mark a)
  arg_of a fine h =
      subst (λ m. ArgAt (evals a) (record { size = size a; ops = λ d at. cd a d at (at + size a) }) m) (sym (fine_mark a fine))
      (record { at = λ pc p k has there. h.at pc (pc + size a) p k has there (inl there) })

  handler_at : (u : _) (f : ℕ) → ArgAt (evals (e.Handler u f)) (record { size = 1; ops = λ d at. cd (e.Handler u f) d at (at + 1) }) (Some f)
  handler_at u f = record { at = λ pc p k has there. (has.0, inl there) }

  -- items that go into an array
  items_at : (fs : List (Continuation → Continuation)) (qs : List Part) (ms : Marks) → ArgsAt fs qs ms → AreLong qs → (pc : ℕ) (p : Marks) (k : Continuation)
      → HasAt fetch pc (l.items_code classes repeating params b qs (length p) pc) → IsNear k (pc + items_size (sizes_of qs)) (None ∷ p) → IsNear (appended fs k) pc (None ∷ p)
  items_at [] [] [] h long pc p k has near = let e : pc + 0 ≡ pc = omega arith in near_at k (None ∷ p) (pc + 0) pc e near
  items_at (f ∷ fs) (q ∷ qs) (m ∷ ms) h long pc p k has near =
      let has_rest = has_after fetch pc q.size (q.ops (suc (length p)) pc) _ (long.0.long (suc (length p)) pc) has in
      let e : pc + items_size (sizes_of (q ∷ qs)) ≡ pc + q.size + 1 + items_size (sizes_of qs) = omega arith in
      let rest = items_at fs qs ms h.1 long.1 (pc + q.size + 1) p k has_rest.1 (near_at k (None ∷ p) _ _ e near) in
      inl (h.0.at pc (None ∷ p) (Append (appended fs k)) (has_front fetch pc _ _ has) (has_rest.0, rest))
  items_at _ _ _ h long pc p k has near = absurd h

  -- what is done with a target behind what is evaluated of it
  abbrev TargetAt : Target → ℕ → Marks → (Spot → Continuation) → (ℕ → Continuation) → Continuation → Type 0
  TargetAt (ToName x) pc p name field item = LiesAt (name x) pc p
  TargetAt (ToField f) pc p name field item = LiesAt (field f) pc (None ∷ p)
  TargetAt ToItem pc p name field item = LiesAt item pc (None ∷ (None ∷ p))
  TargetAt ToNothing pc p name field item = Unit {0}

  abbrev TargetThere : Target → Type 0
  TargetThere (ToName x) = IsThere functions repeated params locals x
  TargetThere (ToField f) = Unit {0}
  TargetThere ToItem = Unit {0}
  TargetThere ToNothing = ⊥

  target_there : (x : TypedTree) → FineTarget functions repeated params locals x → TargetThere (target x)
  target_there (e.Name u x) h = h
  target_there (e.Field u a f) h = tt
  target_there (e.Item u a i) h = tt
  target_there x h = absurd h

  record ReachAt (x : TypedTree) : Type 0 where
    pub at : (pc : ℕ) (p : Marks) (name : Spot → Continuation) (field : ℕ → Continuation) (item : Continuation) → HasAt fetch pc (l.reach_code classes repeating params b x (length p) pc)
        → TargetAt (target x) (pc + reach_size x) p name field item → LiesAt (reaches x name field item) pc p

  set_at : (t : Target) (r : TypedTree) → ExprAt r → TargetThere t → (pc : ℕ) (p : Marks) (k : Continuation)
      → HasAt fetch pc (cd r (l.stored_at classes repeating params b t (length p)) pc (pc + size r) ++ l.store_code classes repeating params b t (length p))
      → IsNear k (pc + size r + store_size t) (None ∷ p) → TargetAt t pc p (λ s. evals r (Store s k)) (λ f. evals r (Write f k)) (evals r (SetAt k))
  set_at (ToName x) r h there pc p k has near =
      let has_s = has_after fetch pc (size r) (cd r (length p) pc (pc + size r)) _ (code_length classes repeating params b r (length p) pc (pc + size r)) has in
      let at_s : LiesAt (Store x k) (pc + size r) (None ∷ p) = (has_s.0, there, near) in
      h.at pc (pc + size r) p (Store x k) (has_front fetch pc _ _ has) at_s (inl at_s)
  set_at (ToField f) r h there pc p k has near =
      let has_s = has_after fetch pc (size r) (cd r (suc (length p)) pc (pc + size r)) _ (code_length classes repeating params b r (suc (length p)) pc (pc + size r)) has in
      let e : pc + size r + (1 + 1) ≡ pc + size r + 1 + 1 = omega arith in
      let at_s : LiesAt (Write f k) (pc + size r) (None ∷ (None ∷ p)) = (has_s.0, has_s.1.0, near_at k (None ∷ p) _ _ e near) in
      h.at pc (pc + size r) (None ∷ p) (Write f k) (has_front fetch pc _ _ has) at_s (inl at_s)
  set_at ToItem r h there pc p k has near =
      let has_s = has_after fetch pc (size r) (cd r (suc (suc (length p))) pc (pc + size r)) _ (code_length classes repeating params b r (suc (suc (length p))) pc (pc + size r)) has in
      let e : pc + size r + (1 + 1) ≡ pc + size r + 1 + 1 = omega arith in
      let at_s : LiesAt (SetAt k) (pc + size r) (None ∷ (None ∷ (None ∷ p))) = (has_s.0, has_s.1.0, near_at k (None ∷ p) _ _ e near) in
      h.at pc (pc + size r) (None ∷ (None ∷ p)) (SetAt k) (has_front fetch pc _ _ has) at_s (inl at_s)
  set_at ToNothing r h there pc p k has near = absurd there

  -- an assignment of what an operator makes of the target's value and another one
  compound_at : (t : Target) (op : ℕ) (r : TypedTree) → ExprAt r → TargetThere t → (pc : ℕ) (p : Marks) (k : Continuation)
      → HasAt fetch pc (l.read_code classes repeating params b t (length p)
      ∷ (cd r (suc (l.stored_at classes repeating params b t (length p))) (pc + 1) (pc + 1 + size r)
      ++ (o.Binary (b + l.stored_at classes repeating params b t (length p)) op (b + l.stored_at classes repeating params b t (length p)) (b + suc (l.stored_at classes repeating params b t (length p)))
      ∷ l.store_code classes repeating params b t (length p))))
      → IsNear k (pc + 1 + size r + 1 + store_size t) (None ∷ p)
      → TargetAt t pc p (λ s. Get s (evals r (Apply op (Store s k)))) (λ f. Peek f (evals r (Apply op (Write f k)))) (PeekAt (evals r (Apply op (SetAt k))))
  compound_at (ToName x) op r h there pc p k has near =
      let po = pc + 1 + size r in
      let has_o = has_after fetch (pc + 1) (size r) (cd r (suc (length p)) (pc + 1) po) _ (code_length classes repeating params b r (suc (length p)) (pc + 1) po) has.1 in
      let at_s : LiesAt (Store x k) (po + 1) (None ∷ p) = (has_o.1.0, there, near) in
      let at_o : LiesAt (Apply op (Store x k)) po (None ∷ (None ∷ p)) = (has_o.0, inl at_s) in
      let at_r = h.at (pc + 1) po (None ∷ p) (Apply op (Store x k)) (has_front fetch (pc + 1) _ _ has.1) at_o (inl at_o) in
      (has.0, there, inl at_r)
  compound_at (ToField f) op r h there pc p k has near =
      let po = pc + 1 + size r in
      let has_o = has_after fetch (pc + 1) (size r) (cd r (suc (suc (length p))) (pc + 1) po) _ (code_length classes repeating params b r (suc (suc (length p))) (pc + 1) po) has.1 in
      let e : po + 1 + (1 + 1) ≡ po + 1 + 1 + 1 = omega arith in
      let at_s : LiesAt (Write f k) (po + 1) (None ∷ (None ∷ p)) = (has_o.1.0, has_o.1.1.0, near_at k (None ∷ p) _ _ e near) in
      let at_o : LiesAt (Apply op (Write f k)) po (None ∷ (None ∷ (None ∷ p))) = (has_o.0, inl at_s) in
      let at_r = h.at (pc + 1) po (None ∷ (None ∷ p)) (Apply op (Write f k)) (has_front fetch (pc + 1) _ _ has.1) at_o (inl at_o) in
      (has.0, inl at_r)
  compound_at ToItem op r h there pc p k has near =
      let po = pc + 1 + size r in
      let has_o = has_after fetch (pc + 1) (size r) (cd r (suc (suc (suc (length p)))) (pc + 1) po) _ (code_length classes repeating params b r (suc (suc (suc (length p)))) (pc + 1) po) has.1 in
      let e : po + 1 + (1 + 1) ≡ po + 1 + 1 + 1 = omega arith in
      let at_s : LiesAt (SetAt k) (po + 1) (None ∷ (None ∷ (None ∷ p))) = (has_o.1.0, has_o.1.1.0, near_at k (None ∷ p) _ _ e near) in
      let at_o : LiesAt (Apply op (SetAt k)) po (None ∷ (None ∷ (None ∷ (None ∷ p)))) = (has_o.0, inl at_s) in
      let at_r = h.at (pc + 1) po (None ∷ (None ∷ (None ∷ p))) (Apply op (SetAt k)) (has_front fetch (pc + 1) _ _ has.1) at_o (inl at_o) in
      (has.0, inl at_r)
  compound_at ToNothing op r h there pc p k has near = absurd there

  bump_at : (t : Target) (by : ℤ) (late : Bool) → IsOne by → TargetThere t → (pc : ℕ) (p : Marks) (k : Continuation)
      → HasAt fetch pc (l.bump_code classes repeating params b t by late (length p)) → IsNear k (pc + bump_size t late) (None ∷ p)
      → TargetAt t pc p (λ s. Bump s by late k) (λ f. BumpField f by late k) (BumpAt by late k)
  bump_at (ToName x) by late one there pc p k has near = (has, there, one, near)
  bump_at (ToField f) by late one there pc p k has near =
      let e : pc + (1 + 1 + 1 + 1) ≡ pc + 1 + 1 + 1 + 1 = omega arith in (has, one, near_at k (None ∷ p) _ _ e near)
  bump_at ToItem by late one there pc p k has near =
      let e : pc + (1 + 1 + 1 + 1) ≡ pc + 1 + 1 + 1 + 1 = omega arith in (has, one, near_at k (None ∷ p) _ _ e near)
  bump_at ToNothing by late one there pc p k has near = absurd there

  -- `++` and `--`; nothing else is done by one
  bumps_at : (by : ℤ) (pc : ℕ) (p : Marks) (k : Continuation) → (IsOne by → LiesAt k pc p) → LiesAt (by_one by k) pc p
  bumps_at (pos zero) pc p k h = tt
  bumps_at (pos (suc zero)) pc p k h = h (inl refl)
  bumps_at (pos (suc (suc n))) pc p k h = tt
  bumps_at (negsuc zero) pc p k h = h (inr refl)
  bumps_at (negsuc (suc n)) pc p k h = tt

  -- the rest of a call of the board
  board_at : (action : BoardAction) (gives : Bool) (args : TypedTrees) (fs : List (Continuation → Continuation)) (qs : List Part) → ArgsAt fs qs (marks args) → AreLong qs
      → (p : Marks) → RowFine functions repeated params locals action gives args p → FineAction functions repeated params locals action (handler_of args) → (pc : ℕ) (k : Continuation)
      → let all = arranged (l.number_part classes repeating params b) action qs in let todo = arranged (λ n. Put (Whole n)) action fs in
      AreLong all → HasAt fetch pc (l.parts_code classes repeating params b all (length p) pc ++ l.action_code classes repeating params b action (handler_of args) (length p) (length all))
      → IsNear k (pc + total (sizes_of all) + action_size action) (None ∷ p) → LiesAt (chained todo (asks action (length todo) gives k)) pc p
  board_at (Service number places) gives args fs qs h long p row fine pc k long' has near =
      let todo = placed (λ n. Put (Whole n)) places fs in
      let all = placed (l.number_part classes repeating params b) places qs in
      let ms = placed (λ n. None) places (marks args) in
      let h' = placed_at places fs qs (marks args) h in
      let proper = properly functions (onto ms p) number (length todo) (subst (λ n. AllProper functions (onto ms p) number n) (marks_as_many todo all ms h') row.2) in
      passed_at todo all ms h' long' pc p (Ask number (length todo) gives k) _ has
      (λ rest. (p, above_args todo all ms h' p, subst (λ n. fetch (pc + total (sizes_of all)) ≡ Some (o.Ask (b + length p) number (span (b + length p) n []))) (parts_as_many todo all ms h') rest.0, row.0, row.1, proper, near))
  board_at (Library f) gives args fs qs h long p row fine pc k long' has near = absurd fine
  board_at Repeats gives args fs qs h long p row fine pc k long' has near =
      let ms : Marks = Some (handler_of args) ∷ [] in
      let h' : ArgsAt fs qs ms = subst (λ m. ArgsAt fs qs m) row h in
      let e : pc + total (sizes_of qs) + (1 + 1) ≡ pc + total (sizes_of qs) + 1 + 1 = omega arith in
      passed_at fs qs ms h' long pc p (Repeat k) _ has (λ rest. (fine, rest.0, rest.1.0, near_at k (None ∷ p) _ _ e near))

  abbrev nothings : TypedTrees → Marks
  nothings e.none = []
  nothings (e.more a rest) = None ∷ nothings rest

  onto_length : (ms p : Marks) → length (onto ms p) ≡ length ms + length p
  onto_length [] p = omega arith
  onto_length (m ∷ ms) p = omega (arith, onto_length ms (m ∷ p))

  two_more : (n : ℕ) → suc (suc (suc n)) ≡ 2 → ⊥
  two_more n e = omega arith

  one_more : (n : ℕ) → suc (suc n) ≡ 1 → ⊥
  one_more n e = omega arith

  push_at : (args : TypedTrees) → FineEach functions repeated params locals args → how_many args ≡ 2
      → ArgsAt (evals_each args) (l.parts classes repeating params b args) (nothings args) → (pc : ℕ) (p : Marks) (k : Continuation)
      → HasAt fetch pc (l.parts_code classes repeating params b (l.parts classes repeating params b args) (length p) pc ++ o.Ask (b + length p) 19 (span (b + length p) (length (l.parts classes repeating params b args)) []) ∷ [])
      → IsNear k (pc + (total (sizes args) + 1)) (None ∷ p) → LiesAt (chained (evals_each args) (Push k)) pc p
  push_at (e.more x (e.more y e.none)) fine two h pc p k has near =
      let args = e.more x (e.more y e.none) in
      let fs = evals_each args in
      let qs = l.parts classes repeating params b args in
      let sum : total (sizes_of qs) ≡ total (sizes args) = ap total (parts_sizes classes repeating params b args) in
      let same : pc + (total (sizes args) + 1) ≡ pc + total (sizes_of qs) + 1 = omega arith in
      let first : b + length p + 0 ≡ b + length p = omega arith in
      let second : b + length p + 1 ≡ b + suc (length p) = omega arith in
      passed_at fs qs (nothings args) h (parts_long classes repeating params b args) pc p (Push k) _ has
      (λ rest. (
        subst (λ n. fetch (pc + total (sizes_of qs)) ≡ Some (o.Ask (b + length p) 19 ((b + length p) ∷ (n ∷ [])))) second
            (subst (λ n. fetch (pc + total (sizes_of qs)) ≡ Some (o.Ask (b + length p) 19 (n ∷ ((b + length p + 1) ∷ [])))) first rest.0),
        near_at k (None ∷ p) _ _ same near,
      ))
  push_at e.none fine two h pc p k has near = cc two
  push_at (e.more x e.none) fine two h pc p k has near = cc two
  push_at (e.more x (e.more y (e.more z rest))) fine two h pc p k has near = absurd (two_more (how_many rest) two)

  pop_at : (args : TypedTrees) → FineEach functions repeated params locals args → how_many args ≡ 1
      → ArgsAt (evals_each args) (l.parts classes repeating params b args) (nothings args) → (pc : ℕ) (p : Marks) (k : Continuation)
      → HasAt fetch pc (l.parts_code classes repeating params b (l.parts classes repeating params b args) (length p) pc ++ o.Pop (b + length p) (b + length p) ∷ [])
      → IsNear k (pc + (total (sizes args) + 1)) (None ∷ p) → LiesAt (chained (evals_each args) (Pop k)) pc p
  pop_at (e.more x e.none) fine two h pc p k has near =
      let args = e.more x e.none in
      let qs = l.parts classes repeating params b args in
      let sum : total (sizes_of qs) ≡ total (sizes args) = ap total (parts_sizes classes repeating params b args) in
      let same : pc + (total (sizes args) + 1) ≡ pc + total (sizes_of qs) + 1 = omega arith in
      passed_at (evals_each args) qs (nothings args) h (parts_long classes repeating params b args) pc p (Pop k) _ has (λ rest. (rest.0, near_at k (None ∷ p) _ _ same near))
  pop_at e.none fine two h pc p k has near = cc two
  pop_at (e.more x (e.more y rest)) fine two h pc p k has near = absurd (one_more (how_many rest) two)

  mutual
    pub expr_at : (a : TypedTree) → Fine functions repeated params locals a → ExprAt a
    expr_at (e.Num u n) fine = record { at = λ pc next p k has there near. (has.0, near) }
    expr_at (e.Text u n) fine = record { at = λ pc next p k has there near. (has.0, near) }
    expr_at (e.Truth u true) fine = record { at = λ pc next p k has there near. (has.0, near) }
    expr_at (e.Truth u false) fine = record { at = λ pc next p k has there near. (has.0, near) }
    expr_at (e.Null u) fine = record { at = λ pc next p k has there near. (has.0, near) }
    expr_at (e.This u) fine = record { at = λ pc next p k has there near. (has.0, fine, near) }
    expr_at (e.Name u x) fine = record { at = λ pc next p k has there near. (has.0, fine, near) }
    expr_at (e.Unary u op a) fine = record {
      at = λ pc next p k has there near.
          let po = pc + size a in
          let has_o = has_after fetch pc (size a) (cd a (length p) pc po) _ (code_length classes repeating params b a (length p) pc po) has in
          let same : pc + (size a + 1) ≡ po + 1 = omega arith in
          let at_o : LiesAt (Unary op k) po (None ∷ p) = (has_o.0, near_at k (None ∷ p) _ _ same near) in
          (expr_at a fine).at pc po p (Unary op k) (has_front fetch pc _ _ has) at_o (inl at_o);
    }
    expr_at (e.Binary u op x y) fine = record {
      at = λ pc next p k has there near.
          let pb = pc + size x in
          let po = pb + size y in
          let has_b = has_after fetch pc (size x) (cd x (length p) pc pb) _ (code_length classes repeating params b x (length p) pc pb) has in
          let has_o = has_after fetch pb (size y) (cd y (suc (length p)) pb po) _ (code_length classes repeating params b y (suc (length p)) pb po) has_b in
          let same : pc + (size x + size y + 1) ≡ po + 1 = omega arith in
          let at_o : LiesAt (Apply op k) po (None ∷ (None ∷ p)) = (has_o.0, near_at k (None ∷ p) _ _ same near) in
          let at_b = (expr_at y fine.1).at pb po (None ∷ p) (Apply op k) (has_front fetch pb _ _ has_b) at_o (inl at_o) in
          (expr_at x fine.0).at pc pb p (evals y (Apply op k)) (has_front fetch pc _ _ has) at_b (inl at_b);
    }
    expr_at (e.Both u x y) fine = record {
      at = λ pc next p k has there near.
          let pt = pc + size x in
          let has_t = has_after fetch pc (size x) (cd x (length p) pc pt) _ (code_length classes repeating params b x (length p) pc pt) has in
          let same : pc + (size x + 1 + 1 + size y) ≡ pt + 1 + 1 + size y = omega arith in
          let at_b = (expr_at y fine.1).at (pt + 1 + 1) next p k has_t.1.1 there (near_at k (None ∷ p) _ _ same near) in
          let at_t : LiesAt (Both (evals y k) k) pt (None ∷ p) = (pt + 1 + 1, has_t.0, inl at_b, inr (next, has_t.1.0, there)) in
          (expr_at x fine.0).at pc pt p (Both (evals y k) k) (has_front fetch pc _ _ has) at_t (inl at_t);
    }
    expr_at (e.Either u x y) fine = record {
      at = λ pc next p k has there near.
          let pt = pc + size x in
          let has_t = has_after fetch pc (size x) (cd x (length p) pc pt) _ (code_length classes repeating params b x (length p) pc pt) has in
          let same : pc + (size x + 1 + size y) ≡ pt + 1 + size y = omega arith in
          let at_b = (expr_at y fine.1).at (pt + 1) next p k has_t.1 there (near_at k (None ∷ p) _ _ same near) in
          let at_t : LiesAt (Either k (evals y k)) pt (None ∷ p) = (next, has_t.0, inl there, inl at_b) in
          (expr_at x fine.0).at pc pt p (Either k (evals y k)) (has_front fetch pc _ _ has) at_t (inl at_t);
    }
    expr_at (e.Choice u test x y) fine = record {
      at = λ pc next p k has there near.
          let pt = pc + size test in
          let px = pt + 1 + size y + 1 in
          let has_t = has_after fetch pc (size test) (cd test (length p) pc pt) _ (code_length classes repeating params b test (length p) pc pt) has in
          let has_j = has_after fetch (pt + 1) (size y) (cd y (length p) (pt + 1) next) _ (code_length classes repeating params b y (length p) (pt + 1) next) has_t.1 in
          let same : pc + (size test + 1 + size y + 1 + size x) ≡ px + size x = omega arith in
          let at_y = (expr_at y fine.2).at (pt + 1) next p k (has_front fetch (pt + 1) _ _ has_t.1) there (inr (next, has_j.0, there)) in
          let at_x = (expr_at x fine.1).at px next p k has_j.1 there (near_at k (None ∷ p) _ _ same near) in
          let at_t : LiesAt (Choose (evals x k) (evals y k)) pt (None ∷ p) = (px, has_t.0, inl at_x, inl at_y) in
          (expr_at test fine.0).at pc pt p (Choose (evals x k) (evals y k)) (has_front fetch pc _ _ has) at_t (inl at_t);
    }
    expr_at (e.Set u None x r) fine = record {
      at = λ pc next p k has there near.
          let pr = pc + reach_size x in
          let has_r = has_after fetch pc (reach_size x) (l.reach_code classes repeating params b x (length p) pc) _ (reach_length classes repeating params b x (length p) pc) has in
          let same : pc + (reach_size x + size r + store_size (target x)) ≡ pr + size r + store_size (target x) = omega arith in
          let at_r = set_at (target x) r (expr_at r fine.1) (target_there x fine.0) pr p k has_r (near_at k (None ∷ p) _ _ same near) in
          (reach_at x fine.0).at pc p (λ s. evals r (Store s k)) (λ f. evals r (Write f k)) (evals r (SetAt k)) (has_front fetch pc _ _ has) at_r;
    }
    expr_at (e.Set u (Some op) x r) fine = record {
      at = λ pc next p k has there near.
          let pr = pc + reach_size x in
          let has_r = has_after fetch pc (reach_size x) (l.reach_code classes repeating params b x (length p) pc) _ (reach_length classes repeating params b x (length p) pc) has in
          let same : pc + (reach_size x + 1 + size r + 1 + store_size (target x)) ≡ pr + 1 + size r + 1 + store_size (target x) = omega arith in
          let at_r = compound_at (target x) op r (expr_at r fine.1) (target_there x fine.0) pr p k has_r (near_at k (None ∷ p) _ _ same near) in
          (reach_at x fine.0).at pc p (λ s. Get s (evals r (Apply op (Store s k)))) (λ f. Peek f (evals r (Apply op (Write f k)))) (PeekAt (evals r (Apply op (SetAt k)))) (has_front fetch pc _ _ has) at_r;
    }
    expr_at (e.Bump u x by late) fine = record {
      at = λ pc next p k has there near.
          let pr = pc + reach_size x in
          let has_r = has_after fetch pc (reach_size x) (l.reach_code classes repeating params b x (length p) pc) _ (reach_length classes repeating params b x (length p) pc) has in
          let same : pc + (reach_size x + bump_size (target x) late) ≡ pr + bump_size (target x) late = omega arith in
          bumps_at by pc p (reaches x (λ s. Bump s by late k) (λ f. BumpField f by late k) (BumpAt by late k))
          (λ one. (reach_at x fine).at pc p (λ s. Bump s by late k) (λ f. BumpField f by late k) (BumpAt by late k) (has_front fetch pc _ _ has)
          (bump_at (target x) by late one (target_there x fine) pr p k has_r (near_at k (None ∷ p) _ _ same near)));
    }
    expr_at (e.Field u a f) fine = record {
      at = λ pc next p k has there near.
          let po = pc + size a in
          let has_o = has_after fetch pc (size a) (cd a (length p) pc po) _ (code_length classes repeating params b a (length p) pc po) has in
          let same : pc + (size a + 1) ≡ po + 1 = omega arith in
          let at_o : LiesAt (Read f k) po (None ∷ p) = (has_o.0, near_at k (None ∷ p) _ _ same near) in
          (expr_at a fine).at pc po p (Read f k) (has_front fetch pc _ _ has) at_o (inl at_o);
    }
    expr_at (e.Length u a) fine = record {
      at = λ pc next p k has there near.
          let po = pc + size a in
          let has_o = has_after fetch pc (size a) (cd a (length p) pc po) _ (code_length classes repeating params b a (length p) pc po) has in
          let same : pc + (size a + 1) ≡ po + 1 = omega arith in
          let at_o : LiesAt (Measure k) po (None ∷ p) = (has_o.0, near_at k (None ∷ p) _ _ same near) in
          (expr_at a fine).at pc po p (Measure k) (has_front fetch pc _ _ has) at_o (inl at_o);
    }
    expr_at (e.Item u x y) fine = record {
      at = λ pc next p k has there near.
          let pb = pc + size x in
          let po = pb + size y in
          let has_b = has_after fetch pc (size x) (cd x (length p) pc pb) _ (code_length classes repeating params b x (length p) pc pb) has in
          let has_o = has_after fetch pb (size y) (cd y (suc (length p)) pb po) _ (code_length classes repeating params b y (suc (length p)) pb po) has_b in
          let same : pc + (size x + size y + 1) ≡ po + 1 = omega arith in
          let at_o : LiesAt (At k) po (None ∷ (None ∷ p)) = (has_o.0, near_at k (None ∷ p) _ _ same near) in
          let at_b = (expr_at y fine.1).at pb po (None ∷ p) (At k) (has_front fetch pb _ _ has_b) at_o (inl at_o) in
          (expr_at x fine.0).at pc pb p (evals y (At k)) (has_front fetch pc _ _ has) at_b (inl at_b);
    }
    expr_at (e.Call u (c.Function f) args) fine = record {
      at = λ pc next p k has there near.
          let fs = evals_each args in
          let qs = l.parts classes repeating params b args in
          let h = each_at args fine in
          let sum : total (sizes_of qs) ≡ total (sizes args) = ap total (parts_sizes classes repeating params b args) in
          let same : pc + (total (sizes args) + 1) ≡ pc + total (sizes_of qs) + 1 = omega arith in
          passed_at fs qs (nothings args) h (parts_long classes repeating params b args) pc p (Invoke f (length fs) k) _ has
          (λ rest. (
            p,
            above_args fs qs (nothings args) h p,
            subst (λ n. fetch (pc + total (sizes_of qs)) ≡ Some (o.Call (b + length p) f (span (b + length p) n []))) (parts_as_many fs qs (nothings args) h) rest.0,
            near_at k (None ∷ p) _ _ same near,
          ));
    }
    expr_at (e.Call u (c.Slot s) args) fine = record {
      at = λ pc next p k has there near.
          let fs = evals_each args in
          let qs = l.parts classes repeating params b args in
          let h = each_at args fine in
          let sum : total (sizes_of qs) ≡ total (sizes args) = ap total (parts_sizes classes repeating params b args) in
          let same : pc + (total (sizes args) + 1) ≡ pc + total (sizes_of qs) + 1 = omega arith in
          passed_at fs qs (nothings args) h (parts_long classes repeating params b args) pc p (Send s (length fs) k) _ has
          (λ rest. (
            p,
            above_args fs qs (nothings args) h p,
            subst (λ n. fetch (pc + total (sizes_of qs)) ≡ Some (o.CallSlot (b + length p) s (span (b + length p) n []))) (parts_as_many fs qs (nothings args) h) rest.0,
            near_at k (None ∷ p) _ _ same near,
          ));
    }
    expr_at (e.Call u c.Push args) fine = record { at = λ pc next p k has there near. push_at args fine.0 fine.1 (each_at args fine.0) pc p k has near }
    expr_at (e.Call u c.Pop args) fine = record { at = λ pc next p k has there near. pop_at args fine.0 fine.1 (each_at args fine.0) pc p k has near }
    expr_at (e.Call u (c.Board call) args) fine = record {
      at = λ pc next p k has there near.
          let fs = evals_each args in
          let qs = l.parts classes repeating params b args in
          let all = l.arguments classes repeating params b (c.Board call) qs in
          let long = parts_long classes repeating params b args in
          let sum : total (sizes_of all) ≡ total (argument_sizes 1 (c.Board call) (sizes args)) =
          ap total (arguments_sizes classes repeating params b (c.Board call) qs) ∙ ap (λ (ns : List ℕ). total (argument_sizes 1 (c.Board call) ns)) (parts_sizes classes repeating params b args) in
          let same : pc + (total (argument_sizes 1 (c.Board call) (sizes args)) + action_size (row_of call).action) ≡ pc + total (sizes_of all) + action_size (row_of call).action = omega arith in
          board_at (row_of call).action (gives_value (row_of call).gives) args fs qs (given_at (row_of call).takes args fine.0) long p
          (row_fine functions repeated params locals call args p fine.0) fine.1 pc k (arguments_long classes repeating params b (c.Board call) qs long) has (near_at k (None ∷ p) _ _ same near);
    }
    expr_at (e.SuperCall u f args) fine = record {
      at = λ pc next p k has there near.
          let fs = evals_each args in
          let qs = l.parts classes repeating params b args in
          let h = each_at args fine.1 in
          let sum : total (sizes_of qs) ≡ total (sizes args) = ap total (parts_sizes classes repeating params b args) in
          let same : pc + (1 + total (sizes args) + 1) ≡ pc + 1 + total (sizes_of qs) + 1 = omega arith in
          let rest = passed_at fs qs (nothings args) h (parts_long classes repeating params b args) (pc + 1) (None ∷ p) (Invoke f (suc (length fs)) k) _ has.1
          (λ rest. (
            p,
            (None, above_args fs qs (nothings args) h (None ∷ p)),
            subst (λ n. fetch (pc + 1 + total (sizes_of qs)) ≡ Some (o.Call (b + length p) f (span (b + length p) (suc n) []))) (parts_as_many fs qs (nothings args) h) rest.0,
            near_at k (None ∷ p) _ _ same near,
          )) in
          (has.0, fine.0, inl rest);
    }
    expr_at (e.Make u class args) fine = record {
      at = λ pc next p k has there near.
          let fs = evals_each args in
          let qs = l.parts classes repeating params b args in
          let h = each_at args fine in
          let ms = nothings args in
          let sum : total (sizes_of qs) ≡ total (sizes args) = ap total (parts_sizes classes repeating params b args) in
          let same : pc + (total (sizes args) + 1 + 1) ≡ pc + total (sizes_of qs) + 1 + 1 = omega arith in
          let pn = pc + total (sizes_of qs) in
          let high : length qs + length p ≡ length (onto ms p) = ap (λ n. n + length p) (parts_as_many fs qs ms h ∙ sym (marks_as_many fs qs ms h)) ∙ sym (onto_length ms p) in
          passed_at fs qs ms h (parts_long classes repeating params b args) pc p (New class (Build class (length fs) k)) _ has
          (λ rest.
          let at_b : LiesAt (Build class (length fs) k) (pn + 1) (None ∷ onto ms p) = (
            p,
            above_args fs qs ms h p,
            subst (λ n. fetch (pn + 1) ≡ Some (o.Call (b + length p) (maker_of classes class) ((b + length (onto ms p)) ∷ span (b + length p) n []))) (parts_as_many fs qs ms h)
                (subst (λ n. fetch (pn + 1) ≡ Some (o.Call (b + length p) (maker_of classes class) ((b + n) ∷ span (b + length p) (length qs) []))) high rest.1.0),
            near_at k (None ∷ p) _ _ same near,
          ) in
          (subst (λ n. fetch pn ≡ Some (o.MakeObject (b + n) class)) high rest.0, inl at_b));
    }
    expr_at (e.Items u items) fine = record {
      at = λ pc next p k has there near.
          let fs = evals_each items in
          let qs = l.parts classes repeating params b items in
          let h = each_at items fine in
          let sum : items_size (sizes_of qs) ≡ items_size (sizes items) = ap items_size (parts_sizes classes repeating params b items) in
          let same : pc + (1 + items_size (sizes items)) ≡ pc + 1 + items_size (sizes_of qs) = omega arith in (
            subst (λ n. fetch pc ≡ Some (o.MakeArray (b + length p) n)) (parts_as_many fs qs (nothings items) h) has.0,
            items_at fs qs (nothings items) h (parts_long classes repeating params b items) (pc + 1) p k has.1 (near_at k (None ∷ p) _ _ same near),
          );
    }
    expr_at (e.Handler u f) fine = absurd fine

    reach_at : (x : TypedTree) → FineTarget functions repeated params locals x → ReachAt x
    reach_at (e.Name u x) fine = record { at = λ pc p name field item has h. let e : pc + 0 ≡ pc = omega arith in lies_at (name x) p (pc + 0) pc e h }
    reach_at (e.Field u a f) fine = record { at = λ pc p name field item has h. (expr_at a fine).at pc (pc + size a) p (field f) has h (inl h) }
    reach_at (e.Item u a i) fine = record {
      at = λ pc p name field item has h.
          let pi = pc + size a in
          let has_i = has_after fetch pc (size a) (cd a (length p) pc pi) _ (code_length classes repeating params b a (length p) pc pi) has in
          let e : pc + (size a + size i) ≡ pi + size i = omega arith in
          let h' = lies_at item (None ∷ (None ∷ p)) _ _ e h in
          let at_i = (expr_at i fine.1).at pi (pi + size i) (None ∷ p) item has_i h' (inl h') in
          (expr_at a fine.0).at pc pi p (evals i item) (has_front fetch pc _ _ has) at_i (inl at_i);
    }
    reach_at x fine = absurd fine

    each_at : (args : TypedTrees) → FineEach functions repeated params locals args → ArgsAt (evals_each args) (l.parts classes repeating params b args) (nothings args)
    each_at e.none fine = tt
    each_at (e.more a rest) fine = (record { at = λ pc p k has there. (expr_at a fine.0).at pc (pc + size a) p k has there (inl there) }, each_at rest fine.1)

    given_at : (ps : List BoardParameter) (args : TypedTrees) → FineGiven functions repeated params locals ps args → ArgsAt (evals_each args) (l.parts classes repeating params b args) (marks args)
    given_at [] e.none fine = tt
    given_at (Of u ∷ ps) (e.more a rest) fine = (arg_of a fine.0 (expr_at a fine.0), given_at ps rest fine.1)
    given_at (Handler ∷ ps) (e.more (e.Handler u f) rest) fine = (handler_at u f, given_at ps rest fine.1)
    given_at (Handler ∷ ps) (e.more a rest) fine = absurd fine.0
    given_at ps args fine = absurd fine
