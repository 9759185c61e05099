-- What isn't live where the code of an expression begins.
use Rattle.std.proofs.Common.{◌≡◌, ℕ, zero, suc, ◌+◌, ◌<◌, ◌≤◌, List, [], ◌∷◌, ◌++◌, length, Some, None, Bool, true, false, refl, sym, ap, ◌∙◌, arith, slice_get}
use Rattle.std.specs.Prelude.{ℤ, pos}
use Rattle.flat_ir.specs.declared.ops.Op.{Op}
use Rattle.flat_ir.specs.declared.ops.Op.TheVariants as o
use Rattle.sts_syntax.specs.declared.typed.Spot.{Spot}
use Rattle.sts_syntax.specs.declared.typed.Spot.TheVariants.{Param, Local, Global}
use Rattle.sts_syntax.specs.declared.typed.Callee.{Callee}
use Rattle.sts_syntax.specs.declared.typed.Callee.TheVariants as c
use Rattle.sts_syntax.specs.Types.{ValueType}
use Rattle.sts_syntax.specs.TypedTrees as e
use Rattle.sts_syntax.specs.TypedTrees.{TypedTree, TypedTrees, TypedProgram}
use Rattle.sts_syntax.specs.BoardTable as b
use Rattle.sts_syntax.specs.BoardTable.{BoardParameter, ServicePlace, Written, Always, BoardAction, Service, Library, Repeats, row_of, placed, arranged}
use Rattle.sts_syntax.specs.Measures.{total, argument_sizes}
use Rattle.sts_syntax.specs.TypeRules.{IsOneOf}
use Rattle.sts_syntax.specs.WellTyped.{Setting, IsTyped, IsTarget, AreGiven, AreItems, Has, parameters_of}
use Rattle.sts_lower.specs.Sizes.{Target, ToName, ToField, ToItem, ToNothing, target, store_size, bump_size, action_size, call_size, items_size, size, sizes, reach_size}
use Rattle.sts_lower.specs.Code as l
use Rattle.sts_lower.specs.Code.{Part, span, handler_of, maker_of}
use Rattle.lowered_code.proofs.Lengths.{AreLong, sizes_of, arguments_long, arguments_sizes, parts_sizes, parts_length, code_length, parts_long, reach_length}
use Rattle.lowered_code.proofs.Entries.{entry_within}
use Rattle.lowered_code.proofs.Dead.{IsDead, Avoids, Stands, plain, jump, branch, moved, front, back, shift}

-- in a function of a program, for one temporary that is no parameter
module _ (P : TypedProgram) (S : Setting) (repeating : ℕ → ℕ) (ops : List Op) (t : ℕ) (past : length S.routine.params ≤ t) where
  abbrev pub params : ℕ
  params = length S.routine.params

  abbrev pub base : ℕ
  base = params + length S.routine.locals

  abbrev pub cd : TypedTree → (d at next : ℕ) → List Op
  cd a d at next = l.code P.classes repeating params base a d at next

  -- it is no local that is known
  pub record IsFree (known : List ℕ) : Type 0 where
    pub free : (i : ℕ) → IsOneOf i known → t ≡ params + i → ⊥

  abbrev pub SpotFree : Spot → Type 0
  SpotFree (Param i) = t ≡ i → ⊥
  SpotFree (Local i) = t ≡ params + i → ⊥
  SpotFree (Global g) = Unit {0}

  pub spot_free : (known : List ℕ) → IsFree known → (x : Spot) (u : ValueType) → Has P S known x u → SpotFree x
  spot_free known f (Param i) u h = let low : i < length S.routine.params = entry_within S.routine.params i u h in λ e. omega arith
  spot_free known f (Local i) u h = f.free i h.0
  spot_free known f (Global g) u h = tt

  -- it isn't this operand
  abbrev pub Clear : ℕ → Type 0
  Clear d = t ≡ base + d → ⊥

  -- nor one of k operands from d on
  abbrev pub Apart : ℕ → ℕ → Type 0
  Apart d k = (j : ℕ) → j < k → Clear (d + j)

  pub apart_more : (d k : ℕ) → Clear d → Apart (suc d) k → Apart d (suc k)
  apart_more d k ne h zero lt = λ e. ne (omega arith)
  apart_more d k ne h (suc j) lt = λ e. h j (omega arith) (omega arith)

  span_avoids : (d k : ℕ) (rest : List ℕ) → Apart d k → Avoids ops t rest → Avoids ops t (span (base + d) k rest)
  span_avoids d zero rest h r = r
  span_avoids d (suc k) rest h r = span_avoids d k ((base + d + k) ∷ rest) (λ j lt. h j (omega arith)) (λ e. h k (omega arith) (omega arith), r)

  -- for paths of fewer than n ops
  module _ (n : ℕ) where
    abbrev Dead : ℕ → Type 0
    Dead at = IsDead ops t n at

    -- an argument's code
    pub record PartDead (q : Part) : Type 0 where
      pub dead : (d at : ℕ) → Stands ops t at (q.ops d at) → (Clear d → Dead (at + q.size)) → Dead at

    abbrev pub PartsDead : List Part → Type 0
    PartsDead [] = Unit {0}
    PartsDead (q ∷ qs) = PartDead q × PartsDead qs

    parts_dead : (qs : List Part) (d at p : ℕ) → AreLong qs → PartsDead qs → Stands ops t at (l.parts_code P.classes repeating params base qs d at) → at + total (sizes_of qs) ≡ p → (Apart d (length qs) → Dead p) → Dead at
    parts_dead [] d at p long h st e go = moved ops t n p at (omega arith) (go (λ j lt. absurd (omega arith)))
    parts_dead (q ∷ qs) d at p long h st e go =
        let rest = back ops t (q.ops d at) (l.parts_code P.classes repeating params base qs (suc d) (at + q.size)) at (at + q.size) (ap (λ (k : ℕ). at + k) (long.0.long d at)) st in
        h.0.dead d at (front ops t (q.ops d at) (l.parts_code P.classes repeating params base qs (suc d) (at + q.size)) at st)
        (λ ne. parts_dead qs (suc d) (at + q.size) p long.1 h.1 rest (omega arith) (λ apart. go (apart_more d (length qs) ne apart)))

    items_dead : (qs : List Part) (d at p : ℕ) → AreLong qs → PartsDead qs → Stands ops t at (l.items_code P.classes repeating params base qs d at) → at + items_size (sizes_of qs) ≡ p → Clear d → Dead p → Dead at
    items_dead [] d at p long h st e ne go = moved ops t n p at (omega arith) go
    items_dead (q ∷ qs) d at p long h st e ne go =
        let p1 = at + q.size in
        let last = o.Ask (base + suc d) 19 ((base + d) ∷ ((base + suc d) ∷ [])) ∷ l.items_code P.classes repeating params base qs d (p1 + 1) in
        let rest = back ops t (q.ops (suc d) at) last at p1 (ap (λ (k : ℕ). at + k) (long.0.long (suc d) at)) st in
        h.0.dead (suc d) at (front ops t (q.ops (suc d) at) last at st)
        (λ ne'. plain ops t n p1 (p1 + 1) (o.Ask (base + suc d) 19 ((base + d) ∷ ((base + suc d) ∷ []))) rest.0 refl (omega arith) (ne, (ne', tt))
        (λ w. items_dead qs d (p1 + 1) p long.1 h.1 (shift ops t (l.items_code P.classes repeating params base qs d (p1 + 1)) (suc p1) (p1 + 1) (omega arith) rest.1) (omega arith) ne go))

    number_dead : (k : ℤ) → PartDead (l.number_part P.classes repeating params base k)
    number_dead k = record { dead = λ d at st go. plain ops t n at (at + 1) (o.Const (base + d) k) st.0 refl (omega arith) tt go }

    placed_dead : (ps : List ServicePlace) (qs : List Part) → PartsDead qs → PartsDead (placed (l.number_part P.classes repeating params base) ps qs)
    placed_dead [] qs h = h
    placed_dead (Written ∷ ps) [] h = placed_dead ps [] h
    placed_dead (Written ∷ ps) (q ∷ qs) h = (h.0, placed_dead ps qs h.1)
    placed_dead (Always k ∷ ps) qs h = (number_dead k, placed_dead ps qs h)

    arranged_dead : (action : BoardAction) (qs : List Part) → PartsDead qs → PartsDead (arranged (l.number_part P.classes repeating params base) action qs)
    arranged_dead (Service k ps) qs h = placed_dead ps qs h
    arranged_dead (Library f) qs h = h
    arranged_dead Repeats qs h = h

    arguments_dead : (f : Callee) (qs : List Part) → PartsDead qs → PartsDead (l.arguments P.classes repeating params base f qs)
    arguments_dead (c.Board call) qs h = arranged_dead (row_of call).action qs h
    arguments_dead (c.Function f) qs h = h
    arguments_dead (c.Slot f) qs h = h
    arguments_dead c.Push qs h = h
    arguments_dead c.Pop qs h = h

    -- an array's last item is taken from an argument
    abbrev HasArray : Callee → ℕ → Type 0
    HasArray (c.Board call) k = Unit {0}
    HasArray (c.Function f) k = Unit {0}
    HasArray (c.Slot s) k = Unit {0}
    HasArray c.Push k = Unit {0}
    HasArray c.Pop k = 0 < k

    action_dead : (action : BoardAction) (handler d k p q : ℕ) → Stands ops t p (l.action_code P.classes repeating params base action handler d k) → Apart d k → p + action_size action ≡ q → (Clear d → Dead q) → Dead p
    action_dead (Service number ps) handler d k p q st h e go = plain ops t n p q (o.Ask (base + d) number (span (base + d) k [])) st.0 refl (omega arith) (span_avoids d k [] h tt) go
    action_dead (Library f) handler d k p q st h e go = plain ops t n p q (o.Const (base + d) (pos 0)) st.0 refl (omega arith) tt go
    action_dead Repeats handler d k p q st h e go =
        plain ops t n p (suc p) (o.HandlerOf (base + d) (repeating handler)) st.0 refl refl tt
        (λ ne. plain ops t n (suc p) q (o.Ask (base + d) 4 ((base + d) ∷ [])) st.1.0 refl (omega arith) (ne, tt) go)

    call_dead : (f : Callee) (handler d k p q : ℕ) → Stands ops t p (l.call_code P.classes repeating params base f handler d k) → HasArray f k → Apart d k → p + call_size f ≡ q → (Clear d → Dead q) → Dead p
    call_dead (c.Board call) handler d k p q st has h e go = action_dead (row_of call).action handler d k p q st h e go
    call_dead (c.Function f) handler d k p q st has h e go = plain ops t n p q (o.Call (base + d) f (span (base + d) k [])) st.0 refl (omega arith) (span_avoids d k [] h tt) go
    call_dead (c.Slot s) handler d k p q st has h e go = plain ops t n p q (o.CallSlot (base + d) s (span (base + d) k [])) st.0 refl (omega arith) (span_avoids d k [] h tt) go
    call_dead c.Push handler d k p q st has h e go = plain ops t n p q (o.Ask (base + d) 19 (span (base + d) k [])) st.0 refl (omega arith) (span_avoids d k [] h tt) go
    call_dead c.Pop handler d k p q st has h e go = plain ops t n p q (o.Pop (base + d) (base + d)) st.0 refl (omega arith) (λ e. h 0 has (omega arith), tt) go

    calls_dead : (f : Callee) (args : TypedTrees) (d at p : ℕ) → PartsDead (l.parts P.classes repeating params base args) → HasArray f (length (l.arguments P.classes repeating params base f (l.parts P.classes repeating params base args)))
        → (let all = l.arguments P.classes repeating params base f (l.parts P.classes repeating params base args) in Stands ops t at (l.parts_code P.classes repeating params base all d at ++ l.call_code P.classes repeating params base f (handler_of args) d (length all)))
        → at + (total (argument_sizes 1 f (sizes args)) + call_size f) ≡ p → (Clear d → Dead p) → Dead at
    calls_dead f args d at p h has st e go =
        let qs = l.parts P.classes repeating params base args in
        let all = l.arguments P.classes repeating params base f qs in
        let long = arguments_long P.classes repeating params base f qs (parts_long P.classes repeating params base args) in
        let sum : total (sizes_of all) ≡ total (argument_sizes 1 f (sizes args)) =
        ap total (arguments_sizes P.classes repeating params base f qs) ∙ ap (λ (ns : List ℕ). total (argument_sizes 1 f ns)) (parts_sizes P.classes repeating params base args) in
        let p1 = at + total (sizes_of all) in
        let xs = l.parts_code P.classes repeating params base all d at in
        let ys = l.call_code P.classes repeating params base f (handler_of args) d (length all) in
        parts_dead all d at p1 long (arguments_dead f qs h) (front ops t xs ys at st) refl
        (λ apart. call_dead f (handler_of args) d (length all) p1 p (back ops t xs ys at p1 (ap (λ (k : ℕ). at + k) (parts_length P.classes repeating params base all d at long)) st) has apart (omega arith) go)

    -- a call of a method or constructor of the base, on the function's own object
    pub super_dead : (u : ValueType) (f : ℕ) (args : TypedTrees) (d at next : ℕ) → 0 < params → PartsDead (l.parts P.classes repeating params base args) → Stands ops t at (cd (e.SuperCall u f args) d at next) → (Clear d → Dead (at + size (e.SuperCall u f args))) → Dead at
    super_dead u f args d at next some h st go =
        let qs = l.parts P.classes repeating params base args in
        let long = parts_long P.classes repeating params base args in
        let sum : total (sizes_of qs) ≡ total (sizes args) = ap total (parts_sizes P.classes repeating params base args) in
        let xs = l.parts_code P.classes repeating params base qs (suc d) (at + 1) in
        let call = o.Call (base + d) f (span (base + d) (suc (length qs)) []) in
        let st' = shift ops t (xs ++ call ∷ []) (suc at) (at + 1) (omega arith) st.1 in
        let p1 = at + 1 + total (sizes_of qs) in
        plain ops t n at (at + 1) (o.Copy (base + d) 0) st.0 refl (omega arith) (λ e. omega arith, tt)
        (λ ne. parts_dead qs (suc d) (at + 1) p1 long h (front ops t xs (call ∷ []) (at + 1) st') refl
        (λ apart. plain ops t n p1 (at + size (e.SuperCall u f args)) call (back ops t xs (call ∷ []) (at + 1) p1 (ap (λ (k : ℕ). at + 1 + k) (parts_length P.classes repeating params base qs (suc d) (at + 1) long)) st').0 refl (omega arith)
        (span_avoids d (suc (length qs)) [] (apart_more d (length qs) ne apart) tt) go))

    -- targets: the operands that one has are written
    abbrev Held : Target → ℕ → Type 0
    Held (ToName x) d = Unit {0}
    Held (ToField f) d = Clear d
    Held ToItem d = Clear d × Clear (suc d)
    Held ToNothing d = Unit {0}

    abbrev TargetFree : Target → Type 0
    TargetFree (ToName x) = SpotFree x
    TargetFree (ToField f) = Unit {0}
    TargetFree ToItem = Unit {0}
    TargetFree ToNothing = Unit {0}

    get_dead : (x : Spot) (to p q : ℕ) → SpotFree x → slice_get ops p ≡ Some (l.get_op params to x) → suc p ≡ q → ((t ≡ to → ⊥) → Dead q) → Dead p
    get_dead (Param i) to p q f g e go = plain ops t n p q (o.Copy to i) g refl e (f, tt) go
    get_dead (Local i) to p q f g e go = plain ops t n p q (o.Copy to (params + i)) g refl e (f, tt) go
    get_dead (Global k) to p q f g e go = plain ops t n p q (o.GlobalGet to k) g refl e tt go

    pub set_dead : (x : Spot) (from p q : ℕ) → (t ≡ from → ⊥) → slice_get ops p ≡ Some (l.set_op params from x) → suc p ≡ q → (SpotFree x → Dead q) → Dead p
    set_dead (Param i) from p q f g e go = plain ops t n p q (o.Copy i from) g refl e (f, tt) go
    set_dead (Local i) from p q f g e go = plain ops t n p q (o.Copy (params + i) from) g refl e (f, tt) go
    set_dead (Global k) from p q f g e go = plain ops t n p q (o.GlobalSet k from) g refl e (f, tt) go

    read_dead : (x : Target) (d p q : ℕ) → TargetFree x → Held x d → slice_get ops p ≡ Some (l.read_code P.classes repeating params base x d) → suc p ≡ q → (Clear (l.stored_at P.classes repeating params base x d) → Dead q) → Dead p
    read_dead (ToName x) d p q f h g e go = get_dead x (base + d) p q f g e go
    read_dead (ToField k) d p q f h g e go = plain ops t n p q (o.FieldGet (base + suc d) (base + d) k) g refl e (h, tt) go
    read_dead ToItem d p q f h g e go = plain ops t n p q (o.ItemGet (base + suc (suc d)) (base + d) (base + suc d)) g refl e (h.0, (h.1, tt)) go
    read_dead ToNothing d p q f h g e go = plain ops t n p q (o.Const (base + d) (pos 0)) g refl e tt go

    store_dead : (x : Target) (d p q : ℕ) → Held x d → Clear (l.stored_at P.classes repeating params base x d) → Stands ops t p (l.store_code P.classes repeating params base x d) → p + store_size x ≡ q → (Clear d → Dead q) → Dead p
    store_dead (ToName x) d p q h ne st e go = set_dead x (base + d) p q ne st.0 (omega arith) (λ w. go ne)
    store_dead (ToField k) d p q h ne st e go =
        plain ops t n p (suc p) (o.FieldSet (base + d) k (base + suc d)) st.0 refl refl (h, (ne, tt))
        (λ w. plain ops t n (suc p) q (o.Copy (base + d) (base + suc d)) st.1.0 refl (omega arith) (ne, tt) go)
    store_dead ToItem d p q h ne st e go =
        plain ops t n p (suc p) (o.ItemSet (base + d) (base + suc d) (base + suc (suc d))) st.0 refl refl (h.0, (h.1, (ne, tt)))
        (λ w. plain ops t n (suc p) q (o.Copy (base + d) (base + suc (suc d))) st.1.0 refl (omega arith) (ne, tt) go)
    store_dead ToNothing d p q h ne st e go = moved ops t n q p (omega arith) (go ne)

    bumped_dead : (by : ℤ) (late : Bool) (to from p q : ℕ) → (t ≡ from → ⊥) → slice_get ops p ≡ Some (l.bumped_op by late to from) → suc p ≡ q → ((t ≡ to → ⊥) → Dead q) → Dead p
    bumped_dead by true to from p q f g e go = plain ops t n p q (o.Unary to (l.unbump_op by) from) g refl e (f, tt) go
    bumped_dead by false to from p q f g e go = plain ops t n p q (o.Copy to from) g refl e (f, tt) go

    bump_dead : (x : Target) (by : ℤ) (late : Bool) (d p q : ℕ) → TargetFree x → Held x d → Stands ops t p (l.bump_code P.classes repeating params base x by late d) → p + bump_size x late ≡ q → (Clear d → Dead q) → Dead p
    bump_dead (ToName (Param i)) by late d p q f h st e go =
        plain ops t n p (suc p) (o.Unary i (l.bump_op by) i) st.0 refl refl (f, tt) (λ w. bumped_dead by late (base + d) i (suc p) q f st.1.0 (omega arith) go)
    bump_dead (ToName (Local i)) by late d p q f h st e go =
        plain ops t n p (suc p) (o.Unary (params + i) (l.bump_op by) (params + i)) st.0 refl refl (f, tt) (λ w. bumped_dead by late (base + d) (params + i) (suc p) q f st.1.0 (omega arith) go)
    bump_dead (ToName (Global k)) by true d p q f h st e go =
        plain ops t n p (suc p) (o.GlobalGet (base + d) k) st.0 refl refl tt
        (λ ne. plain ops t n (suc p) (suc (suc p)) (o.Unary (base + d) (l.bump_op by) (base + d)) st.1.0 refl refl (ne, tt)
        (λ w. plain ops t n (suc (suc p)) (suc (suc (suc p))) (o.GlobalSet k (base + d)) st.1.1.0 refl refl (ne, tt)
        (λ w. bumped_dead by true (base + d) (base + d) (suc (suc (suc p))) q ne st.1.1.1.0 (omega arith) go)))
    bump_dead (ToName (Global k)) by false d p q f h st e go =
        plain ops t n p (suc p) (o.GlobalGet (base + d) k) st.0 refl refl tt
        (λ ne. plain ops t n (suc p) (suc (suc p)) (o.Unary (base + d) (l.bump_op by) (base + d)) st.1.0 refl refl (ne, tt)
        (λ w. plain ops t n (suc (suc p)) q (o.GlobalSet k (base + d)) st.1.1.0 refl (omega arith) (ne, tt) (λ w. go ne)))
    bump_dead (ToField k) by late d p q f h st e go =
        plain ops t n p (suc p) (o.FieldGet (base + suc d) (base + d) k) st.0 refl refl (h, tt)
        (λ ne. plain ops t n (suc p) (suc (suc p)) (o.Unary (base + suc d) (l.bump_op by) (base + suc d)) st.1.0 refl refl (ne, tt)
        (λ w. plain ops t n (suc (suc p)) (suc (suc (suc p))) (o.FieldSet (base + d) k (base + suc d)) st.1.1.0 refl refl (h, (ne, tt))
        (λ w. bumped_dead by late (base + d) (base + suc d) (suc (suc (suc p))) q ne st.1.1.1.0 (omega arith) go)))
    bump_dead ToItem by late d p q f h st e go =
        plain ops t n p (suc p) (o.ItemGet (base + suc (suc d)) (base + d) (base + suc d)) st.0 refl refl (h.0, (h.1, tt))
        (λ ne. plain ops t n (suc p) (suc (suc p)) (o.Unary (base + suc (suc d)) (l.bump_op by) (base + suc (suc d))) st.1.0 refl refl (ne, tt)
        (λ w. plain ops t n (suc (suc p)) (suc (suc (suc p))) (o.ItemSet (base + d) (base + suc d) (base + suc (suc d))) st.1.1.0 refl refl (h.0, (h.1, (ne, tt)))
        (λ w. bumped_dead by late (base + d) (base + suc (suc d)) (suc (suc (suc p))) q ne st.1.1.1.0 (omega arith) go)))
    bump_dead ToNothing by late d p q f h st e go = plain ops t n p q (o.Const (base + d) (pos 0)) st.0 refl (omega arith) tt go

    -- what stands in front of the ops behind an expression, and those ops
    head : (a : TypedTree) (d at next : ℕ) (ys : List Op) → Stands ops t at (cd a d at next ++ ys) → Stands ops t at (cd a d at next)
    head a d at next ys st = front ops t (cd a d at next) ys at st

    tail : (a : TypedTree) (d at next : ℕ) (ys : List Op) → Stands ops t at (cd a d at next ++ ys) → Stands ops t (at + size a) ys
    tail a d at next ys st = back ops t (cd a d at next) ys at (at + size a) (ap (λ (k : ℕ). at + k) (code_length P.classes repeating params base a d at next)) st

    module _ (known : List ℕ) (f : IsFree known) where
      target_free : (x : TypedTree) → IsTarget P S known x → TargetFree (target x)
      target_free (e.Name u x) h = spot_free known f x u h
      target_free (e.Field u a k) h = tt
      target_free (e.Item u a i) h = tt
      target_free x h = absurd h

      mutual
        pub typed_dead : (a : TypedTree) → IsTyped P S known a → (d at next : ℕ) → Stands ops t at (cd a d at next) → (Clear d → Dead (at + size a)) → (Clear d → Dead next) → Dead at
        typed_dead (e.Num u k) h d at next st end fin = plain ops t n at (at + 1) (o.Const (base + d) k) st.0 refl (omega arith) tt end
        typed_dead (e.Text u k) h d at next st end fin = plain ops t n at (at + 1) (o.TextOf (base + d) k) st.0 refl (omega arith) tt end
        typed_dead (e.Truth u k) h d at next st end fin = plain ops t n at (at + 1) (o.Const (base + d) (l.truth_number k)) st.0 refl (omega arith) tt end
        typed_dead (e.Null u) h d at next st end fin = plain ops t n at (at + 1) (o.Const (base + d) (pos 0)) st.0 refl (omega arith) tt end
        typed_dead (e.This u) h d at next st end fin =
            (let low : 0 < length S.routine.params = entry_within S.routine.params 0 u h.1 in plain ops t n at (at + 1) (o.Copy (base + d) 0) st.0 refl (omega arith) (λ e. omega arith, tt) end)
        typed_dead (e.Name u x) h d at next st end fin = get_dead x (base + d) at (at + 1) (spot_free known f x u h) st.0 (omega arith) end
        typed_dead (e.Unary u op a) h d at next st end fin =
            (let p = at + size a in let ys = o.Unary (base + d) op (base + d) ∷ [] in let st' = tail a d at p ys st in
            let go : Clear d → Dead p = λ ne. plain ops t n p (at + (size a + 1)) (o.Unary (base + d) op (base + d)) st'.0 refl (omega arith) (ne, tt) end in
            typed_dead a h.0 d at p (head a d at p ys st) go go)
        typed_dead (e.Binary u op x y) h d at next st end fin =
            (let p = at + size x in let q = p + size y in let zs = o.Binary (base + d) op (base + d) (base + suc d) ∷ [] in let ys = cd y (suc d) p q ++ zs in
            let st' = tail x d at p ys st in let st'' = tail y (suc d) p q zs st' in
            let go : Clear d → Dead p = (λ ne.
            let on : Clear (suc d) → Dead q = λ ne'. plain ops t n q (at + (size x + size y + 1)) (o.Binary (base + d) op (base + d) (base + suc d)) st''.0 refl (omega arith) (ne, (ne', tt)) end in
            typed_dead y h.1 (suc d) p q (head y (suc d) p q zs st') on on) in
            typed_dead x h.0 d at p (head x d at p ys st) go go)
        typed_dead (e.Both u x y) h d at next st end fin =
            (let p = at + size x in let py = p + 1 + 1 in let ys = o.Branch (base + d) py ∷ (o.Jump next ∷ cd y d py next) in
            let st' = tail x d at p ys st in
            let same : py + size y ≡ at + (size x + 1 + 1 + size y) = omega arith in
            let go : Clear d → Dead p = (λ ne. branch ops t n p (base + d) py (suc p) st'.0 ne refl
            (typed_dead y h.1 d py next (shift ops t (cd y d py next) (suc (suc p)) py (omega arith) st'.1.1) (λ w. moved ops t n (at + (size x + 1 + 1 + size y)) (py + size y) (sym same) (end w)) fin)
            (jump ops t n (suc p) next st'.1.0 (fin ne))) in
            typed_dead x h.0 d at p (head x d at p ys st) go go)
        typed_dead (e.Either u x y) h d at next st end fin =
            (let p = at + size x in let py = p + 1 in let ys = o.Branch (base + d) next ∷ cd y d py next in
            let st' = tail x d at p ys st in
            let same : py + size y ≡ at + (size x + 1 + size y) = omega arith in
            let go : Clear d → Dead p = (λ ne. branch ops t n p (base + d) next py st'.0 ne (omega arith) (fin ne)
            (typed_dead y h.1 d py next (shift ops t (cd y d py next) (suc p) py (omega arith) st'.1) (λ w. moved ops t n (at + (size x + 1 + size y)) (py + size y) (sym same) (end w)) fin)) in
            typed_dead x h.0 d at p (head x d at p ys st) go go)
        typed_dead (e.Choice u test x y) h d at next st end fin =
            (let p = at + size test in let py = p + 1 in let px = p + 1 + size y + 1 in let zs = o.Jump next ∷ cd x d px next in let ys = o.Branch (base + d) px ∷ (cd y d py next ++ zs) in
            let st' = tail test d at p ys st in let sty = shift ops t (cd y d py next ++ zs) (suc p) py (omega arith) st'.1 in let stx = tail y d py next zs sty in
            let same : px + size x ≡ at + (size test + 1 + size y + 1 + size x) = omega arith in
            let go : Clear d → Dead p = (λ ne. branch ops t n p (base + d) px py st'.0 ne (omega arith)
            (typed_dead x h.1 d px next (shift ops t (cd x d px next) (suc (py + size y)) px (omega arith) stx.1) (λ w. moved ops t n (at + (size test + 1 + size y + 1 + size x)) (px + size x) (sym same) (end w)) fin)
            (typed_dead y h.2 d py next (head y d py next zs sty) (λ w. jump ops t n (py + size y) next stx.0 (fin w)) fin)) in
            typed_dead test h.0 d at p (head test d at p ys st) go go)
        typed_dead (e.Set u None x r) h d at next st end fin =
            (let v = l.stored_at P.classes repeating params base (target x) d in let p = at + reach_size x in let q = p + size r in
            let xs = l.reach_code P.classes repeating params base x d at in let zs = l.store_code P.classes repeating params base (target x) d in let ys = cd r v p q ++ zs in
            let st' = back ops t xs ys at p (ap (λ (k : ℕ). at + k) (reach_length P.classes repeating params base x d at)) st in
            reach_dead x h.0 d at p (front ops t xs ys at st) refl
            (λ held. let on : Clear v → Dead q = λ ne. store_dead (target x) d q (at + (reach_size x + size r + store_size (target x))) held ne (tail r v p q zs st') (omega arith) end in
            typed_dead r h.1 v p q (head r v p q zs st') on on))
        typed_dead (e.Set u (Some op) x r) h d at next st end fin =
            (let v = l.stored_at P.classes repeating params base (target x) d in let p = at + reach_size x in let p1 = p + 1 in let q = p1 + size r in
            let xs = l.reach_code P.classes repeating params base x d at in let zs = o.Binary (base + v) op (base + v) (base + suc v) ∷ l.store_code P.classes repeating params base (target x) d in
            let ys = l.read_code P.classes repeating params base (target x) d ∷ (cd r (suc v) p1 q ++ zs) in
            let st' = back ops t xs ys at p (ap (λ (k : ℕ). at + k) (reach_length P.classes repeating params base x d at)) st in
            let str = shift ops t (cd r (suc v) p1 q ++ zs) (suc p) p1 (omega arith) st'.1 in let stz = tail r (suc v) p1 q zs str in
            reach_dead x h.0 d at p (front ops t xs ys at st) refl
            (λ held. read_dead (target x) d p p1 (target_free x h.0) held st'.0 (omega arith)
            (λ ne. let on : Clear (suc v) → Dead q = (λ ne'. plain ops t n q (suc q) (o.Binary (base + v) op (base + v) (base + suc v)) stz.0 refl refl (ne, (ne', tt))
            (λ w. store_dead (target x) d (suc q) (at + (reach_size x + 1 + size r + 1 + store_size (target x))) held ne stz.1 (omega arith) end)) in
            typed_dead r h.1 (suc v) p1 q (head r (suc v) p1 q zs str) on on)))
        typed_dead (e.Bump u x by late) h d at next st end fin =
            (let p = at + reach_size x in let xs = l.reach_code P.classes repeating params base x d at in let ys = l.bump_code P.classes repeating params base (target x) by late d in
            let st' = back ops t xs ys at p (ap (λ (k : ℕ). at + k) (reach_length P.classes repeating params base x d at)) st in
            reach_dead x h.0 d at p (front ops t xs ys at st) refl
            (λ held. bump_dead (target x) by late d p (at + (reach_size x + bump_size (target x) late)) (target_free x h.0) held st' (omega arith) end))
        typed_dead (e.Field u a k) h d at next st end fin =
            (let p = at + size a in let ys = o.FieldGet (base + d) (base + d) k ∷ [] in let st' = tail a d at p ys st in
            let go : Clear d → Dead p = λ ne. plain ops t n p (at + (size a + 1)) (o.FieldGet (base + d) (base + d) k) st'.0 refl (omega arith) (ne, tt) end in
            typed_dead a h.0 d at p (head a d at p ys st) go go)
        typed_dead (e.Length u a) h d at next st end fin =
            (let p = at + size a in let ys = o.Length (base + d) (base + d) ∷ [] in let st' = tail a d at p ys st in
            let go : Clear d → Dead p = λ ne. plain ops t n p (at + (size a + 1)) (o.Length (base + d) (base + d)) st'.0 refl (omega arith) (ne, tt) end in
            typed_dead a h.0 d at p (head a d at p ys st) go go)
        typed_dead (e.Item u x y) h d at next st end fin =
            (let p = at + size x in let q = p + size y in let zs = o.ItemGet (base + d) (base + d) (base + suc d) ∷ [] in let ys = cd y (suc d) p q ++ zs in
            let st' = tail x d at p ys st in let st'' = tail y (suc d) p q zs st' in
            let go : Clear d → Dead p = (λ ne.
            let on : Clear (suc d) → Dead q = λ ne'. plain ops t n q (at + (size x + size y + 1)) (o.ItemGet (base + d) (base + d) (base + suc d)) st''.0 refl (omega arith) (ne, (ne', tt)) end in
            typed_dead y h.1 (suc d) p q (head y (suc d) p q zs st') on on) in
            typed_dead x h.0 d at p (head x d at p ys st) go go)
        typed_dead (e.Call u (c.Function k) args) h d at next st end fin =
            calls_dead (c.Function k) args d at (at + size (e.Call u (c.Function k) args)) (given_dead (parameters_of h.0.params) args h.2) tt st refl end
        typed_dead (e.Call u (c.Slot k) (e.more a rest)) h d at next st end fin =
            calls_dead (c.Slot k) (e.more a rest) d at (at + size (e.Call u (c.Slot k) (e.more a rest)))
            (record { dead = λ d at st go. typed_dead a h.2 d at (at + size a) st go go }, given_dead (parameters_of h.1) rest h.5) tt st refl end
        typed_dead (e.Call u (c.Slot k) e.none) h d at next st end fin = absurd h
        typed_dead (e.Call u c.Push (e.more x (e.more y e.none))) h d at next st end fin =
            calls_dead c.Push (e.more x (e.more y e.none)) d at (at + size (e.Call u c.Push (e.more x (e.more y e.none))))
            (record { dead = λ d at st go. typed_dead x h.0 d at (at + size x) st go go }, (record { dead = λ d at st go. typed_dead y h.1 d at (at + size y) st go go }, tt)) tt st refl end
        typed_dead (e.Call u c.Push e.none) h d at next st end fin = absurd h
        typed_dead (e.Call u c.Push (e.more x e.none)) h d at next st end fin = absurd h
        typed_dead (e.Call u c.Push (e.more x (e.more y (e.more z rest)))) h d at next st end fin = absurd h
        typed_dead (e.Call u c.Pop (e.more x e.none)) h d at next st end fin =
            calls_dead c.Pop (e.more x e.none) d at (at + size (e.Call u c.Pop (e.more x e.none))) (record { dead = λ d at st go. typed_dead x h.0 d at (at + size x) st go go }, tt) (omega arith) st refl end
        typed_dead (e.Call u c.Pop e.none) h d at next st end fin = absurd h
        typed_dead (e.Call u c.Pop (e.more x (e.more y rest))) h d at next st end fin = absurd h
        typed_dead (e.Call u (c.Board call) args) h d at next st end fin =
            calls_dead (c.Board call) args d at (at + size (e.Call u (c.Board call) args)) (given_dead (row_of call).takes args h.0) tt st refl end
        typed_dead (e.SuperCall u k args) h d at next st end fin =
            super_dead u k args d at next (entry_within S.routine.params 0 _ h.1.5.1) (given_dead (parameters_of h.0) args h.2) st end
        typed_dead (e.Make u k args) h d at next st end fin =
            (let qs = l.parts P.classes repeating params base args in let long = parts_long P.classes repeating params base args in
            let sum : total (sizes_of qs) ≡ total (sizes args) = ap total (parts_sizes P.classes repeating params base args) in
            let p = at + total (sizes_of qs) in let xs = l.parts_code P.classes repeating params base qs d at in
            let this = base + (length qs + d) in
            let call = o.Call (base + d) (maker_of P.classes k) (this ∷ span (base + d) (length qs) []) in
            let ys = o.MakeObject this k ∷ (call ∷ []) in
            let st' = back ops t xs ys at p (ap (λ (k : ℕ). at + k) (parts_length P.classes repeating params base qs d at long)) st in
            parts_dead qs d at p long (given_dead (parameters_of h.1) args h.4) (front ops t xs ys at st) refl
            (λ apart. plain ops t n p (suc p) (o.MakeObject this k) st'.0 refl refl tt
            (λ ne. plain ops t n (suc p) (at + (total (sizes args) + 1 + 1)) call st'.1.0 refl (omega arith) (ne, span_avoids d (length qs) [] apart tt) end)))
        typed_dead (e.Items u items) h d at next st end fin =
            (let qs = l.parts P.classes repeating params base items in let long = parts_long P.classes repeating params base items in
            let sum : items_size (sizes_of qs) ≡ items_size (sizes items) = ap items_size (parts_sizes P.classes repeating params base items) in
            let xs = l.items_code P.classes repeating params base qs d (at + 1) in
            plain ops t n at (at + 1) (o.MakeArray (base + d) (length qs)) st.0 refl (omega arith) tt
            (λ ne. items_dead qs d (at + 1) (at + (1 + items_size (sizes items))) long (list_dead h.0 items h.2) (shift ops t xs (suc at) (at + 1) (omega arith) st.1) (omega arith) ne (end ne)))
        typed_dead (e.Handler u k) h d at next st end fin = absurd h

        pub given_dead : (ps : List BoardParameter) (args : TypedTrees) → AreGiven P S known ps args → PartsDead (l.parts P.classes repeating params base args)
        given_dead [] e.none h = tt
        given_dead (b.Of u ∷ ps) (e.more a rest) h = (record { dead = λ d at st go. typed_dead a h.0 d at (at + size a) st go go }, given_dead ps rest h.2)
        given_dead (b.Handler ∷ ps) (e.more (e.Handler u k) rest) h = (record { dead = λ d at st go. plain ops t n at (at + 1) (o.HandlerOf (base + d) k) st.0 refl (omega arith) tt go }, given_dead ps rest h.1)
        given_dead (b.Handler ∷ ps) (e.more a rest) h = absurd h.0
        given_dead ps args h = absurd h

        list_dead : (u : ValueType) (items : TypedTrees) → AreItems P S known u items → PartsDead (l.parts P.classes repeating params base items)
        list_dead u e.none h = tt
        list_dead u (e.more a rest) h = (record { dead = λ d at st go. typed_dead a h.0 d at (at + size a) st go go }, list_dead u rest h.2)

        reach_dead : (x : TypedTree) → IsTarget P S known x → (d at p : ℕ) → Stands ops t at (l.reach_code P.classes repeating params base x d at) → at + reach_size x ≡ p → (Held (target x) d → Dead p) → Dead at
        reach_dead (e.Name u x) h d at p st eq go = moved ops t n p at (omega arith) (go tt)
        reach_dead (e.Field u a k) h d at p st eq go =
            (let on : Clear d → Dead (at + size a) = λ ne. moved ops t n p (at + size a) (sym eq) (go ne) in typed_dead a h.0 d at (at + size a) st on on)
        reach_dead (e.Item u x y) h d at p st eq go =
            (let p1 = at + size x in let q = p1 + size y in let ys = cd y (suc d) p1 q in
            let same : p ≡ q = omega arith in
            let on : Clear d → Dead p1 = (λ ne.
            let then' : Clear (suc d) → Dead q = λ ne'. moved ops t n p q same (go (ne, ne')) in
            typed_dead y h.1 (suc d) p1 q (tail x d at p1 ys st) then' then') in
            typed_dead x h.0 d at p1 (head x d at p1 ys st) on on)
        reach_dead x h d at p st eq go = absurd h
