-- What is typed stays so while the heap grows.
use Rattle.std.proofs.Common.{◌≡◌, ℕ, zero, suc, ◌+◌, ◌<◌, ◌≤◌, inl, inr, List, [], ◌∷◌, length, Option, Some, refl, ap, sym, ◌∙◌, subst, arith}
use Rattle.std.specs.Prelude.{get_or}
use Rattle.board_world.specs.Simulation.{Paired}
use Rattle.sts_syntax.specs.Types as t
use Rattle.sts_syntax.specs.Types.{ValueType}
use Rattle.sts_syntax.specs.TypedTrees.{TypedRoutine, TypedProgram}
use Rattle.sts_syntax.specs.TypeRules.{entry, Climbs, IsBelow, IsSubclass, TakesNull, GoesTo}
use Rattle.sts_syntax.specs.WellTyped.{Setting}
use Rattle.sts_meaning.specs.Values.{Value, Object, Outcome, Gives, Breaks, Stuck, then_gives, default}
use Rattle.sts_meaning.specs.Heaps.{Cell, Fields, Items, Heap, with_cell}
use Rattle.sts_meaning.specs.Frames.{Names, Frame, Activity, Starts, Runs, defaults, taken, before_these}
use Rattle.meaning_sound.specs.Sorts.{Sort, Of, Begins, Exactly, of_types, above, OfClass, OfItems, Shape, shape, Stands, Well, Is, IsA, Suits}
use Rattle.meaning_sound.specs.Kept.{IsCell, IsHeap, Holds, AreNamed, IsFrame, Wait, IsActivity}
use Rattle.meaning_sound.proofs.Lists.{some_same, paired_weak, every_weak, entry_cases}

-- all that stood still stands
abbrev pub Grows : Heap → Heap → Type 0
Grows h h' = (n : ℕ) (s : Shape) → Stands h n s → Stands h' n s

pub then_well : {X Y : Type 0} (Q : X → Type 0) (S : Y → Type 0) (o : Outcome X) (f : X → Outcome Y) → Well Q o → ((x : X) → Q x → Well S (f x)) → Well S (then_gives o f)
then_well Q S (Gives x) f h k = k x h
then_well Q S (Breaks code) f h k = tt
then_well Q S Stuck f h k = absurd h

module _ (P : TypedProgram) where
  -- the default has every type
  pub default_is : (h : Heap) (u : ValueType) → Is P h u default
  default_is h t.Number = tt
  default_is h t.Boolean = tt
  default_is h u = refl

  pub below_trans : (n d c b : ℕ) → Climbs P n d c → IsBelow P c b → IsBelow P d b
  below_trans zero d c b h k = subst (λ (x : ℕ). IsBelow P x b) (sym h) k
  below_trans (suc n) d c b h k = (let q = below_trans n h.1 c b h.4 k in (suc q.0, (h.0, h.1, h.2, h.3, q.1)))

  -- types that go to one another
  pub same_goes : (u : ValueType) → GoesTo P u u
  same_goes u = inl refl

  pub same_suits : (s : Sort) → Suits P s s
  same_suits (Of u) = same_goes u
  same_suits Begins = tt
  same_suits (Exactly n) = refl

  pub subclass_trans : (u v w : ValueType) → IsSubclass P u v → IsSubclass P v w → IsSubclass P u w
  subclass_trans (t.Object d) (t.Object c) (t.Object b) p q = below_trans p.0 d c b p.1 q
  subclass_trans (t.Object d) (t.Object c) t.Number p q = absurd q
  subclass_trans (t.Object d) (t.Object c) t.Boolean p q = absurd q
  subclass_trans (t.Object d) (t.Object c) t.Text p q = absurd q
  subclass_trans (t.Object d) (t.Object c) t.Nothing p q = absurd q
  subclass_trans (t.Object d) (t.Object c) (t.ListOf x) p q = absurd q
  subclass_trans (t.Object d) (t.Object c) t.NullType p q = absurd q
  subclass_trans u v w p q = absurd p

  null_to_base : (v w : ValueType) → TakesNull v → IsSubclass P v w → TakesNull w
  null_to_base (t.Object d) (t.Object c) p q = tt
  null_to_base v w p q = absurd q

  no_subclass_of_null : (u v : ValueType) → IsSubclass P u v → v ≡ t.NullType → ⊥
  no_subclass_of_null (t.Object d) (t.Object c) p e = cc
  no_subclass_of_null u v p e = absurd p

  null_takes_no_null : (v : ValueType) → TakesNull v → v ≡ t.NullType → ⊥
  null_takes_no_null v p e = (let Q : ValueType → Type 0 = TakesNull in subst Q e p)

  pub goes_trans : (u v w : ValueType) → GoesTo P u v → GoesTo P v w → GoesTo P u w
  goes_trans u v w (inl e) q = subst (λ (x : ValueType). GoesTo P x w) (sym e) q
  goes_trans u v w (inr p) (inl e) = subst (λ (x : ValueType). GoesTo P u x) e (inr p)
  goes_trans u v w (inr (inl p)) (inr (inl q)) = inr (inl (subclass_trans u v w p q))
  goes_trans u v w (inr (inl p)) (inr (inr q)) = absurd (no_subclass_of_null u v p q.0)
  goes_trans u v w (inr (inr p)) (inr (inl q)) = inr (inr (p.0, null_to_base v w p.1 q))
  goes_trans u v w (inr (inr p)) (inr (inr q)) = absurd (null_takes_no_null v p.1 q.0)

  pub suits_trans : (r s q : Sort) → Suits P r s → Suits P s q → Suits P r q
  suits_trans (Of u) (Of v) (Of w) g h = goes_trans u v w g h
  suits_trans Begins Begins Begins g h = tt
  suits_trans (Exactly n) (Exactly m) (Exactly l) g h = g ∙ h
  suits_trans (Of u) (Of v) Begins g h = absurd h
  suits_trans (Of u) (Of v) (Exactly n) g h = absurd h
  suits_trans (Of u) Begins q g h = absurd g
  suits_trans (Of u) (Exactly n) q g h = absurd g
  suits_trans Begins (Of v) q g h = absurd g
  suits_trans Begins (Exactly n) q g h = absurd g
  suits_trans Begins Begins (Of w) g h = absurd h
  suits_trans Begins Begins (Exactly n) g h = absurd h
  suits_trans (Exactly n) (Of v) q g h = absurd g
  suits_trans (Exactly n) Begins q g h = absurd g
  suits_trans (Exactly n) (Exactly m) (Of w) g h = absurd h
  suits_trans (Exactly n) (Exactly m) Begins g h = absurd h

  -- a value of a type is one of each type that it goes to
  subclass_is : (h : Heap) (u v : ValueType) (x : Value) → IsSubclass P u v → Is P h u x → Is P h v x
  subclass_is h (t.Object d) (t.Object c) (Object n) g p = (p.0, p.1, below_trans p.2.0 p.0 d c p.2.1 g)
  subclass_is h (t.Object d) (t.Object c) x g p = p
  subclass_is h u v x g p = absurd g

  pub goes_is : (h : Heap) (u v : ValueType) (x : Value) → GoesTo P u v → Is P h u x → Is P h v x
  goes_is h u v x (inl e) p = subst (λ (w : ValueType). Is P h w x) e p
  goes_is h u v x (inr (inl g)) p = subclass_is h u v x g p
  goes_is h u v x (inr (inr g)) p =
      (let e : Is P h t.NullType x = subst (λ (w : ValueType). Is P h w x) g.0 p in
      let q : x ≡ default = e in
      subst (λ (y : Value). Is P h v y) (sym q) (default_is h v))

  pub suits_is : (h : Heap) (r s : Sort) (x : Value) → Suits P r s → IsA P h r x → IsA P h s x
  suits_is h (Of u) (Of v) x g p = goes_is h u v x g p
  suits_is h Begins Begins x g p = p
  suits_is h (Exactly n) (Exactly m) x g p = subst (λ k. IsA P h (Exactly k) x) g p
  suits_is h _ _ x g p = absurd g

  module _ (h h' : Heap) (g : Grows h h') where
    pub is_on : (u : ValueType) (v : Value) → Is P h u v → Is P h' u v
    is_on (t.Object c) (Object n) p = (p.0, g n (OfClass p.0) p.1, p.2)
    is_on (t.ListOf u) (Object n) p = g n (OfItems u) p
    is_on u v p = p

    pub isa_on : (s : Sort) (v : Value) → IsA P h s v → IsA P h' s v
    isa_on (Of u) v p = is_on u v p
    isa_on Begins v p = p
    isa_on (Exactly n) v p = p

    pub holds_on : (ss : List Sort) (vs : List Value) → Holds P h ss vs → Holds P h' ss vs
    holds_on [] vs p = tt
    holds_on (s ∷ ss) (v ∷ vs) p = (isa_on s v p.0, holds_on ss vs p.1)
    holds_on (s ∷ ss) [] p = absurd p

    pub names_on : (R : TypedRoutine) (n : Names) → AreNamed P h R n → AreNamed P h' R n
    names_on R n p = record { params = λ i u e. is_on u (n.params i) (p.params i u e); locals = λ i u e. is_on u (n.locals i) (p.locals i u e) }

    pub frame_on : (given : List Sort) (frame : Frame) (S : Setting) → IsFrame P h given frame S → IsFrame P h' given frame S
    frame_on given frame S p =
        record { maker = p.maker; this = p.this; names = names_on S.routine frame.names p.names; sorts = p.sorts; values = holds_on p.sorts frame.values p.values; fits = p.fits }

    pub wait_on : (u : ValueType) (frames : List Frame) → Wait P h u frames → Wait P h' u frames
    wait_on u [] p = tt
    wait_on u (frame ∷ rest) p = (p.0, p.1, p.2, frame_on (p.1 ∷ []) frame p.0 p.3, wait_on p.0.routine.gives rest p.4)

    pub activity_on : (a : Activity) → IsActivity P h a → IsActivity P h' a
    activity_on (Starts f base) p = p
    activity_on (Runs frame callers base depth) p = (p.0, frame_on [] frame p.0 p.1, wait_on p.0.routine.gives callers p.2)

    pub cell_on : (c : Cell) → IsCell P h c → IsCell P h' c
    cell_on (Fields c vs) p = (p.0, p.1, paired_weak (Is P h) (Is P h') is_on p.0.fields vs p.2)
    cell_on (Items u room vs) p = every_weak (Is P h u) (Is P h' u) (λ v q. is_on u v q) vs p

  -- a heap with one cell more, or one that is changed but stands for the same
  cell_grows : (h : Heap) (n : ℕ) (c : Cell) → ((d : Cell) → h.cells n ≡ Some d → shape d ≡ shape c) → Grows h (with_cell n c h)
  cell_grows h n c same m s st =
      entry_cases (λ (o : Option Cell). (d : Cell) × (o ≡ Some d) × (shape d ≡ s)) n m (Some c) h.cells
      (λ e. (c, refl, sym (same st.0 (ap h.cells (sym e) ∙ st.1)) ∙ st.2))
      (λ ne. st)

  cell_heap : (used more : ℕ) (h : Heap) (n : ℕ) (c : Cell) → IsHeap P used h → used ≤ more → n < more → (g : Grows h (with_cell n c h)) → IsCell P h c → IsHeap P more (with_cell n c h)
  cell_heap used more h n c heap le lt g fine =
      record {
        globals = paired_weak (Is P h) (Is P (with_cell n c h)) (is_on h (with_cell n c h) g) P.globals h.globals heap.globals;
        cells = λ m d e.
            entry_cases (λ (o : Option Cell). o ≡ Some d → (m < more) × IsCell P (with_cell n c h) d) n m (Some c) h.cells
            (λ at is. (subst (λ k. k < more) (sym at) lt, subst (λ (x : Cell). IsCell P (with_cell n c h) x) (some_same (Some c) c d refl is) (cell_on h (with_cell n c h) g c fine)))
            (λ ne is. (let old = heap.cells m d is in (let low : m < used = old.0 in omega arith, cell_on h (with_cell n c h) g d old.1)))
            e;
      }

  -- the heap behind a change
  pub record Changed (used : ℕ) (h h' : Heap) : Type 0 where
    pub heap : IsHeap P used h'
    pub grows : Grows h h'

  pub cell_changed : (used more : ℕ) (h : Heap) (n : ℕ) (c d : Cell) → IsHeap P used h → used ≤ more → h.cells n ≡ Some d → shape d ≡ shape c → IsCell P h c → Changed more h (with_cell n c h)
  cell_changed used more h n c d heap le at same fine =
      (let g : Grows h (with_cell n c h) = cell_grows h n c (λ x e. ap shape (some_same (h.cells n) x d e at) ∙ same) in
      let low : n < used = (heap.cells n d at).0 in
      record { heap = cell_heap used more h n c heap le (omega arith) g fine; grows = g })

  pub cell_new : (used words : ℕ) (h : Heap) (c : Cell) → IsHeap P used h → IsCell P h c → 0 < words → Changed (used + words) h (with_cell used c h)
  cell_new used words h c heap fine positive =
      (let g : Grows h (with_cell used c h) = cell_grows h used c (λ d e. (let low : used < used = (heap.cells used d e).0 in absurd (omega arith))) in
      record { heap = cell_heap used (used + words) h used c heap (omega arith) (omega arith) g fine; grows = g })

  pub grows_same : (h : Heap) → Grows h h
  grows_same h n s p = p

  pub unchanged : (used : ℕ) (h : Heap) → IsHeap P used h → Changed used h h
  unchanged used h heap = record { heap = heap; grows = grows_same h }

  -- the defaults are fields of every class
  pub defaults_are : (h : Heap) (ts : List ValueType) → Paired (Is P h) ts (defaults ts)
  defaults_are h [] = tt
  defaults_are h (u ∷ us) = (default_is h u, defaults_are h us)

  -- what is taken: the arguments, and below them what was pending before
  pub record AreTaken (h : Heap) (args before : List Sort) (x : List Value × List Value) : Type 0 where
    pub these : Paired (IsA P h) args x.0
    pub rest : Holds P h before x.1

  before_well : (h : Heap) (s : Sort) (ss before : List Sort) (x : List Value × List Value) → AreTaken h ss (s ∷ before) x → Well (AreTaken h (s ∷ ss) before) (before_these x)
  before_well h s ss before (these, []) p = absurd p.rest
  before_well h s ss before (these, v ∷ rest) p = record { these = (p.rest.0, p.these); rest = p.rest.1 }

  pub taken_well : (h : Heap) (args before : List Sort) (vs : List Value) → Holds P h (above args before) vs → Well (AreTaken h args before) (taken (length args) vs)
  taken_well h [] before vs p = record { these = tt; rest = p }
  taken_well h (s ∷ ss) before vs p =
      then_well (AreTaken h ss (s ∷ before)) (AreTaken h (s ∷ ss) before) (taken (length ss) vs) before_these (taken_well h ss (s ∷ before) vs p)
      (λ x q. before_well h s ss before x q)

  pub types_are : (h : Heap) (us : List ValueType) (vs : List Value) → Paired (IsA P h) (of_types us) vs → Paired (Is P h) us vs
  types_are h [] [] p = tt
  types_are h [] (v ∷ vs) p = absurd p
  types_are h (u ∷ us) [] p = absurd p
  types_are h (u ∷ us) (v ∷ vs) p = (p.0, types_are h us vs p.1)

  pub params_are : (h : Heap) (us : List ValueType) (vs : List Value) → Paired (Is P h) us vs → (i : ℕ) (u : ValueType) → entry us i ≡ Some u → Is P h u (get_or vs i default)
  params_are h [] [] p i u e = cc
  params_are h [] (v ∷ vs) p i u e = absurd p
  params_are h (w ∷ us) [] p i u e = absurd p
  params_are h (w ∷ us) (v ∷ vs) p zero u e = subst (λ (x : ValueType). Is P h x v) (some_same (Some w) w u refl e) p.0
  params_are h (w ∷ us) (v ∷ vs) p (suc i) u e = params_are h us vs p.1 i u e
