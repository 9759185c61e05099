-- Turns of an activity of the source and one of flat code that match.
use Rattle.std.proofs.Common.{◌≡◌, ℕ, zero, suc, ◌+◌, ◌≤◌, inl, List, ◌∷◌, length, Some, refl, sym, ap, ◌∙◌, subst, arith}
use Rattle.std.specs.Prelude.{ℤ, pos, get_or, []}
use Rattle.board_world.specs.Observations.{ByteList}
use Rattle.board_world.specs.Font.{glyph_of}
use Rattle.board_world.specs.declared.requests.Request.{Request}
use Rattle.board_world.specs.declared.requests.Request.TheVariants.{Pause, Wait, Spawn, Listen, Raise, RaiseNow, Plot, Show, WriteNumber, WriteText, PinWrite, Radio, Time, EventValue, Button, TextGlyph, NumberGlyph, Allocate, Push, Panic, End}
use Rattle.board_world.specs.Kinds.{Kind, Turn, Goes, Panics}
use Rattle.board_world.specs.Requests.{asked}
use Rattle.board_world.specs.Simulation.{Ties, Path, Matches, Going}
use Rattle.board_world.specs.Sound.{NoFault}
use Rattle.flat_ir.specs.declared.ops.Op.{Op}
use Rattle.sts_syntax.specs.TypedTrees.{TypedProgram}
use Rattle.sts_meaning.specs.Values.{Outcome, Gives, Breaks, Stuck}
use Rattle.sts_meaning.specs.Heaps.{FlatHeap, Heap}
use Rattle.sts_meaning.specs.Frames.{Activity, Starts, Runs, stuck, after, grown}
use Rattle.sts_meaning.specs.Steps.{source}
use Rattle.sts_meaning.specs.Steps as source
use Rattle.sts_implements.specs.Forgotten.{forget}
use Rattle.sts_implements.proofs.Laws.{Agree}
use Rattle.sts_implements.specs.Passes.{lowered as ties_of}
use Rattle.flat_meaning.specs.Frames.{FlatFrame, FlatActivity, Enters, Stands, op_at, depth_of}
use Rattle.flat_meaning.specs.Steps as flat
use Rattle.sts_lower.specs.Lowered.{lowered}
use Rattle.lower_simulation.specs.Places.{NamesAmong}
use Rattle.lower_simulation.specs.Tied.{CodeTied, Tied}
use Rattle.lower_simulation.specs.Limits.{limit, IsLight}

module _ (P : TypedProgram) (texts : List ByteList) (weight : FlatActivity → FlatHeap → ℕ) (light : IsLight (lowered P) weight) where
  abbrev pub K : Kind Activity Heap
  K = source P texts

  abbrev pub L : Kind FlatActivity FlatHeap
  L = flat.flat (lowered P) texts

  abbrev pub T : Ties Activity Heap FlatActivity FlatHeap
  T = ties_of (λ h a b. Tied P texts a b) (CodeTied P texts)

  abbrev pub Match : ℕ → Heap → Turn Activity Heap → Turn FlatActivity FlatHeap → Type 0
  Match used h u v = Matches K L T used h (forget h) u v

  pub going : (used : ℕ) (h h' : Heap) (t' : FlatHeap) (a : Activity) (b : FlatActivity) → forget h' ≡ t' → Tied P texts a b → Going T used h (forget h) (a, h') (b, t')
  going used h h' t' a b e tied = record { self = tied; onward = record { shared = (e, tt); others = λ a b x. x } }

  -- activities that are tied are as deep
  pub as_deep : (a : Activity) (b : FlatActivity) → Tied P texts a b → source.depth_of P texts a ≡ flat.depth (lowered P) texts b
  as_deep (Starts f base) (Enters j base') tied = refl
  as_deep (Runs a callers base depth) (Stands b waiting base') tied =
      let e : depth ≡ base + depth_of (lowered P) (b ∷ waiting) = tied.3 in omega arith
  as_deep (Starts f base) (Stands b waiting base') tied = absurd tied
  as_deep (Runs a callers base depth) (Enters j base') tied = absurd tied

  pub fault_absurd : {X : Type 0} → NoFault {A = Activity} {S = Heap} stuck → X
  fault_absurd n = absurd n

  -- what both ask for, if it names only functions of the program
  pub asked_matches : (used : ℕ) (h : Heap) (above again : ℕ → Activity) (above' again' : ℕ → FlatActivity) (next : ℤ → Activity × Heap) (next' : ℤ → FlatActivity × FlatHeap)
      → ((i j : ℕ) → CodeTied P texts i j → Tied P texts (above i) (above' j)) → ((i j : ℕ) → CodeTied P texts i j → Tied P texts (again i) (again' j))
      → ((z : ℤ) → Tied P texts (next z).0 (next' z).0) → ((z : ℤ) → forget (next z).1 ≡ (next' z).1)
      → (r : Request) → NamesAmong (length P.functions) r
      → Match used h
      (asked (record { text = λ n. get_or texts n []; glyph = glyph_of; push = λ array value. stuck; above = above; again = again; next = next }) r)
      (asked (record { text = λ n. get_or texts n []; glyph = glyph_of; push = λ array value. stuck; above = above'; again = again'; next = next' }) r)
  asked_matches used h above again above' again' next next' up re tied heap r names = by r names
    where
      goes : (z : ℤ) → Going T used h (forget h) (next z) (next' z)
      goes z = going used h (next z).1 (next' z).1 (next z).0 (next' z).0 (heap z) (tied z)

      deep : source.depth_of P texts (next (pos 0)).0 ≡ flat.depth (lowered P) texts (next' (pos 0)).0
      deep = as_deep _ _ (tied (pos 0))

      by : (r : Request) → NamesAmong (length P.functions) r
          → Match used h
          (asked (record { text = λ n. get_or texts n []; glyph = glyph_of; push = λ array value. stuck; above = above; again = again; next = next }) r)
          (asked (record { text = λ n. get_or texts n []; glyph = glyph_of; push = λ array value. stuck; above = above'; again = again'; next = next' }) r)
      by (Pause time) names = (refl, deep, goes (pos 0))
      by (Wait event) names = (refl, deep, goes (pos 0))
      by (Spawn f) names = (inl (names, refl), goes (pos 0))
      by (Listen l) names = (record { source = refl; value = refl; code = inl (names, refl); mode = refl }, goes (pos 0))
      by (Raise event) names = (refl, goes)
      by (RaiseNow event) names = (refl, record { each = up }, goes (pos 0))
      by (Plot x y mode) names = (refl, goes)
      by (Show frame) names = (refl, goes)
      by (WriteNumber number) names = (refl, goes)
      by (WriteText text) names = (refl, goes)
      by (PinWrite pin value) names = (refl, goes)
      by (Radio number) names = (refl, goes)
      by Time names = (refl, goes)
      by EventValue names = (refl, goes)
      by (Button button) names = (refl, goes)
      by (TextGlyph text index) names = goes _
      by (NumberGlyph number index) names = goes _
      by (Allocate words) names = (refl, λ fits. going (used + words) h _ _ _ _ (heap _) (tied _))
      by (Push array value) names = (refl, refl)
      by (Panic code) names = refl
      by End names = (record { each = re }, record { shared = (heap (pos 0), tt); others = λ a b x. x })

  -- an array that may have moved
  pub grown_matches : (used : ℕ) (h h' : Heap) (t' : FlatHeap) (n m : ℕ) (a : Activity) (b : FlatActivity) → n ≡ m → forget h' ≡ t' → Tied P texts a b → Match used h (grown n h' a) (grown m t' b)
  grown_matches used h h' t' n m a b e heap tied = subst (λ k. Match used h (grown n h' a) (grown k t' b)) e (by n)
    where
      by : (n : ℕ) → Match used h (grown n h' a) (grown n t' b)
      by zero = going used h h' t' a b heap tied
      by (suc k) = (refl, λ fits. going (used + suc k) h h' t' a b heap tied)

  -- Flat code makes a turn of the source, in ops that together weigh at most so much.
  pub record Makes (bound used : ℕ) (h : Heap) (u : Turn Activity Heap) (b : FlatActivity) (t : FlatHeap) : Type 0 where
    pub steps : ℕ
    pub cost : ℕ
    pub last : FlatActivity
    pub memory : FlatHeap
    pub path : Path L weight steps cost b t last memory
    pub little : cost + weight last memory ≤ bound
    pub match : Match used h u (L.step last memory)

  pub within : (m n used : ℕ) (h : Heap) (u : Turn Activity Heap) (b : FlatActivity) (t : FlatHeap) → m ≤ n → Makes m used h u b t → Makes n used h u b t
  within m n used h u b t le x =
      record { steps = x.steps; cost = x.cost; last = x.last; memory = x.memory; path = x.path; little = omega (arith, x.little, le); match = x.match }

  pub same_turn : (n used : ℕ) (h : Heap) (u v : Turn Activity Heap) (b : FlatActivity) (t : FlatHeap) → u ≡ v → Makes n used h v b t → Makes n used h u b t
  same_turn n used h u v b t e x = subst (λ w. Makes n used h w b t) (sym e) x

  pub same_fault : (u v : Turn Activity Heap) → u ≡ v → NoFault u → NoFault v
  same_fault u v e n = subst (λ w. NoFault w) e n

  -- the last op
  pub last_op : (used : ℕ) (h : Heap) (u : Turn Activity Heap) (f : FlatFrame) (callers : List FlatFrame) (base : ℕ) (t : FlatHeap) (op : Op) → op_at (lowered P) f ≡ Some op
      → Match used h u (flat.act (lowered P) texts t f callers base op) → Makes (limit op) used h u (Stands f callers base) t
  last_op used h u f callers base t op e m =
      record {
        steps = 0;
        cost = 0;
        last = Stands f callers base;
        memory = t;
        path = (refl, refl, refl);
        little = omega (arith, light.ops f callers base t op e);
        match = subst (λ v. Match used h u v) (sym (ap (flat.act_at (lowered P) texts t f callers base) e)) m;
      }

  -- an op, and others behind it
  pub then_ops : (n used : ℕ) (h : Heap) (u : Turn Activity Heap) (f : FlatFrame) (callers : List FlatFrame) (base : ℕ) (t : FlatHeap) (op : Op) (b : FlatActivity) (t' : FlatHeap) → op_at (lowered P) f ≡ Some op
      → flat.act (lowered P) texts t f callers base op ≡ Goes b t' → Makes n used h u b t' → Makes (limit op + n) used h u (Stands f callers base) t
  then_ops n used h u f callers base t op b t' e goes x =
      record {
        steps = suc x.steps;
        cost = weight (Stands f callers base) t + x.cost;
        last = x.last;
        memory = x.memory;
        path = (b, t', x.cost, ap (flat.act_at (lowered P) texts t f callers base) e ∙ goes, refl, x.path);
        little = omega (arith, light.ops f callers base t op e, x.little);
        match = x.match;
      }

  -- an op that goes on with what an operation gives, and others behind it
  pub then_after : {X Y : Type 0} (R : X → Y → Type 0) (n used : ℕ) (h : Heap) (o : Outcome X) (p : Outcome Y) (F : X → Turn Activity Heap) (bs : Y → FlatActivity) (ts : Y → FlatHeap)
      (f : FlatFrame) (callers : List FlatFrame) (base : ℕ) (t : FlatHeap) (op : Op) → op_at (lowered P) f ≡ Some op
      → flat.act (lowered P) texts t f callers base op ≡ after p (λ y. Goes (bs y) (ts y)) → Agree R o p → NoFault (after o F)
      → ((x : X) (y : Y) → R x y → NoFault (F x) → Makes n used h (F x) (bs y) (ts y)) → Makes (limit op + n) used h (after o F) (Stands f callers base) t
  then_after R n used h (Gives x) (Gives y) F bs ts f callers base t op e is agree fine go = then_ops n used h (F x) f callers base t op (bs y) (ts y) e is (go x y agree fine)
  then_after R n used h (Breaks c) (Breaks d) F bs ts f callers base t op e is agree fine go =
      within (limit op) (limit op + n) used h (Panics c) _ _ (omega arith) (last_op used h (Panics c) f callers base t op e (subst (λ v. Match used h (Panics c) v) (sym is) agree))
  then_after R n used h Stuck p F bs ts f callers base t op e is agree fine go = absurd fine
  then_after R n used h o p F bs ts f callers base t op e is agree fine go = absurd agree
