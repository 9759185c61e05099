-- Each step of a typed activity leaves all typed, and is no fault.
use Rattle.std.proofs.Common.{◌≡◌, ℕ, zero, suc, ◌+◌, ◌-◌, ◌<◌, inl, inr, ℤ, pos, Bool, true, false, if◌then◌else◌, nat_lt, List, [], ◌∷◌, length, Option, Some, None, refl, ap, sym, ◌∙◌, subst, arith}
use Rattle.std.specs.Prelude.{◌+ℤ◌, slice_set}
use Rattle.std.proofs.lemmas.Bool.{eq-eqb}
use Rattle.std.proofs.lemmas.Bool.Decides.{nat_tests}
use Rattle.board_world.specs.declared.requests.Request.{Request}
use Rattle.board_world.specs.declared.requests.Request.TheVariants as q
use Rattle.board_world.specs.Limits.{depth_limit}
use Rattle.board_world.specs.Observations.{ByteList}
use Rattle.board_world.specs.Kinds.{Turn, Goes}
use Rattle.board_world.specs.Requests.{Asker, asked}
use Rattle.board_world.specs.Simulation.{Paired}
use Rattle.board_world.specs.Sound.{After, Further, Stays, Sound}
use Rattle.board_world.proofs.Laws.{paired_length}
use Rattle.sts_syntax.specs.declared.typed.Spot.{Spot}
use Rattle.sts_syntax.specs.declared.typed.Spot.TheVariants.{Param, Local, Global}
use Rattle.sts_syntax.specs.Types as t
use Rattle.sts_syntax.specs.Types.{ValueType}
use Rattle.sts_syntax.specs.TypedTrees.{TypedStatement, TypedRoutine, ClassEntry, TypedProgram}
use Rattle.sts_syntax.specs.Measures.{object_words, array_words}
use Rattle.sts_syntax.specs.TypeRules.{entry, HasClass, HasRoutine, MayBegin}
use Rattle.sts_syntax.specs.WellTyped.{Setting, IsSound}
use Rattle.sts_syntax.specs.WellTypedPrograms.{is_maker, setting, base_of_maker, IsWellTyped}
use Rattle.sts_meaning.specs.Values.{to_int32, bumped, then_gives, Value, Whole, Object, Text, Code, default, Outcome, Gives, Breaks, Stuck, there, applied, applied_before, decided, with_entry}
use Rattle.sts_meaning.specs.Heaps.{popped, Fields, Items, Heap, with_cell, read_field, write_field, read_item, write_item, length_at, pushed, next_item}
use Rattle.sts_meaning.specs.Services.{requested}
use Rattle.sts_meaning.specs.Continuation.{Continuation, Put, Get, Store, Drop, Unary, Apply, Choose, Both, Either, Read, Peek, Write, At, PeekAt, SetAt, Bump, BumpField, BumpAt, Measure, Push, Pop, Open, Append, New, Build, Invoke, Send, Ask, Repeat, Again, Each, Leave, Give, Round, runs}
use Rattle.sts_meaning.specs.Frames.{Names, Frame, Activity, Starts, Runs, stuck, after, with_latest, with_two, with_three, taken, named, with_local, with_param, stored, defaults, answered, round, grown}
use Rattle.sts_meaning.specs.Steps.{repeating, words, entered, entered_round, method, entering, invoked, ended, begun, at, now, now_with, asker, takes_item, act, step, source, empty}
use Rattle.meaning_sound.specs.Sorts.{Sort, Of, Begins, Exactly, of_types, above, Well, May, Is, IsA, IsRequest, Asks}
use Rattle.meaning_sound.specs.Fits.{Answers, Given, IsStored, FitsValues}
use Rattle.meaning_sound.specs.Kept.{IsHeap, Holds, AreNamed, GivesThis, IsFrame, Wait, IsActivity, typed}
use Rattle.meaning_sound.proofs.Growth.{Grows, same_suits, default_is, goes_is, suits_is, is_on, holds_on, names_on, wait_on, activity_on, cell_on, Changed, cell_new, unchanged, defaults_are, then_well, AreTaken, taken_well, types_are, params_are}
use Rattle.meaning_sound.proofs.Lists.{some_same, paired_changed, paired_entry, paired_weak, entry_cases, entry_here}
use Rattle.meaning_sound.proofs.Operations.{AreBumped, bumped_well, applied_before_well, popped_well, applied_well, decided_well, read_field_well, write_field_well, IsFoundMethod, method_well, read_item_well, write_item_well, length_well, pushed_well, IsNext, next_item_well, named_well}
use Rattle.meaning_sound.proofs.Trees.{runs_fit}
use Rattle.meaning_sound.proofs.Functions.{entry_below, this_is, no_maker, body_fits}

module _ (P : TypedProgram) (good : IsWellTyped P) (texts : List ByteList) where
  abbrev Typed : ℕ → Heap → Turn Activity Heap → Type 0
  Typed used h u = Stays (typed P) used h u

  after_typed : {X : Type 0} (Q : X → Type 0) (used : ℕ) (h : Heap) (o : Outcome X) (go : X → Turn Activity Heap) → Well Q o → ((x : X) → Q x → Typed used h (go x)) → Typed used h (after o go)
  after_typed Q used h (Gives x) go w k = k x w
  after_typed Q used h (Breaks c) go w k = tt
  after_typed Q used h Stuck go w k = absurd w

  there_typed : {X : Type 0} (used : ℕ) (h : Heap) (o : Option X) (x : X) (go : X → Turn Activity Heap) → o ≡ Some x → Typed used h (go x) → Typed used h (after (there o) go)
  there_typed used h o x go e k = subst (λ p. Typed used h (after (there p) go)) (sym e) k

  if_typed : (used : ℕ) (h : Heap) (c : Bool) (u v : Turn Activity Heap) → Typed used h u → Typed used h v → Typed used h (if c then u else v)
  if_typed used h true u v p q = p
  if_typed used h false u v p q = q

  -- the latest values, which have these sorts
  latest_typed : (used : ℕ) (h : Heap) (s : Sort) (ss : List Sort) (vs : List Value) (go : Value → List Value → Turn Activity Heap) → Holds P h (s ∷ ss) vs
      → ((v : Value) (rest : List Value) → vs ≡ v ∷ rest → IsA P h s v → Holds P h ss rest → Typed used h (go v rest)) → Typed used h (with_latest vs go)
  latest_typed used h s ss [] go p k = absurd p
  latest_typed used h s ss (v ∷ rest) go p k = k v rest refl p.0 p.1

  two_typed : (used : ℕ) (h : Heap) (s r : Sort) (ss : List Sort) (vs : List Value) (go : Value → Value → List Value → Turn Activity Heap) → Holds P h (s ∷ r ∷ ss) vs
      → ((a b : Value) (rest : List Value) → vs ≡ b ∷ a ∷ rest → IsA P h r a → IsA P h s b → Holds P h ss rest → Typed used h (go a b rest)) → Typed used h (with_two vs go)
  two_typed used h s r ss [] go p k = absurd p
  two_typed used h s r ss (b ∷ []) go p k = absurd p.1
  two_typed used h s r ss (b ∷ (a ∷ rest)) go p k = k a b rest refl p.1.0 p.0 p.1.1

  three_typed : (used : ℕ) (h : Heap) (s r q : Sort) (ss : List Sort) (vs : List Value) (go : Value → Value → Value → List Value → Turn Activity Heap) → Holds P h (s ∷ r ∷ q ∷ ss) vs
      → ((a b c : Value) (rest : List Value) → IsA P h q a → IsA P h r b → IsA P h s c → Holds P h ss rest → Typed used h (go a b c rest)) → Typed used h (with_three vs go)
  three_typed used h s r q ss [] go p k = absurd p
  three_typed used h s r q ss (c ∷ []) go p k = absurd p.1
  three_typed used h s r q ss (c ∷ (b ∷ [])) go p k = absurd p.1.1
  three_typed used h s r q ss (c ∷ (b ∷ (a ∷ rest))) go p k = k a b c rest p.1.1.0 p.1.0 p.0 p.1.1.1

  onward : (used : ℕ) (h h' : Heap) → Changed P used h h' → After (typed P) used h h'
  onward used h h' c = record { shared = c.heap; others = λ a p. activity_on P h h' c.grows a p }

  -- a function begins
  entered_is : (h : Heap) (f : ℕ) (r : TypedRoutine) (args : List Value) → HasRoutine P f r → Paired (Is P h) r.params args → IsFrame P h [] (entered P texts f r args) (setting P f r)
  entered_is h f r args has p =
      record {
        maker = refl;
        this = this_is P good f r has;
        names = record { params = params_are P h r.params args p; locals = λ i u e. default_is P h u };
        sorts = [];
        values = tt;
        fits = body_fits P good f r has (base_of_maker P P.classes f) r.all refl (good.functions f r has).body;
      }

  -- what a function of `forever` is typed as
  abbrev repeater : Setting
  repeater = record { routine = record { params = []; locals = []; gives = t.Nothing; all = Rattle.sts_syntax.specs.TypedTrees.done }; this = false; maker = false; main = false }

  -- whatever it is typed as, a round fits
  round_fits : (S : Setting) (g : ℕ) → MayBegin P g → FitsValues P S (round g) []
  round_fits S g may = (
    [],
    may.0,
    may.1,
    sym (ap (λ (us : List ValueType). above (of_types us) []) may.2),
    sym (ap length may.2),
    (Of may.0.gives, same_suits P (Of may.0.gives), (Of t.Number, (λ h. tt), (Of t.Number ∷ [], [], t.Nothing, refl, refl, pauses, tt, (Of t.Nothing, same_suits P (Of t.Nothing), (refl, may))))),
  )
    where
      pauses : Asks P 2 (Of t.Number ∷ [])
      pauses h [] p = absurd p
      pauses h (Whole n ∷ []) p = tt
      pauses h (Object n ∷ []) p = cc
      pauses h (Text n ∷ []) p = cc
      pauses h (Code n ∷ []) p = cc
      pauses h (v ∷ (w ∷ vs)) p = absurd p.1

  entered_round_is : (h : Heap) (g : ℕ) → MayBegin P g → IsFrame P h [] (entered_round P texts g) repeater
  entered_round_is h g may =
      record {
        maker = no_maker P good g;
        this = λ e. cc;
        names = record { params = λ i u e. default_is P h u; locals = λ i u e. default_is P h u };
        sorts = [];
        values = tt;
        fits = round_fits repeater g may;
      }

  -- a call
  entering_typed : (used : ℕ) (h : Heap) (base depth : ℕ) (frame : Frame) (S : Setting) (waiting : List Frame) → IsHeap P used h → IsFrame P h [] frame S → Wait P h S.routine.gives waiting
      → Typed used h (entering P texts h base depth frame waiting)
  entering_typed used h base depth frame S waiting heap p wait =
      if_typed used h (nat_lt depth_limit (depth + words P texts frame.function)) _ _ tt
      (record { self = (S, p, wait); after = onward used h h (unchanged P used h heap) })

  invoked_typed : (used : ℕ) (h : Heap) (base depth f : ℕ) (r : TypedRoutine) (args : List Value) (waiting : List Frame) → IsHeap P used h → HasRoutine P f r → Paired (Is P h) r.params args → Wait P h r.gives waiting
      → Typed used h (invoked P texts h base depth f args waiting)
  invoked_typed used h base depth f r args waiting heap has p wait =
      there_typed used h (entry P.functions f) r _ has
      (subst (λ (b : Bool). Typed used h (if b then entering P texts h base depth (entered P texts f r args) waiting else stuck)) (sym (eq-eqb (length r.params) (length args) (paired_length (Is P h) r.params args p)))
      (entering_typed used h base depth (entered P texts f r args) (setting P f r) waiting heap (entered_is h f r args has p) wait))

  -- a frame's end
  ended_typed : (used : ℕ) (h : Heap) (base depth f : ℕ) (u : ValueType) (v : Value) (waiting : List Frame) → IsHeap P used h → Is P h u v → Wait P h u waiting
      → Typed used h (ended P texts h base depth f v waiting)
  ended_typed used h base depth f u v [] heap p wait = (record { each = λ i c. c }, onward used h h (unchanged P used h heap))
  ended_typed used h base depth f u v (c ∷ rest) heap p wait =
      (let w = wait.3 in
      record {
        self = (wait.0, record { maker = w.maker; this = w.this; names = w.names; sorts = wait.1 ∷ w.sorts; values = (suits_is P h (Of u) wait.1 v wait.2 p, w.values); fits = w.fits }, wait.4);
        after = onward used h h (unchanged P used h heap);
      })

  -- an activity begins
  begun_typed : (used : ℕ) (h : Heap) (base f : ℕ) → IsHeap P used h → May P f → Typed used h (begun P texts h base base f)
  begun_typed used h base f heap (inl may) =
      (let low : f < length P.functions = entry_below P.functions f may.0 may.1 in
      let is : nat_lt f (length P.functions) ≡ true = grind (arith, nat_tests) in
      subst (λ (b : Bool). Typed used h (if b then invoked P texts h base base f [] [] else after (there (entry P.functions (f - length P.functions))) (λ r. entering P texts h base base (entered_round P texts (f - length P.functions)) []))) (sym is)
      (invoked_typed used h base base f may.0 [] [] heap may.1 (subst (λ (us : List ValueType). Paired (Is P h) us []) (sym may.2) tt) tt))
  begun_typed used h base f heap (inr may) =
      (let n : ℕ = length P.functions in
      let at : f ≡ n + may.0 = may.1 in
      let is : nat_lt f n ≡ false = grind (arith, nat_tests) in
      let less : f - n ≡ may.0 = omega arith in
      subst (λ (b : Bool). Typed used h (if b then invoked P texts h base base f [] [] else after (there (entry P.functions (f - length P.functions))) (λ r. entering P texts h base base (entered_round P texts (f - length P.functions)) []))) (sym is)
      (subst (λ (g : ℕ). Typed used h (after (there (entry P.functions g)) (λ r. entering P texts h base base (entered_round P texts g) []))) (sym less)
      (there_typed used h (entry P.functions may.0) may.2.0 _ may.2.1 (entering_typed used h base base (entered_round P texts may.0) repeater [] heap (entered_round_is h may.0 may.2) tt))))

  asked_typed : (used : ℕ) (h : Heap) (m : Asker Activity Heap) (r : Request) → IsHeap P used h → IsRequest P r → ((f : ℕ) → May P f → IsActivity P h (m.above f)) → ((n : ℤ) → Further (typed P) used h (m.next n))
      → ((n : ℤ) → (m.next n).1 ≡ h) → Typed used h (asked m r)
  asked_typed used h m (q.Pause n) heap p above next same = next (pos 0)
  asked_typed used h m (q.Wait e) heap p above next same = next (pos 0)
  asked_typed used h m (q.Spawn f) heap p above next same = (p, next (pos 0))
  asked_typed used h m (q.Listen l) heap p above next same = (p, next (pos 0))
  asked_typed used h m (q.Raise e) heap p above next same = next
  asked_typed used h m (q.RaiseNow e) heap p above next same =
      (record { each = λ f may. subst (λ (x : Heap). IsActivity P x (m.above f)) (sym (same (pos 0))) (above f may) }, next (pos 0))
  asked_typed used h m (q.Plot x y k) heap p above next same = next
  asked_typed used h m (q.Show n) heap p above next same = next
  asked_typed used h m (q.WriteNumber n) heap p above next same = next
  asked_typed used h m (q.WriteText n) heap p above next same = next
  asked_typed used h m (q.PinWrite x v) heap p above next same = next
  asked_typed used h m (q.Radio n) heap p above next same = next
  asked_typed used h m q.Time heap p above next same = next
  asked_typed used h m q.EventValue heap p above next same = next
  asked_typed used h m (q.Button n) heap p above next same = next
  asked_typed used h m (q.TextGlyph t i) heap p above next same = next _
  asked_typed used h m (q.NumberGlyph n i) heap p above next same = next _
  asked_typed used h m (q.Allocate n) heap p above next same = absurd p
  asked_typed used h m (q.Push a v) heap p above next same = absurd p
  asked_typed used h m (q.Panic n) heap p above next same = tt
  asked_typed used h m q.End heap p above next same = absurd p

  -- the step of a frame
  module _ (used : ℕ) (h : Heap) (heap : IsHeap P used h) (f : ℕ) (n : Names) (callers : List Frame) (base depth : ℕ) (S : Setting)
      (kind : is_maker P.classes f ≡ S.maker) (this : GivesThis P S) (names : AreNamed P h S.routine n) (wait : Wait P h S.routine.gives callers) where
    -- the frame goes on with other names and another heap
    further : (more : ℕ) (h' : Heap) (m : Names) (ss : List Sort) (vs : List Value) (k : Continuation) → Changed P more h h' → AreNamed P h' S.routine m → Holds P h' ss vs → FitsValues P S k ss
        → Further (typed P) more h (now_with P texts h f n callers base depth m vs k, h')
    further more h' m ss vs k c called holds fits =
        record {
          self = (S, record { maker = kind; this = this; names = called; sorts = ss; values = holds; fits = fits }, wait_on P h h' c.grows S.routine.gives callers wait);
          after = onward more h h' c;
        }

    abbrev at' : List Value → Continuation → Activity
    at' vs k = now P texts h f n callers base depth vs k

    abbrev goes_at : List Value → Continuation → Turn Activity Heap
    goes_at vs k = Goes (at' vs k) h

    goes : (more : ℕ) (h' : Heap) (ss : List Sort) (vs : List Value) (k : Continuation) → Changed P more h h' → Holds P h' ss vs → FitsValues P S k ss → Further (typed P) more h (at' vs k, h')
    goes more h' ss vs k c holds fits = further more h' n ss vs k c (names_on P h h' c.grows S.routine n names) holds fits

    same : Changed P used h h
    same = unchanged P used h heap

    stays : (ss : List Sort) (vs : List Value) (k : Continuation) → Holds P h ss vs → FitsValues P S k ss → Further (typed P) used h (at' vs k, h)
    stays ss vs k holds fits = further used h n ss vs k same names holds fits

    -- a value is given
    gives_in : (more : ℕ) (h' : Heap) (s : Sort) (v : Value) (ss : List Sort) (vs : List Value) (k : Continuation) → Changed P more h h' → IsA P h' s v → Holds P h' ss vs → Given P (FitsValues P S k) s ss → Further (typed P) more h (at' (v ∷ vs) k, h')
    gives_in more h' s v ss vs k c p holds fits = goes more h' (fits.0 ∷ ss) (v ∷ vs) k c (suits_is P h' s fits.0 v fits.1 p, holds) fits.2

    gives : (s : Sort) (v : Value) (ss : List Sort) (vs : List Value) (k : Continuation) → IsA P h s v → Holds P h ss vs → Given P (FitsValues P S k) s ss → Further (typed P) used h (at' (v ∷ vs) k, h)
    gives s v ss vs k p holds fits = gives_in used h s v ss vs k same p holds fits

    -- a frame that waits for the value of a call
    waits : (u : ValueType) (ss : List Sort) (vs : List Value) (k : Continuation) → Holds P h ss vs → Given P (FitsValues P S k) (Of u) ss → Wait P h u (at P texts h f n callers base depth vs k ∷ callers)
    waits u ss vs k holds fits = (S, fits.0, fits.1, record { maker = kind; this = this; names = names; sorts = ss; values = holds; fits = fits.2 }, wait)

    entry_named : (i : ℕ) (u : ValueType) (v : Value) (ts : List ValueType) (m : ℕ → Value) → entry ts i ≡ Some u → Is P h u v → ((j : ℕ) (w : ValueType) → entry ts j ≡ Some w → Is P h w (m j)) → (j : ℕ) (w : ValueType) → entry ts j ≡ Some w → Is P h w (with_entry i v m j)
    entry_named i u v ts m has p all j w e =
        entry_cases (λ (x : Value). Is P h w x) i j v m
        (λ q. subst (λ (x : ValueType). Is P h x v) (some_same (entry ts i) u w has (ap (entry ts) (sym q) ∙ e)) p)
        (λ ne. all j w e)

    local_named : (i : ℕ) (u : ValueType) (v : Value) (m : Names) → entry S.routine.locals i ≡ Some u → Is P h u v → AreNamed P h S.routine m → AreNamed P h S.routine (with_local i v m)
    local_named i u v m has p all = record { params = all.params; locals = entry_named i u v S.routine.locals m.locals has p all.locals }

    param_named : (i : ℕ) (u : ValueType) (v : Value) (m : Names) → entry S.routine.params i ≡ Some u → Is P h u v → AreNamed P h S.routine m → AreNamed P h S.routine (with_param i v m)
    param_named i u v m has p all = record { params = entry_named i u v S.routine.params m.params has p all.params; locals = all.locals }

    -- a value is stored
    pub record AreStored (x : Names × Heap) : Type 0 where
      pub called : AreNamed P x.1 S.routine x.0
      pub changed : Changed P used h x.1

    global_changed : (g : ℕ) (u : ValueType) (v : Value) → entry P.globals g ≡ Some u → Is P h u v → Changed P used h (record h { globals = slice_set h.globals g v })
    global_changed g u v has p =
        (let h' : Heap = record h { globals = slice_set h.globals g v } in
        let grows : Grows h h' = λ m s st. st in
        record {
          heap = record {
            globals = paired_weak (Is P h) (Is P h') (is_on P h h' grows) P.globals h'.globals (paired_changed (Is P h) P.globals h.globals g u v heap.globals has p);
            cells = λ m d e. ((heap.cells m d e).0, cell_on P h h' grows d (heap.cells m d e).1);
          };
          grows = grows;
        })

    stored_well : (x : Spot) (u : ValueType) (v : Value) → IsStored P S x u → Is P h u v → Well AreStored (stored x v n h)
    stored_well (Param i) u v has p = record { called = param_named i u v n has p names; changed = same }
    stored_well (Local i) u v has p = record { called = local_named i u v n has p names; changed = same }
    stored_well (Global g) u v has p =
        (let q = paired_entry (Is P h) P.globals h.globals g u heap.globals has in
        let h' : Heap = record h { globals = slice_set h.globals g v } in
        let c : Changed P used h h' = global_changed g u v has p in
        subst (λ (o : Option Value). Well AreStored (then_gives (then_gives (there o) (λ old. Gives h')) (λ h''. Gives (n, h'')))) (sym q.1)
        (record { called = names_on P h h' c.grows S.routine n names; changed = c }))

    stored_typed : (x : Spot) (u : ValueType) (v w : Value) (s : Sort) (ss : List Sort) (vs : List Value) (k : Continuation) → IsStored P S x u → Is P h u v → IsA P h s w → Holds P h ss vs → Given P (FitsValues P S k) s ss
        → Typed used h (after (stored x v n h) (λ z. Goes (now_with P texts h f n callers base depth z.0 (w ∷ vs) k) z.1))
    stored_typed x u v w s ss vs k has p i holds fits =
        after_typed AreStored used h (stored x v n h) _ (stored_well x u v has p)
        (λ z c. further used z.1 z.0 (fits.0 ∷ ss) (w ∷ vs) k c.changed c.called
        (suits_is P z.1 s fits.0 w fits.1 (isa_on' z.1 c.changed s w i), holds_on P h z.1 c.changed.grows ss vs holds) fits.2)
      where
        isa_on' : (h' : Heap) → Changed P used h h' → (s : Sort) (w : Value) → IsA P h s w → IsA P h' s w
        isa_on' h' c (Of u) w i = is_on P h h' c.grows u w i
        isa_on' h' c Begins w i = i
        isa_on' h' c (Exactly m) w i = i

    goes_in_typed : (w : ℕ) (h' : Heap) (ss : List Sort) (vs : List Value) (k : Continuation) → Changed P (used + w) h h' → Holds P h' ss vs → FitsValues P S k ss → Typed used h (grown w h' (at' vs k))
    goes_in_typed zero h' ss vs k c holds fits =
        (let none : used + 0 ≡ used = omega arith in
        goes used h' ss vs k (subst (λ (m : ℕ). Changed P m h h') none c) holds fits)
    goes_in_typed (suc w) h' ss vs k c holds fits = goes (used + suc w) h' ss vs k c holds fits

    next_typed : (i : ℕ) (s : TypedStatement) (vs : List Value) (k : Continuation) (u : ValueType) (o : Option (ℕ × Value)) → FitsValues P S (Each i s k) [] → IsStored P S (Local i) u → IsNext P h u o
        → FitsValues P S k [] → IsStored P S (Local (suc (suc i))) t.Number → (known : List ℕ) → IsSound P S s true known → Typed used h (takes_item P texts h f n callers base depth i s vs k o)
    next_typed i s vs k u None turn a p fits c known sound = stays [] vs k tt fits
    next_typed i s vs k u (Some x) turn a p fits c known sound =
        further used h _ [] vs (runs (is_maker P.classes f) s k (Each i s k) (Each i s k)) same
        (local_named i u x.1 (with_local (suc (suc i)) (Whole (to_int32 (pos x.0 +ℤ pos 1))) n) a p (local_named (suc (suc i)) t.Number (Whole (to_int32 (pos x.0 +ℤ pos 1))) n c tt names))
        tt (subst (λ (m : Bool). FitsValues P S (runs m s k (Each i s k) (Each i s k)) []) (sym kind) (runs_fit P S this s true known k (Each i s k) (Each i s k) sound fits turn turn))

    -- the arguments that are taken
    taken_typed : (these before : List Sort) (m : ℕ) (ss : List Sort) (vs : List Value) (go : List Value × List Value → Turn Activity Heap) → ss ≡ above these before → m ≡ length these → Holds P h ss vs
        → ((x : List Value × List Value) → AreTaken P h these before x → Typed used h (go x)) → Typed used h (after (taken m vs) go)
    taken_typed these before m ss vs go e c holds k =
        after_typed (AreTaken P h these before) used h (taken m vs) go
        (subst (λ (j : ℕ). Well (AreTaken P h these before) (taken j vs)) (sym c) (taken_well P h these before vs (subst (λ (x : List Sort). Holds P h x vs) e holds))) k

    length_types : (us : List ValueType) → length (of_types us) ≡ length us
    length_types [] = refl
    length_types (u ∷ us) = ap suc (length_types us)

    abbrev Act : Continuation → List Value → Turn Activity Heap
    Act k vs = act P texts h f n callers base depth k vs

    send_typed : (s : ℕ) (c : ℕ) (params : List ValueType) (u : ValueType) (before : List Sort) (k : Continuation) → Rattle.sts_syntax.specs.TypeRules.HasMethod P c s params u → Given P (FitsValues P S k) (Of u) before
        → (x : List Value × List Value) → AreTaken P h (Of (t.Object c) ∷ of_types params) before x
        → Typed used h (after (then_gives (there (entry x.0 0)) (λ o. method P texts h o s)) (λ g. invoked P texts h base depth g x.0 (at P texts h f n callers base depth x.1 k ∷ callers)))
    send_typed s c params u before k has fits ([], rest) p = absurd p.these
    send_typed s c params u before k has fits (o ∷ xs, rest) p =
        after_typed (IsFoundMethod P good h params u o) used h (method P texts h o s) _ (method_well P good used h c s params u o heap p.these.0 has)
        (λ g q. (let these : Paired (Is P h) q.routine.params (o ∷ xs) = subst (λ (us : List ValueType). Paired (Is P h) us (o ∷ xs)) (sym q.params') (q.receiver, types_are P h params xs p.these.1) in
        invoked_typed used h base depth g q.routine (o ∷ xs) _ heap q.has these
        (waits q.routine.gives before rest k p.rest (subst (λ (w : ValueType). Given P (FitsValues P S k) (Of w) before) (sym q.gives) fits))))

    answered_is : (answers : Bool) (u : ValueType) (z : ℤ) → Answers answers u → Is P h u (answered answers z)
    answered_is true t.Number z a = tt
    answered_is true t.Boolean z a = tt
    answered_is false t.Nothing z a = refl
    answered_is true t.Text z a = absurd a
    answered_is true t.Nothing z a = absurd a
    answered_is true (t.Object c) z a = absurd a
    answered_is true (t.ListOf v) z a = absurd a
    answered_is true t.NullType z a = absurd a
    answered_is false t.Number z a = absurd a
    answered_is false t.Boolean z a = absurd a
    answered_is false t.Text z a = absurd a
    answered_is false (t.Object c) z a = absurd a
    answered_is false (t.ListOf v) z a = absurd a
    answered_is false t.NullType z a = absurd a

    -- a request is made, and the frame goes on with its answer
    request_typed : (answers : Bool) (u : ValueType) (before : List Sort) (rest : List Value) (k : Continuation) (r : Request) → IsRequest P r → Answers answers u → Holds P h before rest → Given P (FitsValues P S k) (Of u) before
        → Typed used h (asked (asker P texts h f n callers base depth answers rest k) r)
    request_typed answers u before rest k r p a holds fits =
        asked_typed used h (asker P texts h f n callers base depth answers rest k) r heap p (λ g may. may)
        (λ z. gives (Of u) (answered answers z) before rest k (answered_is answers u z a) holds fits) (λ z. refl)

    act_typed : (k : Continuation) (ss : List Sort) (vs : List Value) → Holds P h ss vs → FitsValues P S k ss → Typed used h (Act k vs)
    act_typed (Put v k) ss vs holds fits = stays (fits.0 ∷ ss) (v ∷ vs) k (fits.1 h, holds) fits.2
    act_typed (Get x k) ss vs holds fits =
        after_typed (Is P h fits.0) used h (named h n x) _ (named_well P used h S n x fits.0 heap names fits.1) (λ v p. gives (Of fits.0) v ss vs k p holds fits.2)
    act_typed (Store x k) (s ∷ ss) vs holds fits =
        latest_typed used h s ss vs _ holds (λ v rest e i low. (let p : Is P h fits.0 v = suits_is P h s (Of fits.0) v fits.2 i in
        subst (λ (ws : List Value). Typed used h (after (stored x v n h) (λ z. Goes (now_with P texts h f n callers base depth z.0 ws k) z.1))) (sym e)
        (stored_typed x fits.0 v v (Of fits.0) ss rest k fits.1 p p low fits.3)))
    act_typed (Drop k) (s ∷ ss) (v ∷ rest) holds fits = act_typed k ss rest holds.1 fits
    act_typed (Drop k) (s ∷ ss) [] holds fits = absurd holds
    act_typed (Unary op k) (Of u ∷ ss) vs holds fits =
        latest_typed used h (Of u) ss vs _ holds (λ v rest e i low.
        after_typed (Is P h fits.0) used h (applied_before op v) _ (applied_before_well P h op u fits.0 v fits.1 i) (λ w p. gives (Of fits.0) w ss rest k p low fits.2))
    act_typed (Apply op k) (Of v ∷ (Of u ∷ ss)) vs holds fits =
        two_typed used h (Of v) (Of u) ss vs _ holds (λ a b rest e i j low.
        after_typed (Is P h fits.0) used h (applied op a b) _ (applied_well P h op u v fits.0 a b fits.1 i j) (λ w p. gives (Of fits.0) w ss rest k p low fits.2))
    act_typed (Choose so otherwise) (Of t.Boolean ∷ ss) vs holds fits =
        latest_typed used h (Of t.Boolean) ss vs _ holds (λ v rest e i low.
        after_typed (λ x. Unit {0}) used h (decided v) _ (decided_well P h v i) (λ c _. stays ss rest (if c then so else otherwise) low (chosen c)))
      where
        chosen : (c : Bool) → FitsValues P S (if c then so else otherwise) ss
        chosen true = fits.0
        chosen false = fits.1
    act_typed (Both so otherwise) (Of t.Boolean ∷ ss) vs holds fits =
        latest_typed used h (Of t.Boolean) ss vs _ holds (λ v rest e i low.
        after_typed (λ x. Unit {0}) used h (decided v) _ (decided_well P h v i) (λ c _. chosen v rest e i low c))
      where
        chosen : (v : Value) (rest : List Value) → vs ≡ v ∷ rest → Is P h t.Boolean v → Holds P h ss rest → (c : Bool) → Typed used h (Goes (if c then at' rest so else at' vs otherwise) h)
        chosen v rest e i low true = stays ss rest so low fits.0
        chosen v rest e i low false = subst (λ (ws : List Value). Typed used h (goes_at ws otherwise)) (sym e) (gives (Of t.Boolean) v ss rest otherwise i low fits.1)
    act_typed (Either so otherwise) (Of t.Boolean ∷ ss) vs holds fits =
        latest_typed used h (Of t.Boolean) ss vs _ holds (λ v rest e i low.
        after_typed (λ x. Unit {0}) used h (decided v) _ (decided_well P h v i) (λ c _. chosen v rest e i low c))
      where
        chosen : (v : Value) (rest : List Value) → vs ≡ v ∷ rest → Is P h t.Boolean v → Holds P h ss rest → (c : Bool) → Typed used h (Goes (if c then at' vs so else at' rest otherwise) h)
        chosen v rest e i low true = subst (λ (ws : List Value). Typed used h (goes_at ws so)) (sym e) (gives (Of t.Boolean) v ss rest so i low fits.0)
        chosen v rest e i low false = stays ss rest otherwise low fits.1
    act_typed (Read x k) (Of (t.Object c) ∷ ss) vs holds fits =
        latest_typed used h (Of (t.Object c)) ss vs _ holds (λ o rest e i low.
        after_typed (Is P h fits.0) used h (read_field h o x) _ (read_field_well P good used h c x fits.0 o heap i fits.1) (λ v p. gives (Of fits.0) v ss rest k p low fits.2))
    act_typed (Peek x k) (Of (t.Object c) ∷ ss) vs holds fits =
        latest_typed used h (Of (t.Object c)) ss vs _ holds (λ o rest e i low.
        after_typed (Is P h fits.0) used h (read_field h o x) _ (read_field_well P good used h c x fits.0 o heap i fits.1)
        (λ v p. stays (Of fits.0 ∷ (Of (t.Object c) ∷ ss)) (v ∷ vs) k (p, holds) fits.2))
    act_typed (Write x k) (s ∷ (Of (t.Object c) ∷ ss)) vs holds fits =
        two_typed used h s (Of (t.Object c)) ss vs _ holds (λ o v rest e i j low. (let p : Is P h fits.0 v = suits_is P h s (Of fits.0) v fits.2 j in
        after_typed (Changed P used h) used h (write_field h o x v) _ (write_field_well P good used h c x fits.0 o v heap i fits.1 p)
        (λ h' ch. gives_in used h' (Of fits.0) v ss rest k ch (is_on P h h' ch.grows fits.0 v p) (holds_on P h h' ch.grows ss rest low) fits.3)))
    act_typed (At k) (Of t.Number ∷ (Of (t.ListOf u) ∷ ss)) vs holds fits =
        two_typed used h (Of t.Number) (Of (t.ListOf u)) ss vs _ holds (λ a x rest e i j low.
        after_typed (Is P h u) used h (read_item h a x) _ (read_item_well P used h u a x heap i j) (λ v p. gives (Of u) v ss rest k p low fits))
    act_typed (PeekAt k) (Of t.Number ∷ (Of (t.ListOf u) ∷ ss)) vs holds fits =
        two_typed used h (Of t.Number) (Of (t.ListOf u)) ss vs _ holds (λ a x rest e i j low.
        after_typed (Is P h u) used h (read_item h a x) _ (read_item_well P used h u a x heap i j)
        (λ v p. stays (Of u ∷ (Of t.Number ∷ (Of (t.ListOf u) ∷ ss))) (v ∷ vs) k (p, holds) fits))
    act_typed (SetAt k) (s ∷ (Of t.Number ∷ (Of (t.ListOf u) ∷ ss))) vs holds fits =
        three_typed used h s (Of t.Number) (Of (t.ListOf u)) ss vs _ holds (λ a x v rest i j l low. (let p : Is P h u v = suits_is P h s (Of u) v fits.0 l in
        after_typed (Changed P used h) used h (write_item h a x v) _ (write_item_well P used h u a x v heap i j p)
        (λ h' c. gives_in used h' (Of u) v ss rest k c (is_on P h h' c.grows u v p) (holds_on P h h' c.grows ss rest low) fits.1)))
    act_typed (Bump x d late k) ss vs holds fits =
        after_typed (AreBumped P h) used h (then_gives (named h n x) (bumped d late)) _
        (then_well (Is P h t.Number) (AreBumped P h) (named h n x) (bumped d late) (named_well P used h S n x t.Number heap names fits.0) (λ v p. bumped_well P h d late v p))
        (λ b p. stored_typed x t.Number b.new b.given (Of t.Number) ss vs k fits.0 p.new p.given holds fits.1)
    act_typed (BumpField x d late k) (Of (t.Object c) ∷ ss) vs holds fits =
        latest_typed used h (Of (t.Object c)) ss vs _ holds (λ o rest e i low.
        after_typed (AreBumped P h) used h (then_gives (read_field h o x) (bumped d late)) _
        (then_well (Is P h t.Number) (AreBumped P h) (read_field h o x) (bumped d late) (read_field_well P good used h c x t.Number o heap i fits.0) (λ v p. bumped_well P h d late v p))
        (λ b p. after_typed (Changed P used h) used h (write_field h o x b.new) _ (write_field_well P good used h c x t.Number o b.new heap i fits.0 p.new)
        (λ h' ch. gives_in used h' (Of t.Number) b.given ss rest k ch (is_on P h h' ch.grows t.Number b.given p.given) (holds_on P h h' ch.grows ss rest low) fits.1)))
    act_typed (BumpAt d late k) (Of t.Number ∷ (Of (t.ListOf t.Number) ∷ ss)) vs holds fits =
        two_typed used h (Of t.Number) (Of (t.ListOf t.Number)) ss vs _ holds (λ a x rest e i j low.
        after_typed (AreBumped P h) used h (then_gives (read_item h a x) (bumped d late)) _
        (then_well (Is P h t.Number) (AreBumped P h) (read_item h a x) (bumped d late) (read_item_well P used h t.Number a x heap i j) (λ v p. bumped_well P h d late v p))
        (λ b p. after_typed (Changed P used h) used h (write_item h a x b.new) _ (write_item_well P used h t.Number a x b.new heap i j p.new)
        (λ h' ch. gives_in used h' (Of t.Number) b.given ss rest k ch (is_on P h h' ch.grows t.Number b.given p.given) (holds_on P h h' ch.grows ss rest low) fits)))
    act_typed (Measure k) (Of (t.ListOf u) ∷ ss) vs holds fits =
        latest_typed used h (Of (t.ListOf u)) ss vs _ holds (λ a rest e i low.
        after_typed (Is P h t.Number) used h (length_at h a) _ (length_well P used h u a heap i) (λ v p. gives (Of t.Number) v ss rest k p low fits))
    act_typed (Push k) (s ∷ (Of (t.ListOf u) ∷ ss)) vs holds fits =
        two_typed used h s (Of (t.ListOf u)) ss vs _ holds (λ a v rest e i j low.
        after_typed (λ (x : ℕ × Heap). Changed P (used + x.0) h x.1) used h (pushed h a v) _ (pushed_well P used h u a v heap i (suits_is P h s (Of u) v fits.0 j))
        (λ x c. goes_in_typed x.0 x.1 (fits.1.0 ∷ ss) (default ∷ rest) k c (suits_is P x.1 (Of t.Nothing) fits.1.0 default fits.1.1 refl, holds_on P h x.1 c.grows ss rest low) fits.1.2))
    act_typed (Pop k) (Of (t.ListOf u) ∷ ss) vs holds fits =
        latest_typed used h (Of (t.ListOf u)) ss vs _ holds (λ a rest e i low.
        after_typed (λ (x : Value × Heap). Is P h u x.0 × Changed P used h x.1) used h (popped h a) _ (popped_well P used h u a heap i)
        (λ x p. gives_in used x.1 (Of u) x.0 ss rest k p.1 (is_on P h x.1 p.1.grows u x.0 p.0) (holds_on P h x.1 p.1.grows ss rest low) fits))
    act_typed (Open u room k) ss vs holds fits =
        (let new = cell_new P used (array_words room) h (Items u room []) heap tt (omega arith) in
        let h' : Heap = with_cell used (Items u room []) h in
        gives_in (used + array_words room) h' (Of (t.ListOf u)) (Object used) ss vs k new
        (Items u room [], entry_here used (Some (Items u room [])) h.cells, refl) (holds_on P h h' new.grows ss vs holds) fits)
    act_typed (Append k) (s ∷ (Of (t.ListOf u) ∷ ss)) vs holds fits =
        two_typed used h s (Of (t.ListOf u)) ss vs _ holds (λ a v rest e i j low.
        after_typed (λ (x : ℕ × Heap). Changed P (used + x.0) h x.1) used h (pushed h a v) _ (pushed_well P used h u a v heap i (suits_is P h s (Of u) v fits.0 j))
        (λ x c. goes_in_typed x.0 x.1 (fits.1.0 ∷ ss) (a ∷ rest) k c
        (suits_is P x.1 (Of (t.ListOf u)) fits.1.0 a fits.1.1 (is_on P h x.1 c.grows (t.ListOf u) a i), holds_on P h x.1 c.grows ss rest low) fits.1.2))
    act_typed (New c k) ss vs holds fits =
        there_typed used h (entry P.classes c) fits.0 _ fits.1
        (let new = cell_new P used (object_words fits.0) h (Fields c (defaults fits.0.fields)) heap (fits.0, fits.1, defaults_are P h fits.0.fields) (omega arith) in
        let h' : Heap = with_cell used (Fields c (defaults fits.0.fields)) h in
        gives_in (used + object_words fits.0) h' (Of (t.Object c)) (Object used) ss vs k new
        (c, (Fields c (defaults fits.0.fields), entry_here used (Some (Fields c (defaults fits.0.fields))) h.cells, refl), (0, refl)) (holds_on P h h' new.grows ss vs holds) fits.2)
    act_typed (Build c m k) (Of (t.Object d) ∷ ss) vs holds (before, class, r, o, params, hasc, hasr, ps, below, e, j, fits) =
        there_typed used h (entry P.classes c) class _ hasc
        (latest_typed used h (Of (t.Object d)) ss vs _ holds (λ v rest q i low.
        taken_typed (of_types params) before m ss rest _ e (j ∙ sym (length_types params)) low (λ x p.
        (let these : Paired (Is P h) r.params (v ∷ x.0) = subst (λ (us : List ValueType). Paired (Is P h) us (v ∷ x.0)) (sym ps) (goes_is P h (t.Object d) (t.Object o) v (inr (inl below)) i, types_are P h params x.0 p.these) in
        invoked_typed used h base depth class.maker r (v ∷ x.0) _ heap hasr these (waits r.gives before x.1 k p.rest fits)))))
    act_typed (Invoke g m k) ss vs holds (before, r, has, e, j, fits) =
        taken_typed (of_types r.params) before m ss vs _ e (j ∙ sym (length_types r.params)) holds (λ x p.
        invoked_typed used h base depth g r x.0 _ heap has (types_are P h r.params x.0 p.these) (waits r.gives before x.1 k p.rest fits))
    act_typed (Send s m k) ss vs holds (before, c, params, u, has, e, j, fits) =
        taken_typed (Of (t.Object c) ∷ of_types params) before m ss vs _ e (j ∙ ap suc (sym (length_types params))) holds (λ x p. send_typed s c params u before k has fits x p)
    act_typed (Ask service m answers k) ss vs holds (these, before, u, e, j, asks, answer, fits) =
        taken_typed these before m ss vs _ e j holds (λ x p.
        after_typed (IsRequest P) used h (requested service x.0) _ (asks h x.0 p.these) (λ r i. request_typed answers u before x.1 k r i answer p.rest fits))
    act_typed (Repeat k) (Begins ∷ ss) (v ∷ rest) holds fits =
        (let i = holds.0 in
        subst (λ (x : Value). Typed used h (Act (Repeat k) (x ∷ rest))) (sym i.1)
        (request_typed false t.Nothing ss rest k (q.Spawn (repeating P texts i.0)) (inr (i.0, refl, i.2)) tt holds.1 fits))
    act_typed (Repeat k) (Begins ∷ ss) [] holds fits = absurd holds
    act_typed (Again s k) ss vs holds (e, looped, known, sound, fits) =
        stays [] vs (runs (is_maker P.classes f) s k k k) tt (subst (λ (m : Bool). FitsValues P S (runs m s k k k) []) (sym kind) (runs_fit P S this s looped known k k k sound fits fits fits))
    act_typed (Each i s k) ss vs holds (e, known, sound, fits, u, a, l, c) =
        after_typed (IsNext P h u) used h (next_item h (n.locals (suc i)) (n.locals (suc (suc i)))) _
        (next_item_well P used h u _ _ heap (names.locals (suc i) (t.ListOf u) l) (names.locals (suc (suc i)) t.Number c))
        (λ x p. next_typed i s vs k u x (refl, known, sound, fits, u, a, l, c) a p fits c known sound)
    act_typed (Leave to) ss vs holds fits = stays ss vs to holds fits
    act_typed Give (s ∷ ss) vs holds fits =
        latest_typed used h s ss vs _ holds (λ v rest e i low. ended_typed used h base depth f S.routine.gives v callers heap (suits_is P h s (Of S.routine.gives) v fits i) wait)
    act_typed (Round g) ss vs holds (e, may) = stays [] vs (round g) tt (round_fits S g may)
    act_typed _ ss vs holds fits = absurd fits

  step_typed : (used : ℕ) (h : Heap) (a : Activity) → IsHeap P used h → IsActivity P h a → Typed used h (step P texts a h)
  step_typed used h (Starts f base) heap p = begun_typed used h base f heap p
  step_typed used h (Runs frame callers base depth) heap p =
      act_typed used h heap frame.function frame.names callers base depth p.0 p.1.maker p.1.this p.1.names p.2 frame.todo p.1.sorts frame.values p.1.values p.1.fits

  -- type soundness
  pub source_sound : Sound (source P texts) (typed P)
  source_sound = record { begins = λ used h f heap p. p; steps = λ used h a heap p. step_typed used h a heap p }

  -- the heap as a run begins is typed
  pub empty_is : IsHeap P 0 (empty P texts)
  empty_is = record { globals = defaults_are P (empty P texts) P.globals; cells = λ n c e. cc }
