-- At the SVC of an op that asks: what each service's turn comes to.
use Rattle.std.proofs.Common.{suc, ◌≡◌, ℕ, ◌+◌, ◌*◌, ◌<◌, ◌≤◌, Bool, true, false, ◌||◌, if◌then◌else◌, List, [], ◌∷◌, ◌++◌, length, Some, refl, sym, ap, ◌∙◌, subst, arith, slice_get, slice_set, slice_index, get_or-set_same}
use Rattle.std.specs.Prelude.{ℤ}
use Rattle.std.proofs.lemmas.List.{length-set, length-append}
use Rattle.thumb_code.specs.declared.instructions.Instr.TheVariants.{MovImm, Svc}
use Rattle.thumb_code.specs.Arithmetic.{nz}
use Rattle.board_world.specs.Observations.{ByteList}
use Rattle.board_world.specs.Kinds.{Question, Turn, Goes, Asks}
use Rattle.board_world.specs.Simulation.{Matches, Going, one}
use Rattle.board_world.specs.Trailing.{Comes, Completes}
use Rattle.bank_model.specs.Fibers.{Fiber, Shared}
use Rattle.bank_model.specs.BoardMachine.{fibers}
use Rattle.bank_model.specs.AllServices.{service, answered_word, number_word}
use Rattle.thumb_layout.specs.declared.pieces.Piece.{Piece}
use Rattle.thumb_layout.specs.declared.pieces.Piece.TheVariants.{Plain}
use Rattle.thumb_layout.specs.Pieces.{Places}
use Rattle.flat_ir.specs.declared.ops.Op.{Op}
use Rattle.flat_ir.specs.declared.ops.Op.TheVariants.{Ask}
use Rattle.flat_ir.specs.declared.ops.FlatCode.{FlatCode}
use Rattle.flat_ir.specs.Liveness.{IsLiveAt}
use Rattle.flat_ir.specs.WellFormed.{temporaries}
use Rattle.register_assign.specs.declared.places.Placed.{Placed}
use Rattle.register_assign.specs.Sound.{place_of}
use Rattle.register_assign.specs.Unread.{is_unread}
use Rattle.sts_syntax.specs.TypeRules.{entry}
use Rattle.sts_meaning.specs.Values.{Value, Whole, default, to_int32}
use Rattle.sts_meaning.specs.Heaps.{FlatHeap}
use Rattle.sts_implements.specs.Passes.{trailing_instructions}
use Rattle.flat_meaning.specs.Frames.{FlatFrame, Stands, given, depth_of, words_of}
use Rattle.flat_meaning.specs.Steps.{FlatTurn, flat}
use Rattle.thumb_emit.specs.Emit.{loads, answers_in_r0, asks}
use Rattle.thumb_emit.specs.Frame.{lands, idle_piece}
use Rattle.thumb_emit.specs.InFlash.{Addresses}
use Rattle.thumb_emit.specs.Bounds.{op_instructions, total_cost}
use Rattle.placed_frames.proofs.Laws.{View, with_low, Quiet}
use Rattle.arena_values.specs.Lies.{Shows}
use Rattle.arena_values.proofs.Laws.{answer_reads}
use Rattle.thumb_emit.proofs.Laws.{joined_after}
use Rattle.emit_simulation.proofs.Laid.{OfInstr, Flows, AllFlow, store_of}
use Rattle.emit_simulation.specs.Starts.{start}
use Rattle.emit_simulation.specs.Ties.{IsAt, IsTied, IsShared, IsImage, Means, ties, spots}
use Rattle.emit_simulation.proofs.AtOps.{fiber_seen, shared_seen}
use Rattle.emit_simulation.proofs.Placed.{store_low}
use Rattle.emit_simulation.proofs.Ops.{here}
use Rattle.emit_simulation.proofs.Turns.{Owed, going, onward, tied_now}
use Rattle.emit_simulation.proofs.Walk.{pieces, first, asked, behind_svc}
use Rattle.emit_simulation.proofs.Behind.{put_behind}
use Rattle.emit_simulation.proofs.Serving.{serves}
use Rattle.emit_simulation.proofs.Lagging.{lags, stands_behind_service}
use Rattle.emit_simulation.proofs.Loading.{Loaded, loaded}
use Rattle.emit_simulation.proofs.FunctionEntries.{frames_fill}
use Rattle.emit_simulation.proofs.Meanings.{entry_is}

behind_at : (xs ys : List Piece) (n : ℕ) (y : Piece) → slice_get ys n ≡ Some y → slice_get (xs ++ ys) (length xs + n) ≡ Some y
behind_at [] ys n y e = ap (slice_get ys) (omega arith) ∙ e
behind_at (x ∷ xs) ys n y e = let z : suc (length xs) + n ≡ suc (length xs + n) = omega arith in ap (slice_get (x ∷ (xs ++ ys))) z ∙ behind_at xs ys n y e

module _ (C : FlatCode) (placed : List Placed) (flash : List ℕ) (a : Addresses) (texts : List ByteList) (image : IsImage C placed flash a texts)
    (to number : ℕ) (args : List ℕ) (p : Placed) (f : FlatFrame) (callers : List FlatFrame) (base : ℕ) (c : Fiber) (used : ℕ) (h : FlatHeap) (t : Shared)
    (e : slice_get p.function.ops f.place ≡ Some (Ask to number args))
    (x : IsAt C placed flash a p (λ u. IsLiveAt p.function.ops u f.place) f callers base (start p.function (place_of p.places) f.place) c)
    (sh : IsShared C placed flash a used h t) where
  abbrev op : Op
  op = Ask to number args

  abbrev spot : Places
  spot = spots C placed flash a f.function p

  abbrev pub count : ℕ
  count = length args

  abbrev front : List Piece
  front = loads p.function (place_of p.places) 0 args

  front_length : (k : ℕ) (ts : List ℕ) → length (loads p.function (place_of p.places) k ts) ≡ length ts
  front_length k [] = refl
  front_length k (u ∷ ts) = ap suc (front_length (k + 1) ts)

  abbrev put : Piece
  put = lands p.function (is_unread p.function f.place) (place_of p.places to)

  -- what is seen at the SVC
  abbrev pub held : Loaded C placed flash a texts image to number args p f callers base c used h t e x sh count
  held = (loaded C placed flash a texts image to number args p f callers base c used h t e x sh).0

  abbrev pub v : View
  v = held.seen

  abbrev pub asking_fiber : Fiber
  asking_fiber = fiber_seen c v (spot.behind (first C placed flash a texts image p f callers base c used h t op e x sh + count)) held.got.comes.link

  abbrev pub asking_shared : Shared
  asking_shared = shared_seen used v t.free

  pub its_length : length v.words ≡ length c.bank
  its_length = held.got.comes.long

  pub its_shows : IsShared C placed flash a used h asking_shared
  its_shows = (
    refl,
    subst (λ gl. Shows (Means C placed flash a) a.class h used gl v.arena) (sym held.globals)
        (subst (λ ar. Shows (Means C placed flash a) a.class h used t.globals ar) (sym held.arena) sh.1),
  )

  its_names : to < temporaries p.function
  its_names = ((here C placed flash a texts image p f callers base c used h t op e x sh).op_within).names.0

  -- the machine's turn, completed, matches flat code's
  pub record Serves (turn : FlatTurn) : Type 0 where
    pub below : (at : ℕ) → Turn Fiber Shared
    pub completes : (at : ℕ) → Completes (fibers flash) one trailing_instructions used (service flash at number asking_fiber asking_shared) (below at)
    pub matches : (at : ℕ) → Matches (flat C texts) (fibers flash) (ties C placed flash a) used h t turn (below at)

  -- what stands behind the arguments
  asks_first : (b : Bool) (n : ℕ) → slice_get (asks b n) 0 ≡ Some (Plain (Svc n))
  asks_first b n = by (b || answers_in_r0 n)
    where
      by : (y : Bool) → slice_get (if y then Plain (Svc n) ∷ [] else Plain (Svc n) ∷ Plain (MovImm 0 0) ∷ []) 0 ≡ Some (Plain (Svc n))
      by true = refl
      by false = refl

  asks_left : (b : Bool) (n : ℕ) → b ≡ true → asks b n ≡ Plain (Svc n) ∷ []
  asks_left b n e = rw e refl

  asks_answers : (b : Bool) (n : ℕ) → answers_in_r0 n ≡ true → asks b n ≡ Plain (Svc n) ∷ []
  asks_answers true n e = refl
  asks_answers false n e = rw e refl

  asks_read : (b : Bool) (n : ℕ) → b ≡ false → answers_in_r0 n ≡ false → asks b n ≡ Plain (Svc n) ∷ Plain (MovImm 0 0) ∷ []
  asks_read b n e g = rw e (rw g refl)

  svc_at : slice_get (pieces C placed flash a texts image p f callers base c used h t op e x sh) count ≡ Some (Plain (Svc number))
  svc_at =
      let n = front_length 0 args in
      ap (slice_get (pieces C placed flash a texts image p f callers base c used h t op e x sh)) (let z : count ≡ length front + 0 = omega arith in z) ∙
      behind_at front (asks (is_unread p.function f.place) number ++ put ∷ []) 0 (Plain (Svc number)) (first_of (asks (is_unread p.function f.place) number) (put ∷ []) (Plain (Svc number))
      (asks_first (is_unread p.function f.place) number))
    where
      first_of : (xs ys : List Piece) (y : Piece) → slice_get xs 0 ≡ Some y → slice_get (xs ++ ys) 0 ≡ Some y
      first_of [] ys y e = cc
      first_of (x ∷ xs) ys y e = e

  pub asks_turn : (turn : FlatTurn) → Serves turn → Owed C placed flash a texts (op_instructions op) used h t turn c t
  asks_turn turn s =
      let y = asked C placed flash a texts image p f callers base c used h t op e x sh count (2 * count) number v held.got svc_at in
      serves C placed flash a texts (2 * count + 2) (op_instructions op) used number h c t _ _ turn (s.below y.at) (omega arith) y (s.completes y.at)
      (s.matches y.at)

  -- A service that answers nothing: r0 becomes 0, and that is put, where somebody reads it.
  module _ (quiet : answers_in_r0 number ≡ false) where
    whole : is_unread p.function f.place ≡ false
        → pieces C placed flash a texts image p f callers base c used h t op e x sh ≡ front ++ (Plain (Svc number) ∷ (Plain (MovImm 0 0) ∷ [] ++ put ∷ []))
    whole u = ap (λ xs. front ++ (xs ++ put ∷ [])) (asks_read (is_unread p.function f.place) number u quiet)

    whole_left : is_unread p.function f.place ≡ true
        → pieces C placed flash a texts image p f callers base c used h t op e x sh ≡ front ++ (Plain (Svc number) ∷ ([] ++ put ∷ []))
    whole_left u = ap (λ xs. front ++ (xs ++ put ∷ [])) (asks_left (is_unread p.function f.place) number u)

    piece_at : (ys : List Piece) → pieces C placed flash a texts image p f callers base c used h t op e x sh ≡ front ++ ys → (n : ℕ) (y : Piece)
        → slice_get ys n ≡ Some y → slice_get (pieces C placed flash a texts image p f callers base c used h t op e x sh) (count + n) ≡ Some y
    piece_at ys w n y q =
        let l = front_length 0 args in
        let z : count + n ≡ length front + n = omega arith in
        ap (λ xs. slice_get xs (count + n)) w ∙ (ap (slice_get (front ++ ys)) z ∙ behind_at front ys n y q)

    abbrev Settled : List ℕ → ℕ → Type 0
    Settled ar used' = (d : Fiber) × Comes (fibers flash) one trailing_instructions (asking_fiber, shared_seen used' (record v { arena = ar }) t.free)
        (d, shared_seen used' (record v { arena = ar }) t.free) × IsTied C placed flash a (Stands (given to default f) callers base) d

    settles : (ar : List ℕ) (used' : ℕ) (xs : List Piece) (low' : List ℕ) (flags' : ℕ)
        → pieces C placed flash a texts image p f callers base c used h t op e x sh ≡ front ++ (Plain (Svc number) ∷ (xs ++ put ∷ []))
        → AllFlow flash spot xs (record v { arena = ar }) (record v { low = low'; flags = flags'; arena = ar })
        → store_of (record v { low = low' }) ≡ store_of v → length low' ≡ 13 → (is_unread p.function f.place ≡ false → slice_index low' 0 ≡ 0)
        → total_cost xs + 2 ≤ trailing_instructions → Settled ar used'
    settles ar used' xs low' flags' w fl es lw r few =
        let n = front_length 0 args in
        let pre = front ++ Plain (Svc number) ∷ [] in
        let l : length pre ≡ count + 1 = length-append front (Plain (Svc number) ∷ []) ∙ (let z : length front + 1 ≡ count + 1 = omega arith in z) in
        let va : View = record v { arena = ar } in
        let u : View = record v { low = low'; flags = flags'; arena = ar } in
        let r = put_behind C placed flash a texts image p f callers base c used h t op e x sh to default 0 pre xs va u
        held.got.comes.link used' t.free (w ∙ split front (xs ++ put ∷ []) (Plain (Svc number))) refl ((0, omega arith, refl), joined_after p.function f.place op e (λ when. refl)) its_names
        fl its_length (es ∙ held.store) lw r (refl, omega arith) few in
        let pc : spot.behind (first C placed flash a texts image p f callers base c used h t op e x sh + count) ≡ spot.at
        (first C placed flash a texts image p f callers base c used h t op e x sh + length pre) = behind_svc C placed flash a texts image p f callers base
        c used h t op e x sh count number svc_at ∙ ap (λ j. spot.at (first C placed flash a texts image p f callers base c used h t op e x sh + j))
        (sym l) in (
          r.0,
          subst (λ j. Comes (fibers flash) one trailing_instructions (fiber_seen c v j held.got.comes.link, shared_seen used' va t.free)
              (r.0, shared_seen used' va t.free)) (sym pc) r.1,
          r.2,
        )
      where
        split : (xs ys : List Piece) (y : Piece) → xs ++ y ∷ ys ≡ (xs ++ y ∷ []) ++ ys
        split [] ys y = refl
        split (x ∷ xs) ys y = ap (λ l. x ∷ l) (split xs ys y)

    -- it goes on with 0, whatever the arena has become
    pub settled_over : (ar : List ℕ) (used' : ℕ) → Settled ar used'
    settled_over ar used' = by (is_unread p.function f.place) refl
      where
        by : (b : Bool) → is_unread p.function f.place ≡ b → Settled ar used'
        by true u = settles ar used' [] v.low v.flags (whole_left u) refl refl held.low (λ q. (let z : true ≡ false = sym u ∙ q in absurd (cc))) (omega arith)
        by false u =
            let va : View = record v { arena = ar } in
            let w : View = record va { low = slice_set v.low 0 0; flags = nz v.flags 0 } in
            let lw = held.low in
            let mov : Flows flash spot (Plain (MovImm 0 0)) va w = OfInstr (MovImm 0 0) va w refl (Quiet (MovImm 0 0) va (slice_set v.low 0 0) (nz v.flags 0)
            (λ next pc s. refl)) in
            settles ar used' (Plain (MovImm 0 0) ∷ []) (slice_set v.low 0 0) (nz v.flags 0) (whole u) (w, mov, refl) (store_low 0 0 v (omega arith))
            (length-set v.low 0 0 ∙ held.low) (λ q. get_or-set_same v.low 0 0 0 (omega arith)) (omega arith)

    abbrev pub settled : Settled v.arena used
    settled = settled_over v.arena used

    pub goes_settled : Going (ties C placed flash a) used h t (Stands (given to default f) callers base, h) (settled.0, asking_shared)
    goes_settled = let s = settled in going C placed flash a texts used h h t asking_shared (Stands (given to default f) callers base) s.0 s.2 its_shows

    -- it lets others run, and lags
    lagging_on : (b : Bool) → is_unread p.function f.place ≡ b → (ties C placed flash a).Active h asking_shared (Stands (given to default f) callers base) asking_fiber
    lagging_on true u =
        let n = front_length 0 args in
        let w = whole_left u in
        let long = ap length w ∙ length-append front (Plain (Svc number) ∷ put ∷ []) in
        tied_now C placed flash a texts h asking_shared (Stands (given to default f) callers base) asking_fiber
        (stands_behind_service C placed flash a texts image p f callers base c used h t op e x sh count number to v held.got.comes.link svc_at
        (piece_at (Plain (Svc number) ∷ put ∷ []) w 1 (idle_piece p.function) (ap (λ b. Some (lands p.function b (place_of p.places to))) u)) (omega arith) u refl
        ((0, omega arith, refl), joined_after p.function f.place op e (λ when. refl)) its_names held.store held.low its_length)
    lagging_on false u =
        let n = front_length 0 args in
        let w = whole u in
        let ys : List Piece = Plain (Svc number) ∷ Plain (MovImm 0 0) ∷ put ∷ [] in
        let long = ap length w ∙ length-append front ys in
        lags C placed flash a texts image p f callers base c used h t op e x sh count number to v held.got.comes.link h asking_shared svc_at
        (piece_at ys w 1 _ refl) (ap (slice_get (pieces C placed flash a texts image p f callers base c used h t op e x sh))
        (let z : count + 1 + 1 ≡ count + 2 = omega arith in z) ∙ piece_at ys w 2 _ (ap (λ b. Some (lands p.function b (place_of p.places to))) u)) (omega arith) refl
        ((0, omega arith, refl), joined_after p.function f.place op e (λ when. refl)) its_names held.store held.low its_length

    pub goes_lagging : Going (ties C placed flash a) used h t (Stands (given to default f) callers base, h) (asking_fiber, asking_shared)
    goes_lagging = record {
      self = lagging_on (is_unread p.function f.place) refl;
      onward = onward C placed flash a texts used h h t asking_shared its_shows;
    }

    -- it tells the board something
    pub tells_board : (q r : Question) → q ≡ r → ((at : ℕ) → service flash at number asking_fiber asking_shared ≡ Asks r (λ n. (asking_fiber, asking_shared)))
        → Serves (Asks q (λ n. (Stands (given to default f) callers base, h)))
    tells_board q r s served =
        let z = settled in
        let g : ℤ → Fiber × Shared = λ n. (z.0, asking_shared) in
        record {
          below = λ at. Asks r g;
          completes = λ at. subst (λ u. Completes (fibers flash) one trailing_instructions used u (Asks r g)) (sym (served at)) (g, refl, λ n. z.1);
          matches = λ at. (s, λ n. goes_settled);
        }

  -- A service that answers in r0, which is put, where somebody reads it.
  module _ (answering : answers_in_r0 number ≡ true) where
    whole_answer : pieces C placed flash a texts image p f callers base c used h t op e x sh ≡ front ++ (Plain (Svc number) ∷ put ∷ [])
    whole_answer = ap (λ xs. front ++ (xs ++ put ∷ [])) (asks_answers (is_unread p.function f.place) number answering)

    pub answers_back : (z : ℤ) → (d : Fiber) × Comes (fibers flash) one trailing_instructions (answered_word asking_fiber (number_word z), asking_shared)
        (d, asking_shared) × IsTied C placed flash a (Stands (given to (Whole (to_int32 z)) f) callers base) d
    answers_back z =
        let n = front_length 0 args in
        let pre = front ++ Plain (Svc number) ∷ [] in
        let l : length pre ≡ count + 1 = length-append front (Plain (Svc number) ∷ []) ∙ (let z : length front + 1 ≡ count + 1 = omega arith in z) in
        let w = number_word z in
        let u = with_low 0 w v in
        let lw = held.low in
        let r = put_behind C placed flash a texts image p f callers base c used h t op e x sh to (Whole (to_int32 z)) w pre [] u u held.got.comes.link used
        t.free (whole_answer ∙ split front (put ∷ []) (Plain (Svc number))) refl ((0, omega arith, refl), joined_after p.function f.place op e (λ when. refl)) its_names
        refl its_length (store_low 0 w v (omega arith) ∙ held.store) (length-set v.low 0 w ∙ held.low) (λ q. get_or-set_same v.low 0 w 0 (omega arith))
        (answer_reads z) (omega arith) in
        let pc : spot.behind (first C placed flash a texts image p f callers base c used h t op e x sh + count) ≡ spot.at
        (first C placed flash a texts image p f callers base c used h t op e x sh + length pre) = behind_svc C placed flash a texts image p f callers base
        c used h t op e x sh count number svc_at ∙ ap (λ j. spot.at (first C placed flash a texts image p f callers base c used h t op e x sh + j))
        (sym l) in (
          r.0,
          subst (λ j. Comes (fibers flash) one trailing_instructions (fiber_seen c u j held.got.comes.link, asking_shared) (r.0, asking_shared)) (sym pc) r.1,
          r.2,
        )
      where
        split : (xs ys : List Piece) (y : Piece) → xs ++ y ∷ ys ≡ (xs ++ y ∷ []) ++ ys
        split [] ys y = refl
        split (x ∷ xs) ys y = ap (λ l. x ∷ l) (split xs ys y)

    goes_answered : (z : ℤ) → Going (ties C placed flash a) used h t (Stands (given to (Whole (to_int32 z)) f) callers base, h)
        ((answers_back z).0, asking_shared)
    goes_answered z = let s = answers_back z in going C placed flash a texts used h h t asking_shared (Stands (given to (Whole (to_int32 z)) f) callers base)
        s.0 s.2 its_shows

    -- it asks the board
    pub asks_board : (q r : Question) → q ≡ r → ((at : ℕ) → service flash at number asking_fiber asking_shared ≡ Asks r
        (λ n. (answered_word asking_fiber (number_word n), asking_shared)))
        → Serves (Asks q (λ n. (Stands (given to (Whole (to_int32 n)) f) callers base, h)))
    asks_board q r s served =
        let g : ℤ → Fiber × Shared = λ n. ((answers_back n).0, asking_shared) in
        record {
          below = λ at. Asks r g;
          completes = λ at. subst (λ u. Completes (fibers flash) one trailing_instructions used u (Asks r g)) (sym (served at))
              (g, refl, λ n. (answers_back n).1);
          matches = λ at. (s, λ n. goes_answered n);
        }

    -- it reckons a number
    pub reckons : (z : ℤ) → ((at : ℕ) → service flash at number asking_fiber asking_shared ≡ Goes (answered_word asking_fiber (number_word z)) asking_shared)
        → Serves (Goes (Stands (given to (Whole (to_int32 z)) f) callers base) h)
    reckons z served =
        let s = answers_back z in
        record {
          below = λ at. Goes s.0 asking_shared;
          completes = λ at. subst (λ u. Completes (fibers flash) one trailing_instructions used u (Goes s.0 asking_shared)) (sym (served at))
              (s.0, asking_shared, refl, s.1);
          matches = λ at. goes_answered z;
        }

  -- as deep as the frames say
  pub as_deep : (y : Value) → depth_of C (given to y f ∷ callers) ≡ length v.words
  as_deep y =
      let r = x.running in
      let fl = frames_fill C placed flash a c.bank callers _ _ r.above in
      let w : words_of (entry C.functions f.function) ≡ words_of (Some p.function) = ap words_of
      (entry_is C.functions f.function ∙ ((here C placed flash a texts image p f callers base c used h t op e x sh).within_function).function) in
      let l = its_length in
      omega arith
