-- Each service: what flat code asks is what the machine asks.
use Rattle.std.proofs.Common.{zero, suc, ◌≡◌, ◌≢◌, ℕ, ◌+◌, ◌-◌, ◌*◌, ◌%◌, ◌<◌, ◌≤◌, ◌^◌, List, [], ◌∷◌, length, map, Some, Bool, true, false, nat_lt, nat_le, ◌==◌, ◌&&◌, if◌then◌else◌, ⊎_elim, refl, sym, ap, ◌∙◌, arith, slice_get, slice_index}
use Rattle.std.specs.Prelude.{ℤ, pos, negsuc, get_or}
use Rattle.std.specs.Int.{cast_signed, w32}
use Rattle.thumb_code.specs.RegisterFile.{is_odd}
use Rattle.board_world.specs.declared.requests.Request.{Request}
use Rattle.board_world.specs.declared.requests.Request.TheVariants as ask
use Rattle.board_world.specs.Rules.{queues_if_busy}
use Rattle.board_world.specs.Observations.{ByteList}
use Rattle.board_world.specs.Transcript.{decimal_text}
use Rattle.board_world.specs.Font.{glyph_of, frame_of, rows_in, capital, font}
use Rattle.std.specs.List.{list_all}
use Rattle.std.proofs.lemmas.Fmt.{length_signed_le}
use Rattle.std.specs.Prelude.{FitsSigned}
use Rattle.thumb_code.specs.Map.{in_flash, flash_word}
use Rattle.board_world.specs.Kinds.{Raises, Plots, Displays, Writes, Sets, Sends, Time, Value as ValueOf, Pressed, Goes, Pauses, Waits, Spawns, Listens, RaisesNow, Panics}
use Rattle.board_world.specs.Requests.{low_bits, asked}
use Rattle.board_world.specs.Requests as world
use Rattle.board_world.specs.Sound.{NoFault}
use Rattle.bank_model.specs.Fibers.{Fiber, Shared, begins_on, begins_above}
use Rattle.bank_model.specs.Texts.{is_text, text_at, flash_bytes, text_limit}
use Rattle.bank_model.specs.Texts as bank
use Rattle.bank_model.specs.AllServices.{argument, asked_event, asked_listener, answered_word, number_word}
use Rattle.flat_ir.specs.declared.ops.Op.TheVariants.{Ask}
use Rattle.flat_ir.specs.declared.ops.FlatCode.{FlatCode}
use Rattle.flat_ir.specs.Liveness.{IsLiveAt}
use Rattle.register_assign.specs.declared.places.Placed.{Placed}
use Rattle.register_assign.specs.Sound.{place_of}
use Rattle.sts_syntax.specs.TypeRules.{entry}
use Rattle.sts_meaning.specs.Values.{Value, Whole, Object, Text, Code, default, Outcome, Gives, then_gives, whole}
use Rattle.sts_meaning.specs.Services.{requested, text, code, mode, event, listener, with_none, with_one, with_two, with_three, with_four, of_one, of_two, of_event, of_listener}
use Rattle.sts_meaning.specs.Frames.{after}
use Rattle.sts_meaning.specs.Heaps.{FlatHeap}
use Rattle.flat_meaning.specs.Frames.{FlatFrame, Enters, depth_of}
use Rattle.flat_meaning.specs.Steps.{FlatTurn, flat_asker}
use Rattle.thumb_emit.specs.InFlash.{Addresses}
use Rattle.arena_values.proofs.Laws.{signed_low, signed_high, null_is, index_is, negative_is, which, fitting_word, fits_read}
use Rattle.emit_simulation.specs.Starts.{start}
use Rattle.emit_simulation.specs.Ties.{IsAt, IsTied, AtEntry, IsShared, IsImage, Means, IsText, IsCode, stack_end}
use Rattle.emit_simulation.proofs.Turns.{tied_now}
use Rattle.emit_simulation.proofs.Loading.{loaded}
use Rattle.emit_simulation.proofs.Meanings.{function_inside}
use Rattle.emit_simulation.proofs.Services.{v, its_length, asking_fiber, asking_shared, Serves, settled, goes_settled, goes_lagging, tells_board, asks_board, reckons, as_deep}

-- the word's lowest bits
low_is : (w : ℕ) → w < 2 ^ 32 → low_bits 25 (cast_signed w32 w) ≡ w % 2 ^ 25
low_is w l = ⊎_elim (λ s. ap (low_bits 25) (signed_low w s)) (λ s. ap (low_bits 25) (signed_high w s) ∙ omega arith) (which w (2 ^ 31))

code_is : (w : ℕ) → w < 2 ^ 32 → low_bits 8 (cast_signed w32 w) ≡ w % 256
code_is w l = ⊎_elim (λ s. ap (low_bits 8) (signed_low w s)) (λ s. ap (low_bits 8) (signed_high w s) ∙ omega arith) (which w (2 ^ 31))

not_zero : (w : ℕ) → w ≢ 0 → (w == 0) ≡ false
not_zero w n = grind arith

text_there : (texts : List ByteList) (i : ℕ) (bytes : ByteList) → slice_get texts i ≡ Some bytes → get_or texts i [] ≡ bytes
text_there [] i bytes e = cc
text_there (b ∷ rest) zero bytes e = cc
text_there (b ∷ rest) (suc i) bytes e = text_there rest i bytes e

-- glyphs are frames, of 25 bits
small_glyph : ℕ × List ℕ → Bool
small_glyph g = nat_lt (frame_of g.1) 33554432

is_less : (n m : ℕ) → nat_lt n m ≡ true → n < m
is_less n m e = grind arith

first_holds : (x y : Bool) → (x && y) ≡ true → x ≡ true
first_holds true y e = refl
first_holds false y e = e

rest_holds : (x y : Bool) → (x && y) ≡ true → y ≡ true
rest_holds true y e = e
rest_holds false y e = cc

either_small : (b : Bool) (xs ys : List ℕ) → frame_of xs < 2 ^ 25 → frame_of ys < 2 ^ 25 → frame_of (if b then xs else ys) < 2 ^ 25
either_small true xs ys k l = k
either_small false xs ys k l = l

rows_small : (gs : List (ℕ × List ℕ)) (byte : ℕ) → list_all small_glyph gs ≡ true → frame_of (rows_in gs byte) < 2 ^ 25
unfolding small_glyph
rows_small [] byte e = is_less (frame_of (rows_in [] byte)) 33554432 refl
rows_small (g ∷ gs) byte e =
    either_small (g.0 == byte) g.1 (rows_in gs byte) (is_less (frame_of g.1) 33554432 (first_holds (small_glyph g) (list_all small_glyph gs) e))
    (rows_small gs byte (rest_holds (small_glyph g) (list_all small_glyph gs) e))

glyph_small : (byte : ℕ) → glyph_of byte < 2 ^ 25
unfolding small_glyph
glyph_small byte = rows_small font (capital byte) refl

-- a glyph at an index is one at its word, where the text isn't longer than a word without a sign
glyph_fits : (bytes : ByteList) (w : ℕ) → FitsSigned w32 (bank.glyph_at bytes w)
glyph_fits bytes w = by (nat_lt w (length bytes))
  where
    by : (b : Bool) → FitsSigned w32 (if b then pos (glyph_of (slice_index bytes w)) else negsuc 0)
    by true = record { sfits = let s = glyph_small (slice_index bytes w) in omega arith }
    by false = record { sfits = omega arith }

glyph_is : (bytes : ByteList) (i : ℤ) (w : ℕ) → i ≡ cast_signed w32 w → w < 2 ^ 32 → length bytes ≤ 2 ^ 31 → world.glyph_at glyph_of bytes i ≡ bank.glyph_at
    bytes w
glyph_is bytes (pos n) w e l few = let q = index_is w n e l in ap (λ k. bank.glyph_at bytes k) (sym q)
glyph_is bytes (negsuc n) w e l few = let q = negative_is w n e l in let z : nat_lt w (length bytes) ≡ false = grind arith in rw z refl

bytes_long : (flash : List ℕ) (n at : ℕ) → length (flash_bytes flash n at) ≡ n
bytes_long flash zero at = refl
bytes_long flash (suc n) at = ap suc (bytes_long flash n (at + 1))

text_short : (flash : List ℕ) (at : ℕ) → is_text flash at ≡ true → length (text_at flash at) ≤ 2 ^ 31
text_short flash at e =
    let n = bytes_long flash (flash_word flash at) (at + 4) in
    let q = rest_holds (in_flash at) _ (rest_holds (at % 4 == 0) _ e) in
    let r : flash_word flash at ≤ text_limit = at_most (flash_word flash at) text_limit (first_holds _ _ q) in
    omega arith
  where
    at_most : (n m : ℕ) → nat_le n m ≡ true → n ≤ m
    at_most n m e = grind arith

decimal_short : (z : ℤ) → FitsSigned w32 z → length (decimal_text z) ≤ 2 ^ 31
decimal_short z f = omega (arith, length_signed_le 10 z (omega (arith, f.sfits)) (omega (arith, f.sfits)))

module _ (C : FlatCode) (placed : List Placed) (flash : List ℕ) (a : Addresses) (texts : List ByteList) (image : IsImage C placed flash a texts)
    (to number : ℕ) (args : List ℕ) (p : Placed) (f : FlatFrame) (callers : List FlatFrame) (base : ℕ) (c : Fiber) (used : ℕ) (h : FlatHeap) (t : Shared)
    (e : slice_get p.function.ops f.place ≡ Some (Ask to number args))
    (x : IsAt C placed flash a p (λ u. IsLiveAt p.function.ops u f.place) f callers base (start p.function (place_of p.places) f.place) c)
    (sh : IsShared C placed flash a used h t) where
  abbrev S : FlatTurn → Type 0
  S turn = Serves C placed flash a texts image to number args p f callers base c used h t e x sh turn

  -- the word in a register
  abbrev pub arg : ℕ → ℕ
  arg k = slice_index (v C placed flash a texts image to number args p f callers base c used h t e x sh).low k

  abbrev Word : Value → ℕ → Type 0
  Word y w = Means C placed flash a y w

  abbrev Args : List Value → Type 0
  Args ys = (i : ℕ) (y : Value) → entry ys i ≡ Some y → Word y (arg i)

  -- what flat code does with a request
  module _ (G : Request → FlatTurn) where
    abbrev Served : Outcome Request → Type 0
    Served o = NoFault (after o G) → S (after o G)

    pub no_args : (r : Request) → (NoFault (G r) → S (G r)) → (ys : List Value) → Served (with_none r ys)
    no_args r go [] nf = go nf
    no_args r go (y ∷ ys) nf = absurd nf

    pub one_arg : (r : Value → Outcome Request) → ((y : Value) → Word y (arg 0) → Served (r y)) → (ys : List Value) → Args ys → Served (with_one r ys)
    one_arg r go [] ok nf = absurd nf
    one_arg r go (y ∷ []) ok nf = go y (ok 0 y refl) nf
    one_arg r go (y ∷ (z ∷ ys)) ok nf = absurd nf

    pub two_args : (r : Value → Value → Outcome Request) → ((y z : Value) → Word y (arg 0) → Word z (arg 1) → Served (r y z)) → (ys : List Value) → Args ys
        → Served (with_two r ys)
    two_args r go [] ok nf = absurd nf
    two_args r go (y ∷ []) ok nf = absurd nf
    two_args r go (y ∷ (z ∷ [])) ok nf = go y z (ok 0 y refl) (ok 1 z refl) nf
    two_args r go (y ∷ (z ∷ (w ∷ ys))) ok nf = absurd nf

    pub three_args : (r : Value → Value → Value → Outcome Request) → ((y z w : Value) → Word y (arg 0) → Word z (arg 1) → Word w (arg 2) → Served (r y z w))
        → (ys : List Value) → Args ys → Served (with_three r ys)
    three_args r go [] ok nf = absurd nf
    three_args r go (y ∷ []) ok nf = absurd nf
    three_args r go (y ∷ (z ∷ [])) ok nf = absurd nf
    three_args r go (y ∷ (z ∷ (w ∷ []))) ok nf = go y z w (ok 0 y refl) (ok 1 z refl) (ok 2 w refl) nf
    three_args r go (y ∷ (z ∷ (w ∷ (u ∷ ys)))) ok nf = absurd nf

    pub four_args : (r : Value → Value → Value → Value → Outcome Request) → ((y z w u : Value) → Word y (arg 0) → Word z (arg 1) → Word w (arg 2)
        → Word u (arg 3) → Served (r y z w u)) → (ys : List Value) → Args ys → Served (with_four r ys)
    four_args r go [] ok nf = absurd nf
    four_args r go (y ∷ []) ok nf = absurd nf
    four_args r go (y ∷ (z ∷ [])) ok nf = absurd nf
    four_args r go (y ∷ (z ∷ (w ∷ []))) ok nf = absurd nf
    four_args r go (y ∷ (z ∷ (w ∷ (u ∷ [])))) ok nf = go y z w u (ok 0 y refl) (ok 1 z refl) (ok 2 w refl) (ok 3 u refl) nf
    four_args r go (y ∷ (z ∷ (w ∷ (u ∷ (s ∷ ys))))) ok nf = absurd nf

    -- a number
    pub number_arg : (y : Value) (w : ℕ) → Word y w → (F : ℤ → Outcome Request) → ((z : ℤ) → z ≡ cast_signed w32 w → w < 2 ^ 32 → Served (F z))
        → Served (then_gives (whole y) F)
    number_arg (Whole z) w i F go nf = go z i.0 i.1 nf
    number_arg (Object n) w i F go nf = absurd nf
    number_arg (Text n) w i F go nf = absurd nf
    number_arg (Code n) w i F go nf = absurd nf

    -- a text, or null
    pub text_arg : (y : Value) (w : ℕ) → Word y w → (F : ℕ → Outcome Request) → ((i : ℕ) → IsText C placed flash a i w → Served (F i))
        → (w ≡ 0 → S (Panics 105)) → Served (then_gives (text y) F)
    text_arg (Text n) w i F go null nf = go n i nf
    text_arg (Whole (pos zero)) w i F go null nf = null (null_is w i.0 i.1)
    text_arg (Whole (pos (suc n))) w i F go null nf = absurd nf
    text_arg (Whole (negsuc n)) w i F go null nf = absurd nf
    text_arg (Object n) w i F go null nf = absurd nf
    text_arg (Code n) w i F go null nf = absurd nf

    -- the mode of a plot
    pub mode_arg : (y : Value) (w : ℕ) → Word y w → (F : ℕ → Outcome Request) → ((m : ℕ) → m ≡ w → nat_lt w 3 ≡ true → Served (F m))
        → Served (then_gives (mode y) F)
    mode_arg (Whole (pos zero)) w i F go nf = (let e = index_is w 0 i.0 i.1 in go 0 (sym e) (let l : w < 3 = omega arith in grind arith) nf)
    mode_arg (Whole (pos (suc zero))) w i F go nf = (let e = index_is w 1 i.0 i.1 in go 1 (sym e) (let l : w < 3 = omega arith in grind arith) nf)
    mode_arg (Whole (pos (suc (suc zero)))) w i F go nf = (let e = index_is w 2 i.0 i.1 in go 2 (sym e) (let l : w < 3 = omega arith in grind arith) nf)
    mode_arg (Whole (pos (suc (suc (suc n))))) w i F go nf = absurd nf
    mode_arg (Whole (negsuc n)) w i F go nf = absurd nf
    mode_arg (Object n) w i F go nf = absurd nf
    mode_arg (Text n) w i F go nf = absurd nf
    mode_arg (Code n) w i F go nf = absurd nf

    -- a function
    pub code_arg : (y : Value) (w : ℕ) → Word y w → (F : ℕ → Outcome Request) → ((g : ℕ) → IsCode C placed flash a g w → is_odd w ≡ true → Served (F g))
        → Served (then_gives (code y) F)
    code_arg (Code g) w i F go nf = go g i (let s = function_inside C placed flash a texts image g i.0 in let al = s.1 in let q = i.1 in
        let o : w % 2 ≡ 1 = omega arith in grind arith) nf
    code_arg (Whole z) w i F go nf = absurd nf
    code_arg (Object n) w i F go nf = absurd nf
    code_arg (Text n) w i F go nf = absurd nf
    -- what flat code makes of a request, where the service answers and where it doesn't

abbrev pub Making : (C : FlatCode) (texts : List ByteList) (h : FlatHeap) (f : FlatFrame) (callers : List FlatFrame) (base to : ℕ) (answers : Bool) → Request
    → FlatTurn
Making C texts h f callers base to answers r = asked (flat_asker C texts h f callers base to answers) r

module _ (C : FlatCode) (placed : List Placed) (flash : List ℕ) (a : Addresses) (texts : List ByteList) (image : IsImage C placed flash a texts) (to : ℕ)
    (args : List ℕ) (p : Placed) (f : FlatFrame) (callers : List FlatFrame) (base : ℕ) (c : Fiber)
    (used : ℕ) (h : FlatHeap) (t : Shared) (x : IsAt C placed flash a p (λ u. IsLiveAt p.function.ops u f.place) f callers base
    (start p.function (place_of p.places) f.place) c) (sh : IsShared C placed flash a used h t) where
  abbrev pub values : List Value
  values = map f.temps args

  abbrev pub At : ℕ → Type 0
  At number = slice_get p.function.ops f.place ≡ Some (Ask to number args)

  -- of a service that answers nothing, and of one that answers
  abbrev pub quietly : Request → FlatTurn
  quietly r = Making C texts h f callers base to false r

  abbrev pub with_answer : Request → FlatTurn
  with_answer r = Making C texts h f callers base to true r

  pub serve_1 : (e : At 1) → NoFault (after (requested 1 values) quietly) → Serves C placed flash a texts image to 1 args p f callers base c used h t e x sh
      (after (requested 1 values) quietly)
  serve_1 e nf =
      one_arg C placed flash a texts image to 1 args p f callers base c used h t e x sh quietly (of_one ask.Panic)
      (λ y m. number_arg C placed flash a texts image to 1 args p f callers base c used h t e x sh quietly y _ m (λ z. Gives (ask.Panic z))
      (λ z i l nf. record {
        below = λ at. Panics (arg C placed flash a texts image to 1 args p f callers base c used h t e x sh 0 % 256);
        completes = λ at. refl;
        matches = λ at. ap (low_bits 8) i ∙ code_is (arg C placed flash a texts image to 1 args p f callers base c used h t e x sh 0) l;
      })) values (loaded C placed flash a texts image to 1 args p f callers base c used h t e x sh).1 nf

  pub serve_2 : (e : At 2) → NoFault (after (requested 2 values) quietly) → Serves C placed flash a texts image to 2 args p f callers base c used h t e x sh
      (after (requested 2 values) quietly)
  serve_2 e nf =
      one_arg C placed flash a texts image to 2 args p f callers base c used h t e x sh quietly (of_one ask.Pause)
      (λ y m. number_arg C placed flash a texts image to 2 args p f callers base c used h t e x sh quietly y _ m (λ z. Gives (ask.Pause z))
      (λ z i l nf. record {
        below = λ at. Pauses (argument (asking_fiber C placed flash a texts image to 2 args p f callers base c used h t e x sh) 0)
            (asking_fiber C placed flash a texts image to 2 args p f callers base c used h t e x sh) (asking_shared C placed flash a texts image to 2 args p f
            callers base c used h t e x sh);
        completes = λ at. refl;
        matches = λ at. (
          i,
          as_deep C placed flash a texts image to 2 args p f callers base c used h t e x sh default,
          goes_lagging C placed flash a texts
              image to 2 args p f callers base c used h t e x sh refl,
        );
      })) values (loaded C placed flash a texts image to 2 args p f callers base c used h t e x sh).1 nf

  pub serve_3 : (e : At 3) → NoFault (after (requested 3 values) quietly) → Serves C placed flash a texts image to 3 args p f callers base c used h t e x sh
      (after (requested 3 values) quietly)
  serve_3 e nf =
      two_args C placed flash a texts image to 3 args p f callers base c used h t e x sh quietly (of_event ask.Wait)
      (λ y z m n. number_arg C placed flash a texts image to 3 args p f callers base c used h t e x sh quietly y _ m
      (λ s. then_gives (whole z) (λ w. Gives (ask.Wait (event s w)))) (λ s i l. number_arg C placed flash a texts image to 3 args p f callers base c used h
      t e x sh quietly z _ n (λ w. Gives (ask.Wait (event s w))) (λ w j k nf. record {
        below = λ at. Waits (asked_event (asking_fiber C placed flash a texts image to 3 args p f callers base c used h t e x sh))
            (asking_fiber C placed flash a texts image to 3 args p f callers base c used h t e x sh) (asking_shared C placed flash a texts image to 3 args p f
            callers base c used h t e x sh);
        completes = λ at. refl;
        matches = λ at. (
          (λ q. event (i q) (j q)),
          as_deep C placed flash a texts image to 3 args p f callers base c used h t e x sh default,
          goes_lagging C
              placed flash a texts image to 3 args p f callers base c used h t e x sh refl,
        );
      }))) values (loaded C placed flash a texts image to 3 args p f callers base c used h t e x sh).1 nf

  pub serve_4 : (e : At 4) → NoFault (after (requested 4 values) quietly) → Serves C placed flash a texts image to 4 args p f callers base c used h t e x sh
      (after (requested 4 values) quietly)
  serve_4 e nf =
      one_arg C placed flash a texts image to 4 args p f callers base c used h t e x sh quietly (λ y. then_gives (code y) (λ g. Gives (ask.Spawn g)))
      (λ y m. code_arg C placed flash a texts image to 4 args p f callers base c used h t e x sh quietly y _ m (λ g. Gives (ask.Spawn g))
      (λ g i odd nf. (let z = settled C placed flash a texts image to 4 args p f callers base c used h t e x sh refl in record {
        below = λ at. Spawns (arg C placed flash a texts image to 4 args p f callers base c used h t e x sh 0) z.0
            (asking_shared C placed flash a texts image to 4 args p f callers base c used h t e x sh);
        completes = λ at. rw odd (z.0, asking_shared C placed flash a texts image to 4 args p f callers base c used h t e x sh, refl, z.1);
        matches = λ at. (i, goes_settled C placed flash a texts image to 4 args p f callers base c used h t e x sh refl);
      }))) values (loaded C placed flash a texts image to 4 args p f callers base c used h t e x sh).1 nf

  pub serve_5 : (e : At 5) → NoFault (after (requested 5 values) quietly) → Serves C placed flash a texts image to 5 args p f callers base c used h t e x sh
      (after (requested 5 values) quietly)
  serve_5 e nf =
      three_args C placed flash a texts image to 5 args p f callers base c used h t e x sh quietly (λ s w g. of_listener s w g (Whole queues_if_busy))
      (λ s w g m n o. number_arg C placed flash a texts image to 5 args p f callers base c used h t e x sh quietly s _ m
      (λ s. then_gives (whole w) (λ w. then_gives (code g) (λ g. Gives (ask.Listen (listener s w g queues_if_busy)))))
      (λ s i l. number_arg C placed flash a texts image to 5 args p f callers base c used h t e x sh quietly w _ n
      (λ w. then_gives (code g) (λ g. Gives (ask.Listen (listener s w g queues_if_busy))))
      (λ w j k. code_arg C placed flash a texts image to 5 args p f callers base c used h t e x sh quietly g _ o
      (λ g. Gives (ask.Listen (listener s w g queues_if_busy))) (λ g r odd nf. (let z = settled C placed flash a texts image to 5 args p f callers base c
      used h t e x sh refl in record {
        below = λ at. Listens (asked_listener (asking_fiber C placed flash a texts image to 5 args p f callers base c used h t e x sh) queues_if_busy) z.0
            (asking_shared C placed flash a texts image to 5 args p f callers base c used h t e x sh);
        completes = λ at. rw odd (z.0, asking_shared C placed flash a texts image to 5 args p f callers base c used h t e x sh, refl, z.1);
        matches = λ at. (
          record { source = i; value = j; code = r; mode = refl },
          goes_settled C placed flash a texts image to 5 args p f callers base c used h
              t e x sh refl,
        );
      }))))) values (loaded C placed flash a texts image to 5 args p f callers base c used h t e x sh).1 nf

  pub serve_6 : (e : At 6) → NoFault (after (requested 6 values) quietly) → Serves C placed flash a texts image to 6 args p f callers base c used h t e x sh
      (after (requested 6 values) quietly)
  serve_6 e nf =
      two_args C placed flash a texts image to 6 args p f callers base c used h t e x sh quietly (of_event ask.Raise)
      (λ y z m n. number_arg C placed flash a texts image to 6 args p f callers base c used h t e x sh quietly y _ m
      (λ s. then_gives (whole z) (λ w. Gives (ask.Raise (event s w)))) (λ s i l. number_arg C placed flash a texts image to 6 args p f callers base c used
      h t e x sh quietly z _ n (λ w. Gives (ask.Raise (event s w)))
      (λ w j k nf. tells_board C placed flash a texts image to 6 args p f callers base c used h t e x sh refl (Raises (event s w))
      (Raises (asked_event (asking_fiber C placed flash a texts image to 6 args p f callers base c used h t e x sh))) (λ q. Raises (event (i q) (j q)))
      (λ at. refl)))) values (loaded C placed flash a texts image to 6 args p f callers base c used h t e x sh).1 nf

  pub serve_7 : (e : At 7) → NoFault (after (requested 7 values) with_answer) → Serves C placed flash a texts image to 7 args p f callers base c used h t e x
      sh (after (requested 7 values) with_answer)
  serve_7 e nf =
      no_args C placed flash a texts image to 7 args p f callers base c used h t e x sh with_answer ask.Time (λ nf. asks_board C placed flash a texts image to
      7 args p f callers base c used h t e x sh refl Time Time refl (λ at. refl)) values nf

  pub serve_8 : (e : At 8) → NoFault (after (requested 8 values) with_answer) → Serves C placed flash a texts image to 8 args p f callers base c used h t e x
      sh (after (requested 8 values) with_answer)
  serve_8 e nf =
      no_args C placed flash a texts image to 8 args p f callers base c used h t e x sh with_answer ask.EventValue
      (λ nf. asks_board C placed flash a texts image to 8 args p f callers base c used h t e x sh refl ValueOf ValueOf refl (λ at. refl)) values nf

  pub serve_9 : (e : At 9) → NoFault (after (requested 9 values) with_answer) → Serves C placed flash a texts image to 9 args p f callers base c used h t e x
      sh (after (requested 9 values) with_answer)
  serve_9 e nf =
      one_arg C placed flash a texts image to 9 args p f callers base c used h t e x sh with_answer (of_one ask.Button)
      (λ y m. number_arg C placed flash a texts image to 9 args p f callers base c used h t e x sh with_answer y _ m (λ z. Gives (ask.Button z))
      (λ z i l nf. asks_board C placed flash a texts image to 9 args p f callers base c used h t e x sh refl (Pressed z)
      (Pressed (argument (asking_fiber C placed flash a texts image to 9 args p f callers base c used h t e x sh) 0)) (ap Pressed i) (λ at. refl))) values
      (loaded C placed flash a texts image to 9 args p f callers base c used h t e x sh).1 nf

  pub serve_10 : (e : At 10) → NoFault (after (requested 10 values) quietly) → Serves C placed flash a texts image to 10 args p f callers base c used h t e x
      sh (after (requested 10 values) quietly)
  serve_10 e nf =
      three_args C placed flash a texts image to 10 args p f callers base c used h t e x sh quietly
      (λ y z w. then_gives (whole y) (λ y. then_gives (whole z) (λ z. then_gives (mode w) (λ w. Gives (ask.Plot y z w)))))
      (λ y z w m n o. number_arg C placed flash a texts image to 10 args p f callers base c used h t e x sh quietly y _ m
      (λ y. then_gives (whole z) (λ z. then_gives (mode w) (λ w. Gives (ask.Plot y z w))))
      (λ y i l. number_arg C placed flash a texts image to 10 args p f callers base c used h t e x sh quietly z _ n
      (λ z. then_gives (mode w) (λ w. Gives (ask.Plot y z w))) (λ z j k. mode_arg C placed flash a texts image to 10 args p f callers base c used h t e x
      sh quietly w _ o (λ w. Gives (ask.Plot y z w)) (λ w r small nf.
      tells_board C placed flash a texts image to 10 args p f callers base c used h t e x sh refl (Plots y z w)
      (Plots (argument (asking_fiber C placed flash a texts image to 10 args p f callers base c used h t e x sh) 0)
      (argument (asking_fiber C placed flash a texts image to 10 args p f callers base c used h t e x sh) 1) (arg C placed flash a texts image to 10 args p
      f callers base c used h t e x sh 2)) (λ q. Plots (i q) (j q) (r q)) (λ at. rw small refl))))) values (loaded C placed flash a texts image to 10 args
      p f callers base c used h t e x sh).1 nf

  pub serve_11 : (e : At 11) → NoFault (after (requested 11 values) quietly) → Serves C placed flash a texts image to 11 args p f callers base c used h t e x
      sh (after (requested 11 values) quietly)
  serve_11 e nf =
      one_arg C placed flash a texts image to 11 args p f callers base c used h t e x sh quietly (of_one ask.Show)
      (λ y m. number_arg C placed flash a texts image to 11 args p f callers base c used h t e x sh quietly y _ m (λ z. Gives (ask.Show z))
      (λ z i l nf. tells_board C placed flash a texts image to 11 args p f callers base c used h t e x sh refl (Displays (low_bits 25 z))
      (Displays (arg C placed flash a texts image to 11 args p f callers base c used h t e x sh 0 % 2 ^ 25))
      (ap Displays (ap (low_bits 25) i ∙ low_is (arg C placed flash a texts image to 11 args p f callers base c used h t e x sh 0) l)) (λ at. refl)))
      values (loaded C placed flash a texts image to 11 args p f callers base c used h t e x sh).1 nf

  pub serve_12 : (e : At 12) → NoFault (after (requested 12 values) quietly) → Serves C placed flash a texts image to 12 args p f callers base c used h t e x
      sh (after (requested 12 values) quietly)
  serve_12 e nf =
      one_arg C placed flash a texts image to 12 args p f callers base c used h t e x sh quietly (of_one ask.WriteNumber)
      (λ y m. number_arg C placed flash a texts image to 12 args p f callers base c used h t e x sh quietly y _ m (λ z. Gives (ask.WriteNumber z))
      (λ z i l nf. tells_board C placed flash a texts image to 12 args p f callers base c used h t e x sh refl (Writes (decimal_text z))
      (Writes (decimal_text (argument (asking_fiber C placed flash a texts image to 12 args p f callers base c used h t e x sh) 0)))
      (ap (λ z. Writes (decimal_text z)) i) (λ at. refl)))
      values (loaded C placed flash a texts image to 12 args p f callers base c used h t e x sh).1 nf

  pub serve_14 : (e : At 14) → NoFault (after (requested 14 values) quietly) → Serves C placed flash a texts image to 14 args p f callers base c used h t e x
      sh (after (requested 14 values) quietly)
  serve_14 e nf =
      two_args C placed flash a texts image to 14 args p f callers base c used h t e x sh quietly (of_two ask.PinWrite)
      (λ y z m n. number_arg C placed flash a texts image to 14 args p f callers base c used h t e x sh quietly y _ m
      (λ s. then_gives (whole z) (λ w. Gives (ask.PinWrite s w))) (λ s i l. number_arg C placed flash a texts image to 14 args p f callers base c used h t
      e x sh quietly z _ n (λ w. Gives (ask.PinWrite s w))
      (λ w j k nf. tells_board C placed flash a texts image to 14 args p f callers base c used h t e x sh refl (Sets s w)
      (Sets (argument (asking_fiber C placed flash a texts image to 14 args p f callers base c used h t e x sh) 0)
      (argument (asking_fiber C placed flash a texts image to 14 args p f callers base c used h t e x sh) 1)) (λ q. Sets (i q) (j q)) (λ at. refl))))
      values (loaded C placed flash a texts image to 14 args p f callers base c used h t e x sh).1 nf

  pub serve_15 : (e : At 15) → NoFault (after (requested 15 values) quietly) → Serves C placed flash a texts image to 15 args p f callers base c used h t e x
      sh (after (requested 15 values) quietly)
  serve_15 e nf =
      one_arg C placed flash a texts image to 15 args p f callers base c used h t e x sh quietly (of_one ask.Radio)
      (λ y m. number_arg C placed flash a texts image to 15 args p f callers base c used h t e x sh quietly y _ m (λ z. Gives (ask.Radio z))
      (λ z i l nf. tells_board C placed flash a texts image to 15 args p f callers base c used h t e x sh refl (Sends z)
      (Sends (argument (asking_fiber C placed flash a texts image to 15 args p f callers base c used h t e x sh) 0)) (ap Sends i) (λ at. refl))) values
      (loaded C placed flash a texts image to 15 args p f callers base c used h t e x sh).1 nf

  pub serve_22 : (e : At 22) → NoFault (after (requested 22 values) quietly) → Serves C placed flash a texts image to 22 args p f callers base c used h t e x
      sh (after (requested 22 values) quietly)
  serve_22 e nf =
      four_args C placed flash a texts image to 22 args p f callers base c used h t e x sh quietly of_listener (λ s w g y m n o u. number_arg C placed flash a
      texts image to 22 args p f callers base c used h t e x sh quietly s _ m
      (λ s. then_gives (whole w) (λ w. then_gives (code g) (λ g. then_gives (whole y) (λ y. Gives (ask.Listen (listener s w g y))))))
      (λ s i l. number_arg C placed flash a texts image to 22 args p f callers base c used h t e x sh quietly w _ n
      (λ w. then_gives (code g) (λ g. then_gives (whole y) (λ y. Gives (ask.Listen (listener s w g y)))))
      (λ w j k. code_arg C placed flash a texts image to 22 args p f callers base c used h t e x sh quietly g _ o
      (λ g. then_gives (whole y) (λ y. Gives (ask.Listen (listener s w g y)))) (λ g r odd. number_arg C placed flash a texts image to 22 args p f callers
      base c used h t e x sh quietly y _ u (λ y. Gives (ask.Listen (listener s w g y)))
      (λ y q lt nf. (let z = settled C placed flash a texts image to 22 args p f callers base c used h t e x sh refl in record {
        below = λ at. Listens (asked_listener (asking_fiber C placed flash a texts image to 22 args p f callers base c used h t e x sh)
            (argument (asking_fiber C placed flash a texts image to 22 args p f callers base c used h t e x sh) 3)) z.0
            (asking_shared C placed flash a texts image to 22 args p f callers base c used h t e x sh);
        completes = λ at. rw odd (z.0, asking_shared C placed flash a texts image to 22 args p f callers base c used h t e x sh, refl, z.1);
        matches = λ at. (
          record { source = i; value = j; code = r; mode = q },
          goes_settled C placed flash a texts image to 22 args p f callers base c used h t
              e x sh refl,
        );
      })))))) values (loaded C placed flash a texts image to 22 args p f callers base c used h t e x sh).1 nf

  -- a text that is there
  abbrev IsThere : ℕ → ℕ → Type 0
  IsThere i w = (w ≢ 0) × (is_text flash w ≡ true) × (get_or texts i [] ≡ text_at flash w)

  its_text : (i w : ℕ) → IsText C placed flash a i w → IsThere i w
  its_text i w k =
      let s = (image.shows).named_texts i k.0 in
      let l = (s.2).positive in
      let q = k.1 in (
        (λ z. (let y : w ≡ 0 = z in omega arith)),
        ap (is_text flash) q ∙ (s.2).sound,
        text_there texts i s.0 s.1 ∙ (sym (s.2).bytes_are ∙ ap (text_at flash) (sym q)),
      )

  pub serve_13 : (e : At 13) → NoFault (after (requested 13 values) quietly) → Serves C placed flash a texts image to 13 args p f callers base c used h t e x
      sh (after (requested 13 values) quietly)
  serve_13 e nf =
      one_arg C placed flash a texts image to 13 args p f callers base c used h t e x sh quietly (λ y. then_gives (text y) (λ i. Gives (ask.WriteText i)))
      (λ y m. text_arg C placed flash a texts image to 13 args p f callers base c used h t e x sh quietly y _ m (λ i. Gives (ask.WriteText i))
      (λ i k nf. (let s = its_text i _ k in let z : (arg C placed flash a texts image to 13 args p f callers base c used h t e x sh 0 == 0) ≡
      false = not_zero _ s.0 in let here = s.1 in
      tells_board C placed flash a texts image to 13 args p f callers base c used h t e x sh refl (Writes (get_or texts i []))
      (Writes (text_at flash (arg C placed flash a texts image to 13 args p f callers base c used h t e x sh 0))) (ap Writes s.2)
      (λ at. rw z (rw here refl))))
      (λ null. record { below = λ at. Panics 105; completes = λ at. rw null refl; matches = λ at. refl })) values
      (loaded C placed flash a texts image to 13 args p f callers base c used h t e x sh).1 nf

  pub serve_16 : (e : At 16) → NoFault (after (requested 16 values) with_answer) → Serves C placed flash a texts image to 16 args p f callers base c used h t e
      x sh (after (requested 16 values) with_answer)
  serve_16 e nf =
      two_args C placed flash a texts image to 16 args p f callers base c used h t e x sh with_answer
      (λ y j. then_gives (text y) (λ i. then_gives (whole j) (λ j. Gives (ask.TextGlyph i j)))) (λ y j m n. text_arg C placed flash a texts image to 16
      args p f callers base c used h t e x sh with_answer y _ m (λ i. then_gives (whole j) (λ j. Gives (ask.TextGlyph i j)))
      (λ i k. number_arg C placed flash a texts image to 16 args p f callers base c used h t e x sh with_answer j _ n (λ j. Gives (ask.TextGlyph i j))
      (λ j q l nf. (
      let s = its_text i _ k in
      let z : (arg C placed flash a texts image to 16 args p f callers base c used h t e x sh 0 == 0) ≡ false = not_zero _ s.0 in
      let here = s.1 in
      let bytes = text_at flash (arg C placed flash a texts image to 16 args p f callers base c used h t e x sh 0) in
      let same : world.glyph_at glyph_of (get_or texts i []) j ≡ bank.glyph_at bytes (arg C placed flash a texts image to 16 args p f callers base c used h t e x
      sh 1) = ap (λ b. world.glyph_at glyph_of b j) s.2 ∙ glyph_is bytes j (arg C placed flash a texts image to 16 args p f callers base c used h t e x sh
      1) q l (text_short flash (arg C placed flash a texts image to 16 args p f callers base c used h t e x sh 0) s.1) in
      reckons C placed flash a texts image to 16 args p f callers base c used h t e x sh refl (world.glyph_at glyph_of (get_or texts i []) j)
      (λ at. rw z (rw here (ap (λ n. Goes (answered_word (asking_fiber C placed flash a texts image to 16 args p f callers base c used h t e x sh) n)
      (asking_shared C placed flash a texts image to 16 args p f callers base c used h t e x sh))
      (fitting_word (bank.glyph_at bytes (arg C placed flash a texts image to 16 args p f callers base c used h t e x sh 1))
      (glyph_fits bytes (arg C placed flash a texts image to 16 args p f callers base c used h t e x sh 1)) ∙ ap number_word (sym same))))))))
      (λ null. record { below = λ at. Panics 105; completes = λ at. rw null refl; matches = λ at. refl })) values
      (loaded C placed flash a texts image to 16 args p f callers base c used h t e x sh).1 nf

  pub serve_17 : (e : At 17) → NoFault (after (requested 17 values) with_answer) → Serves C placed flash a texts image to 17 args p f callers base c used h t e
      x sh (after (requested 17 values) with_answer)
  serve_17 e nf =
      two_args C placed flash a texts image to 17 args p f callers base c used h t e x sh with_answer (of_two ask.NumberGlyph)
      (λ y j m n. number_arg C placed flash a texts image to 17 args p f callers base c used h t e x sh with_answer y _ m
      (λ y. then_gives (whole j) (λ j. Gives (ask.NumberGlyph y j))) (λ y i k. number_arg C placed flash a texts image to 17 args p f callers base c used h
      t e x sh with_answer j _ n (λ j. Gives (ask.NumberGlyph y j)) (λ j q l nf. (
      let bytes = decimal_text (argument (asking_fiber C placed flash a texts image to 17 args p f callers base c used h t e x sh) 0) in
      let short = decimal_short (argument (asking_fiber C placed flash a texts image to 17 args p f callers base c used h t e x sh) 0)
      (fits_read (argument (asking_fiber C placed flash a texts image to 17 args p f callers base c used h t e x sh) 0)
      (arg C placed flash a texts image to 17 args p f callers base c used h t e x sh 0) (refl, k)) in
      let same : world.glyph_at glyph_of (decimal_text y) j ≡ bank.glyph_at bytes (arg C placed flash a texts image to 17 args p f callers base c used h t e x
      sh 1) = ap (λ b. world.glyph_at glyph_of (decimal_text b) j) i ∙ glyph_is bytes j (arg C placed flash a texts image to 17 args p f callers base c
      used h t e x sh 1) q l short in
      reckons C placed flash a texts image to 17 args p f callers base c used h t e x sh refl (world.glyph_at glyph_of (decimal_text y) j)
      (λ at. ap (λ n. Goes (answered_word (asking_fiber C placed flash a texts image to 17 args p f callers base c used h t e x sh) n)
      (asking_shared C placed flash a texts image to 17 args p f callers base c used h t e x sh))
      (fitting_word (bank.glyph_at bytes (arg C placed flash a texts image to 17 args p f callers base c used h t e x sh 1))
      (glyph_fits bytes (arg C placed flash a texts image to 17 args p f callers base c used h t e x sh 1)) ∙ ap number_word (sym same)))))))
      values (loaded C placed flash a texts image to 17 args p f callers base c used h t e x sh).1 nf

  -- a function that begins on top of the fiber
  above : (e : At 23) (i j : ℕ) → IsCode C placed flash a i j → IsTied C placed flash a (Enters i (base + depth_of C (f ∷ callers)))
      (begins_above flash (asking_fiber C placed flash a texts image to 23 args p f callers base c used h t e x sh) j)
  above e i j k =
      let d : depth_of C (f ∷ callers) ≡ length (v C placed flash a texts image to 23 args p f callers base c used h t e x sh).words = as_deep C placed flash a
      texts image to 23 args p f callers base c used h t e x sh default in
      let s = x.sp_is in let b = x.base_is in let l = x.deep in
      let z = its_length C placed flash a texts image to 23 args p f callers base c used h t e x sh in
      let q = k.1 in
      AtEntry i (base + depth_of C (f ∷ callers)) (begins_above flash (asking_fiber C placed flash a texts image to 23 args p f callers base c used h t e x sh)
      j) k.0 (omega arith) (λ n. begins_on flash ((let y : c.registers.sp ≡ stack_end - 4 * (base + depth_of C (f ∷ callers)) = omega arith in y) n) (q n))

  pub serve_23 : (e : At 23) → NoFault (after (requested 23 values) quietly) → Serves C placed flash a texts image to 23 args p f callers base c used h t e x
      sh (after (requested 23 values) quietly)
  serve_23 e nf =
      two_args C placed flash a texts image to 23 args p f callers base c used h t e x sh quietly (of_event ask.RaiseNow)
      (λ y z m n. number_arg C placed flash a texts image to 23 args p f callers base c used h t e x sh quietly y _ m
      (λ s. then_gives (whole z) (λ w. Gives (ask.RaiseNow (event s w)))) (λ s i l. number_arg C placed flash a texts image to 23 args p f callers base c
      used h t e x sh quietly z _ n (λ w. Gives (ask.RaiseNow (event s w))) (λ w j k nf. record {
        below = λ at. RaisesNow (asked_event (asking_fiber C placed flash a texts image to 23 args p f callers base c used h t e x sh))
            (begins_above flash (asking_fiber C placed flash a texts image to 23 args p f callers base c used h t e x sh))
            (asking_fiber C placed flash a texts image to 23 args p f callers base c used h t e x sh) (asking_shared C placed flash a texts image to 23 args p
            f callers base c used h t e x sh);
        completes = λ at. refl;
        matches = λ at. (
          (λ q. event (i q) (j q)),
          record {
            each = λ i j k. tied_now C placed flash a texts h (asking_shared C placed flash a texts image to 23
                args p f callers base c used h t e x sh) (Enters i (base + depth_of C (f ∷ callers)))
                (begins_above flash (asking_fiber C placed flash a texts image to 23 args p f callers base c used h t e x sh) j) (above e i j k);
          },
          goes_lagging C
              placed flash a texts image to 23 args p f callers base c used h t e x sh refl,
        );
      }))) values (loaded C placed flash a texts image to 23 args p f callers base c used h t e x sh).1 nf
