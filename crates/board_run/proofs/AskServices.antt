-- Services by which the running fiber asks the board for something, tells it something, or reckons.
use Rattle.std.proofs.Common.{◌≡◌, ℕ, zero, suc, ◌≤◌, ◌<◌, ◌==◌, ◌%◌, ◌-◌, ◌^◌, ℤ, pos, negsuc, Bool, true, false, not, nat_lt, if◌then◌else◌, List, [], ◌∷◌, ◌++◌, length, Some, IfSome, refl, sym, ap, ◌∙◌, subst, arith, slice_set, to_z, of_z, to_z-of_z}
use Rattle.std.proofs.lemmas.Bool.Decides.{nat_tests}
use Rattle.std.proofs.lemmas.List.{append-nil}
use Rattle.std.proofs.lemmas.Fmt.{decimal_nonempty}
use Rattle.std.specs.Int.{cast_unsigned, cast_signed, from_bool, w32}
use mir.Val.{SFits}
use lib.Signed.{lt_z, mag}
use lib.IntN.{nat_abs}
use Rattle.thumb_code.specs.RegisterFile.{put_low}
use Rattle.board_world.specs.declared.events.Event.{Event}
use Rattle.board_world.specs.Limits.{queue_limit, pin_limit}
use Rattle.board_world.specs.Frame.{plotted}
use Rattle.board_world.specs.Observations.{ByteList, Observation, Serial, Pin as PinSeen, Radio as RadioSeen}
use Rattle.board_world.specs.Transcript.{decimal_text}
use Rattle.board_world.specs.Board.{Board, raised}
use Rattle.board_world.specs.Kinds.{Question, Raises, Plots, Displays, Writes, Sets, Sends, Time, Value, Pressed, Asks, Goes as GoesOn, answer, showed, wrote, was_set, level, pressed}
use Rattle.board_world.specs.Activities.{World}
use Rattle.bank_model.specs.Fibers.{Fiber, Shared}
use Rattle.bank_model.specs.Standing.{fiber_on, shared_on}
use Rattle.bank_model.specs.AllServices.{service, argument, word_argument, asked_event, answered, answered_word, number_word, quotient, remainder}
use Rattle.bank_model.specs.Texts.{glyph_at}
use Rattle.message_bus.specs.BusState.{BusState, queued}
use Rattle.fiber_runtime.specs.declared.turning.Turning.{Turning}
use Rattle.fiber_runtime.specs.State.{State}
use Rattle.board_run.specs.declared.engine.Engine.{Engine}
use Rattle.board_outside.specs.declared.output.Output.{Output}
use Rattle.board_outside.specs.declared.output.Output.TheVariants.{Nothing, Frame, Number, Text, Pin, Radio}
use Rattle.board_run.specs.declared.engine.Served.TheVariants.{Goes}
use Rattle.board_run.specs.Represents.{Represents, state_of}
use Rattle.board_outside.specs.Moves.{Move, Seen, seen_of}
use Rattle.board_run.specs.Serving.{turned, IsServed}
use Rattle.board_outside.specs.Outputs.{moves_of}
use Rattle.board_run.proofs.Acting.{Unplugless, Leaves, shared_is, goes_leaves, asks_leaves}

pub output_unplugless : (flash : List ℕ) (now : ℕ) (output : Output) → Unplugless (moves_of flash now output)
output_unplugless flash now Nothing k = refl
output_unplugless flash now (Frame frame) k = refl
output_unplugless flash now (Number number) k = refl
output_unplugless flash now (Text at) k = refl
output_unplugless flash now (Pin pin level) k = refl
output_unplugless flash now (Radio number) k = refl

-- a board with these observations and unplugs
abbrev pub with_met : Board → List Observation → List (ℕ × ℕ) → Board
with_met p s u = record p { seen = s; unplugged = u }

nothing_more : (p : Board) (s : List Observation) (u : List (ℕ × ℕ)) → with_met p s u ≡ with_met p (s ++ []) u
nothing_more p s u = ap (λ l. with_met p l u) (sym (append-nil s))

raised_plain : (x : Event) (p : Board) (s : List Observation) (u : List (ℕ × ℕ)) → raised x (with_met p s u) ≡ with_met (record p { queue = queued x p.queue }) (s ++ []) u
raised_plain x p s u = by_room (nat_lt (length p.queue) queue_limit) refl
  where
    by_room : (c : Bool) → nat_lt (length p.queue) queue_limit ≡ c → raised x (with_met p s u) ≡ with_met (record p { queue = queued x p.queue }) (s ++ []) u
    by_room true e = rw e (nothing_more (record p { queue = p.queue ++ x ∷ [] }) s u)
    by_room false e = rw e (nothing_more p s u)

showed_plain : (flash : List ℕ) (f : ℕ) (p : Board) (s : List Observation) (u : List (ℕ × ℕ))
    → showed f (with_met p s u) ≡ with_met (record p { frame = f }) (s ++ seen_of (moves_of flash p.clock (if f == p.frame then Nothing else Frame f))) u
showed_plain flash f p s u = by_same (f == p.frame) refl
  where
    by_same : (c : Bool) → (f == p.frame) ≡ c → showed f (with_met p s u) ≡ with_met (record p { frame = f }) (s ++ seen_of (moves_of flash p.clock (if f == p.frame then Nothing else Frame f))) u
    by_same true e = (let same : p.frame ≡ f = grind (arith, nat_tests, e) in rw e (nothing_more p s u ∙ ap (λ x. with_met (record p { frame = x }) (s ++ []) u) same))
    by_same false e = rw e refl

wrote_plain : (bytes : ByteList) (p : Board) (s : List Observation) (u : List (ℕ × ℕ)) → 0 < length bytes → wrote bytes (with_met p s u) ≡ with_met p (s ++ Serial p.clock bytes ∷ []) u
wrote_plain [] p s u l = absurd (omega (arith, l))
wrote_plain (c ∷ cs) p s u l = refl

-- the word of a number of 32 bits
number_of : (z : ℤ) → SFits w32 z → number_word z ≡ cast_unsigned w32 z
number_of (pos n) f = let l : n < 2 ^ 31 = f.sfits in omega arith
number_of (negsuc n) f = let l : n < 2 ^ 31 = f.sfits in omega arith

module _ (e : Engine) (image : List ℕ) (t : Turning) (runs : e.runtime.running ≡ Some t) (w : World Fiber Shared) (h : Represents image (state_of e) w) where
  abbrev f : Fiber
  f = fiber_on e.runtime.machine

  abbrev p : Board
  p = (state_of e).plain

  abbrev rs : List ℕ
  rs = e.runtime.machine.registers.r

  abbrev arena : List ℕ
  arena = e.runtime.machine.memory.arena

  same_pair : ◌≡◌ {A = Fiber × Shared} (f, w.shared) (f, shared_on e.arena e.runtime.machine.memory w.shared.free)
  same_pair = ap (λ s. (f, s)) (shared_is image (state_of e) t runs w h)

  -- it tells the board something that may be seen, and changes its plain part alone
  tells_leaves : (plain : Board) (moves : List Move) (q : Question) → Unplugless moves → plain.seats ≡ p.seats → plain.end ≡ p.end → plain.used ≡ e.arena
      → ((s : List Observation) (u : List (ℕ × ℕ)) → (a : ℤ) × (answer q t.value (with_met p s u) ≡ (with_met plain (s ++ seen_of moves) u, a)))
      → Leaves image (state_of e) t runs w h (record (state_of e) { bus = record e.bus { queue = plain.queue }; plain = plain }) moves (turned image (λ f s. Asks q (λ a. (f, s))) (state_of e) t h.mark w)
  tells_leaves plain moves q none seats end used a =
      let x = a w.board.seen w.board.unplugged in
      asks_leaves image (state_of e) t runs w h rs arena plain moves q (λ a. (f, w.shared)) x.0 none seats end x.1 (same_pair ∙ ap (λ n. (f, shared_on n e.runtime.machine.memory w.shared.free)) (sym used))

  -- it gets an answer in R0
  asks_back : (word : ℕ) (q : Question) (a : ℤ) → ((s : List Observation) (u : List (ℕ × ℕ)) → answer q t.value (with_met p s u) ≡ (with_met p s u, a)) → number_word a ≡ word
      → Leaves image (state_of e) t runs w h (state_of (record e { runtime = record e.runtime { machine = record e.runtime.machine { registers = put_low e.runtime.machine.registers 0 word } } })) []
      (turned image (λ f s. Asks q (λ a. (answered_word f (number_word a), s))) (state_of e) t h.mark w)
  asks_back word q a same z =
      let m = λ (x : ℕ). record e.runtime.machine { registers = put_low e.runtime.machine.registers 0 x } in
      subst (λ x. Leaves image (state_of e) t runs w h (state_of (record e { runtime = record e.runtime { machine = m x } })) [] (turned image (λ f s. Asks q (λ a. (answered_word f (number_word a), s))) (state_of e) t h.mark w)) z
      (asks_leaves image (state_of e) t runs w h (slice_set rs 0 (number_word a)) arena p [] q (λ a. (answered_word f (number_word a), w.shared)) a (λ k. refl) refl refl
      (same w.board.seen w.board.unplugged ∙ ap (λ b. (b, a)) (nothing_more p w.board.seen w.board.unplugged)) (ap (λ s. (answered_word f (number_word a), s)) (shared_is image (state_of e) t runs w h)))

  -- it reckons something into R0
  pub goes_back : (word : ℕ) (a : ℤ) → cast_unsigned w32 a ≡ word
      → Leaves image (state_of e) t runs w h (state_of (record e { runtime = record e.runtime { machine = record e.runtime.machine { registers = put_low e.runtime.machine.registers 0 word } } })) []
      (turned image (λ f s. GoesOn (answered f a) s) (state_of e) t h.mark w)
  goes_back word a z =
      let m = λ (x : ℕ). record e.runtime.machine { registers = put_low e.runtime.machine.registers 0 x } in
      subst (λ x. Leaves image (state_of e) t runs w h (state_of (record e { runtime = record e.runtime { machine = m x } })) [] (turned image (λ f s. GoesOn (answered f a) s) (state_of e) t h.mark w)) z
      (goes_leaves image (state_of e) t runs w h (slice_set rs 0 (cast_unsigned w32 a)) arena (answered f a) w.shared (ap (λ s. (answered f a, s)) (shared_is image (state_of e) t runs w h)))

-- What the engine's calls leave.
module _ (e : Engine) where
  abbrev g : Fiber
  g = fiber_on e.runtime.machine

  pub serve_raise : (x : Event) (bus : BusState) → x ≡ asked_event g → bus ≡ record e.bus { queue = queued x e.bus.queue } → (at : ℕ) → IsServed (λ image. service image at 6) (Goes Nothing) e (record e { bus = bus })
  serve_raise x bus same is at = λ image t runs w h.
      subst (λ y. Leaves image (state_of e) t runs w h (state_of (record e { bus = y })) [] (turned image (service image at 6) (state_of e) t h.mark w)) (sym (is ∙ ap (λ y. record e.bus { queue = queued y e.bus.queue }) same))
      (tells_leaves e image t runs w h (record (state_of e).plain { queue = queued (asked_event g) e.bus.queue }) [] (Raises (asked_event g)) (λ k. refl) refl refl refl
      (λ s u. (pos 0, ap (λ b. (b, pos 0)) (raised_plain (asked_event g) (state_of e).plain s u))))

  pub answered_by : (runtime : State) (word : ℕ) → runtime ≡ record e.runtime { machine = record e.runtime.machine { registers = put_low e.runtime.machine.registers 0 word } }
      → (image : List ℕ) (t : Turning) (runs : e.runtime.running ≡ Some t) (w : World Fiber Shared) (h : Represents image (state_of e) w) (v : World Fiber Shared)
      → Leaves image (state_of e) t runs w h (state_of (record e { runtime = record e.runtime { machine = record e.runtime.machine { registers = put_low e.runtime.machine.registers 0 word } } })) [] v
      → Leaves image (state_of e) t runs w h (state_of (record e { runtime = runtime })) [] v
  answered_by runtime word is image t runs w h v x = subst (λ r. Leaves image (state_of e) t runs w h (state_of (record e { runtime = r })) [] v) (sym is) x

  pub serve_time : (runtime : State) → e.clock < 2 ^ 32 → runtime ≡ record e.runtime { machine = record e.runtime.machine { registers = put_low e.runtime.machine.registers 0 e.clock } }
      → (at : ℕ) → IsServed (λ image. service image at 7) (Goes Nothing) e (record e { runtime = runtime })
  serve_time runtime l is at = λ image t runs w h. answered_by runtime e.clock is image t runs w h _ (asks_back e image t runs w h e.clock Time (pos e.clock) (λ s u. refl) (omega arith))

  pub serve_value : (runtime : State) (word : ℕ) (value : ℤ) → SFits w32 value → IfSome e.runtime.running (λ t. value ≡ t.value) → word ≡ cast_unsigned w32 value
      → runtime ≡ record e.runtime { machine = record e.runtime.machine { registers = put_low e.runtime.machine.registers 0 word } }
      → (at : ℕ) → IsServed (λ image. service image at 8) (Goes Nothing) e (record e { runtime = runtime })
  serve_value runtime word value fits v z is at = λ image t runs w h.
      let same : value ≡ t.value = subst (λ o. IfSome o (λ t. value ≡ t.value)) runs v in
      answered_by runtime word is image t runs w h _ (asks_back e image t runs w h word Value t.value (λ s u. refl) (ap number_word (sym same) ∙ (number_of value fits ∙ sym z)))

  pub serve_pressed : (runtime : State) (word : ℕ) (n a : ℤ) → SFits w32 a → n ≡ argument g 0 → ((b : Board) → b.clock ≡ e.clock → b.a_since ≡ e.buttons.a_since → b.b_since ≡ e.buttons.b_since → b.queue ≡ e.bus.queue → pressed n b ≡ a) → cast_unsigned w32 a ≡ word
      → runtime ≡ record e.runtime { machine = record e.runtime.machine { registers = put_low e.runtime.machine.registers 0 word } }
      → (at : ℕ) → IsServed (λ image. service image at 9) (Goes Nothing) e (record e { runtime = runtime })
  serve_pressed runtime word n a fits same down z is at = λ image t runs w h.
      answered_by runtime word is image t runs w h _ (asks_back e image t runs w h word (Pressed (argument g 0)) a
      (λ s u. ap (λ x. (with_met (state_of e).plain s u, x)) (ap (λ y. pressed y (with_met (state_of e).plain s u)) (sym same) ∙ down (with_met (state_of e).plain s u) refl refl refl refl)) (number_of a fits ∙ z))

  shows_frame : (frame : ℕ) (output : Output) → output ≡ (if frame == e.display then Nothing else Frame frame) → (q : Question)
      → ((value : ℤ) (s : List Observation) (u : List (ℕ × ℕ)) → answer q value (with_met (state_of e).plain s u) ≡ (showed frame (with_met (state_of e).plain s u), pos 0))
      → (image : List ℕ) (t : Turning) (runs : e.runtime.running ≡ Some t) (w : World Fiber Shared) (h : Represents image (state_of e) w)
      → Leaves image (state_of e) t runs w h (state_of (record e { display = frame })) (moves_of e.runtime.machine.memory.flash e.clock output) (turned image (λ f s. Asks q (λ a. (f, s))) (state_of e) t h.mark w)
  shows_frame frame output is q shows image t runs w h =
      let flash = e.runtime.machine.memory.flash in
      tells_leaves e image t runs w h (record (state_of e).plain { frame = frame }) (moves_of flash e.clock output) q (output_unplugless flash e.clock output) refl refl refl
      (λ s u. (pos 0, shows t.value s u ∙ ap (λ b. (b, pos 0)) (showed_plain flash frame (state_of e).plain s u ∙ ap (λ x. with_met (record (state_of e).plain { frame = frame }) (s ++ seen_of (moves_of flash e.clock x)) u) (sym is))))

  pub serve_show : (frame : ℕ) (output : Output) → frame ≡ word_argument g 0 % 2 ^ 25 → output ≡ (if frame == e.display then Nothing else Frame frame) → (at : ℕ) → IsServed (λ image. service image at 11) (Goes output) e (record e { display = frame })
  serve_show frame output same is at = λ image t runs w h.
      subst (λ n. Leaves image (state_of e) t runs w h (state_of (record e { display = frame })) (moves_of e.runtime.machine.memory.flash e.clock output) (turned image (λ f s. Asks (Displays n) (λ a. (f, s))) (state_of e) t h.mark w)) same
      (shows_frame frame output is (Displays frame) (λ value s u. refl) image t runs w h)

  pub serve_plot : (frame mode : ℕ) (x y : ℤ) (output : Output) (at : ℕ) → x ≡ argument g 0 → y ≡ argument g 1 → mode ≡ word_argument g 2 → mode ≤ 2 → frame ≡ plotted e.display x y mode → output ≡ (if frame == e.display then Nothing else Frame frame)
      → IsServed (λ image. service image at 10) (Goes output) e (record e { display = frame })
  serve_plot frame mode x y output at ex ey em l same is = λ image t runs w h.
      let few : nat_lt (word_argument g 2) 3 ≡ true = grind (arith, nat_tests, em, l) in
      let q = Plots (argument g 0) (argument g 1) (word_argument g 2) in
      let as_asked : frame ≡ plotted e.display (argument g 0) (argument g 1) (word_argument g 2) = same ∙ ap (λ a. plotted e.display a y mode) ex ∙ ap (λ a. plotted e.display (argument g 0) a mode) ey ∙ ap (plotted e.display (argument g 0) (argument g 1)) em in
      rw few (shows_frame frame output is q (λ value s u. ap (λ n. (showed n (with_met (state_of e).plain s u), pos 0)) (sym as_asked)) image t runs w h)

  -- a output without a change of the board
  pub seen_only : (output : Output) (q : Question) (moves : List Move) → moves ≡ moves_of e.runtime.machine.memory.flash e.clock output
      → ((value : ℤ) (s : List Observation) (u : List (ℕ × ℕ)) → (a : ℤ) × (answer q value (with_met (state_of e).plain s u) ≡ (with_met (state_of e).plain (s ++ seen_of moves) u, a)))
      → (image : List ℕ) (t : Turning) (runs : e.runtime.running ≡ Some t) (w : World Fiber Shared) (h : Represents image (state_of e) w)
      → Leaves image (state_of e) t runs w h (state_of e) (moves_of e.runtime.machine.memory.flash e.clock output) (turned image (λ f s. Asks q (λ a. (f, s))) (state_of e) t h.mark w)
  seen_only output q moves is a image t runs w h =
      let flash = e.runtime.machine.memory.flash in
      tells_leaves e image t runs w h (state_of e).plain (moves_of flash e.clock output) q (output_unplugless flash e.clock output) refl refl refl
      (λ s u. (let x = a t.value s u in (x.0, x.1 ∙ ap (λ ms. (with_met (state_of e).plain (s ++ seen_of ms) u, x.0)) is)))

  pub serve_number : (n : ℤ) → n ≡ argument g 0 → 0 < length (decimal_text (argument g 0)) → (at : ℕ) → IsServed (λ image. service image at 12) (Goes (Number n)) e e
  serve_number n same some at = λ image t runs w h.
      seen_only (Number n) (Writes (decimal_text (argument g 0))) (Seen (Serial e.clock (decimal_text (argument g 0))) ∷ []) (ap (λ y. Seen (Serial e.clock (decimal_text y)) ∷ []) (sym same))
      (λ value s u. (pos 0, ap (λ b. (b, pos 0)) (wrote_plain (decimal_text (argument g 0)) (state_of e).plain s u some))) image t runs w h

  pub serve_send : (n : ℤ) → n ≡ argument g 0 → (at : ℕ) → IsServed (λ image. service image at 15) (Goes (Radio n)) e e
  serve_send n same at = λ image t runs w h.
      seen_only (Radio n) (Sends (argument g 0)) (Seen (RadioSeen e.clock (argument g 0)) ∷ []) (ap (λ y. Seen (RadioSeen e.clock y) ∷ []) (sym same)) (λ value s u. (pos 0, refl)) image t runs w h

-- the decimal text of a word as a signed number isn't empty
text_of : (word : ℕ) (c : Bool) → nat_lt word (2 ^ 31) ≡ c → 0 < length (decimal_text (cast_signed w32 word))
text_of word true e = rw e (decimal_nonempty word (grind (arith, nat_tests)))
text_of word false e = rw e (omega arith)

pub text_nonempty : (word : ℕ) → 0 < length (decimal_text (cast_signed w32 word))
text_nonempty word = text_of word (nat_lt word (2 ^ 31)) refl

set_seen : (pin value : ℤ) (n lv : ℕ) (b : Board) (s : List Observation) (u : List (ℕ × ℕ)) → lt_z pin (pos 0) ≡ false → n ≡ nat_abs pin → nat_abs pin < pin_limit → lv ≡ level value
    → was_set pin value (with_met b s u) ≡ with_met b (s ++ PinSeen b.clock n lv ∷ []) u
set_seen (pos m) value n lv b s u low same l is =
    let room : nat_lt m pin_limit ≡ true = grind (arith, nat_tests, l) in
    rw room (ap (λ x. with_met b (s ++ PinSeen b.clock x (level value) ∷ []) u) (sym same) ∙ ap (λ x. with_met b (s ++ PinSeen b.clock n x ∷ []) u) (sym is))
set_seen (negsuc m) value n lv b s u low same l is = absurd (let e : true ≡ false = low in cc)

pub level_of : (value : ℤ) → SFits w32 value → from_bool (not (cast_unsigned w32 value == 0)) ≡ level value
level_of (pos zero) fits = refl
level_of (pos (suc n)) fits = (let some : (suc n == 0) ≡ false = grind (arith, nat_tests) in rw some refl)
level_of (negsuc n) fits = (let some : (cast_unsigned w32 (negsuc n) == 0) ≡ false = (let z : 0 < 2 ^ 32 - suc n = omega (arith, fits.sfits) in grind (arith, nat_tests, z)) in rw some refl)

pub serve_pin : (e : Engine) (pin value : ℤ) (n lv : ℕ) → pin ≡ argument (fiber_on e.runtime.machine) 0 → value ≡ argument (fiber_on e.runtime.machine) 1 → lt_z pin (pos 0) ≡ false → n ≡ nat_abs pin → nat_abs pin < pin_limit → lv ≡ level value
    → (at : ℕ) → IsServed (λ image. service image at 14) (Goes (Pin n lv)) e e
serve_pin e pin value n lv ep ev low same l is at = λ image t runs w h.
    let a = fiber_on e.runtime.machine in
    seen_only e (Pin n lv) (Sets (argument a 0) (argument a 1)) (Seen (PinSeen e.clock n lv) ∷ []) refl
    (λ v s u. (pos 0, ap (λ b. (b, pos 0)) (ap (λ x. was_set x (argument a 1) (with_met (state_of e).plain s u)) (sym ep) ∙ ap (λ x. was_set pin x (with_met (state_of e).plain s u)) (sym ev) ∙ set_seen pin value n lv (state_of e).plain s u low same l is))) image t runs w h

-- Services that reckon.
module _ (e : Engine) where
  pub serve_divide : (runtime : State) (word : ℕ) (q : ℤ) → q ≡ quotient (argument (fiber_on e.runtime.machine) 0) (argument (fiber_on e.runtime.machine) 1) → cast_unsigned w32 q ≡ word
      → runtime ≡ record e.runtime { machine = record e.runtime.machine { registers = put_low e.runtime.machine.registers 0 word } }
      → (at : ℕ) → IsServed (λ image. service image at 20) (Goes Nothing) e (record e { runtime = runtime })
  serve_divide runtime word q same z is at = λ image t runs w h. answered_by e runtime word is image t runs w h _ (goes_back e image t runs w h word (quotient (argument (fiber_on e.runtime.machine) 0) (argument (fiber_on e.runtime.machine) 1)) (ap (cast_unsigned w32) (sym same) ∙ z))

  pub serve_remainder : (runtime : State) (word : ℕ) (q : ℤ) → q ≡ remainder (argument (fiber_on e.runtime.machine) 0) (argument (fiber_on e.runtime.machine) 1) → cast_unsigned w32 q ≡ word
      → runtime ≡ record e.runtime { machine = record e.runtime.machine { registers = put_low e.runtime.machine.registers 0 word } }
      → (at : ℕ) → IsServed (λ image. service image at 21) (Goes Nothing) e (record e { runtime = runtime })
  serve_remainder runtime word q same z is at = λ image t runs w h. answered_by e runtime word is image t runs w h _ (goes_back e image t runs w h word (remainder (argument (fiber_on e.runtime.machine) 0) (argument (fiber_on e.runtime.machine) 1)) (ap (cast_unsigned w32) (sym same) ∙ z))

  pub serve_glyph : (runtime : State) (word : ℕ) (q : ℤ) → q ≡ glyph_at (decimal_text (argument (fiber_on e.runtime.machine) 0)) (word_argument (fiber_on e.runtime.machine) 1) → cast_unsigned w32 q ≡ word
      → runtime ≡ record e.runtime { machine = record e.runtime.machine { registers = put_low e.runtime.machine.registers 0 word } }
      → (at : ℕ) → IsServed (λ image. service image at 17) (Goes Nothing) e (record e { runtime = runtime })
  serve_glyph runtime word q same z is at = λ image t runs w h. answered_by e runtime word is image t runs w h _ (goes_back e image t runs w h word (glyph_at (decimal_text (argument (fiber_on e.runtime.machine) 0)) (word_argument (fiber_on e.runtime.machine) 1)) (ap (cast_unsigned w32) (sym same) ∙ z))

pub back : (z : ℤ) → mag z < 2 ^ 31 → to_z w32 (of_z w32 z) ≡ z
back z l = to_z-of_z {w = w32} {z = z} (record { sfits = l })

-- arguments as they are passed
pub two_args : (f : ℤ → ℤ → ℤ) (q a b a' b' : ℤ) → mag a < 2 ^ 31 → mag b < 2 ^ 31 → a ≡ a' → b ≡ b' → q ≡ f (to_z w32 (of_z w32 a)) (to_z w32 (of_z w32 b)) → q ≡ f a' b'
two_args f q a b a' b' la lb ea eb h = h ∙ ap (λ x. f x (to_z w32 (of_z w32 b))) (back a la ∙ ea) ∙ ap (f a') (back b lb ∙ eb)

pub cast_back : (q : ℤ) (n : ℕ) → mag q < 2 ^ 31 → n ≡ cast_unsigned w32 (to_z w32 (of_z w32 q)) → cast_unsigned w32 q ≡ n
cast_back q n l h = sym (h ∙ ap (cast_unsigned w32) (back q l))
