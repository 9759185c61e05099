-- Which services ask for something with a function of the program.
use Rattle.std.proofs.Common.{◌≡◌, ℕ, ◌<◌, List, [], ◌∷◌, Option, Some, refl, sym, ap, subst}
use Rattle.std.specs.Prelude.{ℤ}
use Rattle.std.specs.List.{AllZip}
use Rattle.board_world.specs.declared.requests.Request.{Request}
use Rattle.board_world.specs.declared.requests.Request.TheVariants.{Pause, Wait, Raise, RaiseNow, Plot, Show, WriteNumber, WriteText, PinWrite, Radio, Time, EventValue, Button, TextGlyph, NumberGlyph, Panic}
use Rattle.board_world.specs.Rules.{queues_if_busy}
use Rattle.sts_meaning.specs.Values.{Value, Whole, Code, Outcome, Gives, Breaks, Stuck, then_gives, whole}
use Rattle.sts_meaning.specs.Frames.{taken}
use Rattle.sts_meaning.specs.Services.{requested, text, code, mode, event, with_none, with_one, with_two, with_three, of_one, of_two, of_event, of_listener}
use Rattle.lower_simulation.specs.Places.{Marks, Marked, NamesAmong, IsProper}

abbrev pub AllAmong : ℕ → Outcome Request → Type 0
AllAmong functions (Gives r) = NamesAmong functions r
AllAmong functions _ = Unit {0}

-- each request of a service names a function of the program, if any
abbrev pub AllProper : ℕ → Marks → (service n : ℕ) → Type 0
AllProper functions p service n =
    (vs : List Value) (these rest : List Value) → AllZip Marked p vs → taken n vs ≡ Gives (these, rest)
    → AllAmong functions (requested service these)

given_names : (functions : ℕ) (o : Outcome Request) → AllAmong functions o → (r : Request) → o ≡ Gives r → NamesAmong functions r
given_names functions (Gives q) h r e = (let same : q ≡ r = cc in subst (NamesAmong functions) same h)
given_names functions (Breaks code) h r e = cc
given_names functions Stuck h r e = cc

pub all_among : (functions : ℕ) (o : Outcome Request) → ((r : Request) → o ≡ Gives r → NamesAmong functions r) → AllAmong functions o
all_among functions (Gives r) f = f r refl
all_among functions (Breaks code) f = tt
all_among functions Stuck f = tt

pub properly : (functions : ℕ) (p : Marks) (service n : ℕ) → AllProper functions p service n → IsProper functions p service n
properly functions p service n all vs these rest r marked e asks = given_names functions (requested service these) (all vs these rest marked e) r asks

module _ (n : ℕ) where
  among_then : {X : Type 0} (o : Outcome X) (f : X → Outcome Request) → ((x : X) → AllAmong n (f x)) → AllAmong n (then_gives o f)
  among_then (Gives x) f h = h x
  among_then (Breaks code) f h = tt
  among_then Stuck f h = tt

  among_none : (r : Request) → NamesAmong n r → (args : List Value) → AllAmong n (with_none r args)
  among_none r h [] = h
  among_none r h (a ∷ rest) = tt

  among_one : (q : Value → Outcome Request) → ((v : Value) → AllAmong n (q v)) → (args : List Value) → AllAmong n (with_one q args)
  among_one q h [] = tt
  among_one q h (a ∷ []) = h a
  among_one q h (a ∷ (b ∷ rest)) = tt

  among_two : (q : Value → Value → Outcome Request) → ((v w : Value) → AllAmong n (q v w)) → (args : List Value) → AllAmong n (with_two q args)
  among_two q h [] = tt
  among_two q h (a ∷ rest) = among_one (q a) (h a) rest

  among_three : (q : Value → Value → Value → Outcome Request) → ((v w x : Value) → AllAmong n (q v w x)) → (args : List Value) → AllAmong n (with_three q args)
  among_three q h [] = tt
  among_three q h (a ∷ rest) = among_two (q a) (h a) rest

  one_among : (r : ℤ → Request) → ((x : ℤ) → NamesAmong n (r x)) → (a : Value) → AllAmong n (of_one r a)
  one_among r h a = among_then (whole a) (λ x. Gives (r x)) h

  two_among : (r : ℤ → ℤ → Request) → ((x y : ℤ) → NamesAmong n (r x y)) → (a b : Value) → AllAmong n (of_two r a b)
  two_among r h a b = among_then (whole a) (λ x. then_gives (whole b) (λ y. Gives (r x y))) (λ x. among_then (whole b) (λ y. Gives (r x y)) (h x))

  -- a request of these services names no function
  abbrev pub IsPlain : ℕ → Type 0
  IsPlain service = (args : List Value) → AllAmong n (requested service args)

  pub plain_1 : IsPlain 1
  plain_1 = among_one (of_one Panic) (one_among Panic (λ x. tt))

  pub plain_2 : IsPlain 2
  plain_2 = among_one (of_one Pause) (one_among Pause (λ x. tt))

  pub plain_3 : IsPlain 3
  plain_3 = among_two (of_event Wait) (two_among (λ x y. Wait (event x y)) (λ x y. tt))

  pub plain_6 : IsPlain 6
  plain_6 = among_two (of_event Raise) (two_among (λ x y. Raise (event x y)) (λ x y. tt))

  pub plain_7 : IsPlain 7
  plain_7 = among_none Time tt

  pub plain_8 : IsPlain 8
  plain_8 = among_none EventValue tt

  pub plain_9 : IsPlain 9
  plain_9 = among_one (of_one Button) (one_among Button (λ x. tt))

  pub plain_10 : IsPlain 10
  plain_10 =
      among_three (λ a b m. then_gives (whole a) (λ x. then_gives (whole b) (λ y. then_gives (mode m) (λ m. Gives (Plot x y m)))))
      (λ a b m. among_then (whole a) _ (λ x. among_then (whole b) _ (λ y. among_then (mode m) _ (λ m. tt))))

  pub plain_11 : IsPlain 11
  plain_11 = among_one (of_one Show) (one_among Show (λ x. tt))

  pub plain_12 : IsPlain 12
  plain_12 = among_one (of_one WriteNumber) (one_among WriteNumber (λ x. tt))

  pub plain_13 : IsPlain 13
  plain_13 = among_one (λ a. then_gives (text a) (λ t. Gives (WriteText t))) (λ a. among_then (text a) _ (λ t. tt))

  pub plain_14 : IsPlain 14
  plain_14 = among_two (of_two PinWrite) (two_among PinWrite (λ x y. tt))

  pub plain_15 : IsPlain 15
  plain_15 = among_one (of_one Radio) (one_among Radio (λ x. tt))

  pub plain_16 : IsPlain 16
  plain_16 =
      among_two (λ a i. then_gives (text a) (λ t. then_gives (whole i) (λ i. Gives (TextGlyph t i))))
      (λ a i. among_then (text a) _ (λ t. among_then (whole i) _ (λ i. tt)))

  pub plain_17 : IsPlain 17
  plain_17 = among_two (of_two NumberGlyph) (two_among NumberGlyph (λ x y. tt))

  pub plain_23 : IsPlain 23
  plain_23 = among_two (of_event RaiseNow) (two_among (λ x y. RaiseNow (event x y)) (λ x y. tt))

  these_of : Outcome (List Value × List Value) → List Value
  these_of (Gives x) = x.0
  these_of (Breaks code) = []
  these_of Stuck = []

  abbrev Asked : ℕ → List Value → Type 0
  Asked service these = AllAmong n (requested service these)

  listens : (a b m : Value) (f : ℕ) → f < n → AllAmong n (of_listener a b (Code f) m)
  listens a b m f lt = among_then (whole a) _ (λ x. among_then (whole b) _ (λ y. among_then (whole m) _ (λ z. lt)))

  pub proper_4 : (f : ℕ) → f < n → (p : Marks) → AllProper n (Some f ∷ p) 4 1
  unfolding these_of
  proper_4 f lt p [] these rest marked e = absurd marked
  proper_4 f lt p (v ∷ vs) these rest marked e =
      let is : v ∷ [] ≡ these = ap these_of e in
      subst (Asked 4) is (subst (λ (w : Value). Asked 4 (w ∷ [])) (sym marked.0) lt)

  pub proper_5 : (f : ℕ) → f < n → (m o : Option ℕ) (p : Marks) → AllProper n (Some f ∷ (m ∷ (o ∷ p))) 5 3
  unfolding these_of
  proper_5 f lt m o p [] these rest marked e = absurd marked
  proper_5 f lt m o p (v ∷ []) these rest marked e = absurd marked.1
  proper_5 f lt m o p (v ∷ (w ∷ [])) these rest marked e = absurd marked.1.1
  proper_5 f lt m o p (v ∷ (w ∷ (x ∷ vs))) these rest marked e =
      let is : x ∷ (w ∷ (v ∷ [])) ≡ these = ap these_of e in
      subst (Asked 5) is (subst (λ (h : Value). Asked 5 (x ∷ (w ∷ (h ∷ [])))) (sym marked.0) (listens x w (Whole queues_if_busy) f lt))

  pub proper_22 : (f : ℕ) → f < n → (l m o : Option ℕ) (p : Marks) → AllProper n (l ∷ (Some f ∷ (m ∷ (o ∷ p)))) 22 4
  unfolding these_of
  proper_22 f lt l m o p [] these rest marked e = absurd marked
  proper_22 f lt l m o p (u ∷ []) these rest marked e = absurd marked.1
  proper_22 f lt l m o p (u ∷ (v ∷ [])) these rest marked e = absurd marked.1.1
  proper_22 f lt l m o p (u ∷ (v ∷ (w ∷ []))) these rest marked e = absurd marked.1.1.1
  proper_22 f lt l m o p (u ∷ (v ∷ (w ∷ (x ∷ vs)))) these rest marked e =
      let is : x ∷ (w ∷ (v ∷ (u ∷ []))) ≡ these = ap these_of e in
      subst (Asked 22) is (subst (λ (h : Value). Asked 22 (x ∷ (w ∷ (h ∷ (u ∷ []))))) (sym marked.1.0) (listens x w u f lt))
