-- Each call of the board's interface asks for something.
use Rattle.std.proofs.Common.{◌≡◌, ℕ, inl, ℤ, pos, List, [], ◌∷◌, length, refl, sym, subst}
use Rattle.board_world.specs.declared.requests.Request.{Request}
use Rattle.board_world.specs.declared.requests.Request.TheVariants as q
use Rattle.board_world.specs.Simulation.{Paired}
use Rattle.sts_syntax.specs.declared.board_calls.BoardCall.{BoardCall}
use Rattle.sts_syntax.specs.declared.board_calls.BoardCall.TheVariants as b
use Rattle.sts_syntax.specs.Types as t
use Rattle.sts_syntax.specs.Types.{ValueType}
use Rattle.sts_syntax.specs.TypedTrees.{TypedProgram}
use Rattle.sts_syntax.specs.BoardTable as table
use Rattle.sts_syntax.specs.BoardTable.{BoardParameter, arranged, row_of}
use Rattle.sts_syntax.specs.TypeRules.{MayBegin}
use Rattle.sts_syntax.specs.WellTyped.{Setting, IsAsked}
use Rattle.sts_meaning.specs.Values.{Value, Whole, Object, Text, Code, Outcome, whole}
use Rattle.sts_meaning.specs.Heaps.{Heap}
use Rattle.board_world.specs.Rules.{queues_if_busy}
use Rattle.sts_meaning.specs.Services.{event, text, code, mode, with_none, with_one, with_two, with_three, with_four, of_one, of_two, of_listener, requested}
use Rattle.sts_meaning.specs.Continuation.{Continuation, asks, gives_value}
use Rattle.meaning_sound.specs.Sorts.{Sort, Of, Begins, Exactly, above, Well, Is, IsA, IsRequest, Asks}
use Rattle.meaning_sound.specs.Fits.{Given, Answers, FitsValues}
use Rattle.meaning_sound.proofs.Growth.{then_well}
use Rattle.meaning_sound.proofs.Operations.{number_whole}

abbrev Any : {X : Type 0} → X → Type 0
Any x = Unit {0}

-- what stands for an argument of the board, and for some
abbrev pub sort_of : BoardParameter → Sort
sort_of (table.Of u) = Of u
sort_of table.Handler = Begins
sort_of table.Drawing = Of t.Nothing

abbrev pub sorts_of : List BoardParameter → List Sort
sorts_of [] = []
sorts_of (p ∷ ps) = sort_of p ∷ sorts_of ps

module _ (P : TypedProgram) where
  -- an argument that is a number, also one that always stands there
  abbrev IsNumeric : Sort → Type 0
  IsNumeric (Of t.Number) = Unit {0}
  IsNumeric (Exactly n) = Unit {0}
  IsNumeric s = ⊥

  whole_well : (h : Heap) (s : Sort) (v : Value) → IsNumeric s → IsA P h s v → Well Any (whole v)
  whole_well h (Of t.Number) v i p = (let n = number_whole P h v p in subst (λ (x : Value). Well Any (whole x)) (sym n.1) tt)
  whole_well h (Exactly n) v i p = subst (λ (x : Value). Well Any (whole x)) (sym p) tt
  whole_well h (Of t.Boolean) v i p = absurd i
  whole_well h (Of t.Text) v i p = absurd i
  whole_well h (Of t.Nothing) v i p = absurd i
  whole_well h (Of (t.Object k)) v i p = absurd i
  whole_well h (Of (t.ListOf u)) v i p = absurd i
  whole_well h (Of t.NullType) v i p = absurd i
  whole_well h Begins v i p = absurd i

  text_well : (h : Heap) (v : Value) → Is P h t.Text v → Well Any (text v)
  text_well h (Text n) p = tt
  text_well h (Whole n) p = subst (λ (x : Value). Well Any (text x)) (sym p) tt
  text_well h (Object n) p = cc
  text_well h (Code f) p = cc

  code_well : (h : Heap) (v : Value) → IsA P h Begins v → Well (MayBegin P) (code v)
  code_well h v p = subst (λ (x : Value). Well (MayBegin P) (code x)) (sym p.1) p.2

  module _ (h : Heap) where
    abbrev R : Outcome Request → Type 0
    R o = Well (IsRequest P) o

    none_well : (r : Request) → IsRequest P r → (vs : List Value) → Paired (IsA P h) [] vs → R (with_none r vs)
    none_well r i [] p = i
    none_well r i (v ∷ vs) p = absurd p

    one_well : (r : Value → Outcome Request) (s : Sort) → ((v : Value) → IsA P h s v → R (r v)) → (vs : List Value) → Paired (IsA P h) (s ∷ []) vs → R (with_one r vs)
    one_well r s f [] p = absurd p
    one_well r s f (v ∷ []) p = f v p.0
    one_well r s f (v ∷ (w ∷ vs)) p = absurd p.1

    two_well : (r : Value → Value → Outcome Request) (s s' : Sort) → ((v w : Value) → IsA P h s v → IsA P h s' w → R (r v w)) → (vs : List Value) → Paired (IsA P h) (s ∷ s' ∷ []) vs → R (with_two r vs)
    two_well r s s' f [] p = absurd p
    two_well r s s' f (v ∷ vs) p = one_well (r v) s' (λ w i. f v w p.0 i) vs p.1

    three_well : (r : Value → Value → Value → Outcome Request) (s s' s'' : Sort) → ((v w x : Value) → IsA P h s v → IsA P h s' w → IsA P h s'' x → R (r v w x))
        → (vs : List Value) → Paired (IsA P h) (s ∷ s' ∷ s'' ∷ []) vs → R (with_three r vs)
    three_well r s s' s'' f [] p = absurd p
    three_well r s s' s'' f (v ∷ vs) p = two_well (r v) s' s'' (λ w x i j. f v w x p.0 i j) vs p.1

    four_well : (r : Value → Value → Value → Value → Outcome Request) (s s' s'' s''' : Sort) → ((v w x y : Value) → IsA P h s v → IsA P h s' w → IsA P h s'' x → IsA P h s''' y → R (r v w x y))
        → (vs : List Value) → Paired (IsA P h) (s ∷ s' ∷ s'' ∷ s''' ∷ []) vs → R (with_four r vs)
    four_well r s s' s'' s''' f [] p = absurd p
    four_well r s s' s'' s''' f (v ∷ vs) p = three_well (r v) s' s'' s''' (λ w x y i j l. f v w x y p.0 i j l) vs p.1

    -- requests of one number, of two, and of a listener
    one_number : (r : ℤ → Request) → ((x : ℤ) → IsRequest P (r x)) → (s : Sort) → IsNumeric s → (vs : List Value) → Paired (IsA P h) (s ∷ []) vs → R (with_one (of_one r) vs)
    one_number r i s n vs p = one_well (of_one r) s (λ v a. then_well Any (IsRequest P) (whole v) _ (whole_well h s v n a) (λ x _. i x)) vs p

    two_numbers : (r : ℤ → ℤ → Request) → ((x y : ℤ) → IsRequest P (r x y)) → (vs : List Value) → Paired (IsA P h) (Of t.Number ∷ Of t.Number ∷ []) vs → R (with_two (of_two r) vs)
    two_numbers r i vs p =
        two_well (of_two r) (Of t.Number) (Of t.Number)
        (λ v w a d. then_well Any (IsRequest P) (whole v) _ (whole_well h (Of t.Number) v tt a) (λ x _. then_well Any (IsRequest P) (whole w) _ (whole_well h (Of t.Number) w tt d) (λ y _. i x y))) vs p

    listener_well : (s v : Sort) → IsNumeric s → IsNumeric v → (a d f m : Value) → IsA P h s a → IsA P h v d → IsA P h Begins f → Well Any (whole m) → R (of_listener a d f m)
    listener_well s v i j a d f m p r k w =
        then_well Any (IsRequest P) (whole a) _ (whole_well h s a i p) (λ x _.
        then_well Any (IsRequest P) (whole d) _ (whole_well h v d j r) (λ y _.
        then_well (MayBegin P) (IsRequest P) (code f) _ (code_well h f k) (λ g begins.
        then_well Any (IsRequest P) (whole m) _ w (λ z _. inl begins))))

    plot_well : (n : ℤ) → ((v : Value) → v ≡ Whole n → Well Any (mode v)) → (vs : List Value) → Paired (IsA P h) (Of t.Number ∷ Of t.Number ∷ Exactly n ∷ []) vs → R (requested 10 vs)
    plot_well n known vs p =
        three_well _ (Of t.Number) (Of t.Number) (Exactly n)
        (λ v w m a d i. then_well Any (IsRequest P) (whole v) _ (whole_well h (Of t.Number) v tt a) (λ x _.
        then_well Any (IsRequest P) (whole w) _ (whole_well h (Of t.Number) w tt d) (λ y _.
        then_well Any (IsRequest P) (mode m) _ (known m i) (λ z _. tt)))) vs p

    mode_known : (n : ℤ) → Well Any (mode (Whole n)) → (v : Value) → v ≡ Whole n → Well Any (mode v)
    mode_known n w v p = subst (λ (x : Value). Well Any (mode x)) (sym p) w

  module _ (S : Setting) where
    abbrev G : Continuation → Sort → List Sort → Type 0
    G k s ss = Given P (FitsValues P S k) s ss

    abbrev sorts : BoardCall → List Sort
    sorts call = arranged Exactly (row_of call).action (sorts_of (row_of call).takes)

    -- a call that asks for a service
    abbrev asked_for : (service : ℕ) (these : List Sort) (u : ValueType) → Asks P service these → (n : ℕ) (k : Continuation) (ss : List Sort) → Answers (gives_value u) u → n ≡ length these → G k (Of u) ss
        → (before : List Sort) × (x : List Sort) × (w : ValueType) × (above these ss ≡ above before x) × (n ≡ length before) × Asks P service before × Answers (gives_value u) w × Given P (FitsValues P S k) (Of w) x
    asked_for service these u fine n k ss answers m g = (these, ss, u, refl, m, fine, answers, g)

    pub asks_fit : (call : BoardCall) (n : ℕ) (k : Continuation) (ss : List Sort) → IsAsked (row_of call).action
        → n ≡ length (arranged Exactly (row_of call).action (sorts_of (row_of call).takes)) → G k (Of (row_of call).gives) ss
        → FitsValues P S (asks (row_of call).action n (gives_value (row_of call).gives) k) (above (arranged Exactly (row_of call).action (sorts_of (row_of call).takes)) ss)
    asks_fit b.Pause n k ss a m g = asked_for 2 (sorts b.Pause) t.Nothing (λ h vs p. one_number h q.Pause (λ x. tt) (Of t.Number) tt vs p) n k ss tt m g
    asks_fit b.Forever n k ss a m g = g
    asks_fit b.ShowLeds n k ss a m g = absurd a
    asks_fit b.ShowNumber n k ss a m g = absurd a
    asks_fit b.ShowString n k ss a m g = absurd a
    asks_fit b.ClearScreen n k ss a m g = asked_for 11 (sorts b.ClearScreen) t.Nothing (λ h vs p. one_number h q.Show (λ x. tt) (Exactly (pos 0)) tt vs p) n k ss tt m g
    asks_fit b.Unplot n k ss a m g = asked_for 10 (sorts b.Unplot) t.Nothing (λ h vs p. plot_well h (pos 0) (mode_known h (pos 0) tt) vs p) n k ss tt m g
    asks_fit b.Plot n k ss a m g = asked_for 10 (sorts b.Plot) t.Nothing (λ h vs p. plot_well h (pos 1) (mode_known h (pos 1) tt) vs p) n k ss tt m g
    asks_fit b.Toggle n k ss a m g = asked_for 10 (sorts b.Toggle) t.Nothing (λ h vs p. plot_well h (pos 2) (mode_known h (pos 2) tt) vs p) n k ss tt m g
    asks_fit b.OnButtonPressed n k ss a m g =
        asked_for 5 (sorts b.OnButtonPressed) t.Nothing (λ h vs p. three_well h _ (Of t.Number) (Exactly (pos 3)) Begins (λ v w f i j l. listener_well h (Of t.Number) (Exactly (pos 3)) tt tt v w f (Whole queues_if_busy) i j l tt) vs p) n k ss tt m g
    asks_fit b.ButtonIsPressed n k ss a m g = asked_for 9 (sorts b.ButtonIsPressed) t.Boolean (λ h vs p. one_number h q.Button (λ x. tt) (Of t.Number) tt vs p) n k ss tt m g
    asks_fit b.RunningTime n k ss a m g = asked_for 7 (sorts b.RunningTime) t.Number (λ h vs p. none_well h q.Time tt vs p) n k ss tt m g
    asks_fit b.InBackground n k ss a m g =
        asked_for 4 (sorts b.InBackground) t.Nothing (λ h vs p. one_well h _ Begins (λ v i. then_well (MayBegin P) (IsRequest P) (code v) _ (code_well h v i) (λ f begins. inl begins)) vs p) n k ss tt m g
    asks_fit b.OnEvent n k ss a m g =
        asked_for 5 (sorts b.OnEvent) t.Nothing (λ h vs p. three_well h _ (Of t.Number) (Of t.Number) Begins (λ v w f i j l. listener_well h (Of t.Number) (Of t.Number) tt tt v w f (Whole queues_if_busy) i j l tt) vs p) n k ss tt m g
    asks_fit b.OnEventFlags n k ss a m g =
        asked_for 22 (sorts b.OnEventFlags) t.Nothing (λ h vs p. four_well h of_listener (Of t.Number) (Of t.Number) Begins (Of t.Number)
        (λ v w f x i j l y. listener_well h (Of t.Number) (Of t.Number) tt tt v w f x i j l (whole_well h (Of t.Number) x tt y)) vs p) n k ss tt m g
    asks_fit b.RaiseEvent n k ss a m g = asked_for 6 (sorts b.RaiseEvent) t.Nothing (λ h vs p. two_numbers h (λ x y. q.Raise (event x y)) (λ x y. tt) vs p) n k ss tt m g
    asks_fit b.RaiseNow n k ss a m g = asked_for 23 (sorts b.RaiseNow) t.Nothing (λ h vs p. two_numbers h (λ x y. q.RaiseNow (event x y)) (λ x y. tt) vs p) n k ss tt m g
    asks_fit b.WaitForEvent n k ss a m g = asked_for 3 (sorts b.WaitForEvent) t.Nothing (λ h vs p. two_numbers h (λ x y. q.Wait (event x y)) (λ x y. tt) vs p) n k ss tt m g
    asks_fit b.EventValue n k ss a m g = asked_for 8 (sorts b.EventValue) t.Number (λ h vs p. none_well h q.EventValue tt vs p) n k ss tt m g
    asks_fit b.Panic n k ss a m g = asked_for 1 (sorts b.Panic) t.Nothing (λ h vs p. one_number h q.Panic (λ x. tt) (Of t.Number) tt vs p) n k ss tt m g
    asks_fit b.WriteNumber n k ss a m g = asked_for 12 (sorts b.WriteNumber) t.Nothing (λ h vs p. one_number h q.WriteNumber (λ x. tt) (Of t.Number) tt vs p) n k ss tt m g
    asks_fit b.WriteString n k ss a m g =
        asked_for 13 (sorts b.WriteString) t.Nothing (λ h vs p. one_well h _ (Of t.Text) (λ v i. then_well Any (IsRequest P) (text v) _ (text_well h v i) (λ x _. tt)) vs p) n k ss tt m g
    asks_fit b.WriteLine n k ss a m g = absurd a
    asks_fit b.DigitalWritePin n k ss a m g = asked_for 14 (sorts b.DigitalWritePin) t.Nothing (λ h vs p. two_numbers h q.PinWrite (λ x y. tt) vs p) n k ss tt m g
    asks_fit b.SendNumber n k ss a m g = asked_for 15 (sorts b.SendNumber) t.Nothing (λ h vs p. one_number h q.Radio (λ x. tt) (Of t.Number) tt vs p) n k ss tt m g
    asks_fit b.Abs n k ss a m g = absurd a
    asks_fit b.Min n k ss a m g = absurd a
    asks_fit b.Max n k ss a m g = absurd a
    asks_fit b.Show n k ss a m g = asked_for 11 (sorts b.Show) t.Nothing (λ h vs p. one_number h q.Show (λ x. tt) (Of t.Number) tt vs p) n k ss tt m g
    asks_fit b.NumberGlyph n k ss a m g = asked_for 17 (sorts b.NumberGlyph) t.Number (λ h vs p. two_numbers h q.NumberGlyph (λ x y. tt) vs p) n k ss tt m g
    asks_fit b.TextGlyph n k ss a m g =
        asked_for 16 (sorts b.TextGlyph) t.Number (λ h vs p. two_well h _ (Of t.Text) (Of t.Number)
        (λ v w i j. then_well Any (IsRequest P) (text v) _ (text_well h v i) (λ x _. then_well Any (IsRequest P) (whole w) _ (whole_well h (Of t.Number) w tt j) (λ y _. tt))) vs p) n k ss tt m g
