-- The rows of the board's table: each service is one of flat code, and handlers stand where it takes them.
use Rattle.std.proofs.Common.{◌≡◌, ℕ, List, [], ◌∷◌, length, Option, Some, None, Bool, false, refl}
use Rattle.std.specs.Prelude.{◌==◌}
use Rattle.sts_syntax.specs.declared.board_calls.BoardCall.{BoardCall}
use Rattle.sts_syntax.specs.declared.board_calls.BoardCall.TheVariants as b
use Rattle.sts_syntax.specs.TypedTrees as e
use Rattle.sts_syntax.specs.TypedTrees.{TypedTree, TypedTrees}
use Rattle.sts_syntax.specs.BoardTable.{BoardAction, Service, Library, Repeats, row_of, placed}
use Rattle.sts_meaning.specs.Continuation.{gives_value}
use Rattle.flat_meaning.specs.Operators.{answers}
use Rattle.sts_lower.specs.Code.{handler_of}
use Rattle.lowered_code.specs.Fine.{FineGiven}
use Rattle.lower_simulation.specs.Places.{Marks}
use Rattle.lower_simulation.proofs.Requests.{AllProper, plain_1, plain_2, plain_3, plain_6, plain_7, plain_8, plain_9, plain_10, plain_11, plain_12, plain_13, plain_14, plain_15, plain_16, plain_17, plain_23, proper_4, proper_5, proper_22}

-- a handler is known by its number
abbrev pub mark : TypedTree → Option ℕ
mark (e.Handler u f) = Some f
mark (e.Num u n) = None
mark (e.Text u n) = None
mark (e.Truth u b) = None
mark (e.Null u) = None
mark (e.This u) = None
mark (e.Name u x) = None
mark (e.Unary u op a) = None
mark (e.Binary u op a b) = None
mark (e.Both u a b) = None
mark (e.Either u a b) = None
mark (e.Choice u test a b) = None
mark (e.Set u op x r) = None
mark (e.Bump u x by late) = None
mark (e.Field u a f) = None
mark (e.Length u a) = None
mark (e.Item u a i) = None
mark (e.Call u f args) = None
mark (e.SuperCall u f args) = None
mark (e.Make u class args) = None
mark (e.Items u items) = None

abbrev pub marks : TypedTrees → Marks
marks e.none = []
marks (e.more a rest) = mark a ∷ marks rest

-- the marks of values that are given one after the other
abbrev pub onto : Marks → Marks → Marks
onto [] p = p
onto (m ∷ ms) p = onto ms (m ∷ p)

module _ (functions : ℕ) (repeated : List ℕ) (params locals : ℕ) where
  abbrev pub RowFine : BoardAction → Bool → TypedTrees → Marks → Type 0
  RowFine (Service number places) gives args p =
      (number == 19 ≡ false) × (gives ≡ answers number)
      × AllProper functions (onto (placed (λ n. None) places (marks args)) p) number (length (placed (λ n. None) places (marks args)))
  RowFine (Library f) gives args p = Unit {0}
  RowFine Repeats gives args p = marks args ≡ Some (handler_of args) ∷ []

  abbrev Given : BoardCall → TypedTrees → Type 0
  Given call args = FineGiven functions repeated params locals (row_of call).takes args

  abbrev pub RowOk : BoardCall → TypedTrees → Marks → Type 0
  RowOk call args p = RowFine (row_of call).action (gives_value (row_of call).gives) args p

  forever_fine : (args : TypedTrees) (p : Marks) → Given b.Forever args → RowOk b.Forever args p
  forever_fine (e.more (e.Handler u f) e.none) p fine = refl
  forever_fine (e.more (e.Handler u f) (e.more a rest)) p fine = absurd fine.1
  forever_fine e.none p fine = absurd fine
  forever_fine (e.more a rest) p fine = absurd fine.0

  background_fine : (args : TypedTrees) (p : Marks) → Given b.InBackground args → RowOk b.InBackground args p
  background_fine (e.more (e.Handler u f) e.none) p fine = (refl, refl, proper_4 functions f fine.0 p)
  background_fine (e.more (e.Handler u f) (e.more a rest)) p fine = absurd fine.1
  background_fine e.none p fine = absurd fine
  background_fine (e.more a rest) p fine = absurd fine.0

  pressed_fine : (args : TypedTrees) (p : Marks) → Given b.OnButtonPressed args → RowOk b.OnButtonPressed args p
  pressed_fine (e.more a (e.more (e.Handler u f) e.none)) p fine = (refl, refl, proper_5 functions f fine.1.0 None (mark a) p)
  pressed_fine (e.more a (e.more (e.Handler u f) (e.more b rest))) p fine = absurd fine.1.1
  pressed_fine e.none p fine = absurd fine
  pressed_fine (e.more a e.none) p fine = absurd fine.1
  pressed_fine (e.more a (e.more b rest)) p fine = absurd fine.1.0

  event_fine : (args : TypedTrees) (p : Marks) → Given b.OnEvent args → RowOk b.OnEvent args p
  event_fine (e.more a (e.more b (e.more (e.Handler u f) e.none))) p fine = (refl, refl, proper_5 functions f fine.1.1.0 (mark b) (mark a) p)
  event_fine (e.more a (e.more b (e.more (e.Handler u f) (e.more c rest)))) p fine = absurd fine.1.1.1
  event_fine e.none p fine = absurd fine
  event_fine (e.more a e.none) p fine = absurd fine.1
  event_fine (e.more a (e.more b e.none)) p fine = absurd fine.1.1
  event_fine (e.more a (e.more b (e.more c rest))) p fine = absurd fine.1.1.0

  flags_fine : (args : TypedTrees) (p : Marks) → Given b.OnEventFlags args → RowOk b.OnEventFlags args p
  flags_fine (e.more a (e.more b (e.more (e.Handler u f) (e.more c e.none)))) p fine = (refl, refl, proper_22 functions f fine.1.1.0 (mark c) (mark b) (mark a) p)
  flags_fine (e.more a (e.more b (e.more (e.Handler u f) (e.more c (e.more d rest))))) p fine = absurd fine.1.1.1.1
  flags_fine e.none p fine = absurd fine
  flags_fine (e.more a e.none) p fine = absurd fine.1
  flags_fine (e.more a (e.more b e.none)) p fine = absurd fine.1.1
  flags_fine (e.more a (e.more b (e.more (e.Handler u f) e.none))) p fine = absurd fine.1.1.1
  flags_fine (e.more a (e.more b (e.more c rest))) p fine = absurd fine.1.1.0

  pub row_fine : (call : BoardCall) (args : TypedTrees) (p : Marks) → Given call args → RowOk call args p
  row_fine b.Pause args p fine = (refl, refl, λ vs these rest marked e. plain_2 functions these)
  row_fine b.Forever args p fine = forever_fine args p fine
  row_fine b.ShowLeds args p fine = tt
  row_fine b.ShowNumber args p fine = tt
  row_fine b.ShowString args p fine = tt
  row_fine b.ClearScreen args p fine = (refl, refl, λ vs these rest marked e. plain_11 functions these)
  row_fine b.Unplot args p fine = (refl, refl, λ vs these rest marked e. plain_10 functions these)
  row_fine b.Plot args p fine = (refl, refl, λ vs these rest marked e. plain_10 functions these)
  row_fine b.Toggle args p fine = (refl, refl, λ vs these rest marked e. plain_10 functions these)
  row_fine b.OnButtonPressed args p fine = pressed_fine args p fine
  row_fine b.ButtonIsPressed args p fine = (refl, refl, λ vs these rest marked e. plain_9 functions these)
  row_fine b.RunningTime args p fine = (refl, refl, λ vs these rest marked e. plain_7 functions these)
  row_fine b.InBackground args p fine = background_fine args p fine
  row_fine b.OnEvent args p fine = event_fine args p fine
  row_fine b.OnEventFlags args p fine = flags_fine args p fine
  row_fine b.RaiseEvent args p fine = (refl, refl, λ vs these rest marked e. plain_6 functions these)
  row_fine b.RaiseNow args p fine = (refl, refl, λ vs these rest marked e. plain_23 functions these)
  row_fine b.WaitForEvent args p fine = (refl, refl, λ vs these rest marked e. plain_3 functions these)
  row_fine b.EventValue args p fine = (refl, refl, λ vs these rest marked e. plain_8 functions these)
  row_fine b.Panic args p fine = (refl, refl, λ vs these rest marked e. plain_1 functions these)
  row_fine b.WriteNumber args p fine = (refl, refl, λ vs these rest marked e. plain_12 functions these)
  row_fine b.WriteString args p fine = (refl, refl, λ vs these rest marked e. plain_13 functions these)
  row_fine b.WriteLine args p fine = tt
  row_fine b.DigitalWritePin args p fine = (refl, refl, λ vs these rest marked e. plain_14 functions these)
  row_fine b.SendNumber args p fine = (refl, refl, λ vs these rest marked e. plain_15 functions these)
  row_fine b.Abs args p fine = tt
  row_fine b.Min args p fine = tt
  row_fine b.Max args p fine = tt
  row_fine b.Show args p fine = (refl, refl, λ vs these rest marked e. plain_11 functions these)
  row_fine b.NumberGlyph args p fine = (refl, refl, λ vs these rest marked e. plain_17 functions these)
  row_fine b.TextGlyph args p fine = (refl, refl, λ vs these rest marked e. plain_16 functions these)
