-- Calls of the board, by its table.
use Rattle.std.proofs.Common.{◌≡◌, ℕ, ℤ, suc, ◌+◌, ◌*◌, ◌^◌, ◌<◌, refl, sym, subst, Bool, true, false, ◌&&◌, Option, Some, List, [], ◌∷◌, length, arith, lt-ltb, eqb-true}
use Rattle.std.specs.Prelude.{pos, ◌==◌, if◌then◌else◌}
use Rattle.std.specs.List.{list_all}
use native.Mathlib.Numerals.{unary_clauses}
use Rattle.sts_syntax.specs.Types as t
use Rattle.sts_syntax.specs.Types.{ValueType}
use Rattle.sts_syntax.specs.BoardTable as board
use Rattle.sts_syntax.specs.BoardTable.{BoardParameter, BoardAction, BoardConstant, row_of, board_constants, constant_among, constant_named, same_bytes}
use Rattle.sts_syntax.specs.declared.board_calls.BoardCall.{BoardCall}
use Rattle.sts_syntax.specs.declared.board_calls.BoardCall.TheVariants.{Pause, Forever, ShowLeds, ShowNumber, ShowString, ClearScreen, Unplot, Plot, Toggle, OnButtonPressed, ButtonIsPressed, RunningTime, InBackground, OnEvent, OnEventFlags, RaiseEvent, RaiseNow, WaitForEvent, EventValue, Panic, WriteNumber, WriteString, WriteLine, DigitalWritePin, SendNumber, Abs, Min, Max, Show, NumberGlyph, TextGlyph}
use Rattle.sts_syntax.specs.TypeRules.{is_int32}
use Rattle.sts_scope.specs.Kinds.{value_type}
use Rattle.type_derive.specs.Typing.{board_kind, draws, drawn, is_dot_or_hash}
use Rattle.type_derive.specs.Built.{frame_of}
use Rattle.typed_laws.proofs.OneNode.{both_true}

-- types of the table are no arrays; a service draws nothing, and a function of the library takes no handler
abbrev is_plain : ValueType → Bool
is_plain t.Number = true
is_plain t.Boolean = true
is_plain t.Text = true
is_plain t.Nothing = true
is_plain (t.Object c) = true
is_plain (t.ListOf u) = false
is_plain t.NullType = true

abbrev pub are_plain : List BoardParameter → Bool
are_plain [] = true
are_plain (board.Of u ∷ ps) = is_plain u && are_plain ps
are_plain (board.Handler ∷ ps) = are_plain ps
are_plain (board.Drawing ∷ ps) = are_plain ps

abbrev pub draw_nothing : List BoardParameter → Bool
draw_nothing [] = true
draw_nothing (board.Of u ∷ ps) = draw_nothing ps
draw_nothing (board.Handler ∷ ps) = draw_nothing ps
draw_nothing (board.Drawing ∷ ps) = false

abbrev pub serve_nothing : List BoardParameter → Bool
serve_nothing [] = true
serve_nothing (board.Of u ∷ ps) = serve_nothing ps
serve_nothing (board.Handler ∷ ps) = false
serve_nothing (board.Drawing ∷ ps) = serve_nothing ps

abbrev pub fit_action : BoardAction → List BoardParameter → Bool
fit_action (board.Service number places) ps = draw_nothing ps
fit_action (board.Library function) ps = serve_nothing ps
fit_action board.Repeats ps = draw_nothing ps

abbrev fits_table : BoardCall → Bool
fits_table call = is_plain (row_of call).gives && are_plain (row_of call).takes && fit_action (row_of call).action (row_of call).takes

table_fits : (call : BoardCall) → fits_table call ≡ true
table_fits Pause = refl
table_fits Forever = refl
table_fits ShowLeds = refl
table_fits ShowNumber = refl
table_fits ShowString = refl
table_fits ClearScreen = refl
table_fits Unplot = refl
table_fits Plot = refl
table_fits Toggle = refl
table_fits OnButtonPressed = refl
table_fits ButtonIsPressed = refl
table_fits RunningTime = refl
table_fits InBackground = refl
table_fits OnEvent = refl
table_fits OnEventFlags = refl
table_fits RaiseEvent = refl
table_fits RaiseNow = refl
table_fits WaitForEvent = refl
table_fits EventValue = refl
table_fits Panic = refl
table_fits WriteNumber = refl
table_fits WriteString = refl
table_fits WriteLine = refl
table_fits DigitalWritePin = refl
table_fits SendNumber = refl
table_fits Abs = refl
table_fits Min = refl
table_fits Max = refl
table_fits Show = refl
table_fits NumberGlyph = refl
table_fits TextGlyph = refl

plain_type : (u : ValueType) → is_plain u ≡ true → value_type (board_kind u) ≡ u
plain_type t.Number h = refl
plain_type t.Boolean h = refl
plain_type t.Text h = refl
plain_type t.Nothing h = refl
plain_type (t.Object c) h = refl
plain_type (t.ListOf u) h = cc
plain_type t.NullType h = refl

pub plain_first : (u : ValueType) (ps : List BoardParameter) → are_plain (board.Of u ∷ ps) ≡ true → value_type (board_kind u) ≡ u
plain_first u ps h = plain_type u (both_true (is_plain u) (are_plain ps) h).0

pub plain_rest : (u : ValueType) (ps : List BoardParameter) → are_plain (board.Of u ∷ ps) ≡ true → are_plain ps ≡ true
plain_rest u ps h = (both_true (is_plain u) (are_plain ps) h).1

pub gives_plain : (call : BoardCall) → value_type (board_kind (row_of call).gives) ≡ (row_of call).gives
gives_plain call = plain_type (row_of call).gives
    (both_true (is_plain (row_of call).gives) (are_plain (row_of call).takes) (both_true (is_plain (row_of call).gives && are_plain (row_of call).takes) (fit_action (row_of call).action (row_of call).takes) (table_fits call)).0).0

pub takes_plain : (call : BoardCall) → are_plain (row_of call).takes ≡ true
takes_plain call = (both_true (is_plain (row_of call).gives) (are_plain (row_of call).takes)
    (both_true (is_plain (row_of call).gives && are_plain (row_of call).takes) (fit_action (row_of call).action (row_of call).takes) (table_fits call)).0).1

pub action_fits : (call : BoardCall) → fit_action (row_of call).action (row_of call).takes ≡ true
action_fits call = (both_true (is_plain (row_of call).gives && are_plain (row_of call).takes) (fit_action (row_of call).action (row_of call).takes) (table_fits call)).1

-- constants have 32 bits
abbrev are_int32 : List BoardConstant → Bool
are_int32 [] = true
are_int32 (c ∷ cs) = is_int32 c.value && are_int32 cs

if_int32 : (x : Bool) (v z : ℤ) (o : Option ℤ) → is_int32 v ≡ true → (o ≡ Some z → is_int32 z ≡ true) → (if x then Some v else o) ≡ Some z → is_int32 z ≡ true
if_int32 true v z o p f h = let q : v ≡ z = cc in subst (λ (y : ℤ). is_int32 y ≡ true) q p
if_int32 false v z o p f h = f h

among_int32 : (cs : List BoardConstant) (space name : List ℕ) (z : ℤ) → are_int32 cs ≡ true → constant_among cs space name ≡ Some z → is_int32 z ≡ true
among_int32 [] space name z p h = cc
among_int32 (c ∷ cs) space name z p h =
    let (q, r) = both_true (is_int32 c.value) (are_int32 cs) p in
    if_int32 (same_bytes c.space space && same_bytes c.name name) c.value z (constant_among cs space name) q (among_int32 cs space name z r) h

pub constant_int32 : (space name : List ℕ) (z : ℤ) → constant_named space name ≡ Some z → is_int32 z ≡ true
constant_int32 space name z h = among_int32 board_constants space name z refl h

-- a frame has a bit for each light
light : (x : Bool) (a b : ℕ) → a < b → (if x then 1 else 0) + 2 * a < 2 * b
light true a b h = omega (arith, h)
light false a b h = omega (arith, h)

frame_less : (bs : List ℕ) → frame_of bs < 2 ^ length bs
frame_less [] = omega arith
frame_less (b ∷ bs) =
    let e : 2 ^ suc (length bs) ≡ 2 * 2 ^ length bs = simp unary_clauses (omega arith) in
    subst (λ (n : ℕ). frame_of (b ∷ bs) < n) (sym e) (light (b == 35) (frame_of bs) (2 ^ length bs) (frame_less bs))

frame_int32 : (bs : List ℕ) → length bs ≡ 25 → is_int32 (pos (frame_of bs)) ≡ true
frame_int32 bs h =
    let p : frame_of bs < 2 ^ 25 = subst (λ (n : ℕ). frame_of bs < 2 ^ n) h (frame_less bs) in
    let q : frame_of bs < 2 ^ 31 = omega (arith, p) in
    lt-ltb (frame_of bs) (2 ^ 31) q

pub drawing_int32 : (bytes : List ℕ) → draws bytes ≡ true → is_int32 (pos (frame_of (drawn bytes))) ≡ true
drawing_int32 bytes h = frame_int32 (drawn bytes) (eqb-true (length (drawn bytes)) 25 (both_true (length (drawn bytes) == 25) (list_all is_dot_or_hash (drawn bytes)) h).0)
