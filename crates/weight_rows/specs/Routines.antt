-- Typed functions of worked programs, whose measures were counted by hand.
use Rattle.std.specs.Prelude.{ℕ, ℤ, pos, true, false, Option, Some, None, [], ◌∷◌}
use Rattle.sts_syntax.specs.declared.operators.TheConstants.{NEGATE, EQUAL, LESS, ADD, MULTIPLY}
use Rattle.sts_syntax.specs.declared.board_calls.BoardCall.{BoardCall}
use Rattle.sts_syntax.specs.declared.board_calls.BoardCall.TheVariants as b
use Rattle.sts_syntax.specs.declared.typed.Callee.TheVariants as c
use Rattle.sts_syntax.specs.declared.typed.Spot.{Spot}
use Rattle.sts_syntax.specs.declared.typed.Spot.TheVariants.{Param, Local, Global}
use Rattle.sts_syntax.specs.Measures.{frame_words}
use Rattle.sts_syntax.specs.Weights.{weight}
use Rattle.sts_syntax.specs.Types as t
use Rattle.sts_syntax.specs.Types.{ValueType}
use Rattle.sts_syntax.specs.TypedTrees.{TypedTree, Num, Truth, This, Name, Unary, Binary, Set, Bump, Field, Item, Call, Make, Items, Handler, TypedTrees, none, more, TypedStatement, Block, Let, IfOnly, While, For, written, Return, Plain, done, also, TypedRoutine}

abbrev pub number : ℤ → TypedTree
number value = Num t.Number value

abbrev pub name : Spot → TypedTree
name spot = Name t.Number spot

abbrev pub binary : (op : ℕ) → TypedTree → TypedTree → TypedTree
binary op a b = Binary t.Number op a b

abbrev pub set : (op : Option ℕ) → TypedTree → TypedTree → TypedStatement
set op target a = Plain (Set t.Number op target a)

abbrev pub one : TypedTree → TypedTrees
one a = more a none

abbrev pub two : TypedTree → TypedTree → TypedTrees
two a b = more a (more b none)

-- a call of a function with a number, and without a result
abbrev pub call : ℕ → TypedTrees → TypedTree
call function args = Call t.Number (c.Function function) args

abbrev pub run : ℕ → TypedTrees → TypedStatement
run function args = Plain (Call t.Nothing (c.Function function) args)

-- a call of the board as a statement
abbrev pub ask : BoardCall → TypedTrees → TypedStatement
ask call args = Plain (Call t.Nothing (c.Board call) args)

abbrev pub declare : Spot → TypedTree → TypedStatement
declare spot first = Let false (record { name = spot; first = Some first } ∷ [])

abbrev pub increment : Spot → TypedTree
increment spot = Bump t.Number (name spot) (pos 1) true

-- `function deep(n) { let k = n * 3; basic.pause(5); return k }`
abbrev pub deep : TypedRoutine
deep = record {
  params = t.Number ∷ [];
  locals = t.Number ∷ [];
  gives = t.Number;
  all = also (declare (Local 0) (binary MULTIPLY (name (Param 0)) (number (pos 3))))
      (also (ask b.Pause (one (number (pos 5)))) (also (Return (Some (name (Local 0)))) done));
}

-- `function mid(n) { let m = n + 1; let r = deep(m); return m * 100 + r }`
abbrev pub mid : TypedRoutine
mid = record {
  params = t.Number ∷ [];
  locals = t.Number ∷ t.Number ∷ [];
  gives = t.Number;
  all = also (declare (Local 0) (binary ADD (name (Param 0)) (number (pos 1))))
      (also (declare (Local 1) (call 7 (one (name (Local 0)))))
      (also (Return (Some (binary ADD (binary MULTIPLY (name (Local 0)) (number (pos 100))) (name (Local 1))))) done));
}

-- `() => { serial.writeNumber(mid(6)) }`
abbrev pub writes_mid : TypedRoutine
writes_mid = record { params = []; locals = []; gives = t.Nothing; all = also (ask b.WriteNumber (one (call 8 (one (number (pos 6)))))) done }

-- `function f(n) { serial.writeNumber(n); f(n + 1) }`, and the program `f(1)`
abbrev pub counts_on : TypedRoutine
counts_on = record {
  params = t.Number ∷ [];
  locals = [];
  gives = t.Nothing;
  all =
      also (ask b.WriteNumber (one (name (Param 0))))
      (also (run 7 (one (binary ADD (name (Param 0)) (number (pos 1))))) done);
}

abbrev pub starts_at_one : TypedRoutine
starts_at_one = record { params = []; locals = []; gives = t.Nothing; all = also (run 7 (one (number (pos 1)))) done }

-- `function w() { control.waitForEvent(60, 1) }`
abbrev pub waits : TypedRoutine
waits = record { params = []; locals = []; gives = t.Nothing; all = also (ask b.WaitForEvent (two (number (pos 60)) (number (pos 1)))) done }

-- `function worker() { for (let r = 0; r < 10; r++) { x = f1(x); basic.pause(1) } done += 1; if (done == 5) { serial.writeNumber(x) } }`
abbrev pub worker_turn : TypedStatement
worker_turn =
    Block (also (set None (name (Global 0)) (call 7 (one (name (Global 0)))))
    (also (ask b.Pause (one (number (pos 1)))) done))

abbrev pub worker_loop : TypedStatement
worker_loop =
    For (written (declare (Local 0) (number (pos 0)))) (Some (binary LESS (name (Local 0)) (number (pos 10))))
    (Some (increment (Local 0))) worker_turn

abbrev pub worker_end : TypedStatement
worker_end =
    IfOnly (binary EQUAL (name (Global 1)) (number (pos 5))) (Block (also (ask b.WriteNumber (one (name (Global 0)))) done))

abbrev pub worker : TypedRoutine
worker = record {
  params = [];
  locals = t.Number ∷ [];
  gives = t.Nothing;
  all = also worker_loop (also (set (Some 13) (name (Global 1)) (number (pos 1))) (also worker_end done));
}

-- `let made = 0; while (true) { let c = new Cell(); made += 1; if (made == 1408) { serial.writeNumber(made) } }`, where Cell has no constructor
abbrev pub makes_cells : TypedRoutine
makes_cells =
    let made = name (Global 0) in
    let turn =
    also (declare (Local 0) (Make (t.Object 0) 0 none))
    (also (set (Some 13) made (number (pos 1)))
    (also (IfOnly (binary EQUAL made (number (pos 1408))) (Block (also (ask b.WriteNumber (one made)) done))) done)) in
    record {
      params = [];
      locals = t.Object 0 ∷ [];
      gives = t.Nothing;
      all = also (declare (Global 0) (number (pos 0))) (also (While (Truth t.Boolean true) (Block turn)) done);
    }

-- `for (let i = 0; i < 23; i++) { control.inBackground(w) } control.onEvent(61, 1, () => ..); control.raiseEvent(61, 1)`
abbrev pub starts_waiters : TypedRoutine
starts_waiters =
    let starts = Block (also (ask b.InBackground (one (Handler t.Nothing 7))) done) in
    let loops = For (written (declare (Local 0) (number (pos 0)))) (Some (binary LESS (name (Local 0)) (number (pos 23))))
    (Some (increment (Local 0))) starts in
    let listens = ask b.OnEvent (more (number (pos 61)) (two (number (pos 1)) (Handler t.Nothing 8))) in
    let raises = ask b.RaiseEvent (two (number (pos 61)) (number (pos 1))) in
    record { params = []; locals = t.Number ∷ []; gives = t.Nothing; all = also loops (also listens (also raises done)) }

-- The game: a paddle's move, a drop's fall, a button's handler, and its main program. `Math.min` and `Math.max` are functions 5 and 6 of the library,
-- `basic.showNumber` is function 1; x is field 0 of a paddle, `move` its slot 0.
abbrev pub paddle_x : TypedTree → TypedTree
paddle_x a = Field t.Number a 0

-- `x: number = 2` and `constructor () { led.plot(2, 4) }`
abbrev pub makes_paddle : TypedRoutine
makes_paddle =
    record {
      params = t.Object 0 ∷ [];
      locals = [];
      gives = t.Nothing;
      all =
          also (set None (paddle_x (This (t.Object 0))) (number (pos 2)))
          (also (ask b.Plot (two (number (pos 2)) (number (pos 4)))) done);
    }

abbrev pub moves_paddle : TypedRoutine
moves_paddle =
    let x = paddle_x (This (t.Object 0)) in
    let least = call 5 (two (number (pos 4)) (binary ADD x (name (Param 1)))) in
    let there = set None x (call 6 (two (number (pos 0)) least)) in
    record {
      params = t.Object 0 ∷ t.Number ∷ [];
      locals = [];
      gives = t.Nothing;
      all = also (ask b.Unplot (two x (number (pos 4)))) (also there (also (ask b.Plot (two x (number (pos 4)))) done));
    }

abbrev pub drop_falls : TypedRoutine
drop_falls =
    let column = name (Local 0) in
    let row = name (Local 1) in
    let turn = name (Global 2) in
    let score = name (Global 3) in
    let falls = Block (also (ask b.Plot (two column row))
    (also (ask b.Pause (one (number (pos 100)))) (also (ask b.Unplot (two column row)) done))) in
    let loops = For (written (declare (Local 1) (number (pos 0)))) (Some (binary LESS row (number (pos 4))))
    (Some (increment (Local 1))) falls in
    let caught =
    IfOnly (binary EQUAL (paddle_x (Name (t.Object 0) (Global 0))) column)
    (Block (also (set (Some 13) score (number (pos 1))) done)) in
    let whole =
    also (declare (Local 0) (Item t.Number (Name (t.ListOf t.Number) (Global 1)) turn))
    (also loops (also caught (also (set (Some 13) turn (number (pos 1))) (also (run 1 (one score)) done)))) in
    record {
      params = [];
      locals = t.Number ∷ t.Number ∷ [];
      gives = t.Nothing;
      all = also (IfOnly (binary LESS turn (number (pos 1))) (Block whole)) done;
    }

abbrev pub button_moves : TypedRoutine
button_moves =
    let asked = Call t.Nothing (c.Slot 0) (two (Name (t.Object 0) (Global 0)) (Unary t.Number NEGATE (number (pos 1)))) in
    record { params = []; locals = []; gives = t.Nothing; all = also (Plain asked) done }

abbrev pub game : TypedRoutine
game =
    let drops = more (number (pos 0))
    (more (number (pos 3)) (more (number (pos 1)) (two (number (pos 4)) (number (pos 2))))) in
    let listens = λ (button : ℤ) (handler : ℕ).
    ask b.OnButtonPressed (two (number button) (Handler t.Nothing handler)) in
    record {
      params = [];
      locals = [];
      gives = t.Nothing;
      all =
          also (declare (Global 0) (Make (t.Object 0) 0 none))
          (also (declare (Global 1) (Items (t.ListOf t.Number) drops))
          (also (declare (Global 2) (number (pos 0))) (also (declare (Global 3) (number (pos 0)))
          (also (listens (pos 1) 9)
          (also (listens (pos 2) 10) (also (ask b.Forever (one (Handler t.Nothing 11))) done))))));
    }

-- what a measured function takes
abbrev pub measures : TypedRoutine → ℕ × ℕ
measures r = (frame_words r, weight r)
