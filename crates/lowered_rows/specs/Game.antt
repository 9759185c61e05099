-- The flat code of a game, written by hand from its source: a paddle that two buttons move, and drops that fall on it.
use Rattle.std.specs.Prelude.{ℕ, pos, true, List, [], ◌∷◌, ◌++◌, Some, None}
use Rattle.sts_syntax.specs.declared.operators.TheConstants.{NEGATE, EQUAL, LESS, ADD}
use Rattle.flat_ir.specs.declared.operators.TheConstants.{INCREMENT, DECREMENT}
use Rattle.flat_ir.specs.declared.ops.Op.{Op}
use Rattle.flat_ir.specs.declared.ops.Op.TheVariants.{Const, Copy, Unary, Binary, GlobalGet, GlobalSet, FieldGet, FieldSet, ItemGet, MakeObject, MakeArray, Call, CallSlot, HandlerOf, Ask, Jump, Branch, Return}
use Rattle.flat_ir.specs.declared.ops.Function.{Function}
use Rattle.sts_syntax.specs.declared.typed.Spot.TheVariants.{Global}
use Rattle.sts_syntax.specs.declared.typed.Callee.TheVariants as c
use Rattle.sts_syntax.specs.declared.board_calls.BoardCall.TheVariants as b
use Rattle.sts_syntax.specs.Types as t
use Rattle.sts_syntax.specs.TypedTrees as e
use Rattle.sts_syntax.specs.TypedTrees.{TypedTree, TypedStatement, TypedRoutine, TypedProgram}
use Rattle.sts_syntax.specs.LibraryRoutines.{library_routines}
use Rattle.sts_meaning.specs.Forms.{args, block, num, param, local, global, binary, less, equal, board, call, send, handler, does, pauses, let_local, let_global, function, plain}
use Rattle.lowered_rows.specs.Written as w
use Rattle.lowered_rows.specs.Written.{off}

abbrev pub this_x : TypedTree
this_x = e.Field t.Number (e.This (t.Object 0)) 0

abbrev pub nested_block : List TypedStatement → TypedStatement
nested_block all = e.Block (block all)

-- x: number = 2; constructor () { led.plot(2, 4) }
abbrev pub paddle_maker : TypedRoutine
paddle_maker =
    function (t.Object 0 ∷ []) [] (t.Object 0)
    (does (e.Set t.Number None this_x (num 2)) ∷ (does (board b.Plot (num 2 ∷ (num 4 ∷ []))) ∷ []))

-- move(d: number): void { led.unplot(this.x, 4); this.x = Math.max(0, Math.min(4, this.x + d)); led.plot(this.x, 4) }
abbrev pub paddle_move : TypedRoutine
paddle_move =
    function (t.Object 0 ∷ (t.Number ∷ [])) [] t.Nothing
    (does (board b.Unplot (this_x ∷ (num 4 ∷ [])))
    ∷ (does (e.Set t.Number None this_x
    (call t.Number 6 (num 0 ∷ (call t.Number 5 (num 4 ∷ (binary ADD this_x (param t.Number 1) ∷ [])) ∷ []))))
    ∷ (does (board b.Plot (this_x ∷ (num 4 ∷ []))) ∷ [])))

abbrev pub paddle : TypedTree
paddle = global (t.Object 0) 0

-- paddle.move(-1) and paddle.move(1)
abbrev pub moves_left : TypedRoutine
moves_left = plain (does (send t.Nothing 0 (paddle ∷ (e.Unary t.Number NEGATE (num 1) ∷ []))) ∷ [])

abbrev pub moves_right : TypedRoutine
moves_right = plain (does (send t.Nothing 0 (paddle ∷ (num 1 ∷ []))) ∷ [])

-- if (turn < 1) { let col = drops[turn]; for (let row = 0; row < 4; row++) { led.plot(col, row); basic.pause(100); led.unplot(col, row) }
-- if (paddle.x == col) { score += 1 }; turn += 1; basic.showNumber(score) }
abbrev pub drops_fall : TypedRoutine
drops_fall =
    (let turn = global t.Number 2 in
    let score = global t.Number 3 in
    let col = local t.Number 0 in
    let row = local t.Number 1 in
    function [] (t.Number ∷ (t.Number ∷ [])) t.Nothing
    (e.IfOnly (less turn (num 1)) (nested_block
    (let_local 0 (e.Item t.Number (global (t.ListOf t.Number) 1) turn)
    ∷ (e.For (e.written (let_local 1 (num 0))) (Some (less row (num 4))) (Some (e.Bump t.Number row (pos 1) true))
    (nested_block (does (board b.Plot (col ∷ (row ∷ [])))
    ∷ (pauses 100 ∷ (does (board b.Unplot (col ∷ (row ∷ []))) ∷ []))))
    ∷ (e.IfOnly (equal (e.Field t.Number paddle 0) col)
    (nested_block (does (e.Set t.Number (Some ADD) score (num 1)) ∷ []))
    ∷ (does (e.Set t.Number (Some ADD) turn (num 1)) ∷ (does (call t.Nothing 1 (score ∷ [])) ∷ [])))))) ∷ []))

-- let paddle = new Paddle(); let drops = [0, 3, 1, 4, 2]; let turn = 0; let score = 0, and the handlers
abbrev pub game_main : TypedRoutine
game_main =
    plain
    (let_global 0 (e.Make (t.Object 0) 0 (args []))
    ∷ (let_global 1 (e.Items (t.ListOf t.Number) (args (num 0 ∷ (num 3 ∷ (num 1 ∷ (num 4 ∷ (num 2 ∷ [])))))))
    ∷ (let_global 2 (num 0) ∷ (let_global 3 (num 0)
    ∷ (does (board b.OnButtonPressed (num 1 ∷ (handler 9 ∷ [])))
    ∷ (does (board b.OnButtonPressed (num 2 ∷ (handler 10 ∷ [])))
    ∷ (does (board b.Forever (handler 11 ∷ [])) ∷ [])))))))

abbrev pub game : TypedProgram
game = record {
  classes = record { base = None; fields = t.Number ∷ []; slots = 8 ∷ []; maker = 7 } ∷ [];
  functions =
      library_routines 0
      ++ (paddle_maker ∷ (paddle_move ∷ (moves_left ∷ (moves_right ∷ (drops_fall ∷ (game_main ∷ []))))));
  globals = t.Object 0 ∷ (t.ListOf t.Number ∷ (t.Number ∷ (t.Number ∷ [])));
  main = 12;
}

-- `this` is 0, and the operands are 1 to 3.
abbrev pub maker_code : Function
maker_code =
    w.function 1 0 3 0
    (Copy 1 0 ∷ (Const 2 (pos 2) ∷ (FieldSet 1 0 2 ∷ (Copy 1 2  -- this.x = 2
    ∷ (Const 1 (pos 2) ∷ (Const 2 (pos 4) ∷ (Const 3 (pos 1) ∷ (Ask 1 10 (1 ∷ (2 ∷ (3 ∷ [])))  -- led.plot(2, 4)
    ∷ (Copy 1 0 ∷ (Return 1 ∷ []))))))))))

-- `this` is 0, d is 1, and the operands are 2 to 6.
abbrev pub move_code : Function
move_code =
    w.function 2 0 5 2
    (Copy 2 0 ∷ (FieldGet 2 2 0 ∷ (Const 3 (pos 4) ∷ (Const 4 (pos 0) ∷ (Ask 2 10 (2 ∷ (3 ∷ (4 ∷ [])))  -- led.unplot(this.x, 4)
    ∷ (Copy 2 0 ∷ (Const 3 (pos 0) ∷ (Const 4 (pos 4) ∷ (Copy 5 0 ∷ (FieldGet 5 5 0 ∷ (Copy 6 1 ∷ (Binary 5 ADD 5 6  -- this, 0, 4, this.x + d
    ∷ (Call 4 5 (4 ∷ (5 ∷ [])) ∷ (Call 3 6 (3 ∷ (4 ∷ [])) ∷ (FieldSet 2 0 3 ∷ (Copy 2 3  -- the lesser, the greater, and the store
    ∷ (Copy 2 0 ∷ (FieldGet 2 2 0 ∷ (Const 3 (pos 4) ∷ (Const 4 (pos 1) ∷ (Ask 2 10 (2 ∷ (3 ∷ (4 ∷ [])))  -- led.plot(this.x, 4)
    ∷ off 2)))))))))))))))))))))

abbrev pub left_code : Function
left_code =
    w.function 0 0 2 2 (GlobalGet 0 0 ∷ (Const 1 (pos 1) ∷ (Unary 1 NEGATE 1 ∷ (CallSlot 0 0 (0 ∷ (1 ∷ [])) ∷ off 0))))

abbrev pub right_code : Function
right_code = w.function 0 0 2 2 (GlobalGet 0 0 ∷ (Const 1 (pos 1) ∷ (CallSlot 0 0 (0 ∷ (1 ∷ [])) ∷ off 0)))

-- col is 0, row is 1, and the operands are 2 to 4. The number before a line is the place of its first op.
abbrev pub fall_code : Function
fall_code =
    w.function 0 2 3 1
    (GlobalGet 2 2 ∷ (Const 3 (pos 1) ∷ (Binary 2 LESS 2 3 ∷ (Branch 2 5 ∷ (Jump 45  -- 0: if (turn < 1)
    ∷ (GlobalGet 2 1 ∷ (GlobalGet 3 2 ∷ (ItemGet 2 2 3 ∷ (Copy 0 2  -- 5: let col = drops[turn]
    ∷ (Const 2 (pos 0) ∷ (Copy 1 2  -- 9: let row = 0
    ∷ (Copy 2 1 ∷ (Const 3 (pos 4) ∷ (Binary 2 LESS 2 3 ∷ (Branch 2 16 ∷ (Jump 29  -- 11: row < 4
    ∷ (Copy 2 0 ∷ (Copy 3 1 ∷ (Const 4 (pos 1) ∷ (Ask 2 10 (2 ∷ (3 ∷ (4 ∷ [])))  -- 16: led.plot(col, row)
    ∷ (Const 2 (pos 100) ∷ (Ask 2 2 (2 ∷ [])  -- 20: basic.pause(100)
    ∷ (Copy 2 0 ∷ (Copy 3 1 ∷ (Const 4 (pos 0) ∷ (Ask 2 10 (2 ∷ (3 ∷ (4 ∷ [])))  -- 22: led.unplot(col, row)
    ∷ (Unary 1 INCREMENT 1 ∷ (Unary 2 DECREMENT 1 ∷ (Jump 11  -- 26: row++
    ∷ (GlobalGet 2 0 ∷ (FieldGet 2 2 0 ∷ (Copy 3 0 ∷ (Binary 2 EQUAL 2 3 ∷ (Branch 2 35 ∷ (Jump 39  -- 29: if (paddle.x == col)
    ∷ (GlobalGet 2 3 ∷ (Const 3 (pos 1) ∷ (Binary 2 ADD 2 3 ∷ (GlobalSet 3 2  -- 35: score += 1
    ∷ (GlobalGet 2 2 ∷ (Const 3 (pos 1) ∷ (Binary 2 ADD 2 3 ∷ (GlobalSet 2 2  -- 39: turn += 1
    ∷ (GlobalGet 2 3 ∷ (Call 2 1 (2 ∷ [])  -- 43: basic.showNumber(score)
    ∷ off 2)))))))))))))))))))))))))))))))))))))))))))))

abbrev pub item_code : ℕ → List Op → List Op
item_code n rest = Const 1 (pos n) ∷ (Ask 1 19 (0 ∷ (1 ∷ [])) ∷ rest)

abbrev pub main_code : Function
main_code =
    w.function 0 0 3 1
    (MakeObject 0 0 ∷ (Call 0 7 (0 ∷ []) ∷ (GlobalSet 0 0  -- let paddle = new Paddle()
    ∷ (MakeArray 0 5 ∷ item_code 0 (item_code 3 (item_code 1 (item_code 4 (item_code 2 (GlobalSet 1 0  -- let drops = [0, 3, 1, 4, 2]
    ∷ (Const 0 (pos 0) ∷ (GlobalSet 2 0 ∷ (Const 0 (pos 0) ∷ (GlobalSet 3 0  -- let turn = 0; let score = 0
    ∷ (Const 0 (pos 1) ∷ (Const 1 (pos 3) ∷ (HandlerOf 2 9 ∷ (Ask 0 5 (0 ∷ (1 ∷ (2 ∷ [])))  -- input.onButtonPressed(Button.A, ..)
    ∷ (Const 0 (pos 2) ∷ (Const 1 (pos 3) ∷ (HandlerOf 2 10 ∷ (Ask 0 5 (0 ∷ (1 ∷ (2 ∷ [])))  -- input.onButtonPressed(Button.B, ..)
    ∷ (HandlerOf 0 11 ∷ (HandlerOf 0 13 ∷ (Ask 0 4 (0 ∷ [])  -- basic.forever(..)
    ∷ off 0))))))))))))))))))))))))

-- what `forever` starts: the handler, 20 ms, and again
abbrev pub round_code : Function
round_code = w.function 0 0 1 0 (Call 0 11 [] ∷ (Const 0 (pos 20) ∷ (Ask 0 2 (0 ∷ []) ∷ (Jump 0 ∷ []))))

abbrev pub game_code : List Function
game_code = maker_code ∷ (move_code ∷ (left_code ∷ (right_code ∷ (fall_code ∷ (main_code ∷ (round_code ∷ []))))))
