-- Small programs whose transcripts are known. Each has its text before it.
use Rattle.std.specs.Prelude.{ℕ, pos, true, false, List, [], ◌∷◌, ◌++◌, map, reverse, replicate, Some, None}
use Rattle.sts_syntax.specs.declared.operators.TheConstants.{NEGATE, NOT, UNEQUAL, AT_MOST, ADD, MULTIPLY, DIVIDE, REMAINDER}
use Rattle.sts_syntax.specs.declared.typed.Spot.TheVariants.{Local}
use Rattle.sts_syntax.specs.declared.typed.Callee.TheVariants as c
use Rattle.sts_syntax.specs.declared.board_calls.BoardCall.TheVariants as b
use Rattle.sts_syntax.specs.Types as t
use Rattle.sts_syntax.specs.TypedTrees as e
use Rattle.sts_syntax.specs.TypedTrees.{TypedTree, TypedStatement, TypedRoutine, ClassEntry, TypedProgram}
use Rattle.board_world.specs.Observations.{ByteList}
use Rattle.board_world.specs.Board.{Down, Up, Entry, transcript_of, stats_of}
use Rattle.sts_syntax.specs.Weights.{weight}
use Rattle.sts_meaning.specs.Steps.{source_run}
use Rattle.sts_meaning.specs.Forms.{args, num, param, local, global, binary, equal, board, call, handler, does, says, pauses, let_local, let_global, returns, function, plain, program, simple, class, numbers_type, list, item, counts_to}

-- what is written in n counted steps of a program without texts, on a script that ends at a moment
abbrev pub written_on : ℕ → TypedProgram → ℕ → List Entry → ByteList
written_on n P until script = transcript_of (source_run P [] until script n).board

-- the same where the script has no entry and ends at 1000 ms
abbrev pub written : ℕ → TypedProgram → ByteList
written n P = written_on n P 1000 []

-- button A is down from one moment to another
abbrev pub pressed : ℕ → ℕ → List Entry
pressed from until = record { at = from; act = Down 1 } ∷ record { at = until; act = Up 1 } ∷ []

-- what is written then, and the line of statistics behind it
abbrev pub counted : ℕ → TypedProgram → ByteList
counted n P = (let end = (source_run P [] 1000 [] n).board in transcript_of end ++ stats_of end)

-- serial.writeNumber(7 / 0); serial.writeNumber(-7 % 2)
abbrev pub division : TypedProgram
division =
    simple (plain (says (binary DIVIDE (num 7) (num 0))
    ∷ says (binary REMAINDER (e.Unary t.Number NEGATE (num 7)) (num 2)) ∷ []) ∷ [])

-- basic.forever(function () { led.toggle(0, 0) })
abbrev pub blinking : TypedProgram
blinking =
    simple (plain (does (board b.Toggle (num 0 ∷ num 0 ∷ [])) ∷ [])
    ∷ plain (does (board b.Forever (handler 0 ∷ [])) ∷ []) ∷ [])

-- function deep(n: number): number { let k = n * 3; basic.pause(5); return k }
abbrev pub deep : TypedRoutine
deep =
    function (t.Number ∷ []) (t.Number ∷ []) t.Number
    (let_local 0 (binary MULTIPLY (param t.Number 0) (num 3)) ∷ pauses 5 ∷ returns (local t.Number 0) ∷ [])

-- function mid(n: number): number { let m = n + 1; let r = deep(m); return m * 100 + r }
abbrev pub mid : TypedRoutine
mid =
    function (t.Number ∷ []) (t.Number ∷ t.Number ∷ []) t.Number
    (let_local 0 (binary ADD (param t.Number 0) (num 1)) ∷ let_local 1 (call t.Number 0 (local t.Number 0 ∷ []))
    ∷ returns (binary ADD (binary MULTIPLY (local t.Number 0) (num 100)) (local t.Number 1)) ∷ [])

-- let a = 11; let b = 22; let c = 33; let d = 44; serial.writeNumber(a + b + c + d)
abbrev pub four_names : TypedRoutine
four_names =
    function [] (t.Number ∷ t.Number ∷ t.Number ∷ t.Number ∷ []) t.Nothing
    (let_local 0 (num 11) ∷ let_local 1 (num 22) ∷ let_local 2 (num 33) ∷ let_local 3 (num 44)
    ∷ says (binary ADD (binary ADD (binary ADD (local t.Number 0) (local t.Number 1)) (local t.Number 2))
    (local t.Number 3)) ∷ [])

abbrev pub listens : ℕ → ℕ → ℕ → TypedStatement
listens source value f = does (board b.OnEvent (num source ∷ num value ∷ handler f ∷ []))

abbrev pub raises : ℕ → ℕ → TypedStatement
raises source value = does (board b.RaiseEvent (num source ∷ num value ∷ []))

abbrev pub raises_now : ℕ → ℕ → TypedStatement
raises_now source value = does (board b.RaiseNow (num source ∷ num value ∷ []))

-- two handlers of one event, of which the first calls `mid(6)` and pauses in it
abbrev pub deep_handlers : TypedProgram
deep_handlers =
    simple (deep ∷ mid ∷ plain (says (call t.Number 1 (num 6 ∷ [])) ∷ []) ∷ four_names
    ∷ plain (listens 50 1 2 ∷ listens 50 1 3 ∷ raises 50 1 ∷ []) ∷ [])

-- control.onEvent(50, 1, function () { basic.pause(5); serial.writeNumber(1) }); control.onEvent(50, 1, function () { serial.writeNumber(2) }); control.raiseEvent(50, 1)
abbrev pub two_handlers : TypedProgram
two_handlers =
    simple (plain (pauses 5 ∷ says (num 1) ∷ []) ∷ plain (says (num 2) ∷ [])
    ∷ plain (listens 50 1 0 ∷ listens 50 1 1 ∷ raises 50 1 ∷ []) ∷ [])

-- function f(n: number): void { serial.writeNumber(n); f(n + 1) }, called with this number
abbrev pub endless : ℕ → TypedProgram
endless n =
    simple (function (t.Number ∷ []) [] t.Nothing
    (says (param t.Number 0) ∷ does (call t.Nothing 0 (binary ADD (param t.Number 0) (num 1) ∷ [])) ∷ [])
    ∷ plain (does (call t.Nothing 0 (num n ∷ [])) ∷ []) ∷ [])

-- function w(): void { control.waitForEvent(60, 1) }; for (let i = 0; i < n; i++) { control.inBackground(w) }
-- control.onEvent(61, 1, function () { serial.writeNumber(7) }); control.raiseEvent(61, 1)
abbrev pub seats : ℕ → TypedProgram
seats n =
    simple (plain (does (board b.WaitForEvent (num 60 ∷ num 1 ∷ [])) ∷ []) ∷ plain (says (num 7) ∷ [])
    ∷ function [] (t.Number ∷ []) t.Nothing
    (counts_to n (does (board b.InBackground (handler 0 ∷ [])) ∷ []) ∷ listens 61 1 1 ∷ raises 61 1 ∷ []) ∷ [])

-- let a = [1, 2, 3]; serial.writeNumber(a[a.length])
abbrev pub past_the_end : TypedProgram
past_the_end =
    (let a = global numbers_type 0 in
    program [] (numbers_type ∷ [])
    (plain (let_global 0 (list (num 1 ∷ num 2 ∷ num 3 ∷ [])) ∷ says (item a (e.Length t.Number a)) ∷ []) ∷ []))

-- class P { x: number = 4 }
abbrev pub point : ClassEntry
point = class None (t.Number ∷ []) [] 0

abbrev pub make_point : TypedRoutine
make_point =
    function (t.Object 0 ∷ []) [] (t.Object 0)
    (does (e.Set t.Number None (e.Field t.Number (e.This (t.Object 0)) 0) (num 4)) ∷ [])

-- let p: P = null; serial.writeNumber(p.x)
abbrev pub through_null : TypedProgram
through_null =
    program (point ∷ []) (t.Object 0 ∷ []) (make_point
    ∷ plain (let_global 0 (e.Null t.NullType) ∷ says (e.Field t.Number (global (t.Object 0) 0) 0) ∷ []) ∷ [])

-- control.onEvent(80, 1, function () { serial.writeNumber(1); basic.pause(5); serial.writeNumber(2) })
-- function go(): void { let k = 9; control.raiseNow(80, 1); serial.writeNumber(k) }; go(), so many times
abbrev pub at_once : ℕ → TypedProgram
at_once n =
    simple (function [] (t.Number ∷ []) t.Nothing (let_local 0 (num 9) ∷ raises_now 80 1 ∷ says (local t.Number 0) ∷ [])
    ∷ plain (says (num 1) ∷ pauses 5 ∷ says (num 2) ∷ [])
    ∷ plain (listens 80 1 1 ∷ replicate n (does (call t.Nothing 0 []))) ∷ [])

-- control.onEventFlags(81, 1, function () { let .., so many names; control.raiseNow(81, 1) }, EventFlags.Reentrant); control.raiseNow(81, 1)
abbrev pub endless_raisers : ℕ → TypedProgram
endless_raisers n =
    simple (function [] (replicate n t.Number) t.Nothing (raises_now 81 1 ∷ [])
    ∷ plain (does (board b.OnEventFlags (num 81 ∷ num 1 ∷ handler 0 ∷ num 8 ∷ [])) ∷ raises_now 81 1 ∷ []) ∷ [])

-- control.onEventFlags(50, 0, function () { basic.pause(5); serial.writeNumber(control.eventValue()) }, mode)
-- for (let i = 1; i <= n; i++) { control.raiseEvent(50, i) }
abbrev pub busy : ℕ → ℕ → TypedProgram
busy mode n =
    simple (plain (pauses 5 ∷ says (board b.EventValue []) ∷ [])
    ∷ function [] (t.Number ∷ []) t.Nothing
    (does (board b.OnEventFlags (num 50 ∷ num 0 ∷ handler 0 ∷ num mode ∷ []))
    ∷ e.For (e.written (let_local 0 (num 1))) (Some (e.Binary t.Boolean AT_MOST (local t.Number 0) (num n)))
    (Some (e.Bump t.Number (local t.Number 0) (pos 1) true))
    (does (board b.RaiseEvent (num 50 ∷ local t.Number 0 ∷ []))) ∷ []) ∷ [])

-- let n = 0; function f(): void { n++; if (n == 136) { serial.writeNumber(n) } f() }; { let a; let b }; f()
-- The frame of f has 7 words and that of main 8, so the depth is 960 in the 136th call.
abbrev pub deepest : TypedProgram
deepest =
    (let n = global t.Number 0 in
    program [] (t.Number ∷ [])
    (plain (does (e.Bump t.Number n (pos 1) true) ∷ e.IfOnly (equal n (num 136)) (says n)
    ∷ does (call t.Nothing 0 []) ∷ [])
    ∷ function [] (t.Number ∷ t.Number ∷ []) t.Nothing
    (e.Block (e.also (e.Let false (record { name = Local 0; first = None }
    ∷ (record { name = Local 1; first = None } ∷ []))) e.done) ∷ does (call t.Nothing 0 []) ∷ []) ∷ []))

-- let n = 0; while (true) { ..; n++; if (n == last) { serial.writeNumber(n) } }
abbrev pub filling : List ClassEntry → List TypedRoutine → TypedTree → ℕ → TypedProgram
filling classes functions made last =
    (let n = global t.Number 0 in
    program classes (t.Number ∷ [])
    (functions ++ plain (e.While (e.Truth t.Boolean true) (e.Block (e.also (does made)
    (e.also (does (e.Bump t.Number n (pos 1) true)) (e.also (e.IfOnly (equal n (num last)) (says n)) e.done)))) ∷ [])
    ∷ []))

-- objects of 31 words: 90 of them take 2790 of the 2816 words of the arena
abbrev pub many_objects : TypedProgram
many_objects =
    filling (class None (replicate 30 t.Number) [] 0 ∷ []) (function (t.Object 0 ∷ []) [] (t.Object 0) [] ∷ [])
    (e.Make (t.Object 0) 0 e.none) 90

-- arrays of 64 words: 44 of them take all 2816
abbrev pub many_arrays : TypedProgram
many_arrays = filling [] [] (list (replicate 60 (num 0))) 44

-- let a = [1]; a.push(2); a has a room of 4 then, and takes 5 and 4 words: 312 of them take 2808
abbrev pub many_growths : TypedProgram
many_growths = filling [] [] (e.Call t.Nothing c.Push (args (list (num 1 ∷ []) ∷ num 2 ∷ []))) 312

-- a text by its number
abbrev pub text : ℕ → TypedTree
text n = e.Text t.Text n

-- what is written in n counted steps of a program with these texts
abbrev pub written_with : ℕ → List ByteList → TypedProgram → ByteList
written_with n texts P = transcript_of (source_run P texts 1000 [] n).board

-- serial.writeString("hi"); if ("hi" == "ho") { serial.writeNumber(1) }; if ("hi" != null) { serial.writeNumber(2) }; let s: string; serial.writeString(s)
abbrev pub texts : TypedProgram
texts =
    program [] (t.Text ∷ [])
    (plain (does (board b.WriteString (text 0 ∷ [])) ∷ e.IfOnly (equal (text 0) (text 1)) (says (num 1))
    ∷ e.IfOnly (e.Binary t.Boolean UNEQUAL (text 0) (e.Null t.NullType)) (says (num 2))
    ∷ does (board b.WriteString (global t.Text 0 ∷ [])) ∷ []) ∷ [])

-- control.onEvent(9, 0, function () { serial.writeNumber(input.runningTime()) }); basic.clearScreen(); led.plot(1, 0); led.unplot(1, 0)
-- basic.pause(7); control.raiseEvent(9, 5); basic.pause(1); if (!input.buttonIsPressed(1)) { control.panic(300) }
abbrev pub questions : TypedProgram
questions =
    simple (plain (says (board b.RunningTime []) ∷ [])
    ∷ plain (listens 9 0 0 ∷ does (board b.ClearScreen []) ∷ does (board b.Plot (num 1 ∷ num 0 ∷ []))
    ∷ does (board b.Unplot (num 1 ∷ num 0 ∷ []))
    ∷ pauses 7 ∷ raises 9 5 ∷ pauses 1 ∷ e.IfOnly (e.Unary t.Boolean NOT (board b.ButtonIsPressed (num 1 ∷ [])))
    (does (board b.Panic (num 300 ∷ []))) ∷ []) ∷ [])

-- input.onButtonPressed(1, function () { serial.writeNumber(1) })
abbrev pub presses : TypedProgram
presses = simple (plain (says (num 1) ∷ []) ∷ plain (does (board b.OnButtonPressed (num 1 ∷ handler 0 ∷ [])) ∷ []) ∷ [])

-- function worker(): void { for (let r = 0; r < 10; r++) { x = f(x); basic.pause(1) }; done += 1; if (done == 5) { serial.writeNumber(x) } }
abbrev pub big_worker : TypedProgram
big_worker =
    (let x = global t.Number 0 in let done = global t.Number 1 in
    program [] (t.Number ∷ t.Number ∷ [])
    (function [] (t.Number ∷ []) t.Nothing
    (counts_to 10 (does (e.Set t.Number None x (call t.Number 1 (x ∷ []))) ∷ pauses 1 ∷ [])
    ∷ does (e.Set t.Number (Some ADD) done (num 1)) ∷ e.IfOnly (equal done (num 5))
    (e.Block (e.also (says x) e.done)) ∷ []) ∷ []))

-- `blinking`, behind seven functions of a library
abbrev pub library_and_blinking : TypedProgram
library_and_blinking =
    program (point ∷ []) [] (replicate 7 (plain []) ++ (plain (does (board b.Toggle (num 0 ∷ num 0 ∷ [])) ∷ [])
    ∷ plain (does (board b.Forever (handler 7 ∷ [])) ∷ []) ∷ []))

-- the weights of a program's functions, the last one's first
abbrev pub weights : TypedProgram → List ℕ
weights P = reverse (map weight P.functions)
